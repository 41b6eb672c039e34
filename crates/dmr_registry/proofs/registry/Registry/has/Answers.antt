use Rattle.std.proofs.Common.{◌≡◌, rules, sym, ◌∙◌}
use Rattle.dmr_registry.specs.Radios.{is_registered_in}
use Rattle.dmr_registry.proofs.HeldLemmas.{held_contains, contains_held}
use Rattle.dmr_registry.proofs.registry.Registry.has.Goals as goal

pub returns-clause-member : goal.returns-clause-member
returns-clause-member c =
    let held : c.has.result ≡ is_registered_in c.args.self.now c.args.radio = search rules in
    (λ told. held_contains c.args.self.now c.args.radio (sym held ∙ told), λ there. held ∙ contains_held c.args.self.now c.args.radio there)
