use Rattle.std.proofs.Common.{◌≡◌, rules, sym, false}
use Rattle.std.specs.Prelude.{◌==◌, ◌&&◌}
use Rattle.std.specs.List.{list_any}
use Rattle.dmr_calls.specs.declared.line.Line.{Line}
use Rattle.dmr_calls.proofs.AnyLemmas.{none_passes_both}
use Rattle.dmr_calls.proofs.calls.Calls.own_group_line.Goals as goal

pub returns-else-has : goal.returns-else-has
returns-else-has c =
    let none : list_any (λ (l : Line). l.source == c.args.source) c.self.inside.lines ≡ false = search rules in
    rw (← c.self.view_is, c.if-has.false)
    (sym (none_passes_both (λ (l : Line). l.source == c.args.source)
    (λ l. l.group && (l.target == c.args.group)) c.self.inside.lines none))
