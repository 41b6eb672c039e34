use Rattle.std.proofs.Common.{◌≡◌, ℕ, List, [], length, replicate, refl, ap, ◌∙◌, rules}
use Rattle.dmr_pdu.specs.Slots.{carriers_of_site}
use Rattle.dmr_link.proofs.ListLemmas.{map_to_one}
use Rattle.dmr_link.proofs.outputs.Outputs.clear.Goals as goal

pub returns : goal.returns
returns c =
    let none : List ℕ = [] in
    let count : length c.self-inside.inside.0.0 ≡ carriers_of_site = search rules in
    let texts : c.clear_texts.new.texts ≡ replicate carriers_of_site none =
    c.clear_texts.ensures ∙ map_to_one none _ ∙ ap (λ (n : ℕ). replicate n none) count in
    rw (texts, c.clear.ensures.items) refl
