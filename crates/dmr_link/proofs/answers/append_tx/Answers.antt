use Rattle.std.proofs.Common.{arith, ◌≡◌, ℕ, ◌+◌, ap, ◌∙◌}
use Rattle.std.specs.Prelude.{is_some}
use Rattle.arrayvec.specs.ArrayVec.{array_vec_len}
use Rattle.dmr_link.specs.Room.{length_of_tx}
use Rattle.dmr_link.proofs.RoomLemmas.{tx_length}
use Rattle.dmr_link.proofs.answers.append_tx.Goals as goal

pub returns-in-Some-clause-few : goal.returns-in-Some-clause-few
returns-in-Some-clause-few c =
    let len : array_vec_len c.append_frame.new.answer ≡ array_vec_len c.args.answer.now + length_of_tx (is_some c.args.numbering.now) =
    c.append_frame.ensures.len ∙ ap (λ (n : ℕ). array_vec_len c.args.answer.now + n) (tx_length c.args.numbering.now _ _) in
    omega (arith, len)
