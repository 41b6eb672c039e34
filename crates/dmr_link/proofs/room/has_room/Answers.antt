use Rattle.std.proofs.Common.{◌≡◌, ◌-◌, ◌/◌, ◌≤◌, true, vec_len, vec_capacity, arith, sym, ◌∙◌}
use Rattle.std.proofs.lemmas.Bool.{leb-true}
use Rattle.dmr_link.specs.Zeros.{is_up_between, zeros_in}
use Rattle.dmr_link.proofs.PollsEndInZero.{room_by_zeros}
use Rattle.dmr_link.proofs.room.has_room.Goals as goal

pub returns-then-is_up_between-clause-fits : goal.returns-then-is_up_between-clause-fits
returns-then-is_up_between-clause-fits c = λ who numbered few.
    let up : is_up_between c.args.connection.now ≡ true = cc in
    let text = c.args.text.now in
    let octets = c.args.octets.now in
    let spare : c.capacity.result - c.len.result ≡ vec_capacity text - vec_len text = cc in
    let within : vec_len text ≤ vec_capacity text = omega arith in
    let enough : zeros_in octets ≤ (c.capacity.result - c.len.result) / 60 =
    leb-true (zeros_in octets) ((c.capacity.result - c.len.result) / 60) (sym c.has_few_zeros.ensures ∙ few) in
    let zeros : zeros_in octets ≤ (vec_capacity text - vec_len text) / 60 = rw (← spare) enough in
    room_by_zeros who numbered c.args.connection.now octets (vec_len text) (vec_capacity text) within up zeros
