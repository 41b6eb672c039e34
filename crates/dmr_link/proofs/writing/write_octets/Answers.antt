use Rattle.std.proofs.Common.{arith, refl, sym, drop, ◌≤◌, length}
use Rattle.std.proofs.lemmas.Bool.{eqb-true}
use Rattle.std.proofs.lemmas.List.{length-drop, nil_from_length, take_rest}
use Rattle.dmr_wire.specs.Answers.{WriteInterrupted, WriteBlocked, WriteFailed}
use Rattle.dmr_link.proofs.WritesFollow.{putting_none, putting_on, putting_again, writes_part, fault_failed, fault_blocked, fault_impatient}
use Rattle.dmr_link.proofs.WritesFollow.{writes_nothing, writes_empty, writes_end, some_octets}
use Rattle.dmr_link.proofs.writing.write_octets.Goals as goal

pub returns-then-is_empty : goal.returns-then-is_empty
returns-then-is_empty g c = writes_empty _ c.args.octets.now (nil_from_length c.args.octets.now (eqb-true _ 0 (sym c.if-is_empty.ensures)))

pub loop-from-init : goal.loop-from-init
loop-from-init g c = record { putting = putting_none _; within = omega arith; patient = omega arith; whole = λ h. refl }

pub returns-then-count-eq0 : goal.returns-then-count-eq0
returns-then-count-eq0 g c =
    writes_nothing _ _ _ c.args.octets.now _ c.loop-from.from c.in-Octets.count c.loop-from.row c.loop-from.invariant.putting
    c.in-Octets.ensures.reported c.loop-from-test.true c.if-count-eq0.true

pub loop-from-preserved-in-Octets : goal.loop-from-preserved-in-Octets
loop-from-preserved-in-Octets g c = record {
  putting = putting_on _ _ _ c.args.octets.now _ c.loop-from.from c.in-Octets.count _
      (take_rest c.args.octets.now c.loop-from.from) c.loop-from.invariant.putting c.in-Octets.ensures.reported
      (omega arith) c.in-Octets.ensures.within;
  within = let few : c.in-Octets.count ≤ length (drop c.loop-from.from c.args.octets.now) = rw
      (take_rest c.args.octets.now c.loop-from.from) at c.in-Octets.ensures.within in
      omega (arith, few, length-drop c.loop-from.from c.args.octets.now);
  patient = omega arith;
  whole = λ h. refl;
}

pub returns-then-row-eq-MOST_INTERRUPTIONS : goal.returns-then-row-eq-MOST_INTERRUPTIONS
returns-then-row-eq-MOST_INTERRUPTIONS g c =
    writes_part _ _ _ c.args.octets.now c.loop-from.from c.loop-from.row WriteInterrupted c.loop-from.invariant.putting
    c.in-Interrupted.ensures.reported c.loop-from-test.true (fault_impatient c.loop-from.row c.if-row-eq-MOST_INTERRUPTIONS.true)

pub loop-from-preserved : goal.loop-from-preserved
loop-from-preserved g c = record {
  putting = putting_again _ _ _ _ c.loop-from.row c.loop-from.invariant.putting c.in-Interrupted.ensures.reported (omega arith);
  within = c.loop-from.invariant.within;
  patient = omega arith;
  whole = λ h. absurd (omega arith);
}

pub returns-in-Block : goal.returns-in-Block
returns-in-Block g c =
    writes_part _ _ _ c.args.octets.now c.loop-from.from c.loop-from.row WriteBlocked c.loop-from.invariant.putting
    c.in-Block.ensures.reported c.loop-from-test.true (fault_blocked c.loop-from.row)

pub returns-in-Fault : goal.returns-in-Fault
returns-in-Fault g c =
    writes_part _ _ _ c.args.octets.now c.loop-from.from c.loop-from.row WriteFailed c.loop-from.invariant.putting
    c.in-Fault.ensures.reported c.loop-from-test.true (fault_failed c.loop-from.row)

pub returns : goal.returns
returns g c =
    writes_end _ _ c.args.octets.now c.loop-from.from c.loop-from.row c.loop-from.invariant.putting c.loop-from-test.false
    (c.loop-from.invariant.whole c.loop-from-test.false) (some_octets _ c.if-is_empty.ensures)
