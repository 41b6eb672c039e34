-- Which events are answered with the end of a call.
use Rattle.std.proofs.Common.{◌≡◌, ℕ, List, [], ◌∷◌, ◌++◌, Bool, true, false, refl, sym, ◌∙◌}
use Rattle.std.specs.Prelude.{◌||◌, if◌then◌else◌}
use Rattle.std.specs.List.{list_any}
use Rattle.std.proofs.lemmas.Bool.{false≢true}
use Rattle.std.proofs.lemmas.List.Folds.{list_any-append}
use Rattle.dmr_pdu.specs.declared.pdu.Pdu.{Pdu}
use Rattle.dmr_pdu.specs.declared.slots.Slot.{Slot}
use Rattle.dmr_plan.specs.declared.settings.Settings.{Settings}
use Rattle.dmr_pool.specs.Free.{is_control}
use Rattle.dmr_core.specs.declared.command.Command.{Command}
use Rattle.dmr_core.specs.declared.command.Command.TheVariants as command
use Rattle.dmr_core.specs.declared.event.Event.{Event}
use Rattle.dmr_core.specs.declared.event.Event.TheVariants.{Heard, Poll, Tick, Say}
use Rattle.dmr_core.specs.declared.act.Act.TheVariants.{Fill}
use Rattle.dmr_core.specs.Facts.{Facts}
use Rattle.dmr_core.specs.Rules.{next_fill}
use Rattle.dmr_core.specs.Rules.{acts_for_outbox, acts_for_slot, acts_of, answer_to_command}
use Rattle.dmr_core.specs.Words.{is_up, outbox}
use Rattle.dmr_keeper.specs.Laws.{MayEndCalls, is_end}

-- what a carrier is sent ends no call
from_outbox : (plan : Settings) (facts : Facts) (slot : Slot) (pdus : List Pdu) →
    list_any is_end (acts_for_outbox plan facts slot pdus) ≡ false
from_outbox plan facts slot [] = either (is_control plan.lists slot)
  where
    either : (b : Bool) → list_any is_end (if b then Fill slot (next_fill plan facts) ∷ [] else []) ≡ false
    either true = refl
    either false = refl
from_outbox plan facts slot (pdu ∷ pdus) = refl

to_slot : (plan : Settings) (facts : Facts) (slot : Slot) → list_any is_end (acts_for_slot plan facts slot) ≡ false
unfolding acts_for_slot
to_slot plan facts slot = from_outbox plan facts slot (outbox facts slot)

neither : (a b : Bool) → a ≡ false → b ≡ false → (a || b) ≡ false
neither true b p q = p
neither false b p q = q

polled : (plan : Settings) (facts : Facts) (carrier : ℕ) → list_any is_end (acts_of plan facts (Poll carrier)) ≡ false
polled plan facts carrier = either (is_up facts carrier)
  where
    both : (list_any is_end (acts_for_slot plan facts (record { carrier = carrier; slot = 0 })) || list_any is_end
        (acts_for_slot plan facts (record { carrier = carrier; slot = 1 }))) ≡ false
    both = neither _ _ (to_slot plan facts (record { carrier = carrier; slot = 0 }))
        (to_slot plan facts (record { carrier = carrier; slot = 1 }))

    either : (b : Bool) → list_any is_end
        (if b then acts_for_slot plan facts (record { carrier = carrier; slot = 0 }) ++ acts_for_slot plan facts
        (record { carrier = carrier; slot = 1 }) else []) ≡ false
    either true = list_any-append is_end (acts_for_slot plan facts (record { carrier = carrier; slot = 0 }))
        (acts_for_slot plan facts (record { carrier = carrier; slot = 1 })) ∙ both
    either false = refl

-- the last case is one for each of the other commands: it may end calls, or its answer has no such act
by_command : (plan : Settings) (facts : Facts) (c : Command) → list_any is_end (acts_of plan facts (Say c)) ≡ true → MayEndCalls (Say c)
unfolding answer_to_command
by_command plan facts command.Stay has = cc
by_command plan facts _ has = cc

pub ends_by : (plan : Settings) (facts : Facts) (event : Event) → list_any is_end (acts_of plan facts event) ≡ true → MayEndCalls event
ends_by plan facts Tick has = tt
ends_by plan facts (Heard slot pdu) has = tt
ends_by plan facts (Poll carrier) has = absurd (false≢true (sym (polled plan facts carrier) ∙ has))
ends_by plan facts (Say c) has = by_command plan facts c has
ends_by plan facts _ has = absurd (false≢true has)
