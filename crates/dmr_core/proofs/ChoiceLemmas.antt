-- Choices between lists of acts.
use Rattle.std.proofs.Common.{◌≡◌, List, [], Bool, true, false, refl}
use Rattle.std.specs.Prelude.{Option, Some, None, if◌then◌else◌, not}
use Rattle.std.specs.Option.{option_map_or}
use Rattle.dmr_pdu.specs.declared.slots.Slot.{Slot}
use Rattle.dmr_plan.specs.declared.settings.Settings.{Settings}
use Rattle.dmr_pool.specs.Free.{all_slots, lowest_free_by}
use Rattle.dmr_calls.specs.declared.call.Call.{Call}
use Rattle.dmr_core.specs.declared.act.Act.{Act}
use Rattle.dmr_core.specs.declared.reply.Reply.TheVariants as reply
use Rattle.dmr_core.specs.Facts.{Facts}
use Rattle.dmr_core.specs.Words.{is_free, lowest_free}
use Rattle.dmr_core.specs.Rules.{acts_and_done, reply_alone}
use Rattle.dmr_core.proofs.ListLemmas.{find_passes}

-- a statement about both branches holds of the choice
pub by_if : (P : List Act → Type 0) (b : Bool) (x y : List Act) → P x → P y → P (if b then x else y)
by_if P true x y p q = p
by_if P false x y p q = q

pub by_option : {A : Type 0} (P : List Act → Type 0) (f : A → List Act) (o : Option A) (d : List Act)
    → ((v : A) → o ≡ Some v → P (f v)) → P d → P (option_map_or f o d)
by_option P f None d p q = q
by_option P f (Some v) d p q = p v refl

pub lowest_is_free : (plan : Settings) (now : Facts) (slot : Slot) → lowest_free plan now ≡ Some slot → is_free plan now slot ≡ true
unfolding lowest_free_by
lowest_is_free plan now slot h = find_passes (is_free plan now) all_slots slot h

-- the acts of dropping a radio: none if it is not registered or there is no room
pub by_drop : (P : List Act → Type 0) (known room : Bool) (acts : List Act) → P [] → (room ≡ true → P acts)
    → P (if not known then reply_alone reply.NotRegistered else if not room then reply_alone reply.Busy else acts_and_done acts).list
by_drop P true true acts none some = some refl
by_drop P true false acts none some = none
by_drop P false room acts none some = none

-- the acts of ending a call: none if there is no such carrier, or no call
pub by_end : (P : List Act → Type 0) (known : Bool) (f : Call → List Act) (o : Option Call) → P []
    → ((call : Call) → o ≡ Some call → P (f call))
    → P (if not known then reply_alone reply.NoCarrier else option_map_or (λ (call : Call). acts_and_done (f call)) o
    (reply_alone reply.NoCall)).list
by_end P true f None none some = none
by_end P true f (Some call) none some = some call refl
by_end P false f o none some = none
