-- Events of carriers that are not up.
use Rattle.std.specs.Prelude.{◌≡◌, false}
use Rattle.dmr_plan.specs.declared.settings.Settings.{Settings}
use Rattle.dmr_core.specs.declared.event.Event.{Event}
use Rattle.dmr_core.specs.declared.event.Event.TheVariants.{Up, Lost, Heard, Noise, Active, Poll}
use Rattle.dmr_core.specs.declared.event.Event.TheVariants.{Tick, Say}
use Rattle.dmr_core.specs.Facts.{Facts, has_carrier}
use Rattle.dmr_core.specs.Words.{is_up}

-- the event is of a carrier that is not up, or it is the Up of a carrier that the plan does not have
abbrev pub IsOfNoCarrier : Settings → Facts → Event → Type 0
IsOfNoCarrier plan now (Up c) = has_carrier plan c ≡ false
IsOfNoCarrier plan now (Lost c) = is_up now c ≡ false
IsOfNoCarrier plan now (Heard slot pdu) = is_up now slot.carrier ≡ false
IsOfNoCarrier plan now (Noise slot) = is_up now slot.carrier ≡ false
IsOfNoCarrier plan now (Active slot) = is_up now slot.carrier ≡ false
IsOfNoCarrier plan now (Poll c) = is_up now c ≡ false
IsOfNoCarrier plan now Tick = ⊥
IsOfNoCarrier plan now (Say command) = ⊥
