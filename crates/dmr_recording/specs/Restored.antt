-- The events that register radios with a site that has just started.
use Rattle.std.specs.Prelude.{ℕ, ◌^◌, List, [], ◌∷◌, ◌++◌, flat_map}
use Rattle.std.specs.Option.{option_map_or}
use Rattle.dmr_pdu.specs.declared.pdu.Pdu.{Pdu}
use Rattle.dmr_pdu.specs.declared.pdu.Pdu.TheVariants.{Random}
use Rattle.dmr_pdu.specs.Kinds.{registration}
use Rattle.dmr_plan.specs.declared.settings.Settings.{Settings}
use Rattle.dmr_core.specs.declared.event.Event.{Event}
use Rattle.dmr_core.specs.declared.event.Event.TheVariants.{Up, Lost, Heard, Poll}

-- the options of a request that registers: the bit that separates it from a request to leave is 1
abbrev pub options_to_stay : Settings → ℕ
options_to_stay plan = option_map_or (λ bit. 2 ^ bit) plan.system.leave_bit 0

-- the request of a radio to be registered
abbrev pub registration_of : Settings → ℕ → Pdu
registration_of plan radio = Random (options_to_stay plan) 0 registration plan.system.regi radio

-- a radio registers on the control slot, and its acknowledgement is sent
abbrev pub registers : Settings → ℕ → List Event
registers plan radio =
    Heard (record { carrier = plan.lists.control; slot = 0 }) (registration_of plan radio)
    ∷ Poll plan.lists.control ∷ []

-- a session of the control carrier in which these radios register, in their order
abbrev pub session_of : Settings → List ℕ → List Event
session_of plan radios =
    Up plan.lists.control ∷ flat_map (registers plan) radios ++ Lost plan.lists.control ∷ []
