-- A desk before and after a call of a link. `Ghosts` of a trait is what an implementation of it shows to contracts.
use Rattle.std.specs.Prelude.{◌≡◌}
use Rattle.dmr_core.specs.declared.event.Event.{Event}
use Rattle.dmr_link.specs.declared.desk.Desk.{Ghosts as Desk}
use Rattle.dmr_link.specs.declared.desk.TermOver.{TermOver}

-- it is still the desk of the same actor, and was not asked whether the term is over
pub record KeepsDesk {D : Type 0} (its : Desk D) (old new : D) : Type 0 where
  pub actor : its.actor new ≡ its.actor old
  pub questions : its.questions new ≡ its.questions old

-- it refused an event with this reason, and is as it then was
abbrev pub HasRefusedWith : {D : Type 0} → Desk D → TermOver → D → Type 0
HasRefusedWith {D = D} its over desk =
    (before : D) × (event : Event) × its.refuses before event over desk

-- it refused an event, and is as it then was
abbrev pub HasRefused : {D : Type 0} → Desk D → D → Type 0
HasRefused {D = D} its desk =
    (before : D) × (event : Event) × (over : TermOver) × its.refuses before event over desk
