-- What `open` and `cut` do to a link, of a carrier or of the operators.
use Rattle.std.specs.Prelude.{◌≡◌, Bool, true, false, not, List, ◌∷◌, Result, Ok, IfOk, IfErr}
use Rattle.dmr_link.specs.declared.desk.Desk.{Ghosts as Desk}
use Rattle.dmr_link.specs.declared.desk.TermOver.{TermOver}
use Rattle.dmr_link.specs.declared.ended.Ended.TheVariants.{Closed}
use Rattle.dmr_link.specs.declared.link_state.LinkState.{LinkState}
use Rattle.dmr_link.specs.Closing.{ended_of}
use Rattle.dmr_link.specs.Desks.{HasRefusedWith, KeepsDesk}
use Rattle.dmr_link.specs.LinkSteps.{is_live}
use Rattle.dmr_link.specs.Sessions.{Session, new_session, Cuts, HasPast, IsOver}

-- a call of `open`, with this result: a connection begins, unless the link is live; nothing has changed then
pub record Opens (old new : LinkState) (result : Bool) : Type 0 where
  pub answer : result ≡ not (is_live old)
  pub no : result ≡ false → new ≡ old
  pub yes : result ≡ true → (past : List Session) → HasPast old past → HasPast new (new_session ∷ past)

-- a call of `cut`, with this result. A link that is not live does not change. If the term is over, the desk refused an
-- event, which is still pending
pub record CutsOff {D : Type 0} (its : Desk D) (old new : LinkState) (desk later : D)
    (result : Result (Unit {0}) TermOver) : Type 0 where
  pub keeps : KeepsDesk its desk later
  pub cuts : is_live old ≡ true → Cuts old new (its.calls desk) (its.calls later)
  pub done : is_live old ≡ true → IfOk result (λ done. IsOver new × (ended_of new.closing ≡ Closed))
  pub over : IfErr result (λ over. (is_live new ≡ true) × HasRefusedWith its over later)
  pub none : is_live old ≡ false → (result ≡ Ok tt) × (new ≡ old) × (later ≡ desk)
