-- A wait with a connection, and what it decides.
use Rattle.std.proofs.Common.{◌≡◌, ◌≤◌, ◌-◌, ℕ, min, Bool, Option, Some, None, arith, ap, subst, sym, ◌∙◌}
use Rattle.std.specs.Option.{option_or}
use Rattle.dmr_wire.specs.declared.port.Waited.{Waited}
use Rattle.dmr_wire.specs.declared.port.Waited.TheVariants.{Again, Silent}
use Rattle.dmr_port.specs.declared.cause.CloseCause.{CloseCause}
use Rattle.dmr_port.specs.declared.served.Served.{Served}
use Rattle.dmr_port.specs.declared.sockets.Ready.{Ready}
use Rattle.dmr_port.specs.Newcomers.{IsClaimedAs}
use Rattle.dmr_port.specs.PortState.{HasWaited, HasWaitedFor, HasWaitedIf, IsFinding, IsLater, PortState, connection_of, keeps_octets}
use Rattle.dmr_port.specs.PortState.{waited_by}
use Rattle.dmr_port.specs.Served.{after_wait, cause_of_served}
use Rattle.dmr_port.specs.Sockets.{Found, found_after}

-- the connection goes on
pub goes_on : (silence ms : ℕ) (keeps is_claimed : Bool) (ready : Ready) (old new : Served) → new ≡ after_wait ready ms keeps old
    → cause_of_served silence keeps ready.connection is_claimed new.patience ≡ None →
    HasWaitedFor silence ms keeps ready.connection is_claimed (connection_of old) (connection_of new) Again
goes_on silence ms keeps is_claimed ready old new after none = record {
  patience = ap (λ (s : Served). s.patience) after;
  first = ap (λ (s : Served). s.first.octets.items) after;
  waited = sym (ap waited_by none);
  ended = ap (λ (s : Served). s.ended) after ∙ ap (λ cause. option_or cause old.ended) (sym none);
}

-- the connection is given up
pub is_given_up : (silence ms : ℕ) (keeps is_claimed : Bool) (ready : Ready) (old new : Served) (cause : CloseCause) →
    new ≡ after_wait ready ms keeps old
    → cause_of_served silence keeps ready.connection is_claimed new.patience ≡ Some cause
    → HasWaitedFor silence ms keeps ready.connection is_claimed (connection_of old)
    (connection_of (record new { ended = Some cause })) Silent
is_given_up silence ms keeps is_claimed ready old new cause after some = record {
  patience = ap (λ (s : Served). s.patience) after;
  first = ap (λ (s : Served). s.first.octets.items) after;
  waited = sym (ap waited_by some);
  ended = ap (λ c. option_or c old.ended) (sym some);
}

-- what a wait of the sockets found, which began after this time, and was counted after its end
pub is_finding : (before ended counted : ℕ) (ready : Ready) (sends : Bool) (was found : Option Found) →
    found ≡ found_after ready sends ended was → before ≤ ended → ended ≤ counted
    → IsFinding before ready sends counted found
is_finding before ended counted ready sends was found is began counts = record { finding = λ f some. at was f (sym is ∙ some) }
  where
    at : (was : Option Found) (f : Found) → found_after ready sends ended was ≡ Some f → (before ≤ f.ended) × (f.ended ≤ counted) ×
        (f.ready ≡ ready) × (f.sends ≡ sends)
    at None f e = absurd (cc)
    at (Some w) f e =
        let same : f ≡ record { ready = ready; sends = sends; ended = ended } = cc in
        let time : f.ended ≡ ended = ap (λ (x : Found). x.ended) same in
        (omega (arith, time, began), omega (arith, time, counts), ap (λ (x : Found). x.ready) same, ap (λ (x : Found). x.sends) same)

-- a wait of a port, of its parts
pub has_waited : {W : Type 0} (old new : PortState W) (ready : Ready) (milliseconds : ℕ) (keeps is_claimed : Bool) (result : Waited)
    → IsLater (record old {
      connection = new.connection;
      waiting = new.waiting;
      witness = new.witness;
      counted = new.counted;
      found = new.found;
      shown = new.shown;
    }) new → old.clock ≤ new.counted → new.counted ≤ new.clock
    → IsFinding old.clock ready keeps new.counted new.found → IsClaimedAs old.settings new.shown is_claimed →
    milliseconds ≡ min (new.counted - old.counted) 100 → keeps ≡ keeps_octets old.unsent
    → HasWaitedIf old.settings.silence milliseconds keeps ready.connection is_claimed old.connection new.connection result →
    HasWaited old new result
has_waited old new ready milliseconds keeps is_claimed result port after before finding claim counts is judged =
    let P : ℕ → Type 0 = λ n. HasWaitedIf old.settings.silence n (keeps_octets old.unsent) ready.connection is_claimed old.connection
    new.connection result in
    let Q : Bool → Type 0 = λ k. HasWaitedIf old.settings.silence milliseconds k ready.connection is_claimed old.connection new.connection
    result in
    let R : Bool → Type 0 = λ k. IsFinding old.clock ready k new.counted new.found in
    record {
      port = port;
      ready = ready;
      is_claimed = is_claimed;
      after = after;
      before = before;
      finding = subst R is finding;
      claim = claim;
      judged = subst P counts (subst Q is judged);
    }
