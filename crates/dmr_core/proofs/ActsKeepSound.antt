-- Sound facts stay sound through each act that may be done.
use Rattle.std.proofs.Common.{◌≡◌, List, [], ◌∷◌, ◌++◌, true, false, refl, sym, subst, arith, drop}
use Rattle.std.specs.Prelude.{fold, not, ◌==◌}
use Rattle.std.specs.List.{list_all}
use Rattle.std.proofs.lemmas.List.{length-append, length-drop}
use Rattle.dmr_pdu.specs.declared.slots.Slot.{Slot}
use Rattle.dmr_pdu.specs.declared.pdu.Pdu.{Pdu}
use Rattle.dmr_plan.specs.declared.settings.Settings.{Settings}
use Rattle.dmr_calls.specs.Asks.{others_than}
use Rattle.dmr_calls.specs.Calls.{is_slot}
use Rattle.dmr_core.specs.declared.act.Act.{Act}
use Rattle.dmr_core.specs.declared.act.Act.TheVariants.{AskOver, Asked, Began, Ended, Fill, Joined, Left, Lined, Queue, Send, Unlined}
use Rattle.dmr_core.specs.Facts.{Facts, facts_after_act, late_by_act}
use Rattle.dmr_core.specs.Words.{is_up, outbox}
use Rattle.dmr_core.specs.Sound.{IsSound, is_grant, is_own}
use Rattle.dmr_core.specs.May.{AllMayDo, MayDo}
use Rattle.dmr_core.proofs.PlanLemmas.{KnowsPlan}
use Rattle.dmr_core.proofs.SlotsStaySound.{pool-put, calls-put, all_more, all-drop, any_more, any-drop, named_there}
use Rattle.dmr_core.proofs.GrantsAreOwn.{calls-begun, calls-filter, named_own}
use Rattle.dmr_core.proofs.RadiosEngagedOnce.{fewer_engaged, fewer_asks, fewer_calls, fewer_lines, one_more_engaged, radios-joined}
use Rattle.dmr_core.proofs.RadiosEngagedOnce.{radios-left, with_ask, with_call, with_line}
use Rattle.dmr_core.proofs.FillsAreLateEntries.{access-filled}
use Rattle.dmr_core.proofs.LimitsAreKept.{asks-fewer, asks-more, lines-fewer, lines-more}
use Rattle.dmr_core.proofs.ListLemmas.{true_false}

drop_none : (xs : List Pdu) → xs ≡ [] → drop 1 xs ≡ []
drop_none xs h = rw h refl

pub sound-done : (plan : Settings) (now : Facts) (act : Act) → KnowsPlan plan → IsSound plan now → MayDo plan now act
    → IsSound plan (facts_after_act now act)
sound-done plan now (Queue there pdu) p h may =
    let v : List Pdu = outbox now there ++ pdu ∷ [] in
    let pool = pool-put plan now p h there v may.up may.small
    (λ e. any_more is_grant (outbox now there) pdu (h.pool.elsewhere there may.small e)
    (named_there plan now there pdu (is_grant pdu) may.names e))
    (omega (arith, may.room, length-append (outbox now there) (pdu ∷ []))) in
    let calls = calls-put plan now p h there v may.up may.small (λ e. true_false _ e may.none)
    (λ slot call k e. all_more (is_own plan call) (outbox now there) pdu
    (subst (λ (x : Slot). list_all (is_own plan call) (outbox now x) ≡ true) (sym e) (h.calls.own slot call k))
    (named_own plan now slot there call pdu (is_grant pdu) p h k refl may.names)) in
    assumption (pool, calls)
sound-done plan now (Send there pdu) p h may =
    let v : List Pdu = drop 1 (outbox now there) in
    let pool = pool-put plan now p h there v may.0 may.1 (λ e. any-drop is_grant (outbox now there) (h.pool.elsewhere there may.1 e))
    (omega (arith, h.pool.few there may.1, length-drop 1 (outbox now there))) in
    let calls = calls-put plan now p h there v may.0 may.1 (λ e. drop_none _ (h.calls.quiet there e))
    (λ slot call k e. all-drop (is_own plan call) (outbox now there)
    (subst (λ (x : Slot). list_all (is_own plan call) (outbox now x) ≡ true) (sym e) (h.calls.own slot call k))) in
    assumption (pool, calls)
sound-done plan now (Fill slot pdu) p h may =
    let access =
    access-filled (is_up now plan.lists.control) now.noise now.fills now.late (late_by_act now.late (Fill slot pdu)) may.up h.access in
    assumption access
sound-done plan now (Joined r) p h may =
    let radios = radios-joined now.registered now.calls now.asks now.lines h.radios r may.0 may.1 in
    assumption radios
sound-done plan now (Left r) p h may =
    let radios = radios-left now.registered now.calls now.asks now.lines h.radios r may in
    assumption radios
sound-done plan now (Asked a) p h may =
    let others = others_than a.source now.asks in
    let fewer = asks-fewer (is_up now plan.lists.control) now.asks h.asks a.source in
    let asks = asks-more (is_up now plan.lists.control) others fewer a may.0 may.1 in
    let before = fewer_engaged now.registered now.calls now.calls now.asks others now.lines now.lines
    (fewer_asks now.calls now.asks now.lines (λ x. not (x.ask.source == a.source))) h.radios in
    let radios = one_more_engaged now.registered now.calls now.calls others _ now.lines now.lines false a.source a.target
    (with_ask now.calls others now.lines a) may.2.parties may.2.once before in
    assumption (asks, radios)
sound-done plan now (AskOver q) p h may =
    let asks = asks-fewer (is_up now plan.lists.control) now.asks h.asks q in
    let radios = fewer_engaged now.registered now.calls now.calls now.asks _ now.lines now.lines
    (fewer_asks now.calls now.asks now.lines (λ a. not (a.ask.source == q))) h.radios in
    assumption (asks, radios)
sound-done plan now (Lined l) p h may =
    let lines = lines-more plan (is_up now plan.lists.control) now.lines h.lines l may.0 may.1 may.2.listed in
    let radios = one_more_engaged now.registered now.calls now.calls now.asks now.asks now.lines _ l.group l.source l.target
    (with_line now.calls now.asks now.lines l) may.2.parties may.2.once h.radios in
    assumption (lines, radios)
sound-done plan now (Unlined q) p h may =
    let lines = lines-fewer plan (is_up now plan.lists.control) now.lines h.lines q in
    let radios = fewer_engaged now.registered now.calls now.calls now.asks now.asks now.lines _
    (fewer_lines now.calls now.asks now.lines (λ l. not (l.source == q))) h.radios in
    assumption (lines, radios)
sound-done plan now (Began call) p h may =
    let calls = calls-begun plan now call h may in
    let radios = one_more_engaged now.registered now.calls _ now.asks now.asks now.lines now.lines call.group call.source call.target
    (with_call now.calls now.asks now.lines call) may.engage.parties may.engage.once h.radios in
    assumption (calls, radios)
sound-done plan now (Ended slot) p h may =
    let calls = calls-filter plan now.up now.outboxes (λ x. not (is_slot x slot)) now.calls h.calls in
    let radios = fewer_engaged now.registered now.calls _ now.asks now.asks now.lines now.lines
    (fewer_calls now.calls now.asks now.lines (λ s. not (is_slot s.call.slot slot))) h.radios in
    assumption (calls, radios)

pub sound-acts : (plan : Settings) (now : Facts) (acts : List Act) → KnowsPlan plan → IsSound plan now → AllMayDo plan now acts
    → IsSound plan (fold facts_after_act now acts)
sound-acts plan now [] p h may = h
sound-acts plan now (act ∷ acts) p h may = sound-acts plan (facts_after_act now act) acts p (sound-done plan now act p h may.0) may.1

-- the acts of one rule and then those of another
pub may-append : (plan : Settings) (xs ys : List Act) (now : Facts) → AllMayDo plan now xs
    → AllMayDo plan (fold facts_after_act now xs) ys → AllMayDo plan now (xs ++ ys)
may-append plan [] ys now h k = k
may-append plan (act ∷ xs) ys now h k = (h.0, may-append plan xs ys (facts_after_act now act) h.1 k)
