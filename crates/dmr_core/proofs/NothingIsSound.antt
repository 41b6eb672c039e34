-- The empty facts are sound.
use Rattle.std.proofs.Common.{List, [], false, refl, ap, arith, length}
use Rattle.std.specs.List.{list_any}
use Rattle.dmr_pdu.specs.declared.pdu.Pdu.{Pdu}
use Rattle.dmr_plan.specs.declared.settings.Settings.{Settings}
use Rattle.dmr_pool.specs.Slots.{place}
use Rattle.dmr_core.specs.Facts.{no_facts}
use Rattle.dmr_core.specs.Sound.{IsSound, is_grant}
use Rattle.dmr_core.specs.Words.{is_up}
use Rattle.dmr_core.proofs.EventsKeepSound.{over}
use Rattle.dmr_core.proofs.ListLemmas.{true_false}
use Rattle.dmr_pdu.proofs.ListLaws.{replicated}

pub nothing_is_sound : (plan : Settings) → IsSound plan no_facts
nothing_is_sound plan = record {
  pool = record {
    carriers = refl;
    slots = refl;
    known = λ c k. true_false _ k (replicated 16 c false);
    down = λ slot small k. replicated 32 (place slot) [];
    elsewhere = λ slot small k. ap (λ (xs : List Pdu). list_any is_grant xs) (replicated 32 (place slot) []);
    few = λ slot small. omega (arith, ap (λ (xs : List Pdu). length xs) (replicated 32 (place slot) []));
  };
  calls = record {
    apart = tt;
    payload = λ slot k. cc;
    quiet = λ slot k. cc;
    own = λ slot call k. cc;
    listed = λ g k. cc;
    few = omega arith;
    ages = λ k d within. absurd (omega arith);
  };
  asks = record { none = λ k. refl; few = omega arith; waits = λ k d within. absurd (omega arith) };
  lines = record { none = λ k. refl; listed = λ g k. cc; few = omega arith };
  radios = record {
    distinct = λ i j d below within. absurd (omega arith);
    parties = λ r k. absurd (omega arith);
    once = λ r. omega arith;
    few = omega arith;
  };
  access = over (is_up no_facts plan.lists.control) (replicated 16 plan.lists.control false);
}
