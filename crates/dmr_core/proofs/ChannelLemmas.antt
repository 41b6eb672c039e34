-- The carrier that has a channel.
use Rattle.std.proofs.Common.{◌≡◌, ℕ, List, [], ◌∷◌, true, ◌∙◌, ap, arith}
use Rattle.std.proofs.lemmas.Bool.Decides.{nat_tests}
use Rattle.std.specs.Prelude.{Option, Some, find, option_map, ◌==◌}
use Rattle.std.proofs.lemmas.Bool.{eqb-true}
use Rattle.dmr_plan.specs.declared.settings.Settings.{Settings}
use Rattle.dmr_plan.specs.declared.carriers.CarrierRow.{CarrierRow}
use Rattle.dmr_plan.specs.IsPlan.{IsPlan}
use Rattle.dmr_core.specs.Facts.{has_carrier}
use Rattle.dmr_core.specs.Late.{carrier_on}
use Rattle.dmr_core.specs.Words.{lpcn_of}
use Rattle.dmr_core.proofs.ListLemmas.{any_found, find_any, find_passes}
use Rattle.dmr_core.proofs.PlansAreKnown.{HasOwnChannels, own_channels, lpcn_is}

-- the row of a carrier is the one that has its channel
own_row : (rows : List CarrierRow) (c : ℕ) (x : CarrierRow) → HasOwnChannels rows → find (λ r. r.number == c) rows ≡ Some x
    → find (λ r. r.lpcn == x.lpcn) rows ≡ Some x
own_row [] c x own h = cc
own_row (r ∷ rows) c x own h =
    let more = own_row rows c x own.1 in
    let there = find_any (λ w. w.number == c) (λ w. w.lpcn == r.lpcn) rows x in
    let none = own.0 in
    grind (arith, nat_tests)

pub channel_known : (plan : Settings) (c : ℕ) → IsPlan plan → has_carrier plan c ≡ true → carrier_on plan (lpcn_of plan c) ≡ Some c
channel_known plan c p there =
    let row = any_found (λ r. r.number == c) plan.lists.carriers there in
    let own : find (λ r. r.lpcn == row.0.lpcn) plan.lists.carriers ≡ Some row.0 =
    own_row plan.lists.carriers c row.0 (own_channels plan.lists.carriers p.lists.carriers.apart.lpcns) row.1 in
    let number : row.0.number ≡ c = eqb-true row.0.number c (find_passes (λ r. r.number == c) plan.lists.carriers row.0 row.1) in
    ap (carrier_on plan) (lpcn_is plan c row.0 row.1) ∙ ap (λ (o : Option CarrierRow). option_map (λ (r : CarrierRow). r.number) o) own
    ∙ ap (λ (n : ℕ). Some n) number
