-- The carriers of a site, and the numbers that the HELLO of each must have.
use Rattle.std.specs.Prelude.{ℕ, Option, option_map}
use Rattle.dmr_plan.specs.declared.settings.Settings.{Settings}
use Rattle.dmr_plan.specs.declared.carriers.CarrierRow.{CarrierRow}
use Rattle.dmr_plan.specs.Carriers.{row_with}
use Rattle.dmr_frames.specs.declared.version.Version.{Version}
use Rattle.dmr_frames.specs.Versions.{named_or_first}
use Rattle.dmr_link.specs.declared.connection.CarrierIdentity.{CarrierIdentity}

-- the greatest version of the link that a plan's site serves
abbrev pub greatest_of : Settings → Version
greatest_of plan = named_or_first plan.serving.link_version

-- the identity of the plan's carrier with this number, if the plan has one
abbrev pub who_of : Settings → ℕ → Option CarrierIdentity
who_of plan carrier = option_map (λ (row : CarrierRow). record {
  carrier = carrier;
  lpcn = row.lpcn;
  greatest = greatest_of plan;
}) (row_with plan.lists.carriers carrier)
