-- The plan of a site file.
use Rattle.std.specs.Prelude.{ℕ, List, Option, Some, None, Result, Ok, Err, Bool, ◌==◌}
use Rattle.std.specs.List.{list_any}
use Rattle.toml.specs.Data.{Members}
use Rattle.toml.specs.Parse.{parse_document}
use Rattle.dmr_plan.specs.declared.fault.PlanFault.{PlanFault}
use Rattle.dmr_plan.specs.declared.fault.PlanFault.TheVariants.{NotToml}
use Rattle.dmr_plan.specs.declared.lists.RadioRange.{RadioRange}
use Rattle.dmr_plan.specs.declared.settings.Settings.{Settings}
use Rattle.dmr_plan.specs.Steps.{◌>>=◌}
use Rattle.dmr_plan.specs.Lists.{is_within}
use Rattle.dmr_plan.specs.Sections.{system_of, aloha_of, calls_of, serving_of, lists_of}

-- the settings of a table, or its first fault in the order of the keys; but those of the carriers, table by table, come
-- before `control`
unfoldable pub plan_of : Members → Result Settings PlanFault
plan_of ms = do
  system ← system_of ms
  aloha ← aloha_of ms
  calls ← calls_of ms
  serving ← serving_of ms
  lists ← lists_of ms
  Ok (record {
    system = system;
    aloha = aloha;
    calls = calls;
    serving = serving;
    lists = lists;
  })

-- the settings of a document, or the fault that the text is not TOML
abbrev pub plan_of_document : Option Members → Result Settings PlanFault
plan_of_document None = Err NotToml
plan_of_document (Some ms) = plan_of ms

-- the settings of a text, or its first fault
abbrev pub plan_of_text : List ℕ → Result Settings PlanFault
plan_of_text text = plan_of_document (parse_document text)

-- whether one of the ranges has this radio
abbrev pub lists_radio : Settings → ℕ → Bool
lists_radio s radio = list_any (λ (range : RadioRange). is_within range radio) s.lists.radios

-- whether a talkgroup is one of the groups
abbrev pub lists_group : Settings → ℕ → Bool
lists_group s group = list_any (λ g. g == group) s.lists.groups
