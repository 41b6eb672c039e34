-- The facts of a site that starts with radios registered.
use Rattle.std.specs.Prelude.{ℕ, List, [], fold, filter}
use Rattle.dmr_plan.specs.declared.settings.Settings.{Settings}
use Rattle.dmr_plan.specs.Plan.{lists_radio}
use Rattle.dmr_registry.specs.Radios.{radios_after_join}
use Rattle.dmr_core.specs.Facts.{Facts, no_facts}

-- the radios that are registered: each that the plan lists joins in turn
abbrev pub restored : Settings → List ℕ → List ℕ
restored plan radios = fold radios_after_join [] (filter (lists_radio plan) radios)

-- the facts of a site on which nothing has happened, but with these radios registered
abbrev pub facts_with : List ℕ → Facts
facts_with radios = record {
  up = no_facts.up;
  registered = radios;
  asks = no_facts.asks;
  lines = no_facts.lines;
  calls = no_facts.calls;
  outboxes = no_facts.outboxes;
  noise = no_facts.noise;
  moving = no_facts.moving;
  fills = no_facts.fills;
  late = no_facts.late;
}
