-- The invariant of every accepted plan.
use Rattle.dmr_plan.specs.declared.settings.Settings.{Settings}
use Rattle.dmr_plan.specs.Sections.{IsSystemSection, IsAlohaSection, IsCallSection}
use Rattle.dmr_plan.specs.Sections.{IsServingSection, IsListSection}

-- the invariant of every accepted plan. Each setting is within the range of its key, and those that must differ do. The
-- backoffs are in order, and a carrier has the number `control`
pub record IsPlan (s : Settings) : Type 0 where
  pub system : IsSystemSection s.system
  pub aloha : IsAlohaSection s.aloha
  pub calls : IsCallSection s.calls
  pub serving : IsServingSection s.serving
  pub lists : IsListSection s.lists
