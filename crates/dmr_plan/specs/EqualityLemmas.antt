-- Lemmas only: the derived `==` of settings is equality. No definition depends on them.
use Rattle.std.proofs.Common.{◌≡◌, rules, ℕ, true, List, ap, sym, ◌∙◌, eqb}
use Rattle.std.specs.Bool.{Decides}
use Rattle.std.specs.Cmp.Lexicographic.{pointwise, pointwise_decides}
use Rattle.std.proofs.lemmas.Bool.Decides.{Decides-and, Decides-eqb}
use Rattle.dmr_plan.specs.declared.lists.RadioRange.{RadioRange}
use Rattle.dmr_plan.specs.declared.carriers.CarrierRow.{CarrierRow}
use Rattle.dmr_plan.specs.declared.sections.SystemSection.{SystemSection}
use Rattle.dmr_plan.specs.declared.sections.AlohaSection.{AlohaSection}
use Rattle.dmr_plan.specs.declared.sections.CallSection.{CallSection}
use Rattle.dmr_plan.specs.declared.sections.ServingSection.{ServingSection}
use Rattle.dmr_plan.specs.declared.sections.ListSection.{ListSection}
use Rattle.dmr_plan.specs.declared.settings.Settings.{Settings}
use Rattle.dmr_plan.specs.contracts.lists.RadioRangePartialEq.TheImpl as range_eq
use Rattle.dmr_plan.specs.contracts.carriers.CarrierRowPartialEq.TheImpl as row_eq
use Rattle.dmr_plan.specs.contracts.sections.SystemSectionPartialEq.TheImpl as system_eq
use Rattle.dmr_plan.specs.contracts.sections.AlohaSectionPartialEq.TheImpl as aloha_eq
use Rattle.dmr_plan.specs.contracts.sections.CallSectionPartialEq.TheImpl as calls_eq
use Rattle.dmr_plan.specs.contracts.sections.ServingSectionPartialEq.TheImpl as serving_eq
use Rattle.dmr_plan.specs.contracts.sections.ListSectionPartialEq.TheImpl as lists_eq
use Rattle.dmr_plan.specs.contracts.sections.ListSectionEq.TheImpl.Laws as lists_laws
use Rattle.dmr_plan.specs.contracts.settings.SettingsPartialEq.TheImpl as settings_eq
use Rattle.dmr_plan.specs.contracts.settings.SettingsEq.TheImpl.Laws as settings_laws

numbers_eq-Decides : (a b : List ℕ) → Decides (pointwise eqb a b) (a ≡ b)
numbers_eq-Decides = pointwise_decides Decides-eqb

range_eq-Decides : (a b : RadioRange) → Decides ((range_eq.ghosts).eq a b) (a ≡ b)
range_eq-Decides a b = search rules

ranges_eq-Decides : (a b : List RadioRange) → Decides (pointwise (range_eq.ghosts).eq a b) (a ≡ b)
ranges_eq-Decides = pointwise_decides range_eq-Decides

row_eq-Decides : (a b : CarrierRow) → Decides ((row_eq.ghosts).eq a b) (a ≡ b)
row_eq-Decides a b = search rules

rows_eq-Decides : (a b : List CarrierRow) → Decides (pointwise (row_eq.ghosts).eq a b) (a ≡ b)
rows_eq-Decides = pointwise_decides row_eq-Decides

pub system_eq-Decides : (a b : SystemSection) → Decides ((system_eq.ghosts).eq a b) (a ≡ b)
system_eq-Decides a b = search rules

pub aloha_eq-Decides : (a b : AlohaSection) → Decides ((aloha_eq.ghosts).eq a b) (a ≡ b)
aloha_eq-Decides a b = search rules

pub calls_eq-Decides : (a b : CallSection) → Decides ((calls_eq.ghosts).eq a b) (a ≡ b)
calls_eq-Decides a b = search rules

serving_eq-Decides : (a b : ServingSection) → Decides ((serving_eq.ghosts).eq a b) (a ≡ b)
serving_eq-Decides a b = search (numbers_eq-Decides, rules)

same_lists : (a b : ListSection) → (lists_eq.ghosts).eq a b ≡ true → a ≡ b
same_lists a b told =
    let d = Decides-and _ _ (Decides-eqb a.console_port b.console_port) (Decides-and _ _
    (ranges_eq-Decides a.radios b.radios) (Decides-and _ _ (numbers_eq-Decides a.groups b.groups)
    (Decides-and _ _ (rows_eq-Decides a.carriers b.carriers) (Decides-eqb a.control b.control)))) in
    let e = d.0 told in
    λ i. record {
      console_port = e.0 i;
      radios = e.1.0 i;
      groups = e.1.1.0 i;
      carriers = e.1.1.1.0 i;
      control = e.1.1.1.1 i;
    }

pub lists_eq-Decides : (a b : ListSection) → Decides ((lists_eq.ghosts).eq a b) (a ≡ b)
lists_eq-Decides a b =
    (same_lists a b, λ e. ap ((lists_eq.ghosts).eq a) (sym e) ∙ lists_laws.laws-law.refl a)

same_settings : (a b : Settings) → (settings_eq.ghosts).eq a b ≡ true → a ≡ b
same_settings a b told =
    let d = Decides-and _ _ (system_eq-Decides a.system b.system) (Decides-and _ _
    (aloha_eq-Decides a.aloha b.aloha) (Decides-and _ _ (calls_eq-Decides a.calls b.calls)
    (Decides-and _ _ (serving_eq-Decides a.serving b.serving)
    (lists_eq-Decides a.lists b.lists)))) in
    let e = d.0 told in
    λ i. record {
      system = e.0 i;
      aloha = e.1.0 i;
      calls = e.1.1.0 i;
      serving = e.1.1.1.0 i;
      lists = e.1.1.1.1 i;
    }

pub settings_eq-Decides : (a b : Settings) → Decides ((settings_eq.ghosts).eq a b) (a ≡ b)
settings_eq-Decides a b =
    (same_settings a b, λ e. ap ((settings_eq.ghosts).eq a) (sym e) ∙ settings_laws.laws-law.refl a)
