-- Site files that are UTF-8, and the reported faults.
use Rattle.std.proofs.Common.{◌≡◌, ℕ, List, Bool, true, false, refl, sym, subst, ap, ◌⊎◌, inl, inr}
use Rattle.std.specs.Prelude.{IsErrAnd, Option, Result, Ok, Err, if◌then◌else◌}
use Rattle.std.specs.Str.{IsUtf8, is_utf8}
use Rattle.std.proofs.lemmas.Str.{IsUtf8-from_is_utf8, is_utf8-from_IsUtf8}
use Rattle.dmr_plan.specs.declared.settings.Settings.{Settings}
use Rattle.dmr_plan.specs.declared.fault.PlanFault.{PlanFault}
use Rattle.dmr_plan.specs.declared.fault.PlanFault.TheVariants.{NotToml}
use Rattle.dmr_plan.specs.Plan.{plan_of_text}
use Rattle.dmr_replay.specs.declared.replaying.ReplayFault.{ReplayFault}
use Rattle.dmr_replay.specs.declared.replaying.ReplayFault.TheVariants.{SiteFile, ScriptLine, OutOfMemory}
use Rattle.dmr_replay.specs.Script.{RepeatedInput}
use Rattle.dmr_replay.specs.Replay.{Outcome, Prints, SiteNotRead, NoPlan, ScriptNotRead, NoLine, ReportsFault, of_lines, of_plan, plan_in}

-- a site file that is UTF-8
pub plan_in_text : (site : List ℕ) → IsUtf8 site → plan_in site ≡ plan_of_text site
plan_in_text site is = ap (λ (b : Bool). if b then plan_of_text site else Err NotToml) (is_utf8-from_IsUtf8 site is)

-- a site file that is not UTF-8
pub plan_in_no_text : (site : List ℕ) → ¬ IsUtf8 site → plan_in site ≡ Err NotToml
plan_in_no_text site isnt = either (is_utf8 site) (λ (told : is_utf8 site ≡ true). isnt (IsUtf8-from_is_utf8 site told))
  where
    either : (b : Bool) → (b ≡ true → ⊥) → (if b then plan_of_text site else Err NotToml) ≡ Err NotToml
    either true none = absurd (none refl)
    either false none = refl

-- the reported faults, one after the other
module _ (site_name script_name : List ℕ) (fault : ReplayFault) where
  memory_reported : (found : Outcome) → ReportsFault site_name script_name found OutOfMemory
  memory_reported SiteNotRead = tt
  memory_reported ScriptNotRead = tt
  memory_reported (NoPlan told) = tt
  memory_reported (NoLine number) = tt
  memory_reported (Prints text) = tt

  pub no_plan : (read : Result Settings PlanFault) (script : Option (List ℕ)) →
      (fault ≡ OutOfMemory) ⊎ IsErrAnd read (λ told. fault ≡ SiteFile told) → ReportsFault site_name script_name (of_plan read script) fault
  no_plan read script (inl memory) =
      subst (ReportsFault site_name script_name (of_plan read script)) (sym memory) (memory_reported (of_plan read script))
  no_plan (Err told) script (inr is) = subst (ReportsFault site_name script_name (NoPlan told)) (sym is) refl
  no_plan (Ok plan) script (inr is) = absurd is

  pub no_lines : (plan : Settings) (read : Result (List RepeatedInput) ℕ) →
      (fault ≡ OutOfMemory) ⊎ IsErrAnd read (λ number. fault ≡ ScriptLine number) →
      ReportsFault site_name script_name (of_lines plan read) fault
  no_lines plan read (inl memory) =
      subst (ReportsFault site_name script_name (of_lines plan read)) (sym memory) (memory_reported (of_lines plan read))
  no_lines plan (Err number) (inr is) = subst (ReportsFault site_name script_name (NoLine number)) (sym is) refl
  no_lines plan (Ok given) (inr is) = absurd is

  pub no_memory : (found : Outcome) → fault ≡ OutOfMemory → ReportsFault site_name script_name found fault
  no_memory found memory = subst (ReportsFault site_name script_name found) (sym memory) (memory_reported found)
