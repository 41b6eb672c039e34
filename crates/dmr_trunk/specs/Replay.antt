-- The job that was done: files that were replayed, or a site file that has a plan.
use Rattle.std.specs.Prelude.{◌≡◌, ◌⊎◌, ℕ, List, Option, Some, None, IsOk}
use Rattle.dmr_replay.specs.Replay.{IsPrinted, outcome, plan_in}
use Rattle.dmr_command.specs.declared.words.Job.{Job}
use Rattle.dmr_command.specs.declared.words.Job.TheVariants.{Script, Serve}
use Rattle.dmr_command.specs.Words.{AskFor, Text}

-- an exit status of the program: 0, 1, 2, 3 or 4. 1 is for a file, a port or the output, and 2 for refused words. 3 is
-- for an audit that found a difference, and 4 for no memory or no thread
abbrev pub IsStatus : ℕ → Type 0
IsStatus status = (status ≡ 0) ⊎ (status ≡ 1) ⊎ (status ≡ 2) ⊎ (status ≡ 3) ⊎ (status ≡ 4)

-- the files that the source gave for the two paths yield a text, and the writer received all of it
pub record AreReplayed (gave : Text → Option (List ℕ) → Type 0) (site_path script_path : Text)
    (old new : Option (List ℕ)) : Type 0 where
  pub site : Option (List ℕ)
  pub script : Option (List ℕ)
  pub site_given : gave site_path site
  pub script_given : gave script_path script
  pub printed_text : IsPrinted (outcome site script) old new

-- the site file could be read, and has a plan
abbrev pub IsPlanned : Option (List ℕ) → Type 0
IsPlanned None = ⊥
IsPlanned (Some site) = IsOk (plan_in site)

-- the site file that the source gave for the path has a plan
pub record HasPlan (gave : Text → Option (List ℕ) → Type 0) (site_path : Text) : Type 0 where
  pub site : Option (List ℕ)
  pub given : gave site_path site
  pub planned : IsPlanned site

-- a job was done: its two files were replayed; or its site file had a plan, and nothing was printed
abbrev pub IsJobDone : (Text → Option (List ℕ) → Type 0) → Job → Option (List ℕ) → Option (List ℕ)
    → Type 0
IsJobDone gave (Script site script) old new = AreReplayed gave site.now script.now old new
IsJobDone gave (Serve site terms) old new = HasPlan gave site.now × (new ≡ old)

-- the words ask for a job, and that job was done
pub record IsReplayed (gave : Text → Option (List ℕ) → Type 0) (words : List Text)
    (old new : Option (List ℕ)) : Type 0 where
  pub job : Job
  pub asked : AskFor words job
  pub done : IsJobDone gave job old new

-- some words ask for a job, and that job was done
abbrev pub IsReplayedBySome : (Text → Option (List ℕ) → Type 0) → Option (List ℕ) → Option (List ℕ)
    → Type 0
IsReplayedBySome gave old new = (words : List Text) × IsReplayed gave words old new
