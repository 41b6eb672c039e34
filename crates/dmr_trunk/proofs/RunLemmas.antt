-- The job that was done is the one that the words ask for.
use Rattle.std.proofs.Common.{◌≡◌, ℕ, List, Option, Result, Ok, Err, IfOk, ap, ◌∙◌, map, subst}
use Rattle.std.specs.Borrow.{Bor}
use Rattle.dmr_command.specs.declared.words.Job.{Job}
use Rattle.dmr_command.specs.Words.{AskFor, Text}
use Rattle.dmr_trunk.specs.Replay.{IsJobDone, IsReplayed}

pub words_replayed : {E : Type 0} (gave : Text → Option (List ℕ) → Type 0) (slice texts : List (Bor Text)) (words : List Text) (job : Job)
    (old new : Option (List ℕ)) (r : Result ℕ E) →
    slice ≡ texts → map (λ text. text.now) texts ≡ words → AskFor (map (λ word. word.now) slice) job →
    IfOk r (λ status. status ≡ 0 → IsJobDone gave job old new) → IfOk r (λ status. status ≡ 0 → IsReplayed gave words old new)
words_replayed gave slice texts words job old new (Ok status) whole same asked ok =
    let P : List Text → Type 0 = λ ws. AskFor ws job in
    let of_words : map (λ (word : Bor Text). word.now) slice ≡ words = ap (map (λ (word : Bor Text). word.now)) whole ∙ same in
    λ zero. record { job = job; asked = subst P of_words asked; done = ok zero }
words_replayed gave slice texts words job old new (Err e) whole same asked ok = tt
