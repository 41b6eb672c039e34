-- The facts about reports that proofs of other crates may cite.
use Rattle.std.proofs.Common.{List, [], ◌++◌, Option, sym, ap, ◌∙◌, append_assoc}
use Rattle.std.proofs.lemmas.List.{append-nil}
use Rattle.dmr_wire.specs.Answers.{Answer, Reports}

-- no answer
pub reports_none : (reported : Option (List Answer)) → Reports reported [] reported
reports_none reported = record { follows = λ whole e. (whole, e, sym (append-nil whole)) }

-- answers, and then more
pub reports_more : (a b c : Option (List Answer)) (xs ys : List Answer) → Reports a xs b → Reports b ys c → Reports a (xs ++ ys) c
reports_more a b c xs ys first second = record {
  follows = λ whole e.
      let later = second.follows whole e in
      let before = first.follows later.0 later.1 in
      (before.0, before.1, later.2 ∙ ap (λ (r : List Answer). r ++ ys) before.2 ∙ append_assoc before.0 xs ys);
}
