use Rattle.std.proofs.Common.{ℕ, ◌<◌, ◌∙◌, subst, sym}
use Rattle.std.specs.Prelude.{All}
use Rattle.dmr_core.specs.declared.entry.Entry.{Entry}
use Rattle.dmr_desk.proofs.ClosingLemmas.{seat_has_view}
use Rattle.dmr_desk.proofs.laws.reports_account.Goals as goal

pub returns-clause-legal : goal.returns-clause-legal
returns-clause-legal c = λ desk seats report is. is.kept.journal.kept.legal

pub returns-clause-within : goal.returns-clause-within
returns-clause-within c = λ desk seats report is. is.kept.journal.kept.within

pub returns-clause-site : goal.returns-clause-site
returns-clause-site c = λ desk seats report is. is.kept.site

pub returns-clause-as_many : goal.returns-clause-as_many
returns-clause-as_many c = λ desk seats report is. is.kept.gathered.as_many

pub returns-clause-actors : goal.returns-clause-actors
returns-clause-actors c = λ desk seats report is. is.kept.actors

pub returns-clause-every_actor : goal.returns-clause-every_actor
returns-clause-every_actor c = λ desk seats report actor is below.
    let P : ℕ → Type 0 = λ n. actor < n in
    is.kept.gathered.has actor (subst P (sym is.kept.gathered.as_many) below)

pub returns-clause-views : goal.returns-clause-views
returns-clause-views c = λ desk seats report seat is has. (is.kept.gathered.each seat has, seat_has_view desk seats report is seat has)

pub returns-clause-others : goal.returns-clause-others
returns-clause-others c = λ desk seats report is.
    let P : ℕ → Type 0 = λ n. All (λ (entry : Entry). entry.actor < n) report.journal in
    subst P (sym is.kept.actors ∙ is.kept.gathered.as_many) is.kept.journal.known

pub returns-clause-safe : goal.returns-clause-safe
returns-clause-safe c = λ desk seats report is. is.kept.safe
