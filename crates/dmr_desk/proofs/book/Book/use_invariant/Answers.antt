use Rattle.std.proofs.Common.{reverse, subst}
use Rattle.dmr_desk.specs.BookState.{BookState, IsSoundBook}
use Rattle.dmr_desk.proofs.book.Book.use_invariant.Goals as goal

pub returns-clause-safe : goal.returns-clause-safe
returns-clause-safe c =
    let law = c.each_act_is_safe.ensures in
    let pages = c.args.self.now in
    let plan = pages.opening.plan in
    let facts = pages.opening.facts in
    let journal = reverse pages.entries in
    let P : BookState → Type 0 = λ p. IsSoundBook p in
    let kept : IsSoundBook pages = subst P c.self.view_is c.self.invariant.0 in
    record {
      free = law.free plan facts journal kept.site.plan kept.site.sound kept.legal;
      known = law.known plan facts journal kept.site.plan kept.site.sound kept.legal;
      quiet = λ carrier has. law.quiet plan facts carrier journal kept.site.plan has kept.site.sound kept.legal;
      own = law.own plan facts journal kept.site.plan kept.site.sound kept.legal;
    }
