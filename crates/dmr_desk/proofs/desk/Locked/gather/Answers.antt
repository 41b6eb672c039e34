use Rattle.std.proofs.Common.{◌∙◌, sym}
use Rattle.dmr_desk.proofs.ClosingLemmas.{kept_of_book}
use Rattle.dmr_desk.proofs.desk.Locked.gather.Goals as goal

pub returns-in-Ok-clause-kept : goal.returns-in-Ok-clause-kept
returns-in-Ok-clause-kept g c =
    let gathered = c.in-Ok.ensures in
    rw c.args.self.of_desk (kept_of_book c.args.self.book c.args.self.actors c.args.seats.items
    (record { site = c.into_parts-site.result.0; journal = c.into_parts-site.result.1; views = c.in-Ok.views })
    c.use_invariant.ensures.kept c.use_invariant.ensures.safe c.args.self.known c.into_parts-site.ensures.site
    c.into_parts-site.ensures.journal gathered.views gathered.counted gathered.actors
    (c.args.self.counted ∙ sym (c.audit.ensures.whole (gathered.parts ∙ sym c.requires)) ∙ gathered.amount))
