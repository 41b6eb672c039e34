use Rattle.std.proofs.Common.{List, [], ◌∷◌, sym, ◌∙◌, subst}
use Rattle.dmr_core.specs.declared.act.Act.{Act}
use Rattle.dmr_core.specs.Facts.{facts_after}
use Rattle.dmr_core.specs.Journal.{unattributed_entry}
use Rattle.dmr_link.specs.Answering.{acts_for_event, facts_after_answer, IsFewAt}
use Rattle.dmr_link.proofs.PollsAreShort.{few_at}
use Rattle.dmr_link.proofs.session.apply_to_site.Goals as goal

pub returns-clause-acts : goal.returns-clause-acts
unfolding acts_for_event
returns-clause-acts c = c.apply_to.ensures.acts

pub returns-clause-few : goal.returns-clause-few
returns-clause-few c =
    let P : List Act → Type 0 = IsFewAt c.args.event.now in
    subst P (sym c.apply_to.ensures.acts) (few_at c.args.site.now.plan c.args.site.now.facts c.args.event.now)

pub returns-clause-site : goal.returns-clause-site
unfolding acts_for_event facts_after_answer
returns-clause-site c =
    let plan = c.args.site.now.plan in
    let facts = c.args.site.now.facts in
    c.apply_to.ensures.facts
    ∙ (λ i. record {
      plan = plan;
      facts = facts_after plan facts
          (unattributed_entry c.args.event.now (record { list = c.apply_to.ensures.acts i; said = c.apply_to.ensures.said i }) ∷ []);
    })
