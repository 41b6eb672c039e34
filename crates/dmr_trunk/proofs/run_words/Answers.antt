use Rattle.dmr_trunk.proofs.RunLemmas.{words_replayed}
use Rattle.dmr_trunk.proofs.run_words.Goals as goal

pub returns-in-Ok-clause-ok : goal.returns-in-Ok-clause-ok
returns-in-Ok-clause-ok g c =
    words_replayed (g.S.FileSource.gave c.args.files.now) _ _ _ c.in-Ok.job (g.W.Write.contents c.args.out.now)
    (g.W.Write.contents c.do_job.new.out) c.do_job.result c.as_slice.ensures.value c.in_ok-texts.ensures c.in-Ok.ensures.job
    c.do_job.ensures.ok
