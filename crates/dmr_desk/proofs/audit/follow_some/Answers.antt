use Rattle.std.proofs.Common.{arith}
use Rattle.dmr_desk.proofs.ViewLemmas.{all_begin}
use Rattle.dmr_desk.proofs.audit.follow_some.Goals as goal

pub loop-start-init : goal.loop-start-init
loop-start-init c = (omega arith, all_begin c.args.from c.args.to c.args.views.now.items c.args.journal.now c.requires.few)
