use Rattle.dmr_console.proofs.LineLemmas.{left_other}
use Rattle.dmr_console.proofs.line_cutter.LineCutter.take_octet.Goals as goal

pub returns-else-octet-eq-LF-clause-rest : goal.returns-else-octet-eq-LF-clause-rest
returns-else-octet-eq-LF-clause-rest c =
    left_other c.args.self.now c.self.inside.begun c.try_push.new.self c.args.octet c.try_push.result c.self.view_is c.if-octet-eq-LF.false
    c.try_push.ensures.variant c.try_push.ensures.ok c.try_push.ensures.err c.try_push.ensures.full
