use Rattle.dmr_console.proofs.LineLemmas.{one_more}
use Rattle.dmr_console.proofs.line_cutter.LineCutter.feed_byte.Goals as goal

pub returns-clause-stream : goal.returns-clause-stream
returns-clause-stream c = λ octets h. one_more octets c.args.self.now c.take_octet.new.self c.args.octet c.take_octet.result h
    c.take_octet.ensures.step c.take_octet.ensures.rest
