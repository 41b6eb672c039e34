use Rattle.std.proofs.Common.{ap}
use Rattle.dmr_link.specs.Console.{reply_text}
use Rattle.dmr_link.proofs.WritesFollow.{writes_empty}
use Rattle.dmr_link.proofs.writing.write_reply.Goals as goal

pub returns-in-None : goal.returns-in-None
returns-in-None g c = writes_empty _ _ (ap reply_text c.in-None.is)
