use Rattle.std.proofs.Common.{length}
use Rattle.dmr_records.proofs.events.+put_numbers.Given as goal

abbrev pub decreases-put_numbers : goal.decreases-put_numbers
decreases-put_numbers l = length l.arguments.now
