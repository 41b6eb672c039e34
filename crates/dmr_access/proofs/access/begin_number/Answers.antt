use Rattle.dmr_access.proofs.NoiseLemmas.{sum-with_poll, oldest_is}
use Rattle.dmr_access.proofs.access.begin_number.Goals as goal

pub returns-in-Some-clause-fewer : goal.returns-in-Some-clause-fewer
returns-in-Some-clause-fewer c = sum-with_poll c.args.noise.now.items c.from.result c.requires.all cc

pub returns-in-None-clause-fewer : goal.returns-in-None-clause-fewer
returns-in-None-clause-fewer c = absurd (oldest_is c.args.noise.now.items c.requires.all cc)
