use Rattle.std.specs.Prelude.{◌+◌, vec_len}
use Rattle.dmr_desk.proofs.run.try_term.Given as goal

abbrev pub ghosts-run_over-L-DeskLedger : goal.ghosts-run_over-L-DeskLedger
ghosts-run_over-L-DeskLedger g a = record
    { desk = record { site = a.service.site; limit = a.limit; actors = vec_len a.service.stations + 2 } }

abbrev pub ghosts-run_over-L-Ledger : goal.ghosts-run_over-L-Ledger
ghosts-run_over-L-Ledger g a = record { name = a.blank.name; parts = a.blank.parts }
