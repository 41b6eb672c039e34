use Rattle.test_trials.proofs.desks.report_of_filled.Given as goal

abbrev pub ghosts-filled-L-DeskLedger : goal.ghosts-filled-L-DeskLedger
ghosts-filled-L-DeskLedger g a = record { desk = record { site = a.site; limit = 3; actors = 2 } }

abbrev pub ghosts-filled-L-Ledger : goal.ghosts-filled-L-Ledger
ghosts-filled-L-Ledger g a = record { name = a.blank.name; parts = a.blank.parts }
