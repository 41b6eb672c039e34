use Rattle.test_trials.proofs.workers.work_all.Given as goal

abbrev pub ghosts-work_over-L-DeskLedger : goal.ghosts-work_over-L-DeskLedger
ghosts-work_over-L-DeskLedger g a = record { desk = record { site = a.site; limit = 100; actors = 3 } }

abbrev pub ghosts-work_over-L-Ledger : goal.ghosts-work_over-L-Ledger
ghosts-work_over-L-Ledger g a = record { name = a.blank.name; parts = a.blank.parts }
