use Rattle.test_trials.proofs.desks.outcome_of.Given as goal

abbrev pub ghosts-open_and_close-L-DeskLedger : goal.ghosts-open_and_close-L-DeskLedger
ghosts-open_and_close-L-DeskLedger g a = record { desk = record { site = a.site; limit = a.limit; actors = a.actors } }

abbrev pub ghosts-open_and_close-L-Ledger : goal.ghosts-open_and_close-L-Ledger
ghosts-open_and_close-L-Ledger g a = record { name = a.blank.name; parts = a.blank.parts }
