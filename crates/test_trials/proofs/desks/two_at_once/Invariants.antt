use Rattle.test_trials.proofs.desks.two_at_once.Given as goal

abbrev pub ghosts-at_once-L-DeskLedger : goal.ghosts-at_once-L-DeskLedger
ghosts-at_once-L-DeskLedger g a = record { desk = record { site = a.site; limit = a.limit; actors = 2 } }

abbrev pub ghosts-at_once-L-Ledger : goal.ghosts-at_once-L-Ledger
ghosts-at_once-L-Ledger g a = record { name = a.blank.name; parts = a.blank.parts }
