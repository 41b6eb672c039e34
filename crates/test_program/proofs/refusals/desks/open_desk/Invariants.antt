use Rattle.test_program.proofs.refusals.desks.open_desk.Given as goal

abbrev pub ghosts-refusal_of_desk-L-DeskLedger : goal.ghosts-refusal_of_desk-L-DeskLedger
ghosts-refusal_of_desk-L-DeskLedger a = record { desk = record { site = a.site; limit = 100; actors = 4 } }

abbrev pub ghosts-refusal_of_desk-L-Ledger : goal.ghosts-refusal_of_desk-L-Ledger
ghosts-refusal_of_desk-L-Ledger a = record { name = a.blank.name; parts = a.blank.parts }
