use Rattle.tpcc_tests.proofs.server.errands.ask_at_a_book.Given as goal

-- the turns that are named
abbrev pub ghosts-ask_at_its_turns : goal.ghosts-ask_at_its_turns
ghosts-ask_at_its_turns g a = record { table = a.turns.table }
