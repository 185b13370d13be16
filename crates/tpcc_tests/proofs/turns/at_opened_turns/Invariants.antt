use Rattle.tpcc_tests.proofs.turns.at_opened_turns.Given as goal

-- the table that is named
abbrev pub ghosts-at_named_turns : goal.ghosts-at_named_turns
ghosts-at_named_turns g a = record { table = a.turns.table }
