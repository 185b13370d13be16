use Rattle.tpcc_tests.proofs.turns.at_turns.Given as goal

-- the book that is started
abbrev pub ghosts-at_opened_turns : goal.ghosts-at_opened_turns
ghosts-at_opened_turns g a = record { entries = a.blanks.entries.name; cents = a.blanks.cents.name }
