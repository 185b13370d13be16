use Rattle.tpcc_tests.proofs.server.gates.a_book_is_left_where_the_purse_of_a_thread_is_missing.Given as goal

-- the book that is started
abbrev pub ghosts-hold_first : goal.ghosts-hold_first
ghosts-hold_first g a = record { entries = a.blanks.entries.name; cents = a.blanks.cents.name }
