use Rattle.tpcc_tests.proofs.server.errands.a_server_in_a_thread_answers_who_asks.Given as goal

-- the book that is started
abbrev pub ghosts-ask_at_a_book : goal.ghosts-ask_at_a_book
ghosts-ask_at_a_book g a = record { entries = a.blanks.entries.name; cents = a.blanks.cents.name }
