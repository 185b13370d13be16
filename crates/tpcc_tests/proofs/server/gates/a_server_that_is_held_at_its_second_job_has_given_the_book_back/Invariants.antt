use Rattle.tpcc_tests.proofs.server.gates.a_server_that_is_held_at_its_second_job_has_given_the_book_back.Given as goal

-- the book that is started
abbrev pub ghosts-hold_second : goal.ghosts-hold_second
ghosts-hold_second g a = record { entries = a.blanks.entries.name; cents = a.blanks.cents.name }
