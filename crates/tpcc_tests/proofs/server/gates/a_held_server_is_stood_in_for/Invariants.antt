use Rattle.tpcc_tests.proofs.server.gates.a_held_server_is_stood_in_for.Given as goal

-- the book that is started
abbrev pub ghosts-hold_first : goal.ghosts-hold_first
ghosts-hold_first g a = record { entries = a.blanks.entries.name; cents = a.blanks.cents.name }
