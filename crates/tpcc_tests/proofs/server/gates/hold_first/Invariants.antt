use Rattle.tpcc_tests.proofs.server.gates.hold_first.Given as goal

-- the turns that are named
abbrev pub ghosts-hold_first_at : goal.ghosts-hold_first_at
ghosts-hold_first_at g a = record { table = a.turns.table }
