use Rattle.tpcc_tests.proofs.server.gates.hold_second.Given as goal

-- the turns that are named
abbrev pub ghosts-hold_second_at : goal.ghosts-hold_second_at
ghosts-hold_second_at g a = record { table = a.turns.table }
