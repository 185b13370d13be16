use Rattle.tpcc_tests.proofs.desk.at_desk.Given as goal

-- the desk that is started
abbrev pub ghosts-at_named_desk : goal.ghosts-at_named_desk
ghosts-at_named_desk g a = record { entries = a.blanks.entries.name; cents = a.blanks.cents.name }
