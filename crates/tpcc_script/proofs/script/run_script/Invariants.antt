use Rattle.tpcc_script.proofs.script.run_script.Given as goal

abbrev pub ghosts-run_named : goal.ghosts-run_named
ghosts-run_named g a = record { entries = a.blanks.entries.name; cents = a.blanks.cents.name }
