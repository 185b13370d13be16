use Rattle.tpcc_run.proofs.runs.run_shown.Given as goal

abbrev pub ghosts-run_named : goal.ghosts-run_named
ghosts-run_named g a = record { entries = a.blanks.entries.name; cents = a.blanks.cents.name }
