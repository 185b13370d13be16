use Rattle.tpcc_script.proofs.shown_script.show_script.Given as goal

abbrev pub ghosts-show_named : goal.ghosts-show_named
ghosts-show_named g a = record { entries = a.blanks.entries.name; cents = a.blanks.cents.name }
