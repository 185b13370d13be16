use Rattle.tpcc_run.proofs.run_context.RunContext.settle_book.Given as goal

abbrev pub ghosts-run_seated : goal.ghosts-run_seated
ghosts-run_seated g a = record { table = a.turns.table }
