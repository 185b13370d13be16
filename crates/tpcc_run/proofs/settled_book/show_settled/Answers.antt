use Rattle.tpcc_run.proofs.settled_book.show_settled.Goals as goal

pub returns-in-Ok-clause-shown : goal.returns-in-Ok-clause-shown
returns-in-Ok-clause-shown g c = record { book = c.args.settled.now.book; receipts = c.args.settled.now.receipts.items; told = c.requires.totals; written = c.in-Ok.ensures.written }
