use Rattle.tpcc_tests.proofs.books.pay_once.pay_once.Given as goal

-- the book that is started
abbrev pub ghosts-pay_at : goal.ghosts-pay_at
ghosts-pay_at a = record { entries = a.blanks.entries.name; cents = a.blanks.cents.name }
