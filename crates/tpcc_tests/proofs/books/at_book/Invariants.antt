use Rattle.tpcc_tests.proofs.books.at_book.Given as goal

-- the book that is started
abbrev pub ghosts-at_named_book : goal.ghosts-at_named_book
ghosts-at_named_book g a = record { entries = a.blanks.entries.name; cents = a.blanks.cents.name }
