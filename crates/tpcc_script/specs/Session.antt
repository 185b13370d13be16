-- A script's book, and the purse of its terminal.
use Rattle.std.specs.Prelude.{[]}
use Rattle.tpcc_population.specs.declared.opening.Opening.{Opening}
use Rattle.tpcc_population.specs.Opening.{opening_state}
use Rattle.tpcc_book.specs.Past.{Past}
use Rattle.tpcc_script.specs.ScriptBook.{ScriptBook}

-- a book, as a script sees it
abbrev pub book_of : Past → ScriptBook
book_of past = record { opening = past.opening; state = past.state; journal = past.entries }

-- the book of an opening: no ticket, no entry
abbrev pub opened_book : Opening → ScriptBook
opened_book opening = record { opening = opening; state = opening_state opening; journal = [] }
