-- What is shown of a book, as text.
use Rattle.std.specs.Prelude.{ℕ, List, [], ◌∷◌, ◌++◌, flat_map, length, codes}
use Rattle.tpcc_rows.specs.Conditions.{first_broken}
use Rattle.tpcc_rows.specs.Replay.{results_of}
use Rattle.tpcc_rows.specs.declared.transactions.entry.Entry.{Entry}
use Rattle.tpcc_book.specs.Past.{Past, rise_of}
use Rattle.tpcc_text.specs.Screens.{reply_screen, results_screen, check_screen}
use Rattle.tpcc_text.specs.Report.{report_text}
use Rattle.tpcc_text.specs.RequestLines.{journal_lines}
use Rattle.tpcc_show.specs.Names.{part_name}
use Rattle.tpcc_show.specs.Dump.{dump_text}
use Rattle.tpcc_show.specs.declared.parts.Part.{Part}
use Rattle.tpcc_show.specs.declared.parts.Part.TheVariants as parts

-- the screens of the stored replies, in the journal's order
abbrev pub journal_screens : List Entry → List ℕ
journal_screens entries = flat_map (λ e. reply_screen e.reply) entries

-- the report of a book: what was paid is the rise of W_YTD
abbrev pub book_report : Past → List ℕ
book_report book = report_text (length book.entries) (rise_of book) (rise_of book)

-- a part of a book, as text; a book alone has no receipts
abbrev pub part_text : Past → Part → List ℕ
part_text book parts.Screens = journal_screens book.entries
part_text book parts.Report = book_report book
part_text book parts.Journal = journal_lines book.entries
part_text book parts.Receipts = []
part_text book parts.Results = results_screen (results_of book.entries)
part_text book parts.Check = check_screen (first_broken book.state.rows)
part_text book (parts.Rows table) = dump_text book.state.rows table

-- one of a book whose screens were kept as they were shown
abbrev pub served_part : List ℕ → Past → Part → List ℕ
served_part screens book parts.Screens = screens
served_part screens book part = part_text book part

-- a part with this text under its heading
unfoldable pub headed_text : (Part → List ℕ) → Part → List ℕ
headed_text text part = codes "== " ++ (part_name part ++ (10 ∷ text part))

-- parts with these texts, in their order; one alone stands without a heading
abbrev pub parts_text : (Part → List ℕ) → List Part → List ℕ
parts_text text [] = []
parts_text text (part ∷ []) = text part
parts_text text (part ∷ next ∷ rest) = flat_map (headed_text text) (part ∷ next ∷ rest)

-- parts of a book whose screens were kept as they were shown
abbrev pub served_text : List ℕ → Past → List Part → List ℕ
served_text screens book asked = parts_text (served_part screens book) asked
