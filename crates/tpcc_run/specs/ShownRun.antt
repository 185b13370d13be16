-- Parts of the book of a run, and its receipts beside it.
use Rattle.std.specs.Prelude.{ℕ, List, [], ◌∷◌, ◌++◌, flat_map, codes, decimal}
use Rattle.tpcc_book.specs.Past.{Past}
use Rattle.tpcc_terminal.specs.declared.receipts.Receipt.{Receipt}
use Rattle.tpcc_text.specs.RequestLines.{request_line}
use Rattle.tpcc_show.specs.Shown.{part_text, parts_text}
use Rattle.tpcc_show.specs.declared.parts.Part.{Part}
use Rattle.tpcc_show.specs.declared.parts.Part.TheVariants as parts

-- the terminal, the number of its entry and the entry's place in the journal, each with a comma behind it
abbrev pub receipt_numbers : Receipt → List ℕ
receipt_numbers r = decimal r.terminal ++ (44 ∷ (decimal r.number ++ (44 ∷ (decimal r.place ++ (44 ∷ [])))))

-- and the request as a script says it, up to its line feed
abbrev pub receipt_line : Receipt → List ℕ
receipt_line r = receipt_numbers r ++ request_line r.request

abbrev pub receipt_lines : List Receipt → List ℕ
receipt_lines receipts = flat_map receipt_line receipts

-- the names of the columns, and a line for each receipt
abbrev pub receipts_text : List Receipt → List ℕ
receipts_text receipts = (codes "terminal,number,place,request" ++ (10 ∷ [])) ++ receipt_lines receipts

-- a part of the book of a run
abbrev pub run_part : Past → List Receipt → Part → List ℕ
run_part book receipts parts.Receipts = receipts_text receipts
run_part book receipts part = part_text book part

-- parts of it
abbrev pub run_text : Past → List Receipt → List Part → List ℕ
run_text book receipts asked = parts_text (run_part book receipts) asked
