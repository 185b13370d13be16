-- Parts of the book that a script leaves.
use Rattle.std.specs.Prelude.{ℕ, List, [], Option, Some, Result}
use Rattle.std.specs.Io.KnownBytes.{Appends}
use Rattle.tpcc_book.specs.Past.{Past}
use Rattle.tpcc_text.specs.Prefix.{AppendsPrefix}
use Rattle.tpcc_show.specs.declared.parts.Part.{Part}
use Rattle.tpcc_show.specs.Shown.{served_text}
use Rattle.tpcc_text.specs.declared.script.fault.ScriptFault.{ScriptFault}
use Rattle.tpcc_text.specs.Script.{Script}
use Rattle.tpcc_script.specs.Run.{IsCounted}
use Rattle.tpcc_script.specs.ScriptBook.{ScriptBook}
use Rattle.tpcc_script.specs.Session.{book_of}

-- a script ran on a book to its end or its fault, and parts of the book that it left were written; its screens
-- are one of them where it is asked for
pub record HasShownScript (start : ScriptBook) (script : Script) (asked : List Part) (old new : Option (List ℕ)) (ended : Result ℕ ScriptFault) : Type 0 where
  pub book : Past
  pub screens : List ℕ
  pub ran : IsCounted start script (Some []) (Some screens) (book_of book) ended
  pub written : Appends old new (served_text screens book asked)

-- a script ran so, and some first bytes of the parts of the book that it left were written
pub record HasShownScriptPrefix (start : ScriptBook) (script : Script) (asked : List Part) (old new : Option (List ℕ)) : Type 0 where
  pub book : Past
  pub screens : List ℕ
  pub ended : Result ℕ ScriptFault
  pub ran : IsCounted start script (Some []) (Some screens) (book_of book) ended
  pub part : AppendsPrefix old new (served_text screens book asked)
