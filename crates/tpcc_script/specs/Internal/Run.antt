-- A call that was served, whatever its screen.
use Rattle.std.specs.Prelude.{ℕ, List}
use Rattle.tpcc_text.specs.declared.script.call.Call.{Call}
use Rattle.tpcc_script.specs.ScriptBook.{ScriptBook}
use Rattle.tpcc_script.specs.Run.{Shows}

-- a call was served, and had some screen
pub record HasServed (old : ScriptBook) (call : Call) (new : ScriptBook) : Type 0 where
  pub screen : List ℕ
  pub shows : Shows old call screen new
