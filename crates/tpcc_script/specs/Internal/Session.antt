-- The purse of a script between two requests.
use Rattle.std.specs.Prelude.{◌≡◌, Option, Some}
use Rattle.tpcc_rows.specs.Replay.{count_of}
use Rattle.tpcc_book.specs.Past.{Past}
use Rattle.tpcc_book.specs.Purses.{PurseView}
use Rattle.tpcc_script.specs.ScriptBook.{terminal}

-- the purse is there between two requests, and made each entry of its terminal
pub record IsAtHand (past : Past) (held : Option PurseView) : Type 0 where
  pub purse : PurseView
  pub held_is : held ≡ Some purse
  pub terminal_is : purse.terminal ≡ terminal
  pub entries : purse.entries ≡ count_of terminal past.entries
