-- The requests of a terminal's next cards, one after another.
use Rattle.std.specs.Prelude.{◌≡◌, ℕ, List}
use Rattle.tpcc_draws.specs.Draws.{answers}
use Rattle.tpcc_rows.specs.declared.transactions.requests.Request.{Request}
use Rattle.tpcc_terminal.specs.Cards.{home_of, request_of}
use Rattle.tpcc_text.specs.RequestLines.{request_line}
use Rattle.tpcc_terminal.specs.Terminals.{TerminalView, ahead_of, drawn_ahead}
use Rattle.tpcc_program.specs.Requests.{asked_from}

-- what a terminal's next cards ask, all at one moment
abbrev pub asked_next : TerminalView → ℕ → ℕ → List Request
asked_next t moment cards = asked_from cards (home_of t.number t.scale) moment (ahead_of t)

-- the line of a terminal's next card
abbrev pub next_line : TerminalView → ℕ → List ℕ
next_line t moment = request_line (request_of (home_of t.number t.scale) moment t.draft)

-- one card was asked
pub record IsTold (old new : TerminalView) : Type 0 where
  pub number : new.number ≡ old.number
  pub scale : new.scale ≡ old.scale
  pub ahead : ahead_of new ≡ drawn_ahead (home_of old.number old.scale) old.cards (answers old.generator)
