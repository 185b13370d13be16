-- The requests of a terminal's next cards, as lines of a script.
use Rattle.std.specs.Prelude.{ℕ, zero, suc, List, [], ◌∷◌, flat_map}
use Rattle.tpcc_draws.specs.Draws.{answers, stream_at}
use Rattle.tpcc_rows.specs.Layout.{Scale}
use Rattle.tpcc_rows.specs.declared.transactions.requests.Request.{Request}
use Rattle.tpcc_terminal.specs.declared.home.Home.{Home}
use Rattle.tpcc_terminal.specs.Cards.{home_of, request_of}
use Rattle.tpcc_text.specs.RequestLines.{request_line}
use Rattle.tpcc_terminal.specs.Terminals.{Ahead, drawn_ahead}

-- what the next cards ask at a moment, one after another
abbrev pub asked_from : ℕ → Home → ℕ → Ahead → List Request
asked_from zero home moment ahead = []
asked_from (suc cards) home moment ahead =
    request_of home moment ahead.draft ∷ asked_from cards home moment (drawn_ahead home ahead.cards ahead.answers)

-- what a terminal's first cards ask, all at one moment
abbrev pub asked_by : ℕ → Scale → ℕ → ℕ → ℕ → List Request
asked_by number scale seed moment cards = asked_from cards (home_of number scale) moment (drawn_ahead (home_of number scale) [] (stream_at seed 10 number))

abbrev pub request_lines : List Request → List ℕ
request_lines requests = flat_map request_line requests
