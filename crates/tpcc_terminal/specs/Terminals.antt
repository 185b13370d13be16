-- What a terminal is seen as, and what comes next.
use Rattle.std.specs.Prelude.{ℕ, ◌≡◌, List, [], ◌∷◌, drop}
use Rattle.rand_core.specs.Stream.{Stream}
use Rattle.rand_pcg.specs.Lcg.{Lcg}
use Rattle.tpcc_draws.specs.Draws.{answers, stream_at}
use Rattle.tpcc_draws.specs.Cards.{deck}
use Rattle.tpcc_draws.specs.declared.cards.Card.{Card}
use Rattle.tpcc_draws.specs.declared.cards.Card.TheVariants as cards
use Rattle.tpcc_rows.specs.Layout.{Scale}
use Rattle.tpcc_rows.specs.declared.transactions.requests.Request.{Request}
use Rattle.tpcc_terminal.specs.declared.home.Home.{Home}
use Rattle.tpcc_terminal.specs.declared.drafts.Draft.{Draft}
use Rattle.tpcc_terminal.specs.declared.receipts.Receipt.{Receipt}
use Rattle.tpcc_terminal.specs.Cards.{home_of, drawn_draft, request_of}

-- the number and the scale, the draws of the next card, the cards behind it in the deck, the generator of the
-- stream, and the receipts
pub record TerminalView : Type 0 where
  pub number : ℕ
  pub scale : Scale
  pub draft : Draft
  pub cards : List Card
  pub generator : Lcg
  pub receipts : List Receipt

-- what the next card drew, and the cards and the stream that are left behind it
pub record Ahead : Type 0 where
  pub draft : Draft
  pub cards : List Card
  pub answers : Stream

-- the cards before the next one is taken: of a new deck where none is left
abbrev pub deck_to_deal : List Card → Stream → List Card × Stream
deck_to_deal [] s = deck s
deck_to_deal (card ∷ rest) s = (card ∷ rest, s)

-- the first card; a deck is never empty
abbrev pub top : List Card → Card
top [] = cards.NewOrder
top (card ∷ rest) = card

-- the next card, and what is left
abbrev pub next_card : List Card → Stream → Card × List Card × Stream
next_card held s =
    let deal = deck_to_deal held s in
    (top deal.0, drop 1 deal.0, deal.1)

-- the next card with its draws
abbrev pub drawn_ahead : Home → List Card → Stream → Ahead
drawn_ahead home held s =
    let deal = next_card held s in
    let draft = drawn_draft home deal.0 deal.2 in
    record { draft = draft.0; cards = deal.1; answers = draft.1 }

abbrev pub ahead_of : TerminalView → Ahead
ahead_of t = record { draft = t.draft; cards = t.cards; answers = answers t.generator }

-- a terminal's stream is that of its number in table 10
pub record IsStarted (number : ℕ) (scale : Scale) (seed : ℕ) (t : TerminalView) : Type 0 where
  pub number_is : t.number ≡ number
  pub scale_is : t.scale ≡ scale
  pub ahead : ahead_of t ≡ drawn_ahead (home_of number scale) [] (stream_at seed 10 number)
  pub none : t.receipts ≡ []

-- the request of the next card, and the card behind it drawn in its turn
pub record IsAsked (old : TerminalView) (moment : ℕ) (request : Request) (new : TerminalView) : Type 0 where
  pub request_is : request ≡ request_of (home_of old.number old.scale) moment old.draft
  pub number : new.number ≡ old.number
  pub scale : new.scale ≡ old.scale
  pub ahead : ahead_of new ≡ drawn_ahead (home_of old.number old.scale) old.cards (answers old.generator)
  pub receipts : new.receipts ≡ old.receipts
