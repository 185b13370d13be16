-- The purses of a desk, and what they add up to.
use Rattle.std.specs.Prelude.{◌≡◌, List, [], ◌∷◌, ◌++◌, length}
use Rattle.std.specs.List.{flat_map}
use Rattle.tpcc_book.specs.Past.{rise_of}
use Rattle.tpcc_book.specs.Purses.{PurseView, all_shares}
use Rattle.tpcc_book.specs.Serve.{rooms_of, entries_of, paid_of}
use Rattle.tpcc_core.specs.declared.mailbox.Hand.{Hand}
use Rattle.tpcc_core.specs.declared.mailbox.Hand.TheVariants as hand
use Rattle.tpcc_core.specs.declared.mailbox.Mailbox.{Mailbox}
use Rattle.tpcc_core.specs.declared.mailbox.Mailbox.TheVariants as box
use Rattle.tpcc_core.specs.Desks.{DeskNow}

-- at the terminal, in a letter or in an answer
abbrev pub purses_in : {P : Type 0} → Mailbox P → List P
purses_in (box.Free purse) = purse ∷ []
purses_in (box.Posted letter) = letter.purse ∷ []
purses_in (box.Taken server) = []
purses_in (box.Answered answer) = answer.purse ∷ []

abbrev pub purses_held : {P : Type 0} → Hand P → List P
purses_held hand.Empty = []
purses_held (hand.Holds terminal letter) = letter.purse ∷ []
purses_held (hand.Served terminal answer) = answer.purse ∷ []

-- the first purse, and those at terminals, in letters, in answers and in hands
abbrev pub purses_of : DeskNow → List PurseView
purses_of d = d.first ∷ (flat_map (λ seat. purses_in seat.mailbox) d.seats ++ flat_map purses_held d.hands)

-- the purses are all there; their entries are the journal's, their cents the rise
pub record AddsUp (d : DeskNow) : Type 0 where
  pub rooms : rooms_of (purses_of d) ≡ all_shares
  pub entries : entries_of (purses_of d) ≡ length d.book.entries
  pub paid : paid_of (purses_of d) ≡ rise_of d.book
