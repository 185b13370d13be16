-- What is known of the book when the turns end.
use Rattle.std.specs.Prelude.{ℕ, ℤ, ◌≡◌, List, length, All}
use mathlib.Core.List.{IsPrefix}
use Rattle.tpcc_population.specs.declared.opening.Opening.{Opening}
use Rattle.tpcc_book.specs.Past.{Past, IsKept, rise_of}
use Rattle.tpcc_book.specs.Serve.{entries_of, paid_of}
use Rattle.tpcc_turns.specs.Seats.{SeatedView, purses_of}

-- the book of these turns, whose journal begins with all that each purse had seen
pub record IsLeft (start : Opening) (purses : List SeatedView) (book : Past) : Type 0 where
  pub opening : book.opening ≡ start
  pub begins : All (λ p. IsPrefix p.front book.entries) purses

-- once every purse is there: their entries are the journal's, and their payments are the rise of W_YTD
pub record IsGathered (start : Opening) (purses : List SeatedView) (book : Past) (entries : ℕ) (paid : ℤ) : Type 0 where
  pub left : IsLeft start purses book
  pub kept : IsKept book
  pub entries_are : entries ≡ entries_of (purses_of purses)
  pub entries_counted : entries ≡ length book.entries
  pub paid_is : paid ≡ paid_of (purses_of purses)
  pub paid_rose : paid ≡ rise_of book
