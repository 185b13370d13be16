-- What contracts see of a desk.
use Rattle.std.specs.Prelude.{ℕ, zero, suc, Bool, List, [], length, slice_get, option_map, unwrap_or, nat_lt, if◌then◌else◌, Option, Some, None}
use Rattle.tpcc_book.specs.Past.{Past}
use Rattle.tpcc_book.specs.Purses.{PurseView}
use Rattle.tpcc_core.specs.declared.mailbox.Hand.{Hand}
use Rattle.tpcc_core.specs.Seats.{SeatNow, purse_at}
use Rattle.tpcc_core.specs.declared.mailbox.Collected.{Collected}

-- the book, the first purse, the terminals' seats and the servers' hands in the order of their numbers, and the closed flag
pub record DeskNow : Type 0 where
  pub book : Past
  pub first : PurseView
  pub seats : List (SeatNow PurseView)
  pub hands : List (Hand PurseView)
  pub closed : Bool

-- the place of a number, of so many that are numbered from 1
abbrev pub place_of : ℕ → ℕ → Option ℕ
place_of zero count = None
place_of (suc place) count = if nat_lt place count then Some place else None

-- what is at a place, and what has a number
abbrev pub item_in : {X : Type 0} → List X → Option ℕ → Option X
item_in xs None = None
item_in xs (Some place) = slice_get xs place

abbrev pub item : {X : Type 0} → List X → ℕ → Option X
item xs number = item_in xs (place_of number (length xs))

-- what f tells of an item, and a value where there is none
abbrev pub map_or : {X Y : Type 0} → Y → (X → Y) → Option X → Y
map_or none f found = unwrap_or (option_map f found) none

-- of a number of no terminal there is neither purse nor answer
abbrev pub purse_of : DeskNow → ℕ → Option PurseView
purse_of d terminal = map_or None (λ seat. purse_at seat.mailbox) (item d.seats terminal)

abbrev pub collected_of : DeskNow → ℕ → List Collected
collected_of d terminal = map_or [] (λ seat. seat.collected) (item d.seats terminal)
