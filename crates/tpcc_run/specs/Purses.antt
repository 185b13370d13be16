-- The purses of a run, all split off one purse.
use Rattle.std.specs.Prelude.{ℕ, ◌+◌, pos}
use Rattle.tpcc_book.specs.Purses.{PurseView}
use Rattle.tpcc_turns.specs.Seats.{SeatedView}

-- a terminal's purse that has made no entry, and can't be split
abbrev pub empty_purse : ℕ → PurseView
empty_purse number = record { terminal = number; entries = 0; paid = pos 0; room = 0 }

-- such a purse that is split off another, and has seen as much
abbrev pub split_off : SeatedView → ℕ → SeatedView
split_off from number = record { purse = empty_purse number; start = from.start; front = from.front }

-- a purse before so many were split off it
abbrev pub with_rooms : SeatedView → ℕ → SeatedView
with_rooms rest count = record {
  purse = record rest.purse { room = rest.purse.room + count };
  start = rest.start;
  front = rest.front;
}
