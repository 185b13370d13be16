-- What a purse is seen as, and what purses have together.
use Rattle.tpcc_book.specs.declared.purse.TheConstants.{ALL_SHARES, MOST_PURSES}
use Rattle.std.specs.Prelude.{ℕ, ◌+◌, ℤ, pos, ◌+ℤ◌}

-- the terminal, how many entries it made, what it paid, and how many purses it can still split off
pub record PurseView : Type 0 where
  pub terminal : ℕ
  pub entries : ℕ
  pub paid : ℤ
  pub room : ℕ

-- purses put together: how many parts of the book they are, their entries and payments
pub record PoolView : Type 0 where
  pub parts : ℕ
  pub entries : ℕ
  pub paid : ℤ

-- one purse is one part, and one for each that it can still split off
abbrev pub pool_of : PurseView → PoolView
pool_of p = record { parts = p.room + 1; entries = p.entries; paid = p.paid }

-- how many purses can be split off the first purse of a book
abbrev pub most_purses : ℕ
most_purses = MOST_PURSES

-- the parts of a book: the first purse is one, and so is each that can be split off it
abbrev pub all_shares : ℕ
all_shares = ALL_SHARES

-- the first purse of a book, before any is split off
abbrev pub first_purse : PurseView
first_purse = record { terminal = 0; entries = 0; paid = pos 0; room = most_purses }

abbrev pub pool_with : PoolView → PurseView → PoolView
pool_with pool p =
    record { parts = pool.parts + (p.room + 1); entries = pool.entries + p.entries; paid = pool.paid +ℤ p.paid }
