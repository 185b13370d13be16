-- What the end of the turns finds: the slot of the book, and the pooled totals.
use Rattle.std.specs.Prelude.{ℕ, ℤ, ◌≡◌, ◌==◌, List, length, Option, None, if◌then◌else◌}
use mathlib.Core.Option.{some}
use lib.ListN.{get_elem?}
use Rattle.tpcc_book.specs.Past.{Past, IsKept, rise_of}
use Rattle.tpcc_book.specs.Purses.{PoolView}

-- the slot is told where the two words agree
pub record TellsBook {B : Type 0} (words : List ℕ) (slots : List (Option B)) (told : Option B) : Type 0 where
  pub drawn : ℕ
  pub served : ℕ
  pub slot : Option B
  pub drawn_is : get_elem? words 0 ≡ some drawn
  pub served_is : get_elem? words 1 ≡ some served
  pub slot_is : get_elem? slots 0 ≡ some slot
  pub told_is : told ≡ (if drawn == served then slot else None)

-- what is pooled are the book's two totals
pub record IsAudited (pool : PoolView) (book : Past) (entries : ℕ) (paid : ℤ) : Type 0 where
  pub kept : IsKept book
  pub entries_are : entries ≡ pool.entries
  pub entries_counted : entries ≡ length book.entries
  pub paid_is : paid ≡ pool.paid
  pub paid_rose : paid ≡ rise_of book
