-- What a register is seen as, and what every register keeps.
use Rattle.tpcc_book.specs.declared.register.ready.TheConstants.{MOST_ENTRIES}
use Rattle.std.specs.Prelude.{ℕ, ◌≡◌, ◌*◌, ◌≤◌, List, [], length, ℤ, pos, ◌≤ℤ◌}
use Rattle.tpcc_rows.specs.declared.transactions.entry.Entry.{Entry}
use Rattle.tpcc_rows.specs.Tables.{State}
use Rattle.tpcc_rows.specs.SoundState.{IsSoundState}
use Rattle.tpcc_rows.specs.Replay.{replay, IsFaithful, paid_by_entries, rise}
use Rattle.tpcc_population.specs.declared.opening.Opening.{Opening}
use Rattle.tpcc_population.specs.Opening.{opening_state, opening_rows}

-- the opening, the rows and the queue as they are now, and the journal
pub record Past : Type 0 where
  pub opening : Opening
  pub state : State
  pub entries : List Entry

-- the register of an opening: its rows, no ticket and no entry
abbrev pub opening_past : Opening → Past
opening_past opening = record { opening = opening; state = opening_state opening; entries = [] }

-- by how much the sum of W_YTD rose since the opening
abbrev pub rise_of : Past → ℤ
rise_of p = rise (opening_rows p.opening) p.state.rows

abbrev pub most_entries : ℕ
most_entries = MOST_ENTRIES

-- the rows are sound, and are the opening's followed by the journal one transaction at a time; each
-- entry is what its request gave at its place; the rise is the sum of the payments
pub record IsKept (p : Past) : Type 0 where
  pub sound : IsSoundState p.state
  pub replays : p.state ≡ replay (opening_state p.opening) p.entries
  pub faithful : IsFaithful (opening_state p.opening) p.entries
  pub few : length p.entries ≤ most_entries
  pub rises : rise_of p ≡ paid_by_entries p.entries
  pub paid_least : pos 0 ≤ℤ paid_by_entries p.entries
  pub paid_most : paid_by_entries p.entries ≤ℤ pos (500000 * length p.entries)
