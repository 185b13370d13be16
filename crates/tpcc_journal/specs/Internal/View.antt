-- What a journal is seen as, and what it always keeps.
use Rattle.std.specs.Prelude.{◌≡◌, ℕ, ◌-◌, true, map, min, vec_len, vec_capacity}
use Rattle.std.specs.List.{list_all}
use Rattle.tpcc_rows.specs.Replay.{count_of}
use Rattle.tpcc_journal.specs.declared.journal.Journal.TheInside.{Inside}
use Rattle.tpcc_journal.specs.Internal.Kept.{entry_in, is_in}
use Rattle.tpcc_journal.specs.Log.{Log}
use Rattle.tpcc_journal.specs.Internal.Tallies.{tally_of}

abbrev pub log_of : Inside → Log
log_of j = record {
  entries = map (entry_in j.replies.kinds) j.entries.items;
  room = min (min (vec_capacity j.entries - vec_len j.entries) (vec_capacity j.tallies - vec_len j.tallies)) j.replies.room;
}

-- each reply is there, and the tallies count the entries
pub record IsLog (j : Inside) : Type 0 where
  pub there : list_all (λ e. is_in j.replies.kinds e.reply) j.entries.items ≡ true
  pub counted : (terminal : ℕ) → tally_of terminal j.tallies.items ≡ count_of terminal (map (entry_in j.replies.kinds) j.entries.items)
