-- How many entries each terminal has made, as a list of terminals and counts tells.
use Rattle.std.specs.Prelude.{ℕ, List, Bool, ◌==◌, find, unwrap_or, option_map}
use Rattle.tpcc_journal.specs.declared.tallies.Tally.{Tally}

abbrev pub is_of : ℕ → Tally → Bool
is_of terminal tally = tally.terminal == terminal

-- 0 for a terminal that is not listed
abbrev pub tally_of : ℕ → List Tally → ℕ
tally_of terminal tallies = unwrap_or (option_map (λ tally. tally.count) (find (is_of terminal) tallies)) 0
