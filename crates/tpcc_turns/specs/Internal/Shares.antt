-- How a view is cut in two, and two are put together.
use Rattle.std.specs.Prelude.{ℕ, ◌+◌, ◌-◌, List, [], ◌∷◌, ◌++◌}
use Rattle.tpcc_turns.specs.Knows.{Knows, Heard, Idle}
use Rattle.tpcc_turns.specs.Knows.{knows}
use Rattle.tpcc_turns.specs.Internal.TurnRule.{no_opening}

abbrev pub kept_of : Knows → Knows
kept_of v = knows v.start v.front (v.parts - 1) v.stage v.told

abbrev pub given_of : Knows → Knows
given_of v = knows v.start v.front 1 Idle []

abbrev pub heard_of : Knows → Heard
heard_of w = record { start = w.start; front = w.front; parts = w.parts }

-- what one has seen is told to the other
abbrev pub both_of : Knows → Knows → Knows
both_of v w =
    knows v.start v.front (v.parts + w.parts) v.stage (heard_of w ∷ (w.told ++ v.told))

abbrev pub nobody : Knows
nobody = knows no_opening [] 0 Idle []

-- the parts of who was joined last
abbrev pub last_parts : List Heard → ℕ
last_parts [] = 0
last_parts (x ∷ xs) = x.parts

-- who was joined last goes, with its parts, and has seen as much
abbrev pub freed_of : Knows → Knows
freed_of v = knows v.start v.front (v.parts - last_parts v.told) v.stage []

abbrev pub back_of : Knows → Knows
back_of v = knows v.start v.front (last_parts v.told) Idle []
