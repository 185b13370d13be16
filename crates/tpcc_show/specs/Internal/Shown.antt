-- The line over a part.
use Rattle.std.specs.Prelude.{ℕ, List, [], ◌∷◌, ◌++◌, codes}
use Rattle.tpcc_show.specs.Names.{part_name}
use Rattle.tpcc_show.specs.declared.parts.Part.{Part}

-- the line over a part
abbrev pub named_line : Part → List ℕ
named_line part = part_name part ++ (10 ∷ [])

abbrev pub heading : Part → List ℕ
heading part = codes "== " ++ named_line part
