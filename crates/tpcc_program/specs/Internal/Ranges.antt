-- What a person is told of a scale that there is not.
use Rattle.std.specs.Prelude.{ℕ, List, codes, Option, Some, None}
use Rattle.tpcc_population.specs.declared.scale.ScaleFault.{ScaleFault}
use Rattle.tpcc_population.specs.declared.scale.ScaleFault.TheVariants as scale
use Rattle.tpcc_program.specs.declared.words.fault.WordsFault.{WordsFault}
use Rattle.tpcc_program.specs.declared.words.fault.WordsFault.TheVariants as words

-- the range that the number left
abbrev pub range_of_scale : ScaleFault → List ℕ
range_of_scale scale.Warehouses = codes "warehouses are 1 to 100"
range_of_scale scale.Customers = codes "customers of a district are 10 to 3000, a multiple of 10"
range_of_scale scale.Items = codes "items are 100 to 100000"

-- only a scale has ranges
abbrev pub range_of : WordsFault → Option (List ℕ)
range_of words.Arguments = None
range_of words.NoMemory = None
range_of (words.Scale fault) = Some (range_of_scale fault)
