-- 4.3.3: the rows that each opening gives.
use Rattle.std.specs.Prelude.{ℕ, IsTrue, []}
use Rattle.std.specs.List.{list_all}
use Rattle.tpcc_rows.specs.Tables.{Rows, State}
use Rattle.tpcc_rows.specs.Conditions.{IsConsistent, keeps_11}
use Rattle.tpcc_rows.specs.WellKeyed.{IsWellKeyed, IsStocked}
use Rattle.tpcc_rows.specs.Layout.{Scale as Sizes, laid_out}
use Rattle.tpcc_rows.specs.Opening.{plain_rows}
use Rattle.tpcc_population.specs.declared.opening.Opening.{Opening}
use Rattle.tpcc_population.specs.declared.opening.Opening.TheVariants.{Plain, Seeded}
use Rattle.tpcc_population.specs.Seeded.{Seeding, seeded_rules}

unfoldable pub seeded_rows : Seeding → Rows
seeded_rows g = laid_out g.scale (seeded_rules g)

abbrev pub opening_rows : Opening → Rows
opening_rows (Plain scale) = plain_rows scale
opening_rows (Seeded scale seed moment) = seeded_rows (record { scale = scale; seed = seed; moment = moment })

abbrev pub opening_scale : Opening → Sizes
opening_scale (Plain scale) = scale
opening_scale (Seeded scale seed moment) = scale

-- no ticket waits
abbrev pub opening_state : Opening → State
opening_state opening = record { rows = opening_rows opening; queue = [] }

-- the rows of a fresh system, with so many customers in a district
pub record IsSoundOpening (customers : ℕ) (rows : Rows) : Type 0 where
  pub well_keyed : IsWellKeyed rows
  pub stocked : IsStocked rows
  pub consistent : IsConsistent rows
  pub condition_11 : IsTrue (list_all (keeps_11 customers rows) rows.districts)
