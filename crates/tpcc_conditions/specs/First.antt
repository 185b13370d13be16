-- The first row of a table at which a condition fails.
use Rattle.std.specs.Prelude.{ℕ, IsTrue, Option}
use Rattle.std.specs.List.{list_all}
use Rattle.std.specs.Option.{option_or}
use Rattle.tpcc_rows.specs.Conditions.{Broken, IsConsistent, first_broken, first_failing, at_warehouse, at_district, at_order, at_order_line, at_customer, keeps_1, keeps_2, keeps_3, keeps_4, keeps_5, keeps_6, keeps_7, keeps_8, keeps_9, keeps_10, keeps_11, keeps_12}
use Rattle.tpcc_rows.specs.Tables.{Rows}
use Rattle.tpcc_conditions.specs.declared.condition.Condition.{Condition}
use Rattle.tpcc_conditions.specs.declared.condition.Condition.TheVariants.{One, Two, Three, Four, Five, Six, Seven, Eight, Nine, Ten, Eleven, Twelve}

-- the first failing row of all rows
abbrev pub first_of : Condition → Rows → Option Broken
first_of One rows = first_failing (keeps_1 rows) (at_warehouse 1) rows.warehouses
first_of Two rows = first_failing (keeps_2 rows) (at_district 2) rows.districts
first_of Three rows = first_failing (keeps_3 rows) (at_district 3) rows.districts
first_of Four rows = first_failing (keeps_4 rows) (at_district 4) rows.districts
first_of Five rows = first_failing (keeps_5 rows) (at_order 5) rows.orders
first_of Six rows = first_failing (keeps_6 rows) (at_order 6) rows.orders
first_of Seven rows = first_failing (keeps_7 rows) (at_order_line 7) rows.order_lines
first_of Eight rows = first_failing (keeps_8 rows) (at_warehouse 8) rows.warehouses
first_of Nine rows = first_failing (keeps_9 rows) (at_district 9) rows.districts
first_of Ten rows = first_failing (keeps_10 rows) (at_customer 10) rows.customers
first_of (Eleven customers) rows = first_failing (keeps_11 customers rows) (at_district 11) rows.districts
first_of Twelve rows = first_failing (keeps_12 rows) (at_customer 12) rows.customers

-- 3.3.2.11 comes last, and is asked of an opening with so many customers in a district
abbrev pub first_broken_opening : ℕ → Rows → Option Broken
first_broken_opening customers rows = option_or (first_broken rows) (first_of (Eleven customers) rows)

-- 3.3.2: an opening at which conditions 1 to 12 hold
pub record IsConsistentOpening (customers : ℕ) (rows : Rows) : Type 0 where
  pub consistent : IsConsistent rows
  pub condition_11 : IsTrue (list_all (keeps_11 customers rows) rows.districts)
