-- Nothing of an opening is broken exactly where conditions 1 to 12 hold.
use Rattle.std.proofs.Common.{◌≡◌, ℕ, None}
use Rattle.tpcc_laws.proofs.Check.{all_keep, none_broken, none_fails, none_or, nothing_broken, or_none}
use Rattle.tpcc_rows.specs.Conditions.{at_district, first_broken, keeps_11}
use Rattle.tpcc_rows.specs.Tables.{Rows}
use Rattle.tpcc_conditions.specs.First.{IsConsistentOpening, first_broken_opening}

pub nothing_broken_there : (customers : ℕ) (rows : Rows) → first_broken_opening customers rows ≡ None → IsConsistentOpening customers rows
nothing_broken_there customers rows e =
    let none = none_or (first_broken rows) _ e in
    record {
      consistent = nothing_broken rows none.0;
      condition_11 = none_fails (keeps_11 customers rows) (at_district 11) rows.districts none.1;
    }

pub none_broken_there : (customers : ℕ) (rows : Rows) → IsConsistentOpening customers rows → first_broken_opening customers rows ≡ None
none_broken_there customers rows h =
    or_none (first_broken rows) _ (none_broken rows h.consistent) (all_keep (keeps_11 customers rows) (at_district 11) rows.districts h.condition_11)
