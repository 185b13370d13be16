-- Why the input of an order is refused, look-up by look-up.
use Rattle.std.proofs.Common.{◌≡◌, List, ◌∷◌, refl, sym, ◌∙◌, ap, Bool, true, false, Option, Some, None, Bor}
use Rattle.std.specs.Prelude.{is_none}
use Rattle.std.specs.Option.{option_copied, IsSome}
use Rattle.tpcc_rows.specs.declared.tables.rows.WarehouseRow.{WarehouseRow}
use Rattle.tpcc_rows.specs.declared.tables.rows.DistrictRow.{DistrictRow}
use Rattle.tpcc_rows.specs.declared.tables.rows.CustomerRow.{CustomerRow}
use Rattle.tpcc_rows.specs.declared.transactions.requests.Order.{Order}
use Rattle.tpcc_rows.specs.declared.transactions.refusals.Refusal.{Refusal}
use Rattle.tpcc_rows.specs.declared.transactions.refusals.Refusal.TheVariants.{NoWarehouse, NoDistrict, NoCustomer}
use Rattle.tpcc_rows.specs.Lists.{first_finding}
use Rattle.tpcc_rows.specs.Tables.{Rows, find_warehouse, find_district, find_customer}
use Rattle.tpcc_rows.specs.NewOrder.{order_number, order_refusal, order_refusal_by_input, order_input_tests, order_refusal_by_range, order_range_tests, stocks_after}
use Rattle.tpcc_laws.proofs.TurnKeeps.{all_false, first_none}
use Rattle.tpcc_new_order.specs.Internal.Tests.{line_tests, overruns_of, range_tests}

-- the refusal by the three look-ups and the tests of the lines
abbrev first_refusal : Option WarehouseRow → Option DistrictRow → Option CustomerRow → List (Bool × Refusal) → Option Refusal
first_refusal w d c rest = first_finding ((is_none w, NoWarehouse) ∷ (is_none d, NoDistrict) ∷ (is_none c, NoCustomer) ∷ rest)

laid_out : (rows : Rows) (o : Order) → order_refusal_by_input rows o ≡ first_refusal (find_warehouse rows o.warehouse) (find_district rows o.warehouse o.district) (find_customer rows o.warehouse o.district o.customer) (line_tests rows o.lines)
unfolding order_input_tests line_tests
laid_out rows o = refl

pub warehouse_missing : (rows : Rows) (o : Order) → find_warehouse rows o.warehouse ≡ None → order_refusal_by_input rows o ≡ Some NoWarehouse
warehouse_missing rows o e = laid_out rows o ∙ (λ i. first_refusal (e i) (find_district rows o.warehouse o.district) (find_customer rows o.warehouse o.district o.customer) (line_tests rows o.lines))

pub district_missing : (rows : Rows) (o : Order) (w : WarehouseRow) → find_warehouse rows o.warehouse ≡ Some w → find_district rows o.warehouse o.district ≡ None → order_refusal_by_input rows o ≡ Some NoDistrict
district_missing rows o w e f = laid_out rows o ∙ (λ i. first_refusal (e i) (f i) (find_customer rows o.warehouse o.district o.customer) (line_tests rows o.lines))

pub customer_missing : (rows : Rows) (o : Order) (w : WarehouseRow) (d : DistrictRow) → find_warehouse rows o.warehouse ≡ Some w → find_district rows o.warehouse o.district ≡ Some d → find_customer rows o.warehouse o.district o.customer ≡ None → order_refusal_by_input rows o ≡ Some NoCustomer
customer_missing rows o w d e f g = laid_out rows o ∙ (λ i. first_refusal (e i) (f i) (g i) (line_tests rows o.lines))

pub by_lines : (rows : Rows) (o : Order) (w : WarehouseRow) (d : DistrictRow) (c : CustomerRow) → find_warehouse rows o.warehouse ≡ Some w → find_district rows o.warehouse o.district ≡ Some d → find_customer rows o.warehouse o.district o.customer ≡ Some c → order_refusal_by_input rows o ≡ first_finding (line_tests rows o.lines)
by_lines rows o w d c e f g = laid_out rows o ∙ (λ i. first_refusal (e i) (f i) (g i) (line_tests rows o.lines))

-- the refusal by the tests of ranges
pub by_ranges : (rows : Rows) (o : Order) → first_finding (range_tests (order_number rows o) (overruns_of (stocks_after rows o))) ≡ order_refusal_by_range rows o
unfolding order_range_tests range_tests
by_ranges rows o = refl

-- ---- what a look-up answered

pub copy_is_some : {T : Type 0} (r : Option (Bor T)) (f : Option T) (x : Bor T) → option_copied r ≡ f → r ≡ Some x → f ≡ Some x.now
copy_is_some r f x e h = sym e ∙ ap option_copied h

pub copied_none : {T : Type 0} (r : Option (Bor T)) (f : Option T) → option_copied r ≡ f → r ≡ None → f ≡ None
copied_none r f e h = sym e ∙ ap option_copied h

pub there : {T : Type 0} (r : Option (Bor T)) (f : Option T) → option_copied r ≡ f → is_none f ≡ false → IsSome r
there None f e h = let no : true ≡ false = (λ i. is_none (e i)) ∙ h in cc
there (Some x) f e h = refl

-- the three rows of an order that nothing refuses are there
pub rows_there : (rows : Rows) (o : Order) → order_refusal rows o ≡ None → (is_none (find_warehouse rows o.warehouse) ≡ false) × (is_none (find_district rows o.warehouse o.district) ≡ false) × (is_none (find_customer rows o.warehouse o.district o.customer) ≡ false)
unfolding order_input_tests
rows_there rows o none =
    let t = all_false (order_input_tests rows o) (first_none (order_refusal_by_input rows o) _ none) in (t.0, t.1.0, t.1.1.0)
