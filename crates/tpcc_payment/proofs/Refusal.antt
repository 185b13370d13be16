-- Why a payment is refused, look-up by look-up.
use Rattle.std.proofs.Common.{◌≡◌, Bool, true, false, List, ◌∷◌, refl, sym, ◌∙◌, ap, Option, Some, None, Bor}
use Rattle.std.specs.Prelude.{is_none, is_some, not, ◌||◌, unwrap_or}
use Rattle.std.specs.Option.{option_copied}
use Rattle.tpcc_rows.specs.declared.tables.rows.WarehouseRow.{WarehouseRow}
use Rattle.tpcc_rows.specs.declared.tables.rows.DistrictRow.{DistrictRow}
use Rattle.tpcc_rows.specs.declared.tables.rows.CustomerRow.{CustomerRow}
use Rattle.tpcc_rows.specs.declared.transactions.requests.Payment.{Payment}
use Rattle.tpcc_rows.specs.declared.transactions.refusals.Refusal.{Refusal}
use Rattle.tpcc_rows.specs.declared.transactions.refusals.Refusal.TheVariants.{NoWarehouse, NoDistrict, NoCustomer}
use Rattle.tpcc_rows.specs.Lists.{first_finding}
use Rattle.tpcc_rows.specs.Tables.{Rows, find_warehouse, find_district, warehouse_at, district_at, no_warehouse, no_district, no_customer}
use Rattle.tpcc_rows.specs.ChosenCustomer.{chosen_customer}
use Rattle.tpcc_rows.specs.Payment.{payment_refusal, payment_tests, payment_range_tests, paying_customer}

none_or : {X Y : Type 0} (a : Option X) (b : Option Y) → a ≡ None → (is_none a || is_none b) ≡ true
none_or a b e = λ i. is_none (e i) || is_none b

or_none : {X Y : Type 0} (a : Option X) (b : Option Y) (x : X) → a ≡ Some x → b ≡ None → (is_none a || is_none b) ≡ true
or_none a b x e f = λ i. is_none (e i) || is_none (f i)

both_some : {X Y : Type 0} (a : Option X) (b : Option Y) (x : X) (y : Y) → a ≡ Some x → b ≡ Some y → (is_none a || is_none b) ≡ false
both_some a b x y e f = λ i. is_none (e i) || is_none (f i)

-- the refusal by its first three tests and the tests of ranges
abbrev no_w : Rows → Payment → Bool
no_w rows p = is_none (find_warehouse rows p.warehouse) || is_none (find_warehouse rows p.customer_warehouse)

abbrev no_d : Rows → Payment → Bool
no_d rows p = is_none (find_district rows p.warehouse p.district) || is_none (find_district rows p.customer_warehouse p.customer_district)

abbrev no_c : Rows → Payment → Bool
no_c rows p = is_none (chosen_customer rows p.customer_warehouse p.customer_district p.who)

abbrev ranges : Rows → Payment → List (Bool × Refusal)
ranges rows p = payment_range_tests (warehouse_at rows p.warehouse) (district_at rows p.warehouse p.district) (paying_customer rows p) p.amount

abbrev first_refusal : Bool → Bool → Bool → List (Bool × Refusal) → Option Refusal
first_refusal w d c rest = first_finding ((w, NoWarehouse) ∷ (d, NoDistrict) ∷ (c, NoCustomer) ∷ rest)

laid_out : (rows : Rows) (p : Payment) → payment_refusal rows p ≡ first_refusal (no_w rows p) (no_d rows p) (no_c rows p) (ranges rows p)
unfolding payment_tests
laid_out rows p = refl

pub first_warehouse : (rows : Rows) (p : Payment) → find_warehouse rows p.warehouse ≡ None → payment_refusal rows p ≡ Some NoWarehouse
first_warehouse rows p e = laid_out rows p ∙ (λ i. first_refusal (none_or (find_warehouse rows p.warehouse) (find_warehouse rows p.customer_warehouse) e i) (no_d rows p) (no_c rows p) (ranges rows p))

pub second_warehouse : (rows : Rows) (p : Payment) (w : WarehouseRow) → find_warehouse rows p.warehouse ≡ Some w → find_warehouse rows p.customer_warehouse ≡ None → payment_refusal rows p ≡ Some NoWarehouse
second_warehouse rows p w e f = laid_out rows p ∙ (λ i. first_refusal (or_none (find_warehouse rows p.warehouse) (find_warehouse rows p.customer_warehouse) w e f i) (no_d rows p) (no_c rows p) (ranges rows p))

pub first_district : (rows : Rows) (p : Payment) (w w2 : WarehouseRow) → find_warehouse rows p.warehouse ≡ Some w → find_warehouse rows p.customer_warehouse ≡ Some w2 → find_district rows p.warehouse p.district ≡ None → payment_refusal rows p ≡ Some NoDistrict
first_district rows p w w2 e f g =
    laid_out rows p
    ∙ (λ i. first_refusal (both_some (find_warehouse rows p.warehouse) (find_warehouse rows p.customer_warehouse) w w2 e f i) (none_or (find_district rows p.warehouse p.district) (find_district rows p.customer_warehouse p.customer_district) g i) (no_c rows p) (ranges rows p))

pub second_district : (rows : Rows) (p : Payment) (w w2 : WarehouseRow) (d : DistrictRow) → find_warehouse rows p.warehouse ≡ Some w → find_warehouse rows p.customer_warehouse ≡ Some w2 → find_district rows p.warehouse p.district ≡ Some d → find_district rows p.customer_warehouse p.customer_district ≡ None → payment_refusal rows p ≡ Some NoDistrict
second_district rows p w w2 d e f g h =
    laid_out rows p
    ∙ (λ i. first_refusal (both_some (find_warehouse rows p.warehouse) (find_warehouse rows p.customer_warehouse) w w2 e f i) (or_none (find_district rows p.warehouse p.district) (find_district rows p.customer_warehouse p.customer_district) d g h i) (no_c rows p) (ranges rows p))

pub customer_missing : (rows : Rows) (p : Payment) (w w2 : WarehouseRow) (d d2 : DistrictRow) → find_warehouse rows p.warehouse ≡ Some w → find_warehouse rows p.customer_warehouse ≡ Some w2 → find_district rows p.warehouse p.district ≡ Some d → find_district rows p.customer_warehouse p.customer_district ≡ Some d2 → chosen_customer rows p.customer_warehouse p.customer_district p.who ≡ None → payment_refusal rows p ≡ Some NoCustomer
customer_missing rows p w w2 d d2 e f g h k =
    laid_out rows p
    ∙ (λ i. first_refusal (both_some (find_warehouse rows p.warehouse) (find_warehouse rows p.customer_warehouse) w w2 e f i) (both_some (find_district rows p.warehouse p.district) (find_district rows p.customer_warehouse p.customer_district) d d2 g h i) (is_none (k i)) (ranges rows p))

pub by_ranges : (rows : Rows) (p : Payment) (w w2 : WarehouseRow) (d d2 : DistrictRow) (c : CustomerRow) → find_warehouse rows p.warehouse ≡ Some w → find_warehouse rows p.customer_warehouse ≡ Some w2 → find_district rows p.warehouse p.district ≡ Some d → find_district rows p.customer_warehouse p.customer_district ≡ Some d2 → chosen_customer rows p.customer_warehouse p.customer_district p.who ≡ Some c → payment_refusal rows p ≡ first_finding (payment_range_tests w d c p.amount)
by_ranges rows p w w2 d d2 c e f g h k =
    laid_out rows p
    ∙ (λ i. first_refusal (both_some (find_warehouse rows p.warehouse) (find_warehouse rows p.customer_warehouse) w w2 e f i) (both_some (find_district rows p.warehouse p.district) (find_district rows p.customer_warehouse p.customer_district) d d2 g h i) (is_none (k i)) (payment_range_tests (unwrap_or (e i) no_warehouse) (unwrap_or (g i) no_district) (unwrap_or (k i) no_customer) p.amount))

-- ---- what a look-up answered

pub copy_is_some : {T : Type 0} (r : Option (Bor T)) (f : Option T) (x : Bor T) → option_copied r ≡ f → r ≡ Some x → f ≡ Some x.now
copy_is_some r f x e h = sym e ∙ ap option_copied h

pub copied_none : {T : Type 0} (r : Option (Bor T)) (f : Option T) → option_copied r ≡ f → r ≡ None → f ≡ None
copied_none r f e h = sym e ∙ ap option_copied h

pub is_missing : {T : Type 0} (r : Option (Bor T)) (f : Option T) (b : Bool) → option_copied r ≡ f → is_some r ≡ not b → b ≡ true → f ≡ None
is_missing None f b e h k = sym e
is_missing (Some x) f b e h k = let no : true ≡ false = h ∙ ap not k in cc

pub is_there : {T : Type 0} (r : Option (Bor T)) (f : Option T) (b : Bool) → option_copied r ≡ f → is_some r ≡ not b → b ≡ false → (x : T) × (f ≡ Some x)
is_there None f b e h k = let no : false ≡ true = h ∙ ap not k in cc
is_there (Some x) f b e h k = (x.now, sym e)

pub look_up_is_some : {T : Type 0} (r : Option (Bor T)) (f : Option T) (x : T) → option_copied r ≡ f → f ≡ Some x → is_some r ≡ true
look_up_is_some None f x e h = let no : false ≡ true = λ i. is_some ((e ∙ h) i) in cc
look_up_is_some (Some y) f x e h = refl
