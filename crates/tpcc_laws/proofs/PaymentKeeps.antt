-- A payment keeps the conditions.
use Rattle.std.proofs.Common.{◌≡◌, ℕ, ◌==◌, Bool, true, false, List, [], ◌∷◌, ◌++◌, refl, ap, ◌∙◌, arith}
use Rattle.std.specs.Prelude.{ℤ, ◌+ℤ◌, ◌-ℤ◌, filter, if◌then◌else◌, ◌&&◌}
use Rattle.std.specs.List.{list_all}
use Rattle.std.specs.Ordering.{int_eq}
use Rattle.std.proofs.lemmas.Int.{ints}
use Rattle.std.proofs.lemmas.Bool.Decides.{nat_tests, Decides-int_eq}
use Rattle.tpcc_money.specs.Amounts.{total}
use Rattle.tpcc_rows.specs.declared.tables.rows.DistrictRow.{DistrictRow}
use Rattle.tpcc_rows.specs.declared.tables.rows.CustomerRow.{CustomerRow}
use Rattle.tpcc_rows.specs.declared.transactions.requests.Payment.{Payment}
use Rattle.tpcc_rows.specs.Tables.{Rows, is_warehouse, is_district, is_customer, is_paid_by}
use Rattle.tpcc_rows.specs.Conditions.{IsConsistent, keeps_1, keeps_2, keeps_3, keeps_4, keeps_5, keeps_6, keeps_7, keeps_8, keeps_9, keeps_10, keeps_12, delivered_to}
use Rattle.tpcc_rows.specs.Payment.{after_payment, paid_warehouse, paid_district, paid_customer, payment_history, paying_customer}
use Rattle.tpcc_laws.proofs.List.{has_one, list_all-updated, total-updated_none, total-updated_one, total-push}

pub equal : (x y : ℤ) → int_eq x y ≡ true → x ≡ y
equal x y h = (Decides-int_eq x y).0 h

pub as_equal : (x y : ℤ) → x ≡ y → int_eq x y ≡ true
as_equal x y h = (Decides-int_eq x y).1 h

-- both sides of an equation that holds are changed alike
pub both_sides_rise : (x y x' y' a : ℤ) → int_eq x y ≡ true → x' ≡ x +ℤ a → y' ≡ y +ℤ a → int_eq x' y' ≡ true
both_sides_rise x y x' y' a h e f = let same = equal x y h in as_equal x' y' (omega (arith, ints))

pub stays : (x y y' : ℤ) → int_eq x y ≡ true → y' ≡ y → int_eq x y' ≡ true
stays x y y' h e = ap (int_eq x) e ∙ h

district_of_other : (d : DistrictRow) (w W D : ℕ) → (w == W) ≡ false → is_district W D d ≡ true → (d.warehouse == w) ≡ false
district_of_other d w W D other here = grind (arith, nat_tests)

district_of_this : (d : DistrictRow) (w W D : ℕ) → (w == W) ≡ true → is_district W D d ≡ true → (d.warehouse == w) ≡ true
district_of_this d w W D this here = grind (arith, nat_tests)

pub payment_keeps_1 : (rows : Rows) (p : Payment) → has_one (is_district p.warehouse p.district) rows.districts ≡ true → list_all (keeps_1 rows) rows.warehouses ≡ true → list_all (keeps_1 (after_payment rows p)) (after_payment rows p).warehouses ≡ true
unfolding keeps_1 after_payment
payment_keeps_1 rows p one =
    list_all-updated (keeps_1 rows) (keeps_1 (after_payment rows p)) (is_warehouse p.warehouse) (paid_warehouse p)
    (λ w h other. stays w.ytd (total (λ d. d.ytd) (filter (λ d. d.warehouse == w.id) rows.districts)) _ h (total-updated_none (λ d. d.ytd) (λ d. d.warehouse == w.id) (is_district p.warehouse p.district) (paid_district p) (λ d here. (district_of_other d w.id p.warehouse p.district other here, district_of_other d w.id p.warehouse p.district other here)) rows.districts))
    (λ w h this. both_sides_rise w.ytd (total (λ d. d.ytd) (filter (λ d. d.warehouse == w.id) rows.districts)) _ _ p.amount h refl (total-updated_one (λ d. d.ytd) (λ d. d.warehouse == w.id) (is_district p.warehouse p.district) (paid_district p) p.amount (λ d here. (district_of_this d w.id p.warehouse p.district this here, district_of_this d w.id p.warehouse p.district this here, refl)) rows.districts one))
    rows.warehouses

-- ---- HISTORY with one more row

pub push_in : {X : Type 0} (column : X → ℤ) (q : X → Bool) (xs : List X) (y : X) → q y ≡ true → total column (filter q (xs ++ y ∷ [])) ≡ total column (filter q xs) +ℤ column y
push_in column q xs y e = total-push column q xs y ∙ ap (λ b. if b then total column (filter q xs) +ℤ column y else total column (filter q xs)) e

pub push_out : {X : Type 0} (column : X → ℤ) (q : X → Bool) (xs : List X) (y : X) → q y ≡ false → total column (filter q (xs ++ y ∷ [])) ≡ total column (filter q xs)
push_out column q xs y e = total-push column q xs y ∙ ap (λ b. if b then total column (filter q xs) +ℤ column y else total column (filter q xs)) e

pub same_warehouse : (w W : ℕ) (b : Bool) → (w == W) ≡ b → (W == w) ≡ b
same_warehouse w W true e = grind (arith, nat_tests)
same_warehouse w W false e = grind (arith, nat_tests)

pub same_district : (d : DistrictRow) (W D : ℕ) (b : Bool) → is_district W D d ≡ b → ((W == d.warehouse) && (D == d.id)) ≡ b
same_district d W D true e = grind (arith, nat_tests)
same_district d W D false e = grind (arith, nat_tests)

pub same_customer : (c : CustomerRow) (W D C : ℕ) (b : Bool) → is_customer W D C c ≡ b → ((W == c.warehouse) && (D == c.district) && (C == c.id)) ≡ b
same_customer c W D C true e = grind (arith, nat_tests)
same_customer c W D C false e = grind (arith, nat_tests)

pub payment_keeps_8 : (rows : Rows) (p : Payment) → list_all (keeps_8 rows) rows.warehouses ≡ true → list_all (keeps_8 (after_payment rows p)) (after_payment rows p).warehouses ≡ true
unfolding keeps_8 after_payment
payment_keeps_8 rows p =
    list_all-updated (keeps_8 rows) (keeps_8 (after_payment rows p)) (is_warehouse p.warehouse) (paid_warehouse p)
    (λ w h other. stays w.ytd (total (λ h. h.amount) (filter (λ h. h.warehouse == w.id) rows.histories)) _ h (push_out (λ h. h.amount) (λ h. h.warehouse == w.id) rows.histories (payment_history rows p (paying_customer rows p)) (same_warehouse w.id p.warehouse false other)))
    (λ w h this. both_sides_rise w.ytd (total (λ h. h.amount) (filter (λ h. h.warehouse == w.id) rows.histories)) _ _ p.amount h refl (push_in (λ h. h.amount) (λ h. h.warehouse == w.id) rows.histories (payment_history rows p (paying_customer rows p)) (same_warehouse w.id p.warehouse true this)))
    rows.warehouses

pub payment_keeps_9 : (rows : Rows) (p : Payment) → list_all (keeps_9 rows) rows.districts ≡ true → list_all (keeps_9 (after_payment rows p)) (after_payment rows p).districts ≡ true
unfolding keeps_9 after_payment
payment_keeps_9 rows p =
    list_all-updated (keeps_9 rows) (keeps_9 (after_payment rows p)) (is_district p.warehouse p.district) (paid_district p)
    (λ d h other. stays d.ytd (total (λ h. h.amount) (filter (λ h. (h.warehouse == d.warehouse) && (h.district == d.id)) rows.histories)) _ h (push_out (λ h. h.amount) (λ h. (h.warehouse == d.warehouse) && (h.district == d.id)) rows.histories (payment_history rows p (paying_customer rows p)) (same_district d p.warehouse p.district false other)))
    (λ d h this. both_sides_rise d.ytd (total (λ h. h.amount) (filter (λ h. (h.warehouse == d.warehouse) && (h.district == d.id)) rows.histories)) _ _ p.amount h refl (push_in (λ h. h.amount) (λ h. (h.warehouse == d.warehouse) && (h.district == d.id)) rows.histories (payment_history rows p (paying_customer rows p)) (same_district d p.warehouse p.district true this)))
    rows.districts

-- balance and payments
balance_falls : (b d t t' a : ℤ) → int_eq b (d -ℤ t) ≡ true → t' ≡ t +ℤ a → int_eq (b -ℤ a) (d -ℤ t') ≡ true
balance_falls b d t t' a h e = let same = equal b (d -ℤ t) h in as_equal (b -ℤ a) (d -ℤ t') (omega (arith, ints))

balance_stays : (b d t t' : ℤ) → int_eq b (d -ℤ t) ≡ true → t' ≡ t → int_eq b (d -ℤ t') ≡ true
balance_stays b d t t' h e = ap (λ u. int_eq b (d -ℤ u)) e ∙ h

across : (b y d a : ℤ) → int_eq (b +ℤ y) d ≡ true → int_eq ((b -ℤ a) +ℤ (y +ℤ a)) d ≡ true
across b y d a h = let same = equal (b +ℤ y) d h in as_equal ((b -ℤ a) +ℤ (y +ℤ a)) d (omega (arith, ints))

pub payment_keeps_10 : (rows : Rows) (p : Payment) → list_all (keeps_10 rows) rows.customers ≡ true → list_all (keeps_10 (after_payment rows p)) (after_payment rows p).customers ≡ true
unfolding keeps_10 after_payment
payment_keeps_10 rows p =
    let payer = paying_customer rows p in
    let paid = payment_history rows p payer in
    list_all-updated (keeps_10 rows) (keeps_10 (after_payment rows p)) (is_customer payer.warehouse payer.district payer.id) (paid_customer p)
    (λ c h other. balance_stays c.balance (delivered_to rows c) _ _ h (push_out (λ h. h.amount) (is_paid_by c.warehouse c.district c.id) rows.histories paid (same_customer c payer.warehouse payer.district payer.id false other)))
    (λ c h this. balance_falls c.balance (delivered_to rows c) _ _ p.amount h (push_in (λ h. h.amount) (is_paid_by c.warehouse c.district c.id) rows.histories paid (same_customer c payer.warehouse payer.district payer.id true this)))
    rows.customers

pub payment_keeps_12 : (rows : Rows) (p : Payment) → list_all (keeps_12 rows) rows.customers ≡ true → list_all (keeps_12 (after_payment rows p)) (after_payment rows p).customers ≡ true
unfolding keeps_12 after_payment
payment_keeps_12 rows p =
    let payer = paying_customer rows p in
    list_all-updated (keeps_12 rows) (keeps_12 (after_payment rows p)) (is_customer payer.warehouse payer.district payer.id) (paid_customer p) (λ c h other. h)
    (λ c h this. across c.balance c.ytd_payment (delivered_to rows c) p.amount h) rows.customers

-- a payment keeps all eleven
pub payment_is_consistent : (rows : Rows) (p : Payment) → has_one (is_district p.warehouse p.district) rows.districts ≡ true → IsConsistent rows → IsConsistent (after_payment rows p)
unfolding after_payment keeps_2 keeps_3 keeps_4 keeps_5 keeps_6 keeps_7
payment_is_consistent rows p one h =
    let in_place = is_district p.warehouse p.district in
    record {
      condition_1 = payment_keeps_1 rows p one h.condition_1;
      condition_2 = list_all-updated (keeps_2 rows) (keeps_2 (after_payment rows p)) in_place (paid_district p) (λ d k other. k) (λ d k this. k) rows.districts h.condition_2;
      condition_3 = list_all-updated (keeps_3 rows) (keeps_3 (after_payment rows p)) in_place (paid_district p) (λ d k other. k) (λ d k this. k) rows.districts h.condition_3;
      condition_4 = list_all-updated (keeps_4 rows) (keeps_4 (after_payment rows p)) in_place (paid_district p) (λ d k other. k) (λ d k this. k) rows.districts h.condition_4;
      condition_5 = h.condition_5;
      condition_6 = h.condition_6;
      condition_7 = h.condition_7;
      condition_8 = payment_keeps_8 rows p h.condition_8;
      condition_9 = payment_keeps_9 rows p h.condition_9;
      condition_10 = payment_keeps_10 rows p h.condition_10;
      condition_12 = payment_keeps_12 rows p h.condition_12;
    }
