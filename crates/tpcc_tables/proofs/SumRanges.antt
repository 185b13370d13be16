-- How large the sums are.
use Rattle.std.proofs.Common.{◌≡◌, ℕ, zero, suc, ◌+◌, ◌*◌, ◌^◌, ◌<◌, ◌≤◌, Bool, true, List, [], ◌∷◌, length, take, refl, sym, ap, ◌∙◌, arith}
use Rattle.std.specs.Prelude.{ℤ, pos, ◌+ℤ◌, ◌≤ℤ◌, filter, sum_by, nat_le, ◌==◌, ◌&&◌, is_some}
use Rattle.std.specs.List.{list_all}
use Rattle.std.proofs.lemmas.Int.{ints}
use Rattle.std.proofs.lemmas.Bool.Decides.{nat_tests}
use Rattle.std.proofs.lemmas.List.Sums.{sum_by-cons}
use Rattle.std.proofs.lemmas.List.{length-take}
use Rattle.tpcc_money.specs.Amounts.{total}
use Rattle.tpcc_rows.specs.declared.tables.rows.WarehouseRow.{WarehouseRow}
use Rattle.tpcc_rows.specs.declared.tables.rows.DistrictRow.{DistrictRow}
use Rattle.tpcc_rows.specs.declared.tables.rows.CustomerRow.{CustomerRow}
use Rattle.tpcc_rows.specs.declared.tables.rows.HistoryRow.{HistoryRow}
use Rattle.tpcc_rows.specs.declared.tables.rows.OrderRow.{OrderRow}
use Rattle.tpcc_rows.specs.declared.tables.rows.OrderLineRow.{OrderLineRow}
use Rattle.tpcc_rows.specs.Lists.{is_ascending, key_before}
use Rattle.tpcc_rows.specs.Ranges.{is_amount_within, is_within, is_history_row, is_order_row, is_order_line_row, is_order_id, is_district_id, is_warehouse_id, is_customer_id, is_moment, is_null_or, is_carrier, is_text}
use Rattle.tpcc_rows.specs.Tables.{Rows, warehouse_key, district_key, customer_key, order_key, is_order_of, is_line_of, is_paid_by, lines_of, orders_in, orders_of}
use Rattle.tpcc_rows.specs.WellKeyed.{IsWellKeyed}
use Rattle.tpcc_rows.specs.Conditions.{delivered_amount}
use Rattle.tpcc_rows.proofs.Booleans.{split}
use Rattle.tpcc_rows.proofs.PrintableTexts.{list_all-take}
use Rattle.tpcc_laws.proofs.Numbers.{amount_within, is_amount, within}
use Rattle.tpcc_tables.specs.declared.sums.Sums.{Sums}
use Rattle.tpcc_tables.specs.Internal.Sums.{warehouse_sums_key, district_sums_key, customer_sums_key, warehouse_sums, district_sums, customer_sums, AreSums, first_rows, is_payments_sum, is_order_amount, is_delivered_sum, is_lines_sum, CanGrow}
use Rattle.tpcc_tables.proofs.Filter.{filter-twice}
use Rattle.tpcc_tables.proofs.Line.{few_lines}
use Rattle.tpcc_tables.proofs.DeliveryFacts.{line_is_paid}
use Rattle.tpcc_tables.specs.declared.tables.Tables.TheInside.{Inside}
use Rattle.tpcc_tables.specs.Internal.View.{rows_of, AreTables}
use Rattle.tpcc_tables.proofs.Sum.{in_order, each_value}
use Rattle.tpcc_tables.proofs.Rising.{rising, rising_count, order_rises, in_district}
use Rattle.tpcc_rows.specs.declared.limits.TheConstants.{GREATEST_LINE_AMOUNT, GREATEST_ORDER}

-- ---- sums of numbers in a range

pub all-filter : {X : Type 0} (test q : X → Bool) (xs : List X) → list_all test xs ≡ true → list_all test (filter q xs) ≡ true
all-filter test q [] h = refl
all-filter test q (x ∷ xs) h = grind (arith, all-filter test q xs)

pub fewer : {X : Type 0} (q : X → Bool) (xs : List X) → length (filter q xs) ≤ length xs
fewer q [] = omega arith
fewer q (x ∷ xs) = grind (arith, fewer q xs)

-- each of at most so many
abbrev pub IsUpTo : ℕ → ℤ → Type 0
IsUpTo most n = (pos 0 ≤ℤ n) × (n ≤ℤ pos most)

one_more_up_to : (n most : ℕ) (a t : ℤ) → IsUpTo most a → IsUpTo (n * most) t → IsUpTo (suc n * most) (a +ℤ t)
one_more_up_to n most a t h k = (omega (arith, ints, h, k), omega (arith, ints, h, k))

pub total_up_to : {X : Type 0} (column : X → ℤ) (test : X → Bool) (most : ℕ) → ((x : X) → test x ≡ true → IsUpTo most (column x)) → (xs : List X) → list_all test xs ≡ true → IsUpTo (length xs * most) (total column xs)
total_up_to column test most each [] h = (omega (arith, ints), omega (arith, ints))
total_up_to column test most each (x ∷ xs) h =
    let s = split (test x) (list_all test xs) h in
    one_more_up_to (length xs) most (column x) (total column xs) (each x s.0) (total_up_to column test most each xs s.1)

one_more_sum : (n most a t : ℕ) → a ≤ most → t ≤ n * most → a + t ≤ suc n * most
one_more_sum n most a t h k = omega arith

sum_up_to : {X : Type 0} (column : X → ℕ) (test : X → Bool) (most : ℕ) → ((x : X) → test x ≡ true → column x ≤ most) → (xs : List X) → list_all test xs ≡ true → sum_by column xs ≤ length xs * most
sum_up_to column test most each [] h = omega arith
sum_up_to column test most each (x ∷ xs) h =
    let s = split (test x) (list_all test xs) h in
    let more = one_more_sum (length xs) most (column x) (sum_by column xs) (each x s.0) (sum_up_to column test most each xs s.1) in
    omega (arith, more, sum_by-cons column x xs)

-- ---- the columns

history_amount : (h : HistoryRow) → is_history_row h ≡ true → IsUpTo 999999 h.amount
unfolding is_history_row
history_amount h e =
    let a = amount_within (pos 1) GREATEST_LINE_AMOUNT h.amount (split _ (is_amount_within (pos 1) GREATEST_LINE_AMOUNT h.amount) (split _ (is_text 24 h.information) e).0).1 in
    (omega (arith, ints, a), a.1)

pub line_amount : (l : OrderLineRow) → is_order_line_row l ≡ true → IsUpTo 999999 l.amount
line_amount l e = amount_within (pos 0) GREATEST_LINE_AMOUNT l.amount (line_is_paid l e)

pub order_lines_most : (o : OrderRow) → is_order_row o ≡ true → o.line_count ≤ 15
unfolding is_order_row
order_lines_most o e = (within 5 15 o.line_count (split _ (is_within 5 15 o.line_count) e).1).1

order_id_most : (o : OrderRow) → is_order_row o ≡ true → is_order_id o.id ≡ true
unfolding is_order_row
order_id_most o e =
    let a = split _ (is_within 5 15 o.line_count) e in
    let b = split _ (is_null_or is_carrier o.carrier) a.0 in
    let c = split _ (is_moment o.entry_date) b.0 in
    let d = split _ (is_customer_id o.customer) c.0 in
    let f = split _ (is_warehouse_id o.warehouse) d.0 in
    (split (is_order_id o.id) (is_district_id o.district) f.0).0

-- ---- what bounds the sums of some rows

pub record IsSummable (rows : Rows) : Type 0 where
  pub warehouses : is_ascending warehouse_key rows.warehouses ≡ true
  pub districts : is_ascending district_key rows.districts ≡ true
  pub customers : is_ascending customer_key rows.customers ≡ true
  pub orders : is_ascending order_key rows.orders ≡ true
  pub payments : list_all is_history_row rows.histories ≡ true
  pub entered : list_all is_order_row rows.orders ≡ true
  pub delivered : (o : OrderRow) → is_order_amount (delivered_amount rows o) ≡ true
  pub few : length rows.histories < 2 ^ 63

order_amount_within : (rows : Rows) (w d o : ℕ) (p : OrderLineRow → Bool) → IsWellKeyed rows → is_order_amount (total (λ l. l.amount) (filter p (lines_of rows w d o))) ≡ true
order_amount_within rows w d o p well =
    let lines = lines_of rows w d o in
    let t = total_up_to (λ l. l.amount) is_order_line_row 999999 line_amount (filter p lines) (all-filter is_order_line_row p lines (all-filter is_order_line_row (is_line_of w d o) rows.order_lines well.ranges.order_lines)) in
    let few : length (filter p lines) ≤ 15 = omega (arith, fewer p lines, few_lines rows w d o well) in
    is_amount (pos 0) (pos (15 * 999999)) _ t.0 (omega (arith, ints, t.1, few))

pub summable : (rows : Rows) → IsWellKeyed rows → length rows.histories < 2 ^ 63 → IsSummable rows
summable rows well few =
    record {
      warehouses = well.keyed.warehouses;
      districts = well.keyed.districts;
      customers = well.keyed.customers;
      orders = well.keyed.orders;
      payments = well.ranges.histories;
      entered = well.ranges.orders;
      delivered = λ o. ap (λ ls. is_order_amount (total (λ l. l.amount) ls)) (sym (filter-twice (λ l. is_some l.delivered) (is_line_of o.warehouse o.district o.id) rows.order_lines))
          ∙ order_amount_within rows o.warehouse o.district o.id (λ l. is_some l.delivered) well;
      few = few;
    }

ascending-take : {X : Type 0} (key : X → List ℕ) (n : ℕ) (xs : List X) → is_ascending key xs ≡ true → is_ascending key (take n xs) ≡ true
ascending-take key zero xs h = refl
ascending-take key (suc n) [] h = refl
ascending-take key (suc n) (x ∷ xs) h = grind (arith, list_all-take (λ later. key_before (key x) (key later)) n xs, ascending-take key n xs)

-- of the first payments and orders
pub summable_first : (rows : Rows) (payments orders : ℕ) → IsSummable rows → IsSummable (first_rows rows payments orders)
summable_first rows payments orders h =
    record {
      warehouses = h.warehouses;
      districts = h.districts;
      customers = h.customers;
      orders = ascending-take order_key orders rows.orders h.orders;
      payments = list_all-take is_history_row payments rows.histories h.payments;
      entered = list_all-take is_order_row orders rows.orders h.entered;
      delivered = h.delivered;
      few = omega (arith, h.few, length-take payments rows.histories);
    }

-- ---- the sums

payments_within : (rows : Rows) (q : HistoryRow → Bool) → IsSummable rows → is_payments_sum (total (λ h. h.amount) (filter q rows.histories)) ≡ true
payments_within rows q h =
    let t = total_up_to (λ x. x.amount) is_history_row 999999 history_amount (filter q rows.histories) (all-filter is_history_row q rows.histories h.payments) in
    is_amount (pos 0) (pos (2 ^ 63 * 999999)) _ t.0 (omega (arith, ints, t.1, fewer q rows.histories, h.few))

-- a district or a customer has at most as many orders as there are numbers
few_orders : (rows : Rows) (w d : ℕ) (p : OrderRow → Bool) → ((o : OrderRow) → p o ≡ true → in_district w d o ≡ true) → IsSummable rows → length (filter p rows.orders) ≤ GREATEST_ORDER
few_orders rows w d p inside h = rising_count GREATEST_ORDER (λ o. o.id) is_order_row order_id_most (filter p rows.orders) (all-filter is_order_row p rows.orders h.entered) (rising order_key (λ o. o.id) p (order_rises w d p inside) rows.orders h.orders)

lines_within : (rows : Rows) (w d : ℕ) → IsSummable rows → is_lines_sum (sum_by (λ o. o.line_count) (orders_in rows w d)) ≡ true
lines_within rows w d h =
    let most = sum_up_to (λ o. o.line_count) is_order_row 15 order_lines_most (orders_in rows w d) (all-filter is_order_row (in_district w d) rows.orders h.entered) in
    let few = few_orders rows w d (in_district w d) (λ o e. e) h in
    small (length (orders_in rows w d)) (sum_by (λ o. o.line_count) (orders_in rows w d)) few most
  where
    small : (n s : ℕ) → n ≤ GREATEST_ORDER → s ≤ n * 15 → nat_le s (GREATEST_ORDER * 15) ≡ true
    small n s h k = grind (arith, nat_tests)

customer_in : (w d c : ℕ) (o : OrderRow) → is_order_of w d c o ≡ true → in_district w d o ≡ true
customer_in w d c o h = (split (in_district w d o) (o.customer == c) h).0

delivered_within : (rows : Rows) (w d c : ℕ) → IsSummable rows → is_delivered_sum (total (delivered_amount rows) (orders_of rows w d c)) ≡ true
delivered_within rows w d c h =
    let t = total_up_to (delivered_amount rows) is_order_row (15 * 999999) (λ o _. amount_within (pos 0) (pos (15 * 999999)) (delivered_amount rows o) (h.delivered o)) (orders_of rows w d c) (all-filter is_order_row (is_order_of w d c) rows.orders h.entered) in
    let few = few_orders rows w d (is_order_of w d c) (customer_in w d c) h in
    is_amount (pos 0) (pos (GREATEST_ORDER * (15 * 999999))) _ t.0 (omega (arith, ints, t.1, few))

pub can_grow : (rows : Rows) (s : Sums) → IsSummable rows → AreSums rows s → CanGrow s
can_grow rows s h are =
    let of_warehouse = λ (w : WarehouseRow). warehouse_sums rows w.id in
    let of_district = λ (d : DistrictRow). district_sums rows d.warehouse d.id in
    let of_customer = λ (c : CustomerRow). customer_sums rows c.warehouse c.district c.id in
    record {
      warehouses = in_order of_warehouse warehouse_sums_key s.warehouses.items rows.warehouses are.warehouses h.warehouses;
      districts = in_order of_district district_sums_key s.districts.items rows.districts are.districts h.districts;
      customers = in_order of_customer customer_sums_key s.customers.items rows.customers are.customers h.customers;
      into_warehouses = each_value of_warehouse (λ x. is_payments_sum x.paid) s.warehouses.items rows.warehouses are.warehouses (λ w. payments_within rows (λ x. x.warehouse == w.id) h);
      into_districts = each_value of_district (λ x. is_payments_sum x.paid) s.districts.items rows.districts are.districts (λ d. payments_within rows (λ x. (x.warehouse == d.warehouse) && (x.district == d.id)) h);
      by_customers = each_value of_customer (λ x. is_payments_sum x.paid) s.customers.items rows.customers are.customers (λ c. payments_within rows (is_paid_by c.warehouse c.district c.id) h);
      lines = each_value of_district (λ x. is_lines_sum x.counted_lines) s.districts.items rows.districts are.districts (λ d. lines_within rows d.warehouse d.id h);
      delivered = each_value of_customer (λ x. is_delivered_sum x.delivered) s.customers.items rows.customers are.customers (λ c. delivered_within rows c.warehouse c.district c.id h);
    }

-- the sums of tables
pub held_grow : (t : Inside) → AreTables t → CanGrow t.sums
held_grow t h = can_grow (rows_of t) t.sums (summable (rows_of t) h.well_keyed (omega (arith, t.histories.ok, t.histories.small))) h.sums
