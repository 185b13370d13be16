-- The rows of an order that is entered, written list by list.
use Rattle.std.proofs.Common.{◌≡◌, ℕ, ◌+◌, ◌<◌, ◌≤◌, ◌^◌, true, false, List, [], ◌∷◌, length, map, refl, sym, ◌∙◌, subst, arith, Some, None}
use Rattle.std.specs.Prelude.{◌&&◌, not, find, Bool, Option, is_some, is_none}
use Rattle.std.specs.List.{list_all, list_any, enumerate_from}
use Rattle.tpcc_rows.specs.declared.tables.rows.DistrictRow.{DistrictRow}
use Rattle.tpcc_rows.specs.declared.tables.rows.OrderRow.{OrderRow}
use Rattle.tpcc_rows.specs.declared.tables.rows.OrderLineRow.{OrderLineRow}
use Rattle.tpcc_rows.specs.declared.tables.rows.NewOrderRow.{NewOrderRow}
use Rattle.tpcc_rows.specs.declared.tables.rows.StockRow.{StockRow}
use Rattle.tpcc_rows.specs.declared.transactions.requests.Line.{Line}
use Rattle.tpcc_rows.specs.declared.transactions.requests.Order.{Order}
use Rattle.tpcc_rows.specs.Ranges.{is_within, is_district_row, is_order_id}
use Rattle.tpcc_rows.specs.Lists.{updated, inserted, inserted_all, by_key, is_ascending}
use Rattle.tpcc_rows.specs.Tables.{Rows, is_district, find_district, order_key, order_line_key, new_order_key}
use Rattle.tpcc_rows.specs.WellKeyed.{IsWellKeyed, IsInRange}
use Rattle.tpcc_rows.specs.NewOrder.{after_order, order_refusal, order_refusal_by_input, order_input_tests, order_row, order_line_row, order_line_rows, stock_after, with_next_order}
use Rattle.tpcc_laws.proofs.Numbers.{within, not_false}
use Rattle.tpcc_laws.proofs.OrderInRange.{order_in_range}
use Rattle.tpcc_rows.proofs.Booleans.{split, both_true}
use Rattle.tpcc_laws.proofs.DeliveryKeeps.{some_of}
use Rattle.std.proofs.lemmas.Bool.Decides.{nat_tests}
use Rattle.tpcc_rows.specs.declared.tables.keys.DistrictKey.{DistrictKey}
use Rattle.tpcc_storage.specs.ByDistrict.{has_owner}
use Rattle.tpcc_tables.specs.Internal.Ready.{is_open}
use Rattle.tpcc_tables.proofs.Ready.{open-found}
use Rattle.tpcc_laws.proofs.Remove.{found_passes}
use Rattle.tpcc_laws.proofs.TurnKeeps.{all_false, first_none}
use Rattle.tpcc_laws.proofs.TurnKeys.{order_is_sound}
use Rattle.tpcc_tables.specs.Writes.{line_of, waiting, with_entered_order, IsOrderOf, IsOrder}
use Rattle.tpcc_rows.specs.declared.limits.TheConstants.{GREATEST_ORDER}

lines_from : (rows : Rows) (order : Order) (n : ℕ) (ls : List Line) → map line_of (map (λ line. order_line_row rows order line.0 line.1) (enumerate_from n ls)) ≡ ls
lines_from rows order n [] = refl
lines_from rows order n (l ∷ ls) = λ i. l ∷ lines_from rows order (n + 1) ls i

entered_rows : (rows : Rows) (order : Order) → with_entered_order rows (order_row rows order) (order_line_rows rows order) ≡ after_order rows order
unfolding with_entered_order after_order
entered_rows rows order = λ i. record (after_order rows order) { stocks = map (stock_after order.warehouse (lines_from rows order 1 order.lines i)) rows.stocks }

-- what is written is what the order does
pub order_is : (rows : Rows) (o : OrderRow) (lines : List OrderLineRow) (order : Order) → IsOrderOf rows o lines order → with_entered_order rows o lines ≡ after_order rows order
order_is rows o lines order k = (λ i. with_entered_order rows (k.order_is i) (k.lines_are i)) ∙ entered_rows rows order

pub entered_is_well_keyed : (rows : Rows) (o : OrderRow) (lines : List OrderLineRow) → IsOrder rows o lines → IsWellKeyed rows → IsWellKeyed (with_entered_order rows o lines)
entered_is_well_keyed rows o lines k well =
    let order = k.0 in
    let sound = order_is_sound rows order k.1.entered k.1.accepted (record { keyed = well.keyed; parents = well.parents; stocked = k.1.stocked }) in
    let after : IsWellKeyed (after_order rows order) =
    record { keyed = sound.keyed; parents = sound.parents; ranges = order_in_range rows order k.1.moment k.1.entered k.1.accepted well.keyed k.1.stocked well.ranges } in
    subst IsWellKeyed (sym (order_is rows o lines order k.1)) after

pub lines_in_order : (rows : Rows) (o : OrderRow) (lines : List OrderLineRow) → IsOrder rows o lines → IsWellKeyed rows → is_ascending order_line_key (inserted_all (by_key order_line_key) lines rows.order_lines) ≡ true
unfolding with_entered_order
lines_in_order rows o lines k well = (entered_is_well_keyed rows o lines k well).keyed.order_lines

-- ---- what the writes need

next_fits : (d : DistrictRow) → is_district_row d ≡ true → d.next_order + 1 < 2 ^ 32
unfolding is_district_row
next_fits d h = let next = within 1 GREATEST_ORDER d.next_order (split _ (is_order_id d.next_order) h).1 in omega (arith, next)

pub district_fits : (rows : Rows) (w d : ℕ) → IsInRange rows → (x : DistrictRow) → find_district rows w d ≡ Some x → x.next_order + 1 < 2 ^ 32
district_fits rows w d h x e = next_fits x (found_passes (is_district w d) is_district_row rows.districts x e h.districts).1

in_range : (ls : List Line) → list_any (λ l. not (is_within 1 10 l.quantity)) ls ≡ false → list_all (λ l. is_within 1 10 l.quantity) ls ≡ true
in_range [] e = refl
in_range (l ∷ ls) e = grind (arith, in_range ls)

same_quantities : (rows : Rows) (order : Order) (n : ℕ) (ls : List Line) → list_all (λ (l : OrderLineRow). is_within 1 10 l.quantity) (map (λ line. order_line_row rows order line.0 line.1) (enumerate_from n ls)) ≡ list_all (λ (l : Line). is_within 1 10 l.quantity) ls
same_quantities rows order n [] = refl
same_quantities rows order n (l ∷ ls) = λ i. is_within 1 10 l.quantity && same_quantities rows order (n + 1) ls i

same_length : (rows : Rows) (order : Order) (n : ℕ) (ls : List Line) → length (map (λ line. order_line_row rows order line.0 line.1) (enumerate_from n ls)) ≡ length ls
same_length rows order n [] = refl
same_length rows order n (l ∷ ls) = omega (arith, same_length rows order (n + 1) ls)

pub record IsEnterable (lines : List OrderLineRow) : Type 0 where
  pub few : length lines ≤ 15
  pub quantities : list_all (λ l. is_within 1 10 l.quantity) lines ≡ true

enterable_rows : (rows : Rows) (order : Order) → order_refusal rows order ≡ None → IsEnterable (order_line_rows rows order)
unfolding order_input_tests
enterable_rows rows order none =
    let t = all_false (order_input_tests rows order) (first_none (order_refusal_by_input rows order) _ none) in
    let few = within 5 15 (length order.lines) (not_false (is_within 5 15 (length order.lines)) t.1.1.1.0) in
    record {
      few = omega (arith, few, same_length rows order 1 order.lines);
      quantities = same_quantities rows order 1 order.lines ∙ in_range order.lines t.1.1.1.1.0;
    }

pub enterable : (rows : Rows) (o : OrderRow) (lines : List OrderLineRow) → IsOrder rows o lines → IsEnterable lines
enterable rows o lines k = subst IsEnterable (sym k.1.lines_are) (enterable_rows rows k.0 k.1.accepted)

pub written_rows : (rows : Rows) (o : OrderRow) (lines taken : List OrderLineRow) (ds : List DistrictRow) (os : List OrderRow) (ls : List OrderLineRow) (ns : List NewOrderRow) (ss : List StockRow) → taken ≡ lines → ds ≡ updated (is_district o.warehouse o.district) with_next_order rows.districts → os ≡ inserted (by_key order_key) o rows.orders → ls ≡ inserted_all (by_key order_line_key) lines rows.order_lines → ns ≡ inserted (by_key new_order_key) (waiting o) rows.new_orders → ss ≡ map (stock_after o.warehouse (map line_of taken)) rows.stocks → record rows { districts = ds; orders = os; order_lines = ls; new_orders = ns; stocks = ss } ≡ with_entered_order rows o lines
unfolding with_entered_order
written_rows rows o lines taken ds os ls ns ss same d e l n s =
    (λ i. record rows { districts = d i; orders = e i; order_lines = l i; new_orders = n i; stocks = s i })
    ∙ (λ i. record rows { districts = updated (is_district o.warehouse o.district) with_next_order rows.districts; orders = inserted (by_key order_key) o rows.orders; order_lines = inserted_all (by_key order_line_key) lines rows.order_lines; new_orders = inserted (by_key new_order_key) (waiting o) rows.new_orders; stocks = map (stock_after o.warehouse (map line_of (same i))) rows.stocks })

-- ---- the district of an order has its part

found_there : {X : Type 0} (p : X → Bool) (xs : List X) (y : X) → find p xs ≡ Some y → p y ≡ true
found_there p [] y e = cc
found_there p (x ∷ xs) y e = grind (arith, found_there p xs y)

not_missing : {X : Type 0} (o : Option X) → is_none o ≡ false → is_some o ≡ true
not_missing None e = cc
not_missing (Some x) e = refl

district_found : (owners : List DistrictKey) (w d : ℕ) (ds : List DistrictRow) (x : DistrictRow) → is_open owners ds ≡ true → find (is_district w d) ds ≡ Some x → has_owner owners (w ∷ d ∷ []) ≡ true
district_found owners w d ds x h e =
    let is = found_there (is_district w d) ds x e in
    let a : x.warehouse ≡ w = grind (arith, nat_tests, is) in
    let b : x.id ≡ d = grind (arith, nat_tests, is) in
    (λ i. has_owner owners (sym a i ∷ sym b i ∷ [])) ∙ open-found owners (is_district w d) ds x h e

district_there : (rows : Rows) (order : Order) → order_refusal rows order ≡ None → (x : DistrictRow) × (find_district rows order.warehouse order.district ≡ Some x)
unfolding order_input_tests
district_there rows order none =
    let t = all_false (order_input_tests rows order) (first_none (order_refusal_by_input rows order) _ none) in
    some_of (find_district rows order.warehouse order.district) (not_missing (find_district rows order.warehouse order.district) t.1.0)

lines_owned : (owners : List DistrictKey) (rows : Rows) (order : Order) (n : ℕ) (ls : List Line) → has_owner owners (order.warehouse ∷ order.district ∷ []) ≡ true → list_all (λ row. has_owner owners (order_line_key row)) (map (λ line. order_line_row rows order line.0 line.1) (enumerate_from n ls)) ≡ true
lines_owned owners rows order n [] h = refl
lines_owned owners rows order n (l ∷ ls) h = both_true (has_owner owners (order.warehouse ∷ order.district ∷ [])) (list_all (λ row. has_owner owners (order_line_key row)) (map (λ line. order_line_row rows order line.0 line.1) (enumerate_from (n + 1) ls))) h (lines_owned owners rows order (n + 1) ls h)

-- the parts of an order's rows
pub record IsOwned (owners : List DistrictKey) (o : OrderRow) (lines : List OrderLineRow) : Type 0 where
  pub order : has_owner owners (order_key o) ≡ true
  pub news : has_owner owners (new_order_key (waiting o)) ≡ true
  pub lines_are : list_all (λ row. has_owner owners (order_line_key row)) lines ≡ true

owned_rows : (owners : List DistrictKey) (rows : Rows) (order : Order) → order_refusal rows order ≡ None → is_open owners rows.districts ≡ true → IsOwned owners (order_row rows order) (order_line_rows rows order)
owned_rows owners rows order none h =
    let x = district_there rows order none in
    let has = district_found owners order.warehouse order.district rows.districts x.0 h x.1 in
    record { order = has; news = has; lines_are = lines_owned owners rows order 1 order.lines has }

pub owned : (owners : List DistrictKey) (rows : Rows) (o : OrderRow) (lines : List OrderLineRow) → IsOrder rows o lines → is_open owners rows.districts ≡ true → IsOwned owners o lines
owned owners rows o lines k h = subst (λ (x : OrderRow). IsOwned owners x lines) (sym k.1.order_is) (subst (IsOwned owners (order_row rows k.0)) (sym k.1.lines_are) (owned_rows owners rows k.0 k.1.accepted h))
