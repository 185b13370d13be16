-- A New-Order that nothing refuses keeps the ranges of all columns.
use Rattle.std.proofs.Common.{◌≡◌, ℕ, ◌+◌, ◌-◌, ◌==◌, ◌≤◌, Bool, true, false, List, [], ◌∷◌, length, map, refl, sym, ap, ◌∙◌, arith, Some, None, Option}
use Rattle.std.specs.Prelude.{pos, ◌&&◌, not, is_some, is_none, unwrap_or, slice_get, nat_lt, if◌then◌else◌}
use Rattle.tpcc_money.specs.Amounts.{line_amount}
use Rattle.std.specs.List.{list_all, list_any}
use Rattle.std.specs.Option.{option_or}
use Rattle.std.proofs.lemmas.Bool.Decides.{nat_tests}
use Rattle.tpcc_rows.specs.declared.tables.rows.DistrictRow.{DistrictRow}
use Rattle.tpcc_rows.specs.declared.tables.rows.CustomerRow.{CustomerRow}
use Rattle.tpcc_rows.specs.declared.tables.rows.ItemRow.{ItemRow}
use Rattle.tpcc_rows.specs.declared.tables.rows.StockRow.{StockRow}
use Rattle.tpcc_rows.specs.declared.transactions.requests.Line.{Line}
use Rattle.tpcc_rows.specs.declared.transactions.requests.Order.{Order}
use Rattle.tpcc_rows.specs.Lists.{by_key}
use Rattle.tpcc_rows.specs.Ranges.{is_within, is_warehouse_row, is_district_row, is_customer_row, is_order_row, is_order_line_row, is_new_order_row, is_item_row, is_stock_row, is_order_id, is_district_id, is_warehouse_id, is_customer_id, is_item_id, is_exact_text, is_amount_within, is_moment, is_count, greatest_order, greatest_stock_ytd}
use Rattle.tpcc_rows.specs.Tables.{Rows, order_key, order_line_key, new_order_key, is_warehouse, is_district, is_customer, is_item, is_stock, find_warehouse, find_district, find_customer, find_item, find_stock, stock_at, no_district, no_item, no_stock}
use Rattle.tpcc_rows.specs.WellKeyed.{IsKeyed, IsInRange, IsStocked}
use Rattle.tpcc_rows.specs.NewOrder.{after_order, is_rolled_back, order_refusal, order_refusal_by_input, order_refusal_by_range, order_input_tests, order_range_tests, order_number, order_row, order_line_row, order_line_rows, new_order_row, with_next_order, stock_after}
use Rattle.tpcc_laws.proofs.List.{list_all-updated_found, list_all_both}
use Rattle.tpcc_laws.proofs.Insert.{list_all-inserted, list_all-inserted_all}
use Rattle.tpcc_laws.proofs.Remove.{found_passes}
use Rattle.tpcc_rows.proofs.Booleans.{split, both_true}
use Rattle.tpcc_laws.proofs.DeliveryKeeps.{some_of}
use Rattle.tpcc_laws.proofs.TurnKeeps.{all_false, some_if, first_none}
use Rattle.tpcc_laws.proofs.TurnKeys.{lines_stocked}
use Rattle.tpcc_laws.proofs.Numbers.{not_false, within, is_in}
use Rattle.tpcc_laws.proofs.PaymentRanges.{one_district, same_found, district_tells, customer_tells, district_key_is, last_changed}
use Rattle.tpcc_laws.proofs.OrderRanges.{amount_fits, stocks_in_range, line_tests, text_at}
use Rattle.tpcc_rows.specs.declared.limits.TheConstants.{GREATEST_LINE_AMOUNT, GREATEST_ORDER}
use Rattle.tpcc_money.specs.declared.amounts.TheConstants.{GREATEST_PRICE}

none_last : {X : Type 0} (a b : Option X) → option_or a b ≡ None → b ≡ None
none_last None b e = e
none_last (Some x) b e = cc

passes_all : {X : Type 0} (p : X → Bool) (xs : List X) → list_any (λ x. not (p x)) xs ≡ false → list_all p xs ≡ true
passes_all p [] e = refl
passes_all p (x ∷ xs) e = grind (arith, passes_all p xs)

passes_map : {X Y : Type 0} (p : Y → Bool) (f : X → Y) (xs : List X) → list_any (λ y. not (p y)) (map f xs) ≡ false → list_all (λ x. p (f x)) xs ≡ true
passes_map p f [] e = refl
passes_map p f (x ∷ xs) e = grind (arith, passes_map p f xs)

not_lower : (n m : ℕ) → nat_lt n m ≡ false → is_within 0 n m ≡ true
not_lower n m e = grind (arith, nat_tests)

below_all : {X : Type 0} (n : ℕ) (f : X → StockRow) (xs : List X) → list_any (λ s. nat_lt n s.ytd) (map f xs) ≡ false → list_all (λ x. is_within 0 n (f x).ytd) xs ≡ true
below_all n f [] e = refl
below_all n f (x ∷ xs) e = grind (arith, not_lower n (f x).ytd, below_all n f xs)

present_all : {X Y : Type 0} (f : X → Option Y) (xs : List X) → list_any (λ x. is_none (f x)) xs ≡ false → list_all (λ x. is_some (f x)) xs ≡ true
present_all f [] e = refl
present_all f (x ∷ xs) e = grind (arith, some_if (f x), present_all f xs)

next_in_range : (n : ℕ) → is_order_id n ≡ true → (n == greatest_order) ≡ false → is_order_id (n + 1) ≡ true
next_in_range n h e = let s = within 1 GREATEST_ORDER n h in is_in 1 GREATEST_ORDER (n + 1) (omega arith) (grind (arith, nat_tests))

next_row : (d : DistrictRow) → is_district_row d ≡ true → (d.next_order == greatest_order) ≡ false → (is_order_id d.next_order ≡ true) × (is_district_row (with_next_order d) ≡ true)
unfolding is_district_row
next_row d h e =
    let n = (split _ (is_order_id d.next_order) h).1 in
    (n, last_changed _ (is_order_id d.next_order) (is_order_id (d.next_order + 1)) h (next_in_range d.next_order n e))

id_is : (n m : ℕ) → (n == m) ≡ true → n ≡ m
id_is n m e = grind (arith, nat_tests)

customer_id_is : (w d k : ℕ) (c : CustomerRow) → is_customer w d k c ≡ true → c.id ≡ k
customer_id_is w d k c e = grind (arith, nat_tests)

warehouse_id : (rows : Rows) (w : ℕ) → IsInRange rows → is_some (find_warehouse rows w) ≡ true → is_warehouse_id w ≡ true
unfolding is_warehouse_row
warehouse_id rows w h some =
    let x = some_of (find_warehouse rows w) some in
    let p = found_passes (is_warehouse w) is_warehouse_row rows.warehouses x.0 x.1 h.warehouses in
    let r : is_warehouse_id x.0.id ≡ true = grind (arith, p.1) in
    ap is_warehouse_id (sym (id_is x.0.id w p.0)) ∙ r

item_tells : (i : ItemRow) → is_item_row i ≡ true → (is_item_id i.id ≡ true) × (is_amount_within (pos 1) GREATEST_PRICE i.price ≡ true)
unfolding is_item_row
item_tells i h = (grind arith, grind arith)

stock_texts : (s : StockRow) → is_stock_row s ≡ true → ((length s.district_information == 10) ≡ true) × (list_all (is_exact_text 24) s.district_information ≡ true)
unfolding is_stock_row
stock_texts s h = (grind arith, grind arith)

abbrev is_line_ok : Rows → Line → Bool
is_line_ok rows l = is_within 1 10 l.quantity && is_some (find_warehouse rows l.supply) && is_some (find_item rows l.item) && is_some (find_stock rows l.supply l.item)

line_row : (rows : Rows) (order : Order) → IsInRange rows → is_order_id (order_number rows order) ≡ true → is_district_id order.district ≡ true → is_warehouse_id order.warehouse ≡ true → (n : ℕ) (l : Line) → 1 ≤ n → n ≤ 15 → is_line_ok rows l ≡ true → is_order_line_row (order_line_row rows order n l) ≡ true
unfolding is_order_line_row
line_row rows order h hn hd hw n l low high ok =
    let a = split (is_within 1 10 l.quantity && is_some (find_warehouse rows l.supply) && is_some (find_item rows l.item)) (is_some (find_stock rows l.supply l.item)) ok in
    let b = split (is_within 1 10 l.quantity && is_some (find_warehouse rows l.supply)) (is_some (find_item rows l.item)) a.0 in
    let c = split (is_within 1 10 l.quantity) (is_some (find_warehouse rows l.supply)) b.0 in
    let i = some_of (find_item rows l.item) b.1 in
    let ip = found_passes (is_item l.item) is_item_row rows.items i.0 i.1 h.items in
    let it = item_tells i.0 ip.1 in
    let s = some_of (find_stock rows l.supply l.item) a.1 in
    let sp = found_passes (is_stock l.supply l.item) is_stock_row rows.stocks s.0 s.1 h.stocks in
    let st = stock_texts s.0 sp.1 in
    let ten : length s.0.district_information ≡ 10 = id_is (length s.0.district_information) 10 st.0 in
    let d = within 1 10 order.district hd in
    let text = (λ j. is_exact_text 24 (unwrap_or (slice_get (unwrap_or (s.1 j) no_stock).district_information (order.district - 1)) [])) ∙ text_at s.0.district_information (order.district - 1) (omega arith) st.1 in
    let amount = (λ j. is_amount_within (pos 0) GREATEST_LINE_AMOUNT (line_amount (unwrap_or (i.1 j) no_item).price l.quantity)) ∙ amount_fits l.quantity i.0.price c.0 it.1 in
    both_true _ _ (both_true _ _ (both_true _ _ (both_true _ _ (both_true _ _ (both_true _ _ (both_true _ _ (both_true _ _ (both_true _ _ hn hd) hw) (is_in 1 15 n low high)) (ap is_item_id (sym (id_is i.0.id l.item ip.0)) ∙ it.0)) (warehouse_id rows l.supply h c.1)) refl) c.0) amount) text

head_row : (rows : Rows) (order : Order) → is_order_id (order_number rows order) ≡ true → is_district_id order.district ≡ true → is_warehouse_id order.warehouse ≡ true → is_customer_id order.customer ≡ true → is_moment order.moment ≡ true → is_within 5 15 (length order.lines) ≡ true → is_order_row (order_row rows order) ≡ true
unfolding is_order_row
head_row rows order hn hd hw hc hm hl = both_true _ _ (both_true _ _ (both_true _ _ (both_true _ _ (both_true _ _ (both_true _ _ hn hd) hw) hc) hm) refl) hl

waiting_row : (rows : Rows) (order : Order) → is_order_id (order_number rows order) ≡ true → is_district_id order.district ≡ true → is_warehouse_id order.warehouse ≡ true → is_new_order_row (new_order_row rows order) ≡ true
unfolding is_new_order_row
waiting_row rows order hn hd hw = both_true _ _ (both_true _ _ hn hd) hw

pub order_in_range : (rows : Rows) (order : Order) → is_moment order.moment ≡ true → is_rolled_back rows order ≡ false → order_refusal rows order ≡ None → IsKeyed rows → IsStocked rows → IsInRange rows → IsInRange (after_order rows order)
unfolding order_input_tests order_range_tests after_order
order_in_range rows order hm kept none keyed stocked h =
    let t = all_false (order_input_tests rows order) (first_none (order_refusal_by_input rows order) _ none) in
    let by_range : order_refusal_by_range rows order ≡ None = (λ i. if sym kept i then None else order_refusal_by_range rows order) ∙ none_last (order_refusal_by_input rows order) (if is_rolled_back rows order then None else order_refusal_by_range rows order) none in
    let r = all_false (order_range_tests rows order) by_range in
    let d = some_of (find_district rows order.warehouse order.district) (some_if (find_district rows order.warehouse order.district) t.1.0) in
    let dp = found_passes (is_district order.warehouse order.district) is_district_row rows.districts d.0 d.1 h.districts in
    let dt = district_tells d.0 dp.1 in
    let key = district_key_is order.warehouse order.district d.0 dp.0 in
    let number : order_number rows order ≡ d.0.next_order = λ i. (unwrap_or (d.1 i) no_district).next_order in
    let next = next_row d.0 dp.1 (ap (λ n. n == greatest_order) (sym number) ∙ r.0) in
    let hn : is_order_id (order_number rows order) ≡ true = ap is_order_id number ∙ next.0 in
    let hd : is_district_id order.district ≡ true = ap is_district_id (sym key.1) ∙ dt.0 in
    let hw : is_warehouse_id order.warehouse ≡ true = ap is_warehouse_id (sym key.0) ∙ dt.1 in
    let c = some_of (find_customer rows order.warehouse order.district order.customer) (some_if (find_customer rows order.warehouse order.district order.customer) t.1.1.0) in
    let cp = found_passes (is_customer order.warehouse order.district order.customer) is_customer_row rows.customers c.0 c.1 h.customers in
    let hc : is_customer_id order.customer ≡ true = ap is_customer_id (sym (customer_id_is order.warehouse order.district order.customer c.0 cp.0)) ∙ (customer_tells c.0 cp.1).0 in
    let hl = not_false (is_within 5 15 (length order.lines)) t.1.1.1.0 in
    let few = within 5 15 (length order.lines) hl in
    let q = passes_all (λ l. is_within 1 10 l.quantity) order.lines t.1.1.1.1.0 in
    let w = present_all (λ l. find_warehouse rows l.supply) order.lines t.1.1.1.1.1.0 in
    let i = present_all (λ l. find_item rows l.item) order.lines kept in
    let s = lines_stocked rows order.lines stocked t.1.1.1.1.1.0 kept in
    let ok = list_all_both (λ l. is_within 1 10 l.quantity && is_some (find_warehouse rows l.supply) && is_some (find_item rows l.item)) (λ l. is_some (find_stock rows l.supply l.item)) order.lines (list_all_both (λ l. is_within 1 10 l.quantity && is_some (find_warehouse rows l.supply)) (λ l. is_some (find_item rows l.item)) order.lines (list_all_both (λ l. is_within 1 10 l.quantity) (λ l. is_some (find_warehouse rows l.supply)) order.lines q w) i) s in
    let after : Line → StockRow = λ l. stock_after order.warehouse order.lines (stock_at rows l.supply l.item) in
    let ytd = below_all greatest_stock_ytd after order.lines r.1.1.1.0 in
    let counts = passes_map (λ (x : StockRow). is_count x.order_count) after order.lines r.1.0 in
    let remotes = passes_map (λ (x : StockRow). is_count x.remote_count) after order.lines r.1.1.0 in
    let fits = list_all_both (λ l. is_within 0 greatest_stock_ytd (after l).ytd && is_count (after l).order_count) (λ l. is_count (after l).remote_count) order.lines (list_all_both (λ l. is_within 0 greatest_stock_ytd (after l).ytd) (λ l. is_count (after l).order_count) order.lines ytd counts) remotes in
    record {
      warehouses = h.warehouses;
      districts = list_all-updated_found is_district_row (is_district order.warehouse order.district) with_next_order rows.districts h.districts (one_district rows order.warehouse order.district d.0 keyed d.1)
          (same_found (λ x. is_district_row (with_next_order x)) (is_district order.warehouse order.district) rows.districts d.0 d.1 next.1);
      customers = h.customers;
      histories = h.histories;
      orders = list_all-inserted (by_key order_key) is_order_row (order_row rows order) rows.orders ∙ both_true _ _ (head_row rows order hn hd hw hc hm hl) h.orders;
      order_lines = list_all-inserted_all (by_key order_line_key) is_order_line_row (order_line_rows rows order) rows.order_lines
          ∙ both_true _ _ (line_tests (is_line_ok rows) (order_line_row rows order) is_order_line_row (line_row rows order h hn hd hw) 1 order.lines (omega arith) (omega arith) ok) h.order_lines;
      new_orders = list_all-inserted (by_key new_order_key) is_new_order_row (new_order_row rows order) rows.new_orders ∙ both_true _ _ (waiting_row rows order hn hd hw) h.new_orders;
      items = h.items;
      stocks = stocks_in_range order.warehouse order.lines rows.stocks keyed.stocks h.stocks q fits;
    }
