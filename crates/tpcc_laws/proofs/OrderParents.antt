-- An order keeps references.
use Rattle.std.proofs.Common.{◌≡◌, ℕ, ◌+◌, ◌==◌, Bool, true, List, [], ◌∷◌, refl, ◌∙◌, arith}
use Rattle.std.specs.Prelude.{◌&&◌, map, fold, is_some, nat_lt, find, unwrap_or}
use Rattle.std.specs.List.{list_all, enumerate_from}
use Rattle.std.proofs.lemmas.Bool.Decides.{nat_tests}
use Rattle.tpcc_rows.specs.declared.tables.rows.DistrictRow.{DistrictRow}
use Rattle.tpcc_rows.specs.declared.tables.rows.StockRow.{StockRow}
use Rattle.tpcc_rows.specs.declared.tables.rows.OrderLineRow.{OrderLineRow}
use Rattle.tpcc_rows.specs.declared.transactions.requests.Line.{Line}
use Rattle.tpcc_rows.specs.declared.transactions.requests.Order.{Order}
use Rattle.tpcc_rows.specs.Lists.{inserted, by_key, updated}
use Rattle.tpcc_rows.specs.Tables.{Rows, order_key, order_line_key, new_order_key, is_order, is_stock, is_district, find_warehouse, find_district, find_customer, find_item, find_stock, no_district}
use Rattle.tpcc_rows.specs.WellKeyed.{HasParents, has_warehouse, has_district, has_payer, has_customer, has_order, has_order_and_stock, has_warehouse_and_item, is_numbered_below_next}
use Rattle.tpcc_rows.specs.NewOrder.{after_order, order_row, order_line_row, order_line_rows, new_order_row, order_number, with_next_order, stock_after, stock_after_line, lines_from}
use Rattle.tpcc_laws.proofs.List.{found-updated, list_all-mono, list_all-updated}
use Rattle.tpcc_laws.proofs.Insert.{list_all-inserted, list_all-inserted_all, found-inserted_new}
use Rattle.tpcc_rows.proofs.Booleans.{split, both_true}
use Rattle.tpcc_laws.proofs.OrderKeeps.{itself}

pub found-inserted_more : {X : Type 0} (before : X → X → Bool) (q : X → Bool) (new : X) (xs : List X) → is_some (find q xs) ≡ true → is_some (find q (inserted before new xs)) ≡ true
found-inserted_more before q new [] h = grind arith
found-inserted_more before q new (x ∷ xs) h = grind (arith, found-inserted_more before q new xs)

pub found-map : {X : Type 0} (q : X → Bool) (f : X → X) → ((x : X) → q (f x) ≡ q x) → (xs : List X) → is_some (find q (map f xs)) ≡ is_some (find q xs)
found-map q f same [] = refl
found-map q f same (x ∷ xs) = grind (arith, same x, found-map q f same xs)

list_all-map_same : {X : Type 0} (test : X → Bool) (f : X → X) → ((x : X) → test (f x) ≡ test x) → (xs : List X) → list_all test (map f xs) ≡ list_all test xs
list_all-map_same test f same [] = refl
list_all-map_same test f same (x ∷ xs) = λ i. same x i && list_all-map_same test f same xs i

-- the order's lines, tested line by line
lines_all : (test : Line → Bool) (made : ℕ → Line → OrderLineRow) (new : OrderLineRow → Bool) → ((n : ℕ) (l : Line) → test l ≡ true → new (made n l) ≡ true) → (n : ℕ) (ls : List Line) → list_all test ls ≡ true → list_all new (map (λ line. made line.0 line.1) (enumerate_from n ls)) ≡ true
lines_all test made new each n [] h = refl
lines_all test made new each n (l ∷ ls) h = grind (arith, each n l, lines_all test made new each (n + 1) ls)

stock_of_warehouse : (home : ℕ) (lines : List Line) (s : StockRow) → (fold (stock_after_line home) s lines).warehouse ≡ s.warehouse
stock_of_warehouse home [] s = refl
stock_of_warehouse home (l ∷ lines) s = stock_of_warehouse home lines (stock_after_line home s l)

stock_of_item : (home : ℕ) (lines : List Line) (s : StockRow) → (fold (stock_after_line home) s lines).item ≡ s.item
stock_of_item home [] s = refl
stock_of_item home (l ∷ lines) s = stock_of_item home lines (stock_after_line home s l)

-- D_NEXT_O_ID after an order: it never falls, and of the order's district it rises
next_grows : (W D w d id : ℕ) (ds : List DistrictRow) → nat_lt id (unwrap_or (find (is_district w d) ds) no_district).next_order ≡ true → nat_lt id (unwrap_or (find (is_district w d) (updated (is_district W D) with_next_order ds)) no_district).next_order ≡ true
next_grows W D w d id [] h = h
next_grows W D w d id (x ∷ ds) h = grind (arith, nat_tests, next_grows W D w d id ds)

next_rises : (W D : ℕ) (ds : List DistrictRow) → is_some (find (is_district W D) ds) ≡ true → nat_lt (unwrap_or (find (is_district W D) ds) no_district).next_order (unwrap_or (find (is_district W D) (updated (is_district W D) with_next_order ds)) no_district).next_order ≡ true
next_rises W D [] found = cc
next_rises W D (x ∷ ds) found = grind (arith, nat_tests, next_rises W D ds)

pub found_stock : (rows : Rows) (order : Order) (w i : ℕ) → is_some (find_stock (after_order rows order) w i) ≡ is_some (find_stock rows w i)
unfolding after_order
found_stock rows order w i =
    found-map (is_stock w i) (stock_after order.warehouse order.lines)
    (λ s j. (stock_of_warehouse order.warehouse (lines_from s order.lines) s j == w) && (stock_of_item order.warehouse (lines_from s order.lines) s j == i)) rows.stocks

-- where the district, the customer and each line's STOCK row exist
pub order_has_parents : (rows : Rows) (order : Order) → is_some (find_district rows order.warehouse order.district) ≡ true → is_some (find_customer rows order.warehouse order.district order.customer) ≡ true → list_all (λ l. is_some (find_stock rows l.supply l.item)) order.lines ≡ true → HasParents rows → HasParents (after_order rows order)
unfolding after_order
order_has_parents rows order district customer stocks h =
    let W = order.warehouse in
    let D = order.district in
    let number = order_number rows order in
    let made = order_row rows order in
    record {
      districts = list_all-updated (has_warehouse rows) (has_warehouse (after_order rows order)) (is_district W D) with_next_order (λ d k other. k) (λ d k this. k) rows.districts h.districts;
      customers = list_all-mono (has_district rows) (has_district (after_order rows order)) (λ c k. found-updated (is_district c.warehouse c.district) (is_district W D) with_next_order (λ x e. refl) rows.districts ∙ k) rows.customers h.customers;
      histories = list_all-mono (has_payer rows) (has_payer (after_order rows order)) (λ x k. (λ i. is_some (find_customer rows x.customer_warehouse x.customer_district x.customer) && found-updated (is_district x.warehouse x.district) (is_district W D) with_next_order (λ x e. refl) rows.districts i) ∙ k) rows.histories h.histories;
      orders = list_all-inserted (by_key order_key) (has_customer (after_order rows order)) made rows.orders ∙ both_true _ _ customer h.orders;
      order_lines = list_all-inserted_all (by_key order_line_key) (has_order_and_stock (after_order rows order)) (order_line_rows rows order) rows.order_lines
          ∙ both_true _ _
          (lines_all (λ l. is_some (find_stock rows l.supply l.item)) (order_line_row rows order) (has_order_and_stock (after_order rows order))
          (λ n l k. both_true _ _ (found-inserted_new (by_key order_key) (is_order W D number) made rows.orders (itself W D number)) (found_stock rows order l.supply l.item ∙ k))
          1 order.lines stocks)
          (list_all-mono (has_order_and_stock rows) (has_order_and_stock (after_order rows order))
          (λ l k. let parts = split _ _ k in both_true _ _ (found-inserted_more (by_key order_key) (is_order l.warehouse l.district l.order) made rows.orders parts.0) (found_stock rows order l.supply l.item ∙ parts.1))
          rows.order_lines h.order_lines);
      new_orders = list_all-inserted (by_key new_order_key) (has_order (after_order rows order)) (new_order_row rows order) rows.new_orders
          ∙ both_true _ _ (found-inserted_new (by_key order_key) (is_order W D number) made rows.orders (itself W D number))
          (list_all-mono (has_order rows) (has_order (after_order rows order)) (λ n k. found-inserted_more (by_key order_key) (is_order n.warehouse n.district n.order) made rows.orders k) rows.new_orders h.new_orders);
      stocks = list_all-map_same (has_warehouse_and_item rows) (stock_after W order.lines) (λ s i. is_some (find_warehouse rows (stock_of_warehouse W (lines_from s order.lines) s i)) && is_some (find_item rows (stock_of_item W (lines_from s order.lines) s i))) rows.stocks ∙ h.stocks;
      numbers = list_all-inserted (by_key order_key) (is_numbered_below_next (after_order rows order)) made rows.orders
          ∙ both_true _ _ (next_rises W D rows.districts district)
          (list_all-mono (is_numbered_below_next rows) (is_numbered_below_next (after_order rows order)) (λ r k. next_grows W D r.warehouse r.district r.id rows.districts k) rows.orders h.numbers);
    }
