-- An order keeps keys.
use Rattle.std.proofs.Common.{◌≡◌, ℕ, ◌+◌, ◌<◌, ◌==◌, Bool, true, false, List, [], ◌∷◌, refl, ◌∙◌, arith}
use Rattle.std.specs.Prelude.{◌&&◌, ◌||◌, map, fold}
use Rattle.tpcc_rows.specs.declared.tables.rows.StockRow.{StockRow}
use Rattle.std.specs.List.{list_all, enumerate_from}
use Rattle.std.proofs.lemmas.Bool.Decides.{nat_tests}
use Rattle.tpcc_rows.specs.declared.transactions.requests.Line.{Line}
use Rattle.tpcc_rows.specs.declared.transactions.requests.Order.{Order}
use Rattle.tpcc_rows.specs.Lists.{inserted, inserted_all, by_key, key_before, is_ascending}
use Rattle.tpcc_rows.specs.Tables.{Rows, district_key, order_key, order_line_key, new_order_key, stock_key, is_district}
use Rattle.tpcc_rows.specs.WellKeyed.{IsKeyed, HasParents, is_numbered_below_next, has_order, has_order_and_stock}
use Rattle.tpcc_rows.specs.NewOrder.{after_order, order_row, order_line_row, order_line_rows, new_order_row, order_number, with_next_order, stock_after, stock_after_line, lines_from}
use Rattle.tpcc_laws.proofs.List.{ascending-updated, list_all-mono, list_all_both}
use Rattle.tpcc_laws.proofs.Insert.{list_all-inserted}
use Rattle.tpcc_laws.proofs.OrderKeeps.{not_order, not_line, no_old_order}
use Rattle.tpcc_laws.proofs.DeliveryKeeps.{not_new_order}

pub key_before_trans : (a b c : List ℕ) → key_before a b ≡ true → key_before b c ≡ true → key_before a c ≡ true
key_before_trans [] b c h k = cc
key_before_trans (x ∷ xs) [] c h k = cc
key_before_trans (x ∷ xs) (y ∷ ys) [] h k = cc
key_before_trans (x ∷ xs) (y ∷ ys) (z ∷ zs) h k = grind (arith, nat_tests, key_before_trans xs ys zs)

-- one of two keys is before the other
abbrev pub apart : List ℕ → List ℕ → Bool
apart a b = key_before a b || key_before b a

before_later : {X : Type 0} (key : X → List ℕ) (k : List ℕ) (x : X) (xs : List X) → key_before k (key x) ≡ true → list_all (λ later. key_before (key x) (key later)) xs ≡ true → list_all (λ later. key_before k (key later)) xs ≡ true
before_later key k x xs e h = list_all-mono (λ later. key_before (key x) (key later)) (λ later. key_before k (key later)) (λ y f. key_before_trans k (key x) (key y) e f) xs h

pub ascending-inserted : {X : Type 0} (key : X → List ℕ) (new : X) (xs : List X) → is_ascending key xs ≡ true → list_all (λ x. apart (key new) (key x)) xs ≡ true → is_ascending key (inserted (by_key key) new xs) ≡ true
ascending-inserted key new [] h k = refl
ascending-inserted key new (x ∷ xs) h k =
    grind (arith, before_later key (key new) x xs, ascending-inserted key new xs, list_all-inserted (by_key key) (λ later. key_before (key x) (key later)) new xs)

spread : {X : Type 0} (key : X → List ℕ) (new : X) (xs : List X) (n : X) → (key_before (key new) (key n) && list_all (λ x. apart (key n) (key x)) xs) ≡ true → list_all (λ x. apart (key n) (key x)) (inserted (by_key key) new xs) ≡ true
spread key new xs n h = grind (arith, list_all-inserted (by_key key) (λ x. apart (key n) (key x)) new xs)

pub ascending-inserted_all : {X : Type 0} (key : X → List ℕ) (news xs : List X) → is_ascending key xs ≡ true → list_all (λ n. list_all (λ x. apart (key n) (key x)) xs) news ≡ true → is_ascending key news ≡ true → is_ascending key (inserted_all (by_key key) news xs) ≡ true
ascending-inserted_all key [] xs h k rising = h
ascending-inserted_all {X} key (new ∷ news) xs h k rising =
    let here : list_all (λ x. apart (key new) (key x)) xs ≡ true = grind arith in
    let rest : list_all (λ n. list_all (λ x. apart (key n) (key x)) xs) news ≡ true = grind arith in
    let above : list_all (λ n. key_before (key new) (key n)) news ≡ true = grind arith in
    let later : is_ascending key news ≡ true = grind arith in
    ascending-inserted_all key news (inserted (by_key key) new xs) (ascending-inserted key new xs h here)
    (list_all-mono (λ n. key_before (key new) (key n) && list_all (λ x. apart (key n) (key x)) xs) (λ n. list_all (λ x. apart (key n) (key x)) (inserted (by_key key) new xs)) (spread key new xs) news (list_all_both (λ n. key_before (key new) (key n)) (λ n. list_all (λ x. apart (key n) (key x)) xs) news above rest))
    later

apart_3 : (a b c x y z : ℕ) → ((x == a) && (y == b) && (z == c)) ≡ false → apart (a ∷ b ∷ c ∷ []) (x ∷ y ∷ z ∷ []) ≡ true
apart_3 a b c x y z h = grind (arith, nat_tests)

apart_4 : (a b c j x y z k : ℕ) → ((x == a) && (y == b) && (z == c)) ≡ false → apart (a ∷ b ∷ c ∷ j ∷ []) (x ∷ y ∷ z ∷ k ∷ []) ≡ true
apart_4 a b c j x y z k h = grind (arith, nat_tests)

-- the lines are in order of their numbers
last_decides : (a b c n m : ℕ) → n < m → key_before (a ∷ b ∷ c ∷ n ∷ []) (a ∷ b ∷ c ∷ m ∷ []) ≡ true
last_decides a b c n m lt = grind (arith, nat_tests)

numbered_after : (rows : Rows) (order : Order) (n m : ℕ) (l : Line) (ls : List Line) → n < m → list_all (λ later. key_before (order_line_key (order_line_row rows order n l)) (order_line_key later)) (map (λ line. order_line_row rows order line.0 line.1) (enumerate_from m ls)) ≡ true
numbered_after rows order n m l [] lt = refl
numbered_after rows order n m l (k ∷ ls) lt =
    (λ i. last_decides order.warehouse order.district (order_number rows order) n m lt i && numbered_after rows order n (m + 1) l ls (omega arith) i)

lines_ascend : (rows : Rows) (order : Order) (n : ℕ) (ls : List Line) → is_ascending order_line_key (map (λ line. order_line_row rows order line.0 line.1) (enumerate_from n ls)) ≡ true
lines_ascend rows order n [] = refl
lines_ascend rows order n (l ∷ ls) = (λ i. numbered_after rows order n (n + 1) l ls (omega arith) i && lines_ascend rows order (n + 1) ls i)

-- a STOCK row keeps its key
stock_keeps_key : (home : ℕ) (lines : List Line) (s : StockRow) → stock_key (fold (stock_after_line home) s lines) ≡ stock_key s
stock_keeps_key home [] s = refl
stock_keeps_key home (l ∷ lines) s = stock_keeps_key home lines (stock_after_line home s l)

stocks_before : (home : ℕ) (lines : List Line) (k : List ℕ) (stocks : List StockRow) → list_all (λ later. key_before k (stock_key later)) (map (stock_after home lines) stocks) ≡ list_all (λ later. key_before k (stock_key later)) stocks
stocks_before home lines k [] = refl
stocks_before home lines k (s ∷ stocks) = λ i. key_before k (stock_keeps_key home (lines_from s lines) s i) && stocks_before home lines k stocks i

stocks_ascend : (home : ℕ) (lines : List Line) (stocks : List StockRow) → is_ascending stock_key (map (stock_after home lines) stocks) ≡ is_ascending stock_key stocks
stocks_ascend home lines [] = refl
stocks_ascend home lines (s ∷ stocks) =
    (λ i. list_all (λ later. key_before (stock_keeps_key home (lines_from s lines) s i) (stock_key later)) (map (stock_after home lines) stocks) && stocks_ascend home lines stocks i)
    ∙ (λ i. stocks_before home lines (stock_key s) stocks i && is_ascending stock_key stocks)

constant : {X Y : Type 0} (test : Y → Bool) (f : X → Y) → ((x : X) → test (f x) ≡ true) → (xs : List X) → list_all test (map f xs) ≡ true
constant test f all [] = refl
constant test f all (x ∷ xs) = λ i. all x i && constant test f all xs i

pub order_is_keyed : (rows : Rows) (order : Order) → HasParents rows → IsKeyed rows → IsKeyed (after_order rows order)
unfolding after_order
order_is_keyed rows order parents keyed =
    let number = order_number rows order in
    let none = no_old_order rows order parents.numbers in
    record {
      warehouses = keyed.warehouses;
      districts = ascending-updated district_key (is_district order.warehouse order.district) with_next_order (λ d. refl) rows.districts ∙ keyed.districts;
      customers = keyed.customers;
      orders = ascending-inserted order_key (order_row rows order) rows.orders keyed.orders
          (list_all-mono (is_numbered_below_next rows) (λ x. apart (order_key (order_row rows order)) (order_key x)) (λ r k. apart_3 order.warehouse order.district number r.warehouse r.district r.id (not_order rows order r k)) rows.orders parents.numbers);
      order_lines = ascending-inserted_all order_line_key (order_line_rows rows order) rows.order_lines keyed.order_lines
          (constant (λ n. list_all (λ x. apart (order_line_key n) (order_line_key x)) rows.order_lines) (λ line. order_line_row rows order line.0 line.1)
          (λ line. list_all-mono (has_order_and_stock rows) (λ x. apart (order_line_key (order_line_row rows order line.0 line.1)) (order_line_key x)) (λ l k. apart_4 order.warehouse order.district number line.0 l.warehouse l.district l.order l.number (not_line rows order.warehouse order.district number none l k)) rows.order_lines parents.order_lines)
          (enumerate_from 1 order.lines))
          (lines_ascend rows order 1 order.lines);
      new_orders = ascending-inserted new_order_key (new_order_row rows order) rows.new_orders keyed.new_orders
          (list_all-mono (has_order rows) (λ x. apart (new_order_key (new_order_row rows order)) (new_order_key x)) (λ n k. apart_3 order.warehouse order.district number n.warehouse n.district n.order (not_new_order rows order.warehouse order.district number none n k)) rows.new_orders parents.new_orders);
      items = keyed.items;
      stocks = stocks_ascend order.warehouse order.lines rows.stocks ∙ keyed.stocks;
    }
