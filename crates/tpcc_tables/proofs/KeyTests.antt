-- Each table's test of its key, and that no two rows pass it.
use Rattle.std.proofs.Common.{◌≡◌, ℕ, Bool, true, false, [], ◌∷◌, refl, ap, arith}
use Rattle.std.specs.Prelude.{◌&&◌, ◌==◌}
use Rattle.std.proofs.lemmas.Bool.Decides.{nat_tests}
use Rattle.tpcc_rows.specs.declared.tables.rows.WarehouseRow.{WarehouseRow}
use Rattle.tpcc_rows.specs.declared.tables.rows.DistrictRow.{DistrictRow}
use Rattle.tpcc_rows.specs.declared.tables.rows.CustomerRow.{CustomerRow}
use Rattle.tpcc_rows.specs.declared.tables.rows.OrderRow.{OrderRow}
use Rattle.tpcc_rows.specs.declared.tables.rows.ItemRow.{ItemRow}
use Rattle.tpcc_rows.specs.declared.tables.rows.StockRow.{StockRow}
use Rattle.tpcc_rows.specs.declared.tables.rows.OrderLineRow.{OrderLineRow}
use Rattle.tpcc_rows.specs.declared.tables.rows.NewOrderRow.{NewOrderRow}
use Rattle.tpcc_rows.specs.Lists.{key_before}
use Rattle.tpcc_rows.specs.Tables.{is_warehouse, is_district, is_customer, is_order, is_new_order, is_item, is_stock, warehouse_key, district_key, customer_key, order_key, order_line_key, new_order_key, item_key, stock_key}
use Rattle.tpcc_storage.proofs.Halves.{is_it}
use Rattle.tpcc_tables.specs.Loads.{is_order_line}

last_true : (a : Bool) → (a && true) ≡ a
last_true true = refl
last_true false = refl

and_three : (a b c : Bool) → (a && (b && (c && true))) ≡ ((a && b) && c)
and_three a b c = grind arith

and_four : (a b c d : Bool) → (a && (b && (c && (d && true)))) ≡ (((a && b) && c) && d)
and_four a b c d = grind arith

pub warehouse_test : (w : ℕ) (x : WarehouseRow) → is_it warehouse_key (w ∷ []) x ≡ is_warehouse w x
warehouse_test w x = last_true (x.id == w)

pub item_test : (n : ℕ) (x : ItemRow) → is_it item_key (n ∷ []) x ≡ is_item n x
item_test n x = last_true (x.id == n)

pub district_test : (w d : ℕ) (x : DistrictRow) → is_it district_key (w ∷ d ∷ []) x ≡ is_district w d x
district_test w d x = ap (λ b. (x.warehouse == w) && b) (last_true (x.id == d))

pub stock_test : (w n : ℕ) (x : StockRow) → is_it stock_key (w ∷ n ∷ []) x ≡ is_stock w n x
stock_test w n x = ap (λ b. (x.warehouse == w) && b) (last_true (x.item == n))

pub customer_test : (w d k : ℕ) (x : CustomerRow) → is_it customer_key (w ∷ d ∷ k ∷ []) x ≡ is_customer w d k x
customer_test w d k x = and_three (x.warehouse == w) (x.district == d) (x.id == k)

pub order_test : (w d o : ℕ) (x : OrderRow) → is_it order_key (w ∷ d ∷ o ∷ []) x ≡ is_order w d o x
order_test w d o x = and_three (x.warehouse == w) (x.district == d) (x.id == o)

pub new_order_test : (w d o : ℕ) (x : NewOrderRow) → is_it new_order_key (w ∷ d ∷ o ∷ []) x ≡ is_new_order w d o x
new_order_test w d o x = and_three (x.warehouse == w) (x.district == d) (x.order == o)

pub order_line_test : (w d o n : ℕ) (x : OrderLineRow) → is_it order_line_key (w ∷ d ∷ o ∷ n ∷ []) x ≡ is_order_line w d o n x
order_line_test w d o n x = and_four (x.warehouse == w) (x.district == d) (x.order == o) (x.number == n)

pub orders_apart : (w d o : ℕ) (a b : OrderRow) → is_order w d o a ≡ true → is_order w d o b ≡ true → key_before (order_key a) (order_key b) ≡ false
orders_apart w d o a b ea eb = grind (arith, nat_tests)
