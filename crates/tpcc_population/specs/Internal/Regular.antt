-- What both openings have in common: keys, amounts and nulls by their numbers.
use Rattle.tpcc_rows.specs.declared.limits.TheConstants.{GREATEST_DISTRICT}
use Rattle.std.specs.Prelude.{◌≡◌, ℕ, ◌+◌, ◌*◌, ◌≤◌, ◌<◌, IsTrue, true, not, pos, neg_ℤ, is_none}
use Rattle.tpcc_rows.specs.Layout.{Scale, RowRules, is_delivered}
use Rattle.tpcc_rows.specs.Ranges.{is_warehouse_row, is_district_row, is_customer_row, is_history_row, is_order_row, is_order_line_row, is_new_order_row, is_item_row, is_stock_row}

pub record IsRegular (s : Scale) (r : RowRules) : Type 0 where
  pub warehouse_id : (w : ℕ) → (r.warehouse w).id ≡ w
  pub warehouse_ytd : (w : ℕ) → (r.warehouse w).ytd ≡ pos (s.customers * 10000)
  pub district_warehouse : (w d : ℕ) → (r.district w d).warehouse ≡ w
  pub district_id : (w d : ℕ) → (r.district w d).id ≡ d
  pub district_ytd : (w d : ℕ) → (r.district w d).ytd ≡ pos (s.customers * 1000)
  pub district_next : (w d : ℕ) → (r.district w d).next_order ≡ s.customers + 1
  pub customer_warehouse : (w d k : ℕ) → (r.customer w d k).warehouse ≡ w
  pub customer_district : (w d k : ℕ) → (r.customer w d k).district ≡ d
  pub customer_id : (w d k : ℕ) → (r.customer w d k).id ≡ k
  pub customer_balance : (w d k : ℕ) → (r.customer w d k).balance ≡ neg_ℤ (pos 1000)
  pub customer_paid : (w d k : ℕ) → (r.customer w d k).ytd_payment ≡ pos 1000
  pub payer_warehouse : (w d k : ℕ) → (r.history w d k).customer_warehouse ≡ w
  pub payer_district : (w d k : ℕ) → (r.history w d k).customer_district ≡ d
  pub payer : (w d k : ℕ) → (r.history w d k).customer ≡ k
  pub history_warehouse : (w d k : ℕ) → (r.history w d k).warehouse ≡ w
  pub history_district : (w d k : ℕ) → (r.history w d k).district ≡ d
  pub history_amount : (w d k : ℕ) → (r.history w d k).amount ≡ pos 1000
  pub order_warehouse : (w d o : ℕ) → (r.order w d o).warehouse ≡ w
  pub order_district : (w d o : ℕ) → (r.order w d o).district ≡ d
  pub order_id : (w d o : ℕ) → (r.order w d o).id ≡ o
  pub order_carrier : (w d o : ℕ) → is_none (r.order w d o).carrier ≡ not (is_delivered s o)
  pub line_warehouse : (w d o j : ℕ) → (r.order_line w d o j).warehouse ≡ w
  pub line_district : (w d o j : ℕ) → (r.order_line w d o j).district ≡ d
  pub line_order : (w d o j : ℕ) → (r.order_line w d o j).order ≡ o
  pub line_number : (w d o j : ℕ) → (r.order_line w d o j).number ≡ j
  pub line_delivered : (w d o j : ℕ) → is_none (r.order_line w d o j).delivered ≡ not (is_delivered s o)
  pub line_amount : (w d o j : ℕ) → is_delivered s o ≡ true → (r.order_line w d o j).amount ≡ pos 0
  pub new_order_warehouse : (w d o : ℕ) → (r.new_order w d o).warehouse ≡ w
  pub new_order_district : (w d o : ℕ) → (r.new_order w d o).district ≡ d
  pub new_order_id : (w d o : ℕ) → (r.new_order w d o).order ≡ o
  pub item_id : (n : ℕ) → (r.item n).id ≡ n
  pub stock_warehouse : (w n : ℕ) → (r.stock w n).warehouse ≡ w
  pub stock_item : (w n : ℕ) → (r.stock w n).item ≡ n

-- the rows that orders and lines refer to
pub record RefersInside (s : Scale) (r : RowRules) : Type 0 where
  pub customer_least : (w d o : ℕ) → 1 ≤ o → o < 1 + s.customers → 1 ≤ (r.order w d o).customer
  pub customer_most : (w d o : ℕ) → 1 ≤ o → o < 1 + s.customers → (r.order w d o).customer < 1 + s.customers
  pub item_least : (w d o j : ℕ) → 1 ≤ (r.order_line w d o j).item
  pub item_most : (w d o j : ℕ) → (r.order_line w d o j).item < 1 + s.items
  pub supply : (w d o j : ℕ) → (r.order_line w d o j).supply ≡ w

-- each row's columns are in their ranges
pub record HasRowsInRange (s : Scale) (r : RowRules) : Type 0 where
  pub warehouse : (w : ℕ) → 1 ≤ w → w < 1 + s.warehouses → IsTrue (is_warehouse_row (r.warehouse w))
  pub district : (w d : ℕ) → 1 ≤ w → w < 1 + s.warehouses → 1 ≤ d → d < 1 + GREATEST_DISTRICT → IsTrue (is_district_row (r.district w d))
  pub customer : (w d k : ℕ) → 1 ≤ w → w < 1 + s.warehouses → 1 ≤ d → d < 1 + GREATEST_DISTRICT → 1 ≤ k → k < 1 + s.customers → IsTrue (is_customer_row (r.customer w d k))
  pub history : (w d k : ℕ) → 1 ≤ w → w < 1 + s.warehouses → 1 ≤ d → d < 1 + GREATEST_DISTRICT → 1 ≤ k → k < 1 + s.customers → IsTrue (is_history_row (r.history w d k))
  pub order : (w d o : ℕ) → 1 ≤ w → w < 1 + s.warehouses → 1 ≤ d → d < 1 + GREATEST_DISTRICT → 1 ≤ o → o < 1 + s.customers → IsTrue (is_order_row (r.order w d o))
  pub order_line : (w d o j : ℕ) → 1 ≤ w → w < 1 + s.warehouses → 1 ≤ d → d < 1 + GREATEST_DISTRICT → 1 ≤ o → o < 1 + s.customers → 1 ≤ j → j < 1 + (r.order w d o).line_count → IsTrue (is_order_line_row (r.order_line w d o j))
  pub new_order : (w d o : ℕ) → 1 ≤ w → w < 1 + s.warehouses → 1 ≤ d → d < 1 + GREATEST_DISTRICT → 1 ≤ o → o < 1 + s.customers → IsTrue (is_new_order_row (r.new_order w d o))
  pub item : (n : ℕ) → 1 ≤ n → n < 1 + s.items → IsTrue (is_item_row (r.item n))
  pub stock : (w n : ℕ) → 1 ≤ w → w < 1 + s.warehouses → 1 ≤ n → n < 1 + s.items → IsTrue (is_stock_row (r.stock w n))
