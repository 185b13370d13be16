-- 3.3.2: the sums that the consistency conditions ask for, kept for each WAREHOUSE, DISTRICT and CUSTOMER row.
use Rattle.tpcc_rows.specs.declared.limits.TheConstants.{GREATEST_ORDER}
use Rattle.std.specs.Prelude.{◌≡◌, ℕ, ◌+◌, ◌*◌, ◌^◌, nat_le, ℤ, pos, ◌+ℤ◌, Bool, true, List, [], ◌∷◌, map, sum_by, take, Some, None}
use Rattle.std.specs.List.{list_all}
use Rattle.tpcc_money.specs.Amounts.{total}
use Rattle.tpcc_rows.specs.declared.tables.rows.HistoryRow.{HistoryRow}
use Rattle.tpcc_rows.specs.declared.tables.rows.OrderRow.{OrderRow}
use Rattle.tpcc_rows.specs.Lists.{updated, is_ascending, larger}
use Rattle.tpcc_rows.specs.Ranges.{is_amount_within}
use Rattle.tpcc_rows.specs.Tables.{Rows, paid_into_warehouse, paid_into_district, paid_by, orders_in, orders_of}
use Rattle.tpcc_rows.specs.Conditions.{delivered_amount}
use Rattle.tpcc_rows.specs.Lookups.{last_order_number}
use Rattle.tpcc_storage.specs.Searches.{is_same_key}
use Rattle.tpcc_tables.specs.declared.sums.Sums.{Sums}
use Rattle.tpcc_tables.specs.declared.sums.entry.WarehouseSums.{WarehouseSums}
use Rattle.tpcc_tables.specs.declared.sums.entry.DistrictSums.{DistrictSums}
use Rattle.tpcc_tables.specs.declared.sums.entry.CustomerSums.{CustomerSums}

-- the keys of the entries, which are those of their rows
abbrev pub warehouse_sums_key : WarehouseSums → List ℕ
warehouse_sums_key s = s.warehouse ∷ []

abbrev pub district_sums_key : DistrictSums → List ℕ
district_sums_key s = s.warehouse ∷ s.district ∷ []

abbrev pub customer_sums_key : CustomerSums → List ℕ
customer_sums_key s = s.warehouse ∷ s.district ∷ s.customer ∷ []

abbrev pub has_key : {S : Type 0} → (S → List ℕ) → List ℕ → S → Bool
has_key key numbers s = is_same_key (key s) numbers

-- where nothing is counted yet
abbrev pub no_warehouse_sums : ℕ → WarehouseSums
no_warehouse_sums warehouse = record { warehouse = warehouse; paid = pos 0 }

abbrev pub no_district_sums : ℕ → ℕ → DistrictSums
no_district_sums warehouse district = record { warehouse = warehouse; district = district; counted_lines = 0; paid = pos 0 }

abbrev pub no_customer_sums : ℕ → ℕ → ℕ → CustomerSums
no_customer_sums warehouse district customer = record { warehouse = warehouse; district = district; customer = customer; last_order = None; delivered = pos 0; paid = pos 0 }

-- the sums over all rows that belong to a key
abbrev pub warehouse_sums : Rows → ℕ → WarehouseSums
warehouse_sums rows warehouse = record { warehouse = warehouse; paid = total (λ h. h.amount) (paid_into_warehouse rows warehouse) }

abbrev pub district_sums : Rows → ℕ → ℕ → DistrictSums
district_sums rows warehouse district =
    record {
      warehouse = warehouse;
      district = district;
      counted_lines = sum_by (λ o. o.line_count) (orders_in rows warehouse district);
      paid = total (λ h. h.amount) (paid_into_district rows warehouse district);
    }

abbrev pub customer_sums : Rows → ℕ → ℕ → ℕ → CustomerSums
customer_sums rows warehouse district customer =
    record {
      warehouse = warehouse;
      district = district;
      customer = customer;
      last_order = last_order_number rows warehouse district customer;
      delivered = total (delivered_amount rows) (orders_of rows warehouse district customer);
      paid = total (λ h. h.amount) (paid_by rows warehouse district customer);
    }

-- each row has its sums
pub record AreSums (rows : Rows) (sums : Sums) : Type 0 where
  pub warehouses : sums.warehouses.items ≡ map (λ w. warehouse_sums rows w.id) rows.warehouses
  pub districts : sums.districts.items ≡ map (λ d. district_sums rows d.warehouse d.id) rows.districts
  pub customers : sums.customers.items ≡ map (λ c. customer_sums rows c.warehouse c.district c.id) rows.customers

-- rows with the first payments and orders alone
abbrev pub first_rows : Rows → ℕ → ℕ → Rows
first_rows rows histories orders = record rows { histories = take histories rows.histories; orders = take orders rows.orders }

-- ---- one number more

abbrev pub warehouse_with_payment : ℤ → WarehouseSums → WarehouseSums
warehouse_with_payment amount s = record s { paid = s.paid +ℤ amount }

abbrev pub district_with_payment : ℤ → DistrictSums → DistrictSums
district_with_payment amount s = record s { paid = s.paid +ℤ amount }

abbrev pub customer_with_payment : ℤ → CustomerSums → CustomerSums
customer_with_payment amount s = record s { paid = s.paid +ℤ amount }

abbrev pub district_with_order : ℕ → DistrictSums → DistrictSums
district_with_order line_count s = record s { counted_lines = s.counted_lines + line_count }

abbrev pub customer_with_order : ℕ → ℤ → CustomerSums → CustomerSums
customer_with_order order delivered s = record s { last_order = Some (larger order s.last_order); delivered = s.delivered +ℤ delivered }

abbrev pub customer_with_delivery : ℤ → CustomerSums → CustomerSums
customer_with_delivery amount s = record s { delivered = s.delivered +ℤ amount }

-- a payment, where it went and by whom
pub record HasPaid (h : HistoryRow) (old new : Sums) : Type 0 where
  pub warehouses : new.warehouses.items ≡ updated (has_key warehouse_sums_key (h.warehouse ∷ [])) (warehouse_with_payment h.amount) old.warehouses.items
  pub districts : new.districts.items ≡ updated (has_key district_sums_key (h.warehouse ∷ h.district ∷ [])) (district_with_payment h.amount) old.districts.items
  pub customers : new.customers.items ≡ updated (has_key customer_sums_key (h.customer_warehouse ∷ h.customer_district ∷ h.customer ∷ [])) (customer_with_payment h.amount) old.customers.items

-- an order of whose lines so much is delivered
pub record HasEntered (o : OrderRow) (delivered : ℤ) (old new : Sums) : Type 0 where
  pub warehouses : new.warehouses.items ≡ old.warehouses.items
  pub districts : new.districts.items ≡ updated (has_key district_sums_key (o.warehouse ∷ o.district ∷ [])) (district_with_order o.line_count) old.districts.items
  pub customers : new.customers.items ≡ updated (has_key customer_sums_key (o.warehouse ∷ o.district ∷ o.customer ∷ [])) (customer_with_order o.id delivered) old.customers.items

-- more delivered to a customer
pub record HasDelivered (warehouse district customer : ℕ) (amount : ℤ) (old new : Sums) : Type 0 where
  pub warehouses : new.warehouses.items ≡ old.warehouses.items
  pub districts : new.districts.items ≡ old.districts.items
  pub customers : new.customers.items ≡ updated (has_key customer_sums_key (warehouse ∷ district ∷ customer ∷ [])) (customer_with_delivery amount) old.customers.items

-- ---- how large the sums can be

-- fewer than 2^63 payments of up to 9,999.99
abbrev pub is_payments_sum : ℤ → Bool
is_payments_sum = is_amount_within (pos 0) (pos (2 ^ 63 * 999999))

-- up to 15 lines of an order, each of up to 9,999.99
abbrev pub is_order_amount : ℤ → Bool
is_order_amount = is_amount_within (pos 0) (pos (15 * 999999))

-- of up to 9,999,999 orders of a district or a customer
abbrev pub is_delivered_sum : ℤ → Bool
is_delivered_sum = is_amount_within (pos 0) (pos (GREATEST_ORDER * (15 * 999999)))

abbrev pub is_lines_sum : ℕ → Bool
is_lines_sum n = nat_le n (GREATEST_ORDER * 15)

-- sums in order of their keys, which can take one number more
pub record CanGrow (s : Sums) : Type 0 where
  pub warehouses : is_ascending warehouse_sums_key s.warehouses.items ≡ true
  pub districts : is_ascending district_sums_key s.districts.items ≡ true
  pub customers : is_ascending customer_sums_key s.customers.items ≡ true
  pub into_warehouses : list_all (λ w. is_payments_sum w.paid) s.warehouses.items ≡ true
  pub into_districts : list_all (λ d. is_payments_sum d.paid) s.districts.items ≡ true
  pub by_customers : list_all (λ c. is_payments_sum c.paid) s.customers.items ≡ true
  pub lines : list_all (λ d. is_lines_sum d.counted_lines) s.districts.items ≡ true
  pub delivered : list_all (λ c. is_delivered_sum c.delivered) s.customers.items ≡ true
