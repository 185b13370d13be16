-- Wrong bodies that the conditions or the definitions refuse.
use Rattle.std.proofs.Common.{◌≡◌, ℕ, List, [], ◌∷◌, length, refl}
use Rattle.std.specs.Prelude.{pos, Some, true, false, unwrap_or, map, take, codes, option_map, slice_get, ◌/◌, ◌-◌}
use Rattle.std.specs.List.{list_all}
use Rattle.tpcc_rows.specs.declared.transactions.requests.Payment.{Payment}
use Rattle.tpcc_rows.specs.declared.transactions.requests.Who.TheVariants.{Number, Name}
use Rattle.tpcc_rows.specs.declared.transactions.requests.Line.{Line}
use Rattle.tpcc_rows.specs.declared.tables.rows.StockRow.{StockRow}
use Rattle.tpcc_rows.specs.declared.tables.rows.CustomerRow.{CustomerRow}
use Rattle.tpcc_rows.specs.ChosenCustomer.{chosen_customer, customers_named}
use Rattle.tpcc_rows.specs.Lists.{updated, largest}
use Rattle.tpcc_rows.specs.Tables.{Rows, is_district, new_orders_in, stock_at}
use Rattle.tpcc_rows.specs.Conditions.{IsConsistent, first_broken, keeps_9}
use Rattle.tpcc_rows.specs.Payment.{after_payment}
use Rattle.tpcc_rows.specs.NewOrder.{with_next_order, stock_after}
use Rattle.tpcc_rows.specs.Delivery.{after_delivery}
use Rattle.tpcc_theorems.proofs.Small.{all_definitions, opening}

false_is_true : {A : Type 0} → false ≡ true → A
false_is_true e = cc

-- a payment that forgets the district
abbrev payment : Payment
payment = record { warehouse = 1; district = 1; customer_warehouse = 1; customer_district = 1; who = Number 1; amount = pos 100; moment = 0 }

abbrev district_forgotten : Rows
district_forgotten = record (after_payment opening.rows payment) { districts = opening.rows.districts }

breaks_1 : first_broken district_forgotten ≡ Some (record { condition = 1; warehouse = 1; district = 0; number = 0 })
unfolding all_definitions
breaks_1 = refl

breaks_9 : list_all (keeps_9 district_forgotten) district_forgotten.districts ≡ false
unfolding all_definitions
breaks_9 = refl

not_consistent_1 : IsConsistent district_forgotten → ⊥
unfolding all_definitions
not_consistent_1 h = false_is_true h.condition_1

-- a rolled-back order that keeps the raised D_NEXT_O_ID
abbrev number_kept : Rows
number_kept = record opening.rows { districts = updated (is_district 1 1) with_next_order opening.rows.districts }

breaks_2 : first_broken number_kept ≡ Some (record { condition = 2; warehouse = 1; district = 1; number = 0 })
unfolding all_definitions
breaks_2 = refl

-- a delivery of the newest NEW-ORDER row
abbrev newest_delivered : Rows
newest_delivered = after_delivery opening.rows 1 1 (unwrap_or (largest (map (λ n. n.order) (new_orders_in opening.rows 1 1))) 0) 3 120

breaks_2_too : first_broken newest_delivered ≡ Some (record { condition = 2; warehouse = 1; district = 1; number = 0 })
unfolding all_definitions
breaks_2_too = refl

-- a delivery that leaves the lines' dates null
abbrev dates_forgotten : Rows
dates_forgotten = record (after_delivery opening.rows 1 1 8 3 120) { order_lines = opening.rows.order_lines }

breaks_7 : first_broken dates_forgotten ≡ Some (record { condition = 7; warehouse = 1; district = 1; number = 8 })
unfolding all_definitions
breaks_7 = refl

not_consistent_7 : IsConsistent dates_forgotten → ⊥
unfolding all_definitions
not_consistent_7 h = false_is_true h.condition_7

-- and the opening, of which all eleven hold
opening_consistent : IsConsistent opening.rows
unfolding all_definitions
opening_consistent =
    record {
      condition_1 = refl;
      condition_2 = refl;
      condition_3 = refl;
      condition_4 = refl;
      condition_5 = refl;
      condition_6 = refl;
      condition_7 = refl;
      condition_8 = refl;
      condition_9 = refl;
      condition_10 = refl;
      condition_12 = refl;
    }

-- an order that takes two lines of one item from its STOCK row once: no condition sees it, the fold over the row's own lines does
abbrev two_lines : List Line
two_lines = record { item = 1; supply = 1; quantity = 1 } ∷ record { item = 1; supply = 1; quantity = 1 } ∷ []

abbrev quantities : StockRow → List ℕ
quantities s = s.quantity ∷ s.ytd ∷ s.order_count ∷ []

taken_twice : quantities (stock_after 1 two_lines (stock_at opening.rows 1 1)) ≡ 100 ∷ 2 ∷ 2 ∷ []
unfolding all_definitions
taken_twice = refl

taken_once : quantities (stock_after 1 (take 1 two_lines) (stock_at opening.rows 1 1)) ≡ 10 ∷ 1 ∷ 1 ∷ []
unfolding all_definitions
taken_once = refl

-- by last name the place is rounded up: of three customers the second
abbrev named_oughts : List CustomerRow
named_oughts = customers_named opening.rows 1 1 (codes "BARBAROUGHT")

rounded_up : (option_map (λ c. c.id) (chosen_customer opening.rows 1 1 (Name (codes "BARBAROUGHT")))) ≡ Some 5
unfolding all_definitions
rounded_up = refl

rounded_down : (option_map (λ c. c.id) (slice_get named_oughts (length named_oughts / 2 - 1))) ≡ Some 8
unfolding all_definitions
rounded_down = refl
