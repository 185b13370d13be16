-- Rows laid out by the numbers that the code has, and those of the scale.
use Rattle.std.proofs.Common.{◌≡◌, ℕ, ◌+◌, ◌-◌, List, ap, ◌∙◌}
use Rattle.tpcc_rows.specs.Layout.{Scale, each, each_district, delivered_orders}

-- of each customer
pub laid_by_customer : {X : Type 0} (rows : ℕ → ℕ → ℕ → List X) (s t : Scale) (n m : ℕ) → t ≡ s → n ≡ t.warehouses → m ≡ t.customers
    → each 1 n (λ w. each 1 10 (λ d. each 1 m (rows w d))) ≡ each_district s (λ w d. each 1 s.customers (rows w d))
laid_by_customer rows s t n m same warehouses customers =
    let districts = warehouses ∙ ap (λ (s : Scale). s.warehouses) same in
    let all = customers ∙ ap (λ (s : Scale). s.customers) same in
    λ i. each 1 (districts i) (λ w. each 1 10 (λ d. each 1 (all i) (rows w d)))

-- of each order that is not delivered
pub laid_by_new_order : {X : Type 0} (rows : ℕ → ℕ → ℕ → List X) (s t : Scale) (n m a b : ℕ) → t ≡ s → n ≡ t.warehouses → m ≡ t.customers → a ≡ delivered_orders t → b ≡ delivered_orders t
    → each 1 n (λ w. each 1 10 (λ d. each (a + 1) (m - b) (rows w d))) ≡ each_district s (λ w d. each (delivered_orders s + 1) (s.customers - delivered_orders s) (rows w d))
laid_by_new_order rows s t n m a b same warehouses customers first delivered =
    let districts = warehouses ∙ ap (λ (s : Scale). s.warehouses) same in
    let all = customers ∙ ap (λ (s : Scale). s.customers) same in
    let from = first ∙ ap delivered_orders same in
    let before = delivered ∙ ap delivered_orders same in
    λ i. each 1 (districts i) (λ w. each 1 10 (λ d. each (from i + 1) (all i - before i) (rows w d)))

-- of each item
pub laid_by_item : {X : Type 0} (rows : ℕ → ℕ → List X) (s t : Scale) (n m : ℕ) → t ≡ s → n ≡ t.warehouses → m ≡ t.items
    → each 1 n (λ w. each 1 m (rows w)) ≡ each 1 s.warehouses (λ w. each 1 s.items (rows w))
laid_by_item rows s t n m same warehouses items =
    let all_warehouses = warehouses ∙ ap (λ (s : Scale). s.warehouses) same in
    let all_items = items ∙ ap (λ (s : Scale). s.items) same in
    λ i. each 1 (all_warehouses i) (λ w. each 1 (all_items i) (rows w))
