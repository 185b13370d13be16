-- The chosen customer is a row of the table.
use Rattle.std.proofs.Common.{◌≡◌, ℕ, zero, suc, Bool, true, List, [], ◌∷◌, refl, ◌∙◌, arith}
use Rattle.std.specs.Prelude.{◌&&◌, filter, is_some, find, Some, slice_get, length, ◌+◌, ◌-◌, ◌/◌, ◌==◌}
use Rattle.std.specs.List.{list_all}
use Rattle.std.specs.Str.{bytes_eq}
use Rattle.std.proofs.lemmas.Bool.Decides.{nat_tests}
use Rattle.tpcc_rows.specs.declared.tables.rows.CustomerRow.{CustomerRow}
use Rattle.tpcc_rows.specs.declared.transactions.requests.Who.{Who}
use Rattle.tpcc_rows.specs.declared.transactions.requests.Who.TheVariants.{Number, Name}
use Rattle.tpcc_rows.specs.Tables.{Rows, is_customer, find_customer, customers_in}
use Rattle.tpcc_rows.specs.ChosenCustomer.{chosen_customer, customers_named, first_name_before}
use Rattle.tpcc_laws.proofs.List.{list_all-mono}
use Rattle.tpcc_laws.proofs.Insert.{list_all-inserted_all}
use Rattle.tpcc_laws.proofs.Remove.{found_passes}
use Rattle.tpcc_laws.proofs.DeliveryKeys.{list_all-filter}
use Rattle.tpcc_rows.proofs.Booleans.{both_true}

abbrev is_row_of : List CustomerRow → CustomerRow → Bool
is_row_of customers c = is_some (find (is_customer c.warehouse c.district c.id) customers)

its_own_key : (c : CustomerRow) → is_customer c.warehouse c.district c.id c ≡ true
its_own_key c = grind (arith, nat_tests)

found_in_more : (c x : CustomerRow) (xs : List CustomerRow) → is_row_of xs c ≡ true → is_row_of (x ∷ xs) c ≡ true
found_in_more c x xs h = grind arith

found_first : (x : CustomerRow) (xs : List CustomerRow) → is_customer x.warehouse x.district x.id x ≡ true → is_row_of (x ∷ xs) x ≡ true
found_first x xs h = grind arith

-- each row is found by its key
pub rows_found : (xs : List CustomerRow) → list_all (is_row_of xs) xs ≡ true
rows_found [] = refl
rows_found (x ∷ xs) = both_true _ _ (found_first x xs (its_own_key x)) (list_all-mono (is_row_of xs) (is_row_of (x ∷ xs)) (λ c h. found_in_more c x xs h) xs (rows_found xs))

element_passes : {X : Type 0} (test : X → Bool) (xs : List X) (i : ℕ) (x : X) → list_all test xs ≡ true → slice_get xs i ≡ Some x → test x ≡ true
element_passes test [] i x h e = cc
element_passes test (y ∷ xs) zero x h e = grind arith
element_passes test (y ∷ xs) (suc i) x h e = grind (arith, element_passes test xs i x)

pub chosen_is_found : (rows : Rows) (w d : ℕ) (who : Who) (c : CustomerRow) → chosen_customer rows w d who ≡ Some c → is_some (find_customer rows c.warehouse c.district c.id) ≡ true
unfolding chosen_customer
chosen_is_found rows w d (Number n) c e = (found_passes (is_customer w d n) (is_row_of rows.customers) rows.customers c e (rows_found rows.customers)).1
chosen_is_found rows w d (Name last) c e =
    element_passes (is_row_of rows.customers) (customers_named rows w d last) ((length (customers_named rows w d last) + 1) / 2 - 1) c
    (list_all-inserted_all first_name_before (is_row_of rows.customers) (filter (λ c. bytes_eq c.last last) (customers_in rows w d)) []
    ∙ both_true _ _ (list_all-filter (is_row_of rows.customers) (λ c. bytes_eq c.last last) (customers_in rows w d) (list_all-filter (is_row_of rows.customers) (λ c. (c.warehouse == w) && (c.district == d)) rows.customers (rows_found rows.customers))) refl)
    e
