-- The chosen customer is the row that its own key names.
use Rattle.std.proofs.Common.{◌≡◌, ℕ, zero, suc, Bool, true, false, List, [], ◌∷◌, ◌∙◌, arith, cond}
use Rattle.std.specs.Prelude.{◌&&◌, filter, find, Some, slice_get, length, ◌+◌, ◌-◌, ◌/◌, ◌==◌}
use Rattle.std.specs.List.{list_all}
use Rattle.std.specs.Str.{bytes_eq}
use Rattle.std.proofs.lemmas.Bool.Decides.{nat_tests}
use Rattle.tpcc_rows.specs.declared.tables.rows.CustomerRow.{CustomerRow}
use Rattle.tpcc_rows.specs.declared.transactions.requests.Who.{Who}
use Rattle.tpcc_rows.specs.declared.transactions.requests.Who.TheVariants.{Number, Name}
use Rattle.tpcc_rows.specs.Lists.{inserted, inserted_all, key_before, is_ascending}
use Rattle.tpcc_rows.specs.Tables.{Rows, is_customer, find_customer, customers_in, customer_key}
use Rattle.tpcc_rows.specs.ChosenCustomer.{chosen_customer, customers_named, first_name_before}
use Rattle.tpcc_rows.proofs.Booleans.{split}

-- a fact of each row
abbrev pub Each : {X : Type 0} → (X → Type 0) → List X → Type 0
Each P [] = Unit {0}
Each P (x ∷ xs) = P x × Each P xs

kept_or_not : {X : Type 0} (P : X → Type 0) (b : Bool) (x : X) (xs : List X) → P x → Each P xs → Each P (cond b (x ∷ xs) xs)
kept_or_not P true x xs h all = (h, all)
kept_or_not P false x xs h all = all

pub each-filter : {X : Type 0} (P : X → Type 0) (q : X → Bool) (xs : List X) → Each P xs → Each P (filter q xs)
each-filter P q [] all = tt
each-filter P q (x ∷ xs) all = kept_or_not P (q x) x (filter q xs) all.0 (each-filter P q xs all.1)

here_or_later : {X : Type 0} (P : X → Type 0) (b : Bool) (new x : X) (xs more : List X) → P new → P x → Each P xs → Each P more → Each P (cond b (new ∷ x ∷ xs) (x ∷ more))
here_or_later P true new x xs more hn hx all later = (hn, (hx, all))
here_or_later P false new x xs more hn hx all later = (hx, later)

pub each-inserted : {X : Type 0} (P : X → Type 0) (before : X → X → Bool) (new : X) (xs : List X) → P new → Each P xs → Each P (inserted before new xs)
each-inserted P before new [] h all = (h, tt)
each-inserted P before new (x ∷ xs) h all = here_or_later P (before new x) new x xs (inserted before new xs) h all.0 all.1 (each-inserted P before new xs h all.1)

pub each-inserted_all : {X : Type 0} (P : X → Type 0) (before : X → X → Bool) (news xs : List X) → Each P news → Each P xs → Each P (inserted_all before news xs)
each-inserted_all P before [] xs hs all = all
each-inserted_all P before (new ∷ news) xs hs all = each-inserted_all P before news (inserted before new xs) hs.1 (each-inserted P before new xs hs.0 all)

-- the element at a place, by its own equation
pub each-get : {X : Type 0} (P : X → Type 0) (xs : List X) (i : ℕ) (x : X) → Each P xs → slice_get xs i ≡ Some x → P x
each-get P [] i x all e = cc
each-get P (y ∷ xs) zero x all e = let same : y ≡ x = grind arith in rw (← same) all.0
each-get P (y ∷ xs) (suc i) x all e = each-get P xs i x all.1 (grind arith)

pub each-with : {X : Type 0} (P R : X → Type 0) (test : X → Bool) → ((x : X) → P x → test x ≡ true → R x) → (xs : List X) → Each P xs → list_all test xs ≡ true → Each R xs
each-with P R test step [] all tests = tt
each-with P R test step (x ∷ xs) all tests = let s = split (test x) (list_all test xs) tests in (step x all.0 s.0, each-with P R test step xs all.1 s.1)

-- the row is the one that its key names
abbrev pub IsFoundIn : List CustomerRow → CustomerRow → Type 0
IsFoundIn xs c = find (is_customer c.warehouse c.district c.id) xs ≡ Some c

differs : (x c : CustomerRow) → key_before (customer_key x) (customer_key c) ≡ true → is_customer c.warehouse c.district c.id x ≡ false
differs x c h = grind (arith, nat_tests)

its_own : (c : CustomerRow) → is_customer c.warehouse c.district c.id c ≡ true
its_own c = grind (arith, nat_tests)

found_later : (x c : CustomerRow) (xs : List CustomerRow) → IsFoundIn xs c → key_before (customer_key x) (customer_key c) ≡ true → IsFoundIn (x ∷ xs) c
found_later x c xs h e = let d = differs x c e in grind arith

found_here : (x : CustomerRow) (xs : List CustomerRow) → IsFoundIn (x ∷ xs) x
found_here x xs = let e = its_own x in grind arith

pub each_found : (xs : List CustomerRow) → is_ascending customer_key xs ≡ true → Each (IsFoundIn xs) xs
each_found [] keyed = tt
each_found (x ∷ xs) keyed =
    let s = split (list_all (λ later. key_before (customer_key x) (customer_key later)) xs) (is_ascending customer_key xs) keyed in
    (found_here x xs, each-with (IsFoundIn xs) (IsFoundIn (x ∷ xs)) (λ later. key_before (customer_key x) (customer_key later)) (λ c h e. found_later x c xs h e) xs (each_found xs s.1) s.0)

number_found : (w d n : ℕ) (c : CustomerRow) (xs : List CustomerRow) → find (is_customer w d n) xs ≡ Some c → is_customer w d n c ≡ true
number_found w d n c [] e = cc
number_found w d n c (x ∷ xs) e = grind (arith, number_found w d n c xs)

same_key : (w d n : ℕ) (c : CustomerRow) (xs : List CustomerRow) → is_customer w d n c ≡ true → find (is_customer w d n) xs ≡ Some c → IsFoundIn xs c
same_key w d n c xs h e =
    let ew : c.warehouse ≡ w = grind (arith, nat_tests) in
    let ed : c.district ≡ d = grind (arith, nat_tests) in
    let en : c.id ≡ n = grind (arith, nat_tests) in
    (λ i. find (is_customer (ew i) (ed i) (en i)) xs) ∙ e

-- whoever is chosen, by number or by name
pub chosen_row : (rows : Rows) (w d : ℕ) (who : Who) (c : CustomerRow) → is_ascending customer_key rows.customers ≡ true → chosen_customer rows w d who ≡ Some c → find_customer rows c.warehouse c.district c.id ≡ Some c
unfolding chosen_customer
chosen_row rows w d (Number n) c keyed e = same_key w d n c rows.customers (number_found w d n c rows.customers e) e
chosen_row rows w d (Name last) c keyed e =
    each-get (IsFoundIn rows.customers) (customers_named rows w d last) ((length (customers_named rows w d last) + 1) / 2 - 1) c
    (each-inserted_all (IsFoundIn rows.customers) first_name_before (filter (λ c. bytes_eq c.last last) (customers_in rows w d)) []
    (each-filter (IsFoundIn rows.customers) (λ c. bytes_eq c.last last) (customers_in rows w d) (each-filter (IsFoundIn rows.customers) (λ c. (c.warehouse == w) && (c.district == d)) rows.customers (each_found rows.customers keyed)))
    tt)
    e
