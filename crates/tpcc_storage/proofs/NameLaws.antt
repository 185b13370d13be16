-- The names of customers after a change of their table, and that the middle name is the chosen customer's.
use Rattle.std.proofs.Common.{◌≡◌, ◌∙◌, ℕ, zero, suc, ◌+◌, ◌-◌, ◌/◌, ◌==◌, Bool, true, false, cond, List, [], ◌∷◌, length, map, refl, ap, sym, arith, Less, Equal, Greater, Some, None}
use Rattle.std.specs.Prelude.{◌&&◌, not, filter, Option, option_map, slice_get}
use Rattle.std.specs.List.{list_all}
use Rattle.std.specs.Option.{option_and_then}
use Rattle.std.specs.declared.cmp.Ordering.{Ordering}
use Rattle.std.specs.Ordering.{is_lt, is_eq, nat_cmp, ordering_then}
use Rattle.std.specs.Cmp.{IsTotalOrder, IsStrictWeakOrder}
use Rattle.std.specs.Cmp.Lexicographic.{slice_cmp}
use Rattle.std.specs.Str.{bytes_eq}
use Rattle.std.proofs.lemmas.Cmp.{then_total, on_total, nat_cmp_total, nat_list_cmp_total, tied_back}
use Rattle.std.proofs.lemmas.List.Sorted.{ranks_by}
use Rattle.std.proofs.lemmas.Option.{slice_get-map}
use Rattle.std.proofs.lemmas.Bool.{eqb-true}
use Rattle.tpcc_rows.specs.declared.tables.rows.CustomerRow.{CustomerRow}
use Rattle.tpcc_rows.specs.declared.transactions.requests.Who.TheVariants.{Name}
use Rattle.tpcc_rows.specs.Lists.{updated, inserted, sorted, is_ascending}
use Rattle.tpcc_rows.specs.Tables.{Rows, customers_in, customer_key, find_customer}
use Rattle.tpcc_rows.specs.ChosenCustomer.{chosen_customer, first_name_before}
use Rattle.tpcc_laws.proofs.List.{key-chosen}
use Rattle.tpcc_laws.proofs.Insert.{length-inserted, list_all-inserted_all}
use Rattle.tpcc_rows.proofs.Booleans.{split, both_true}
use Rattle.tpcc_laws.proofs.ChosenRow.{chosen_row}
use Rattle.tpcc_storage.specs.declared.names.CustomerName.{CustomerName}
use Rattle.tpcc_storage.specs.Names.{name_before, name_of, names_of, is_named, middle_id}
use Rattle.tpcc_storage.specs.Internal.Names.{is_in_order}
use Rattle.tpcc_storage.proofs.Order.{in_order-inserted, in_order-filter, in_order-sorted, one_order, sorted_is, count-sorted}
use Rattle.tpcc_storage.proofs.Name.{last_both, last_total, name_order, names_tied, equal_is_named}

-- ---- a table that is changed

same_names : (passes : CustomerRow → Bool) (change : CustomerRow → CustomerRow) → ((x : CustomerRow) → name_of (change x) ≡ name_of x) → (rows : List CustomerRow) → map name_of (updated passes change rows) ≡ map name_of rows
same_names passes change same [] = refl
same_names passes change same (x ∷ rows) = λ i. key-chosen name_of passes change same x i ∷ same_names passes change same rows i

-- after a change of other columns the names are the same
pub names_kept : (passes : CustomerRow → Bool) (change : CustomerRow → CustomerRow) → ((x : CustomerRow) → name_of (change x) ≡ name_of x) → (rows : List CustomerRow) → names_of (updated passes change rows) ≡ names_of rows
names_kept passes change same rows = ap (sorted name_before) (same_names passes change same rows)

count-map : {X Y : Type 0} (q : Y → Bool) (f : X → Y) (xs : List X) → length (filter q (map f xs)) ≡ length (filter (λ x. q (f x)) xs)
count-map q f [] = refl
count-map q f (x ∷ xs) = by (q (f x)) (count-map q f xs)
  where
    by : (b : Bool) → length (filter q (map f xs)) ≡ length (filter (λ x. q (f x)) xs) → length (cond b (f x ∷ filter q (map f xs)) (filter q (map f xs))) ≡ length (cond b (x ∷ filter (λ x. q (f x)) xs) (filter (λ x. q (f x)) xs))
    by true rest = ap suc rest
    by false rest = rest

count_loaded : (before : CustomerRow → CustomerRow → Bool) (row : CustomerRow) (rows : List CustomerRow) (q : CustomerName → Bool) → length (filter q (inserted name_before (name_of row) (names_of rows))) ≡ length (filter q (map name_of (inserted before row rows)))
count_loaded before row rows q =
    length-inserted name_before q (name_of row) (names_of rows)
    ∙ (λ i. cond (q (name_of row)) (suc (names i)) (names i))
    ∙ sym (length-inserted before (λ c. q (name_of c)) row rows)
    ∙ sym (count-map q name_of (inserted before row rows))
  where
    names : length (filter q (names_of rows)) ≡ length (filter (λ c. q (name_of c)) rows)
    names = count-sorted name_before name_order q (map name_of rows) ∙ count-map q name_of rows

-- a new customer's name goes to its place, wherever the customer is put
pub names_loaded : (before : CustomerRow → CustomerRow → Bool) (row : CustomerRow) (rows : List CustomerRow) → names_of (inserted before row rows) ≡ inserted name_before (name_of row) (names_of rows)
names_loaded before row rows =
    sym (sorted_is name_before name_order names_tied (map name_of (inserted before row rows)) (inserted name_before (name_of row) (names_of rows))
    (in_order-inserted name_before name_order (name_of row) (names_of rows) (in_order-sorted name_before name_order (map name_of rows)))
    (count_loaded before row rows))

-- ---- customers by name

abbrev first_cmp : CustomerRow → CustomerRow → Ordering
first_cmp a b = ordering_then (slice_cmp nat_cmp a.first b.first) (nat_cmp a.id b.id)

first_total : IsTotalOrder first_cmp
first_total = then_total (on_total (λ (c : CustomerRow). c.first) nat_list_cmp_total) (on_total (λ (c : CustomerRow). c.id) nat_cmp_total)

first_order : IsStrictWeakOrder first_name_before
first_order = ranks_by first_total (λ c. c)

abbrev has_last : ℕ → ℕ → List ℕ → CustomerRow → Bool
has_last w d last c = is_named w d last (name_of c)

is_equal : (r : Ordering) → is_eq r ≡ true → r ≡ Equal
is_equal Less e = cc
is_equal Equal e = refl
is_equal Greater e = cc

after_equal : (a b : Ordering) → a ≡ Equal → ordering_then a b ≡ b
after_equal a b e = ap (λ r. ordering_then r b) e

abbrev sought : ℕ → ℕ → List ℕ → CustomerName
sought w d last = record { warehouse = w; district = d; last = last; first = []; id = 0 }

-- of two customers of one last name the first names and the numbers decide
by_first : (w d : ℕ) (last : List ℕ) (x y : CustomerRow) → has_last w d last x ≡ true → has_last w d last y ≡ true → name_before (name_of x) (name_of y) ≡ first_name_before x y
by_first w d last x y hx hy =
    let k = sought w d last in
    let ex : last_both (name_of x) k ≡ Equal = is_equal (last_both (name_of x) k) (equal_is_named w d last (name_of x) ∙ hx) in
    let ey : last_both (name_of y) k ≡ Equal = is_equal (last_both (name_of y) k) (equal_is_named w d last (name_of y) ∙ hy) in
    let e : last_both (name_of x) (name_of y) ≡ Equal = last_total.congr (name_of x) k (name_of y) ex ∙ tied_back last_total (name_of y) k ey in
    ap is_lt (after_equal (last_both (name_of x) (name_of y)) (first_cmp x y) e)

none_before : (w d : ℕ) (last : List ℕ) (x : CustomerRow) (xs : List CustomerRow) → has_last w d last x ≡ true → list_all (has_last w d last) xs ≡ true → list_all (λ later. not (first_name_before later x)) xs ≡ true → list_all (λ later. not (name_before later (name_of x))) (map name_of xs) ≡ true
none_before w d last x [] hx h up = refl
none_before w d last x (y ∷ xs) hx h up =
    let s = split (has_last w d last y) (list_all (has_last w d last) xs) h in
    let u = split (not (first_name_before y x)) (list_all (λ later. not (first_name_before later x)) xs) up in
    both_true (not (name_before (name_of y) (name_of x))) (list_all (λ later. not (name_before later (name_of x))) (map name_of xs))
    (ap not (by_first w d last y x s.0 hx) ∙ u.0)
    (none_before w d last x xs hx s.1 u.1)

in_order-names : (w d : ℕ) (last : List ℕ) (xs : List CustomerRow) → list_all (has_last w d last) xs ≡ true → is_in_order first_name_before xs ≡ true → is_in_order name_before (map name_of xs) ≡ true
in_order-names w d last [] h up = refl
in_order-names w d last (x ∷ xs) h up =
    let s = split (has_last w d last x) (list_all (has_last w d last) xs) h in
    let u = split (list_all (λ later. not (first_name_before later x)) xs) (is_in_order first_name_before xs) up in
    both_true (list_all (λ later. not (name_before later (name_of x))) (map name_of xs)) (is_in_order name_before (map name_of xs))
    (none_before w d last x xs s.0 s.1 u.0)
    (in_order-names w d last xs s.1 u.1)

filter-filter : {X : Type 0} (p q : X → Bool) (xs : List X) → filter q (filter p xs) ≡ filter (λ x. p x && q x) xs
filter-filter p q [] = refl
filter-filter p q (x ∷ xs) = grind (arith, filter-filter p q xs)

all_pass : {X : Type 0} (p : X → Bool) (xs : List X) → list_all p (filter p xs) ≡ true
all_pass p [] = refl
all_pass p (x ∷ xs) = grind (arith, all_pass p xs)

abbrev in_first_order : ℕ → ℕ → List ℕ → List CustomerRow → List CustomerRow
in_first_order w d last rows = sorted first_name_before (filter (has_last w d last) rows)

all_have_last : (w d : ℕ) (last : List ℕ) (rows : List CustomerRow) → list_all (has_last w d last) (in_first_order w d last rows) ≡ true
all_have_last w d last rows =
    list_all-inserted_all first_name_before (has_last w d last) (filter (has_last w d last) rows) []
    ∙ both_true (list_all (has_last w d last) (filter (has_last w d last) rows)) true (all_pass (has_last w d last) rows) refl

-- the names of a last name are those of the customers of that name, by first name
names_by_first : (w d : ℕ) (last : List ℕ) (rows : List CustomerRow) → filter (is_named w d last) (names_of rows) ≡ map name_of (in_first_order w d last rows)
names_by_first w d last rows =
    one_order name_before name_order names_tied (filter (is_named w d last) (names_of rows)) (map name_of (in_first_order w d last rows))
    (in_order-filter name_before (is_named w d last) (names_of rows) (in_order-sorted name_before name_order (map name_of rows)))
    (in_order-names w d last (in_first_order w d last rows) (all_have_last w d last rows) (in_order-sorted first_name_before first_order (filter (has_last w d last) rows)))
    counts
  where
    counts : (q : CustomerName → Bool) → length (filter q (filter (is_named w d last) (names_of rows))) ≡ length (filter q (map name_of (in_first_order w d last rows)))
    counts q =
        ap length (filter-filter (is_named w d last) q (names_of rows))
        ∙ count-sorted name_before name_order (λ n. is_named w d last n && q n) (map name_of rows)
        ∙ count-map (λ n. is_named w d last n && q n) name_of rows
        ∙ ap length (sym (filter-filter (has_last w d last) (λ c. q (name_of c)) rows))
        ∙ sym (count-sorted first_name_before first_order (λ c. q (name_of c)) (filter (has_last w d last) rows))
        ∙ sym (count-map q name_of (in_first_order w d last rows))

map-length : {X Y : Type 0} (f : X → Y) (xs : List X) → length (map f xs) ≡ length xs
map-length f [] = refl
map-length f (x ∷ xs) = ap suc (map-length f xs)

ids_of : (o : Option CustomerRow) → option_map (λ n. n.id) (option_map name_of o) ≡ option_map (λ c. c.id) o
ids_of None = refl
ids_of (Some c) = refl

abbrev middle_row : ℕ → ℕ → List ℕ → List CustomerRow → Option CustomerRow
middle_row w d last rows = slice_get (in_first_order w d last rows) ((length (in_first_order w d last rows) + 1) / 2 - 1)

middle_of_rows : (w d : ℕ) (last : List ℕ) (rows : List CustomerRow) → middle_id w d last (names_of rows) ≡ option_map (λ c. c.id) (middle_row w d last rows)
middle_of_rows w d last rows =
    let named = in_first_order w d last rows in
    (λ i. option_map (λ n. n.id) (slice_get (names_by_first w d last rows i) ((length (names_by_first w d last rows i) + 1) / 2 - 1)))
    ∙ (λ i. option_map (λ n. n.id) (slice_get (map name_of named) ((map-length name_of named i + 1) / 2 - 1)))
    ∙ ap (λ o. option_map (λ n. n.id) o) (slice_get-map name_of named ((length named + 1) / 2 - 1))
    ∙ ids_of (slice_get named ((length named + 1) / 2 - 1))

chosen_is_middle : (rows : Rows) (w d : ℕ) (last : List ℕ) → chosen_customer rows w d (Name last) ≡ middle_row w d last rows.customers
unfolding chosen_customer
chosen_is_middle rows w d last =
    let list : filter (λ c. bytes_eq c.last last) (customers_in rows w d) ≡ filter (has_last w d last) rows.customers = filter-filter (λ c. (c.warehouse == w) && (c.district == d)) (λ c. bytes_eq c.last last) rows.customers in
    λ i. slice_get (sorted first_name_before (list i)) ((length (sorted first_name_before (list i)) + 1) / 2 - 1)

-- the middle name's number is that of the chosen customer
pub middle_is_id : (rows : Rows) (w d : ℕ) (last : List ℕ) → middle_id w d last (names_of rows.customers) ≡ option_map (λ c. c.id) (chosen_customer rows w d (Name last))
middle_is_id rows w d last = middle_of_rows w d last rows.customers ∙ ap (λ o. option_map (λ c. c.id) o) (sym (chosen_is_middle rows w d last))

at_passes : {X : Type 0} (test : X → Bool) (xs : List X) (i : ℕ) (x : X) → list_all test xs ≡ true → slice_get xs i ≡ Some x → test x ≡ true
at_passes test [] i x h e = cc
at_passes test (y ∷ xs) zero x h e = grind arith
at_passes test (y ∷ xs) (suc i) x h e = grind (arith, at_passes test xs i x)

-- the middle name's number names the chosen customer
pub middle_is_chosen : (rows : Rows) (w d : ℕ) (last : List ℕ) → is_ascending customer_key rows.customers ≡ true → chosen_customer rows w d (Name last) ≡ option_and_then (find_customer rows w d) (middle_id w d last (names_of rows.customers))
middle_is_chosen rows w d last keyed = by (chosen_customer rows w d (Name last)) refl ∙ ap (option_and_then (find_customer rows w d)) (sym (middle_is_id rows w d last))
  where
    by : (o : Option CustomerRow) → chosen_customer rows w d (Name last) ≡ o → chosen_customer rows w d (Name last) ≡ option_and_then (find_customer rows w d) (option_map (λ c. c.id) (chosen_customer rows w d (Name last)))
    by None e = e ∙ (λ i. option_and_then (find_customer rows w d) (option_map (λ c. c.id) (sym e i)))
    by (Some c) e =
        let own : has_last w d last c ≡ true = at_passes (has_last w d last) (in_first_order w d last rows.customers) ((length (in_first_order w d last rows.customers) + 1) / 2 - 1) c (all_have_last w d last rows.customers) (sym (chosen_is_middle rows w d last) ∙ e) in
        let parts = split ((c.warehouse == w) && (c.district == d)) (bytes_eq c.last last) own in
        let place = split (c.warehouse == w) (c.district == d) parts.0 in
        let ew : c.warehouse ≡ w = eqb-true c.warehouse w place.0 in
        let ed : c.district ≡ d = eqb-true c.district d place.1 in
        let found : find_customer rows w d c.id ≡ Some c = (λ i. find_customer rows (sym ew i) (sym ed i) c.id) ∙ chosen_row rows w d (Name last) c keyed e in
        e ∙ sym found ∙ (λ i. option_and_then (find_customer rows w d) (option_map (λ c. c.id) (sym e i)))

-- the same in the two cases of a look-up by the middle name
pub middle_found : (rows : Rows) (w d : ℕ) (last : List ℕ) (id : ℕ) → is_ascending customer_key rows.customers ≡ true → middle_id w d last (names_of rows.customers) ≡ Some id → find_customer rows w d id ≡ chosen_customer rows w d (Name last)
middle_found rows w d last id keyed e = ap (option_and_then (find_customer rows w d)) (sym e) ∙ sym (middle_is_chosen rows w d last keyed)

pub middle_none : (rows : Rows) (w d : ℕ) (last : List ℕ) → is_ascending customer_key rows.customers ≡ true → middle_id w d last (names_of rows.customers) ≡ None → None ≡ chosen_customer rows w d (Name last)
middle_none rows w d last keyed e = ap (option_and_then (find_customer rows w d)) (sym e) ∙ sym (middle_is_chosen rows w d last keyed)
