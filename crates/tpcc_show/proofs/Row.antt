-- The rows of a table, and their records, by place.
use Rattle.std.proofs.Common.{arith, ◌≡◌, ◌∙◌, sym, refl, ap, subst, ℕ, ◌+◌, ◌≤◌, zero, suc, List, ◌∷◌, [], ◌++◌, length, map, take, drop}
use Rattle.std.specs.Prelude.{slice_get, Option, Some, None}
use Rattle.std.proofs.Math.Seq.{take-suc, take-add}
use Rattle.std.proofs.lemmas.List.{length-map, map-append, flat_map_more, take_all, take-append-drop}
use Rattle.std.proofs.lemmas.List.Concat.{flat_map-append}
use Rattle.std.proofs.lemmas.Option.{none-some, slice_get-map, slice_get_within, get_or_from_slice_get}
use Rattle.csv.specs.Writing.{default_writer, row_text}
use Rattle.tpcc_rows.specs.declared.tables.row.Row.{Row}
use Rattle.tpcc_rows.specs.declared.tables.row.Table.{Table}
use Rattle.tpcc_rows.specs.declared.tables.row.Table.TheVariants as table
use Rattle.tpcc_rows.specs.Tables.{Rows}
use Rattle.tpcc_tables.specs.Positions.{count_of, row_at}
use Rattle.tpcc_show.specs.Dump.{rows_of, records_text}
use Rattle.tpcc_show.specs.Internal.Dump.{records_from}
use Rattle.tpcc_text.specs.Prefix.{AppendsPrefix, PassesBytes}
use Rattle.tpcc_show.specs.Records.{record_of}
use Rattle.tpcc_text.proofs.BlockSteps.{in_turn, cut_first, cut_later, cut_between}

-- the row at a place of the list
pub row_of_place : (rows : Rows) (t : Table) (k : ℕ) → row_at rows t k ≡ slice_get (rows_of rows t) k
unfolding row_at rows_of
row_of_place rows table.Warehouse k = sym (slice_get-map _ rows.warehouses k)
row_of_place rows table.District k = sym (slice_get-map _ rows.districts k)
row_of_place rows table.Customer k = sym (slice_get-map _ rows.customers k)
row_of_place rows table.History k = sym (slice_get-map _ rows.histories k)
row_of_place rows table.Order k = sym (slice_get-map _ rows.orders k)
row_of_place rows table.OrderLine k = sym (slice_get-map _ rows.order_lines k)
row_of_place rows table.NewOrder k = sym (slice_get-map _ rows.new_orders k)
row_of_place rows table.Item k = sym (slice_get-map _ rows.items k)
row_of_place rows table.Stock k = sym (slice_get-map _ rows.stocks k)

-- as many rows as the table counts
pub count_of_rows : (rows : Rows) (t : Table) → length (rows_of rows t) ≡ count_of rows t
unfolding count_of rows_of
count_of_rows rows table.Warehouse = length-map rows.warehouses _
count_of_rows rows table.District = length-map rows.districts _
count_of_rows rows table.Customer = length-map rows.customers _
count_of_rows rows table.History = length-map rows.histories _
count_of_rows rows table.Order = length-map rows.orders _
count_of_rows rows table.OrderLine = length-map rows.order_lines _
count_of_rows rows table.NewOrder = length-map rows.new_orders _
count_of_rows rows table.Item = length-map rows.items _
count_of_rows rows table.Stock = length-map rows.stocks _

-- one row more
one_row : {X : Type 0} (xs : List X) (k : ℕ) (x : X) → slice_get xs k ≡ Some x → take (k + 1) xs ≡ take k xs ++ x ∷ []
one_row xs k x e =
    let n : k + 1 ≡ suc k = omega arith in
    let z = get_or_from_slice_get xs k x x e in
    let more = rw z at (take-suc xs k x (slice_get_within xs k x e)) in
    rw n more

-- what is at a place behind the first places
slice_get_drop : {X : Type 0} (n : ℕ) (xs : List X) (k : ℕ) → slice_get (drop n xs) k ≡ slice_get xs (n + k)
slice_get_drop zero xs k =
    let e : 0 + k ≡ k = omega arith in
    rw e refl
slice_get_drop (suc n) [] k = refl
slice_get_drop (suc n) (x ∷ xs) k =
    let e : suc n + k ≡ suc (n + k) = omega arith in
    rw e (slice_get_drop n xs k)

-- the row at a place of those from a place on
from_place : (rows : Rows) (t : Table) (from k : ℕ) → row_at rows t (from + k) ≡ slice_get (drop from (rows_of rows t)) k
from_place rows t from k = row_of_place rows t (from + k) ∙ sym (slice_get_drop from (rows_of rows t) k)

-- the record of the row at a place, behind those of the rows before it
pub one_record : (rows : Rows) (t : Table) (from k : ℕ) (x : Row) (text : List ℕ) → row_at rows t (from + k) ≡ Some x
    → (text ++ records_text (records_from rows t from k)) ++ row_text default_writer (record_of x)
    ≡ text ++ records_text (records_from rows t from (k + 1))
one_record rows t from k x text e =
    let place = sym (from_place rows t from k) ∙ e in
    let more = map-append record_of (take k (drop from (rows_of rows t))) (x ∷ []) in
    flat_map_more (row_text default_writer) text (records_from rows t from k) (record_of x)
    ∙ ap (λ z. text ++ records_text z) (sym more)
    ∙ ap (λ z. text ++ records_text (map record_of z)) (sym (one_row (drop from (rows_of rows t)) k x place))

-- behind the end no row is left
past : {X : Type 0} (xs : List X) (k : ℕ) → slice_get xs k ≡ None → length xs ≤ k
past [] k e = omega arith
past (x ∷ xs) zero e = absurd (none-some x (sym e))
past (x ∷ xs) (suc k) e = let n = past xs k e in omega arith

pub no_record : (rows : Rows) (t : Table) (from k : ℕ) → row_at rows t (from + k) ≡ None → records_from rows t from (k + 1) ≡ records_from rows t from k
no_record rows t from k e =
    let rest = drop from (rows_of rows t) in
    let end = past rest k (sym (from_place rows t from k) ∙ e) in
    ap (map record_of) (take_all (k + 1) rest (omega arith) ∙ sym (take_all k rest end))

in_two : (xs ys : List Row) → records_text (map record_of xs) ++ records_text (map record_of ys) ≡ records_text (map record_of (xs ++ ys))
in_two xs ys =
    sym (flat_map-append (row_text default_writer) (map record_of xs) (map record_of ys))
    ∙ ap records_text (sym (map-append record_of xs ys))

-- the records of more rows behind those of the first
records_more : (rows : Rows) (t : Table) (k n : ℕ)
    → records_text (map record_of (take k (rows_of rows t))) ++ records_text (records_from rows t k n) ≡ records_text (map record_of (take (k + n) (rows_of rows t)))
records_more rows t k n =
    in_two (take k (rows_of rows t)) (take n (drop k (rows_of rows t)))
    ∙ ap (λ z. records_text (map record_of z)) (sym (take-add k n (rows_of rows t)))

-- or of all that are left
records_rest : (rows : Rows) (t : Table) (k : ℕ)
    → records_text (map record_of (take k (rows_of rows t))) ++ records_text (map record_of (drop k (rows_of rows t))) ≡ records_text (map record_of (rows_of rows t))
records_rest rows t k =
    in_two (take k (rows_of rows t)) (drop k (rows_of rows t))
    ∙ ap (λ z. records_text (map record_of z)) (take-append-drop k (rows_of rows t))

-- the records of the first rows, and all of them
abbrev pub first_text : Rows → Table → ℕ → List ℕ
first_text rows t k = records_text (map record_of (take k (rows_of rows t)))

abbrev pub all_text : Rows → Table → List ℕ
all_text rows t = records_text (map record_of (rows_of rows t))

-- the records of more rows were put
pub put_more : (rows : Rows) (t : Table) (k n : ℕ) (a b c : Option (List ℕ)) (waited waits left bytes : List ℕ)
    → PassesBytes a b (waited ++ first_text rows t k) waits → bytes ≡ records_text (records_from rows t k n) → PassesBytes b c (waits ++ bytes) left
    → PassesBytes a c (waited ++ first_text rows t (k + n)) left
put_more rows t k n a b c waited waits left bytes before is more =
    let behind = subst (λ z. PassesBytes b c (waits ++ z) left) is more in
    subst (λ z. PassesBytes a c (waited ++ z) left) (records_more rows t k n)
    (in_turn a b c waited (first_text rows t k) (records_text (records_from rows t k n)) waits left before behind)

-- cut off before them
pub cut_before : (rows : Rows) (t : Table) (k : ℕ) (a b : Option (List ℕ)) (waited waits : List ℕ)
    → PassesBytes a b (waited ++ first_text rows t k) waits → AppendsPrefix a b (waited ++ all_text rows t)
cut_before rows t k a b waited waits before =
    subst (λ z. AppendsPrefix a b (waited ++ z)) (records_rest rows t k)
    (cut_between a b waited (first_text rows t k) (records_text (map record_of (drop k (rows_of rows t)))) waits before)

-- or within them
pub cut_within : (rows : Rows) (t : Table) (k n : ℕ) (a b c : Option (List ℕ)) (waited waits bytes : List ℕ)
    → PassesBytes a b (waited ++ first_text rows t k) waits → bytes ≡ records_text (records_from rows t k n) → AppendsPrefix b c (waits ++ bytes)
    → AppendsPrefix a c (waited ++ all_text rows t)
cut_within rows t k n a b c waited waits bytes before is more =
    let behind = subst (λ z. AppendsPrefix b c (waits ++ z)) is more in
    let part = cut_later a b c waited (first_text rows t k) (records_text (records_from rows t k n)) waits before behind in
    let first = subst (λ z. AppendsPrefix a c (waited ++ z)) (records_more rows t k n) part in
    subst (λ z. AppendsPrefix a c (waited ++ z)) (records_rest rows t (k + n))
    (cut_first a c waited (first_text rows t (k + n)) (records_text (map record_of (drop (k + n) (rows_of rows t)))) first)

-- all rows
pub put_whole : (rows : Rows) (t : Table) (k : ℕ) (a b : Option (List ℕ)) (waited waits : List ℕ) → count_of rows t ≤ k
    → PassesBytes a b (waited ++ first_text rows t k) waits → PassesBytes a b (waited ++ all_text rows t) waits
put_whole rows t k a b waited waits most before =
    let n = count_of_rows rows t in
    let all = take_all k (rows_of rows t) (omega arith) in
    subst (λ z. PassesBytes a b (waited ++ records_text (map record_of z)) waits) all before
