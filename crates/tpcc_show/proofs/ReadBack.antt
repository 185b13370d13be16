-- A dump's text, read by the default reader.
use Rattle.std.proofs.Common.{arith, ◌≡◌, ◌∙◌, refl, ap, ℕ, ◌<◌, zero, suc, List, ◌∷◌, [], ◌++◌, length, map}
use Rattle.std.proofs.lemmas.List.{length-append}
use Rattle.csv.proofs.RoundTrip.{read-write}
use Rattle.csv.specs.Machine.{next_record}
use Rattle.csv.specs.Reading.{default_config, records_from}
use Rattle.csv.specs.Writing.{default_writer, row_text, read_back}
use Rattle.csv.specs.declared.parser.State.TheVariants as st
use Rattle.tpcc_rows.specs.declared.tables.row.Row.{Row}
use Rattle.tpcc_rows.specs.declared.tables.row.Row.TheVariants as row
use Rattle.tpcc_rows.specs.declared.tables.row.Table.{Table}
use Rattle.tpcc_rows.specs.declared.tables.row.Table.TheVariants as table
use Rattle.tpcc_rows.specs.Tables.{Rows}
use Rattle.tpcc_show.specs.Columns.{columns}
use Rattle.tpcc_show.specs.Dump.{IsReadBack, records_text, rows_of}
use Rattle.tpcc_show.specs.Records.{record_of, warehouse_record, district_record, customer_record, history_record, order_record, order_line_record, new_order_record, item_record, stock_record}

-- a text that ends with a line feed is not empty
line_is_not_empty : (a b : List ℕ) → 0 < length (a ++ (b ++ 10 ∷ []))
line_is_not_empty a b =
    let whole = length-append a (b ++ 10 ∷ []) in
    let end = length-append b (10 ∷ []) in
    omega arith

-- as many turns as bytes find each record
read_all : (records : List (List (List ℕ))) (n : ℕ) → length (records_text records) < n
    → records_from default_config n st.StartRecord (records_text records) ≡ map read_back records
unfolding records_from next_record
read_all [] zero h = absurd (omega arith)
read_all [] (suc n) h = refl
read_all (first ∷ records) zero h = absurd (omega arith)
read_all (first ∷ records) (suc n) h =
    let some : 0 < length (row_text default_writer first) = line_is_not_empty _ _ in
    let both = length-append (row_text default_writer first) (records_text records) in
    rw (read-write first (records_text records)) (ap (λ rest. read_back first ∷ rest) (read_all records n (omega arith)))

-- each record has a field
names_read_back : (t : Table) → read_back (columns t) ≡ columns t
names_read_back table.Warehouse = refl
names_read_back table.District = refl
names_read_back table.Customer = refl
names_read_back table.History = refl
names_read_back table.Order = refl
names_read_back table.OrderLine = refl
names_read_back table.NewOrder = refl
names_read_back table.Item = refl
names_read_back table.Stock = refl

record_reads_back : (r : Row) → read_back (record_of r) ≡ record_of r
unfolding warehouse_record district_record customer_record history_record order_record order_line_record new_order_record item_record stock_record
record_reads_back (row.Warehouse w) = refl
record_reads_back (row.District d) = refl
record_reads_back (row.Customer c) = refl
record_reads_back (row.History h) = refl
record_reads_back (row.Order o) = refl
record_reads_back (row.OrderLine l) = refl
record_reads_back (row.NewOrder n) = refl
record_reads_back (row.Item i) = refl
record_reads_back (row.Stock s) = refl

all_recorded : (rows : List Row) → map read_back (map record_of rows) ≡ map record_of rows
all_recorded [] = refl
all_recorded (r ∷ rows) = (λ i. record_reads_back r i ∷ map read_back (map record_of rows)) ∙ ap (λ rest. record_of r ∷ rest) (all_recorded rows)

pub is_read_back : (rows : Rows) (t : Table) → IsReadBack rows t
is_read_back rows t =
    read_all (columns t ∷ map record_of (rows_of rows t)) _ (omega arith)
    ∙ (λ i. names_read_back t i ∷ map read_back (map record_of (rows_of rows t)))
    ∙ ap (λ rest. columns t ∷ rest) (all_recorded (rows_of rows t))
