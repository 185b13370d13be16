-- 4.3.3: the drawn opening: each row from its own stream, its columns drawn in their order.
use Rattle.std.specs.Prelude.{ℕ, zero, suc, ◌+◌, ◌-◌, ◌*◌, ◌==◌, Bool, true, List, [], ◌∷◌, ◌++◌, length, take, drop, slice_index, ℤ, pos, neg_ℤ, unsigned_abs, Option, Some, None, if◌then◌else◌, nat_le, codes}
use Rattle.rand_core.specs.Stream.{Stream}
use Rattle.tpcc_draws.specs.Draws.{stream_at, between, nurand, a_string, n_string, permutation}
use Rattle.tpcc_rows.specs.LastName.{last_name}
use Rattle.tpcc_rows.specs.declared.tables.rows.Address.{Address}
use Rattle.tpcc_rows.specs.declared.tables.rows.WarehouseRow.{WarehouseRow}
use Rattle.tpcc_rows.specs.declared.tables.rows.DistrictRow.{DistrictRow}
use Rattle.tpcc_rows.specs.declared.tables.rows.CustomerRow.{CustomerRow}
use Rattle.tpcc_rows.specs.declared.tables.rows.HistoryRow.{HistoryRow}
use Rattle.tpcc_rows.specs.declared.tables.rows.OrderRow.{OrderRow}
use Rattle.tpcc_rows.specs.declared.tables.rows.OrderLineRow.{OrderLineRow}
use Rattle.tpcc_rows.specs.declared.tables.rows.ItemRow.{ItemRow}
use Rattle.tpcc_rows.specs.declared.tables.rows.StockRow.{StockRow}
use Rattle.tpcc_rows.specs.Layout.{Scale, RowRules, is_delivered}
use Rattle.tpcc_rows.specs.Opening.{plain_new_order}
use Rattle.tpcc_rows.specs.declared.limits.TheConstants.{GREATEST_DISTRICT, GREATEST_CARRIER, GREATEST_LINE_AMOUNT, GREATEST_IMAGE}
use Rattle.tpcc_draws.specs.declared.names.TheConstants.{LAST_NAMES}
use Rattle.tpcc_population.specs.declared.rules.TheConstants.{MOST_ORDER_LINES}

-- what the draws start from: the scale, the seed and the opening's moment
pub record Seeding : Type 0 where
  pub scale : Scale
  pub seed : ℕ
  pub moment : ℕ

-- the number of a row in its table, from 1, in the order of the key
abbrev pub district_number : ℕ → ℕ → ℕ
district_number w d = (w - 1) * GREATEST_DISTRICT + d

-- of a row of CUSTOMER, HISTORY or ORDER
abbrev pub number_in_districts : Scale → ℕ → ℕ → ℕ → ℕ
number_in_districts s w d k = (district_number w d - 1) * s.customers + k

-- an order has up to fifteen lines
abbrev pub line_number : Scale → ℕ → ℕ → ℕ → ℕ → ℕ
line_number s w d o j = MOST_ORDER_LINES * (number_in_districts s w d o - 1) + j

abbrev pub stock_number : Scale → ℕ → ℕ → ℕ
stock_number s w n = (w - 1) * s.items + n

-- 4.3.2.7: a ZIP, and the five columns of an address
unfoldable pub drawn_zip : Stream → List ℕ × Stream
drawn_zip s =
    let zip = n_string 4 4 s in
    (zip.0 ++ codes "11111", zip.1)

unfoldable pub drawn_address : Stream → Address × Stream
drawn_address s =
    let street_1 = a_string 10 20 s in
    let street_2 = a_string 10 20 street_1.1 in
    let city = a_string 10 20 street_2.1 in
    let state = a_string 2 2 city.1 in
    let zip = drawn_zip state.1 in
    (record { street_1 = street_1.0; street_2 = street_2.0; city = city.0; state = state.0; zip = zip.0 }, zip.1)

-- the name of a customer's number for the first thousand, of a drawn number for the others
unfoldable pub drawn_last : ℕ → Stream → List ℕ × Stream
drawn_last k s =
    if nat_le k LAST_NAMES then (last_name (k - 1), s)
    else (let n = nurand 255 100 0 (LAST_NAMES - 1) s in (last_name n.0, n.1))

-- the text with ORIGINAL from a place on
abbrev pub with_original : ℕ → List ℕ → List ℕ
with_original place text = take place text ++ codes "ORIGINAL" ++ drop (place + 8) text

-- 4.3.3.1: a text that one time in ten holds ORIGINAL
unfoldable pub drawn_information : Stream → List ℕ × Stream
drawn_information s =
    let text = a_string 26 50 s in
    let tenth = between 1 10 text.1 in
    if tenth.0 == 1 then (let place = between 0 (length text.0 - 8) tenth.1 in (with_original place.0 text.0, place.1))
    else (text.0, tenth.1)

-- so many texts of exactly 24 bytes
unfoldable pub drawn_texts : ℕ → Stream → List (List ℕ) × Stream
drawn_texts zero s = ([], s)
drawn_texts (suc n) s =
    let before = drawn_texts n s in
    let next = a_string 24 24 before.1 in
    (before.0 ++ next.0 ∷ [], next.1)

-- a delivered order has a carrier, and a delivered line costs nothing; neither draws where it has no choice
unfoldable pub drawn_carrier : Bool → Stream → Option ℕ × Stream
drawn_carrier delivered s = if delivered then (let n = between 1 GREATEST_CARRIER s in (Some n.0, n.1)) else (None, s)

unfoldable pub drawn_amount : Bool → Stream → ℤ × Stream
drawn_amount delivered s = if delivered then (pos 0, s) else (let n = between 1 (unsigned_abs GREATEST_LINE_AMOUNT) s in (pos n.0, n.1))

abbrev pub warehouse_of : ℕ → ℕ → Stream → WarehouseRow
warehouse_of customers w s =
    let name = a_string 6 10 s in
    let address = drawn_address name.1 in
    let tax = between 0 2000 address.1 in
    record { id = w; name = name.0; address = address.0; tax = tax.0; ytd = pos (customers * 10000) }

abbrev pub seeded_warehouse : Seeding → ℕ → WarehouseRow
seeded_warehouse g w = warehouse_of g.scale.customers w (stream_at g.seed 1 w)

abbrev pub seeded_district : Seeding → ℕ → ℕ → DistrictRow
seeded_district g w d =
    let name = a_string 6 10 (stream_at g.seed 2 (district_number w d)) in
    let address = drawn_address name.1 in
    let tax = between 0 2000 address.1 in
    record {
      id = d;
      warehouse = w;
      name = name.0;
      address = address.0;
      tax = tax.0;
      ytd = pos (g.scale.customers * 1000);
      next_order = g.scale.customers + 1;
    }

abbrev pub seeded_customer : Seeding → ℕ → ℕ → ℕ → CustomerRow
seeded_customer g w d k =
    let first = a_string 8 16 (stream_at g.seed 3 (number_in_districts g.scale w d k)) in
    let last = drawn_last k first.1 in
    let address = drawn_address last.1 in
    let phone = n_string 16 16 address.1 in
    let tenth = between 1 10 phone.1 in
    let discount = between 0 5000 tenth.1 in
    let information = a_string 300 500 discount.1 in
    record {
      id = k;
      district = d;
      warehouse = w;
      first = first.0;
      middle = codes "OE";
      last = last.0;
      address = address.0;
      phone = phone.0;
      since = g.moment;
      credit = if tenth.0 == 1 then codes "BC" else codes "GC";
      credit_limit = pos 5000000;
      discount = discount.0;
      balance = neg_ℤ (pos 1000);
      ytd_payment = pos 1000;
      payment_count = 1;
      delivery_count = 0;
      information = information.0;
    }

abbrev pub seeded_history : Seeding → ℕ → ℕ → ℕ → HistoryRow
seeded_history g w d k =
    record {
      customer = k;
      customer_district = d;
      customer_warehouse = w;
      district = d;
      warehouse = w;
      date = g.moment;
      amount = pos 1000;
      information = (a_string 12 24 (stream_at g.seed 4 (number_in_districts g.scale w d k))).0;
    }

-- the customers of a district in the order of their orders
abbrev pub drawn_customers : Seeding → ℕ → ℕ → List ℕ
drawn_customers g w d = (permutation g.scale.customers (stream_at g.seed 11 (district_number w d))).0

abbrev pub seeded_order : Seeding → ℕ → ℕ → ℕ → OrderRow
seeded_order g w d o =
    let carrier = drawn_carrier (is_delivered g.scale o) (stream_at g.seed 5 (number_in_districts g.scale w d o)) in
    record {
      id = o;
      district = d;
      warehouse = w;
      customer = slice_index (drawn_customers g w d) (o - 1);
      entry_date = g.moment;
      carrier = carrier.0;
      line_count = (between 5 MOST_ORDER_LINES carrier.1).0;
      all_local = true;
    }

abbrev pub seeded_order_line : Seeding → ℕ → ℕ → ℕ → ℕ → OrderLineRow
seeded_order_line g w d o j =
    let item = between 1 g.scale.items (stream_at g.seed 6 (line_number g.scale w d o j)) in
    let amount = drawn_amount (is_delivered g.scale o) item.1 in
    record {
      order = o;
      district = d;
      warehouse = w;
      number = j;
      item = item.0;
      supply = w;
      delivered = if is_delivered g.scale o then Some g.moment else None;
      quantity = 5;
      amount = amount.0;
      district_information = (a_string 24 24 amount.1).0;
    }

abbrev pub seeded_item : Seeding → ℕ → ItemRow
seeded_item g n =
    let image = between 1 GREATEST_IMAGE (stream_at g.seed 8 n) in
    let name = a_string 14 24 image.1 in
    let price = between 100 10000 name.1 in
    record { id = n; image = image.0; name = name.0; price = pos price.0; information = (drawn_information price.1).0 }

abbrev pub seeded_stock : Seeding → ℕ → ℕ → StockRow
seeded_stock g w n =
    let quantity = between 10 100 (stream_at g.seed 9 (stock_number g.scale w n)) in
    let texts = drawn_texts 10 quantity.1 in
    record {
      item = n;
      warehouse = w;
      quantity = quantity.0;
      district_information = texts.0;
      ytd = 0;
      order_count = 0;
      remote_count = 0;
      information = (drawn_information texts.1).0;
    }

-- the drawn rows by their numbers; NEW-ORDER has nothing to draw
abbrev pub seeded_rules : Seeding → RowRules
seeded_rules g =
    record {
      warehouse = seeded_warehouse g;
      district = seeded_district g;
      customer = seeded_customer g;
      history = seeded_history g;
      order = seeded_order g;
      order_line = seeded_order_line g;
      new_order = plain_new_order;
      item = seeded_item g;
      stock = seeded_stock g;
    }
