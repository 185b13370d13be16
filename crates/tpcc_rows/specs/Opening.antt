-- 4.3.3: the plain opening: each row by its number, with no draw.
use Rattle.std.specs.Prelude.{ℕ, ◌+◌, ◌-◌, ◌*◌, ◌%◌, ◌==◌, true, List, ◌++◌, map, replicate, pos, neg_ℤ, Some, None, if◌then◌else◌, codes}
use Rattle.std.specs.List.{range_with_len}
use Rattle.tpcc_money.specs.Texts.{padded_number}
use Rattle.tpcc_rows.specs.LastName.{last_name}
use Rattle.tpcc_rows.specs.declared.tables.rows.Address.{Address}
use Rattle.tpcc_rows.specs.declared.tables.rows.WarehouseRow.{WarehouseRow}
use Rattle.tpcc_rows.specs.declared.tables.rows.DistrictRow.{DistrictRow}
use Rattle.tpcc_rows.specs.declared.tables.rows.CustomerRow.{CustomerRow}
use Rattle.tpcc_rows.specs.declared.tables.rows.HistoryRow.{HistoryRow}
use Rattle.tpcc_rows.specs.declared.tables.rows.OrderRow.{OrderRow}
use Rattle.tpcc_rows.specs.declared.tables.rows.OrderLineRow.{OrderLineRow}
use Rattle.tpcc_rows.specs.declared.tables.rows.NewOrderRow.{NewOrderRow}
use Rattle.tpcc_rows.specs.declared.tables.rows.ItemRow.{ItemRow}
use Rattle.tpcc_rows.specs.declared.tables.rows.StockRow.{StockRow}
use Rattle.tpcc_rows.specs.Tables.{Rows}
use Rattle.tpcc_rows.specs.Layout.{Scale, RowRules, laid_out, is_delivered}

abbrev pub plain_address : Address
plain_address = record { street_1 = codes "MAINSTREET"; street_2 = codes "SIDESTREET"; city = codes "CITYCENTRE"; state = codes "AB"; zip = codes "000111111" }

abbrev pub plain_warehouse : Scale → ℕ → WarehouseRow
plain_warehouse s w = record { id = w; name = codes "WARE" ++ padded_number 3 w; address = plain_address; tax = 1000; ytd = pos (s.customers * 10000) }

abbrev pub plain_district : Scale → ℕ → ℕ → DistrictRow
plain_district s w d =
    record {
      id = d;
      warehouse = w;
      name = codes "DIST" ++ padded_number 2 d;
      address = plain_address;
      tax = d * 100;
      ytd = pos (s.customers * 1000);
      next_order = s.customers + 1;
    }

abbrev pub plain_customer : ℕ → ℕ → ℕ → CustomerRow
plain_customer w d k =
    record {
      id = k;
      district = d;
      warehouse = w;
      first = codes "FIRST" ++ padded_number 4 (9999 - k);
      middle = codes "OE";
      last = last_name ((k - 1) % 3);
      address = plain_address;
      phone = padded_number 16 k;
      since = 0;
      credit = if k % 10 == 0 then codes "BC" else codes "GC";
      credit_limit = pos 5000000;
      discount = k % 51 * 100;
      balance = neg_ℤ (pos 1000);
      ytd_payment = pos 1000;
      payment_count = 1;
      delivery_count = 0;
      information = replicate 300 120;
    }

abbrev pub plain_history : ℕ → ℕ → ℕ → HistoryRow
plain_history w d k =
    record {
      customer = k;
      customer_district = d;
      customer_warehouse = w;
      district = d;
      warehouse = w;
      date = 0;
      amount = pos 1000;
      information = codes "OPENINGPAYMENT";
    }

abbrev pub plain_order : Scale → ℕ → ℕ → ℕ → OrderRow
plain_order s w d o =
    record {
      id = o;
      district = d;
      warehouse = w;
      customer = o;
      entry_date = 0;
      carrier = if is_delivered s o then Some (1 + (o - 1) % 10) else None;
      line_count = 5;
      all_local = true;
    }

abbrev pub plain_district_information : ℕ → List ℕ
plain_district_information d = replicate 22 100 ++ padded_number 2 d

abbrev pub plain_order_line : Scale → ℕ → ℕ → ℕ → ℕ → OrderLineRow
plain_order_line s w d o j =
    record {
      order = o;
      district = d;
      warehouse = w;
      number = j;
      item = 1 + (5 * (o - 1) + j - 1) % s.items;
      supply = w;
      delivered = if is_delivered s o then Some 0 else None;
      quantity = 5;
      amount = if is_delivered s o then pos 0 else pos (j * 100);
      district_information = plain_district_information d;
    }

abbrev pub plain_new_order : ℕ → ℕ → ℕ → NewOrderRow
plain_new_order w d o = record { order = o; district = d; warehouse = w }

abbrev pub plain_item : ℕ → ItemRow
plain_item n =
    record {
      id = n;
      image = 1 + (n - 1) % 10000;
      name = codes "ITEMNAME" ++ padded_number 6 n;
      price = pos (100 + (n - 1) % 9901);
      information = if n % 10 == 0 then codes "ORIGINAL" ++ replicate 18 105 else replicate 26 105;
    }

abbrev pub plain_stock : ℕ → ℕ → StockRow
plain_stock w n =
    record {
      item = n;
      warehouse = w;
      quantity = 10 + n % 91;
      district_information = map plain_district_information (range_with_len 1 10);
      ytd = 0;
      order_count = 0;
      remote_count = 0;
      information = if n % 20 == 0 then codes "ORIGINAL" ++ replicate 18 115 else replicate 26 115;
    }

-- the plain rows by their numbers
abbrev pub plain_rules : Scale → RowRules
plain_rules s =
    record {
      warehouse = plain_warehouse s;
      district = plain_district s;
      customer = plain_customer;
      history = plain_history;
      order = plain_order s;
      order_line = plain_order_line s;
      new_order = plain_new_order;
      item = plain_item;
      stock = plain_stock;
    }

unfoldable pub plain_rows : Scale → Rows
plain_rows s = laid_out s (plain_rules s)
