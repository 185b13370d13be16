-- Order-Status and Stock-Level on the small opening, computed.
use Rattle.std.proofs.Common.{◌≡◌, refl, ℕ, [], ◌∷◌}
use Rattle.std.specs.Prelude.{pos, neg_ℤ, Some, None, codes}
use Rattle.tpcc_rows.specs.declared.transactions.requests.Who.TheVariants.{Number, Name}
use Rattle.tpcc_rows.specs.declared.transactions.refusals.Refusal.TheVariants.{NoDistrict, NoCustomer, Threshold}
use Rattle.tpcc_rows.specs.declared.transactions.replies.StatusLine.{StatusLine}
use Rattle.tpcc_rows.specs.declared.transactions.replies.Reply.TheVariants as tell
use Rattle.tpcc_rows.specs.Tables.{Rows}
use Rattle.tpcc_rows.specs.Opening.{plain_rows}
use Rattle.tpcc_rows.specs.Lookups.{low_stock, status_reply}
use Rattle.tpcc_rows.specs.Turn.{refusal, state_after, reply_to}
use Rattle.tpcc_theorems.proofs.Small.{all_definitions, opening, orders, line, asks_status, asks_stock, times}

abbrev delivered_line : ℕ → StatusLine
delivered_line item = record { supply = 1; item = item; quantity = 5; amount = pos 0; delivered = Some 0 }

abbrev new_line : ℕ → ℕ → StatusLine
new_line item dollars = record { supply = 1; item = item; quantity = 5; amount = pos dollars; delivered = None }

delivered_order : reply_to opening (asks_status 1 1 (Number 1)) ≡
    tell.Status (record {
      warehouse = 1;
      district = 1;
      customer = 1;
      first = codes "FIRST9998";
      middle = codes "OE";
      last = codes "BARBARBAR";
      balance = neg_ℤ (pos 1000);
      order = Some (record {
        order = 1;
        entry_date = 0;
        carrier = Some 1;
        lines = delivered_line 1 ∷ delivered_line 2 ∷ delivered_line 3 ∷ delivered_line 4 ∷ delivered_line 5 ∷ [];
      });
    })
unfolding all_definitions
delivered_order = refl

undelivered_order : (status_reply opening.rows (record { warehouse = 1; district = 1; who = Number 8 })).order ≡
    Some (record {
      order = 8;
      entry_date = 0;
      carrier = None;
      lines = new_line 36 100 ∷ new_line 37 200 ∷ new_line 38 300 ∷ new_line 39 400 ∷ new_line 40 500 ∷ [];
    })
unfolding all_definitions
undelivered_order = refl

by_name : (status_reply opening.rows (record { warehouse = 1; district = 1; who = Name (codes "BARBAROUGHT") })).customer ≡ 5
unfolding all_definitions
by_name = refl

no_customer_0 : refusal opening (asks_status 1 1 (Number 0)) ≡ Some NoCustomer
unfolding all_definitions
no_customer_0 = refl

no_district_11 : refusal opening (asks_status 1 11 (Number 0)) ≡ Some NoDistrict
unfolding all_definitions
no_district_11 = refl

lookups_leave : state_after opening (asks_status 1 1 (Number 1)) ≡ opening
unfolding all_definitions
lookups_leave = refl

-- the items below a threshold
abbrev level : Rows → ℕ → ℕ
level rows threshold = low_stock rows (record { warehouse = 1; district = 1; threshold = threshold })

none_below_10 : level opening.rows 10 ≡ 0
unfolding all_definitions
none_below_10 = refl

nine_below_20 : level opening.rows 20 ≡ 9
unfolding all_definitions
nine_below_20 = refl

eight_below_20 : level (state_after opening (orders 1 1 1 0 (times 15 (line 1 1 1)))).rows 20 ≡ 8
unfolding all_definitions
eight_below_20 = refl

threshold_9 : refusal opening (asks_stock 1 1 9) ≡ Some Threshold
unfolding all_definitions
threshold_9 = refl

threshold_21 : refusal opening (asks_stock 1 1 21) ≡ Some Threshold
unfolding all_definitions
threshold_21 = refl

threshold_past_all : refusal opening (asks_stock 1 1 4294967295) ≡ Some Threshold
unfolding all_definitions
threshold_past_all = refl

-- 40 customers and 200 items: order 20 is outside the last 20 orders
ten_below_20 : level (plain_rows (record { warehouses = 1; customers = 40; items = 200 })) 20 ≡ 10
unfolding all_definitions
ten_below_20 = refl
