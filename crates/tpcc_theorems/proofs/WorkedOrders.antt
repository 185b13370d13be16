-- Orders of the small opening, computed.
use Rattle.std.proofs.Common.{◌≡◌, refl, ℕ, List, [], ◌∷◌, ◌++◌}
use Rattle.std.specs.Prelude.{pos, Some, None, codes, map}
use Rattle.tpcc_money.specs.Amounts.{total}
use Rattle.tpcc_rows.specs.declared.transactions.requests.Request.{Request}
use Rattle.tpcc_rows.specs.declared.transactions.refusals.Refusal.TheVariants.{LineCount, Quantity, NoSupply, OrderNumbers, Count, Total}
use Rattle.tpcc_rows.specs.declared.transactions.refusals.Field.TheVariants.{StockOrders, StockYtd}
use Rattle.tpcc_rows.specs.declared.transactions.replies.Brand.TheVariants.{Original, Generic}
use Rattle.tpcc_rows.specs.declared.transactions.replies.EnteredLine.{EnteredLine}
use Rattle.tpcc_rows.specs.declared.transactions.replies.Entered.TheVariants.{Accepted, RolledBack}
use Rattle.tpcc_rows.specs.declared.transactions.replies.Reply.{Reply}
use Rattle.tpcc_rows.specs.declared.transactions.replies.Reply.TheVariants as tell
use Rattle.tpcc_rows.specs.declared.tables.rows.StockRow.{StockRow}
use Rattle.tpcc_rows.specs.declared.tables.rows.DistrictRow.{DistrictRow}
use Rattle.tpcc_rows.specs.Lists.{updated}
use Rattle.tpcc_rows.specs.Tables.{State, is_stock, is_district, stock_at, lines_of}
use Rattle.tpcc_rows.specs.Conditions.{first_broken}
use Rattle.tpcc_rows.specs.Turn.{refusal, state_after, reply_to}
use Rattle.tpcc_theorems.proofs.Small.{all_definitions, opening, orders, line, times, of_lines, stock_columns}

abbrev five : Request
five = orders 1 1 1 0 (line 20 1 10 ∷ line 26 1 8 ∷ line 12 1 10 ∷ line 21 1 5 ∷ line 11 1 10 ∷ [])

five_accepted : refusal opening five ≡ None
unfolding all_definitions
five_accepted = refl

five_shown : reply_to opening five ≡
    tell.Entered (Accepted (record {
      warehouse = 1;
      district = 1;
      customer = 1;
      last = codes "BARBARBAR";
      credit = codes "GC";
      discount = 100;
      order = 11;
      line_count = 5;
      warehouse_tax = 1000;
      district_tax = 100;
      entry_date = 0;
      total = pos 5495;
      lines =
          record { number = 1; supply = 1; item = 20; name = codes "ITEMNAME000020"; quantity = 10; stock = 20; brand = Original; price = pos 119; amount = pos 1190 }
          ∷ record { number = 2; supply = 1; item = 26; name = codes "ITEMNAME000026"; quantity = 8; stock = 28; brand = Generic; price = pos 125; amount = pos 1000 }
          ∷ record { number = 3; supply = 1; item = 12; name = codes "ITEMNAME000012"; quantity = 10; stock = 12; brand = Generic; price = pos 111; amount = pos 1110 }
          ∷ record { number = 4; supply = 1; item = 21; name = codes "ITEMNAME000021"; quantity = 5; stock = 26; brand = Generic; price = pos 120; amount = pos 600 }
          ∷ record { number = 5; supply = 1; item = 11; name = codes "ITEMNAME000011"; quantity = 10; stock = 11; brand = Generic; price = pos 110; amount = pos 1100 }
          ∷ [];
    }))
unfolding all_definitions
five_shown = refl

five_consistent : first_broken (state_after opening five).rows ≡ None
unfolding all_definitions
five_consistent = refl

-- fifteen lines of one item: its STOCK row is taken from fifteen times
abbrev fifteen : Request
fifteen = orders 1 1 1 0 (times 15 (line 1 1 1))

abbrev after_fifteen : State
after_fifteen = state_after opening fifteen

fifteen_sold : stock_columns (stock_at after_fifteen.rows 1 1) ≡ 87 ∷ 15 ∷ 15 ∷ 0 ∷ []
unfolding all_definitions
fifteen_sold = refl

abbrev stocks_shown : List EnteredLine → List ℕ
stocks_shown lines = map (λ l. l.stock) lines

abbrev reply_stocks : State → Request → List ℕ
reply_stocks s request = stocks_of (reply_to s request) where
  stocks_of : Reply → List ℕ
  stocks_of (tell.Entered (Accepted a)) = stocks_shown a.lines
  stocks_of _ = []

fifteen_shown : reply_stocks opening fifteen ≡ 10 ∷ 100 ∷ 99 ∷ 98 ∷ 97 ∷ 96 ∷ 95 ∷ 94 ∷ 93 ∷ 92 ∷ 91 ∷ 90 ∷ 89 ∷ 88 ∷ 87 ∷ []
unfolding all_definitions
fifteen_shown = refl

fifteen_consistent : first_broken after_fifteen.rows ≡ None
unfolding all_definitions
fifteen_consistent = refl

-- what is refused
four_lines : refusal opening (of_lines (times 4 (line 1 1 1))) ≡ Some LineCount
unfolding all_definitions
four_lines = refl

sixteen_lines : refusal opening (of_lines (times 16 (line 1 1 1))) ≡ Some LineCount
unfolding all_definitions
sixteen_lines = refl

no_lines : refusal opening (of_lines []) ≡ Some LineCount
unfolding all_definitions
no_lines = refl

quantity_0 : refusal opening (of_lines (times 4 (line 1 1 1) ++ line 1 1 0 ∷ [])) ≡ Some Quantity
unfolding all_definitions
quantity_0 = refl

quantity_11 : refusal opening (of_lines (line 1 1 11 ∷ times 4 (line 1 1 1))) ≡ Some Quantity
unfolding all_definitions
quantity_11 = refl

supply_2 : refusal opening (of_lines (times 4 (line 1 1 1) ++ line 1 2 1 ∷ [])) ≡ Some NoSupply
unfolding all_definitions
supply_2 = refl

-- an unused item number rolls the order back
abbrev unused : Request
unused = of_lines (line 1 1 1 ∷ line 2 1 1 ∷ line 3 1 1 ∷ line 4 1 1 ∷ line 101 1 1 ∷ [])

unused_shown : reply_to opening unused ≡ tell.Entered (RolledBack (record { warehouse = 1; district = 1; customer = 1; last = codes "BARBARBAR"; credit = codes "GC"; order = 11 }))
unfolding all_definitions
unused_shown = refl

unused_leaves : state_after opening unused ≡ opening
unfolding all_definitions
unused_leaves = refl

abbrev used : Request
used = of_lines (line 1 1 1 ∷ line 2 1 1 ∷ line 3 1 1 ∷ line 4 1 1 ∷ line 5 1 1 ∷ [])

used_shown : reply_stocks (state_after opening unused) used ≡ 10 ∷ 11 ∷ 12 ∷ 13 ∷ 14 ∷ []
unfolding all_definitions
used_shown = refl

used_lines : total (λ l. l.amount) (lines_of (state_after opening used).rows 1 1 11) ≡ pos 510
unfolding all_definitions
used_lines = refl

-- ranges are tested only of an order that is not rolled back
abbrev with_stock : (StockRow → StockRow) → State
with_stock change = record opening { rows = record opening.rows { stocks = updated (is_stock 1 1) change opening.rows.stocks } }

abbrev with_district : (DistrictRow → DistrictRow) → State
with_district change = record opening { rows = record opening.rows { districts = updated (is_district 1 1) change opening.rows.districts } }

abbrev worn : State
worn = with_stock (λ s. record s { order_count = 999999999 })

rolled_back_first : refusal worn (of_lines (line 1 1 1 ∷ line 2 1 1 ∷ line 101 1 1 ∷ line 3 1 1 ∷ line 4 1 1 ∷ [])) ≡ None
unfolding all_definitions
rolled_back_first = refl

then_the_count : refusal worn (of_lines (line 1 1 1 ∷ line 2 1 1 ∷ line 5 1 1 ∷ line 3 1 1 ∷ line 4 1 1 ∷ [])) ≡ Some (Count StockOrders)
unfolding all_definitions
then_the_count = refl

abbrev at_the_last_number : State
at_the_last_number = with_district (λ d. record d { next_order = 9999999 })

last_number_rolled_back : refusal at_the_last_number unused ≡ None
unfolding all_definitions
last_number_rolled_back = refl

last_number : refusal at_the_last_number used ≡ Some OrderNumbers
unfolding all_definitions
last_number = refl

abbrev nearly_worn : State
nearly_worn = with_stock (λ s. record s { order_count = 999999990 })

nine_more : refusal nearly_worn (of_lines (times 9 (line 1 1 1))) ≡ None
unfolding all_definitions
nine_more = refl

ten_more : refusal nearly_worn (of_lines (times 10 (line 1 1 1))) ≡ Some (Count StockOrders)
unfolding all_definitions
ten_more = refl

ytd_over : refusal (with_stock (λ s. record s { ytd = 99999995 })) (of_lines (times 5 (line 1 1 1))) ≡ Some (Total StockYtd)
unfolding all_definitions
ytd_over = refl

ytd_full : refusal (with_stock (λ s. record s { ytd = 99999994 })) (of_lines (times 5 (line 1 1 1))) ≡ None
unfolding all_definitions
ytd_full = refl
