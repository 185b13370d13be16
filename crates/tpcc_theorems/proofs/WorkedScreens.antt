-- The screens of the worked rows, computed.
use Rattle.std.proofs.Common.{◌≡◌, refl, ℕ, List, [], ◌∷◌, ◌++◌}
use Rattle.std.specs.Prelude.{pos, Some, codes, flat_map, take}
use Rattle.std.specs.Fmt.{digits}
use Rattle.tpcc_money.specs.Texts.{year_and_day, month_and_day, moment_text}
use Rattle.tpcc_rows.specs.declared.transactions.requests.Who.TheVariants.{Number}
use Rattle.tpcc_rows.specs.declared.transactions.refusals.Refusal.TheVariants as refused
use Rattle.tpcc_rows.specs.declared.transactions.refusals.Field.TheVariants.{StockOrders, StockYtd}
use Rattle.tpcc_rows.specs.Conditions.{first_broken}
use Rattle.tpcc_rows.specs.Turn.{state_after, reply_to}
use Rattle.tpcc_theorems.proofs.Small.{all_definitions, opening, pays, orders, line, asks_status, asks_stock, queues, delivers, after_all, times}
use Rattle.tpcc_text.specs.Report.{report_text}
use Rattle.tpcc_text.specs.Screens.{reply_screen, refused_screen, check_screen, payment_line, place_lines, customer_line, accepted_line, entered_line, rolled_back_line, status_line, order_head, ordered_line, level_screen, queued_screen, delivered_line, district_line}

-- opens every definition of a screen
unfoldable pub screen_definitions : Unit {0}
unfolding all_definitions digits moment_text year_and_day month_and_day refused_screen check_screen payment_line place_lines customer_line accepted_line entered_line rolled_back_line status_line order_head ordered_line level_screen queued_screen delivered_line district_line
screen_definitions = tt

-- lines, each ended by a line feed
abbrev pub lines : List (List ℕ) → List ℕ
lines texts = flat_map (λ text. text ++ 10 ∷ []) texts

one_dollar : reply_screen (reply_to opening (pays 1 1 1 1 (Number 1) 100 0)) ≡ lines
    (codes "payment W_ID=1 D_ID=1 C_W_ID=1 C_D_ID=1 C_ID=1 H_AMOUNT=1.00 H_DATE=1970-01-01T00:00:00"
    ∷ codes "warehouse MAINSTREET,SIDESTREET,CITYCENTRE,AB,000111111"
    ∷ codes "district MAINSTREET,SIDESTREET,CITYCENTRE,AB,000111111"
    ∷ codes "customer FIRST9998 OE BARBARBAR MAINSTREET,SIDESTREET,CITYCENTRE,AB,000111111 C_PHONE=0000000000000001 C_SINCE=1970-01-01T00:00:00 C_CREDIT=GC C_CREDIT_LIM=50000.00 C_DISCOUNT=0.0100 C_BALANCE=-11.00"
    ∷ [])
unfolding screen_definitions
one_dollar = refl

-- the thirteenth payment of a customer of bad credit
thirteenth : reply_screen (reply_to (after_all opening (times 12 (pays 1 1 1 1 (Number 10) 100 0))) (pays 1 1 1 1 (Number 10) 100 0)) ≡ lines
    (codes "payment W_ID=1 D_ID=1 C_W_ID=1 C_D_ID=1 C_ID=10 H_AMOUNT=1.00 H_DATE=1970-01-01T00:00:00"
    ∷ codes "warehouse MAINSTREET,SIDESTREET,CITYCENTRE,AB,000111111"
    ∷ codes "district MAINSTREET,SIDESTREET,CITYCENTRE,AB,000111111"
    ∷ codes "customer FIRST9989 OE BARBARBAR MAINSTREET,SIDESTREET,CITYCENTRE,AB,000111111 C_PHONE=0000000000000010 C_SINCE=1970-01-01T00:00:00 C_CREDIT=BC C_CREDIT_LIM=50000.00 C_DISCOUNT=0.1000 C_BALANCE=-23.00"
    ∷ (codes "C_DATA=" ++ flat_map (λ text. text) (times 12 (codes "10 1 1 1 1 1.00 ")) ++ codes "10 1 1 1") ∷ [])
unfolding screen_definitions
thirteenth = refl

five_lines : take 288 (reply_screen (reply_to opening (orders 1 1 1 0 (line 20 1 10 ∷ line 26 1 8 ∷ line 12 1 10 ∷ line 21 1 5 ∷ line 11 1 10 ∷ [])))) ≡ lines
    (codes "new-order W_ID=1 D_ID=1 C_ID=1 C_LAST=BARBARBAR C_CREDIT=GC C_DISCOUNT=0.0100 O_ID=11 O_OL_CNT=5 W_TAX=0.1000 D_TAX=0.0100 O_ENTRY_D=1970-01-01T00:00:00 total=54.95"
    ∷ codes "line 1 OL_SUPPLY_W_ID=1 OL_I_ID=20 I_NAME=ITEMNAME000020 OL_QUANTITY=10 S_QUANTITY=20 brand=B I_PRICE=1.19 OL_AMOUNT=11.90"
    ∷ [])
unfolding screen_definitions
five_lines = refl

rolled_back : reply_screen (reply_to opening (orders 1 1 1 0 (line 1 1 1 ∷ line 2 1 1 ∷ line 3 1 1 ∷ line 4 1 1 ∷ line 101 1 1 ∷ []))) ≡ lines
    (codes "new-order W_ID=1 D_ID=1 C_ID=1 C_LAST=BARBARBAR C_CREDIT=GC O_ID=11 Item number is not valid" ∷ [])
unfolding screen_definitions
rolled_back = refl

status_1 : reply_screen (reply_to opening (asks_status 1 1 (Number 1))) ≡ lines
    (codes "order-status W_ID=1 D_ID=1 C_ID=1 C_FIRST=FIRST9998 C_MIDDLE=OE C_LAST=BARBARBAR C_BALANCE=-10.00"
    ∷ codes "order O_ID=1 O_ENTRY_D=1970-01-01T00:00:00 O_CARRIER_ID=1"
    ∷ codes "line OL_SUPPLY_W_ID=1 OL_I_ID=1 OL_QUANTITY=5 OL_AMOUNT=0.00 OL_DELIVERY_D=1970-01-01T00:00:00"
    ∷ codes "line OL_SUPPLY_W_ID=1 OL_I_ID=2 OL_QUANTITY=5 OL_AMOUNT=0.00 OL_DELIVERY_D=1970-01-01T00:00:00"
    ∷ codes "line OL_SUPPLY_W_ID=1 OL_I_ID=3 OL_QUANTITY=5 OL_AMOUNT=0.00 OL_DELIVERY_D=1970-01-01T00:00:00"
    ∷ codes "line OL_SUPPLY_W_ID=1 OL_I_ID=4 OL_QUANTITY=5 OL_AMOUNT=0.00 OL_DELIVERY_D=1970-01-01T00:00:00"
    ∷ codes "line OL_SUPPLY_W_ID=1 OL_I_ID=5 OL_QUANTITY=5 OL_AMOUNT=0.00 OL_DELIVERY_D=1970-01-01T00:00:00"
    ∷ [])
unfolding screen_definitions
status_1 = refl

status_8 : reply_screen (reply_to opening (asks_status 1 1 (Number 8))) ≡ lines
    (codes "order-status W_ID=1 D_ID=1 C_ID=8 C_FIRST=FIRST9991 C_MIDDLE=OE C_LAST=BARBAROUGHT C_BALANCE=-10.00"
    ∷ codes "order O_ID=8 O_ENTRY_D=1970-01-01T00:00:00 O_CARRIER_ID=-"
    ∷ codes "line OL_SUPPLY_W_ID=1 OL_I_ID=36 OL_QUANTITY=5 OL_AMOUNT=1.00 OL_DELIVERY_D=-"
    ∷ codes "line OL_SUPPLY_W_ID=1 OL_I_ID=37 OL_QUANTITY=5 OL_AMOUNT=2.00 OL_DELIVERY_D=-"
    ∷ codes "line OL_SUPPLY_W_ID=1 OL_I_ID=38 OL_QUANTITY=5 OL_AMOUNT=3.00 OL_DELIVERY_D=-"
    ∷ codes "line OL_SUPPLY_W_ID=1 OL_I_ID=39 OL_QUANTITY=5 OL_AMOUNT=4.00 OL_DELIVERY_D=-"
    ∷ codes "line OL_SUPPLY_W_ID=1 OL_I_ID=40 OL_QUANTITY=5 OL_AMOUNT=5.00 OL_DELIVERY_D=-"
    ∷ [])
unfolding screen_definitions
status_8 = refl

stock_10 : reply_screen (reply_to opening (asks_stock 1 1 10)) ≡ lines (codes "stock-level W_ID=1 D_ID=1 threshold=10 low_stock=0" ∷ [])
unfolding screen_definitions
stock_10 = refl

queued : reply_screen (reply_to opening (queues 1 3 60)) ≡ lines (codes "delivery W_ID=1 O_CARRIER_ID=3 Delivery has been queued" ∷ [])
unfolding screen_definitions
queued = refl

first_district : reply_screen (reply_to (state_after opening (queues 1 3 60)) (delivers 120)) ≡ lines
    (codes "delivered W_ID=1 O_CARRIER_ID=3 queued=1970-01-01T00:01:00 at=1970-01-01T00:02:00" ∷ codes "district 1 O_ID=8" ∷ [])
unfolding screen_definitions
first_district = refl

none_queued : reply_screen (reply_to opening (delivers 0)) ≡ lines (codes "no delivery queued" ∷ [])
unfolding screen_definitions
none_queued = refl

refusals : flat_map refused_screen (refused.Amount ∷ refused.Count StockOrders ∷ refused.Total StockYtd ∷ refused.Stranger 1 ∷ refused.NoMemory ∷ []) ≡ lines
    (codes "refused 7 Amount" ∷ codes "refused 14 Count StockOrders" ∷ codes "refused 15 Total StockYtd" ∷ codes "refused 10 Stranger 1" ∷ codes "refused 16 NoMemory" ∷ [])
unfolding screen_definitions
refusals = refl

checked : check_screen (first_broken opening.rows) ≡ lines (codes "consistent" ∷ [])
unfolding screen_definitions
checked = refl

broken : check_screen (Some (record { condition = 5; warehouse = 1; district = 2; number = 8 })) ≡ lines (codes "broken 5 1 2 8" ∷ [])
unfolding screen_definitions
broken = refl

report : report_text 2 (pos 200) (pos 200) ≡ lines (codes "entries 2" ∷ codes "paid 2.00" ∷ codes "rise 2.00" ∷ [])
unfolding screen_definitions
report = refl
