-- The screens: lines ended by a line feed, fields divided by one space, named as in the standard.
use Rattle.std.specs.Prelude.{ℕ, ◌+◌, List, [], ◌∷◌, ◌++◌, flat_map, Option, Some, None, codes, decimal, Result, Ok, Err}
use Rattle.tpcc_money.specs.Texts.{amount_text, rate_text, moment_text}
use Rattle.tpcc_rows.specs.declared.tables.rows.Address.{Address}
use Rattle.tpcc_rows.specs.declared.transactions.requests.Ticket.{Ticket}
use Rattle.tpcc_rows.specs.declared.transactions.refusals.Field.{Field}
use Rattle.tpcc_rows.specs.declared.transactions.refusals.Field.TheVariants as field
use Rattle.tpcc_rows.specs.declared.transactions.refusals.Refusal.{Refusal}
use Rattle.tpcc_rows.specs.declared.transactions.refusals.Refusal.TheVariants as refused
use Rattle.tpcc_rows.specs.declared.transactions.replies.Brand.{Brand}
use Rattle.tpcc_rows.specs.declared.transactions.replies.Brand.TheVariants.{Original, Generic}
use Rattle.tpcc_rows.specs.declared.transactions.replies.EnteredLine.{EnteredLine}
use Rattle.tpcc_rows.specs.declared.transactions.replies.AcceptedOrder.{AcceptedOrder}
use Rattle.tpcc_rows.specs.declared.transactions.replies.RolledBackOrder.{RolledBackOrder}
use Rattle.tpcc_rows.specs.declared.transactions.replies.Entered.{Entered}
use Rattle.tpcc_rows.specs.declared.transactions.replies.Entered.TheVariants.{Accepted, RolledBack}
use Rattle.tpcc_rows.specs.declared.transactions.replies.Paid.{Paid}
use Rattle.tpcc_rows.specs.declared.transactions.replies.StatusLine.{StatusLine}
use Rattle.tpcc_rows.specs.declared.transactions.replies.LastOrder.{LastOrder}
use Rattle.tpcc_rows.specs.declared.transactions.replies.Status.{Status}
use Rattle.tpcc_rows.specs.declared.transactions.replies.Level.{Level}
use Rattle.tpcc_rows.specs.declared.transactions.replies.Delivery.{Delivery}
use Rattle.tpcc_rows.specs.declared.transactions.replies.Delivery.TheVariants.{District, NoneQueued}
use Rattle.tpcc_rows.specs.declared.transactions.replies.Delivered.{Delivered}
use Rattle.tpcc_rows.specs.declared.transactions.replies.Reply.{Reply}
use Rattle.tpcc_rows.specs.declared.transactions.replies.Reply.TheVariants as tell
use Rattle.tpcc_rows.specs.Conditions.{Broken}

-- a word and further words, with one space before each of them, and a line feed
abbrev pub line : List ℕ → List (List ℕ) → List ℕ
line word [] = word ++ 10 ∷ []
line word (next ∷ words) = word ++ 32 ∷ line next words

-- null is a hyphen
abbrev pub shown_number : Option ℕ → List ℕ
shown_number None = codes "-"
shown_number (Some n) = decimal n

abbrev pub shown_moment : Option ℕ → List ℕ
shown_moment None = codes "-"
shown_moment (Some at) = moment_text at

-- the five columns of an address, divided by commas
abbrev pub address_text : Address → List ℕ
address_text a = a.street_1 ++ 44 ∷ (a.street_2 ++ 44 ∷ (a.city ++ 44 ∷ (a.state ++ 44 ∷ a.zip)))

-- 2.4.3.3: an accepted New-Order
abbrev pub brand_text : Brand → List ℕ
brand_text Original = codes "B"
brand_text Generic = codes "G"

unfoldable pub entered_line : EnteredLine → List ℕ
entered_line l = line (codes "line") (decimal l.number
    ∷ (codes "OL_SUPPLY_W_ID=" ++ decimal l.supply)
    ∷ (codes "OL_I_ID=" ++ decimal l.item)
    ∷ (codes "I_NAME=" ++ l.name)
    ∷ (codes "OL_QUANTITY=" ++ decimal l.quantity)
    ∷ (codes "S_QUANTITY=" ++ decimal l.stock)
    ∷ (codes "brand=" ++ brand_text l.brand)
    ∷ (codes "I_PRICE=" ++ amount_text l.price)
    ∷ (codes "OL_AMOUNT=" ++ amount_text l.amount) ∷ [])

unfoldable pub accepted_line : AcceptedOrder → List ℕ
accepted_line o = line (codes "new-order") ((codes "W_ID=" ++ decimal o.warehouse)
    ∷ (codes "D_ID=" ++ decimal o.district)
    ∷ (codes "C_ID=" ++ decimal o.customer)
    ∷ (codes "C_LAST=" ++ o.last)
    ∷ (codes "C_CREDIT=" ++ o.credit)
    ∷ (codes "C_DISCOUNT=" ++ rate_text o.discount)
    ∷ (codes "O_ID=" ++ decimal o.order)
    ∷ (codes "O_OL_CNT=" ++ decimal o.line_count)
    ∷ (codes "W_TAX=" ++ rate_text o.warehouse_tax)
    ∷ (codes "D_TAX=" ++ rate_text o.district_tax)
    ∷ (codes "O_ENTRY_D=" ++ moment_text o.entry_date)
    ∷ (codes "total=" ++ amount_text o.total) ∷ [])

-- 2.4.3.4: a New-Order with an unused item
unfoldable pub rolled_back_line : RolledBackOrder → List ℕ
rolled_back_line o = line (codes "new-order") ((codes "W_ID=" ++ decimal o.warehouse)
    ∷ (codes "D_ID=" ++ decimal o.district)
    ∷ (codes "C_ID=" ++ decimal o.customer)
    ∷ (codes "C_LAST=" ++ o.last)
    ∷ (codes "C_CREDIT=" ++ o.credit)
    ∷ (codes "O_ID=" ++ decimal o.order)
    ∷ codes "Item number is not valid" ∷ [])

abbrev pub entered_screen : Entered → List ℕ
entered_screen (Accepted o) = accepted_line o ++ flat_map entered_line o.lines
entered_screen (RolledBack o) = rolled_back_line o

-- 2.5.3.3: Payment
unfoldable pub payment_line : Paid → List ℕ
payment_line p = line (codes "payment") ((codes "W_ID=" ++ decimal p.warehouse)
    ∷ (codes "D_ID=" ++ decimal p.district)
    ∷ (codes "C_W_ID=" ++ decimal p.customer_warehouse)
    ∷ (codes "C_D_ID=" ++ decimal p.customer_district)
    ∷ (codes "C_ID=" ++ decimal p.customer)
    ∷ (codes "H_AMOUNT=" ++ amount_text p.amount)
    ∷ (codes "H_DATE=" ++ moment_text p.date) ∷ [])

unfoldable pub place_lines : Paid → List ℕ
place_lines p = line (codes "warehouse") (address_text p.warehouse_address ∷ []) ++ line (codes "district") (address_text p.district_address ∷ [])

unfoldable pub customer_line : Paid → List ℕ
customer_line p = line (codes "customer") (p.first
    ∷ p.middle
    ∷ p.last
    ∷ address_text p.customer_address
    ∷ (codes "C_PHONE=" ++ p.phone)
    ∷ (codes "C_SINCE=" ++ moment_text p.since)
    ∷ (codes "C_CREDIT=" ++ p.credit)
    ∷ (codes "C_CREDIT_LIM=" ++ amount_text p.credit_limit)
    ∷ (codes "C_DISCOUNT=" ++ rate_text p.discount)
    ∷ (codes "C_BALANCE=" ++ amount_text p.balance) ∷ [])

abbrev pub information_line : Option (List ℕ) → List ℕ
information_line None = []
information_line (Some first) = line (codes "C_DATA=" ++ first) []

abbrev pub paid_screen : Paid → List ℕ
paid_screen p = payment_line p ++ (place_lines p ++ (customer_line p ++ information_line p.information))

-- 2.6.3.3: Order-Status
unfoldable pub status_line : Status → List ℕ
status_line s = line (codes "order-status") ((codes "W_ID=" ++ decimal s.warehouse)
    ∷ (codes "D_ID=" ++ decimal s.district)
    ∷ (codes "C_ID=" ++ decimal s.customer)
    ∷ (codes "C_FIRST=" ++ s.first)
    ∷ (codes "C_MIDDLE=" ++ s.middle)
    ∷ (codes "C_LAST=" ++ s.last)
    ∷ (codes "C_BALANCE=" ++ amount_text s.balance) ∷ [])

unfoldable pub ordered_line : StatusLine → List ℕ
ordered_line l = line (codes "line") ((codes "OL_SUPPLY_W_ID=" ++ decimal l.supply)
    ∷ (codes "OL_I_ID=" ++ decimal l.item)
    ∷ (codes "OL_QUANTITY=" ++ decimal l.quantity)
    ∷ (codes "OL_AMOUNT=" ++ amount_text l.amount)
    ∷ (codes "OL_DELIVERY_D=" ++ shown_moment l.delivered) ∷ [])

unfoldable pub order_head : LastOrder → List ℕ
order_head o = line (codes "order") ((codes "O_ID=" ++ decimal o.order)
    ∷ (codes "O_ENTRY_D=" ++ moment_text o.entry_date)
    ∷ (codes "O_CARRIER_ID=" ++ shown_number o.carrier) ∷ [])

abbrev pub last_order_lines : Option LastOrder → List ℕ
last_order_lines None = line (codes "no") (codes "order" ∷ [])
last_order_lines (Some o) = order_head o ++ flat_map ordered_line o.lines

abbrev pub status_screen : Status → List ℕ
status_screen s = status_line s ++ last_order_lines s.order

-- 2.8.3.3: Stock-Level
unfoldable pub level_screen : Level → List ℕ
level_screen l = line (codes "stock-level") ((codes "W_ID=" ++ decimal l.warehouse)
    ∷ (codes "D_ID=" ++ decimal l.district)
    ∷ (codes "threshold=" ++ decimal l.threshold)
    ∷ (codes "low_stock=" ++ decimal l.low_stock) ∷ [])

-- 2.7.3: Delivery is queued
unfoldable pub queued_screen : Ticket → List ℕ
queued_screen t = line (codes "delivery") ((codes "W_ID=" ++ decimal t.warehouse)
    ∷ (codes "O_CARRIER_ID=" ++ decimal t.carrier)
    ∷ codes "Delivery has been queued" ∷ [])

-- 2.7.4: what a run of a ticket delivered
unfoldable pub delivered_line : Ticket → ℕ → List ℕ
delivered_line t at = line (codes "delivered") ((codes "W_ID=" ++ decimal t.warehouse)
    ∷ (codes "O_CARRIER_ID=" ++ decimal t.carrier)
    ∷ (codes "queued=" ++ moment_text t.queued)
    ∷ (codes "at=" ++ moment_text at) ∷ [])

abbrev pub delivered_order : Option ℕ → List ℕ
delivered_order None = codes "skipped"
delivered_order (Some order) = codes "O_ID=" ++ decimal order

unfoldable pub district_line : ℕ → Option ℕ → List ℕ
district_line district order = line (codes "district") (decimal district ∷ delivered_order order ∷ [])

abbrev pub delivery_screen : Delivery → List ℕ
delivery_screen (District d) = delivered_line d.ticket d.at ++ district_line d.district d.order
delivery_screen NoneQueued = line (codes "no") (codes "delivery" ∷ codes "queued" ∷ [])

-- the lines of districts from a number on
abbrev pub district_lines : ℕ → List (Option ℕ) → List ℕ
district_lines district [] = []
district_lines district (order ∷ orders) = district_line district order ++ district_lines (district + 1) orders

-- 2.7.2.2: a whole ticket of the result log
abbrev pub ticket_screen : Delivered → List ℕ
ticket_screen d = delivered_line d.ticket d.at ++ district_lines 1 d.orders

abbrev pub results_screen : List Delivered → List ℕ
results_screen tickets = flat_map ticket_screen tickets

-- why a request was refused
abbrev pub field_name : Field → List ℕ
field_name field.PaymentCount = codes "PaymentCount"
field_name field.DeliveryCount = codes "DeliveryCount"
field_name field.StockOrders = codes "StockOrders"
field_name field.RemoteOrders = codes "RemoteOrders"
field_name field.WarehouseYtd = codes "WarehouseYtd"
field_name field.DistrictYtd = codes "DistrictYtd"
field_name field.Balance = codes "Balance"
field_name field.YtdPayment = codes "YtdPayment"
field_name field.StockYtd = codes "StockYtd"

abbrev pub refusal_words : Refusal → List (List ℕ)
refusal_words refused.NoWarehouse = codes "1" ∷ codes "NoWarehouse" ∷ []
refusal_words refused.NoDistrict = codes "2" ∷ codes "NoDistrict" ∷ []
refusal_words refused.NoCustomer = codes "3" ∷ codes "NoCustomer" ∷ []
refusal_words refused.LineCount = codes "4" ∷ codes "LineCount" ∷ []
refusal_words refused.Quantity = codes "5" ∷ codes "Quantity" ∷ []
refusal_words refused.NoSupply = codes "6" ∷ codes "NoSupply" ∷ []
refusal_words refused.Amount = codes "7" ∷ codes "Amount" ∷ []
refusal_words refused.Carrier = codes "8" ∷ codes "Carrier" ∷ []
refusal_words refused.Threshold = codes "9" ∷ codes "Threshold" ∷ []
refusal_words (refused.Stranger seen) = codes "10" ∷ codes "Stranger" ∷ decimal seen ∷ []
refusal_words refused.JournalFull = codes "11" ∷ codes "JournalFull" ∷ []
refusal_words refused.QueueFull = codes "12" ∷ codes "QueueFull" ∷ []
refusal_words refused.OrderNumbers = codes "13" ∷ codes "OrderNumbers" ∷ []
refusal_words (refused.Count f) = codes "14" ∷ codes "Count" ∷ field_name f ∷ []
refusal_words (refused.Total f) = codes "15" ∷ codes "Total" ∷ field_name f ∷ []
refusal_words refused.NoMemory = codes "16" ∷ codes "NoMemory" ∷ []

unfoldable pub refused_screen : Refusal → List ℕ
refused_screen r = line (codes "refused") (refusal_words r)

-- what an accepted request shows
abbrev pub reply_screen : Reply → List ℕ
reply_screen (tell.Entered e) = entered_screen e
reply_screen (tell.Paid p) = paid_screen p
reply_screen (tell.Status s) = status_screen s
reply_screen (tell.Level l) = level_screen l
reply_screen (tell.Queued t) = queued_screen t
reply_screen (tell.Delivery d) = delivery_screen d

-- what a book answered shows
abbrev pub answer_screen : Result Reply Refusal → List ℕ
answer_screen (Ok reply) = reply_screen reply
answer_screen (Err refusal) = refused_screen refusal

-- what a check shows
unfoldable pub check_screen : Option Broken → List ℕ
check_screen None = line (codes "consistent") []
check_screen (Some b) = line (codes "broken") (decimal b.condition ∷ decimal b.warehouse ∷ decimal b.district ∷ decimal b.number ∷ [])
