-- A request as a line of a script says it: words with one space between them, ended by a line feed.
use Rattle.std.specs.Prelude.{ℕ, List, [], ◌∷◌, ◌++◌, flat_map, map, codes, decimal}
use Rattle.tpcc_money.specs.Texts.{amount_text}
use Rattle.tpcc_rows.specs.declared.transactions.requests.Who.{Who}
use Rattle.tpcc_rows.specs.declared.transactions.requests.Who.TheVariants.{Number, Name}
use Rattle.tpcc_rows.specs.declared.transactions.requests.Line.{Line}
use Rattle.tpcc_rows.specs.declared.transactions.requests.Order.{Order}
use Rattle.tpcc_rows.specs.declared.transactions.requests.Payment.{Payment}
use Rattle.tpcc_rows.specs.declared.transactions.requests.StatusQuery.{StatusQuery}
use Rattle.tpcc_rows.specs.declared.transactions.requests.StockQuery.{StockQuery}
use Rattle.tpcc_rows.specs.declared.transactions.requests.Ticket.{Ticket}
use Rattle.tpcc_rows.specs.declared.transactions.requests.Request.{Request}
use Rattle.tpcc_rows.specs.declared.transactions.requests.Request.TheVariants as ask
use Rattle.tpcc_rows.specs.declared.transactions.entry.Entry.{Entry}
use Rattle.tpcc_text.specs.Screens.{line}

-- a customer by C_ID or by C_LAST
abbrev pub customer_word : Who → List ℕ
customer_word (Number number) = decimal number
customer_word (Name last) = last

-- ITEM:SUPPLY:QUANTITY
abbrev pub order_line_word : Line → List ℕ
order_line_word l = decimal l.item ++ 58 ∷ (decimal l.supply ++ 58 ∷ decimal l.quantity)

-- 2.4.1
unfoldable pub order_line : Order → List ℕ
order_line o = line (codes "new-order") (decimal o.warehouse ∷ decimal o.district ∷ decimal o.customer ∷ decimal o.moment
    ∷ map order_line_word o.lines)

-- 2.5.1
unfoldable pub payment_line : Payment → List ℕ
payment_line p = line (codes "payment") (decimal p.warehouse ∷ decimal p.district ∷ decimal p.customer_warehouse
    ∷ decimal p.customer_district ∷ customer_word p.who ∷ amount_text p.amount ∷ decimal p.moment ∷ [])

-- 2.6.1
unfoldable pub status_line : StatusQuery → List ℕ
status_line s = line (codes "status") (decimal s.warehouse ∷ decimal s.district ∷ customer_word s.who ∷ [])

-- 2.8.1
unfoldable pub stock_line : StockQuery → List ℕ
stock_line s = line (codes "stock") (decimal s.warehouse ∷ decimal s.district ∷ decimal s.threshold ∷ [])

-- 2.7.1
unfoldable pub delivery_line : Ticket → List ℕ
delivery_line t = line (codes "delivery") (decimal t.warehouse ∷ decimal t.carrier ∷ decimal t.queued ∷ [])

-- 2.7.2: a run of the first ticket
unfoldable pub deliver_line : ℕ → List ℕ
deliver_line at = line (codes "deliver") (decimal at ∷ [])

abbrev pub request_line : Request → List ℕ
request_line (ask.NewOrder order) = order_line order
request_line (ask.Payment payment) = payment_line payment
request_line (ask.Status query) = status_line query
request_line (ask.Stock query) = stock_line query
request_line (ask.Delivery ticket) = delivery_line ticket
request_line (ask.Deliver at) = deliver_line at

-- a journal as a script: one line for each entry, in its order
abbrev pub journal_lines : List Entry → List ℕ
journal_lines entries = flat_map (λ e. request_line e.request) entries
