-- 5.2.4.2: what a terminal asks: a deck's cards in their order, and the draws of each card in theirs.
use Rattle.std.specs.Prelude.{ℕ, zero, suc, ◌+◌, ◌-◌, ◌/◌, ◌%◌, ◌==◌, ◌&&◌, ◌||◌, Bool, List, [], ◌∷◌, ◌++◌, min, pos, unsigned_abs, nat_lt, nat_le, if◌then◌else◌}
use Rattle.rand_core.specs.Stream.{Stream}
use Rattle.tpcc_draws.specs.Draws.{between, nurand}
use Rattle.tpcc_draws.specs.declared.names.TheConstants.{LAST_NAMES}
use Rattle.tpcc_draws.specs.declared.cards.Card.{Card}
use Rattle.tpcc_draws.specs.declared.cards.Card.TheVariants as cards
use Rattle.tpcc_rows.specs.LastName.{last_name}
use Rattle.tpcc_rows.specs.Layout.{Scale}
use Rattle.tpcc_rows.specs.declared.tables.keys.DistrictKey.{DistrictKey}
use Rattle.tpcc_rows.specs.declared.transactions.requests.Line.{Line}
use Rattle.tpcc_rows.specs.declared.transactions.requests.Order.{Order}
use Rattle.tpcc_rows.specs.declared.transactions.requests.Payment.{Payment}
use Rattle.tpcc_rows.specs.declared.transactions.requests.Who.{Who}
use Rattle.tpcc_rows.specs.declared.transactions.requests.Who.TheVariants as who
use Rattle.tpcc_rows.specs.declared.transactions.requests.Request.{Request}
use Rattle.tpcc_rows.specs.declared.transactions.requests.Request.TheVariants as requests
use Rattle.tpcc_rows.specs.declared.limits.TheConstants.{LEAST_PAYMENT, GREATEST_PAYMENT}
use Rattle.tpcc_terminal.specs.declared.home.Home.{Home}
use Rattle.tpcc_terminal.specs.declared.drafts.DrawnCustomer.{DrawnCustomer}
use Rattle.tpcc_terminal.specs.declared.drafts.DrawnCustomer.TheVariants as customers
use Rattle.tpcc_terminal.specs.declared.drafts.OrderDraft.{OrderDraft}
use Rattle.tpcc_terminal.specs.declared.drafts.PaymentDraft.{PaymentDraft}
use Rattle.tpcc_terminal.specs.declared.drafts.StatusDraft.{StatusDraft}
use Rattle.tpcc_terminal.specs.declared.drafts.Draft.{Draft}
use Rattle.tpcc_terminal.specs.declared.drafts.Draft.TheVariants as drafts

-- terminals, counted from 1, go round the warehouses, then round the districts
abbrev pub home_of : ℕ → Scale → Home
home_of number scale =
    record {
      warehouse = 1 + (number - 1) % scale.warehouses;
      district = 1 + (number - 1) / scale.warehouses % 10;
      scale = scale;
    }

-- a warehouse that is not the home one, each as likely as the other, and what is left
unfoldable pub other_warehouse : Home → Stream → ℕ × Stream
other_warehouse home s =
    let n = between 1 (home.scale.warehouses - 1) s in
    (if nat_lt n.0 home.warehouse then n.0 else n.0 + 1, n.1)

-- 2.4.1.5: one line of a hundred is supplied by another warehouse, where there is one
unfoldable pub supplier : Home → Stream → ℕ × Stream
supplier home s =
    let percent = between 1 100 s in
    if nat_lt 1 home.scale.warehouses && (percent.0 == 1) then other_warehouse home percent.1
    else (home.warehouse, percent.1)

-- 2.4.1.5: a line; an unused item is drawn and then replaced
unfoldable pub drawn_line : Home → Bool → Stream → Line × Stream
drawn_line home is_unused s =
    let item = nurand 8191 7911 1 home.scale.items s in
    let supply = supplier home item.1 in
    let quantity = between 1 10 supply.1 in
    (record { item = if is_unused then home.scale.items + 1 else item.0; supply = supply.0; quantity = quantity.0 }, quantity.1)

-- the first so many lines of an order of `count`, whose last may have an unused item
unfoldable pub drawn_lines : Home → ℕ → Bool → ℕ → Stream → List Line × Stream
drawn_lines home count is_unused zero s = ([], s)
drawn_lines home count is_unused (suc n) s =
    let before = drawn_lines home count is_unused n s in
    let line = drawn_line home (is_unused && (suc n == count)) before.1 in
    (before.0 ++ line.0 ∷ [], line.1)

-- 2.4.1: district, customer, 5 to 15 lines; one order of a hundred has an unused item (2.4.1.4)
unfoldable pub drawn_order : Home → Stream → OrderDraft × Stream
drawn_order home s =
    let district = between 1 10 s in
    let customer = nurand 1023 259 1 home.scale.customers district.1 in
    let count = between 5 15 customer.1 in
    let percent = between 1 100 count.1 in
    let lines = drawn_lines home count.0 (percent.0 == 1) count.0 percent.1 in
    (record { district = district.0; customer = customer.0; lines = lines.0 }, lines.1)

-- 2.5.1.2, 2.6.1.2: six of ten by last name
unfoldable pub drawn_customer : Home → Stream → DrawnCustomer × Stream
drawn_customer home s =
    let percent = between 1 100 s in
    if nat_le percent.0 60 then (let n = nurand 255 187 0 (min home.scale.customers LAST_NAMES - 1) percent.1 in (customers.Name n.0, n.1))
    else (let n = nurand 1023 259 1 home.scale.customers percent.1 in (customers.Number n.0, n.1))

-- 2.5.1.2: 15 of a hundred pay from a district of another warehouse, where there is one
unfoldable pub payer : Home → ℕ → Stream → DistrictKey × Stream
payer home district s =
    let percent = between 1 100 s in
    if nat_le percent.0 85 || (home.scale.warehouses == 1) then (record { warehouse = home.warehouse; district = district }, percent.1)
    else (let other = other_warehouse home percent.1 in let d = between 1 10 other.1 in (record { warehouse = other.0; district = d.0 }, d.1))

-- 2.5.1: district, payer, amount
unfoldable pub drawn_payment : Home → Stream → PaymentDraft × Stream
drawn_payment home s =
    let district = between 1 10 s in
    let from = payer home district.0 district.1 in
    let customer = drawn_customer home from.1 in
    let cents = between (unsigned_abs LEAST_PAYMENT) (unsigned_abs GREATEST_PAYMENT) customer.1 in (
      record {
        district = district.0;
        customer_warehouse = from.0.warehouse;
        customer_district = from.0.district;
        customer = customer.0;
        cents = cents.0;
      },
      cents.1,
    )

-- 2.6.1: district and customer
unfoldable pub drawn_status : Home → Stream → StatusDraft × Stream
drawn_status home s =
    let district = between 1 10 s in
    let customer = drawn_customer home district.1 in
    (record { district = district.0; customer = customer.0 }, customer.1)

-- the draws of a card; 2.7.1.2: the carrier; 2.8.1.2: the threshold
unfoldable pub drawn_draft : Home → Card → Stream → Draft × Stream
drawn_draft home cards.NewOrder s = (let order = drawn_order home s in (drafts.NewOrder order.0, order.1))
drawn_draft home cards.Payment s = (let payment = drawn_payment home s in (drafts.Payment payment.0, payment.1))
drawn_draft home cards.OrderStatus s = (let status = drawn_status home s in (drafts.OrderStatus status.0, status.1))
drawn_draft home cards.Delivery s = (let carrier = between 1 10 s in (drafts.Delivery carrier.0, carrier.1))
drawn_draft home cards.StockLevel s = (let threshold = between 10 20 s in (drafts.StockLevel threshold.0, threshold.1))

abbrev pub who_of : DrawnCustomer → Who
who_of (customers.Name n) = who.Name (last_name n)
who_of (customers.Number n) = who.Number n

abbrev pub order_of : Home → ℕ → OrderDraft → Order
order_of home moment d =
    record { warehouse = home.warehouse; district = d.district; customer = d.customer; moment = moment; lines = d.lines }

abbrev pub payment_of : Home → ℕ → PaymentDraft → Payment
payment_of home moment d =
    record {
      warehouse = home.warehouse;
      district = d.district;
      customer_warehouse = d.customer_warehouse;
      customer_district = d.customer_district;
      who = who_of d.customer;
      amount = pos d.cents;
      moment = moment;
    }

-- the request of what was drawn, all of it of the home warehouse
abbrev pub request_of : Home → ℕ → Draft → Request
request_of home moment (drafts.NewOrder d) = requests.NewOrder (order_of home moment d)
request_of home moment (drafts.Payment d) = requests.Payment (payment_of home moment d)
request_of home moment (drafts.OrderStatus d) =
    requests.Status (record { warehouse = home.warehouse; district = d.district; who = who_of d.customer })
request_of home moment (drafts.Delivery carrier) =
    requests.Delivery (record { warehouse = home.warehouse; carrier = carrier; queued = moment })
request_of home moment (drafts.StockLevel threshold) =
    requests.Stock (record { warehouse = home.warehouse; district = home.district; threshold = threshold })
