-- Requests that a line of a script can say: numbers of 32 bits, moments and amounts in their ranges, names of letters.
use Rattle.tpcc_money.specs.declared.parse.TheConstants.{GREATEST_AMOUNT}
use Rattle.tpcc_money.specs.declared.moment.TheConstants.Moment.{LAST_SECOND}
use Rattle.std.specs.Prelude.{ℕ, Bool, ◌&&◌, nat_le, length, ℤ, pos, negsuc, true, false}
use Rattle.std.specs.List.{list_all}
use Rattle.tpcc_rows.specs.declared.transactions.requests.Who.{Who}
use Rattle.tpcc_rows.specs.declared.transactions.requests.Who.TheVariants.{Number, Name}
use Rattle.tpcc_rows.specs.declared.transactions.requests.Line.{Line}
use Rattle.tpcc_rows.specs.declared.transactions.requests.Request.{Request}
use Rattle.tpcc_rows.specs.declared.transactions.requests.Request.TheVariants as ask
use Rattle.tpcc_text.specs.Script.{is_last_name}

abbrev pub is_number : ℕ → Bool
is_number n = nat_le n 4294967295

abbrev pub is_moment : ℕ → Bool
is_moment n = nat_le n LAST_SECOND

-- 0.00 to 9,999,999,999.99
abbrev pub is_amount : ℤ → Bool
is_amount (pos cents) = nat_le cents GREATEST_AMOUNT
is_amount (negsuc cents) = false

abbrev pub is_customer_word : Who → Bool
is_customer_word (Number number) = is_number number
is_customer_word (Name last) = is_last_name last

abbrev pub is_order_line : Line → Bool
is_order_line l = is_number l.item && (is_number l.supply && is_number l.quantity)

-- a customer by number, or by a name of letters
abbrev pub is_customer_by_letters : Who → Bool
is_customer_by_letters (Number number) = true
is_customer_by_letters (Name last) = is_last_name last

-- whether a customer that the request names has a name of letters
abbrev pub has_letters : Request → Bool
has_letters (ask.NewOrder o) = true
has_letters (ask.Payment p) = is_customer_by_letters p.who
has_letters (ask.Status s) = is_customer_by_letters s.who
has_letters (ask.Stock s) = true
has_letters (ask.Delivery t) = true
has_letters (ask.Deliver at) = true

-- what types keep of every request, numbers of 32 bits and moments in their range, and a name that is letters
abbrev pub has_words : Request → Bool
has_words (ask.NewOrder o) =
    is_number o.warehouse && (is_number o.district && (is_number o.customer && (is_moment o.moment && list_all is_order_line o.lines)))
has_words (ask.Payment p) =
    is_number p.warehouse && (is_number p.district && (is_number p.customer_warehouse && (is_number p.customer_district && (is_customer_word p.who && is_moment p.moment))))
has_words (ask.Status s) = is_number s.warehouse && (is_number s.district && is_customer_word s.who)
has_words (ask.Stock s) = is_number s.warehouse && (is_number s.district && is_number s.threshold)
has_words (ask.Delivery t) = is_number t.warehouse && (is_number t.carrier && is_moment t.queued)
has_words (ask.Deliver at) = is_moment at

-- an amount that has a word, and at most 100 lines, so that the line of the script has at most 4,096 bytes
abbrev pub fits_line : Request → Bool
fits_line (ask.NewOrder o) = nat_le (length o.lines) 100
fits_line (ask.Payment p) = is_amount p.amount
fits_line (ask.Status s) = true
fits_line (ask.Stock s) = true
fits_line (ask.Delivery t) = true
fits_line (ask.Deliver at) = true

abbrev pub is_sayable : Request → Bool
is_sayable request = has_words request && fits_line request
