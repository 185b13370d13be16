-- Payments of the small opening, computed.
use Rattle.std.proofs.Common.{◌≡◌, refl, List, [], ◌∷◌, ◌++◌}
use Rattle.std.specs.Prelude.{pos, negsuc, neg_ℤ, Some, None, codes, take, drop, replicate, map, filter, flat_map, if◌then◌else◌, ◌==◌}
use Rattle.std.specs.List.{range_with_len}
use Rattle.tpcc_rows.specs.ChosenCustomer.{chosen_customer, customers_named}
use Rattle.tpcc_rows.specs.Conditions.{first_broken}
use Rattle.std.specs.List.{concat}
use Rattle.tpcc_rows.specs.declared.transactions.requests.Who.TheVariants.{Number, Name}
use Rattle.tpcc_rows.specs.declared.transactions.requests.Request.{Request}
use Rattle.tpcc_rows.specs.declared.transactions.refusals.Refusal.TheVariants.{Amount, NoCustomer, NoWarehouse, Count, Total}
use Rattle.tpcc_rows.specs.declared.transactions.refusals.Field.TheVariants.{PaymentCount, DistrictYtd, Balance, YtdPayment}
use Rattle.tpcc_rows.specs.declared.tables.rows.CustomerRow.{CustomerRow}
use Rattle.tpcc_rows.specs.declared.tables.rows.DistrictRow.{DistrictRow}
use Rattle.tpcc_rows.specs.declared.transactions.entry.Entry.{Entry}
use Rattle.tpcc_rows.specs.Lists.{updated}
use Rattle.tpcc_rows.specs.Replay.{replay, IsFaithful, paid_by_entries, rise}
use Rattle.tpcc_rows.specs.declared.transactions.replies.Reply.TheVariants as tell
use Rattle.tpcc_rows.specs.Tables.{State, is_customer, is_district, warehouse_at, district_at, customer_at}
use Rattle.tpcc_rows.specs.Opening.{plain_address, plain_customer}
use Rattle.tpcc_rows.specs.Turn.{refusal, state_after, reply_to}
use Rattle.tpcc_theorems.proofs.Small.{all_definitions, opening, pays, asks_status, after_all, times}

one_dollar_accepted : refusal opening (pays 1 1 1 1 (Number 1) 100 0) ≡ None
unfolding all_definitions
one_dollar_accepted = refl

one_dollar : reply_to opening (pays 1 1 1 1 (Number 1) 100 0) ≡
    tell.Paid (record {
      warehouse = 1;
      district = 1;
      customer_warehouse = 1;
      customer_district = 1;
      customer = 1;
      amount = pos 100;
      date = 0;
      warehouse_address = plain_address;
      district_address = plain_address;
      first = codes "FIRST9998";
      middle = codes "OE";
      last = codes "BARBARBAR";
      customer_address = plain_address;
      phone = codes "0000000000000001";
      since = 0;
      credit = codes "GC";
      credit_limit = pos 5000000;
      discount = 100;
      balance = negsuc 1099;
      information = None;
    })
unfolding all_definitions
one_dollar = refl

w_ytd : (warehouse_at (state_after opening (pays 1 1 1 1 (Number 1) 100 0)).rows 1).ytd ≡ pos 100100
unfolding all_definitions
w_ytd = refl

d_ytd : (district_at (state_after opening (pays 1 1 1 1 (Number 1) 100 0)).rows 1 1).ytd ≡ pos 10100
unfolding all_definitions
d_ytd = refl

-- and the customer's status then shows the new balance
one_dollar_less : (customer_at (state_after opening (pays 1 1 1 1 (Number 1) 100 0)).rows 1 1 1).balance ≡ neg_ℤ (pos 1100)
unfolding all_definitions
one_dollar_less = refl

-- 5,000.00 is the most, 1.00 the least
most : (customer_at (state_after opening (pays 1 1 1 1 (Number 1) 500000 0)).rows 1 1 1).balance ≡ neg_ℤ (pos 501000)
unfolding all_definitions
most = refl

too_much : refusal opening (pays 1 1 1 1 (Number 1) 500001 0) ≡ Some Amount
unfolding all_definitions
too_much = refl

too_little : refusal opening (pays 1 1 1 1 (Number 1) 99 0) ≡ Some Amount
unfolding all_definitions
too_little = refl

nothing : refusal opening (pays 1 1 1 1 (Number 1) 0 0) ≡ Some Amount
unfolding all_definitions
nothing = refl

-- the first test that is true decides
no_warehouse_first : refusal opening (pays 9 1 1 1 (Number 1) 99 0) ≡ Some NoWarehouse
unfolding all_definitions
no_warehouse_first = refl

-- by last name: customers 10, 7, 4 and 1 by C_FIRST, of whom 7 is the second
abbrev by_name : State
by_name = state_after opening (pays 1 1 1 1 (Name (codes "BARBARBAR")) 100 0)

four_of_that_name : map (λ c. c.id) (customers_named opening.rows 1 1 (codes "BARBARBAR")) ≡ 10 ∷ 7 ∷ 4 ∷ 1 ∷ []
unfolding all_definitions
four_of_that_name = refl

the_second : chosen_customer opening.rows 1 1 (Name (codes "BARBARBAR")) ≡ Some (plain_customer 1 1 7)
unfolding all_definitions
the_second = refl

the_second_pays : map (λ c. c.balance) (take 10 by_name.rows.customers) ≡ map (λ n. if n == 7 then neg_ℤ (pos 1100) else neg_ℤ (pos 1000)) (range_with_len 1 10)
unfolding all_definitions
the_second_pays = refl

no_such_name : refusal opening (pays 1 1 1 1 (Name (codes "EINGEINGEING")) 100 0) ≡ Some NoCustomer
unfolding all_definitions
no_such_name = refl

-- a customer with bad credit, thirteen times
abbrev thirteen : State
thirteen = after_all opening (times 13 (pays 1 1 1 1 (Number 10) 100 0))

note_of_16_bytes : flat_map (λ c. take 16 c.information) (filter (is_customer 1 1 10) (state_after opening (pays 1 1 1 1 (Number 10) 100 0)).rows.customers) ≡ codes "10 1 1 1 1 1.00 "
unfolding all_definitions
note_of_16_bytes = refl

thirteen_notes : (customer_at thirteen.rows 1 1 10).information ≡ concat (times 13 (codes "10 1 1 1 1 1.00 ")) ++ replicate 292 120
unfolding all_definitions
thirteen_notes = refl

balance_after_13 : (customer_at thirteen.rows 1 1 10).balance ≡ neg_ℤ (pos 2300)
unfolding all_definitions
balance_after_13 = refl

-- a payment changes four lists, and the eleven conditions still hold
abbrev after_one : State
after_one = state_after opening (pays 1 1 1 1 (Number 1) 100 0)

still_consistent : first_broken after_one.rows ≡ None
unfolding all_definitions
still_consistent = refl

one_history : drop 100 after_one.rows.histories ≡ record { customer = 1; customer_district = 1; customer_warehouse = 1; district = 1; warehouse = 1; date = 0; amount = pos 100; information = codes "WARE001    DIST01" } ∷ []
unfolding all_definitions
one_history = refl

-- ---- ranges, of tables with one column changed

abbrev with_customer : (CustomerRow → CustomerRow) → State
with_customer change = record opening { rows = record opening.rows { customers = updated (is_customer 1 1 1) change opening.rows.customers } }

abbrev with_district : (DistrictRow → DistrictRow) → State
with_district change = record opening { rows = record opening.rows { districts = updated (is_district 1 1) change opening.rows.districts } }

abbrev one : Request
one = pays 1 1 1 1 (Number 1) 100 0

count_past_9999 : (customer_at (state_after (with_customer (λ c. record c { payment_count = 9999 })) one).rows 1 1 1).payment_count ≡ 10000
unfolding all_definitions
count_past_9999 = refl

count_over : refusal (with_customer (λ c. record c { payment_count = 999999999 })) one ≡ Some (Count PaymentCount)
unfolding all_definitions
count_over = refl

count_before_total : refusal (with_customer (λ c. record c { payment_count = 999999999; ytd_payment = pos 999999999999 })) one ≡ Some (Count PaymentCount)
unfolding all_definitions
count_before_total = refl

balance_over : refusal (with_customer (λ c. record c { balance = neg_ℤ (pos 999999999999) })) one ≡ Some (Total Balance)
unfolding all_definitions
balance_over = refl

balance_before_ytd : refusal (with_customer (λ c. record c { balance = neg_ℤ (pos 999999999999); ytd_payment = pos 999999999999 })) one ≡ Some (Total Balance)
unfolding all_definitions
balance_before_ytd = refl

ytd_over : refusal (with_customer (λ c. record c { ytd_payment = pos 999999999999 })) one ≡ Some (Total YtdPayment)
unfolding all_definitions
ytd_over = refl

district_over : refusal (with_district (λ d. record d { ytd = pos 999999999999 })) one ≡ Some (Total DistrictYtd)
unfolding all_definitions
district_over = refl

-- one cent too many in D_YTD of district 1
a_cent_more : first_broken (with_district (λ d. record d { ytd = pos 10001 })).rows ≡ Some (record { condition = 1; warehouse = 1; district = 0; number = 0 })
unfolding all_definitions
a_cent_more = refl

-- ---- a journal of two terminals

abbrev journal : List Entry
journal =
    record { terminal = 2; number = 0; request = asks_status 1 1 (Number 1); reply = reply_to opening (asks_status 1 1 (Number 1)) }
    ∷ record { terminal = 1; number = 0; request = one; reply = reply_to opening one }
    ∷ record { terminal = 2; number = 1; request = asks_status 1 1 (Number 1); reply = reply_to (state_after opening one) (asks_status 1 1 (Number 1)) }
    ∷ []

journal_is_faithful : IsFaithful opening journal
unfolding all_definitions
journal_is_faithful =
    (record { accepted = refl; replied = refl; numbered = refl }, (record { accepted = refl; replied = refl; numbered = refl }, (record { accepted = refl; replied = refl; numbered = refl }, tt)))

paid_is_one_dollar : paid_by_entries journal ≡ pos 100
unfolding all_definitions
paid_is_one_dollar = refl

rise_is_one_dollar : rise opening.rows (replay opening journal).rows ≡ pos 100
unfolding all_definitions
rise_is_one_dollar = refl
