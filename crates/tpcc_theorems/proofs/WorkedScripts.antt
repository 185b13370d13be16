-- Scripts, computed: what they print on the small opening, and their faults.
use Rattle.std.proofs.Common.{◌≡◌, refl, ℕ, List, [], ◌∷◌, ◌++◌}
use Rattle.std.specs.Prelude.{Some, None, Option, codes, flat_map, replicate}
use Rattle.tpcc_money.specs.Numerals.{number_up_to, amount_of}
use Rattle.tpcc_population.specs.declared.opening.Opening.TheVariants.{Plain}
use Rattle.tpcc_theorems.proofs.Small.{all_definitions, opening, times}
use Rattle.tpcc_theorems.proofs.WorkedScreens.{screen_definitions, lines}
use Rattle.tpcc_text.specs.declared.script.fault.ScriptFault.{ScriptFault}
use Rattle.tpcc_text.specs.declared.script.fault.ScriptFault.TheVariants.{Bad, Cut, LongLine}
use Rattle.tpcc_text.specs.Script.{script_of, call_of, call_named, later_named, order_of, payment_of, status_of, stock_of, delivery_of, deliver_of}
use Rattle.tpcc_book.specs.Turn.{turn_refusal}
use Rattle.tpcc_script.specs.ScriptBook.{ScriptBook, screen_of, book_after, screens_of}

unfoldable pub run : Unit {0}
unfolding all_definitions screen_definitions number_up_to amount_of script_of call_of call_named later_named order_of payment_of status_of stock_of delivery_of deliver_of screen_of book_after turn_refusal
run = tt

abbrev start : ScriptBook
start = record { opening = Plain (record { warehouses = 1; customers = 10; items = 100 }); state = opening; journal = [] }

-- what a script prints, and its fault
abbrev output_of : List ℕ → List ℕ × Option ScriptFault
output_of bytes = let script = script_of bytes in (screens_of start script.calls, script.fault)

abbrev fault : List ℕ → Option ScriptFault
fault bytes = (script_of bytes).fault

empty : output_of [] ≡ ([], None)
unfolding run
empty = refl

no_line_feed : output_of (codes "payment 1 1 1 1 1 1.00 0") ≡ ([], Some (Cut 1))
unfolding run
no_line_feed = refl

ninth_word : output_of (lines (codes "payment 1 1 1 1 1 1.00 0 0" ∷ [])) ≡ ([], Some (Bad 1))
unfolding run
ninth_word = refl

one_decimal : output_of (lines (codes "payment 1 1 1 1 1 1.0 0" ∷ [])) ≡ ([], Some (Bad 1))
unfolding run
one_decimal = refl

leading_zero : fault (lines (codes "payment 1 1 1 1 01 1.00 0" ∷ [])) ≡ Some (Bad 1)
unfolding run
leading_zero = refl

two_spaces : fault (lines (codes "payment 1 1  1 1 1 1.00 0" ∷ [])) ≡ Some (Bad 1)
unfolding run
two_spaces = refl

space_at_end : fault (lines (codes "payment 1 1 1 1 1 1.00 0 " ∷ [])) ≡ Some (Bad 1)
unfolding run
space_at_end = refl

carriage_return : fault (codes "payment 1 1 1 1 1 1.00 0" ++ 13 ∷ 10 ∷ []) ≡ Some (Bad 1)
unfolding run
carriage_return = refl

small_letters : fault (lines (codes "payment 1 1 1 1 bar 1.00 0" ∷ [])) ≡ Some (Bad 1)
unfolding run
small_letters = refl

seventeen_letters : fault (lines (codes "payment 1 1 1 1 ABCDEFGHIJKLMNOPQ 1.00 0" ∷ [])) ≡ Some (Bad 1)
unfolding run
seventeen_letters = refl

amount_too_large : fault (lines (codes "payment 1 1 1 1 1 10000000000.00 0" ∷ [])) ≡ Some (Bad 1)
unfolding run
amount_too_large = refl

amount_below_zero : fault (lines (codes "payment 1 1 1 1 1 -1.00 0" ∷ [])) ≡ Some (Bad 1)
unfolding run
amount_below_zero = refl

greatest_amount_refused : output_of (lines (codes "payment 1 1 1 1 1 9999999999.99 0" ∷ codes "payment 1 1 1 1 1 0.00 0" ∷ []))
    ≡ (lines (codes "refused 7 Amount" ∷ codes "refused 7 Amount" ∷ []), None)
unfolding run
greatest_amount_refused = refl

number_too_large : fault (lines (codes "stock 1 1 4294967296" ∷ [])) ≡ Some (Bad 1)
unfolding run
number_too_large = refl

moment_too_large : fault (lines (codes "deliver 4102444800" ∷ [])) ≡ Some (Bad 1)
unfolding run
moment_too_large = refl

empty_line : fault (lines ([] ∷ [])) ≡ Some (Bad 1)
unfolding run
empty_line = refl

refused_lines : output_of (lines (codes "stock 1 1 4294967295" ∷ codes "new-order 1 1 1 0" ∷ codes "payment 9 1 1 1 1 0.99 0" ∷ codes "status 1 1 0" ∷ []))
    ≡ (lines (codes "refused 9 Threshold" ∷ codes "refused 4 LineCount" ∷ codes "refused 1 NoWarehouse" ∷ codes "refused 3 NoCustomer" ∷ []), None)
unfolding run
refused_lines = refl

cut_after_check : output_of (lines (codes "check" ∷ []) ++ codes "x") ≡ (lines (codes "consistent" ∷ []), Some (Cut 2))
unfolding run
cut_after_check = refl

longest_line : fault (lines (replicate 4096 120 ∷ [])) ≡ Some (Bad 1)
unfolding run
longest_line = refl

longest_rest : fault (replicate 4096 120) ≡ Some (Cut 1)
unfolding run
longest_rest = refl

long_line : fault (replicate 4097 120) ≡ Some (LongLine 1)
unfolding run
long_line = refl

-- 1,000 lines that print nothing
many_lines : output_of (flat_map (λ line. line) (times 1000 (lines (codes "results" ∷ [])))) ≡ ([], None)
unfolding run
many_lines = refl

-- two payments, then the customer's balance, then a line that says nothing
several : output_of (lines (codes "payment 1 1 1 1 1 5000.00 0" ∷ codes "payment 1 1 1 1 1 5000.01 0" ∷ codes "stock 1 1 20" ∷ codes "deliver 0" ∷ codes "results 1" ∷ codes "check" ∷ []))
    ≡ (
      lines (codes "payment W_ID=1 D_ID=1 C_W_ID=1 C_D_ID=1 C_ID=1 H_AMOUNT=5000.00 H_DATE=1970-01-01T00:00:00"
          ∷ codes "warehouse MAINSTREET,SIDESTREET,CITYCENTRE,AB,000111111"
          ∷ codes "district MAINSTREET,SIDESTREET,CITYCENTRE,AB,000111111"
          ∷ codes "customer FIRST9998 OE BARBARBAR MAINSTREET,SIDESTREET,CITYCENTRE,AB,000111111 C_PHONE=0000000000000001 C_SINCE=1970-01-01T00:00:00 C_CREDIT=GC C_CREDIT_LIM=50000.00 C_DISCOUNT=0.0100 C_BALANCE=-5010.00"
          ∷ codes "refused 7 Amount"
          ∷ codes "stock-level W_ID=1 D_ID=1 threshold=20 low_stock=9"
          ∷ codes "no delivery queued" ∷ []),
      Some (Bad 5),
    )
unfolding run
several = refl

-- one district of a ticket, no results yet; nine more runs, and then the whole ticket
ticket : output_of (lines (codes "delivery 1 3 60" ∷ codes "deliver 120" ∷ codes "results" ∷ codes "check" ∷ (times 9 (codes "deliver 180") ++ codes "results" ∷ codes "check" ∷ [])))
    ≡ (
      lines (codes "delivery W_ID=1 O_CARRIER_ID=3 Delivery has been queued"
          ∷ codes "delivered W_ID=1 O_CARRIER_ID=3 queued=1970-01-01T00:01:00 at=1970-01-01T00:02:00" ∷ codes "district 1 O_ID=8"
          ∷ codes "consistent"
          ∷ codes "delivered W_ID=1 O_CARRIER_ID=3 queued=1970-01-01T00:01:00 at=1970-01-01T00:03:00" ∷ codes "district 2 O_ID=8"
          ∷ codes "delivered W_ID=1 O_CARRIER_ID=3 queued=1970-01-01T00:01:00 at=1970-01-01T00:03:00" ∷ codes "district 3 O_ID=8"
          ∷ codes "delivered W_ID=1 O_CARRIER_ID=3 queued=1970-01-01T00:01:00 at=1970-01-01T00:03:00" ∷ codes "district 4 O_ID=8"
          ∷ codes "delivered W_ID=1 O_CARRIER_ID=3 queued=1970-01-01T00:01:00 at=1970-01-01T00:03:00" ∷ codes "district 5 O_ID=8"
          ∷ codes "delivered W_ID=1 O_CARRIER_ID=3 queued=1970-01-01T00:01:00 at=1970-01-01T00:03:00" ∷ codes "district 6 O_ID=8"
          ∷ codes "delivered W_ID=1 O_CARRIER_ID=3 queued=1970-01-01T00:01:00 at=1970-01-01T00:03:00" ∷ codes "district 7 O_ID=8"
          ∷ codes "delivered W_ID=1 O_CARRIER_ID=3 queued=1970-01-01T00:01:00 at=1970-01-01T00:03:00" ∷ codes "district 8 O_ID=8"
          ∷ codes "delivered W_ID=1 O_CARRIER_ID=3 queued=1970-01-01T00:01:00 at=1970-01-01T00:03:00" ∷ codes "district 9 O_ID=8"
          ∷ codes "delivered W_ID=1 O_CARRIER_ID=3 queued=1970-01-01T00:01:00 at=1970-01-01T00:03:00" ∷ codes "district 10 O_ID=8"
          ∷ codes "delivered W_ID=1 O_CARRIER_ID=3 queued=1970-01-01T00:01:00 at=1970-01-01T00:03:00"
          ∷ codes "district 1 O_ID=8" ∷ codes "district 2 O_ID=8" ∷ codes "district 3 O_ID=8" ∷ codes "district 4 O_ID=8" ∷ codes "district 5 O_ID=8"
          ∷ codes "district 6 O_ID=8" ∷ codes "district 7 O_ID=8" ∷ codes "district 8 O_ID=8" ∷ codes "district 9 O_ID=8" ∷ codes "district 10 O_ID=8"
          ∷ codes "consistent" ∷ []),
      None,
    )
unfolding run
ticket = refl
