-- What a script says: lines of words, one space between words, each line ended by one line feed.
use Rattle.tpcc_money.specs.declared.moment.TheConstants.Moment.{LAST_SECOND}
use Rattle.std.specs.Prelude.{ℕ, ◌+◌, List, [], ◌∷◌, length, Bool, ◌&&◌, nat_le, nat_lt, ◌==◌, if◌then◌else◌, Option, Some, None, option_map, ℤ, codes}
use Rattle.std.specs.List.{list_all}
use Rattle.std.specs.Result.{result_ok}
use Rattle.std.specs.Str.{bytes_eq}
use Rattle.tpcc_money.specs.Numerals.{number_up_to, amount_of}
use Rattle.tpcc_rows.specs.declared.transactions.requests.Who.{Who}
use Rattle.tpcc_rows.specs.declared.transactions.requests.Who.TheVariants.{Number, Name}
use Rattle.tpcc_rows.specs.declared.transactions.requests.Line.{Line}
use Rattle.tpcc_rows.specs.declared.transactions.requests.Request.{Request}
use Rattle.tpcc_rows.specs.declared.transactions.requests.Request.TheVariants as ask
use Rattle.tpcc_text.specs.declared.script.call.Call.{Call}
use Rattle.tpcc_text.specs.declared.script.call.Call.TheVariants.{Ask, Check, Results}
use Rattle.tpcc_text.specs.declared.script.fault.ScriptFault.{ScriptFault}
use Rattle.tpcc_text.specs.declared.script.fault.ScriptFault.TheVariants.{Bad, Cut, LongLine, TooManyLines}
use Rattle.tpcc_text.specs.declared.script.limits.TheConstants.{LONGEST_LINE, MOST_LINES}

infixl 10 ◌>>=◌
abbrev pub ◌>>=◌ : {A B : Type 0} → Option A → (A → Option B) → Option B
None >>= f = None
(Some x) >>= f = f x

-- a byte put before the first of several parts
abbrev pub with_byte : ℕ → List (List ℕ) → List (List ℕ)
with_byte byte [] = (byte ∷ []) ∷ []
with_byte byte (part ∷ parts) = (byte ∷ part) ∷ parts

-- the parts between the bytes that divide them, one more than there are such bytes
abbrev pub parts_of : ℕ → List ℕ → List (List ℕ)
parts_of divider [] = [] ∷ []
parts_of divider (byte ∷ bytes) = if byte == divider then [] ∷ parts_of divider bytes else with_byte byte (parts_of divider bytes)

-- words
abbrev pub number_of : List ℕ → Option ℕ
number_of word = number_up_to 4294967295 word

abbrev pub moment_of : List ℕ → Option ℕ
moment_of word = number_up_to LAST_SECOND word

abbrev pub cents_of : List ℕ → Option ℤ
cents_of word = result_ok (amount_of word)

-- 1 to 16 letters A to Z
abbrev pub is_capital : ℕ → Bool
is_capital byte = nat_le 65 byte && nat_le byte 90

abbrev pub is_last_name : List ℕ → Bool
is_last_name word = nat_lt 0 (length word) && (nat_le (length word) 16 && list_all is_capital word)

abbrev pub customer_of : List ℕ → Option Who
customer_of word = if is_last_name word then Some (Name word) else option_map Number (number_of word)

-- ITEM:SUPPLY:QUANTITY
abbrev pub order_line_of_parts : List (List ℕ) → Option Line
order_line_of_parts (item ∷ supply ∷ quantity ∷ []) = do
  i ← number_of item
  s ← number_of supply
  q ← number_of quantity
  Some (record { item = i; supply = s; quantity = q })
order_line_of_parts other = None

abbrev pub order_line_of : List ℕ → Option Line
order_line_of word = order_line_of_parts (parts_of 58 word)

abbrev pub order_lines_of : List (List ℕ) → Option (List Line)
order_lines_of [] = Some []
order_lines_of (word ∷ words) = do
  line ← order_line_of word
  lines ← order_lines_of words
  Some (line ∷ lines)

-- the words behind the first one
unfoldable pub order_of : List (List ℕ) → Option Request
order_of (w ∷ d ∷ c ∷ at ∷ words) = do
  warehouse ← number_of w
  district ← number_of d
  customer ← number_of c
  moment ← moment_of at
  lines ← order_lines_of words
  Some (ask.NewOrder (record { warehouse = warehouse; district = district; customer = customer; moment = moment; lines = lines }))
order_of other = None

unfoldable pub payment_of : List (List ℕ) → Option Request
payment_of (w ∷ d ∷ c_w ∷ c_d ∷ c ∷ h ∷ at ∷ []) = do
  warehouse ← number_of w
  district ← number_of d
  customer_warehouse ← number_of c_w
  customer_district ← number_of c_d
  who ← customer_of c
  amount ← cents_of h
  moment ← moment_of at
  Some (ask.Payment (record { warehouse = warehouse; district = district; customer_warehouse = customer_warehouse; customer_district = customer_district; who = who; amount = amount; moment = moment }))
payment_of other = None

unfoldable pub status_of : List (List ℕ) → Option Request
status_of (w ∷ d ∷ c ∷ []) = do
  warehouse ← number_of w
  district ← number_of d
  who ← customer_of c
  Some (ask.Status (record { warehouse = warehouse; district = district; who = who }))
status_of other = None

unfoldable pub stock_of : List (List ℕ) → Option Request
stock_of (w ∷ d ∷ t ∷ []) = do
  warehouse ← number_of w
  district ← number_of d
  threshold ← number_of t
  Some (ask.Stock (record { warehouse = warehouse; district = district; threshold = threshold }))
stock_of other = None

unfoldable pub delivery_of : List (List ℕ) → Option Request
delivery_of (w ∷ c ∷ at ∷ []) = do
  warehouse ← number_of w
  carrier ← number_of c
  queued ← moment_of at
  Some (ask.Delivery (record { warehouse = warehouse; carrier = carrier; queued = queued }))
delivery_of other = None

unfoldable pub deliver_of : List (List ℕ) → Option Request
deliver_of (at ∷ []) = option_map (λ moment. ask.Deliver moment) (moment_of at)
deliver_of other = None

-- a call that has no words behind its name
abbrev pub call_alone : Call → List (List ℕ) → Option Call
call_alone call [] = Some call
call_alone call (word ∷ words) = None

-- what the words behind a name say, of a delivery or a call
unfoldable pub later_named : List ℕ → List (List ℕ) → Option Call
later_named name words =
    if bytes_eq name (codes "delivery") then option_map Ask (delivery_of words)
    else if bytes_eq name (codes "deliver") then option_map Ask (deliver_of words)
    else if bytes_eq name (codes "check") then call_alone Check words
    else if bytes_eq name (codes "results") then call_alone Results words
    else None

-- what the words behind a name say
unfoldable pub call_named : List ℕ → List (List ℕ) → Option Call
call_named name words =
    if bytes_eq name (codes "new-order") then option_map Ask (order_of words)
    else if bytes_eq name (codes "payment") then option_map Ask (payment_of words)
    else if bytes_eq name (codes "status") then option_map Ask (status_of words)
    else if bytes_eq name (codes "stock") then option_map Ask (stock_of words)
    else later_named name words

abbrev pub call_of_words : List (List ℕ) → Option Call
call_of_words [] = None
call_of_words (name ∷ words) = call_named name words

-- the request or call that a line says; any other line is bad
unfoldable pub call_of : List ℕ → Option Call
call_of line = call_of_words (parts_of 32 line)

-- the calls of a script's lines up to its first fault, if it has one
pub record Script : Type 0 where
  pub calls : List Call
  pub fault : Option ScriptFault

abbrev pub ends : Script
ends = record { calls = []; fault = None }

abbrev pub fails : ScriptFault → Script
fails fault = record { calls = []; fault = Some fault }

-- one more call before those of a script
abbrev pub with_call : Call → Script → Script
with_call call script = record { calls = call ∷ script.calls; fault = script.fault }

-- what stands behind the last line feed
abbrev pub rest_says : ℕ → List ℕ → Script
rest_says number [] = ends
rest_says number (byte ∷ bytes) =
    if nat_lt MOST_LINES number then fails TooManyLines
    else if nat_lt LONGEST_LINE (length (byte ∷ bytes)) then fails (LongLine number)
    else fails (Cut number)

-- a line's call before those of the lines behind it
abbrev pub then_says : ℕ → Option Call → Script → Script
then_says number None script = fails (Bad number)
then_says number (Some call) script = with_call call script

-- what the lines from a number on say, given the parts between line feeds
abbrev pub lines_say : ℕ → List (List ℕ) → Script
lines_say number [] = ends
lines_say number (rest ∷ []) = rest_says number rest
lines_say number (line ∷ next ∷ parts) =
    if nat_lt MOST_LINES number then fails TooManyLines
    else if nat_lt LONGEST_LINE (length line) then fails (LongLine number)
    else then_says number (call_of line) (lines_say (number + 1) (next ∷ parts))

-- what a script says
unfoldable pub script_of : List ℕ → Script
script_of bytes = lines_say 1 (parts_of 10 bytes)
