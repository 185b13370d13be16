-- The words of a request: each is one word, and is read as what it was written from.
use Rattle.std.proofs.Common.{◌≡◌, refl, ap, ◌∙◌, ℕ, ◌+◌, ◌≤◌, ◌<◌, ◌^◌, ◌/◌, ◌%◌, Bool, true, false, List, [], ◌∷◌, ◌++◌, length, length-append, Some, arith}
use Rattle.std.specs.Prelude.{nat_le, nat_lt, ◌==◌, ◌&&◌, not, decimal, ℤ, pos, negsuc, option_map}
use Rattle.std.specs.List.{list_all}
use Rattle.std.specs.Result.{result_ok}
use Rattle.std.proofs.lemmas.Fmt.{length-decimal-le}
use Rattle.std.proofs.lemmas.List.Folds.{list_all-append}
use Rattle.std.proofs.lemmas.Bool.Decides.{nat_tests}
use Rattle.tpcc_money.specs.Numerals.{is_digit}
use Rattle.tpcc_money.specs.Texts.{amount_text}
use Rattle.tpcc_rows.specs.declared.transactions.requests.Who.{Who}
use Rattle.tpcc_rows.specs.declared.transactions.requests.Who.TheVariants.{Number, Name}
use Rattle.tpcc_rows.specs.declared.transactions.requests.Line.{Line}
use Rattle.tpcc_rows.proofs.Booleans.{split, both_true}
use Rattle.tpcc_laws.proofs.List.{list_all-mono}
use Rattle.tpcc_text.specs.RequestLines.{customer_word, order_line_word}
use Rattle.tpcc_text.specs.Script.{is_capital, is_last_name, number_of, moment_of, cents_of, customer_of, order_line_of, order_line_of_parts, parts_of}
use Rattle.tpcc_text.specs.Sayable.{is_number, is_moment, is_amount, is_customer_word, is_order_line}
use Rattle.tpcc_text.proofs.NumeralLaws.{Spells, decimal_spells, all_digits, number_is_read, padded_two, amount_is_read}
use Rattle.tpcc_text.proofs.PartLaws.{is_free_of, is_word, is_brief, part_before, last_part}
use Rattle.tpcc_money.specs.declared.moment.TheConstants.Moment.{LAST_SECOND}

pub bound : (most n : ℕ) → nat_le n most ≡ true → n ≤ most
bound most n h = grind (arith, nat_tests)

digit_high : (b : ℕ) → is_digit b ≡ true → nat_lt 32 b ≡ true
digit_high b h = grind (arith, nat_tests)

digit_no_colon : (b : ℕ) → is_digit b ≡ true → not (b == 58) ≡ true
digit_no_colon b h = grind (arith, nat_tests)

capital_high : (b : ℕ) → is_capital b ≡ true → nat_lt 32 b ≡ true
capital_high b h = grind (arith, nat_tests)

digit_no_capital : (b : ℕ) → is_digit b ≡ true → is_capital b ≡ false
digit_no_capital b h = grind (arith, nat_tests)

pub decimal_word : (n : ℕ) → n < 2 ^ 64 → is_word (decimal n) ≡ true
decimal_word n h = list_all-mono is_digit (λ b. nat_lt 32 b) digit_high (decimal n) (all_digits n h)

decimal_no_colon : (n : ℕ) → n < 2 ^ 64 → is_free_of 58 (decimal n) ≡ true
decimal_no_colon n h = list_all-mono is_digit (λ b. not (b == 58)) digit_no_colon (decimal n) (all_digits n h)

number_small : (n : ℕ) → is_number n ≡ true → n < 2 ^ 64
number_small n h = let b = bound 4294967295 n h in omega (arith, b)

pub number_word : (n : ℕ) → is_number n ≡ true → is_word (decimal n) ≡ true
number_word n h = decimal_word n (number_small n h)

pub number_read : (n : ℕ) → is_number n ≡ true → number_of (decimal n) ≡ Some n
number_read n h = number_is_read 4294967295 n (bound 4294967295 n h) (number_small n h)

pub moment_word : (n : ℕ) → is_moment n ≡ true → is_word (decimal n) ≡ true
moment_word n h = let b = bound LAST_SECOND n h in decimal_word n (omega (arith, b))

pub moment_read : (n : ℕ) → is_moment n ≡ true → moment_of (decimal n) ≡ Some n
moment_read n h = let b = bound LAST_SECOND n h in number_is_read LAST_SECOND n b (omega (arith, b))

and_false : (a : Bool) → (a && false) ≡ false
and_false true = refl
and_false false = refl

no_name : (ds : List ℕ) (n : ℕ) → Spells n ds → is_last_name ds ≡ false
no_name ds n s =
    ap is_last_name s.whole
    ∙ rw (digit_no_capital s.first s.lead) (ap (λ z. nat_lt 0 (length (s.first ∷ s.rest)) && z) (and_false (nat_le (length (s.first ∷ s.rest)) 16)) ∙ and_false (nat_lt 0 (length (s.first ∷ s.rest))))

pub who_word : (who : Who) → is_customer_word who ≡ true → is_word (customer_word who) ≡ true
who_word (Number n) h = number_word n h
who_word (Name last) h = let s = split _ _ h in list_all-mono is_capital (λ b. nat_lt 32 b) capital_high last (split _ _ s.1).1

pub who_read : (who : Who) → is_customer_word who ≡ true → customer_of (customer_word who) ≡ Some who
who_read (Number n) h = rw (no_name (decimal n) n (decimal_spells n (number_small n h))) (ap (option_map Number) (number_read n h))
who_read (Name last) h = rw h refl

high : (k : ℕ) → nat_lt 32 (48 + k) ≡ true
high k = grind (arith, nat_tests)

pub amount_word : (a : ℤ) → is_amount a ≡ true → is_word (amount_text a) ≡ true
amount_word (pos n) h =
    let b = bound 999999999999 n h in
    ap (λ z. is_word (decimal (n / 100) ++ 46 ∷ z)) (padded_two (n % 100) (omega arith))
    ∙ list_all-append (λ byte. nat_lt 32 byte) (decimal (n / 100)) (46 ∷ (48 + n % 100 / 10) ∷ (48 + n % 100 % 10) ∷ [])
    ∙ both_true (is_word (decimal (n / 100))) _ (decimal_word (n / 100) (omega (arith, b)))
    (both_true (nat_lt 32 (48 + n % 100 / 10)) _ (high (n % 100 / 10)) (both_true (nat_lt 32 (48 + n % 100 % 10)) true (high (n % 100 % 10)) refl))
amount_word (negsuc n) h = cc

pub amount_read : (a : ℤ) → is_amount a ≡ true → cents_of (amount_text a) ≡ Some a
amount_read (pos n) h = ap result_ok (amount_is_read n (bound 999999999999 n h))
amount_read (negsuc n) h = cc

pub line_word : (l : Line) → is_order_line l ≡ true → is_word (order_line_word l) ≡ true
line_word l h =
    let a = split _ _ h in
    let b = split _ _ a.1 in
    list_all-append (λ byte. nat_lt 32 byte) (decimal l.item) (58 ∷ (decimal l.supply ++ 58 ∷ decimal l.quantity))
    ∙ both_true (is_word (decimal l.item)) _ (number_word l.item a.0)
    (list_all-append (λ byte. nat_lt 32 byte) (decimal l.supply) (58 ∷ decimal l.quantity)
    ∙ both_true (is_word (decimal l.supply)) _ (number_word l.supply b.0) (number_word l.quantity b.1))

pub line_read : (l : Line) → is_order_line l ≡ true → order_line_of (order_line_word l) ≡ Some l
line_read l h =
    let a = split _ _ h in
    let b = split _ _ a.1 in
    let apart : parts_of 58 (order_line_word l) ≡ decimal l.item ∷ decimal l.supply ∷ decimal l.quantity ∷ [] =
    part_before 58 (decimal l.item) (decimal l.supply ++ 58 ∷ decimal l.quantity) (decimal_no_colon l.item (number_small l.item a.0))
    ∙ ap (λ z. decimal l.item ∷ z) (part_before 58 (decimal l.supply) (decimal l.quantity) (decimal_no_colon l.supply (number_small l.supply b.0))
    ∙ ap (λ z. decimal l.supply ∷ z) (last_part 58 (decimal l.quantity) (decimal_no_colon l.quantity (number_small l.quantity b.1)))) in
    ap order_line_of_parts apart ∙ rw (number_read l.item a.0) (rw (number_read l.supply b.0) (rw (number_read l.quantity b.1) refl))

-- lengths
brief : (word : List ℕ) → length word ≤ 32 → is_brief word ≡ true
brief word h = grind (arith, nat_tests)

number_length : (n : ℕ) → is_number n ≡ true → length (decimal n) ≤ 10
number_length n h = let b = bound 4294967295 n h in length-decimal-le 10 n (omega arith) (omega (arith, b)) (omega (arith, b))

pub number_brief : (n : ℕ) → is_number n ≡ true → is_brief (decimal n) ≡ true
number_brief n h = brief (decimal n) (omega (arith, number_length n h))

pub moment_brief : (n : ℕ) → is_moment n ≡ true → is_brief (decimal n) ≡ true
moment_brief n h = let b = bound LAST_SECOND n h in number_brief n (grind (arith, nat_tests))

pub who_brief : (who : Who) → is_customer_word who ≡ true → is_brief (customer_word who) ≡ true
who_brief (Number n) h = number_brief n h
who_brief (Name last) h =
    let s = split (nat_lt 0 (length last)) (nat_le (length last) 16 && list_all is_capital last) h in
    let t = split (nat_le (length last) 16) (list_all is_capital last) s.1 in
    brief last (omega (arith, bound 16 (length last) t.0))

pub amount_brief : (a : ℤ) → is_amount a ≡ true → is_brief (amount_text a) ≡ true
amount_brief (pos n) h =
    let b = bound 999999999999 n h in
    let l = length-decimal-le 10 (n / 100) (omega arith) (omega (arith, b)) (omega (arith, b)) in
    ap (λ z. is_brief (decimal (n / 100) ++ 46 ∷ z)) (padded_two (n % 100) (omega arith))
    ∙ brief (decimal (n / 100) ++ 46 ∷ (48 + n % 100 / 10) ∷ (48 + n % 100 % 10) ∷ []) (omega (arith, l, length-append (decimal (n / 100)) (46 ∷ (48 + n % 100 / 10) ∷ (48 + n % 100 % 10) ∷ [])))
amount_brief (negsuc n) h = cc

pub line_brief : (l : Line) → is_order_line l ≡ true → is_brief (order_line_word l) ≡ true
line_brief l h =
    let a = split (is_number l.item) (is_number l.supply && is_number l.quantity) h in
    let b = split (is_number l.supply) (is_number l.quantity) a.1 in
    brief (order_line_word l) (omega (
      arith,
      number_length l.item a.0,
      number_length l.supply b.0,
      number_length l.quantity b.1,
      length-append (decimal l.item) (58 ∷ (decimal l.supply ++ 58 ∷ decimal l.quantity)),
      length-append (decimal l.supply) (58 ∷ decimal l.quantity),
    ))
