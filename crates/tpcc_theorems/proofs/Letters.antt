-- The names of openings and of terminals are letters.
use Rattle.std.proofs.Common.{◌≡◌, ◌≤◌, ◌<◌, ◌+◌, ◌-◌, ◌/◌, ◌%◌, ℕ, Bool, true, false, zero, suc, List, [], ◌∷◌, ◌++◌, length, get_or, refl, length-append, min, arith}
use Rattle.std.specs.Prelude.{◌&&◌, nat_lt, nat_le, flat_map, if◌then◌else◌, bit_or}
use Rattle.std.specs.List.{list_all, range_with_len}
use Rattle.std.proofs.Math.Nat.{mod-lt}
use Rattle.std.proofs.lemmas.Bool.Decides.{nat_tests}
use Rattle.std.proofs.lemmas.Option.{unwrap_or-slice_get}
use Rattle.std.proofs.lemmas.List.Folds.{list_all-append}
use Rattle.rand_core.specs.Stream.{Stream}
use Rattle.tpcc_draws.specs.Draws.{a_string, between, nurand, stream_at}
use Rattle.tpcc_draws.specs.declared.cards.Card.{Card}
use Rattle.tpcc_draws.specs.declared.cards.Card.TheVariants as cards
use Rattle.tpcc_rows.specs.declared.tables.rows.CustomerRow.{CustomerRow}
use Rattle.tpcc_rows.specs.LastName.{syllable, syllables, last_name}
use Rattle.tpcc_rows.specs.Layout.{Scale, RowRules, laid_out, one_each}
use Rattle.tpcc_rows.specs.Opening.{plain_rows, plain_rules}
use Rattle.tpcc_population.specs.declared.opening.Opening.{Opening}
use Rattle.tpcc_population.specs.declared.opening.Opening.TheVariants.{Plain, Seeded}
use Rattle.tpcc_population.specs.Opening.{opening_rows, seeded_rows}
use Rattle.tpcc_population.specs.Seeded.{Seeding, drawn_last, number_in_districts, seeded_rules}
use Rattle.tpcc_terminal.specs.declared.home.Home.{Home}
use Rattle.tpcc_terminal.specs.declared.drafts.DrawnCustomer.{DrawnCustomer}
use Rattle.tpcc_terminal.specs.declared.drafts.DrawnCustomer.TheVariants as customers
use Rattle.tpcc_terminal.specs.Cards.{drawn_draft, drawn_customer, drawn_payment, drawn_status, payer, request_of, who_of}
use Rattle.tpcc_text.specs.Script.{is_capital, is_last_name}
use Rattle.tpcc_text.specs.Sayable.{has_letters, is_customer_by_letters}

-- ---- last names
-- one to five letters
abbrev is_syllable : List ℕ → Bool
is_syllable word = nat_lt 0 (length word) && (nat_le (length word) 5 && list_all is_capital word)

passes_at : {X : Type 0} (test : X → Bool) (xs : List X) (i : ℕ) (d : X) → list_all test xs ≡ true → i < length xs → test (get_or xs i d) ≡ true
passes_at test [] i d all inside = absurd (omega arith)
passes_at test (x ∷ xs) zero d all inside = grind (arith)
passes_at test (x ∷ xs) (suc i) d all inside = passes_at test xs i d (grind (arith)) (omega arith)

syllable_is_short : (digit : ℕ) → digit < 10 → is_syllable (syllable digit) ≡ true
syllable_is_short digit small = rw (unwrap_or-slice_get syllables digit []) (passes_at is_syllable syllables digit [] refl small)

record IsSyllable (word : List ℕ) : Type 0 where
  all : list_all is_capital word ≡ true
  some : 0 < length word
  few : length word ≤ 5

syllable_tells : (word : List ℕ) → is_syllable word ≡ true → IsSyllable word
syllable_tells word h = record { all = grind (arith, nat_tests); some = grind (arith, nat_tests); few = grind (arith, nat_tests) }

letters_are_name : (word : List ℕ) → list_all is_capital word ≡ true → 0 < length word → length word ≤ 16 → is_last_name word ≡ true
letters_are_name word all some few = grind (arith, nat_tests)

three_syllables : (a b c : List ℕ) → IsSyllable a → IsSyllable b → IsSyllable c → is_last_name (a ++ b ++ c) ≡ true
three_syllables a b c first second third =
    let two = length-append a b in
    let three = length-append (a ++ b) c in
    letters_are_name (a ++ b ++ c)
    (grind (arith, first.all, second.all, third.all, list_all-append is_capital (a ++ b) c, list_all-append is_capital a b))
    (omega (arith, first.some, two, three))
    (omega (arith, first.few, second.few, third.few, two, three))

-- the names of the numbers below 1,000
last_name_is_letters : (n : ℕ) → n ≤ 999 → is_last_name (last_name n) ≡ true
last_name_is_letters n small =
    three_syllables (syllable (n / 100)) (syllable (n / 10 % 10)) (syllable (n % 10))
    (syllable_tells (syllable (n / 100)) (syllable_is_short (n / 100) (omega arith)))
    (syllable_tells (syllable (n / 10 % 10)) (syllable_is_short (n / 10 % 10) (omega arith)))
    (syllable_tells (syllable (n % 10)) (syllable_is_short (n % 10) (omega arith)))

passes_each : {X A : Type 0} (test : A → Bool) (rows : X → List A) → ((x : X) → list_all test (rows x) ≡ true) → (xs : List X) → list_all test (flat_map rows xs) ≡ true
passes_each test rows each [] = refl
passes_each test rows each (x ∷ xs) = grind (arith, each x, passes_each test rows each xs, list_all-append test (rows x) (flat_map rows xs))

-- ---- draws

nurand_is_below : (reach constant high : ℕ) (s : Stream) → high ≤ 999 → (nurand reach constant 0 high s).0 ≤ 999
nurand_is_below reach constant high s small =
    let a = between 0 reach s in
    let b = between 0 high a.1 in
    let below = mod-lt (bit_or a.0 b.0 + constant) {m = high - 0 + 1} (omega arith) in
    omega (arith, below)

one_of : (b : Bool) (n k : ℕ) (s t : Stream) → n ≤ 999
    → is_customer_by_letters (who_of (if◌then◌else◌ {A = DrawnCustomer × Stream} b (customers.Name n, s) (customers.Number k, t)).0) ≡ true
one_of true n k s t small = last_name_is_letters n small
one_of false n k s t small = refl

customer_by_letters : (home : Home) (s : Stream) → is_customer_by_letters (who_of (drawn_customer home s).0) ≡ true
unfolding drawn_customer
customer_by_letters home s =
    let percent = between 1 100 s in
    let n = nurand 255 187 0 (min home.scale.customers 1000 - 1) percent.1 in
    let k = nurand 1023 259 1 home.scale.customers percent.1 in
    one_of (nat_le percent.0 60) n.0 k.0 n.1 k.1 (nurand_is_below 255 187 (min home.scale.customers 1000 - 1) percent.1 (omega arith))

pub drawn_by_letters : (home : Home) (moment : ℕ) (card : Card) (s : Stream) → has_letters (request_of home moment (drawn_draft home card s).0) ≡ true
unfolding drawn_draft drawn_payment drawn_status
drawn_by_letters home moment cards.NewOrder s = refl
drawn_by_letters home moment cards.Payment s =
    let district = between 1 10 s in
    let from = payer home district.0 district.1 in
    customer_by_letters home from.1
drawn_by_letters home moment cards.OrderStatus s =
    let district = between 1 10 s in
    customer_by_letters home district.1
drawn_by_letters home moment cards.Delivery s = refl
drawn_by_letters home moment cards.StockLevel s = refl

-- ---- openings

one_passes : (c : CustomerRow) → is_last_name c.last ≡ true → list_all (λ c. is_last_name c.last) (c ∷ []) ≡ true
one_passes c h = grind (arith)

customers_by_letters : (s : Scale) (r : RowRules) → ((w d k : ℕ) → is_last_name (r.customer w d k).last ≡ true)
    → list_all (λ c. is_last_name c.last) (laid_out s r).customers ≡ true
customers_by_letters s r each =
    passes_each (λ c. is_last_name c.last) (λ w. flat_map (λ d. one_each 1 s.customers (r.customer w d)) (range_with_len 1 10))
    (λ w. passes_each (λ c. is_last_name c.last) (λ d. one_each 1 s.customers (r.customer w d))
    (λ d. passes_each (λ c. is_last_name c.last) (λ k. r.customer w d k ∷ []) (λ k. one_passes (r.customer w d k) (each w d k)) (range_with_len 1 s.customers))
    (range_with_len 1 10))
    (range_with_len 1 s.warehouses)

last_of : (b : Bool) (k : ℕ) (s : Stream) → nat_le k 1000 ≡ b
    → is_last_name (if◌then◌else◌ {A = List ℕ × Stream} b (last_name (k - 1), s) (let n = nurand 255 100 0 999 s in (last_name n.0, n.1))).0 ≡ true
last_of true k s test = (let few : k ≤ 1000 = grind (arith, nat_tests) in last_name_is_letters (k - 1) (omega (arith, few)))
last_of false k s test = last_name_is_letters (nurand 255 100 0 999 s).0 (nurand_is_below 255 100 999 s (omega arith))

last_by_letters : (k : ℕ) (s : Stream) → is_last_name (drawn_last k s).0 ≡ true
unfolding drawn_last
last_by_letters k s = last_of (nat_le k 1000) k s refl

pub opening_by_letters : (opening : Opening) → list_all (λ c. is_last_name c.last) (opening_rows opening).customers ≡ true
unfolding plain_rows seeded_rows
opening_by_letters (Plain scale) =
    customers_by_letters scale (plain_rules scale) (λ w d k. last_name_is_letters ((k - 1) % 3) (omega arith))
opening_by_letters (Seeded scale seed moment) =
    let g : Seeding = record { scale = scale; seed = seed; moment = moment } in
    customers_by_letters scale (seeded_rules g)
    (λ w d k. last_by_letters k (a_string 8 16 (stream_at seed 3 (number_in_districts scale w d k))).1)
