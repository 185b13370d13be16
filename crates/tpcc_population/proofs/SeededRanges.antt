-- The rows of the drawn opening refer to rows that there are, and are in their ranges, at every scale.
use Rattle.std.proofs.Common.{◌≡◌, ℕ, zero, suc, ◌+◌, ◌-◌, ◌*◌, ◌<◌, ◌≤◌, Bool, true, false, List, [], ◌∷◌, ◌++◌, length, take, drop, refl, length-append, length-take, length-drop, arith}
use Rattle.std.specs.Prelude.{ℤ, pos, unsigned_abs, IsTrue, ◌==◌, ◌&&◌, if◌then◌else◌, nat_le, codes, Option, slice_index}
use Rattle.std.specs.List.{list_all}
use Rattle.std.proofs.lemmas.List.Folds.{list_all-append}
use Rattle.rand_core.specs.Stream.{Stream}
use Rattle.tpcc_draws.specs.Draws.{stream_at, generator_of, between, nurand, a_string, n_string, permutation}
use Rattle.tpcc_rows.specs.LastName.{last_name}
use Rattle.tpcc_draws.specs.Internal.Within.{HasWords}
use Rattle.tpcc_draws.proofs.Draw.{answers_are_words, between_is_between}
use Rattle.tpcc_draws.proofs.Order.{permutation_is_within}
use Rattle.tpcc_draws.proofs.PrintableDraws.{a_text, n_text}
use Rattle.tpcc_rows.specs.declared.tables.rows.Address.{Address}
use Rattle.tpcc_rows.specs.Printable.{is_printable}
use Rattle.tpcc_rows.specs.Ranges.{is_amount_within, is_text, is_exact_text, is_null_or, is_carrier, is_address, greatest_moment, is_warehouse_row, is_district_row, is_customer_row, is_history_row, is_order_row, is_order_line_row, is_item_row, is_stock_row}
use Rattle.tpcc_rows.specs.Layout.{is_delivered}
use Rattle.tpcc_population.specs.Regular.{IsScale}
use Rattle.tpcc_population.specs.Internal.Regular.{RefersInside, HasRowsInRange}
use Rattle.tpcc_population.specs.Seeded.{Seeding, seeded_rules, drawn_zip, drawn_address, drawn_last, drawn_information, drawn_texts, drawn_carrier, drawn_amount, with_original, district_number, number_in_districts, line_number, stock_number, seeded_warehouse, seeded_district, seeded_customer, seeded_history, seeded_order, seeded_order_line, seeded_item, seeded_stock}
use Rattle.tpcc_population.proofs.Range.{within, amount_within, text_ok, exact_ok, last_name_ok}
use Rattle.tpcc_population.proofs.PlainRanges.{text_where, moment_where, new_order_ok}
use Rattle.tpcc_rows.specs.declared.limits.TheConstants.{GREATEST_WAREHOUSE, GREATEST_DISTRICT, GREATEST_CUSTOMER, GREATEST_ITEM, GREATEST_ORDER, GREATEST_CARRIER, GREATEST_TOTAL, GREATEST_LINE_AMOUNT, GREATEST_IMAGE}
use Rattle.tpcc_money.specs.declared.amounts.TheConstants.{GREATEST_PRICE}
use Rattle.tpcc_population.specs.declared.rules.TheConstants.{MOST_ORDER_LINES}
use Rattle.tpcc_draws.specs.declared.names.TheConstants.{LAST_NAMES}
use Rattle.tpcc_money.specs.declared.moment.TheConstants.Moment.{LAST_SECOND}

words_at : (seed table row : ℕ) → HasWords (stream_at seed table row)
words_at seed table row = answers_are_words (generator_of seed table row)

-- a text in its range, and a stream of words
record IsTextOf (longest : ℕ) (drawn : List ℕ × Stream) : Type 0 where
  text : is_text longest drawn.0 ≡ true
  words : HasWords drawn.1

short_text : (least most longest : ℕ) (s : Stream) → least ≤ most → most ≤ 1000 → most ≤ longest → HasWords s → IsTextOf longest (a_string least most s)
short_text least most longest s order small fits words =
    let t = a_text least most s order small words in
    record { text = text_ok longest (a_string least most s).0 t.all (omega (arith, t.no_longer)); words = t.words }

exact_text : (s : Stream) → HasWords s → is_exact_text 24 (a_string 24 24 s).0 ≡ true
exact_text s words =
    let t = a_text 24 24 s (omega arith) (omega arith) words in
    exact_ok 24 (a_string 24 24 s).0 t.all (omega (arith, t.no_shorter, t.no_longer))

-- ---- addresses

record IsAddressOf (drawn : Address × Stream) : Type 0 where
  address : is_address drawn.0 ≡ true
  words : HasWords drawn.1

zip_ok : (zip : List ℕ) → list_all is_printable zip ≡ true → length zip ≤ 4 → is_text 9 (zip ++ codes "11111") ≡ true
zip_ok zip all short =
    let rest : list_all is_printable (codes "11111") ≡ true = refl in
    text_ok 9 (zip ++ codes "11111") (grind (arith, rest, list_all-append is_printable zip (codes "11111"))) (omega (arith, length-append zip (codes "11111")))

address_is_drawn : (s : Stream) → HasWords s → IsAddressOf (drawn_address s)
unfolding drawn_address drawn_zip
address_is_drawn s words =
    let street_1 = short_text 10 20 20 s (omega arith) (omega arith) (omega arith) words in
    let street_2 = short_text 10 20 20 (a_string 10 20 s).1 (omega arith) (omega arith) (omega arith) street_1.words in
    let city = short_text 10 20 20 (a_string 10 20 (a_string 10 20 s).1).1 (omega arith) (omega arith) (omega arith) street_2.words in
    let state = short_text 2 2 2 (a_string 10 20 (a_string 10 20 (a_string 10 20 s).1).1).1 (omega arith) (omega arith) (omega arith) city.words in
    let last = (a_string 2 2 (a_string 10 20 (a_string 10 20 (a_string 10 20 s).1).1).1).1 in
    let zip = n_text 4 4 last (omega arith) (omega arith) state.words in
    let zip_text = zip_ok (n_string 4 4 last).0 zip.all zip.no_longer in
    record { address = λ i. street_1.text i && street_2.text i && city.text i && state.text i && zip_text i; words = zip.words }

-- ---- last names, texts with ORIGINAL, the ten texts of a STOCK row

last_words : (k : ℕ) (s : Stream) → HasWords s → (b : Bool) → IsTextOf 16 (if b then (last_name (k - 1), s) else (let n = nurand 255 100 0 (LAST_NAMES - 1) s in (last_name n.0, n.1)))
last_words k s words true = record { text = last_name_ok (k - 1); words = words }
last_words k s words false =
    let a = between_is_between 0 255 s (omega arith) (omega arith) words in
    let b = between_is_between 0 (LAST_NAMES - 1) (between 0 255 s).1 (omega arith) (omega arith) a.words in
    record { text = last_name_ok (nurand 255 100 0 (LAST_NAMES - 1) s).0; words = b.words }

last_is_drawn : (k : ℕ) (s : Stream) → HasWords s → IsTextOf 16 (drawn_last k s)
unfolding drawn_last
last_is_drawn k s words = last_words k s words (nat_le k LAST_NAMES)

all-take : (p : ℕ → Bool) (n : ℕ) (xs : List ℕ) → list_all p xs ≡ true → list_all p (take n xs) ≡ true
all-take p zero xs h = refl
all-take p (suc n) [] h = refl
all-take p (suc n) (x ∷ xs) h = grind (arith, all-take p n xs)

pub all-drop : (p : ℕ → Bool) (n : ℕ) (xs : List ℕ) → list_all p xs ≡ true → list_all p (drop n xs) ≡ true
all-drop p zero xs h = h
all-drop p (suc n) [] h = refl
all-drop p (suc n) (x ∷ xs) h = all-drop p n xs (grind (arith))

joined_ok : (a b : List ℕ) → list_all is_printable a ≡ true → list_all is_printable b ≡ true → length a + length b ≤ 42 → is_text 50 (a ++ codes "ORIGINAL" ++ b) ≡ true
joined_ok a b h k short =
    let word : list_all is_printable (codes "ORIGINAL") ≡ true = refl in
    text_ok 50 (a ++ codes "ORIGINAL" ++ b)
    (grind (arith, h, k, word, list_all-append is_printable (a ++ codes "ORIGINAL") b, list_all-append is_printable a (codes "ORIGINAL"), list_all-append is_printable a (codes "ORIGINAL" ++ b), list_all-append is_printable (codes "ORIGINAL") b))
    (omega (arith, length-append (a ++ codes "ORIGINAL") b, length-append a (codes "ORIGINAL"), length-append a (codes "ORIGINAL" ++ b), length-append (codes "ORIGINAL") b))

original_ok : (place : ℕ) (text : List ℕ) → list_all is_printable text ≡ true → length text ≤ 50 → place + 8 ≤ length text → is_text 50 (with_original place text) ≡ true
original_ok place text all short inside =
    joined_ok (take place text) (drop (place + 8) text) (all-take is_printable place text all) (all-drop is_printable (place + 8) text all)
    (omega (arith, length-take place text, length-drop (place + 8) text))

information_words : (text : List ℕ) (s : Stream) → list_all is_printable text ≡ true → 26 ≤ length text → length text ≤ 50 → HasWords s → (b : Bool) → IsTextOf 50 (if b then (let place = between 0 (length text - 8) s in (with_original place.0 text, place.1)) else (text, s))
information_words text s all long short words true =
    let place = between_is_between 0 (length text - 8) s (omega arith) (omega arith) words in
    record { text = original_ok (between 0 (length text - 8) s).0 text all short (omega (arith, place.most)); words = place.words }
information_words text s all long short words false = record { text = text_ok 50 text all short; words = words }

information_is_drawn : (s : Stream) → HasWords s → IsTextOf 50 (drawn_information s)
unfolding drawn_information
information_is_drawn s words =
    let text = a_text 26 50 s (omega arith) (omega arith) words in
    let tenth = between_is_between 1 10 (a_string 26 50 s).1 (omega arith) (omega arith) text.words in
    information_words (a_string 26 50 s).0 (between 1 10 (a_string 26 50 s).1).1 text.all text.no_shorter text.no_longer tenth.words ((between 1 10 (a_string 26 50 s).1).0 == 1)

record AreTexts (n : ℕ) (drawn : List (List ℕ) × Stream) : Type 0 where
  all : list_all (is_exact_text 24) drawn.0 ≡ true
  long : length drawn.0 ≡ n
  words : HasWords drawn.1

texts_are_drawn : (n : ℕ) (s : Stream) → HasWords s → AreTexts n (drawn_texts n s)
unfolding drawn_texts
texts_are_drawn zero s words = record { all = refl; long = refl; words = words }
texts_are_drawn (suc n) s words =
    let before = texts_are_drawn n s words in
    let next = exact_text (drawn_texts n s).1 before.words in
    let rest = a_text 24 24 (drawn_texts n s).1 (omega arith) (omega arith) before.words in
    record {
      all = grind (arith, before.all, next, list_all-append (is_exact_text 24) (drawn_texts n s).0 ((a_string 24 24 (drawn_texts n s).1).0 ∷ []));
      long = omega (arith, before.long, length-append (drawn_texts n s).0 ((a_string 24 24 (drawn_texts n s).1).0 ∷ []));
      words = rest.words;
    }

-- ---- carriers and amounts

record IsCarrierOf (drawn : Option ℕ × Stream) : Type 0 where
  carrier : is_null_or is_carrier drawn.0 ≡ true
  words : HasWords drawn.1

carrier_is_drawn : (delivered : Bool) (s : Stream) → HasWords s → IsCarrierOf (drawn_carrier delivered s)
unfolding drawn_carrier
carrier_is_drawn true s words =
    let n = between_is_between 1 GREATEST_CARRIER s (omega arith) (omega arith) words in
    record { carrier = within 1 GREATEST_CARRIER (between 1 GREATEST_CARRIER s).0 n.least n.most; words = n.words }
carrier_is_drawn false s words = record { carrier = refl; words = words }

record IsAmountOf (drawn : ℤ × Stream) : Type 0 where
  amount : is_amount_within (pos 0) GREATEST_LINE_AMOUNT drawn.0 ≡ true
  words : HasWords drawn.1

amount_is_drawn : (delivered : Bool) (s : Stream) → HasWords s → IsAmountOf (drawn_amount delivered s)
unfolding drawn_amount
amount_is_drawn true s words = record { amount = refl; words = words }
amount_is_drawn false s words =
    let n = between_is_between 1 (unsigned_abs GREATEST_LINE_AMOUNT) s (omega arith) (omega arith) words in
    record { amount = amount_within 0 (unsigned_abs GREATEST_LINE_AMOUNT) (between 1 (unsigned_abs GREATEST_LINE_AMOUNT) s).0 (omega arith) n.most; words = n.words }

-- ---- what orders and lines refer to

pub seeded_refers : (g : Seeding) → IsScale g.scale → RefersInside g.scale (seeded_rules g)
seeded_refers g n =
    let item = λ (w d o j : ℕ). between_is_between 1 g.scale.items (stream_at g.seed 6 (line_number g.scale w d o j)) (omega (arith, n.items_least)) (omega (arith, n.items_most)) (words_at g.seed 6 (line_number g.scale w d o j)) in
    record {
      customer_least = λ w d o a b. (permutation_is_within g.scale.customers (o - 1) (stream_at g.seed 11 (district_number w d)) (omega arith)).0;
      customer_most = λ w d o a b. (permutation_is_within g.scale.customers (o - 1) (stream_at g.seed 11 (district_number w d)) (omega arith)).1;
      item_least = λ w d o j. (item w d o j).least;
      item_most = λ w d o j. omega (arith, (item w d o j).most);
      supply = λ w d o j. refl;
    }

-- ---- rows

warehouse_ok : (g : Seeding) → IsScale g.scale → (w : ℕ) → 1 ≤ w → w < 1 + g.scale.warehouses → IsTrue (is_warehouse_row (seeded_warehouse g w))
unfolding is_warehouse_row
warehouse_ok g n w a b =
    let start = stream_at g.seed 1 w in
    let id = within 1 GREATEST_WAREHOUSE w a (omega (arith, n.warehouses_most)) in
    let name = short_text 6 10 10 start (omega arith) (omega arith) (omega arith) (words_at g.seed 1 w) in
    let address = address_is_drawn (a_string 6 10 start).1 name.words in
    let rate = between_is_between 0 2000 (drawn_address (a_string 6 10 start).1).1 (omega arith) (omega arith) address.words in
    let tax = within 0 9999 (between 0 2000 (drawn_address (a_string 6 10 start).1).1).0 (omega arith) (omega (arith, rate.most)) in
    let ytd = amount_within 0 (unsigned_abs GREATEST_TOTAL) (g.scale.customers * 10000) (omega arith) (omega (arith, n.customers_most)) in
    λ i. id i && name.text i && address.address i && tax i && ytd i

district_ok : (g : Seeding) → IsScale g.scale → (w d : ℕ) → 1 ≤ w → w < 1 + g.scale.warehouses → 1 ≤ d → d < 1 + GREATEST_DISTRICT → IsTrue (is_district_row (seeded_district g w d))
unfolding is_district_row
district_ok g n w d a b c e =
    let start = stream_at g.seed 2 (district_number w d) in
    let id = within 1 GREATEST_DISTRICT d c (omega arith) in
    let warehouse = within 1 GREATEST_WAREHOUSE w a (omega (arith, n.warehouses_most)) in
    let name = short_text 6 10 10 start (omega arith) (omega arith) (omega arith) (words_at g.seed 2 (district_number w d)) in
    let address = address_is_drawn (a_string 6 10 start).1 name.words in
    let rate = between_is_between 0 2000 (drawn_address (a_string 6 10 start).1).1 (omega arith) (omega arith) address.words in
    let tax = within 0 9999 (between 0 2000 (drawn_address (a_string 6 10 start).1).1).0 (omega arith) (omega (arith, rate.most)) in
    let ytd = amount_within 0 (unsigned_abs GREATEST_TOTAL) (g.scale.customers * 1000) (omega arith) (omega (arith, n.customers_most)) in
    let next = within 1 GREATEST_ORDER (g.scale.customers + 1) (omega arith) (omega (arith, n.customers_most)) in
    λ i. id i && warehouse i && name.text i && address.address i && tax i && ytd i && next i

customer_ok : (g : Seeding) → IsScale g.scale → g.moment ≤ greatest_moment → (w d k : ℕ) → 1 ≤ w → w < 1 + g.scale.warehouses → 1 ≤ d → d < 1 + GREATEST_DISTRICT → 1 ≤ k → k < 1 + g.scale.customers → IsTrue (is_customer_row (seeded_customer g w d k))
unfolding is_customer_row
customer_ok g n m w d k a b c e f h =
    let start = stream_at g.seed 3 (number_in_districts g.scale w d k) in
    let id = within 1 GREATEST_CUSTOMER k f (omega (arith, n.customers_most)) in
    let district = within 1 GREATEST_DISTRICT d c (omega arith) in
    let warehouse = within 1 GREATEST_WAREHOUSE w a (omega (arith, n.warehouses_most)) in
    let first = short_text 8 16 16 start (omega arith) (omega arith) (omega arith) (words_at g.seed 3 (number_in_districts g.scale w d k)) in
    let s_1 = (a_string 8 16 start).1 in
    let last = last_is_drawn k s_1 first.words in
    let s_2 = (drawn_last k s_1).1 in
    let address = address_is_drawn s_2 last.words in
    let s_3 = (drawn_address s_2).1 in
    let phone = n_text 16 16 s_3 (omega arith) (omega arith) address.words in
    let phone_text = text_ok 16 (n_string 16 16 s_3).0 phone.all phone.no_longer in
    let s_4 = (n_string 16 16 s_3).1 in
    let tenth = between_is_between 1 10 s_4 (omega arith) (omega arith) phone.words in
    let credit = text_where 2 ((between 1 10 s_4).0 == 1) (codes "BC") (codes "GC") refl refl in
    let s_5 = (between 1 10 s_4).1 in
    let rate = between_is_between 0 5000 s_5 (omega arith) (omega arith) tenth.words in
    let discount = within 0 9999 (between 0 5000 s_5).0 (omega arith) (omega (arith, rate.most)) in
    let information = short_text 300 500 500 (between 0 5000 s_5).1 (omega arith) (omega arith) (omega arith) rate.words in
    let since = within 0 LAST_SECOND g.moment (omega arith) m in
    λ i. id i && district i && warehouse i && first.text i && true && last.text i && address.address i && phone_text i && since i && credit i && true && discount i && true && true && true && true && information.text i

history_ok : (g : Seeding) → IsScale g.scale → g.moment ≤ greatest_moment → (w d k : ℕ) → 1 ≤ w → w < 1 + g.scale.warehouses → 1 ≤ d → d < 1 + GREATEST_DISTRICT → 1 ≤ k → k < 1 + g.scale.customers → IsTrue (is_history_row (seeded_history g w d k))
unfolding is_history_row
history_ok g n m w d k a b c e f h =
    let id = within 1 GREATEST_CUSTOMER k f (omega (arith, n.customers_most)) in
    let district = within 1 GREATEST_DISTRICT d c (omega arith) in
    let warehouse = within 1 GREATEST_WAREHOUSE w a (omega (arith, n.warehouses_most)) in
    let date = within 0 LAST_SECOND g.moment (omega arith) m in
    let information = short_text 12 24 24 (stream_at g.seed 4 (number_in_districts g.scale w d k)) (omega arith) (omega arith) (omega arith) (words_at g.seed 4 (number_in_districts g.scale w d k)) in
    λ i. id i && district i && warehouse i && district i && warehouse i && date i && true && information.text i

order_ok : (g : Seeding) → IsScale g.scale → g.moment ≤ greatest_moment → (w d o : ℕ) → 1 ≤ w → w < 1 + g.scale.warehouses → 1 ≤ d → d < 1 + GREATEST_DISTRICT → 1 ≤ o → o < 1 + g.scale.customers → IsTrue (is_order_row (seeded_order g w d o))
unfolding is_order_row
order_ok g n m w d o a b c e f h =
    let start = stream_at g.seed 5 (number_in_districts g.scale w d o) in
    let place = permutation_is_within g.scale.customers (o - 1) (stream_at g.seed 11 (district_number w d)) (omega arith) in
    let id = within 1 GREATEST_ORDER o f (omega (arith, n.customers_most)) in
    let district = within 1 GREATEST_DISTRICT d c (omega arith) in
    let warehouse = within 1 GREATEST_WAREHOUSE w a (omega (arith, n.warehouses_most)) in
    let customer = within 1 GREATEST_CUSTOMER (slice_index (permutation g.scale.customers (stream_at g.seed 11 (district_number w d))).0 (o - 1)) place.0 (omega (arith, place.1, n.customers_most)) in
    let date = within 0 LAST_SECOND g.moment (omega arith) m in
    let carrier = carrier_is_drawn (is_delivered g.scale o) start (words_at g.seed 5 (number_in_districts g.scale w d o)) in
    let count = between_is_between 5 MOST_ORDER_LINES (drawn_carrier (is_delivered g.scale o) start).1 (omega arith) (omega arith) carrier.words in
    let lines = within 5 MOST_ORDER_LINES (between 5 MOST_ORDER_LINES (drawn_carrier (is_delivered g.scale o) start).1).0 count.least count.most in
    λ i. id i && district i && warehouse i && customer i && date i && carrier.carrier i && lines i

order_line_ok : (g : Seeding) → IsScale g.scale → g.moment ≤ greatest_moment → (w d o j : ℕ) → 1 ≤ w → w < 1 + g.scale.warehouses → 1 ≤ d → d < 1 + GREATEST_DISTRICT → 1 ≤ o → o < 1 + g.scale.customers → 1 ≤ j → j < 1 + (seeded_order g w d o).line_count → IsTrue (is_order_line_row (seeded_order_line g w d o j))
unfolding is_order_line_row
order_line_ok g n m w d o j a b c e f h k l =
    let start = stream_at g.seed 5 (number_in_districts g.scale w d o) in
    let carrier = carrier_is_drawn (is_delivered g.scale o) start (words_at g.seed 5 (number_in_districts g.scale w d o)) in
    let count = between_is_between 5 MOST_ORDER_LINES (drawn_carrier (is_delivered g.scale o) start).1 (omega arith) (omega arith) carrier.words in
    let own = stream_at g.seed 6 (line_number g.scale w d o j) in
    let draw = between_is_between 1 g.scale.items own (omega (arith, n.items_least)) (omega (arith, n.items_most)) (words_at g.seed 6 (line_number g.scale w d o j)) in
    let order = within 1 GREATEST_ORDER o f (omega (arith, n.customers_most)) in
    let district = within 1 GREATEST_DISTRICT d c (omega arith) in
    let warehouse = within 1 GREATEST_WAREHOUSE w a (omega (arith, n.warehouses_most)) in
    let number = within 1 MOST_ORDER_LINES j k (omega (arith, count.most, l)) in
    let item = within 1 GREATEST_ITEM (between 1 g.scale.items own).0 draw.least (omega (arith, draw.most, n.items_most)) in
    let delivered = moment_where (is_delivered g.scale o) g.moment (within 0 LAST_SECOND g.moment (omega arith) m) in
    let amount = amount_is_drawn (is_delivered g.scale o) (between 1 g.scale.items own).1 draw.words in
    let information = exact_text (drawn_amount (is_delivered g.scale o) (between 1 g.scale.items own).1).1 amount.words in
    λ i. order i && district i && warehouse i && number i && item i && warehouse i && delivered i && true && amount.amount i && information i

item_ok : (g : Seeding) → IsScale g.scale → (n : ℕ) → 1 ≤ n → n < 1 + g.scale.items → IsTrue (is_item_row (seeded_item g n))
unfolding is_item_row
item_ok g h n a b =
    let start = stream_at g.seed 8 n in
    let id = within 1 GREATEST_ITEM n a (omega (arith, h.items_most)) in
    let picture = between_is_between 1 GREATEST_IMAGE start (omega arith) (omega arith) (words_at g.seed 8 n) in
    let image = within 1 GREATEST_IMAGE (between 1 GREATEST_IMAGE start).0 picture.least picture.most in
    let s_1 = (between 1 GREATEST_IMAGE start).1 in
    let name = short_text 14 24 24 s_1 (omega arith) (omega arith) (omega arith) picture.words in
    let s_2 = (a_string 14 24 s_1).1 in
    let cost = between_is_between 100 10000 s_2 (omega arith) (omega arith) name.words in
    let price = amount_within 1 (unsigned_abs GREATEST_PRICE) (between 100 10000 s_2).0 (omega (arith, cost.least)) (omega (arith, cost.most)) in
    let information = information_is_drawn (between 100 10000 s_2).1 cost.words in
    λ i. id i && image i && name.text i && price i && information.text i

stock_ok : (g : Seeding) → IsScale g.scale → (w n : ℕ) → 1 ≤ w → w < 1 + g.scale.warehouses → 1 ≤ n → n < 1 + g.scale.items → IsTrue (is_stock_row (seeded_stock g w n))
unfolding is_stock_row
stock_ok g h w n a b c e =
    let start = stream_at g.seed 9 (stock_number g.scale w n) in
    let item = within 1 GREATEST_ITEM n c (omega (arith, h.items_most)) in
    let warehouse = within 1 GREATEST_WAREHOUSE w a (omega (arith, h.warehouses_most)) in
    let amount = between_is_between 10 100 start (omega arith) (omega arith) (words_at g.seed 9 (stock_number g.scale w n)) in
    let quantity = within 10 100 (between 10 100 start).0 amount.least amount.most in
    let texts = texts_are_drawn 10 (between 10 100 start).1 amount.words in
    let ten : (length (drawn_texts 10 (between 10 100 start).1).0 == 10) ≡ true = λ i. texts.long i == 10 in
    let information = information_is_drawn (drawn_texts 10 (between 10 100 start).1).1 texts.words in
    λ i. item i && warehouse i && quantity i && ten i && texts.all i && true && true && true && information.text i

pub seeded_in_range : (g : Seeding) → IsScale g.scale → g.moment ≤ greatest_moment → HasRowsInRange g.scale (seeded_rules g)
seeded_in_range g n m =
    record {
      warehouse = warehouse_ok g n;
      district = district_ok g n;
      customer = customer_ok g n m;
      history = history_ok g n m;
      order = order_ok g n m;
      order_line = order_line_ok g n m;
      new_order = new_order_ok g.scale n;
      item = item_ok g n;
      stock = stock_ok g n;
    }
