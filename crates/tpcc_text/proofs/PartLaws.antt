-- Lines and words, taken apart where they were put together.
use Rattle.std.proofs.Common.{◌≡◌, refl, ap, sym, ◌∙◌, ℕ, ◌+◌, ◌*◌, ◌≤◌, Bool, true, false, List, [], ◌∷◌, ◌++◌, append_assoc, length, length-append, arith}
use Rattle.std.specs.Prelude.{nat_le, nat_lt, ◌==◌, not}
use Rattle.std.specs.List.{list_all}
use Rattle.std.proofs.lemmas.List.Folds.{list_all-append}
use Rattle.std.proofs.lemmas.Bool.Decides.{nat_tests}
use Rattle.tpcc_rows.proofs.Booleans.{split, both_true}
use Rattle.tpcc_text.specs.Screens.{line}
use Rattle.tpcc_text.specs.Script.{parts_of, with_byte}

-- no byte is the divider
abbrev pub is_free_of : ℕ → List ℕ → Bool
is_free_of divider = list_all (λ byte. not (byte == divider))

-- one word: each byte is above the space
abbrev pub is_word : List ℕ → Bool
is_word = list_all (λ byte. nat_lt 32 byte)

pub word_free : (divider : ℕ) (word : List ℕ) → nat_lt 32 divider ≡ false → is_word word ≡ true → is_free_of divider word ≡ true
word_free divider [] low e = refl
word_free divider (byte ∷ word) low e =
    let s = split (nat_lt 32 byte) (is_word word) e in
    both_true (not (byte == divider)) (is_free_of divider word) (grind (arith, nat_tests)) (word_free divider word low s.1)

self_equal : (n : ℕ) → (n == n) ≡ true
self_equal n = grind (arith, nat_tests)

differs : (b : Bool) → not b ≡ true → b ≡ false
differs false e = refl
differs true e = sym e

pub part_before : (divider : ℕ) (part rest : List ℕ) → is_free_of divider part ≡ true → parts_of divider (part ++ divider ∷ rest) ≡ part ∷ parts_of divider rest
part_before divider [] rest free = rw (self_equal divider) refl
part_before divider (byte ∷ part) rest free =
    let s = split (not (byte == divider)) (is_free_of divider part) free in
    rw (differs (byte == divider) s.0) (ap (with_byte byte) (part_before divider part rest s.1))

pub last_part : (divider : ℕ) (part : List ℕ) → is_free_of divider part ≡ true → parts_of divider part ≡ part ∷ []
last_part divider [] free = refl
last_part divider (byte ∷ part) free =
    let s = split (not (byte == divider)) (is_free_of divider part) free in
    rw (differs (byte == divider) s.0) (ap (with_byte byte) (last_part divider part s.1))

-- a line without its line feed
abbrev pub words : List ℕ → List (List ℕ) → List ℕ
words word [] = word
words word (next ∷ more) = word ++ 32 ∷ words next more

pub line_is : (word : List ℕ) (more : List (List ℕ)) → line word more ≡ words word more ++ 10 ∷ []
line_is word [] = refl
line_is word (next ∷ more) = ap (λ z. word ++ 32 ∷ z) (line_is next more) ∙ sym (append_assoc word (32 ∷ words next more) (10 ∷ []))

pub words_free : (divider : ℕ) (more : List (List ℕ)) → nat_lt 32 divider ≡ false → list_all is_word more ≡ true → list_all (is_free_of divider) more ≡ true
words_free divider [] low e = refl
words_free divider (word ∷ more) low e =
    let s = split (is_word word) (list_all is_word more) e in
    both_true (is_free_of divider word) (list_all (is_free_of divider) more) (word_free divider word low s.0) (words_free divider more low s.1)

-- a line has no line feed but its last byte
pub line_free : (word : List ℕ) (more : List (List ℕ)) → is_word word ≡ true → list_all is_word more ≡ true → is_free_of 10 (words word more) ≡ true
line_free word [] e all = word_free 10 word refl e
line_free word (next ∷ more) e all =
    let s = split (is_word next) (list_all is_word more) all in
    list_all-append (λ byte. not (byte == 10)) word (32 ∷ words next more)
    ∙ both_true (is_free_of 10 word) (is_free_of 10 (32 ∷ words next more)) (word_free 10 word refl e) (line_free next more s.0 s.1)

pub words_apart : (word : List ℕ) (more : List (List ℕ)) → is_free_of 32 word ≡ true → list_all (is_free_of 32) more ≡ true → parts_of 32 (words word more) ≡ word ∷ more
words_apart word [] free all = last_part 32 word free
words_apart word (next ∷ more) free all =
    let s = split (is_free_of 32 next) (list_all (is_free_of 32) more) all in
    part_before 32 word (words next more) free ∙ ap (λ z. word ∷ z) (words_apart next more s.0 s.1)

-- a word of at most 32 bytes
abbrev pub is_brief : List ℕ → Bool
is_brief word = nat_le (length word) 32

brief_length : (word : List ℕ) → is_brief word ≡ true → length word ≤ 32
brief_length word e = grind (arith, nat_tests)

pub words_length : (word : List ℕ) (more : List (List ℕ)) → is_brief word ≡ true → list_all is_brief more ≡ true → length (words word more) ≤ 33 * length more + 32
words_length word [] e all = brief_length word e
words_length word (next ∷ more) e all =
    let s = split (is_brief next) (list_all is_brief more) all in
    omega (arith, length-append word (32 ∷ words next more), brief_length word e, words_length next more s.0 s.1)
