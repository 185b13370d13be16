-- Parts between dividers, one after another.
use Rattle.std.proofs.Common.{◌≡◌, ◌∙◌, sym, refl, ap, ℕ, suc, ◌+◌, ◌≤◌, ◌<◌, List, [], ◌∷◌, length, take, drop, Bool, true, false, Some, None, nat_lt, cond, arith}
use Rattle.std.proofs.lemmas.List.{take_rest}
use Rattle.std.specs.Prelude.{◌-◌, ◌==◌, not, position}
use Rattle.std.specs.List.{position_or_len}
use Rattle.std.proofs.lemmas.Option.{cond_some, none-some}
use Rattle.std.proofs.lemmas.Bool.{ltb-true, ltb-false}
use Rattle.tpcc_text.specs.Script.{parts_of, with_byte}

-- the first divider stands at a place, or there is none before the end
pub record IsParted (divider : ℕ) (bytes : List ℕ) (place : ℕ) : Type 0 where
  pub before : place < length bytes → parts_of divider bytes ≡ take place bytes ∷ parts_of divider (drop (place + 1) bytes)
  pub past : length bytes ≤ place → parts_of divider bytes ≡ bytes ∷ []

parted-by : (divider byte : ℕ) (bytes : List ℕ) (place : ℕ) → IsParted divider bytes place → (b : Bool) → (byte == divider) ≡ b
    → IsParted divider (byte ∷ bytes) (cond (not b) (1 + place) 0)
parted-by divider byte bytes place h true e = record { before = λ k. rw e refl; past = λ k. absurd (omega arith) }
parted-by divider byte bytes place h false e = record {
  before = λ k.
      let one : 1 + place ≡ suc place = omega arith in
      let two : 1 + place + 1 ≡ suc (place + 1) = omega arith in
      rw (e, two, one) (ap (with_byte byte) (h.before (omega (arith, k))));
  past = λ k. rw e (ap (with_byte byte) (h.past (omega (arith, k))));
}

first_divider_parts : (divider : ℕ) (bytes : List ℕ) → IsParted divider bytes (position_or_len (λ byte. byte == divider) bytes)
first_divider_parts divider [] = record { before = λ k. absurd (omega arith); past = λ k. refl }
first_divider_parts divider (byte ∷ bytes) = parted-by divider byte bytes _ (first_divider_parts divider bytes) (byte == divider) refl

-- the first divider ends the first part
first-part : (divider : ℕ) (bytes : List ℕ) (place : ℕ) → position (λ byte. byte == divider) bytes ≡ Some place
    → parts_of divider bytes ≡ take place bytes ∷ parts_of divider (drop (place + 1) bytes)
first-part divider bytes place e =
    let k = cond_some (nat_lt (position_or_len (λ byte. byte == divider) bytes) (length bytes)) _ place e in
    let h = (first_divider_parts divider bytes).before (ltb-true _ _ k.0) in
    rw k.1 at h

none-where : (b : Bool) (n : ℕ) → cond b (Some n) None ≡ None → b ≡ false
none-where true n e = absurd (none-some n (sym e))
none-where false n e = refl

pub one_part : (divider : ℕ) (bytes : List ℕ) → position (λ byte. byte == divider) bytes ≡ None → parts_of divider bytes ≡ bytes ∷ []
one_part divider bytes e = (first_divider_parts divider bytes).past (ltb-false _ _ (none-where _ _ e))

pub first_part : (divider : ℕ) (bytes : List ℕ) (place : ℕ) → Some place ≡ position (λ byte. byte == divider) bytes
    → parts_of divider bytes ≡ take place bytes ∷ parts_of divider (take (length bytes - (place + 1)) (drop (place + 1) bytes))
first_part divider bytes place e = first-part divider bytes place (sym e) ∙ ap (λ z. take place bytes ∷ parts_of divider z) (sym (take_rest bytes (place + 1)))
