-- How a text is seen: the list of its first bytes. The others are 0, so that the list gives the fields back.
use Rattle.std.specs.Prelude.{ℕ, List, ◌≡◌, ◌≤◌, ◌-◌, ◌++◌, length, take, drop, replicate, true}
use Rattle.std.specs.List.{list_all}
use Rattle.std.proofs.Common.{arith, ap, ◌∙◌, sym, take-append-drop, length-take-le}
use Rattle.tpcc_rows.specs.Printable.{is_printable}
use Rattle.tpcc_rows.specs.declared.values.text.Text.TheInside.{Inside}

-- the bytes that are used
abbrev pub used_bytes : {N : ℕ} → Inside N → List ℕ
used_bytes t = take t.len t.bytes

-- N bytes, of which the used ones are printable and the others 0
pub record IsText (N : ℕ) (t : Inside N) : Type 0 where
  pub fits : t.len ≤ N
  pub whole : length t.bytes ≡ N
  pub printable : list_all is_printable (take t.len t.bytes) ≡ true
  pub rest : drop t.len t.bytes ≡ replicate (N - t.len) 0

-- the fields of the text that shows these bytes
abbrev pub fields_of : (N : ℕ) → List ℕ → Inside N
fields_of N xs = record { bytes = xs ++ replicate (N - length xs) 0; len = length xs }

-- they are those of the text itself
pub gives_back : (N : ℕ) → (t : Inside N) → IsText N t → fields_of N (used_bytes t) ≡ t
gives_back N t h =
    let long = length-take-le t.len t.bytes (omega (arith, h.fits, h.whole)) in
    let whole = ap (λ k. take t.len t.bytes ++ replicate (N - k) 0) long ∙ ap (λ rest. take t.len t.bytes ++ rest) (sym h.rest) ∙ take-append-drop t.len t.bytes in
    λ i. record { bytes = whole i; len = long i }
