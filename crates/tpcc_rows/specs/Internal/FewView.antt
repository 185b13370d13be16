-- How a few values are seen: the list of the first ones. The other places are filler, so that the list gives the fields back.
use Rattle.std.specs.Prelude.{ℕ, List, ◌≡◌, ◌≤◌, ◌-◌, ◌++◌, length, take, drop, replicate}
use Rattle.std.proofs.Common.{arith, ap, ◌∙◌, sym, take-append-drop, length-take-le}
use Rattle.tpcc_rows.specs.declared.values.few.Few.TheInside.{Inside}

-- the values that are used
abbrev pub used_values : {T : Type 0} {N : ℕ} → Inside T N → List T
used_values t = take t.len t.items

-- N values, of which the unused ones are filler
pub record IsFew {T : Type 0} (filler : T) (N : ℕ) (t : Inside T N) : Type 0 where
  pub fits : t.len ≤ N
  pub whole : length t.items ≡ N
  pub rest : drop t.len t.items ≡ replicate (N - t.len) filler

-- the fields of the value that shows this list
abbrev pub fields_of : {T : Type 0} → T → (N : ℕ) → List T → Inside T N
fields_of filler N xs = record { items = xs ++ replicate (N - length xs) filler; len = length xs }

-- they are those of the value itself
pub gives_back : {T : Type 0} (filler : T) (N : ℕ) → (t : Inside T N) → IsFew filler N t → fields_of filler N (used_values t) ≡ t
gives_back filler N t h =
    let long = length-take-le t.len t.items (omega (arith, h.fits, h.whole)) in
    let whole = ap (λ k. take t.len t.items ++ replicate (N - k) filler) long ∙ ap (λ rest. take t.len t.items ++ rest) (sym h.rest) ∙ take-append-drop t.len t.items in
    λ i. record { items = whole i; len = long i }
