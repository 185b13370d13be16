-- Texts and short lists that are written in place.
use Rattle.std.specs.Prelude.{ℕ, List, ◌≡◌, ◌<◌, ◌≤◌, ◌-◌, ◌+◌, ◌++◌, length, take, drop, replicate, slice_set, min, true}
use Rattle.std.specs.List.{list_all}
use Rattle.std.proofs.Common.{arith, ap, ◌∙◌, sym, refl, length-take-le}
use Rattle.std.proofs.lemmas.List.{drop-replicate, length-append, length-drop, length-replicate, length-set, drop-set-lt, take_min, take-replicate}
use Rattle.std.proofs.Math.Seq.{take-append_seam, take-append-add, drop-append_seam, drop-drop}
use Rattle.tpcc_rows.specs.Printable.{is_printable}
use Rattle.tpcc_rows.specs.Internal.TextView.{IsText}
use Rattle.tpcc_rows.specs.Internal.FewView.{IsFew}
use Rattle.tpcc_rows.specs.declared.values.text.Text.TheInside.{Inside}
use Rattle.tpcc_rows.specs.declared.values.few.Few.TheInside as few
use Rattle.tpcc_rows.proofs.PrintableTexts.{append_is_printable}

-- printable bytes before zeros
front_is_text : (N : ℕ) (k : ℕ) (front b : List ℕ) → length front ≡ k → k ≤ N → length b ≡ N → list_all is_printable front ≡ true → drop k b ≡ replicate (N - k) 0
    → IsText N (record { bytes = front ++ drop k b; len = k })
front_is_text N k front b long fits whole printable rest =
    record {
      fits = fits;
      whole = omega (arith, length-append front (drop k b), length-drop k b, long, fits, whole);
      printable = ap (list_all is_printable) (ap (λ j. take j (front ++ drop k b)) (sym long) ∙ take-append_seam front _) ∙ printable;
      rest = ap (λ j. drop j (front ++ drop k b)) (sym long) ∙ drop-append_seam front _ ∙ rest;
    }

-- bytes copied to the front of zeros
pub copied_in : (N : ℕ) → (source : List ℕ) → length source ≤ N → list_all is_printable source ≡ true → IsText N (record { bytes = source ++ drop (length source) (replicate N 0); len = length source })
copied_in N source fits printable = front_is_text N (length source) source (replicate N 0) refl fits (length-replicate N 0) printable (drop-replicate (length source) N 0)

-- bytes written behind those that are used
pub extended_is_text : (N : ℕ) (t : Inside N) (xs : List ℕ) → t.len + length xs ≤ N → IsText N t → list_all is_printable xs ≡ true
    → IsText N (record { bytes = (take t.len t.bytes ++ xs) ++ drop (t.len + length xs) t.bytes; len = t.len + length xs })
extended_is_text N t xs fits h printable =
    let long = length-take-le t.len t.bytes (omega (arith, h.fits, h.whole)) in
    front_is_text N (t.len + length xs) (take t.len t.bytes ++ xs) t.bytes
    (length-append (take t.len t.bytes) xs ∙ ap (λ k. k + length xs) long)
    fits h.whole
    (append_is_printable (take t.len t.bytes) xs h.printable printable)
    (ap (λ k. drop k t.bytes) (omega arith) ∙ sym (drop-drop (length xs) t.len t.bytes) ∙ ap (drop (length xs)) h.rest ∙ drop-replicate (length xs) (N - t.len) 0 ∙ ap (λ k. replicate k 0) (omega arith))

-- what such a text shows
pub shows_added : (N : ℕ) (t : Inside N) (xs : List ℕ) → IsText N t → take (t.len + length xs) ((take t.len t.bytes ++ xs) ++ drop (t.len + length xs) t.bytes) ≡ take t.len t.bytes ++ xs
shows_added N t xs h =
    let long = length-append (take t.len t.bytes) xs ∙ ap (λ k. k + length xs) (length-take-le t.len t.bytes (omega (arith, h.fits, h.whole))) in
    ap (λ k. take k ((take t.len t.bytes ++ xs) ++ drop (t.len + length xs) t.bytes)) (sym long) ∙ take-append_seam (take t.len t.bytes ++ xs) _

-- as many more as there is room for
pub cut_added : (N s : ℕ) (xs ys : List ℕ) → length xs ≡ s → s ≤ N → take N (xs ++ ys) ≡ xs ++ take (min (length ys) (N - s)) ys
cut_added N s xs ys long fits =
    ap (λ k. take k (xs ++ ys)) (omega (arith, long, fits)) ∙ take-append-add xs ys (N - s) ∙ ap (λ zs. xs ++ zs) (sym (take_min (N - s) ys) ∙ ap (λ k. take k ys) (omega arith))

-- the first unused place written
pub pushed_is_few : {T : Type 0} (filler : T) (N : ℕ) (t : few.Inside T N) (item : T) → t.len < N → IsFew filler N t → IsFew filler N (record { items = slice_set t.items t.len item; len = t.len + 1 })
pushed_is_few filler N t item room h =
    record {
      fits = omega (arith, room);
      whole = length-set t.items t.len item ∙ h.whole;
      rest =
          drop-set-lt (t.len + 1) t.items t.len item (omega arith) ∙ ap (λ k. drop k t.items) (omega arith) ∙ sym (drop-drop 1 t.len t.items) ∙ ap (drop 1) h.rest ∙ drop-replicate 1 (N - t.len) filler
          ∙ ap (λ k. replicate k filler) (omega arith);
    }

-- some of sixteen zero digits
pub zeros_taken : (k : ℕ) → k ≤ 16 → take k (replicate {A = ℕ} 16 48) ≡ replicate {A = ℕ} k 48
zeros_taken k few = take-replicate k 16 48 few

pub length_zeros : (k : ℕ) → length (replicate {A = ℕ} k 48) ≡ k
length_zeros k = length-replicate k 48
