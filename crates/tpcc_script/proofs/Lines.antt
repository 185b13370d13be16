-- The next line of a script, read byte by byte.
use Rattle.std.proofs.Common.{◌≡◌, ◌∙◌, sym, refl, ap, ℕ, ◌+◌, ◌≤◌, ◌<◌, List, [], ◌∷◌, ◌++◌, append-nil, length, drop, Bool, true, false, Option, Some, None, slice_get, inl, inr, nat_lt, arith}
use Rattle.std.specs.Prelude.{◌==◌, ◌⊎◌, if◌then◌else◌}
use Rattle.std.proofs.lemmas.List.{length-append}
use Rattle.std.proofs.lemmas.Grind.{common_steps}
use Rattle.std.proofs.lemmas.Option.{none-some}
use Rattle.std.proofs.lemmas.Bool.{lt-ltb, le-ltb}
use Rattle.std.specs.Prelude.{Ok}
use Rattle.tpcc_text.specs.declared.script.limits.TheConstants.{LONGEST_LINE, MOST_LINES}
use Rattle.tpcc_text.specs.declared.script.call.Call.{Call}
use Rattle.tpcc_text.specs.declared.script.fault.ScriptFault.{ScriptFault}
use Rattle.tpcc_text.specs.declared.script.fault.ScriptFault.TheVariants.{Bad, Cut, LongLine, TooManyLines, Read, Write, NoMemory}
use Rattle.tpcc_script.specs.ScriptBook.{ScriptBook}
use Rattle.tpcc_script.specs.Run.{Shows}
use Rattle.tpcc_script.specs.Internal.Run.{HasServed}
use Rattle.tpcc_text.specs.Script.{parts_of, with_byte, lines_say, rest_says, then_says, call_of, ends, fails}
use Rattle.tpcc_script.specs.Internal.Steps.{says, IsLine, IsRead, IsLineServed, IsStopped, IsFault, IsStillBroken, IsLineBroken}
use Rattle.std.specs.Io.KnownBytes.{Appends}
use Rattle.tpcc_text.specs.Prefix.{AppendsPrefix}
use Rattle.tpcc_text.proofs.BlockSteps.{part_of_more}

-- bytes put before the first part
abbrev pub onto_all : List ℕ → List (List ℕ) → List (List ℕ)
onto_all [] parts = parts
onto_all (byte ∷ bytes) parts = with_byte byte (onto_all bytes parts)

onto_all-more : (line : List ℕ) (byte : ℕ) (parts : List (List ℕ)) → onto_all line (with_byte byte parts) ≡ onto_all (line ++ byte ∷ []) parts
onto_all-more [] byte parts = refl
onto_all-more (b ∷ line) byte parts = ap (with_byte b) (onto_all-more line byte parts)

onto_all-cons : (line part : List ℕ) (parts : List (List ℕ)) → onto_all line (part ∷ parts) ≡ (line ++ part) ∷ parts
onto_all-cons [] part parts = refl
onto_all-cons (b ∷ line) part parts = ap (with_byte b) (onto_all-cons line part parts)

-- there is a first part
pub record HasParts (parts : List (List ℕ)) : Type 0 where
  pub first : List ℕ
  pub others : List (List ℕ)
  pub is : parts ≡ first ∷ others

onto-has : (byte : ℕ) (parts : List (List ℕ)) → HasParts (with_byte byte parts)
onto-has byte [] = record { first = byte ∷ []; others = []; is = refl }
onto-has byte (part ∷ parts) = record { first = byte ∷ part; others = parts; is = refl }

cond-has : (b : Bool) (xs ys : List (List ℕ)) → HasParts xs → HasParts ys → HasParts (if b then xs else ys)
cond-has true xs ys h k = h
cond-has false xs ys h k = k

parts-has : (divider : ℕ) (bytes : List ℕ) → HasParts (parts_of divider bytes)
parts-has divider [] = record { first = []; others = []; is = refl }
parts-has divider (byte ∷ bytes) = cond-has (byte == divider) _ _ (record { first = []; others = parts_of divider bytes; is = refl }) (onto-has byte (parts_of divider bytes))

-- the bytes of a line so far, and what is left
pub record Reading (bytes line : List ℕ) (left : Option (List ℕ)) : Type 0 where
  pub rest : List ℕ
  pub left_is : left ≡ Some rest
  pub parts : parts_of 10 bytes ≡ onto_all line (parts_of 10 rest)

some-none : (byte : ℕ) → Some byte ≡ None → ⊥
some-none byte e = none-some byte (sym e)

first-byte : (rest : List ℕ) (byte : ℕ) → Some byte ≡ slice_get rest 0 → rest ≡ byte ∷ drop 1 rest
first-byte [] byte e = absurd (some-none byte e)
first-byte (b ∷ rest) byte e = grind (arith, common_steps, e)

no-byte : (rest : List ℕ) → None ≡ slice_get rest 0 → rest ≡ []
no-byte [] e = refl
no-byte (b ∷ rest) e = absurd (some-none b (sym e))

pub reading_goes : (bytes line : List ℕ) (left left_new : Option (List ℕ)) (byte : ℕ) (r : Reading bytes line left)
    → Some byte ≡ slice_get r.rest 0 → left_new ≡ Some (drop 1 r.rest) → (byte == 10) ≡ false → Reading bytes (line ++ byte ∷ []) left_new
reading_goes bytes line left left_new byte r e f other = record {
  rest = drop 1 r.rest;
  left_is = f;
  parts = r.parts ∙ ap (λ z. onto_all line (parts_of 10 z)) (first-byte r.rest byte e) ∙ ap (λ b. onto_all line (if b then [] ∷ parts_of 10 (drop 1 r.rest) else with_byte byte (parts_of 10 (drop 1 r.rest)))) other ∙ onto_all-more line byte (parts_of 10 (drop 1 r.rest));
}

-- lines_say of a whole line
whole-line : (number : ℕ) (line next : List ℕ) (parts : List (List ℕ)) (a b : Bool) → nat_lt MOST_LINES number ≡ a → nat_lt LONGEST_LINE (length line) ≡ b → a ≡ false → b ≡ false
    → lines_say number (line ∷ next ∷ parts) ≡ then_says number (call_of line) (lines_say (number + 1) (next ∷ parts))
whole-line number line next parts a b e f g h = rw (e, f, g, h) refl

pub line_so : (bytes line : List ℕ) (left left_new : Option (List ℕ)) (byte number : ℕ) (r : Reading bytes line left)
    → Some byte ≡ slice_get r.rest 0 → left_new ≡ Some (drop 1 r.rest) → byte ≡ 10 → number ≤ MOST_LINES → length line ≤ LONGEST_LINE → IsLine number bytes line left_new
line_so bytes line left left_new byte number r e f same fits short =
    let rest = drop 1 r.rest in
    let has = parts-has 10 rest in
    let begins : r.rest ≡ 10 ∷ rest = first-byte r.rest byte e ∙ ap (λ z. z ∷ rest) same in
    let parts : parts_of 10 bytes ≡ line ∷ parts_of 10 rest =
    r.parts ∙ ap (λ z. onto_all line (parts_of 10 z)) begins ∙ onto_all-cons line [] (parts_of 10 rest) ∙ ap (λ z. z ∷ parts_of 10 rest) (append-nil line) in
    record {
      rest = rest;
      left_is = f;
      number_fits = fits;
      says_is = ap (lines_say number) parts ∙ ap (λ z. lines_say number (line ∷ z)) has.is
          ∙ whole-line number line has.first has.others (nat_lt MOST_LINES number) (nat_lt LONGEST_LINE (length line)) refl refl (le-ltb MOST_LINES number fits) (le-ltb LONGEST_LINE (length line) short)
          ∙ ap (λ z. then_says number (call_of line) (lines_say (number + 1) z)) (sym has.is);
    }

-- the fault of a part that is too far on or too long
far : (number : ℕ) (part : List ℕ) (parts : List (List ℕ)) → 0 < length part ⊎ 0 < length parts → nat_lt MOST_LINES number ≡ true → lines_say number (part ∷ parts) ≡ fails TooManyLines
far number [] [] (inl h) e = absurd (omega arith)
far number [] [] (inr h) e = absurd (omega arith)
far number (b ∷ part) [] h e = rw e refl
far number part (next ∷ parts) h e = rw e refl

long : (number : ℕ) (part : List ℕ) (parts : List (List ℕ)) → nat_lt MOST_LINES number ≡ false → LONGEST_LINE < length part → nat_lt LONGEST_LINE (length part) ≡ true → lines_say number (part ∷ parts) ≡ fails (LongLine number)
long number [] [] e h f = absurd (omega arith)
long number (b ∷ part) [] e h f = rw (e, f) refl
long number part (next ∷ parts) e h f = rw (e, f) refl

onto_all-onto : (line : List ℕ) (byte : ℕ) (parts : List (List ℕ)) → HasParts parts → (part : List ℕ) × (others : List (List ℕ)) × (onto_all line (with_byte byte parts) ≡ (line ++ byte ∷ part) ∷ others)
onto_all-onto line byte parts h = (h.first, h.others, ap (λ z. onto_all line (with_byte byte z)) h.is ∙ onto_all-cons line (byte ∷ h.first) h.others)

-- parts of bytes that begin with a byte
line_begins : (line : List ℕ) (byte : ℕ) (parts : List (List ℕ)) → HasParts parts → (b : Bool)
    → (part : List ℕ) × (others : List (List ℕ)) × (onto_all line (if b then [] ∷ parts else with_byte byte parts) ≡ (line ++ part) ∷ others) × (0 < length (line ++ part) ⊎ 0 < length others)
line_begins line byte parts h true = ([], parts, onto_all-cons line [] parts, inr (rw h.is (omega arith)))
line_begins line byte parts h false =
    (byte ∷ h.first, h.others, ap (λ z. onto_all line (with_byte byte z)) h.is ∙ onto_all-cons line (byte ∷ h.first) h.others, inl (omega (arith, length-append line (byte ∷ h.first))))

pub too_many : (bytes line : List ℕ) (left : Option (List ℕ)) (byte number : ℕ) (r : Reading bytes line left)
    → Some byte ≡ slice_get r.rest 0 → MOST_LINES < number → says number bytes ≡ fails TooManyLines
too_many bytes line left byte number r e many =
    let rest = drop 1 r.rest in
    let b = line_begins line byte (parts_of 10 rest) (parts-has 10 rest) (byte == 10) in
    ap (lines_say number) (r.parts ∙ ap (λ z. onto_all line (parts_of 10 z)) (first-byte r.rest byte e) ∙ b.2) ∙ far number (line ++ b.0) b.1 b.3 (lt-ltb MOST_LINES number many)

pub too_long : (bytes line : List ℕ) (left : Option (List ℕ)) (byte number : ℕ) (r : Reading bytes line left)
    → Some byte ≡ slice_get r.rest 0 → (byte == 10) ≡ false → number ≤ MOST_LINES → LONGEST_LINE ≤ length line → says number bytes ≡ fails (LongLine number)
too_long bytes line left byte number r e other fits full =
    let rest = drop 1 r.rest in
    let b = onto_all-onto line byte (parts_of 10 rest) (parts-has 10 rest) in
    let size : LONGEST_LINE < length (line ++ byte ∷ b.0) = omega (arith, full, length-append line (byte ∷ b.0)) in
    ap (lines_say number) (r.parts ∙ ap (λ z. onto_all line (parts_of 10 z)) (first-byte r.rest byte e) ∙ ap (λ c. onto_all line (if c then [] ∷ parts_of 10 rest else with_byte byte (parts_of 10 rest))) other ∙ b.2)
    ∙ long number (line ++ byte ∷ b.0) b.1 (le-ltb MOST_LINES number fits) size (lt-ltb LONGEST_LINE (length (line ++ byte ∷ b.0)) size)

-- at the end
at-end : (bytes line : List ℕ) (left : Option (List ℕ)) (number : ℕ) (r : Reading bytes line left)
    → None ≡ slice_get r.rest 0 → says number bytes ≡ rest_says number line
at-end bytes line left number r e =
    ap (lines_say number) (r.parts ∙ ap (λ z. onto_all line (parts_of 10 z)) (no-byte r.rest e) ∙ onto_all-cons line [] [] ∙ ap (λ z. z ∷ []) (append-nil line))

pub ends_there : (bytes line : List ℕ) (left : Option (List ℕ)) (number : ℕ) (r : Reading bytes line left)
    → None ≡ slice_get r.rest 0 → length line ≡ 0 → says number bytes ≡ ends
ends_there bytes [] left number r e none = at-end bytes [] left number r e
ends_there bytes (b ∷ line) left number r e none = absurd (omega (arith, none))

pub cut_there : (bytes line : List ℕ) (left : Option (List ℕ)) (number : ℕ) (r : Reading bytes line left)
    → None ≡ slice_get r.rest 0 → 0 < length line → number ≤ MOST_LINES → length line ≤ LONGEST_LINE → says number bytes ≡ fails (Cut number)
cut_there bytes [] left number r e some fits short = absurd (omega (arith, some))
cut_there bytes (b ∷ line) left number r e some fits short =
    at-end bytes (b ∷ line) left number r e ∙ rw (le-ltb MOST_LINES number fits, le-ltb LONGEST_LINE (length (b ∷ line)) short) refl

-- what a reading answered
pub read_none : {L : Type 0} (view : L → List ℕ) (number : ℕ) (bytes : List ℕ) (o : Option L) (left : Option (List ℕ)) → o ≡ None → IsRead view number bytes (Ok o) left → says number bytes ≡ ends
read_none view number bytes None left e h = h
read_none view number bytes (Some line) left e h = absurd (none-some line (sym e))

pub read_some : {L : Type 0} (view : L → List ℕ) (number : ℕ) (bytes : List ℕ) (line : L) (o : Option L) (left : Option (List ℕ)) → o ≡ Some line → IsRead view number bytes (Ok o) left → IsLine number bytes (view line) left
read_some view number bytes line o left e h = rw e at h

-- the line as the parser saw it
pub bad_line : (number : ℕ) (bytes line seen : List ℕ) (left : Option (List ℕ)) → IsLine number bytes line left → seen ≡ line → None ≡ call_of seen → says number bytes ≡ fails (Bad number)
bad_line number bytes line seen left h same e = h.says_is ∙ ap (λ o. then_says number o (says (number + 1) h.rest)) (sym (e ∙ ap call_of same))

pub served_line : (number : ℕ) (bytes line seen : List ℕ) (left : Option (List ℕ)) (call : Call) (old new : ScriptBook) (screen : List ℕ)
    → IsLine number bytes line left → seen ≡ line → Some call ≡ call_of seen → Shows old call screen new → IsLineServed number bytes old screen new left
served_line number bytes line seen left call old new screen h same e shows = record {
  call = call;
  rest = h.rest;
  left_is = h.left_is;
  number_fits = h.number_fits;
  says_is = h.says_is ∙ ap (λ o. then_says number o (says (number + 1) h.rest)) (sym (e ∙ ap call_of same));
  shows = shows;
}

pub unshown_line : (number : ℕ) (bytes line seen : List ℕ) (left : Option (List ℕ)) (call : Call) (old new : ScriptBook)
    → IsLine number bytes line left → seen ≡ line → Some call ≡ call_of seen → HasServed old call new
    → IsStopped number bytes old new left NoMemory
unshown_line number bytes line seen left call old new h same e served =
    inr (record { screen = served.screen; served = served_line number bytes line seen left call old new served.screen h same e served.shows })

-- no screen is given, and all that waited is written
pub stopped_line : (number : ℕ) (bytes : List ℕ) (old new : ScriptBook) (left held now : Option (List ℕ)) (waits : List ℕ) (fault : ScriptFault)
    → IsStopped number bytes old new left fault → Appends held now waits → IsFault number bytes old new left held now waits fault
stopped_line number bytes old new left held now waits (Bad n) stopped added = record { stopped = stopped; added = added }
stopped_line number bytes old new left held now waits (Cut n) stopped added = record { stopped = stopped; added = added }
stopped_line number bytes old new left held now waits (LongLine n) stopped added = record { stopped = stopped; added = added }
stopped_line number bytes old new left held now waits TooManyLines stopped added = record { stopped = stopped; added = added }
stopped_line number bytes old new left held now waits Read stopped added = record { stopped = stopped; added = added }
stopped_line number bytes old new left held now waits NoMemory stopped added = record { stopped = stopped; added = added }
stopped_line number bytes old new left held now waits Write stopped added = absurd stopped

-- no screen is given, and the sink was given up at what waited
pub broken_line : (number : ℕ) (bytes : List ℕ) (old new : ScriptBook) (left held now : Option (List ℕ)) (waits : List ℕ) (fault : ScriptFault)
    → IsStopped number bytes old new left fault → AppendsPrefix held now waits → IsStillBroken old new held now waits ⊎ IsLineBroken number bytes old new left held now waits
broken_line number bytes old new left held now waits (Bad n) stopped part = inl (record { book = stopped.book; part = part })
broken_line number bytes old new left held now waits (Cut n) stopped part = inl (record { book = stopped.book; part = part })
broken_line number bytes old new left held now waits (LongLine n) stopped part = inl (record { book = stopped.book; part = part })
broken_line number bytes old new left held now waits TooManyLines stopped part = inl (record { book = stopped.book; part = part })
broken_line number bytes old new left held now waits Read stopped part = inl (record { book = stopped; part = part })
broken_line number bytes old new left held now waits NoMemory (inl same) part = inl (record { book = same; part = part })
broken_line number bytes old new left held now waits NoMemory (inr line) part =
    inr (record { screen = line.screen; served = line.served; part = part_of_more held now waits line.screen part })
broken_line number bytes old new left held now waits Write stopped part = absurd stopped
