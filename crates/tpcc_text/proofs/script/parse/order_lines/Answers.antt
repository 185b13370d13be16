use Rattle.std.proofs.Common.{◌≡◌, ◌∙◌, refl, sym, ap, suc, ℕ, ◌+◌, ◌<◌, ◌≤◌, List, [], ◌∷◌, ◌++◌, append_assoc, append-nil, add-one, length, get_or, drop, drop-cons, map, Some, None}
use Rattle.std.specs.Prelude.{Option, Result, Ok, Err, Bool, false, is_ok, is_err, if◌then◌else◌}
use Rattle.std.proofs.lemmas.List.{drop_all}
use Rattle.tpcc_rows.specs.declared.transactions.requests.Line.{Line}
use Rattle.tpcc_text.specs.Internal.Reading.{Fails}
use Rattle.tpcc_text.specs.Script.{◌>>=◌, order_line_of, order_lines_of}
use Rattle.tpcc_text.specs.declared.script.fault.ParseFault.{ParseFault}
use Rattle.tpcc_text.specs.declared.script.fault.ParseFault.TheVariants.{Bad, NoMemory}
use Rattle.tpcc_text.proofs.Ordering.{with_front}
use Rattle.tpcc_text.proofs.script.parse.order_lines.Goals as goal

no_front : (read : Option (List Line)) → read ≡ with_front [] read
no_front None = refl
no_front (Some lines) = refl

longer_front : (front : List Line) (line : Line) (read : Option (List Line)) → with_front front (read >>= (λ lines. Some (line ∷ lines))) ≡ with_front (front ++ line ∷ []) read
longer_front front line None = refl
longer_front front line (Some lines) = ap Some (sym (append_assoc front (line ∷ []) lines))

-- a line that was pushed
pushed : {E : Type 0} (r : Result (Unit {0}) E) (failed : Bool) (now old : List Line) (line : Line) → failed ≡ is_err r → failed ≡ false → now ≡ (if is_ok r then old ++ line ∷ [] else old) → now ≡ old ++ line ∷ []
pushed (Ok done) failed now old line is not pushes = pushes
pushed (Err e) failed now old line is not pushes = absurd (cc)

module _ {X : Type 0} (f : X → List ℕ) (words : List X) where
  begins : (front : List Line) → front ≡ [] → order_lines_of (map f words) ≡ with_front front (order_lines_of (map f (drop 0 words)))
  begins front none = rw none (no_front (order_lines_of (map f words)))

  goes_on : (front now : List Line) (at : ℕ) (none : X) (line : Line) → at < length words → order_lines_of (map f words) ≡ with_front front (order_lines_of (map f (drop at words)))
      → order_line_of (f (get_or words at none)) ≡ Some line → now ≡ front ++ line ∷ [] → order_lines_of (map f words) ≡ with_front now (order_lines_of (map f (drop (at + 1) words)))
  goes_on front now at none line within before read is =
      before ∙ rw (is, add-one, drop-cons words at none within, read) (longer_front front line (order_lines_of (map f (drop (suc at) words))))

  ends : (front : List Line) (at : ℕ) → length words ≤ at → order_lines_of (map f words) ≡ with_front front (order_lines_of (map f (drop at words))) → order_lines_of (map f words) ≡ Some front
  ends front at past before = before ∙ rw (drop_all at words past, append-nil front) refl

  fails : (front : List Line) (at : ℕ) (none : X) (fault : ParseFault) → at < length words → order_lines_of (map f words) ≡ with_front front (order_lines_of (map f (drop at words)))
      → Fails fault (order_line_of (f (get_or words at none))) → Fails fault (order_lines_of (map f words))
  fails front at none Bad within before bad = before ∙ rw (drop-cons words at none within, bad) refl
  fails front at none NoMemory within before bad = tt

pub loop-word-init : goal.loop-word-init
loop-word-init c = begins (λ w. w.now) c.args.words.now _ c.new-lines.ensures.items

pub returns-then-is_err : goal.returns-then-is_err
returns-then-is_err c = tt

pub returns-in-Err : goal.returns-in-Err
returns-in-Err c = fails (λ w. w.now) c.args.words.now c.loop-word.lines.items c.loop-word.word-index _ c.in-Err.fault c.loop-word-test.true c.loop-word.invariant c.in-Err.ensures

pub loop-word-preserved : goal.loop-word-preserved
loop-word-preserved c =
    goes_on (λ w. w.now) c.args.words.now c.loop-word.lines.items c.push.new.self.items c.loop-word.word-index _ c.in-Ok.line c.loop-word-test.true c.loop-word.invariant c.in-Ok.ensures
    (pushed c.push.result c.is_err.result c.push.new.self.items c.loop-word.lines.items c.in-Ok.line c.is_err.ensures.value c.if-is_err.false c.push.ensures.items)

pub returns : goal.returns
returns c = ends (λ w. w.now) c.args.words.now c.loop-word.lines.items c.loop-word.word-index c.loop-word-test.false c.loop-word.invariant
