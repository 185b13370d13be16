use Rattle.std.proofs.Common.{◌≡◌, ◌∙◌, sym, ap, ◌<◌, length, arith}
use Rattle.std.proofs.lemmas.List.{length-append}
use Rattle.std.proofs.lemmas.Bool.Decides.{nat_tests}
use Rattle.std.specs.Prelude.{[], ◌∷◌, ◌++◌, if◌then◌else◌, ◌==◌, false}
use Rattle.tpcc_script.proofs.Lines.{reading_goes, line_so, too_many, too_long, ends_there, cut_there}
use Rattle.tpcc_script.proofs.reader.read_line.Goals as goal

pub returns-in-Ok-None-clause-read : goal.returns-in-Ok-None-clause-read
returns-in-Ok-None-clause-read g c = λ bytes known.
    let r = c.bytes.invariant.reading bytes known in
    let k = c.in-Ok-None.ensures.ok r.rest r.left_is in
    ends_there bytes _ _ c.args.number r (sym c.in-Ok-None.field-0-is ∙ k.0) (grind (arith, nat_tests, c.if-is_empty.ensures))

pub returns-in-Ok-None-2-clause-read : goal.returns-in-Ok-None-2-clause-read
returns-in-Ok-None-2-clause-read g c = λ bytes known.
    let r = c.bytes.invariant.reading bytes known in
    let k = c.in-Ok-None.ensures.ok r.rest r.left_is in
    let some : 0 < length c.bytes.line.items = grind (arith, nat_tests, c.if-is_empty.ensures) in
    cut_there bytes _ _ c.args.number r (sym c.in-Ok-None.field-0-is ∙ k.0) some (c.bytes.invariant.fits some) c.bytes.invariant.short

pub returns-then-number-gt-MOST_LINES-clause-read :
    goal.returns-then-number-gt-MOST_LINES-clause-read
returns-then-number-gt-MOST_LINES-clause-read g c = λ bytes known.
    let r = c.bytes.invariant.reading bytes known in
    let k = c.in-Ok-Some.ensures.ok r.rest r.left_is in
    too_many bytes _ _ c.in-Ok-Some.byte c.args.number r (sym c.in-Ok-Some.field-0-is ∙ k.0) c.if-number-gt-MOST_LINES.true

pub returns-then-byte-eq10-clause-read : goal.returns-then-byte-eq10-clause-read
returns-then-byte-eq10-clause-read g c = λ bytes known.
    let r = c.bytes.invariant.reading bytes known in
    let k = c.in-Ok-Some.ensures.ok r.rest r.left_is in
    line_so bytes _ _ _ c.in-Ok-Some.byte c.args.number r (sym c.in-Ok-Some.field-0-is ∙ k.0) k.1 c.if-byte-eq10.true (omega (arith, c.if-number-gt-MOST_LINES.false)) c.bytes.invariant.short

pub returns-then-len-eq-LONGEST_LINE-clause-read :
    goal.returns-then-len-eq-LONGEST_LINE-clause-read
returns-then-len-eq-LONGEST_LINE-clause-read g c = λ bytes known.
    let r = c.bytes.invariant.reading bytes known in
    let k = c.in-Ok-Some.ensures.ok r.rest r.left_is in
    too_long bytes _ _ c.in-Ok-Some.byte c.args.number r (sym c.in-Ok-Some.field-0-is ∙ k.0) (grind (arith, nat_tests, c.if-byte-eq10.false)) (omega (arith, c.if-number-gt-MOST_LINES.false)) (omega (arith, c.len.ensures, c.if-len-eq-LONGEST_LINE.true))

pub returns-then-is_err-clause-gave_up : goal.returns-then-is_err-clause-gave_up
returns-then-is_err-clause-gave_up g c = tt

pub bytes-preserved : goal.bytes-preserved
bytes-preserved g c =
    let pushed : c.push.new.self.items ≡ c.bytes.line.items ++ c.in-Ok-Some.byte ∷ [] =
    c.push.ensures.items ∙ ap (λ b. if b then c.bytes.line.items ++ c.in-Ok-Some.byte ∷ [] else c.bytes.line.items) c.if-is_err.ensures.negation in
    let other : (c.in-Ok-Some.byte == 10) ≡ false = grind (arith, nat_tests, c.if-byte-eq10.false) in
    record {
      short = omega (arith, c.len.ensures, c.if-len-eq-LONGEST_LINE.false, c.bytes.line.ok.0, c.bytes.invariant.short, ap length pushed, length-append c.bytes.line.items (c.in-Ok-Some.byte ∷ []));
      fits = λ h. omega (arith, c.if-number-gt-MOST_LINES.false);
      reading = λ bytes known.
          let r = c.bytes.invariant.reading bytes known in
          let k = c.in-Ok-Some.ensures.ok r.rest r.left_is in
          rw pushed (reading_goes bytes _ _ _ c.in-Ok-Some.byte r (sym c.in-Ok-Some.field-0-is ∙ k.0) k.1 other);
    }
