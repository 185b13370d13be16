use Rattle.std.proofs.Common.{◌≡◌, ◌<ℤ◌, ◌≤ℤ◌, pos, ap, ◌%◌, arith}
use Rattle.std.specs.Prelude.{unsigned_abs}
use Rattle.std.proofs.lemmas.Int.{ints}
use Rattle.tpcc_money.proofs.Digit.{padded_integral-zeros, below_zero, from_zero}
use Rattle.tpcc_money.proofs.cents.CentsDisplay.fmt.Goals.{then-value-lt0, else-value-lt0}
use Rattle.tpcc_money.proofs.cents.CentsDisplay.fmt.Goals as goal

pub returns-clause-writes : goal.returns-clause-writes
returns-clause-writes g c =
    let size : c.unsigned_abs-size.result ≡ unsigned_abs c.args.self.now = omega (arith, ints) in
    elim c.if-value-lt0.branch [
      | then-value-lt0 w ↦ let low : c.args.self.now <ℤ pos 0 = omega (arith, ints) in
          rw (c.laid_out.ensures, size, ap (λ s. s.now) w.sign-is, padded_integral-zeros 2 (unsigned_abs c.args.self.now % 100), below_zero c.args.self.now low) at c.write.ensures.writes
      | else-value-lt0 w ↦ let high : pos 0 ≤ℤ c.args.self.now = omega (arith, ints) in
          rw (c.laid_out.ensures, size, ap (λ s. s.now) w.sign-is, padded_integral-zeros 2 (unsigned_abs c.args.self.now % 100), from_zero c.args.self.now high) at c.write.ensures.writes
    ]
