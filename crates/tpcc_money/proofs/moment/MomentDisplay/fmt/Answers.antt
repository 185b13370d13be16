use Rattle.std.proofs.Common.{◌≡◌, sym, arith}
use Rattle.std.specs.Prelude.{unsigned_abs}
use Rattle.std.proofs.lemmas.Int.{ints}
use Rattle.tpcc_money.proofs.Digit.{padded_integral-zeros}
use Rattle.tpcc_money.proofs.Moments.{civil_text, text_is}
use Rattle.tpcc_money.specs.Texts.{moment_text}
use Rattle.tpcc_money.proofs.moment.MomentDisplay.fmt.Goals as goal

pub returns-clause-writes : goal.returns-clause-writes
returns-clause-writes g c =
    let civil = c.civil.result in
    let year : c.unsigned_abs-year.result ≡ unsigned_abs civil.date.year = omega (arith, ints) in
    let is : civil_text civil ≡ moment_text c.args.self.now = text_is civil c.args.self.now c.civil.ensures.range c.civil.ensures.instant in
    rw (
      sym is,
      sym year,
      sym (padded_integral-zeros 4 c.unsigned_abs-year.result),
      sym (padded_integral-zeros 2 civil.date.month),
      sym (padded_integral-zeros 2 civil.date.day),
      sym (padded_integral-zeros 2 civil.time.hour),
      sym (padded_integral-zeros 2 civil.time.minute),
      sym (padded_integral-zeros 2 civil.time.second),
    ) (rw (c.laid_out.ensures, c.laid_out-2.ensures, c.laid_out-3.ensures, c.laid_out-4.ensures, c.laid_out-5.ensures, c.laid_out-6.ensures) at c.write.ensures.writes)
