use Rattle.std.proofs.Common.{rules, arith, ap, ◌∙◌, ◌≡◌, ◌-◌, ◌++◌, decimal, length, take, length-append, append_assoc}
use Rattle.std.specs.Prelude.{ℕ, replicate}
use Rattle.std.specs.List.{list_all}
use Rattle.tpcc_money.specs.Texts.{padded_number}
use Rattle.tpcc_rows.specs.Printable.{is_printable}
use Rattle.tpcc_rows.proofs.InPlace.{zeros_taken, length_zeros}
use Rattle.tpcc_rows.proofs.PrintableTexts.{decimal_printable, zeros_printable}
use Rattle.tpcc_rows.proofs.values.text.Text.extend_padded.Goals as goal

pub extend-requires : goal.extend-requires
extend-requires g c =
    let count = c.args.places - length c.as_bytes-digits.result.now in
    let zeros = zeros_taken count (omega (arith, c.requires.few)) in (
      search (rules, arith, c.requires.short),
      (
        c.requires.short,
        (
          omega (arith, ap length zeros, length_zeros count, c.requires.room),
          ap (list_all is_printable) zeros ∙ zeros_printable count,
        ),
      ),
    )

pub extend-requires-2 : goal.extend-requires-2
extend-requires-2 g c =
    let digits : c.as_bytes-digits.result.now ≡ decimal c.args.number = c.as_bytes-digits.ensures.value ∙ c.format.ensures.text in
    let count = c.args.places - length c.as_bytes-digits.result.now in
    let zeros = zeros_taken count (omega (arith, c.requires.few)) in (
      search (rules, arith, c.requires.short),
      (
        c.requires.short,
        (
          omega (arith, ap length c.extend.ensures.extended, length-append c.args.self.now (take count (replicate {A = ℕ} 16 48)), ap length zeros, length_zeros count, ap length digits, c.requires.digits, c.requires.room),
          ap (list_all is_printable) digits ∙ decimal_printable c.args.number (omega (arith, c.ranges.number.fits)),
        ),
      ),
    )

pub returns : goal.returns
returns g c =
    let digits : c.as_bytes-digits.result.now ≡ decimal c.args.number = c.as_bytes-digits.ensures.value ∙ c.format.ensures.text in
    let count = c.args.places - length c.as_bytes-digits.result.now in
    let zeros = zeros_taken count (omega (arith, c.requires.few)) in
    let written =
    c.extend-2.ensures.extended
    ∙ ap (λ front. front ++ c.as_bytes-digits.result.now) c.extend.ensures.extended
    ∙ append_assoc c.args.self.now (take count (replicate {A = ℕ} 16 48)) c.as_bytes-digits.result.now
    ∙ ap (λ front. c.args.self.now ++ (front ++ c.as_bytes-digits.result.now)) zeros
    ∙ ap (λ ds. c.args.self.now ++ (replicate {A = ℕ} (c.args.places - length ds) 48 ++ ds)) digits in
    let left = c.args.places - length (decimal c.args.number) in
    record {
      written = written;
      long = ap length written ∙ length-append c.args.self.now (padded_number c.args.places c.args.number) ∙ omega (arith, length-append (replicate {A = ℕ} left 48) (decimal c.args.number), length_zeros left, c.requires.digits);
    }
