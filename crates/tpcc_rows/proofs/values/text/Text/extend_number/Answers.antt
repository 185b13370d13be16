use Rattle.std.proofs.Common.{rules, arith, ap, ◌∙◌, ◌≡◌, decimal, length}
use Rattle.std.specs.List.{list_all}
use Rattle.std.proofs.lemmas.Fmt.{length-decimal-le}
use Rattle.tpcc_rows.specs.Printable.{is_printable}
use Rattle.tpcc_rows.proofs.PrintableTexts.{decimal_printable}
use Rattle.tpcc_rows.proofs.values.text.Text.extend_number.Goals as goal

pub extend-requires : goal.extend-requires
extend-requires g c =
    let digits : c.as_bytes.result.now ≡ decimal c.args.number = c.as_bytes.ensures.value ∙ c.format.ensures.text in
    let few = length-decimal-le 10 c.args.number (omega arith) (omega (arith, c.ranges.number.fits)) (omega (arith, c.ranges.number.fits)) in (
      search (rules, arith, c.requires.short),
      (
        c.requires.short,
        (
          omega (arith, ap length digits, few, c.requires.room),
          ap (list_all is_printable) digits ∙ decimal_printable c.args.number (omega (arith, c.ranges.number.fits)),
        ),
      ),
    )
