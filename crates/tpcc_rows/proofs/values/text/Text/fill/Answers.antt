use Rattle.std.proofs.Common.{arith, ap, refl, rules, ◌∙◌, sym, ◌++◌, length, take, length-take-le}
use Rattle.tpcc_rows.specs.Printable.{is_printable}
use Rattle.tpcc_rows.proofs.InPlace.{cut_added}
use Rattle.tpcc_rows.proofs.PrintableTexts.{list_all-take}
use Rattle.tpcc_rows.proofs.values.text.Text.fill.Goals as goal

pub extend-requires : goal.extend-requires
extend-requires g c = (
  search (rules, arith, c.requires.short),
  (
    c.requires.short,
    (
      omega (arith, c.len.ensures.length, c.len.ensures.fits, c.min-count.ensures, length-take-le c.min-count.result c.args.bytes.now (omega (arith, c.min-count.ensures))),
      list_all-take is_printable c.min-count.result c.args.bytes.now c.requires.printable,
    ),
  ),
)

pub returns : goal.returns
returns g c = record {
  filled =
      c.extend.ensures.extended
      ∙ ap (λ n. c.args.self.now ++ take n c.args.bytes.now) (omega (arith, c.min-count.ensures, c.len.ensures.length))
      ∙ sym (cut_added g.row.N (length c.args.self.now) c.args.self.now c.args.bytes.now refl (omega (arith, c.len.ensures.length, c.len.ensures.fits)));
}
