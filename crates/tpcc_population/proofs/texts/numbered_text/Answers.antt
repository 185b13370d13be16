use Rattle.std.proofs.Common.{rules, arith, ap}
use Rattle.std.specs.Prelude.{length}
use Rattle.std.proofs.lemmas.Fmt.{length-decimal-le}
use Rattle.tpcc_population.proofs.texts.numbered_text.Goals as goal

pub extend_padded-requires : goal.extend_padded-requires
extend_padded-requires g c = (
  search (rules, arith, c.requires.short),
  (
    c.requires.short,
    (
      c.requires.few,
      (
        length-decimal-le c.args.places c.args.number c.requires.some c.requires.small (omega (arith, c.ranges.number.fits)),
        omega (arith, ap length c.of-text.ensures.text, c.requires.room),
      ),
    ),
  ),
)
