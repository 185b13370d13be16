use Rattle.std.proofs.Common.{arith, refl, rules, true}
use Rattle.tpcc_rows.specs.Printable.{is_printable}
use Rattle.tpcc_rows.proofs.Booleans.{both_true}
use Rattle.tpcc_rows.proofs.values.text.Text.push.Goals as goal

pub extend-requires : goal.extend-requires
extend-requires g c =
    (search (rules, arith, c.requires.short), (c.requires.short, (omega (arith, c.requires.room), both_true (is_printable c.args.byte) true c.requires.printable refl)))
