use Rattle.std.proofs.Common.{sym, subst, ◌++◌, length, drop, replicate}
use Rattle.tpcc_rows.specs.Internal.TextView.{IsText}
use Rattle.tpcc_rows.proofs.InPlace.{copied_in}
use Rattle.tpcc_rows.proofs.values.text.Text.of.Goals as goal

pub invariant_of-result : goal.invariant_of-result
invariant_of-result g c =
    subst (λ written. IsText g.row.N (record { bytes = written ++ drop (length c.args.bytes.now) (replicate g.row.N 0); len = length c.args.bytes.now })) (sym c.copy_from_slice.ensures.after)
    (copied_in g.row.N c.args.bytes.now c.requires.fits c.requires.printable)
