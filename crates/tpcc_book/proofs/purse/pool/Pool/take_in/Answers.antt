use Rattle.std.proofs.Common.{◌≤◌, ◌^◌, arith}
use Rattle.tpcc_book.proofs.purse.pool.Pool.take_in.Goals as goal

pub invariant_of-self-inside : goal.invariant_of-self-inside
invariant_of-self-inside g c =
    let s = c.self.inside in
    let p = c.purse.inside in
    let small : c.from.result ≤ 2 ^ 64 = grind arith in (
      omega (arith, c.merge.ensures.parts, s.entry_parts, p.entry_parts),
      (
        omega (arith, c.merge-2.ensures.parts, s.cent_parts, p.cent_parts),
        (
          omega (arith, c.merge.ensures.amount, s.entry_amount, p.entry_amount, c.from.ensures),
          (
            omega (arith, c.merge-2.ensures.amount, s.cent_amount, p.cent_amount, c.from-2.ensures),
            (
              omega (arith, c.merge.ensures.parts, c.merge.ensures.apart, s.entry_parts, p.entry_parts),
              (
                omega (arith, s.entries_small, small),
                (omega (arith, s.cents_small, c.from-2.ensures, p.small), tt),
              ),
            ),
          ),
        ),
      ),
    )
