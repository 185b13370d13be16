use Rattle.std.proofs.Common.{◌≤◌, ◌+◌, ◌*◌, ◌^◌, ◌∙◌, sym, arith}
use Rattle.tpcc_book.proofs.purse.pool.Pool.of.Goals as goal

pub invariant_of-result : goal.invariant_of-result
invariant_of-result g c =
    let p = c.purse.inside in
    let small : c.from.result ≤ (p.room + 1) * 2 ^ 64 = grind arith in
    (p.entry_parts, (p.cent_parts, (p.entry_amount ∙ sym c.from.ensures, (p.cent_amount ∙ sym c.from-2.ensures, (omega (arith, p.few), (small, (omega (arith, p.small, c.from-2.ensures), tt)))))))
