use Rattle.std.proofs.Common.{rules, arith, ap, ◌∙◌, sym, ◌++◌, ◌∷◌, [], ◌+◌, length}
use Rattle.std.proofs.lemmas.List.{length-append, take_all, take_more}
use Rattle.tpcc_tables.proofs.lookups.copies.copy_lines.Goals as goal

pub push-requires : goal.push-requires
push-requires c = (search rules, omega (arith, c.loop-line.invariant.count, c.loop-line-test.true, c.requires.few))

pub loop-line-preserved : goal.loop-line-preserved
loop-line-preserved c =
    record {
      rows = c.push.ensures.pushed
          ∙ (λ i. c.loop-line.invariant.rows i ++ c.line-item.is i ∷ [])
          ∙ sym (take_more c.args.lines.now c.loop-line.line-index c.line-item.result c.loop-line-test.true);
      count = ap length c.push.ensures.pushed ∙ length-append c.loop-line.rows (c.line-item.result ∷ []) ∙ ap (λ n. n + 1) c.loop-line.invariant.count;
    }

pub returns : goal.returns
returns c = c.loop-line.invariant.rows ∙ take_all c.loop-line.line-index c.args.lines.now (omega (arith, c.loop-line-test.false))
