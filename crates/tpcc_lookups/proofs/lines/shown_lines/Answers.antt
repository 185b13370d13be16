use Rattle.std.proofs.Common.{rules, arith, ap, ◌∙◌, sym, ◌++◌, ◌∷◌, [], ◌+◌, length, map}
use Rattle.std.proofs.lemmas.List.{length-append, map-append, take_all, take_more}
use Rattle.tpcc_rows.specs.Lookups.{status_line}
use Rattle.tpcc_lookups.proofs.lines.shown_lines.Goals as goal

pub push-requires : goal.push-requires
push-requires c = (search rules, omega (arith, c.loop-row.invariant.count, c.loop-row-test.true, c.requires.few))

pub loop-row-preserved : goal.loop-row-preserved
loop-row-preserved c =
    record {
      lines = c.push.ensures.pushed
          ∙ (λ i. c.loop-row.invariant.lines i ++ (c.shown_line.ensures ∙ ap status_line c.row-item.is) i ∷ [])
          ∙ sym (ap (map status_line) (take_more c.args.rows.now c.loop-row.row-index c.row-item.result c.loop-row-test.true) ∙ map-append status_line _ _);
      count = ap length c.push.ensures.pushed ∙ length-append c.loop-row.lines (c.shown_line.result ∷ []) ∙ ap (λ n. n + 1) c.loop-row.invariant.count;
    }

pub returns : goal.returns
returns c = c.loop-row.invariant.lines ∙ ap (map status_line) (take_all c.loop-row.row-index c.args.rows.now (omega (arith, c.loop-row-test.false)))
