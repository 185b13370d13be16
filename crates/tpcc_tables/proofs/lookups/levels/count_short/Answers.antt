use Rattle.std.proofs.Common.{◌∙◌, ◌+◌, sym, arith, drop, get_or, if◌then◌else◌}
use Rattle.tpcc_tables.proofs.Low.{is_below, passing, next_place}
use Rattle.tpcc_tables.proofs.lookups.levels.count_short.Goals.{then-is_counted, else-is_counted}
use Rattle.tpcc_tables.proofs.lookups.levels.count_short.Goals as goal

pub loop-position-preserved : goal.loop-position-preserved
loop-position-preserved c =
    let low = is_below c.args.stocks.now.items c.args.warehouse c.args.threshold in
    let count = c.loop-position.count in
    let lines = c.args.lines.now in
    let item_line = get_or lines c.loop-position.position c.index-lines-position.result in
    let rest = passing low (drop (c.loop-position.position + 1) lines) in
    let next = next_place low lines c.behind.result.now c.loop-position.position item_line c.is_counted.result (passing low lines) count (omega arith) (λ j. get_or lines c.loop-position.position (c.index-lines-position.is j)) c.behind.ensures c.is_counted.ensures c.loop-position.invariant.counted in
    elim c.if-is_counted.branch [
      | then-is_counted w ↦
          record {
            few = omega (arith, w.count-is);
            counted = (λ j. w.count-is j + rest) ∙ (λ j. (if sym w.if-is_counted.true j then count + 1 else count) + rest) ∙ next;
          }
      | else-is_counted w ↦
          record {
            few = omega (arith, w.count-is);
            counted = (λ j. w.count-is j + rest) ∙ (λ j. (if sym w.if-is_counted.false j then count + 1 else count) + rest) ∙ next;
          }
    ]
