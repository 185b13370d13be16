use Rattle.std.proofs.Common.{◌∙◌, ap, sym, arith}
use Rattle.std.specs.Prelude.{not}
use Rattle.std.proofs.lemmas.List.Sums.{prefix_len-le-length}
use Rattle.tpcc_storage.proofs.Run.{line_not_after}
use Rattle.tpcc_storage.proofs.Stretch.{front_grows, front_ends}
use Rattle.tpcc_storage.proofs.by_district.runs.end_of.Goals as goal

pub returns-then-is_after-clause-end : goal.returns-then-is_after-clause-end
returns-then-is_after-clause-end c =
    let test = line_not_after c.args.warehouse c.args.district c.args.order in
    let fails = ap test (sym c.index-rows-end.is) ∙ ap not (sym c.is_after.ensures ∙ c.if-is_after.true) in
    front_ends test c.args.rows.now c.loop-end.end c.index-rows-end.result c.loop-end.invariant (omega (arith, c.loop-end-test.true)) fails

pub loop-end-preserved : goal.loop-end-preserved
loop-end-preserved c =
    let test = line_not_after c.args.warehouse c.args.district c.args.order in
    let passes = ap test (sym c.index-rows-end.is) ∙ ap not (sym c.is_after.ensures ∙ c.if-is_after.false) in
    front_grows test c.args.rows.now c.loop-end.end c.index-rows-end.result c.loop-end.invariant (omega (arith, c.loop-end-test.true)) passes

pub returns-clause-end : goal.returns-clause-end
returns-clause-end c =
    omega (arith, c.loop-end.invariant, c.loop-end-test.false, prefix_len-le-length (line_not_after c.args.warehouse c.args.district c.args.order) c.args.rows.now)
