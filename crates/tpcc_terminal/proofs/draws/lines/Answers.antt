use Rattle.std.proofs.Common.{◌∙◌, ap, [], ◌∷◌, length, length-append, arith}
use Rattle.tpcc_draws.specs.Draws.{answers}
use Rattle.tpcc_terminal.proofs.Drawn.{no_lines, lines_more}
use Rattle.tpcc_terminal.proofs.draws.lines.Goals as goal

pub loop-number-init : goal.loop-number-init
loop-number-init c = record {
  drawn = (λ i. (c.empty-lines.ensures.none i, answers c.args.stream.now)) ∙ no_lines c.args.home.now c.args.count c.args.is_unused (answers c.args.stream.now);
  count = ap length c.empty-lines.ensures.none;
}

pub loop-number-preserved : goal.loop-number-preserved
loop-number-preserved c =
    let pushed = c.push.ensures.pushed in
    record {
      drawn =
          (λ i. (pushed i, answers c.line-line.new.stream))
          ∙ lines_more c.args.home.now c.args.count c.args.is_unused c.loop-number.number (answers c.args.stream.now) (answers c.loop-number.stream) (answers c.line-line.new.stream) c.loop-number.lines c.is_last.result c.line-line.result c.loop-number.invariant.drawn c.is_last.ensures c.line-line.ensures.drawn;
      count = ap length pushed ∙ omega (arith, length-append c.loop-number.lines (c.line-line.result ∷ []), c.loop-number.invariant.count);
    }
