use Rattle.std.proofs.Common.{[]}
use Rattle.tpcc_script.proofs.Runs.{begins, ends_at, goes_at, fails_so, counted_fault}
use Rattle.tpcc_script.proofs.script.serve_lines.Goals as goal

pub lines-init : goal.lines-init
lines-init g c = λ bytes known. begins _ bytes _ _ _ c.new-waiting.ensures known

pub returns-in-Ok-false : goal.returns-in-Ok-false
returns-in-Ok-false g c = record {
  counted = λ bytes known.
      let so = c.lines.invariant bytes known in
      (c.entries.ensures.entries, ends_at _ _ _ bytes _ _ _ _ _ _ _ c.lines.number _ c.in-Ok-false.field-0-test so (c.in-Ok-false.ensures.step so.rest so.left_is));
}

pub returns-in-Err : goal.returns-in-Err
returns-in-Err g c = record {
  counted = λ bytes known.
      let so = c.lines.invariant bytes known in
      counted_fault _ _ _ _ _ c.in-Err.fault (fails_so _ _ _ bytes _ _ _ _ _ _ [] c.lines.number c.in-Err.fault so (c.in-Err.ensures.step so.rest so.left_is));
}

pub lines-preserved : goal.lines-preserved
lines-preserved g c = λ bytes known.
    let so = c.lines.invariant bytes known in
    goes_at _ _ _ bytes _ _ _ _ _ _ _ c.lines.number _ c.in-Ok-true.field-0-test so (c.in-Ok-true.ensures.step so.rest so.left_is)
