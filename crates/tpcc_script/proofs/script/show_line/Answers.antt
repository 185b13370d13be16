use Rattle.std.proofs.Common.{rules}
use Rattle.tpcc_script.proofs.Lines.{broken_line, stopped_line}
use Rattle.tpcc_script.proofs.script.show_line.Goals as goal

pub returns-in_ok-flush-in-Err-clause-step : goal.returns-in_ok-flush-in-Err-clause-step
returns-in_ok-flush-in-Err-clause-step g c = λ bytes known.
    stopped_line c.args.number bytes _ _ _ _ _ _ c.in-Err.fault (c.in-Err.ensures.answered bytes known) c.in_ok-flush-in-Err.ensures.ok

pub returns-in_err-flush-in-Err-clause-step : goal.returns-in_err-flush-in-Err-clause-step
returns-in_err-flush-in-Err-clause-step g c = λ bytes known.
    let told = broken_line c.args.number bytes _ _ _ _ _ _ c.in-Err.fault (c.in-Err.ensures.answered bytes known) c.in_err-flush-in-Err.ensures.err in
    search (rules, told)
