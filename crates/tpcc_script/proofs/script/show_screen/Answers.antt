use Rattle.tpcc_text.proofs.BlockSteps.{flush_passes, flush_broken}
use Rattle.tpcc_script.proofs.script.show_screen.Goals as goal

pub returns-clause-ok : goal.returns-clause-ok
returns-clause-ok g c = flush_passes _ _ _ _ _ _ c.flush.result c.in_ok-put.ensures.ok c.flush.ensures.ok c.flush.ensures.none

pub returns-clause-err : goal.returns-clause-err
returns-clause-err g c = flush_broken _ _ _ _ _ c.flush.result c.in_ok-put.ensures.ok c.flush.ensures.err
