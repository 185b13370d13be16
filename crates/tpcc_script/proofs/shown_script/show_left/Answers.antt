use Rattle.tpcc_script.proofs.shown_script.show_left.Goals as goal

pub returns-in-Err-clause-part : goal.returns-in-Err-clause-part
returns-in-Err-clause-part g c = c.in-Err.ensures.part
