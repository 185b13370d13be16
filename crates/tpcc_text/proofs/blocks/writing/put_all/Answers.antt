use Rattle.tpcc_text.proofs.blocks.writing.put_all.Goals as goal

pub returns-in_default-clause-written : goal.returns-in_default-clause-written
returns-in_default-clause-written g c = tt

pub returns-in_default-2-clause-written : goal.returns-in_default-2-clause-written
returns-in_default-2-clause-written g c = tt

pub returns-in_default-3-clause-written : goal.returns-in_default-3-clause-written
returns-in_default-3-clause-written g c = tt
