use Rattle.std.proofs.Common.{◌++◌}
use Rattle.tpcc_text.proofs.BlockSteps.{none_part}
use Rattle.tpcc_show.proofs.texts.put_screen.Goals as goal

pub returns-in-Err-clause-part : goal.returns-in-Err-clause-part
returns-in-Err-clause-part g c = λ text made. none_part (g.W.Write.contents c.args.out.now) (c.args.blocks.now ++ text)
