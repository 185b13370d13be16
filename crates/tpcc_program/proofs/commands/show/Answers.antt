use Rattle.std.proofs.Common.{inr}
use Rattle.tpcc_program.proofs.EndedScripts.{all_shown}
use Rattle.tpcc_program.proofs.commands.show.Goals as goal

pub returns-in-Ok : goal.returns-in-Ok
returns-in-Ok g c = record {
  shown = λ bytes known.
      all_shown c.args.opening.now bytes c.args.parts.now (g.W.Write.contents c.args.out.now) (g.W.Write.contents c.show_script.new.out) c.in-Ok.ended
      (c.in-Ok.ensures.shown bytes known) c.in-Ok.ensures.kept;
}

pub returns-in-Err : goal.returns-in-Err
returns-in-Err g c = record { shown = λ bytes known. inr (c.in-Err.ensures.part bytes known) }
