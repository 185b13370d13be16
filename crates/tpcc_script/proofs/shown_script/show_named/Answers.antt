use Rattle.std.proofs.Common.{subst, refl, inl}
use Rattle.std.specs.Prelude.{[], Err, IfOk, OnErr}
use Rattle.tpcc_book.specs.Past.{Past, opening_past}
use Rattle.tpcc_text.proofs.BlockSteps.{none_part}
use Rattle.tpcc_show.specs.Shown.{served_text}
use Rattle.tpcc_text.specs.declared.script.fault.ScriptFault.TheVariants.{NoMemory}
use Rattle.tpcc_text.specs.Script.{script_of}
use Rattle.tpcc_script.specs.Session.{book_of}
use Rattle.tpcc_script.specs.ShownScript.{HasShownScript, HasShownScriptPrefix}
use Rattle.tpcc_script.proofs.shown_script.show_named.Goals as goal

pub returns-in-Ok : goal.returns-in-Ok
returns-in-Ok g c = record {
  shown = λ bytes known.
      subst (λ (p : Past). IfOk c.show_session.result (HasShownScript (book_of p) (script_of bytes) c.args.parts.now (g.W.Write.contents c.args.out.now) (g.W.Write.contents c.show_session.new.out)))
      c.in-Ok.ensures.started (c.show_session.ensures.shown bytes known);
  part = λ bytes known.
      subst (λ (p : Past). OnErr c.show_session.result (HasShownScriptPrefix (book_of p) (script_of bytes) c.args.parts.now (g.W.Write.contents c.args.out.now) (g.W.Write.contents c.show_session.new.out)))
      c.in-Ok.ensures.started (c.show_session.ensures.part bytes known);
  kept = c.show_session.ensures.kept;
}

pub returns-in-Err-clause-part : goal.returns-in-Err-clause-part
returns-in-Err-clause-part g c = λ bytes known. record {
  book = opening_past c.args.opening.now;
  screens = [];
  ended = Err NoMemory;
  ran = inl (record { done = []; rest = (script_of bytes).calls; calls_are = refl; wrote = record { text = []; prints = (refl, refl); added = refl } });
  part = none_part (g.W.Write.contents c.args.out.now) (served_text [] (opening_past c.args.opening.now) c.args.parts.now);
}
