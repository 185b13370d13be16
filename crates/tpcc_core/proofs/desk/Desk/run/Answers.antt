use Rattle.std.proofs.Common.{◌∙◌, sym, ap, [], ◌∷◌, ◌++◌, arith}
use Rattle.std.proofs.lemmas.List.{length-append, append_assoc}
use Rattle.tpcc_core.proofs.Running.{passes_more}
use Rattle.tpcc_core.proofs.desk.Desk.run.Goals as goal

pub loop-event-preserved : goal.loop-event-preserved
loop-event-preserved g c = record {
  can = c.loop-event.invariant.can;
  finite = c.loop-event.invariant.finite;
  passes = passes_more c.args.self.now c.loop-event.yielded c.loop-event.self c.in-Some.event c.go.new.self c.loop-event.invariant.passes (c.go.ensures.went c.if-not-go.false);
  counted = omega (arith, c.loop-event.invariant.counted, length-append c.loop-event.yielded (c.in-Some.event ∷ []));
  whole = c.loop-event.invariant.whole ∙ ap (λ xs. c.loop-event.yielded ++ xs) c.in-Some.ensures.steps.0 ∙ sym (append_assoc c.loop-event.yielded (c.in-Some.event ∷ []) _);
}
