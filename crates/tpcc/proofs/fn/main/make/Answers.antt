use Rattle.std.proofs.Common.{rules, refl}
use Rattle.std.proofs.Common.{◌≡◌, ℕ, ◌<◌}
use denote.Ref.{MutBor}
use denote.Param.Members.{Called}
use Rattle.tpcc_rows.specs.declared.transactions.requests.Request.{Request}
use Rattle.tpcc_book.specs.declared.register.outcome.Turned.{Turned}
use Rattle.tpcc_book.specs.Past.{Past}
use Rattle.tpcc_book.specs.Turn.{IsTurn}
use Rattle.tpcc_server.proofs.Boxes.{carried, Tells, MayCall}
use Rattle.tpcc.proofs.fn.main.make.Hides.{has-1-1}
use Rattle.tpcc.proofs.fn.main.make.Goals as goal

-- what is known of a call's arguments and its answer
abbrev Q : MutBor Past × (Request × (ℕ × (ℕ × Unit {0}))) → Turned × (MutBor Past × Unit {0}) → Type 0
Q a r = IsTurn a.0.now a.1.1.0 a.1.1.1.0 a.1.0 r.0 r.1.0.now

pub new-requires-2 : goal.new-requires-2
new-requires-2 g c =
    let h = has-1-1 g.dyn-1.0 g.dyn-1-has in
    record {
      takes = λ register request terminal number.
          carried g.dyn-1.0 (MayCall g.dyn-1.0) _ c.into_dyn_box.result.vtable (h.at tt) c.into_dyn_box.ensures.0 (h.same tt) (λ v a. ∣ tt ∣₁) c.into_dyn_box.result.value (register, (request, (terminal, (number, tt))));
      turns = λ register request terminal number made left small less post.
          carried g.dyn-1.0 (Tells g.dyn-1.0 Q) _ c.into_dyn_box.result.vtable (h.at tt) c.into_dyn_box.ensures.0 (h.same tt) (λ v w a r called. called.met.1.0) c.into_dyn_box.result.value post.1.0 (register, (request, (terminal, (number, tt)))) (made, (left, tt)) post.1.1;
    }
