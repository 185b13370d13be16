use Rattle.std.proofs.Common.{◌≡◌, ◌∙◌, sym, Some, arith}
use Rattle.std.specs.Prelude.{slice_get}
use Rattle.tpcc_delivery.proofs.Queues.{next_fits, moved_in_range}
use Rattle.tpcc_delivery.proofs.delivery_queue.Queue.advance.Goals as goal

pub overflow_add-first : goal.overflow_add-first
overflow_add-first c =
    let there : slice_get c.self.inside.tickets.items 0 ≡ Some c.in-Some.first = (λ i. slice_get (c.self.view_is i).tickets 0) ∙ sym c.first.ensures.first ∙ c.in-Some.is in
    omega (arith, next_fits c.self.inside.tickets.items c.in-Some.first c.self.invariant there)

pub invariant_of-self-else-first-eq10 : goal.invariant_of-self-else-first-eq10
invariant_of-self-else-first-eq10 c =
    moved_in_range c.self.inside.tickets.items c.in-Some.first c.index_mut.result.now c.self.invariant
    ((λ i. slice_get (c.self.view_is i).tickets 0) ∙ sym c.first.ensures.first ∙ c.in-Some.is)
    c.index_mut.ensures.value c.if-first-eq10.false
