use Rattle.std.proofs.Common.{◌∙◌, sym, ap}
use Rattle.tpcc_rows.specs.Delivery.{district_refusal}
use Rattle.tpcc_delivery.proofs.Run.{none_refused, none_ready, refusal_of_first, first_ready}
use Rattle.tpcc_delivery.proofs.runs.prepare_run.Goals as goal

pub returns-in_default-clause-accepted : goal.returns-in_default-clause-accepted
returns-in_default-clause-accepted c = none_refused c.args.tables.now.rows c.args.queue.now.tickets (sym c.first.ensures.first ∙ c.in_default.is)

pub returns-in_default-clause-ready : goal.returns-in_default-clause-ready
returns-in_default-clause-ready c = none_ready c.args.tables.now.rows c.args.queue.now.tickets c.args.at (sym c.first.ensures.first ∙ c.in_default.is)

pub returns-in-Some-district_refusal-clause-refused : goal.returns-in-Some-district_refusal-clause-refused
returns-in-Some-district_refusal-clause-refused c =
    refusal_of_first c.args.tables.now.rows c.args.queue.now.tickets c.in-Some.first (sym c.first.ensures.first ∙ c.in-Some.is)
    ∙ ap (district_refusal c.args.tables.now.rows c.in-Some.first.ticket.warehouse c.in-Some.first.next) (sym c.oldest_new-order.ensures)
    ∙ sym c.district_refusal.ensures.refusal
    ∙ c.in-Some-district_refusal.is

pub returns-in-None-clause-accepted : goal.returns-in-None-clause-accepted
returns-in-None-clause-accepted c =
    refusal_of_first c.args.tables.now.rows c.args.queue.now.tickets c.in-Some.first (sym c.first.ensures.first ∙ c.in-Some.is)
    ∙ ap (district_refusal c.args.tables.now.rows c.in-Some.first.ticket.warehouse c.in-Some.first.next) (sym c.oldest_new-order.ensures)
    ∙ sym c.district_refusal.ensures.refusal
    ∙ c.in-None.is

pub returns-in-None-clause-ready : goal.returns-in-None-clause-ready
returns-in-None-clause-ready c =
    first_ready c.args.tables.now.rows c.args.queue.now.tickets c.in-Some.first c.args.at c.oldest_new-order.result (sym c.first.ensures.first ∙ c.in-Some.is) c.oldest_new-order.ensures
    (refusal_of_first c.args.tables.now.rows c.args.queue.now.tickets c.in-Some.first (sym c.first.ensures.first ∙ c.in-Some.is)
    ∙ ap (district_refusal c.args.tables.now.rows c.in-Some.first.ticket.warehouse c.in-Some.first.next) (sym c.oldest_new-order.ensures)
    ∙ sym c.district_refusal.ensures.refusal
    ∙ c.in-None.is)
