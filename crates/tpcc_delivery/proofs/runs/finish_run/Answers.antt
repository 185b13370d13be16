use Rattle.std.proofs.Common.{◌∙◌, sym}
use Rattle.tpcc_delivery.proofs.Run.{district_known}
use Rattle.tpcc_delivery.proofs.runs.finish_run.Goals as goal

pub deliver_district-requires-clause-carrier : goal.deliver_district-requires-clause-carrier
deliver_district-requires-clause-carrier c =
    (district_known c.args.tables.now.rows c.args.queue.now.tickets c.args.at c.in-District.delivery c.in_range.ensures.range c.requires.ready.accepted (sym c.in-District.is ∙ c.requires.ready.reply)).carrier

pub deliver_district-requires-clause-accepted : goal.deliver_district-requires-clause-accepted
deliver_district-requires-clause-accepted c =
    (district_known c.args.tables.now.rows c.args.queue.now.tickets c.args.at c.in-District.delivery c.in_range.ensures.range c.requires.ready.accepted (sym c.in-District.is ∙ c.requires.ready.reply)).accepted
