use Rattle.std.proofs.Common.{◌∙◌}
use Rattle.tpcc_population.proofs.Joined.{joined}
use Rattle.tpcc_population.proofs.filled.all_lists.Goals as goal

pub returns : goal.returns
returns g c =
    let orders = c.in_ok-orders.ensures in
    let homes = c.in_ok-homes.ensures in
    let goods = c.in_ok-goods.ensures in
    record { rows = c.join.ensures ∙ joined homes.warehouses homes.districts homes.customers homes.histories orders.orders orders.lines orders.new goods.items goods.stocks }
