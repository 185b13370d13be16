use Rattle.std.proofs.Common.{rules, ◌∙◌, ap}
use Rattle.tpcc_rows.specs.Lists.{sorted}
use Rattle.tpcc_storage.specs.Names.{name_cmp, name_before}
use Rattle.tpcc_storage.proofs.Order.{in_order-from_sort_by, count_moved, sorted_is}
use Rattle.tpcc_storage.proofs.Name.{name_total, name_order, names_tied}
use Rattle.tpcc_storage.proofs.names.sort_names.Goals as goal

pub returns-clause-names : goal.returns-clause-names
returns-clause-names c =
    let new = c.sort_unstable_by.new.self.items in
    let old = c.in_ok-names.names.items in
    let up = in_order-from_sort_by name_cmp name_total new c.sort_unstable_by.ensures.sorted (λ a r f k. search rules) in
    sorted_is name_before name_order names_tied old new up (λ q. count_moved q old new c.sort_unstable_by.ensures.permutation)
    ∙ ap (sorted name_before) c.in_ok-names.ensures

pub returns-clause-order : goal.returns-clause-order
returns-clause-order c = in_order-from_sort_by name_cmp name_total c.sort_unstable_by.new.self.items c.sort_unstable_by.ensures.sorted (λ a r f k. search rules)
