use Rattle.std.proofs.Common.{◌∙◌}
use Rattle.std.specs.List.{range_with_len}
use Rattle.std.proofs.lemmas.List.FromFn.{length-range_with_len}
use Rattle.std.proofs.lemmas.List.Sorted.{length_permutation}
use Rattle.tpcc_population.proofs.seeded.orders.order_customers.Goals as goal

pub returns-clause-length : goal.returns-clause-length
returns-clause-length c =
    length_permutation (range_with_len 1 c.customers.result) c.in_ok-customers.customers.items c.in_ok-customers.ensures.order
    ∙ length-range_with_len 1 c.customers.result
    ∙ c.customers.ensures.value
    ∙ (λ i. (c.rules.view_is i).scale.customers)
