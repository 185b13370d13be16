-- The scale and the opening that the options of a command name.
use Rattle.std.specs.Prelude.{◌≡◌, Bool, not, List, [], ◌∷◌, Option, Some, None, if◌then◌else◌}
use Rattle.tpcc_rows.specs.Layout.{Scale}
use Rattle.tpcc_rows.specs.Lists.{first_finding}
use Rattle.tpcc_rows.specs.Ranges.{is_within}
use Rattle.tpcc_rows.specs.declared.limits.TheConstants.{GREATEST_ITEM, GREATEST_WAREHOUSE}
use Rattle.tpcc_population.specs.Regular.{are_customers}
use Rattle.tpcc_population.specs.declared.opening.Opening.{Opening}
use Rattle.tpcc_population.specs.declared.opening.Opening.TheVariants.{Plain, Seeded}
use Rattle.tpcc_population.specs.declared.scale.ScaleFault.{ScaleFault}
use Rattle.tpcc_population.specs.declared.scale.ScaleFault.TheVariants as scale
use Rattle.tpcc_population.specs.declared.scale.TheConstants.{LEAST_ITEMS}
use Rattle.tpcc_program.specs.declared.command.Command.{Command}

-- the scale of the three options
abbrev pub named_scale : Command → Scale
named_scale command = record { warehouses = command.warehouses; customers = command.customers; items = command.items }

-- drawn from the seed where `--seeded` is among the words, else the plain one, which has neither seed nor moment
abbrev pub named_opening : Command → Opening
named_opening command = if command.seeded then Seeded (named_scale command) command.seed command.moment else Plain (named_scale command)

-- what the numbers of a scale must not be
abbrev pub scale_tests : Scale → List (Bool × ScaleFault)
scale_tests s =
    (not (is_within 1 GREATEST_WAREHOUSE s.warehouses), scale.Warehouses)
    ∷ (not (are_customers s.customers), scale.Customers)
    ∷ (not (is_within LEAST_ITEMS GREATEST_ITEM s.items), scale.Items) ∷ []

-- why there is no such scale, where there is none: the first of its numbers that is out of its range
abbrev pub scale_fault : Scale → Option ScaleFault
scale_fault s = first_finding (scale_tests s)
