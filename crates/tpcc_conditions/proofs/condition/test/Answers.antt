use Rattle.std.proofs.Common.{◌≡◌, ap, sym, ◌∙◌, arith}
use Rattle.std.specs.Prelude.{option_map}
use Rattle.tpcc_tables.specs.Positions.{count_of}
use Rattle.tpcc_conditions.specs.Broken.{as_model}
use Rattle.tpcc_conditions.specs.Internal.First.{first_to}
use Rattle.tpcc_conditions.proofs.First.{no_row, fails_here, keeps_here, all_are}
use Rattle.tpcc_conditions.proofs.condition.test.Goals as goal

pub loop-position-init : goal.loop-position-init
loop-position-init c = no_row c.args.condition c.args.tables.now.rows

pub returns-in-Some-clause-broken : goal.returns-in-Some-clause-broken
returns-in-Some-clause-broken c =
    fails_here c.args.condition c.args.tables.now.rows c.loop-position.position (as_model c.in-Some.broken) c.loop-position.invariant (sym c.broken_at.ensures ∙ ap (option_map as_model) c.in-Some.is)

pub loop-position-preserved : goal.loop-position-preserved
loop-position-preserved c =
    keeps_here c.args.condition c.args.tables.now.rows c.loop-position.position c.loop-position.invariant (sym c.broken_at.ensures ∙ ap (option_map as_model) c.in_default.is)

pub returns-clause-held : goal.returns-clause-held
returns-clause-held c =
    let rows = c.args.tables.now.rows in
    let at : c.loop-position.position ≡ c.count-position-end.result = omega arith in
    sym (all_are c.args.condition rows) ∙ ap (first_to c.args.condition rows) (sym (at ∙ c.count-position-end.ensures ∙ ap (count_of rows) c.table.ensures)) ∙ c.loop-position.invariant
