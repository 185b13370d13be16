-- What the code tells of a broken condition, as the model has it.
use Rattle.tpcc_rows.specs.Conditions as model
use Rattle.tpcc_conditions.specs.declared.broken.Broken.{Broken}

abbrev pub as_model : Broken → model.Broken
as_model b = record { condition = b.condition; warehouse = b.warehouse; district = b.district; number = b.number }
