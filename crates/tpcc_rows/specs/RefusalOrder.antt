-- The numbers of the refusals: the tests stand in this order.
use Rattle.std.specs.Prelude.{ℕ}
use Rattle.tpcc_rows.specs.declared.transactions.refusals.Refusal.{Refusal}
use Rattle.tpcc_rows.specs.declared.transactions.refusals.Refusal.TheVariants.{NoWarehouse, NoDistrict, NoCustomer, LineCount, Quantity, NoSupply, Amount, Carrier, Threshold, Stranger, JournalFull, QueueFull, OrderNumbers, Count, Total, NoMemory}

abbrev pub refusal_number : Refusal → ℕ
refusal_number NoWarehouse = 1
refusal_number NoDistrict = 2
refusal_number NoCustomer = 3
refusal_number LineCount = 4
refusal_number Quantity = 5
refusal_number NoSupply = 6
refusal_number Amount = 7
refusal_number Carrier = 8
refusal_number Threshold = 9
refusal_number (Stranger seen) = 10
refusal_number JournalFull = 11
refusal_number QueueFull = 12
refusal_number OrderNumbers = 13
refusal_number (Count field) = 14
refusal_number (Total field) = 15
refusal_number NoMemory = 16
