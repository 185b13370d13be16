-- Keys of the tables are equal where their numbers are.
use Rattle.std.proofs.Common.{◌≡◌, [], ◌∷◌, arith}
use Rattle.std.proofs.lemmas.Bool.Decides.{nat_tests}
use Rattle.tpcc_rows.specs.declared.tables.keys.WarehouseKey.{WarehouseKey}
use Rattle.tpcc_rows.specs.declared.tables.keys.DistrictKey.{DistrictKey}
use Rattle.tpcc_rows.specs.declared.tables.keys.CustomerKey.{CustomerKey}
use Rattle.tpcc_rows.specs.declared.tables.keys.ItemKey.{ItemKey}
use Rattle.tpcc_rows.specs.declared.tables.keys.StockKey.{StockKey}
use Rattle.tpcc_rows.specs.contracts.tables.keys.WarehouseKeyPartialEq.TheImpl as warehouse
use Rattle.tpcc_rows.specs.contracts.tables.keys.DistrictKeyPartialEq.TheImpl as district
use Rattle.tpcc_rows.specs.contracts.tables.keys.CustomerKeyPartialEq.TheImpl as customer
use Rattle.tpcc_rows.specs.contracts.tables.keys.ItemKeyPartialEq.TheImpl as item
use Rattle.tpcc_rows.specs.contracts.tables.keys.StockKeyPartialEq.TheImpl as stock
use Rattle.tpcc_storage.specs.Searches.{is_same_key}

pub same_warehouse : (sought k : WarehouseKey) → warehouse.eq-value.it sought k ≡ is_same_key (k.warehouse ∷ []) (sought.warehouse ∷ [])
same_warehouse sought k = grind (arith, nat_tests)

pub same_district : (sought k : DistrictKey) → district.eq-value.it sought k ≡ is_same_key (k.warehouse ∷ k.district ∷ []) (sought.warehouse ∷ sought.district ∷ [])
same_district sought k = grind (arith, nat_tests)

pub same_customer : (sought k : CustomerKey) → customer.eq-value.it sought k ≡ is_same_key (k.warehouse ∷ k.district ∷ k.customer ∷ []) (sought.warehouse ∷ sought.district ∷ sought.customer ∷ [])
same_customer sought k = grind (arith, nat_tests)

pub same_item : (sought k : ItemKey) → item.eq-value.it sought k ≡ is_same_key (k.item ∷ []) (sought.item ∷ [])
same_item sought k = grind (arith, nat_tests)

pub same_stock : (sought k : StockKey) → stock.eq-value.it sought k ≡ is_same_key (k.warehouse ∷ k.item ∷ []) (sought.warehouse ∷ sought.item ∷ [])
same_stock sought k = grind (arith, nat_tests)
