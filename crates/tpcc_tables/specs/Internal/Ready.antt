-- Tables that are ready for an order: each district has its parts, and these have room.
use Rattle.std.specs.Prelude.{◌≡◌, ℕ, ◌+◌, ◌<◌, ◌≤◌, Bool, true, List, take}
use Rattle.std.specs.List.{list_all}
use Rattle.tpcc_rows.specs.declared.tables.keys.DistrictKey.{DistrictKey}
use Rattle.tpcc_rows.specs.declared.tables.rows.DistrictRow.{DistrictRow}
use Rattle.tpcc_rows.specs.declared.tables.rows.OrderRow.{OrderRow}
use Rattle.tpcc_rows.specs.declared.tables.rows.OrderLineRow.{OrderLineRow}
use Rattle.tpcc_rows.specs.declared.tables.rows.NewOrderRow.{NewOrderRow}
use Rattle.tpcc_rows.specs.Tables.{district_key}
use Rattle.tpcc_storage.specs.ByDistrict.{ByDistrictView, has_owner}

-- each district has a part
abbrev pub is_open : List DistrictKey → List DistrictRow → Bool
is_open owners districts = list_all (λ d. has_owner owners (district_key d)) districts

pub record IsOpen (ds : List DistrictRow) (os : ByDistrictView OrderRow) (ls : ByDistrictView OrderLineRow) (ns : ByDistrictView NewOrderRow) : Type 0 where
  pub orders : is_open os.owners ds ≡ true
  pub lines : is_open ls.owners ds ≡ true
  pub news : is_open ns.owners ds ≡ true

-- an order of fewer lines than r can be entered with no memory
pub record HasRoomForOrder (r : ℕ) (os : ByDistrictView OrderRow) (ls : ByDistrictView OrderLineRow) (ns : ByDistrictView NewOrderRow) : Type 0 where
  pub orders : 0 < os.room
  pub lines : r ≤ ls.room + 1
  pub news : 0 < ns.room

pub record IsReady (b : Bool) (r : ℕ) (ds : List DistrictRow) (os : ByDistrictView OrderRow) (ls : ByDistrictView OrderLineRow) (ns : ByDistrictView NewOrderRow) : Type 0 where
  pub parts : b ≡ true → IsOpen ds os ls ns
  pub opened : 0 < r → b ≡ true
  pub room : 0 < r → HasRoomForOrder r os ls ns

-- parts of which none is lost, with the same rows and room
pub record IsKept {T : Type 0} (old new : ByDistrictView T) : Type 0 where
  pub rows : new.rows ≡ old.rows
  pub room : new.room ≡ old.room
  pub owners : (k : List ℕ) → has_owner old.owners k ≡ true → has_owner new.owners k ≡ true

-- parts while one is opened for each of the districts up to a place
pub record IsOpening {T : Type 0} (old new : ByDistrictView T) (ds : List DistrictRow) (n : ℕ) : Type 0 where
  pub kept : IsKept old new
  pub opened : is_open new.owners (take n ds) ≡ true
