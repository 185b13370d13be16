-- How the parts are seen, and what always holds of them.
use Rattle.std.specs.Prelude.{ℕ, List, map, flat_map}
use Rattle.tpcc_storage.specs.declared.by_district.ByDistrict.TheInside.{Inside}
use Rattle.tpcc_storage.specs.ByDistrict.{ByDistrictView}
use Rattle.tpcc_storage.specs.Internal.DistrictWords.{rows_in, owner_of, AreDistricts}

abbrev pub view_by_district : {T S K : Type 0} → Inside T S K → ByDistrictView T
view_by_district t = record { rows = flat_map rows_in t.parts.items; owners = map owner_of t.parts.items; room = t.room }

abbrev pub IsByDistrict : {T S K : Type 0} → (T → List ℕ) → Inside T S K → Type 0
IsByDistrict key t = AreDistricts key t.len t.room t.parts.items
