-- The parts of the districts, and what always holds of them.
use Rattle.std.specs.Prelude.{◌≡◌, ℕ, ◌+◌, ◌<◌, ◌≤◌, ◌^◌, Bool, true, List, [], All, flat_map, length, map, take, drop}
use Rattle.std.specs.List.{list_all, AllWithin}
use Rattle.tpcc_rows.specs.declared.tables.keys.DistrictKey.{DistrictKey}
use Rattle.tpcc_rows.specs.Lists.{by_key, is_ascending, inserted, key_before}
use Rattle.tpcc_storage.specs.Internal.DistrictRows.{DistrictRows}
use Rattle.tpcc_storage.specs.Searches.{is_same_key}
use Rattle.tpcc_storage.specs.ByDistrict.{district_numbers, is_of}

abbrev pub rows_in : {T : Type 0} → DistrictRows T → List T
rows_in p = p.rows.items

abbrev pub owner_of : {T : Type 0} → DistrictRows T → DistrictKey
owner_of p = p.owner

abbrev pub part_numbers : {T : Type 0} → DistrictRows T → List ℕ
part_numbers p = district_numbers p.owner

-- the part of the district of these numbers
abbrev pub is_part : {T : Type 0} → List ℕ → DistrictRows T → Bool
is_part numbers p = is_same_key (part_numbers p) numbers

-- a part's rows are its district's own
abbrev pub owns : {T : Type 0} → (T → List ℕ) → DistrictRows T → Bool
owns key p = list_all (λ row. is_of p.owner (key row)) p.rows.items

abbrev pub HasRoom : {T : Type 0} → ℕ → DistrictRows T → Type 0
HasRoom room p = length p.rows.items + room ≤ p.rows.capacity

-- all of a part but the room of its rows
abbrev pub owner_and_rows : {T : Type 0} → DistrictRows T → DistrictKey × List T
owner_and_rows p = (p.owner, p.rows.items)

-- the first n parts have this room, and nothing else has changed
pub record IsGrown {T : Type 0} (room n : ℕ) (old new : List (DistrictRows T)) : Type 0 where
  pub same : map owner_and_rows new ≡ map owner_and_rows old
  pub kept : (less : ℕ) → All (HasRoom less) old → All (HasRoom less) new
  pub first : AllWithin (HasRoom room) new 0 n

-- one more part, with no rows but with room for so many
pub record IsOpened {T : Type 0} (owner : DistrictKey) (room : ℕ) (old new : List (DistrictRows T)) : Type 0 where
  pub part : DistrictRows T
  pub of_owner : part.owner ≡ owner
  pub empty : part.rows.items ≡ []
  pub roomy : room ≤ part.rows.capacity
  pub put : new ≡ inserted (by_key part_numbers) part old

-- so many rows in all, and room for so many more in each part
pub record AreDistricts {T : Type 0} (key : T → List ℕ) (len room : ℕ) (parts : List (DistrictRows T)) : Type 0 where
  pub ascending : is_ascending part_numbers parts ≡ true
  pub own : list_all (owns key) parts ≡ true
  pub counted : len ≡ length (flat_map rows_in parts)
  pub roomy : All (HasRoom room) parts
  pub bound : len + room < 2 ^ 64

-- the parts hold the rows before a place, and those from there on are of later districts
pub record AreRead {T : Type 0} (key : T → List ℕ) (rows : List T) (start : ℕ) (parts : List (DistrictRows T)) : Type 0 where
  pub ascending : is_ascending part_numbers parts ≡ true
  pub own : list_all (owns key) parts ≡ true
  pub read : flat_map rows_in parts ≡ take start rows
  pub ahead : list_all (λ p. list_all (λ row. key_before (part_numbers p) (take 2 (key row))) (drop start rows)) parts ≡ true
  pub roomy : All (HasRoom 0) parts
  pub within : start ≤ length rows
