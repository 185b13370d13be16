-- What contracts see of rows that are kept in parts, one for each district.
use Rattle.std.specs.Prelude.{ℕ, Bool, List, [], ◌∷◌, take}
use Rattle.std.specs.List.{list_any}
use Rattle.tpcc_rows.specs.declared.tables.keys.DistrictKey.{DistrictKey}
use Rattle.tpcc_storage.specs.Searches.{is_same_key}

-- the rows of all parts in ascending order of their keys, the districts that have a part, and how many more rows
-- any of those districts can take with no memory
pub record ByDistrictView (T : Type 0) : Type 0 where
  pub rows : List T
  pub owners : List DistrictKey
  pub room : ℕ

abbrev pub district_numbers : DistrictKey → List ℕ
district_numbers k = k.warehouse ∷ k.district ∷ []

-- the key is that of a row of the district: its first two numbers are the district's
abbrev pub is_of : DistrictKey → List ℕ → Bool
is_of k key = is_same_key (take 2 key) (district_numbers k)

-- the district of a key has a part
abbrev pub has_owner : List DistrictKey → List ℕ → Bool
has_owner owners key = list_any (λ k. is_of k key) owners
