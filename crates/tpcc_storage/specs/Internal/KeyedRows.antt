-- The keys of a map's rows.
use Rattle.std.specs.Prelude.{◌≡◌, ℕ, List, map}
use Rattle.std.specs.Map.{keys_of, values_of}

-- each row is the value at its own key
abbrev pub AreUnderKeys : {K T : Type 0} → (T → List ℕ) → (K → List ℕ) → List (K × T) → Type 0
AreUnderKeys key numbers entries = map numbers (keys_of entries) ≡ map key (values_of entries)
