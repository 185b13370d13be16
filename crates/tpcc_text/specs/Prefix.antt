-- Bytes of which a part was written.
use Rattle.std.specs.Prelude.{◌≡◌, ℕ, ◌≤◌, List, ◌++◌, length, take, Option}
use Rattle.std.specs.Io.KnownBytes.{Appends}

-- the sink has added some first bytes of these
pub record AppendsPrefix (held now : Option (List ℕ)) (bytes : List ℕ) : Type 0 where
  pub count : ℕ
  pub within : count ≤ length bytes
  pub added : Appends held now (take count bytes)

-- the sink has added some first bytes of these, and the others wait
pub record PassesBytes (held now : Option (List ℕ)) (bytes waits : List ℕ) : Type 0 where
  pub sent : List ℕ
  pub bytes_are : bytes ≡ sent ++ waits
  pub added : Appends held now sent
