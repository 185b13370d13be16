-- Two tests at once.
use Rattle.std.proofs.Common.{◌≡◌, Bool, true, false, refl}
use Rattle.std.specs.Prelude.{◌&&◌}

pub both_true : (a b : Bool) → a ≡ true → b ≡ true → (a && b) ≡ true
both_true true b e f = f
both_true false b e f = e

pub split : (a b : Bool) → (a && b) ≡ true → (a ≡ true) × (b ≡ true)
split true b e = (refl, e)
split false b e = cc
