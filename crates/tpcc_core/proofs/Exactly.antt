-- A fault that comes exactly where an event is not ready.
use Rattle.std.proofs.Common.{◌≡◌, sym, ap}
use Rattle.std.specs.Prelude.{Bool, false, Result, Ok, Err, is_ok, IfErr, IsErrOf, ◌↔◌}

-- a call that succeeds where b, and fails by this fault alone
pub exactly : {T E : Type 0} (r : Result T E) (fault : E) (b : Bool) → is_ok r ≡ b → IfErr r (λ f. f ≡ fault) → IsErrOf r fault ↔ (b ≡ false)
exactly (Ok v) fault b ready is = (λ h. cc, λ h. cc)
exactly (Err e) fault b ready is = (λ h. sym ready, λ h. ap (λ x. Err x) is)
