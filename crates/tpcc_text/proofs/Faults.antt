-- A fault that a caller passes on.
use Rattle.std.proofs.Common.{◌≡◌, sym, subst, None}
use Rattle.std.specs.Prelude.{Option, Result, Ok, Err}
use Rattle.std.specs.Result.{IsErrAnd}
use Rattle.tpcc_text.specs.Internal.Reading.{Fails, Gives}
use Rattle.tpcc_text.specs.declared.script.fault.ParseFault.{ParseFault}
use Rattle.tpcc_text.specs.declared.script.fault.ParseFault.TheVariants.{Bad, NoMemory}

fails_too : {A B : Type 0} (fault : ParseFault) (part : Option A) (whole : Option B) → Fails fault part → (part ≡ None → whole ≡ None) → Fails fault whole
fails_too Bad part whole bad none = none bad
fails_too NoMemory part whole bad none = tt

-- where a part can't be read, nor can the whole
pub passed_up : {A B : Type 0} (result : Result B ParseFault) (fault : ParseFault) (part : Option A) (whole : Option B) → IsErrAnd result (λ f. f ≡ fault) → Fails fault part → (part ≡ None → whole ≡ None) → Gives (λ r. r) result whole
passed_up (Ok request) fault part whole same fails none = absurd same
passed_up (Err f) fault part whole same fails none = fails_too f part whole (subst (λ z. Fails z part) (sym same) fails) none
