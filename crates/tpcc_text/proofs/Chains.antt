-- Texts put one behind another.
use Rattle.std.proofs.Common.{◌≡◌, ◌∙◌, ap, subst, ℕ, List, ◌++◌, append_assoc}
use Rattle.std.specs.Prelude.{Result, Ok, Err, OnOk}
use Rattle.tpcc_text.specs.Internal.Adding.{Adds}

-- a text, and a tail behind it
pub behind : {old mid new text tail : List ℕ} → Adds old mid text → Adds mid new tail → Adds old new (text ++ tail)
behind {old = old} {text = text} {tail = tail} e f = record { whole = f.whole ∙ ap (λ z. z ++ tail) e.whole ∙ append_assoc old text tail }

-- the same text in other words
pub told : {E : Type 0} (old new text said : List ℕ) (r : Result (Unit {0}) E) → text ≡ said → OnOk r (Adds old new text) → OnOk r (Adds old new said)
told old new text said (Ok done) e added = subst (Adds old new) e added
told old new text said (Err refused) e added = tt
