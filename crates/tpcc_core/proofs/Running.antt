-- Lists of events, one after another.
use Rattle.std.proofs.Common.{◌≡◌, ◌∙◌, ap, refl, subst, ℕ, List, [], ◌∷◌, ◌++◌, length}
use Rattle.std.specs.Prelude.{true, false, Some, slice_get}
use Rattle.tpcc_core.specs.declared.event.Event.{Event}
use Rattle.tpcc_core.specs.Desks.{DeskNow}
use Rattle.tpcc_core.specs.Events.{is_ready, is_post, Steps}
use Rattle.tpcc_core.specs.Runs.{Moves, Passes, StopsAt}

-- one event more
pub passes_more : (d : DeskNow) (es : List Event) (m : DeskNow) (e : Event) (n : DeskNow) → Passes d es m → Moves m e n → Passes d (es ++ e ∷ []) n
passes_more d [] m e n same moves = (n, subst (λ x. Moves x e n) same moves, refl)
passes_more d (x ∷ es) m e n passes moves = (passes.0, passes.1, passes_more passes.0 es m e n passes.2 moves)

-- a ready event that happened
pub ready_step : (old : DeskNow) (e : Event) (new : DeskNow) → is_ready old e ≡ true → Steps old e new → Moves old e new
ready_step old e new ready steps = rw ready steps

-- an event that was not ready
pub no_step : (old : DeskNow) (e : Event) (new : DeskNow) → is_ready old e ≡ false → new ≡ old → Moves old e new
no_step old e new ready same = rw ready same

-- one list of events after another
pub passes_both : (d : DeskNow) (es later : List Event) (m n : DeskNow) → Passes d es m → Passes m later n → Passes d (es ++ later) n
passes_both d [] later m n same rest = subst (λ x. Passes x later n) same rest
passes_both d (e ∷ es) later m n p rest = (p.0, p.1, passes_both p.0 es later m n p.2 rest)

-- the event at which a run ends
pub stops : (events yielded rest : List Event) (e : Event) (count : ℕ) (old new : DeskNow) → events ≡ yielded ++ e ∷ rest → count ≡ length yielded
    → is_ready old e ≡ true → is_post e ≡ true → new ≡ old → StopsAt events count new
stops events yielded rest e count old new whole counted ready post same =
    record { event = e; found = ap (slice_get events) counted ∙ (ap (λ es. slice_get es (length yielded)) whole ∙ next yielded); ready = ap (λ d. is_ready d e) same ∙ ready; post = post }
  where
    next : (xs : List Event) → slice_get (xs ++ e ∷ rest) (length xs) ≡ Some e
    next [] = refl
    next (x ∷ xs) = next xs
