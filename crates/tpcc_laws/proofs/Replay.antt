-- A journal that grows by one entry.
use Rattle.std.proofs.Common.{◌≡◌, List, [], ◌∷◌, ◌++◌, refl, sym, subst, append_assoc, append-nil}
use Rattle.tpcc_rows.specs.declared.transactions.entry.Entry.{Entry}
use Rattle.tpcc_rows.specs.Tables.{State}
use Rattle.tpcc_rows.specs.Turn.{state_after}
use Rattle.tpcc_rows.specs.Replay.{replay, IsServedAt, IsServedAfter, IsFaithful}

-- one more entry is one more transaction
pub replay-push : (s : State) (entries : List Entry) (entry : Entry) → replay s (entries ++ entry ∷ []) ≡ state_after (replay s entries) entry.request
replay-push s [] entry = refl
replay-push s (e ∷ entries) entry = replay-push (state_after s e.request) entries entry

served_push : (s : State) (before entries : List Entry) (entry : Entry) → IsServedAfter s before entries → IsServedAt (replay s entries) (before ++ entries) entry → IsServedAfter s before (entries ++ entry ∷ [])
served_push s before [] entry h here = (subst (λ es. IsServedAt s es entry) (append-nil before) here, tt)
served_push s before (e ∷ entries) entry h here =
    (h.0, served_push (state_after s e.request) (before ++ e ∷ []) entries entry h.1 (subst (λ es. IsServedAt (replay (state_after s e.request) entries) es entry) (sym (append_assoc before (e ∷ []) entries)) here))

-- the journal stays faithful
pub faithful_push : (opening : State) (journal : List Entry) (entry : Entry) → IsFaithful opening journal → IsServedAt (replay opening journal) journal entry → IsFaithful opening (journal ++ entry ∷ [])
faithful_push opening journal entry h here = served_push opening [] journal entry h here
