-- Receipts that were kept stand in the fronts of purses that were kept.
use Rattle.std.proofs.Common.{◌≡◌, ◌∙◌, ap, ℕ, zero, suc, List, [], ◌∷◌, ◌++◌, append-nil, length, refl, sym, subst, Some}
use Rattle.std.specs.Prelude.{slice_get, Bool, true, false, Vec, if◌then◌else◌}
use Rattle.std.specs.declared.alloc.Global.{Global}
use Rattle.std.proofs.lemmas.List.Elements.{All-append}
use Rattle.std.proofs.lemmas.List.Concat.{flat_map-append}
use Rattle.tpcc_turns.specs.Seats.{SeatedView}
use Rattle.tpcc_terminal.specs.declared.receipts.Receipt.{Receipt}
use Rattle.tpcc_terminal.specs.Receipts.{AllStand}
use Rattle.tpcc_audit.specs.Settlement.{IsSeen, AllSeen, all_receipts}

read_before : (xs ys : List SeatedView) (k : ℕ) (p : SeatedView) → slice_get xs k ≡ Some p → slice_get (xs ++ ys) k ≡ Some p
read_before [] ys k p h = absurd (cc h)
read_before (x ∷ xs) ys zero p h = h
read_before (x ∷ xs) ys (suc k) p h = read_before xs ys k p h

read_last : (xs : List SeatedView) (p : SeatedView) → slice_get (xs ++ p ∷ []) (length xs) ≡ Some p
read_last [] p = refl
read_last (x ∷ xs) p = read_last xs p

-- one more purse
pub seen_before : (purses : List SeatedView) (p : SeatedView) (receipts : List Receipt) → AllSeen purses receipts → AllSeen (purses ++ p ∷ []) receipts
seen_before purses p receipts seen k d below =
    let s = seen k d below in
    record { place = s.place; purse = s.purse; there = read_before purses (p ∷ []) s.place s.purse s.there; stands = s.stands }

seen_last : (purses : List SeatedView) (p : SeatedView) (receipts : List Receipt) → AllStand p.front receipts → AllSeen (purses ++ p ∷ []) receipts
seen_last purses p receipts stand k d below =
    record { place = length purses; purse = p; there = read_last purses p; stands = stand k d below }

-- one more purse with its receipts
pub seen_with : (purses : List SeatedView) (p : SeatedView) (before more : List Receipt) → AllSeen purses before → AllStand p.front more → AllSeen (purses ++ p ∷ []) (before ++ more)
seen_with purses p before more seen stand =
    All-append (IsSeen (purses ++ p ∷ [])) before more (seen_before purses p before seen) (seen_last purses p more stand)

-- with all of them, or without them where there was no room
pub seen_appended : (purses held : List SeatedView) (p : SeatedView) (before more now : List Receipt) (ok : Bool) → AllSeen purses before → AllStand p.front more → held ≡ purses ++ p ∷ [] → now ≡ (if ok then before ++ more else before) → AllSeen held now
seen_appended purses held p before more now true seen stand same is =
    subst (λ (rs : List Receipt). AllSeen held rs) (sym is) (subst (λ (ps : List SeatedView). AllSeen ps (before ++ more)) (sym same) (seen_with purses p before more seen stand))
seen_appended purses held p before more now false seen stand same is =
    subst (λ (rs : List Receipt). AllSeen held rs) (sym is) (subst (λ (ps : List SeatedView). AllSeen ps before) (sym same) (seen_before purses p before seen))

-- the receipts of one more vector are behind the others'
receipts_behind : (held : List (Vec Receipt Global)) (more : Vec Receipt Global) → all_receipts (held ++ more ∷ []) ≡ all_receipts held ++ more.items
receipts_behind held more =
    flat_map-append (λ (v : Vec Receipt Global). v.items) held (more ∷ []) ∙ ap (λ (t : List Receipt). all_receipts held ++ t) (append-nil more.items)

pub receipts_pushed : (held now : List (Vec Receipt Global)) (more : Vec Receipt Global) (ok : Bool) → now ≡ (if ok then held ++ more ∷ [] else held) → all_receipts now ≡ (if ok then all_receipts held ++ more.items else all_receipts held)
receipts_pushed held now more true is = ap all_receipts is ∙ receipts_behind held more
receipts_pushed held now more false is = ap all_receipts is
