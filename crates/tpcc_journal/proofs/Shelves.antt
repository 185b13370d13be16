-- Replies kept by kind, and one more.
use Rattle.std.proofs.Common.{◌≡◌, ◌∙◌, ap, refl, ℕ, zero, suc, ◌+◌, ◌-◌, Bool, true, List, [], ◌∷◌, ◌++◌, length, map, arith, Some, slice_get}
use Rattle.std.specs.Prelude.{nat_lt, option_map, unwrap_or, count_by, ◌==◌, if◌then◌else◌}
use Rattle.std.specs.List.{list_all}
use Rattle.std.proofs.lemmas.Bool.Decides.{nat_tests}
use Rattle.std.proofs.lemmas.List.{length_push}
use Rattle.std.proofs.lemmas.List.Sums.{sum_by-append}
use Rattle.tpcc_rows.specs.declared.transactions.entry.Entry.{Entry}
use Rattle.tpcc_rows.specs.declared.transactions.replies.Reply.{Reply}
use Rattle.tpcc_rows.specs.declared.transactions.replies.Reply.TheVariants as tell
use Rattle.tpcc_rows.specs.declared.transactions.replies.Entered.TheVariants as entered
use Rattle.tpcc_rows.specs.declared.transactions.replies.Delivery.TheVariants.{NoneQueued}
use Rattle.tpcc_rows.specs.Replay.{count_of}
use Rattle.tpcc_journal.specs.declared.stored.StoredReply.TheVariants as kept
use Rattle.tpcc_journal.specs.declared.stored.StoredEntry.{StoredEntry}
use Rattle.tpcc_journal.specs.Internal.Kept.{Kinds, Keeps, is_in, reply_at, entry_in}

-- ---- a list, and one that has more behind the same elements

abbrev pub Begins : {X : Type 0} → List X → List X → Type 0
Begins xs ys = (i : ℕ) → nat_lt i (length xs) ≡ true → (nat_lt i (length ys) ≡ true) × (slice_get ys i ≡ slice_get xs i)

pub begins_same : {X : Type 0} (xs ys : List X) → ys ≡ xs → Begins xs ys
begins_same xs ys e i h = (ap (λ zs. nat_lt i (length zs)) e ∙ h, ap (λ zs. slice_get zs i) e)

longer : {X : Type 0} (xs : List X) (y : X) (i : ℕ) → nat_lt i (length xs) ≡ true → (nat_lt i (length (xs ++ y ∷ [])) ≡ true) × (slice_get (xs ++ y ∷ []) i ≡ slice_get xs i)
longer [] y i h = absurd (grind (arith, nat_tests, h))
longer (x ∷ xs) y zero h = (grind (arith, nat_tests), refl)
longer (x ∷ xs) y (suc i) h =
    let rest = longer xs y i (grind (arith, nat_tests, h)) in (grind (arith, nat_tests, rest.0), rest.1)

pub begins_longer : {X : Type 0} (xs ys : List X) (y : X) → ys ≡ xs ++ y ∷ [] → Begins xs ys
begins_longer xs ys y e i h =
    let l = longer xs y i h in (ap (λ zs. nat_lt i (length zs)) e ∙ l.0, ap (λ zs. slice_get zs i) e ∙ l.1)

at_end : {X : Type 0} (xs : List X) (y : X) → slice_get (xs ++ y ∷ []) (length xs) ≡ Some y
at_end [] y = refl
at_end (x ∷ xs) y = at_end xs y

-- ---- replies

same_reply : {X : Type 0} (reply : X → Reply) (xs ys : List X) (i : ℕ) → slice_get ys i ≡ slice_get xs i → reply_at reply ys i ≡ reply_at reply xs i
same_reply reply xs ys i e = ap (λ o. unwrap_or (option_map reply o) (tell.Delivery NoneQueued)) e

-- the reply that was put behind the others
pub last_reply : {X : Type 0} (reply : X → Reply) (xs ys : List X) (y : X) (n : ℕ) → ys ≡ xs ++ y ∷ [] → n ≡ length ys → reply_at reply ys (n - 1) ≡ reply y
last_reply reply xs ys y n e len =
    let place : n - 1 ≡ length xs = omega (arith, len, ap length e, length_push xs y) in
    (λ i. reply_at reply (e i) (place i)) ∙ ap (λ o. unwrap_or (option_map reply o) (tell.Delivery NoneQueued)) (at_end xs y)

pub keeps : (old new : Kinds) → Begins old.orders new.orders → Begins old.payments new.payments → Begins old.statuses new.statuses → Keeps old new
keeps old new orders payments statuses (kept.Accepted i) h =
    let l = orders i h in (l.0, same_reply (λ order. tell.Entered (entered.Accepted order)) old.orders new.orders i l.1)
keeps old new orders payments statuses (kept.RolledBack order) h = (refl, refl)
keeps old new orders payments statuses (kept.Paid i) h = let l = payments i h in (l.0, same_reply tell.Paid old.payments new.payments i l.1)
keeps old new orders payments statuses (kept.Status i) h = let l = statuses i h in (l.0, same_reply tell.Status old.statuses new.statuses i l.1)
keeps old new orders payments statuses (kept.Level level) h = (refl, refl)
keeps old new orders payments statuses (kept.Queued ticket) h = (refl, refl)
keeps old new orders payments statuses (kept.Delivery delivery) h = (refl, refl)

-- ---- entries

-- one more entry, whose reply was put behind the others
pub entries_more : (old new : Kinds) (es : List StoredEntry) (e : StoredEntry) → Keeps old new → list_all (λ x. is_in old x.reply) es ≡ true → map (entry_in new) (es ++ e ∷ []) ≡ map (entry_in old) es ++ entry_in new e ∷ []
entries_more old new [] e keep there = refl
entries_more old new (x ∷ es) e keep there =
    let here : is_in old x.reply ≡ true = grind (arith, there) in
    let rest : list_all (λ y. is_in old y.reply) es ≡ true = grind (arith, there) in
    let same = (keep x.reply here).1 in
    let more = entries_more old new es e keep rest in
    λ i. record { terminal = x.terminal; number = x.number; request = x.request; reply = same i } ∷ more i

pub there_more : (old new : Kinds) (es : List StoredEntry) (e : StoredEntry) → Keeps old new → list_all (λ x. is_in old x.reply) es ≡ true → is_in new e.reply ≡ true → list_all (λ x. is_in new x.reply) (es ++ e ∷ []) ≡ true
there_more old new [] e keep there last = grind (arith, last)
there_more old new (x ∷ es) e keep there last =
    let here : is_in old x.reply ≡ true = grind (arith, there) in
    let rest : list_all (λ y. is_in old y.reply) es ≡ true = grind (arith, there) in
    let first = (keep x.reply here).0 in
    grind (arith, first, there_more old new es e keep rest last)

count_last : {X : Type 0} (p : X → Bool) (xs : List X) (x : X) → count_by p (xs ++ x ∷ []) ≡ count_by p xs + (if p x then 1 else 0)
count_last p xs x = sum_by-append (λ y. if p y then 1 else 0) xs (x ∷ []) ∙ omega arith

same_number : (a b : ℕ) → (a == b) ≡ (b == a)
same_number a b = grind (arith, nat_tests)

pub count_more : (terminal : ℕ) (entries : List Entry) (e : Entry) → count_of terminal (entries ++ e ∷ []) ≡ count_of terminal entries + (if terminal == e.terminal then 1 else 0)
count_more terminal entries e = count_last (λ (x : Entry). x.terminal == terminal) entries e ∙ ap (λ b. count_of terminal entries + (if b then 1 else 0)) (same_number e.terminal terminal)
