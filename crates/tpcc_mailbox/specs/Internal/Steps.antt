-- What each step tells the seat that makes it: the word before, and what the seat knows and has in hand before and after.
use mathlib.Core.Option.{none}
use prog.Atomic.{either}
use Rattle.std.specs.Prelude.{◌≡◌, ◌≢◌, ℕ, Bool, true, nat_eq, List, [], ◌∷◌, ◌++◌, ◌==◌, Option, Some, None}
use Rattle.atomic_table.specs.Table.{Me, Step, step, rest, Allows}
use Rattle.atomic_table.specs.declared.shared.Seat.{Seat}
use Rattle.tpcc_mailbox.specs.declared.words.rule.Mail.{Mail}
use Rattle.tpcc_mailbox.specs.declared.words.rule.Mail.TheVariants.{Letter, Reply}
use Rattle.tpcc_mailbox.specs.Views.{Fresh, Free, Sent, Role, Client, Server, Holder, View}
use Rattle.tpcc_mailbox.specs.Rule.{view_with}
use Rattle.tpcc_mailbox.specs.Internal.Rule.{spent, word_of, FollowsRule}

-- what a seat knows and which slots it has in hand
abbrev pub SeatState : Type 0 → Type 0 → Type 0
SeatState J A = Me (Option (Mail J A)) (View J)

abbrev pub WordStep : Type 0 → Type 0 → Type 0
WordStep J A = Step (Option (Mail J A))

module _ {J A : Type 0} where
  -- the seat in the role r, with these slots in hand and all else as before
  abbrev pub with_role : SeatState J A → Role J → List (ℕ × Option (Mail J A)) → SeatState J A
  with_role m r slots = (view_with r m.0.closed m.0.answered, slots)

  -- a free client with a letter in its slot has sent that letter, and the slot is given
  abbrev pub PostStep : WordStep J A → SeatState J A → ℕ → SeatState J A → Type 0
  PostStep st m w m' = (k : ℕ) (j : J) → m.0.roles ≡ Client k Free ∷ [] → m.1 ≡ (k, Some (Letter j)) ∷ [] → m' ≡ with_role m (Client k (Sent j)) []

  -- a server with an empty hand has some letter of the mailbox in it where the word was 1, and the slot with the letter; else all stays
  abbrev pub TakeStep : WordStep J A → SeatState J A → ℕ → SeatState J A → Type 0
  TakeStep st m w m' = (d : ℕ) → m.0.roles ≡ Server d ∷ []
      → (w ≡ 1 → (k : ℕ) → st.word ≡ word_of k → (j : J) × (m' ≡ with_role m (Holder d k j) ((k, Some (Letter j)) ∷ m.1))) × (w ≢ 1 → m' ≡ m)

  -- the server's hand is empty, the slot is given, and the mailbox is one more that the server answered
  abbrev pub AnswerStep : WordStep J A → SeatState J A → ℕ → SeatState J A → Type 0
  AnswerStep st m w m' = (d k : ℕ) (j : J) (y : Option (Mail J A)) → m.0.roles ≡ Holder d k j ∷ [] → m.1 ≡ (k, y) ∷ [] → m' ≡ (view_with (Server d) m.0.closed (m.0.answered ++ k ∷ []), [])

  -- a client finds an answer that fits the letter that it sent where the word was 3, and is free again; else all stays
  abbrev pub CollectStep : (J → A → Type 0) → WordStep J A → SeatState J A → ℕ → SeatState J A → Type 0
  CollectStep fits st m w m' = (k : ℕ) (j : J) → m.0.roles ≡ Client k (Sent j) ∷ []
      → (w ≡ 3 → (a : A) × fits j a × (m' ≡ with_role m (Client k Free) ((k, Some (Reply a)) ∷ m.1))) × (w ≢ 3 → m' ≡ m)

  -- the seat with another flag
  abbrev pub with_flag : SeatState J A → Bool → SeatState J A
  with_flag m c = (record { roles = m.0.roles; closed = c; answered = m.0.answered }, m.1)

  -- the seat has closed
  abbrev pub CloseStep : WordStep J A → SeatState J A → ℕ → SeatState J A → Type 0
  CloseStep st m w m' = m' ≡ with_flag m true

  -- the seat knows whether the word was 1, which it was if the seat knew it before
  abbrev pub ReadStep : WordStep J A → SeatState J A → ℕ → SeatState J A → Type 0
  ReadStep st m w m' = (m' ≡ with_flag m (nat_eq w 1)) × (m.0.closed ≡ true → w ≡ 1)

  -- a new client's first collect finds nothing in its slot
  abbrev pub FirstCollectStep : WordStep J A → SeatState J A → ℕ → SeatState J A → Type 0
  FirstCollectStep st m w m' = (k : ℕ) → m.0.roles ≡ Client k Fresh ∷ [] → m.1 ≡ [] → m' ≡ with_role m (Client k Free) ((k, None) ∷ [])

  -- the new seat has no role and nothing in hand
  abbrev pub EnterStep : WordStep J A → SeatState J A → ℕ → SeatState J A → Type 0
  EnterStep st m w m' = m' ≡ (spent, [])

  -- the seat gives the slot in hand back
  abbrev pub ReturnStep : WordStep J A → SeatState J A → ℕ → SeatState J A → Type 0
  ReturnStep st m w m' = m' ≡ (m.0, rest m.1)

-- a seat may make this step on the word of a mailbox
abbrev pub MayStep : {J A : Type 0} → (J → A → Type 0) → (WordStep J A → SeatState J A → ℕ → SeatState J A → Type 0) → ℕ → Seat (Option (Mail J A)) (View J) → ℕ → ℕ → ℕ → Type 0
MayStep fits then slots s k old new = Allows (FollowsRule fits) slots s.id s.me (word_of k) (λ n. either (n == old) new n) (then (step slots (word_of k) old new none) s.me)

-- the seat may give the slot in hand back by a load of the first word, and has no other
abbrev pub MayReturn : {J A : Type 0} → (J → A → Type 0) → ℕ → Seat (Option (Mail J A)) (View J) → Type 0
MayReturn fits slots s = Allows (FollowsRule fits) slots s.id s.me 0 (λ n. n) (ReturnStep (step slots 0 0 0 none) s.me) × (rest s.me.1 ≡ [])
