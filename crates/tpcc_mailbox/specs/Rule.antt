-- The rule of the table: what each mailbox is in, and what each seat knows of it. Words: 0 free, 1 posted, 2 taken, 3 answered.
use Rattle.std.specs.Prelude.{◌≡◌, ℕ, ◌+◌, ◌*◌, ◌≤◌, Bool, List, [], ◌∷◌, Option, Some, None}
use Rattle.atomic_table.specs.Seated.{TableId}
use Rattle.tpcc_mailbox.specs.declared.table.TheConstants.{MOST_MAILBOXES}
use Rattle.atomic_table.specs.declared.shared.Seat.{Seat}
use Rattle.tpcc_mailbox.specs.declared.words.rule.Mail.{Mail}
use Rattle.tpcc_mailbox.specs.Views.{Role, Server, Holder, View}

-- how many words the block of n mailboxes has
abbrev pub words_of : ℕ → ℕ
words_of n = 16 * (n + 1)

-- a table of mailboxes: the words that they take, and no more of them than there may be
pub record IsSized (table : TableId) : Type 0 where
  pub words : table.words ≡ words_of table.slots
  pub few : table.slots ≤ MOST_MAILBOXES

module _ {J : Type 0} where
  -- the view of a seat of one role
  abbrev pub view_with : Role J → Bool → List ℕ → View J
  view_with r c ks = record { roles = r ∷ []; closed = c; answered = ks }

  -- how often a server's right was split
  abbrev pub splits_in : List (Role J) → ℕ
  splits_in (Server d ∷ _) = d
  splits_in (Holder d _ _ ∷ _) = d
  splits_in _ = 0

  -- the mailbox and the letter in a server's hand
  abbrev pub hand_in : List (Role J) → Option (ℕ × J)
  hand_in (Holder _ k j ∷ _) = Some (k, j)
  hand_in _ = None

  abbrev pub splits_of : View J → ℕ
  splits_of v = splits_in v.roles

  abbrev pub hand_of : View J → Option (ℕ × J)
  hand_of v = hand_in v.roles

  -- one more than the mailbox in hand
  abbrev pub hand_bound : Option (ℕ × J) → ℕ
  hand_bound None = 0
  hand_bound (Some w) = w.0 + 1

  -- the role of a server with this hand, whose right was split so often
  abbrev pub serving_role : ℕ → Option (ℕ × J) → Role J
  serving_role d None = Server d
  serving_role d (Some w) = Holder d w.0 w.1

module _ {J A : Type 0} where
  -- a server has the slot of the letter in its hand
  abbrev pub serving_slots : Option (ℕ × J) → List (ℕ × Option (Mail J A))
  serving_slots None = []
  serving_slots (Some w) = (w.0, None) ∷ []

  -- the seat with this role, and these slots in hand
  abbrev pub seat_with : Seat (Option (Mail J A)) (View J) → Role J → List (ℕ × Option (Mail J A)) → Seat (Option (Mail J A)) (View J)
  seat_with s r slots = record s { me = (view_with r s.me.0.closed s.me.0.answered, slots) }

  -- the seat of a server
  abbrev pub server_seat : Seat (Option (Mail J A)) (View J) → ℕ → Option (ℕ × J) → Seat (Option (Mail J A)) (View J)
  server_seat s d w = seat_with s (serving_role d w) (serving_slots w)

-- what the seat i knows by its role at the place q
