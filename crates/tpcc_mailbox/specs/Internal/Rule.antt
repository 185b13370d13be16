-- The rule of the table: what each mailbox is in, and what each seat knows of it. Words: 0 free, 1 posted, 2 taken, 3 answered.
use Rattle.std.specs.Prelude.{◌≡◌, ℕ, ◌+◌, ◌-◌, ◌*◌, ◌^◌, ◌<◌, ◌≤◌, true, false, List, [], ◌∷◌, ◌++◌, map, length, slice_index, Option, Some, None}
use mathlib.Core.Option.{some}
use mathlib.Core.Option as maybe
use lib.ListN.{get_elem?}
use Rattle.atomic_table.specs.Table.{State}
use Rattle.tpcc_mailbox.specs.declared.words.rule.Mail.{Mail}
use Rattle.tpcc_mailbox.specs.declared.words.rule.Mail.TheVariants.{Letter, Reply}
use Rattle.tpcc_mailbox.specs.Views.{Phase, Fresh, Free, Sent, Role, Opening, Client, Server, Holder, View}
use Rattle.tpcc_mailbox.specs.Rule.{splits_of, view_with, words_of}

-- what get_elem? finds of a slot: no slot, a slot that is out, or one that is at identity
abbrev pub Found : Type 0 → Type 0 → Type 0
Found J A = maybe.Option (maybe.Option (Option (Mail J A)))

-- Where the word of a mailbox stands in the table's block, and behind the last mailbox the closed flag. One word in 16
-- is used: so no two share a cache line or a pair of lines, and none shares one with what lies beside the block.
abbrev pub word_of : ℕ → ℕ
word_of k = 16 * k + 8

module _ {J : Type 0} where
  -- the first seat: it opens all mailboxes and has the whole right to serve
  abbrev pub opener : View J
  opener = view_with (Opening 0) false []

  -- the role once its right was split
  abbrev pub halved : Role J → Role J
  halved (Server d) = Server (d + 1)
  halved (Holder d k j) = Holder (d + 1) k j
  halved r = r

  -- a server's right is cut in two halves: what it has in hand stays, and the new server's hand is empty and has answered nothing
  abbrev pub half : View J → View J
  half v = record { roles = map halved v.roles; closed = v.closed; answered = v.answered }

  abbrev pub other_half : View J → View J
  other_half v = view_with (Server (splits_of v + 1)) v.closed []

  -- the first mailbox that the opener has not opened yet
  abbrev pub opening_in : List (Role J) → ℕ
  opening_in (Opening m ∷ _) = m
  opening_in _ = 0

  -- the opener gives the next mailbox to a client
  abbrev pub opener_after : View J → View J
  opener_after v = view_with (Opening (opening_in v.roles + 1)) v.closed v.answered

  abbrev pub next_client : View J → View J
  next_client v = view_with (Client (opening_in v.roles) Fresh) v.closed []

  -- the opener ends, and gives its right to serve away
  abbrev pub ended : View J → View J
  ended v = record { roles = []; closed = v.closed; answered = v.answered }

  abbrev pub first_server : View J → View J
  first_server v = view_with (Server 0) v.closed []

  -- a seat takes in what another knows, and the other is left with nothing
  abbrev pub gathered : View J → View J → View J
  gathered v w = record { roles = v.roles ++ w.roles; closed = v.closed; answered = v.answered }

  abbrev pub spent : View J
  spent = record { roles = []; closed = false; answered = [] }

module _ {J A : Type 0} (fits : J → A → Type 0) where
  -- the letter j was posted and not collected; w is the word of its mailbox
  pub record Underway (j : J) (w : ℕ) (slot : Found J A) : Type 0 where
    pub posted : w ≡ 1 → slot ≡ some (some (Some (Letter j)))
    pub answered : w ≡ 3 → (a : A) × (slot ≡ some (some (Some (Reply a)))) × fits j a
    pub used : (0 < w) × (w < 4)

  -- what the word and the slot of a mailbox are in each phase; of a slot that is out nothing is said
  abbrev pub MailboxOk : Phase J → ℕ → Found J A → Type 0
  MailboxOk Fresh w slot = (w ≡ 3) × (slot ≡ some (some None))
  MailboxOk Free w slot = w ≡ 0
  MailboxOk (Sent j) w slot = Underway j w slot

module _ {J : Type 0} (n : ℕ) (words : List ℕ) (phase : ℕ → Phase J) (client place server : ℕ → ℕ) where
  abbrev pub Knows : ℕ → ℕ → Role J → Type 0
  Knows i q (Opening m) = (k : ℕ) → m ≤ k → k < n → (phase k ≡ Fresh) × (client k ≡ i)
  Knows i q (Client k p) = k < n → (phase k ≡ p) × (client k ≡ i) × (place k ≡ q)
  Knows i q (Server d) = Unit {0}
  Knows i q (Holder d k j) = (k < n) × (phase k ≡ Sent j) × (slice_index words (word_of k) ≡ 2) × (server k ≡ i)

module _ {J : Type 0} where
  -- some role of the seat i holds the letter of mailbox k
  pub record IsHeld (k i : ℕ) (views : List (View J)) : Type 0 where
    pub seat : View J
    pub place : ℕ
    pub splits : ℕ
    pub letter : J
    pub here : get_elem? views i ≡ some seat
    pub holds : get_elem? seat.roles place ≡ some (Holder splits k letter)

  -- the share of a role in the right to serve, in parts of 1 / 2 ^ top
  abbrev pub share_of : ℕ → Role J → ℕ
  share_of top (Opening _) = 2 ^ top
  share_of top (Client _ _) = 0
  share_of top (Server d) = 2 ^ (top - d)
  share_of top (Holder d _ _) = 2 ^ (top - d)

  abbrev pub shares_of : ℕ → List (Role J) → ℕ
  shares_of top [] = 0
  shares_of top (r ∷ rs) = share_of top r + shares_of top rs

  abbrev pub all_shares : ℕ → List (View J) → ℕ
  all_shares top [] = 0
  all_shares top (v ∷ vs) = shares_of top v.roles + all_shares top vs

  -- how often the right of a role was split
  abbrev pub splits_of_role : Role J → ℕ
  splits_of_role (Server d) = d
  splits_of_role (Holder d _ _) = d
  splits_of_role _ = 0

  -- the shares of all seats add up to the whole
  pub record Whole (views : List (View J)) : Type 0 where
    pub top : ℕ
    pub within : (i : ℕ) (v : View J) → get_elem? views i ≡ some v → (q : ℕ) (r : Role J) → get_elem? v.roles q ≡ some r → splits_of_role r ≤ top
    pub whole : all_shares top views ≡ 2 ^ top

-- the rule
pub record FollowsRule {J A : Type 0} (fits : J → A → Type 0) (s : State (Option (Mail J A)) (View J)) : Type 0 where
  pub n : ℕ
  pub phase : ℕ → Phase J
  -- the seat and the place in its roles of the client of each mailbox, and the seat that took its letter last
  pub client : ℕ → ℕ
  pub place : ℕ → ℕ
  pub server : ℕ → ℕ
  -- a word for each mailbox and the closed flag, and a slot for each mailbox
  pub word_count : length s.words ≡ words_of n
  pub slot_count : length s.homes ≡ n
  -- each mailbox is as its phase says
  pub mailboxes : (k : ℕ) → k < n → MailboxOk fits (phase k) (slice_index s.words (word_of k)) (get_elem? s.homes k)
  -- a letter that is taken is held by a seat
  pub holders : (k : ℕ) → k < n → slice_index s.words (word_of k) ≡ 2 → IsHeld k (server k) s.views
  -- what each seat knows is so
  pub seats : (i : ℕ) (v : View J) → get_elem? s.views i ≡ some v → (q : ℕ) (r : Role J) → get_elem? v.roles q ≡ some r → Knows n s.words phase client place server i q r
  -- a seat that has closed or has seen it finds the flag up
  pub closings : (i : ℕ) (v : View J) → get_elem? s.views i ≡ some v → v.closed ≡ true → slice_index s.words (word_of n) ≡ 1
  -- no share of the right to serve is lost or made
  pub shared : Whole s.views
