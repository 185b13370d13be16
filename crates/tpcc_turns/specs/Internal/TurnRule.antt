-- The rule of the turns, and what each step tells.
use Rattle.std.specs.Prelude.{ℕ, ◌≡◌, ◌⊎◌, ◌+◌, ◌<◌, ◌≤◌, ◌%◌, ◌^◌, List, [], ◌∷◌, Option, Some}
use mathlib.Core.Option.{some, none, Option as Home}
use mathlib.Core.List.{IsPrefix}
use lib.ListN.{get_elem?}
use Rattle.atomic_table.specs.Table.{State, Me, Step}
use Rattle.tpcc_rows.specs.declared.transactions.entry.Entry.{Entry}
use Rattle.tpcc_book.specs.Past.{Past}
use Rattle.tpcc_book.specs.Purses.{all_shares}
use Rattle.tpcc_turns.specs.Knows.{Knows, Heard, Stage, Idle, Out, Holds}
use Rattle.tpcc_population.specs.declared.opening.Opening.{Opening}
use Rattle.tpcc_population.specs.declared.opening.Opening.TheVariants.{Plain}
use Rattle.tpcc_turns.specs.Knows.{knows}

-- an opening that stands in where there is none
abbrev pub no_opening : Opening
no_opening = Plain (record { warehouses = 0; customers = 0; items = 0 })

-- the first seat has every part, and has seen nothing
abbrev pub first : Opening → Knows
first start = knows start [] all_shares Idle []

-- how many tickets a seat has
abbrev pub out_of : Stage → ℕ
out_of Idle = 0
out_of (Out t) = 1
out_of (Holds t base) = 1

abbrev pub sum_over : (Knows → ℕ) → List Knows → ℕ
sum_over f [] = 0
sum_over f (v ∷ vs) = f v + sum_over f vs

-- a ticket is out for this number
abbrev pub HasTicket : Stage → ℕ → Type 0
HasTicket Idle n = ⊥
HasTicket (Out t) n = t ≡ n
HasTicket (Holds t base) n = t ≡ n

-- who has the book has the number that is served, and found the journal as it is
abbrev pub Stands : List Entry → ℕ → ℕ → Stage → Type 0
Stands log served drawn Idle = Unit {0}
Stands log served drawn (Out t) = (served ≤ t) × (t < drawn)
Stands log served drawn (Holds t base) = (t ≡ served) × (t < drawn) × (base ≡ log)

-- what was heard is the opening, and a beginning of the journal
abbrev pub IsHeard : Opening → List Entry → Heard → Type 0
IsHeard start log x = (x.start ≡ start) × IsPrefix x.front log

-- what is seen are beginnings of the journal, and a ticket needs a part
pub record IsSeated (start : Opening) (log : List Entry) (served drawn : ℕ) (v : Knows) : Type 0 where
  pub start_is : 0 < v.parts → v.start ≡ start
  pub front : IsPrefix v.front log
  pub told : (x : Heard) (k : ℕ) → get_elem? v.told k ≡ some x → IsHeard start log x
  pub backed : out_of v.stage ≤ v.parts
  pub stands : Stands log served drawn v.stage

-- the book is at home, and holds the journal
pub record AtHome (start : Opening) (log : List Entry) (homes : List (Home (Option Past))) (views : List Knows) : Type 0 where
  pub book : Past
  pub there : homes ≡ some (Some book) ∷ []
  pub entries : book.entries ≡ log
  pub opening : book.opening ≡ start
  pub nobody : (j : ℕ) (v : Knows) (t : ℕ) (base : List Entry) → get_elem? views j ≡ some v → v.stage ≡ Holds t base → ⊥

-- a seat has it
pub record Away (served : ℕ) (homes : List (Home (Option Past))) (views : List Knows) : Type 0 where
  pub gone : homes ≡ none ∷ []
  pub seat : ℕ
  pub holder : Knows
  pub base : List Entry
  pub at : get_elem? views seat ≡ some holder
  pub holds : holder.stage ≡ Holds served base

-- there is a journal, of which all have seen beginnings
pub record FollowsTurnRule (start : Opening) (s : State (Option Past) Knows) : Type 0 where
  pub log : List Entry
  pub served : ℕ
  pub drawn : ℕ
  pub words : s.words ≡ (drawn % 2 ^ 64) ∷ (served % 2 ^ 64) ∷ []
  pub outs : served + sum_over (λ v. out_of v.stage) s.views ≡ drawn
  pub parts : sum_over (λ v. v.parts) s.views ≡ all_shares
  pub each : (j : ℕ) (v : Knows) → get_elem? s.views j ≡ some v → IsSeated start log served drawn v
  pub apart : (i j : ℕ) (v w : Knows) (n : ℕ) → get_elem? s.views i ≡ some v → get_elem? s.views j ≡ some w → HasTicket v.stage n → HasTicket w.stage n → i ≡ j
  pub book : AtHome start log s.homes s.views ⊎ Away served s.homes s.views

-- a ticket was drawn
pub record DrawStep (s : Step (Option Past)) (me : Me (Option Past) Knows) (found : ℕ) (now : Me (Option Past) Knows) : Type 0 where
  pub ticket : ℕ
  pub found_is : found ≡ ticket % 2 ^ 64
  pub now_is : now ≡ (knows me.0.start me.0.front me.0.parts (Out ticket) me.0.told, me.1)

-- the turn has come, and the book was taken: its journal begins with all that was seen
pub record HasBook (me : Me (Option Past) Knows) (ticket : ℕ) (now : Me (Option Past) Knows) : Type 0 where
  pub book : Past
  pub now_is : now ≡ (knows me.0.start book.entries me.0.parts (Holds ticket book.entries) me.0.told, (0, Some book) ∷ me.1)
  pub begins : IsPrefix me.0.front book.entries
  pub opening : book.opening ≡ me.0.start

-- it has come where the number found is the ticket's
abbrev pub LookStep : Step (Option Past) → Me (Option Past) Knows → ℕ → Me (Option Past) Knows → Type 0
LookStep s me found now =
    (ticket : ℕ) → me.0.stage ≡ Out ticket → ((found ≡ ticket % 2 ^ 64) × HasBook me ticket now) ⊎ ((found ≡ ticket % 2 ^ 64 → ⊥) × (now ≡ me))

-- the book was given back with this journal
abbrev pub EndStep : Step (Option Past) → Me (Option Past) Knows → ℕ → Me (Option Past) Knows → Type 0
EndStep s me found now =
    (book : Past) → me.1 ≡ (0, Some book) ∷ [] → now ≡ (knows me.0.start book.entries me.0.parts Idle me.0.told, [])

-- the journal of the book in hand is the turns' journal now; the one before began with all that was told
pub record HasGrown (me : Me (Option Past) Knows) (ticket : ℕ) (base : List Entry) (book : Past) (now : Me (Option Past) Knows) : Type 0 where
  pub now_is : now ≡ (knows me.0.start book.entries me.0.parts (Holds ticket book.entries) me.0.told, me.1)
  pub told : (x : Heard) (k : ℕ) → get_elem? me.0.told k ≡ some x → IsHeard me.0.start base x

abbrev pub GrowStep : Step (Option Past) → Me (Option Past) Knows → ℕ → Me (Option Past) Knows → Type 0
GrowStep s me found now =
    (ticket : ℕ) (base : List Entry) (book : Past) → me.0.stage ≡ Holds ticket base → me.1 ≡ (0, Some book) ∷ [] → HasGrown me ticket base book now
