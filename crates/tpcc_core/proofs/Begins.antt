-- The desk of an opening, before any event.
use Rattle.std.proofs.Common.{◌≡◌, ◌∙◌, sym, ap, refl, ℕ, zero, suc, ◌⊎◌, inl, inr, ⊎_elim, List, [], ◌∷◌, ◌++◌, length, map}
use Rattle.std.specs.Prelude.{Option, Some, None, slice_get}
use Rattle.std.specs.List.{list_all}
use Rattle.tpcc_rows.specs.Moments.{has_moment_in_range}
use Rattle.tpcc_population.specs.declared.opening.Opening.{Opening}
use Rattle.tpcc_book.specs.Purses.{PurseView}
use Rattle.tpcc_core.specs.Seats.{SeatNow}
use Rattle.tpcc_core.specs.SeatSteps.{waiting_answer}
use Rattle.tpcc_core.specs.Desks.{DeskNow, place_of, item, item_in, map_or, collected_of}
use Rattle.tpcc_core.specs.OpeningDesk.{opening_desk, seats_of, seat_of}
use Rattle.tpcc_core.specs.Flights.{under_way, unserved_request}
use Rattle.tpcc_core.specs.Shares.{purses_in}
use Rattle.tpcc_core.proofs.Places.{same-item}
use Rattle.tpcc_core.proofs.Items.{number_of}
use Rattle.tpcc_core.proofs.Order.{start_ordered}
use Rattle.tpcc_core.proofs.UnderWay.{home, way_in}
use Rattle.tpcc_core.proofs.Sound.{IsSound}

snoc_get : {X : Type 0} (xs : List X) (y : X) (place : ℕ) (x : X) → slice_get (xs ++ y ∷ []) place ≡ Some x → (slice_get xs place ≡ Some x) ⊎ ((place ≡ length xs) × (x ≡ y))
snoc_get [] y zero x is = inr (refl, sym (same-item y x is))
snoc_get [] y (suc place) x is = absurd cc
snoc_get (z ∷ xs) y zero x is = inl is
snoc_get (z ∷ xs) y (suc place) x is =
    ⊎_elim (λ (h : slice_get xs place ≡ Some x). inl h) (λ (h : (place ≡ length xs) × (x ≡ y)). inr (ap suc h.0, h.1)) (snoc_get xs y place x is)

pub seats-length : (count : ℕ) → length (seats_of count) ≡ count
seats-length zero = refl
seats-length (suc count) = longer (seats_of count) (seat_of (suc count)) ∙ ap suc (seats-length count)
  where
    longer : (xs : List (SeatNow PurseView)) (y : SeatNow PurseView) → length (xs ++ y ∷ []) ≡ suc (length xs)
    longer [] y = refl
    longer (x ∷ xs) y = ap suc (longer xs y)

-- the seat of each number
seat_at : (count place : ℕ) (x : SeatNow PurseView) → slice_get (seats_of count) place ≡ Some x → x ≡ seat_of (suc place)
seat_at zero place x is = absurd cc
seat_at (suc count) place x is =
    ⊎_elim (λ (h : slice_get (seats_of count) place ≡ Some x). seat_at count place x h)
    (λ (h : (place ≡ length (seats_of count)) × (x ≡ seat_of (suc count))). h.1 ∙ ap (λ k. seat_of (suc k)) (sym (h.0 ∙ seats-length count)))
    (snoc_get (seats_of count) (seat_of (suc count)) place x is)

seat_numbered : (count t : ℕ) → (item (seats_of count) t ≡ None) ⊎ (item (seats_of count) t ≡ Some (seat_of t))
seat_numbered count t = by_place (place_of t (length (seats_of count))) refl
  where
    by_item : (place : ℕ) → t ≡ suc place → (o : Option (SeatNow PurseView)) → slice_get (seats_of count) place ≡ o → (o ≡ None) ⊎ (o ≡ Some (seat_of t))
    by_item place is None e = inl refl
    by_item place is (Some x) e = inr (ap (λ s. Some s) (seat_at count place x e ∙ ap seat_of (sym is)))

    by_place : (o : Option ℕ) → place_of t (length (seats_of count)) ≡ o → (item_in (seats_of count) o ≡ None) ⊎ (item_in (seats_of count) o ≡ Some (seat_of t))
    by_place None e = inl refl
    by_place (Some place) e = by_item place (number_of t (length (seats_of count)) place e) (slice_get (seats_of count) place) refl

-- of each terminal nothing is under way, and nothing was collected
pub record HasBegun (d : DeskNow) (t : ℕ) : Type 0 where
  pub none_unserved : unserved_request (under_way d t) ≡ []
  pub none_waiting : waiting_answer (under_way d t) ≡ []
  pub none_collected : collected_of d t ≡ []
  pub own : (owner : ℕ) → map (λ p. p.terminal) (purses_in (under_way d t)) ≡ owner ∷ [] → owner ≡ t

begun_at : (d : DeskNow) (t : ℕ) (o : Option (SeatNow PurseView)) → item d.seats t ≡ o → (o ≡ None) ⊎ (o ≡ Some (seat_of t)) → HasBegun d t
begun_at d t o at (inl none) =
    let way : under_way d t ≡ home = ap (way_in d.hands) (at ∙ none) in
    record {
      none_unserved = ap unserved_request way;
      none_waiting = ap waiting_answer way;
      none_collected = ap (map_or [] (λ seat. seat.collected)) (at ∙ none);
      own = λ owner is. absurd (empty owner (sym (ap (λ w. map (λ p. p.terminal) (purses_in w)) way) ∙ is));
    }
  where
    empty : (owner : ℕ) → [] ≡ owner ∷ [] → ⊥
    empty owner h = cc
begun_at d t o at (inr there) =
    let way : under_way d t ≡ (seat_of t).mailbox = ap (way_in d.hands) (at ∙ there) in
    record {
      none_unserved = ap unserved_request way;
      none_waiting = ap waiting_answer way;
      none_collected = ap (map_or [] (λ seat. seat.collected)) (at ∙ there);
      own = λ owner is. one t owner (sym (ap (λ w. map (λ p. p.terminal) (purses_in w)) way) ∙ is);
    }
  where
    one : (t owner : ℕ) → t ∷ [] ≡ owner ∷ [] → owner ≡ t
    one t owner h = cc

pub opening_has_begun : (opening : Opening) (terminals servers t : ℕ) → HasBegun (opening_desk opening terminals servers) t
opening_has_begun opening terminals servers t = begun_at (opening_desk opening terminals servers) t (item (seats_of terminals) t) refl (seat_numbered terminals t)

pub start_sound : (opening : Opening) (terminals servers : ℕ) → IsSound (opening_desk opening terminals servers)
start_sound opening terminals servers =
    let b : (t : ℕ) → HasBegun (opening_desk opening terminals servers) t = opening_has_begun opening terminals servers in
    record {
      ordered = start_ordered opening terminals servers;
      own = λ t. (b t).own;
      in_range = λ t. ap (λ qs. list_all has_moment_in_range qs) (b t).none_unserved;
    }
