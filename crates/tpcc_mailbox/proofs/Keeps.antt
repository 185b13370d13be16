-- Each step of a client or a server keeps the rule of the table.
use Rattle.std.proofs.Common.{◌≡◌, ℕ, ◌+◌, ◌*◌, ◌<◌, eqb, Bool, length, List, [], ◌∷◌, ◌++◌, map, get_or, set, sym, refl, ap, ◌∙◌, subst, inl, inr, arith, Option, Some, None, length-set, get_or-set_same, eq-eqb, ne_eqb}
use mathlib.Core.Logic.{dite}
use mathlib.Core.Option.{none, some}
use mathlib.Core.Option as maybe
use native.Mathlib.Decide.{ℕ_discrete}
use lib.ListN.{get_elem?}
use prog.Atomic.{either}
use Rattle.atomic_table.specs.Table.{Me, step, keeps, takes, gives, stepped, rest, Allows}
use Rattle.atomic_table.proofs.Lists.{set_here, set_else}
use Rattle.tpcc_mailbox.specs.declared.words.rule.Mail.{Mail}
use Rattle.tpcc_mailbox.specs.declared.words.rule.Mail.TheVariants.{Letter, Reply}
use Rattle.tpcc_mailbox.specs.Views.{Phase, Fresh, Free, Sent, Role, Opening, Client, Server, Holder, View}
use Rattle.atomic_table.specs.declared.shared.Seat.{Seat}
use Rattle.tpcc_mailbox.specs.Rule.{view_with, seat_with, server_seat, serving_role, serving_slots, splits_of, hand_of, splits_in, hand_in}
use Rattle.tpcc_mailbox.specs.Internal.Rule.{word_of, Found, half, halved, MailboxOk, Underway, FollowsRule}
use Rattle.tpcc_mailbox.specs.Internal.Steps.{PostStep, TakeStep, AnswerStep, CollectStep, with_flag, FirstCollectStep}
use Rattle.tpcc_mailbox.proofs.Moves.{word_in_block, put_here, stays, moves}

module _ {J : Type 0} where
  abbrev mailbox_in : List (Role J) → ℕ
  mailbox_in (Client k p ∷ _) = k
  mailbox_in (Holder d k j ∷ _) = k
  mailbox_in _ = 0

  abbrev sent_or : J → List (Role J) → J
  sent_or z (Client k (Sent j) ∷ _) = j
  sent_or z (Holder d k j ∷ _) = j
  sent_or z _ = z

mailbox_same : (k k' : ℕ) → word_of k ≡ word_of k' → k ≡ k'
mailbox_same k k' e = let e' : 16 * k + 8 ≡ 16 * k' + 8 = e in omega arith

module _ {J A : Type 0} where
  abbrev letter_in : J → Option (Mail J A) → J
  letter_in z (Some (Letter j)) = j
  letter_in z _ = z

  -- the letter, or the answer, in the first slot
  abbrev pub letter_or : J → List (ℕ × Option (Mail J A)) → J
  letter_or z (x ∷ _) = letter_in z x.1
  letter_or z [] = z

  abbrev reply_in : A → Option (Mail J A) → A
  reply_in z (Some (Reply a)) = a
  reply_in z _ = z

  abbrev pub reply_or : A → List (ℕ × Option (Mail J A)) → A
  reply_or z (x ∷ _) = reply_in z x.1
  reply_or z [] = z

module _ {J A : Type 0} (fits : J → A → Type 0) where
  abbrev M : Type 0
  M = Me (Option (Mail J A)) (View J)

  abbrev Slot : Type 0
  Slot = maybe.Option (Option (Mail J A))

  -- the word 1 shows a letter
  posted_letter : (p : Phase J) (w : ℕ) (slot : Found J A) → MailboxOk fits p w slot → w ≡ 1 → (j : J) × (p ≡ Sent j) × (slot ≡ some (some (Some (Letter j))))
  posted_letter Fresh w slot ok one = let e = ok.0 in absurd (omega arith)
  posted_letter Free w slot ok one = absurd (omega arith)
  posted_letter (Sent j) w slot ok one = (j, refl, ok.posted one)

  pub posts : (slots id : ℕ) (me : M) (k : ℕ) (j : J) → k < slots → me.0.roles ≡ Client k Free ∷ [] → me.1 ≡ (k, Some (Letter j)) ∷ []
      → Allows (FollowsRule fits) slots id me (word_of k) (λ w. either (eqb w 0) 1 w) (PostStep (step slots (word_of k) 0 1 none) me)
  posts slots id me k j near is carried s r deep at _ = let deep' = r.slot_count in let inside : k < r.n = omega arith in
      let knows = r.seats id me.0 at 0 (Client k Free) (ap (λ (z : List (Role J)). get_elem? z 0) is) inside in
      let w : View J = view_with (Client k (Sent j)) me.0.closed me.0.answered in let homes' : List Slot = set s.homes k (some (Some (Letter j))) in
      let was : get_or s.words (word_of k) 0 ≡ 0 = subst (λ (p : Phase J). MailboxOk fits p (get_or s.words (word_of k) 0) (get_elem? s.homes k)) knows.0 (r.mailboxes k inside) in (
        w,
        gives,
        tt,
        subst (λ b. FollowsRule fits (stepped s (word_of k) (either b 1 (get_or s.words (word_of k) 0)) id me.1 w gives)) (sym (eq-eqb (get_or s.words (word_of k) 0) 0 was))
            (subst (λ (c : List (ℕ × Option (Mail J A))). FollowsRule fits (stepped s (word_of k) 1 id c w gives)) (sym carried)
            (moves fits s r k 1 id (Sent j) homes' me.0 (Client k Free) (Client k (Sent j)) me.0.answered inside at is (inr knows.1) (inl (λ e. omega arith)) (length-set s.homes k (some (Some (Letter j))))
            (λ i ne. set_else s.homes k i (some (Some (Letter j))) ne)
            record { posted = λ _. set_here s.homes k (some (Some (Letter j))) (omega arith); answered = λ e. absurd (omega arith); used = (omega arith, omega arith) }
            (λ _. (put_here r.phase k (Sent j), knows.1, knows.2)) (λ e. absurd (omega arith)) tt (λ top. refl) refl)),
        λ k' j' is' carried' t. (view_with (Client (ap mailbox_in (sym is ∙ is') t) (Sent (ap (letter_or j) (sym carried ∙ carried') t))) me.0.closed me.0.answered, ap rest carried t),
      )

  pub takes_letter : (slots id : ℕ) (me : M) (k d : ℕ) → k < slots → me.0.roles ≡ Server d ∷ []
      → Allows (FollowsRule fits) slots id me (word_of k) (λ w. either (eqb w 1) 2 w) (TakeStep (step slots (word_of k) 1 2 none) me)
  takes_letter slots id me k d near is s r deep at _ = let x : ℕ = get_or s.words (word_of k) 0 in let deep' = r.slot_count in let word_count = r.word_count in let inside : k < r.n = omega arith in dite (ℕ_discrete x 1)
      (λ hit. let got = posted_letter (r.phase k) x (get_elem? s.homes k) (r.mailboxes k inside) hit in let j : J = got.0 in let w : View J = view_with (Holder d k j) me.0.closed me.0.answered in (
        w,
        takes k (Some (Letter j)),
        got.2,
        subst (λ b. FollowsRule fits (stepped s (word_of k) (either b 2 x) id me.1 w (takes k (Some (Letter j))))) (sym (eq-eqb x 1 hit))
            (moves fits s r k 2 id (Sent j) (set s.homes k none) me.0 (Server d) (Holder d k j) me.0.answered inside at is (inl got.1) (inl (λ e. omega arith)) (length-set s.homes k none) (λ i ne. set_else s.homes k i none ne)
            record { posted = λ e. absurd (omega arith); answered = λ e. absurd (omega arith); used = (omega arith, omega arith) }
            (inside, put_here r.phase k (Sent j), get_or-set_same s.words (word_of k) 2 0 (word_in_block k r.n (length s.words) word_count (omega arith)), put_here r.server k id) (λ _. (d, j, refl)) tt (λ top. refl) refl),
        λ d' is'. (
          (λ _ k' here. let same = mailbox_same k k' here in (j, λ t. (view_with (Holder (ap splits_in (sym is ∙ is') t) (same t) j) me.0.closed me.0.answered, (same t, Some (Letter j)) ∷ me.1))),
          λ miss. absurd (miss hit),
        ),
      ))
      (λ miss. (
        me.0,
        keeps,
        tt,
        subst (λ b. FollowsRule fits (stepped s (word_of k) (either b 2 x) id me.1 me.0 keeps)) (sym (ne_eqb x 1 miss)) (stays fits s (word_of k) id me.0 me.1 at r),
        λ d' is'. ((λ hit. absurd (miss hit)), λ _. refl),
      ))

  pub answers : (slots id : ℕ) (me : M) (d k : ℕ) (j : J) (a : A) → me.0.roles ≡ Holder d k j ∷ [] → me.1 ≡ (k, Some (Reply a)) ∷ [] → fits j a
      → Allows (FollowsRule fits) slots id me (word_of k) (λ w. either (eqb w 2) 3 w) (AnswerStep (step slots (word_of k) 2 3 none) me)
  answers slots id me d k j a is carried fit s r deep at _ =
      let knows = r.seats id me.0 at 0 (Holder d k j) (ap (λ (z : List (Role J)). get_elem? z 0) is) in let inside = knows.0 in let deep' = r.slot_count in
      let ks : List ℕ = me.0.answered ++ k ∷ [] in let w : View J = view_with (Server d) me.0.closed ks in let homes' : List Slot = set s.homes k (some (Some (Reply a))) in (
        w,
        gives,
        tt,
        subst (λ b. FollowsRule fits (stepped s (word_of k) (either b 3 (get_or s.words (word_of k) 0)) id me.1 w gives)) (sym (eq-eqb (get_or s.words (word_of k) 0) 2 knows.2))
            (subst (λ (c : List (ℕ × Option (Mail J A))). FollowsRule fits (stepped s (word_of k) 3 id c w gives)) (sym carried)
            (moves fits s r k 3 id (Sent j) homes' me.0 (Holder d k j) (Server d) ks inside at is (inl knows.1) (inr knows.3) (length-set s.homes k (some (Some (Reply a))))
            (λ i ne. set_else s.homes k i (some (Some (Reply a))) ne)
            record { posted = λ e. absurd (omega arith); answered = λ _. (a, set_here s.homes k (some (Some (Reply a))) (omega arith), fit); used = (omega arith, omega arith) }
            tt (λ e. absurd (omega arith)) refl (λ top. refl) refl)),
        λ d' k' j' y' is' carried' t. (view_with (Server (ap splits_in (sym is ∙ is') t)) me.0.closed (me.0.answered ++ ap mailbox_in (sym is ∙ is') t ∷ []), ap rest carried t),
      )

  pub collects : (slots id : ℕ) (me : M) (k : ℕ) (j : J) → k < slots → me.0.roles ≡ Client k (Sent j) ∷ []
      → Allows (FollowsRule fits) slots id me (word_of k) (λ w. either (eqb w 3) 0 w) (CollectStep fits (step slots (word_of k) 3 0 none) me)
  collects slots id me k j near is s r deep at _ = let x : ℕ = get_or s.words (word_of k) 0 in let deep' = r.slot_count in let inside : k < r.n = omega arith in
      let knows = r.seats id me.0 at 0 (Client k (Sent j)) (ap (λ (z : List (Role J)). get_elem? z 0) is) inside in
      let ok : Underway fits j x (get_elem? s.homes k) = subst (λ (p : Phase J). MailboxOk fits p x (get_elem? s.homes k)) knows.0 (r.mailboxes k inside) in dite (ℕ_discrete x 3)
      (λ hit. let got = ok.answered hit in let a : A = got.0 in let w : View J = view_with (Client k Free) me.0.closed me.0.answered in (
        w,
        takes k (Some (Reply a)),
        got.1,
        subst (λ b. FollowsRule fits (stepped s (word_of k) (either b 0 x) id me.1 w (takes k (Some (Reply a))))) (sym (eq-eqb x 3 hit))
            (moves fits s r k 0 id Free (set s.homes k none) me.0 (Client k (Sent j)) (Client k Free) me.0.answered inside at is (inr knows.1) (inl (λ e. omega arith)) (length-set s.homes k none) (λ i ne. set_else s.homes k i none ne)
            refl (λ _. (put_here r.phase k Free, knows.1, knows.2)) (λ e. absurd (omega arith)) tt (λ top. refl) refl),
        λ k' j' is'. (
          (λ _. (
            a,
            subst (λ (z : J). fits z a) (ap (sent_or j) (sym is ∙ is')) got.2,
            λ t. (view_with (Client (ap mailbox_in (sym is ∙ is') t) Free) me.0.closed me.0.answered, (ap mailbox_in (sym is ∙ is') t, Some (Reply a)) ∷ me.1),
          )),
          λ miss. absurd (miss hit),
        ),
      ))
      (λ miss. (
        me.0,
        keeps,
        tt,
        subst (λ b. FollowsRule fits (stepped s (word_of k) (either b 0 x) id me.1 me.0 keeps)) (sym (ne_eqb x 3 miss)) (stays fits s (word_of k) id me.0 me.1 at r),
        λ k' j' is'. ((λ hit. absurd (miss hit)), λ _. refl),
      ))

  pub first_collects : (slots id : ℕ) (me : M) (k : ℕ) → k < slots → me.0.roles ≡ Client k Fresh ∷ [] → me.1 ≡ []
      → Allows (FollowsRule fits) slots id me (word_of k) (λ w. either (eqb w 3) 0 w) (FirstCollectStep (step slots (word_of k) 3 0 none) me)
  first_collects slots id me k near is bare s r deep at _ = let x : ℕ = get_or s.words (word_of k) 0 in let deep' = r.slot_count in let inside : k < r.n = omega arith in
      let knows = r.seats id me.0 at 0 (Client k Fresh) (ap (λ (z : List (Role J)). get_elem? z 0) is) inside in
      let ok : MailboxOk fits Fresh x (get_elem? s.homes k) = subst (λ (p : Phase J). MailboxOk fits p x (get_elem? s.homes k)) knows.0 (r.mailboxes k inside) in let hit : x ≡ 3 = ok.0 in let w : View J = view_with (Client k Free) me.0.closed me.0.answered in (
        w,
        takes k None,
        ok.1,
        subst (λ b. FollowsRule fits (stepped s (word_of k) (either b 0 x) id me.1 w (takes k None))) (sym (eq-eqb x 3 hit))
            (moves fits s r k 0 id Free (set s.homes k none) me.0 (Client k Fresh) (Client k Free) me.0.answered inside at is (inr knows.1) (inl (λ e. omega arith)) (length-set s.homes k none) (λ i ne. set_else s.homes k i none ne)
            refl (λ _. (put_here r.phase k Free, knows.1, knows.2)) (λ e. absurd (omega arith)) tt (λ top. refl) refl),
        λ k' is' bare' t. (view_with (Client (ap mailbox_in (sym is ∙ is') t) Free) me.0.closed me.0.answered, (ap mailbox_in (sym is ∙ is') t, None) ∷ bare t),
      )

-- a seat that stands so is seat_with so
pub is_seat_with : {J A : Type 0} (s : Seat (Option (Mail J A)) (View J)) (r : Role J) (slots : List (ℕ × Option (Mail J A))) → s.me.0.roles ≡ r ∷ [] → s.me.1 ≡ slots → s ≡ seat_with s r slots
is_seat_with s r slots a b = λ t. record s { me = (record { roles = a t; closed = s.me.0.closed; answered = s.me.0.answered }, b t) }

module _ {J A : Type 0} (s : Seat (Option (Mail J A)) (View J)) where
  pub seated_server : (d : ℕ) → s.me.0.roles ≡ Server d ∷ [] → s.me.1 ≡ [] → s ≡ server_seat s (splits_of s.me.0) (hand_of s.me.0)
  seated_server d a b = is_seat_with s (Server d) [] a b ∙ ap (λ (l : List (Role J)). seat_with s (serving_role (splits_in l) (hand_in l)) (serving_slots (hand_in l))) (sym a)

  pub seated_holder : (d k : ℕ) (j : J) → s.me.0.roles ≡ Holder d k j ∷ [] → s.me.1 ≡ (k, None) ∷ [] → s ≡ server_seat s (splits_of s.me.0) (hand_of s.me.0)
  seated_holder d k j a b = is_seat_with s (Holder d k j) ((k, None) ∷ []) a b ∙ ap (λ (l : List (Role J)). seat_with s (serving_role (splits_in l) (hand_in l)) (serving_slots (hand_in l))) (sym a)

  pub free_server : s ≡ server_seat s (splits_of s.me.0) (hand_of s.me.0) → hand_of s.me.0 ≡ None → (s.me.0.roles ≡ Server (splits_of s.me.0) ∷ []) × (s.me.1 ≡ [])
  free_server e f = (ap (λ z. z.me.0.roles) e ∙ ap (λ (w : Option (ℕ × J)). serving_role (splits_of s.me.0) w ∷ []) f, ap (λ z. z.me.1) e ∙ ap serving_slots f)

  pub busy_server : (k : ℕ) (j : J) → s ≡ server_seat s (splits_of s.me.0) (hand_of s.me.0) → hand_of s.me.0 ≡ Some (k, j)
      → (s.me.0.roles ≡ Holder (splits_of s.me.0) k j ∷ []) × (s.me.1 ≡ (k, None) ∷ [])
  busy_server k j e f = (ap (λ z. z.me.0.roles) e ∙ ap (λ (w : Option (ℕ × J)). serving_role (splits_of s.me.0) w ∷ []) f, ap (λ z. z.me.1) e ∙ ap serving_slots f)

-- the slot that the seat has in hand was exchanged
pub slot_is_exchanged : {J A : Type 0} (m m' : Me (Option (Mail J A)) (View J)) (k : ℕ) (r : Role J) (x y : Option (Mail J A)) → m.0.roles ≡ r ∷ [] → m.1 ≡ (k, x) ∷ [] → m' ≡ (m.0, (k, y) ∷ rest m.1)
    → (m'.0.roles ≡ r ∷ []) × (m'.1 ≡ (k, y) ∷ [])
slot_is_exchanged m m' k r x y a b e = (ap (λ z. z.0.roles) e ∙ a, ap (λ z. z.1) e ∙ ap (λ l. (k, y) ∷ rest l) b)

-- a step that changes the flag alone
pub flag_keeps_seat : {J A : Type 0} (s t : Seat (Option (Mail J A)) (View J)) (c : Bool) → s ≡ server_seat s (splits_of s.me.0) (hand_of s.me.0) → t.me ≡ with_flag s.me c → t ≡ server_seat t (splits_of t.me.0) (hand_of t.me.0)
flag_keeps_seat s t c e f = is_seat_with t _ _ (ap (λ m. m.0.roles) f ∙ ap (λ z. z.me.0.roles) e) (ap (λ m. m.1) f ∙ ap (λ z. z.me.1) e)
    ∙ ap (λ (l : List (Role _)). seat_with t (serving_role (splits_in l) (hand_in l)) (serving_slots (hand_in l))) (sym (ap (λ m. m.0.roles) f))

-- a server's seat, once its right is cut in two
pub half_seated : {J A : Type 0} (s t : Seat (Option (Mail J A)) (View J)) → s ≡ server_seat s (splits_of s.me.0) (hand_of s.me.0) → t.me ≡ (half s.me.0, s.me.1) → t ≡ server_seat t (splits_of t.me.0) (hand_of t.me.0)
half_seated {J = J} {A = A} s t e f = go (splits_of s.me.0) (hand_of s.me.0) (ap (λ z. z.me.0.roles) e) (ap (λ z. z.me.1) e)
  where
    go : (d : ℕ) (w : Option (ℕ × J)) → s.me.0.roles ≡ serving_role d w ∷ [] → s.me.1 ≡ serving_slots w → t ≡ server_seat t (splits_of t.me.0) (hand_of t.me.0)
    go d None a b = seated_server t (d + 1) (ap (λ m. m.0.roles) f ∙ ap (map halved) a) (ap (λ m. m.1) f ∙ b)
    go d (Some w) a b = seated_holder t (d + 1) w.0 w.1 (ap (λ m. m.0.roles) f ∙ ap (map halved) a) (ap (λ m. m.1) f ∙ b)

-- the work in hand stays
pub half_work : {J : Type 0} (rs : List (Role J)) → hand_in (map halved rs) ≡ hand_in rs
half_work [] = refl
half_work (Opening m ∷ rs) = refl
half_work (Client k p ∷ rs) = refl
half_work (Server d ∷ rs) = refl
half_work (Holder d k j ∷ rs) = refl
