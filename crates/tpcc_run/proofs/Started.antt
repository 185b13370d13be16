-- Threads that were started one after another.
use Rattle.std.proofs.Common.{◌≡◌, ◌∙◌, ap, sym, refl, subst, ℕ, ◌+◌, ◌≤◌, List, [], ◌∷◌, ◌++◌, length, length-append, map, All, Some, arith, inl, inr}
use Rattle.std.proofs.lemmas.List.{map-append}
use Rattle.std.specs.Prelude.{Option, None, IfSome}
use Rattle.std.specs.List.{range_with_len}
use Rattle.std.proofs.lemmas.List.Elements.{All-nil, All-push}
use Rattle.std.proofs.lemmas.List.FromFn.{map-range_with_len_more}
use Rattle.tpcc_rows.specs.Layout.{Scale}
use Rattle.tpcc_run.specs.declared.plan.Plan.{Plan}
use Rattle.tpcc_turns.specs.Seats.{SeatedView}
use Rattle.tpcc_run.specs.Purses.{split_off, with_rooms}
use Rattle.tpcc_run.specs.Internal.Started.{HasAdded, HasAddedSome, HaveStarted, HaveStartedServers, IsPromised}
use Rattle.tpcc_run.specs.declared.threads.duty.Duty.TheVariants.{Cards}
use Rattle.tpcc_run.specs.declared.threads.promises.ComesBack.{ComesBack}
use Rattle.tpcc_run.specs.declared.threads.promises.KeepsPurse.{KeepsPurse}

-- no more handles than were started
pub added_most : {H : Type 0} (handle : H) (old new : List H) (count : ℕ) → length old ≤ count → HasAdded handle old new → length new ≤ count + 1
added_most handle old new count most (inl is) = omega (arith, ap length is)
added_most handle old new count most (inr is) = omega (arith, ap length is, length-append old (handle ∷ []))

-- as many only where this one is the last
pub added_last : {H : Type 0} (handle : H) (old new : List H) (count : ℕ) → length old ≤ count → HasAdded handle old new → length new ≡ count + 1 → (new ≡ old ++ handle ∷ []) × (length old ≡ count)
added_last handle old new count most (inl is) all = absurd (omega (arith, ap length is))
added_last handle old new count most (inr is) all = (is, omega (arith, ap length is, length-append old (handle ∷ [])))

-- so with one that there may be
pub some_most : {H : Type 0} (started : Option H) (old new : List H) (count : ℕ) → length old ≤ count → HasAddedSome started old new → length new ≤ count + 1
some_most started old new count most (inl is) = omega (arith, ap length is)
some_most started old new count most (inr (handle, same, is)) = omega (arith, ap length is, length-append old (handle ∷ []))

-- what was split off later was split off at first
pub split_same : (first rest : SeatedView) (count number : ℕ) → first ≡ with_rooms rest count → split_off rest number ≡ split_off first number
split_same first rest count number is = ap (λ (p : SeatedView). split_off p number) (sym is)

pub rooms_more : (first mid rest : SeatedView) (a b c : ℕ) → first ≡ with_rooms mid a → mid ≡ with_rooms rest b → b + a ≡ c → first ≡ with_rooms rest c
rooms_more first mid rest a b c was is sum =
    let added : rest.purse.room + b + a ≡ rest.purse.room + c = omega (arith, sum) in
    was ∙ ap (λ (p : SeatedView). with_rooms p a) is
    ∙ ap (λ (n : ℕ). record { purse = record rest.purse { room = n }; start = rest.start; front = rest.front }) added

mapped_more : {H P Y : Type 0} (f : H → P) (g : P → Y) (old new : List H) (handle : H) (ys : List Y) (y : Y)
    → map g (map f old) ≡ ys → g (f handle) ≡ y → new ≡ old ++ handle ∷ [] → map g (map f new) ≡ ys ++ y ∷ []
mapped_more f g old new handle ys y was here is =
    ap (λ xs. map g (map f xs)) is ∙ ap (map g) (map-append f old (handle ∷ [])) ∙ map-append g (map f old) (f handle ∷ []) ∙ cc (was, here)

-- nothing was split off yet
pub with_none : (p : SeatedView) → p ≡ with_rooms p 0
with_none p =
    let same : p.purse.room ≡ p.purse.room + 0 = omega arith in
    ap (λ (n : ℕ). record { purse = record p.purse { room = n }; start = p.start; front = p.front }) same

-- no terminal was started yet
pub started_nothing : {H : Type 0} (promise_of : H → ComesBack) (scale : Scale) (plan : Plan) (handles : List H) → handles ≡ [] → HaveStarted scale plan [] (map promise_of handles)
started_nothing promise_of scale plan [] none = record { numbers_are = refl; promised = All-nil (IsPromised Cards scale plan) }
started_nothing promise_of scale plan (h ∷ hs) none = absurd (cc none)

-- no server was started yet
pub servers_nothing : {N T H : Type 0} (promise_of : H → KeepsPurse N T) (first : SeatedView) (handles : List H) → handles ≡ [] → HaveStartedServers first [] (map promise_of handles)
servers_nothing promise_of first [] none = refl
servers_nothing promise_of first (h ∷ hs) none = absurd (cc none)

map_same : (xs : List ℕ) → map (λ (x : ℕ). x) xs ≡ xs
map_same [] = refl
map_same (x ∷ xs) = ap (λ (ys : List ℕ). x ∷ ys) (map_same xs)

-- the next number
range_more : (a n j : ℕ) → a + n ≡ j → range_with_len a (n + 1) ≡ range_with_len a n ++ j ∷ []
range_more a n j is =
    sym (map_same (range_with_len a (n + 1))) ∙ map-range_with_len_more (λ (x : ℕ). x) a n j is ∙ ap (λ (xs : List ℕ). xs ++ j ∷ []) (map_same (range_with_len a n))

-- one more terminal was started
pub started_more : {H : Type 0} (promise_of : H → ComesBack) (scale : Scale) (plan : Plan) (count : ℕ) (handle : H) (old new : List H)
    → length old ≤ count → (length old ≡ count → HaveStarted scale plan (range_with_len 1 count) (map promise_of old))
    → IsPromised Cards scale plan (promise_of handle) → (promise_of handle).number ≡ count + 1 → HasAdded handle old new
    → length new ≡ count + 1 → HaveStarted scale plan (range_with_len 1 (count + 1)) (map promise_of new)
started_more promise_of scale plan count handle old new most all promised number added so_many =
    let last = added_last handle old new count most added so_many in
    let before = all last.1 in
    let promises : map promise_of new ≡ map promise_of old ++ promise_of handle ∷ [] = ap (map promise_of) last.0 ∙ map-append promise_of old (handle ∷ []) in
    record {
      numbers_are = mapped_more promise_of (λ (p : ComesBack). p.number) old new handle (range_with_len 1 count) (count + 1) before.numbers_are number last.0 ∙ sym (range_more 1 count (count + 1) (omega arith));
      promised = subst (All (IsPromised Cards scale plan)) (sym promises) (All-push (IsPromised Cards scale plan) (map promise_of old) (promise_of handle) before.promised promised);
    }

module _ {N T H : Type 0} where
  -- one more server was started, or not
  pub servers_more : (promise_of : H → KeepsPurse N T) (first mid : SeatedView) (behind count : ℕ) (started : Option H) (old new : List H)
      → first ≡ with_rooms mid count → length old ≤ count → (length old ≡ count → HaveStartedServers first (range_with_len behind count) (map promise_of old))
      → (purse : SeatedView) → IfSome started (λ handle. (promise_of handle).purse.value ≡ purse) → purse ≡ split_off mid (behind + count) → HasAddedSome started old new
      → length new ≡ count + 1 → HaveStartedServers first (range_with_len behind (count + 1)) (map promise_of new)
  servers_more promise_of first mid behind count None old new rest most all purse given split (inl is) so_many = absurd (omega (arith, ap length is))
  servers_more promise_of first mid behind count None old new rest most all purse given split (inr (handle, same, is)) so_many = absurd (cc same)
  servers_more promise_of first mid behind count (Some one) old new rest most all purse given split (inl is) so_many = absurd (omega (arith, ap length is))
  servers_more promise_of first mid behind count (Some one) old new rest most all purse given split (inr (handle, same, is)) so_many =
      let known : length old ≡ count = omega (arith, ap length is, length-append old (handle ∷ [])) in
      let equal : one ≡ handle = cc same in
      let own = ap (λ (h : H). (promise_of h).purse.value) (sym equal) ∙ given ∙ split ∙ split_same first mid count (behind + count) rest in
      mapped_more promise_of (λ (p : KeepsPurse N T). p.purse.value) old new handle (map (split_off first) (range_with_len behind count)) (split_off first (behind + count)) (all known) own is
      ∙ sym (map-range_with_len_more (split_off first) behind count (behind + count) refl)
