-- Bytes that a sink got in turn, and bytes that wait.
use Rattle.std.proofs.Common.{◌≡◌, ◌∙◌, sym, subst, refl, ℕ, ◌+◌, ◌-◌, ◌≤◌, List, [], ◌++◌, append-nil, length, take, drop, Option, Some, None, append_assoc, ap, arith}
use Rattle.std.specs.Prelude.{Result, Ok, Err, OnOk, OnErr}
use Rattle.std.specs.Io.KnownBytes.{Appends}
use Rattle.std.proofs.Math.Seq.{take-add, take-append-add}
use Rattle.std.proofs.lemmas.List.{length-append, take_rest, take-append-le}
use Rattle.tpcc_text.specs.Prefix.{AppendsPrefix, PassesBytes}

-- bytes added in two turns
pub appends-more : (a b c : Option (List ℕ)) (xs ys : List ℕ) → Appends a b xs → Appends b c ys → Appends a c (xs ++ ys)
appends-more None b c xs ys h k = tt
appends-more (Some a) None c xs ys h k = absurd h
appends-more (Some a) (Some b) None xs ys h k = absurd k
appends-more (Some a) (Some b) (Some c) xs ys h k = k ∙ ap (λ z. z ++ ys) h ∙ append_assoc a xs ys

-- some more of the bytes after the first d
pub add_part : (a b c : Option (List ℕ)) (bytes : List ℕ) (d n : ℕ) → d ≤ length bytes → Appends a b (take d bytes) → Appends b c (take n (take (length bytes - d) (drop d bytes))) → Appends a c (take (d + n) bytes)
add_part a b c bytes d n h first more =
    let e : take (length bytes - d) (drop d bytes) ≡ drop d bytes = take_rest bytes d in
    let k = rw e at more in
    rw take-add (appends-more a b c _ _ first k)

-- nothing was written
pub appends-none : (a : Option (List ℕ)) → Appends a a []
appends-none None = tt
appends-none (Some xs) = sym (append-nil xs)

-- a part of some bytes is one of more
pub part_of_more : (a b : Option (List ℕ)) (xs ys : List ℕ) → AppendsPrefix a b xs → AppendsPrefix a b (xs ++ ys)
part_of_more a b xs ys p =
    record { count = p.count; within = omega (arith, length-append xs ys, p.within); added = subst (Appends a b) (sym (take-append-le p.count xs ys p.within)) p.added }

-- all of them wait
pub all_wait : (a : Option (List ℕ)) (xs : List ℕ) → PassesBytes a a xs xs
all_wait a xs = record { sent = []; bytes_are = refl; added = appends-none a }

-- none of them waits
pub none_waits : (a b : Option (List ℕ)) (xs : List ℕ) → Appends a b xs → PassesBytes a b xs []
none_waits a b xs h = record { sent = xs; bytes_are = sym (append-nil xs); added = h }

append_regroups : (bytes sent waits more : List ℕ) → bytes ≡ sent ++ waits → bytes ++ more ≡ sent ++ (waits ++ more)
append_regroups bytes sent waits more e = ap (λ z. z ++ more) e ∙ append_assoc sent waits more

-- more bytes behind those that wait: again some are written and others wait
pub passes-on : (a b c : Option (List ℕ)) (bytes waits more left : List ℕ)
    → PassesBytes a b bytes waits → PassesBytes b c (waits ++ more) left → PassesBytes a c (bytes ++ more) left
passes-on a b c bytes waits more left h k = record {
  sent = h.sent ++ k.sent;
  bytes_are = append_regroups bytes h.sent waits more h.bytes_are ∙ ap (λ z. h.sent ++ z) k.bytes_are ∙ sym (append_assoc h.sent k.sent left);
  added = appends-more a b c h.sent k.sent h.added k.added;
}

-- or all of them are written
pub passes-all : (a b c : Option (List ℕ)) (bytes waits : List ℕ) → PassesBytes a b bytes waits → Appends b c waits → Appends a c bytes
passes-all a b c bytes waits h k = subst (Appends a c) (sym h.bytes_are) (appends-more a b c h.sent waits h.added k)

-- or a part of them
pub passes-part : (a b c : Option (List ℕ)) (bytes waits more : List ℕ)
    → PassesBytes a b bytes waits → AppendsPrefix b c (waits ++ more) → AppendsPrefix a c (bytes ++ more)
passes-part a b c bytes waits more h p =
    let e = append_regroups bytes h.sent waits more h.bytes_are in
    subst (AppendsPrefix a c) (sym e) (record {
      count = length h.sent + p.count;
      within = omega (arith, length-append h.sent (waits ++ more), p.within);
      added = subst (Appends a c) (sym (take-append-add h.sent (waits ++ more) p.count)) (appends-more a b c h.sent (take p.count (waits ++ more)) h.added p.added);
    })

pub passes-some : (a b c : Option (List ℕ)) (bytes waits : List ℕ) → PassesBytes a b bytes waits → AppendsPrefix b c waits → AppendsPrefix a c bytes
passes-some a b c bytes waits h p =
    subst (AppendsPrefix a c) (append-nil bytes)
    (passes-part a b c bytes waits [] h (subst (AppendsPrefix b c) (sym (append-nil waits)) p))

-- a screen behind all that waited, which was written
pub put_behind : {E : Type 0} (a b c : Option (List ℕ)) (old waits screen mid now : List ℕ) (r : Result (Unit {0}) E)
    → waits ≡ old → mid ≡ [] → now ≡ mid → Appends a b waits → OnOk r (Appends b c screen) → OnOk r (PassesBytes a c (old ++ screen) now)
put_behind a b c old waits screen mid now (Ok done) same none kept before added =
    rw (sym same, kept, none) (none_waits a c (waits ++ screen) (appends-more a b c waits screen before added))
put_behind a b c old waits screen mid now (Err e) same none kept before added = tt

pub broken_behind : {E : Type 0} (a b c : Option (List ℕ)) (old waits screen : List ℕ) (r : Result (Unit {0}) E)
    → waits ≡ old → Appends a b waits → OnErr r (AppendsPrefix b c screen) → OnErr r (AppendsPrefix a c (old ++ screen))
broken_behind a b c old waits screen (Ok done) same before part = tt
broken_behind a b c old waits screen (Err e) same before part =
    rw (sym same) (passes-part a b c waits [] screen (none_waits a b waits before) part)

-- what waits is written
pub flush_passes : {E : Type 0} (a b c : Option (List ℕ)) (bytes waits now : List ℕ) (r : Result (Unit {0}) E)
    → PassesBytes a b bytes waits → OnOk r (Appends b c waits) → OnOk r (now ≡ []) → OnOk r (PassesBytes a c bytes now)
flush_passes a b c bytes waits now (Ok done) before added none = rw none (none_waits a c bytes (passes-all a b c bytes waits before added))
flush_passes a b c bytes waits now (Err e) before added none = tt

pub flush_broken : {E : Type 0} (a b c : Option (List ℕ)) (bytes waits : List ℕ) (r : Result (Unit {0}) E)
    → PassesBytes a b bytes waits → OnErr r (AppendsPrefix b c waits) → OnErr r (AppendsPrefix a c bytes)
flush_broken a b c bytes waits (Ok done) before part = tt
flush_broken a b c bytes waits (Err e) before part = passes-some a b c bytes waits before part

-- nothing of some bytes is a part
pub none_part : (a : Option (List ℕ)) (xs : List ℕ) → AppendsPrefix a a xs
none_part a xs = record { count = 0; within = omega arith; added = appends-none a }

-- two texts behind what waits
pub in_turn : (a b c : Option (List ℕ)) (waited xs ys waits left : List ℕ)
    → PassesBytes a b (waited ++ xs) waits → PassesBytes b c (waits ++ ys) left → PassesBytes a c (waited ++ (xs ++ ys)) left
in_turn a b c waited xs ys waits left h k =
    subst (λ z. PassesBytes a c z left) (append_assoc waited xs ys) (passes-on a b c (waited ++ xs) waits ys left h k)

-- cut off in the first of them
pub cut_first : (a b : Option (List ℕ)) (waited xs ys : List ℕ) → AppendsPrefix a b (waited ++ xs) → AppendsPrefix a b (waited ++ (xs ++ ys))
cut_first a b waited xs ys p = subst (AppendsPrefix a b) (append_assoc waited xs ys) (part_of_more a b (waited ++ xs) ys p)

-- or in the second
pub cut_later : (a b c : Option (List ℕ)) (waited xs ys waits : List ℕ)
    → PassesBytes a b (waited ++ xs) waits → AppendsPrefix b c (waits ++ ys) → AppendsPrefix a c (waited ++ (xs ++ ys))
cut_later a b c waited xs ys waits h p =
    subst (AppendsPrefix a c) (append_assoc waited xs ys) (passes-part a b c (waited ++ xs) waits ys h p)

-- or between them
pub cut_between : (a b : Option (List ℕ)) (waited xs ys waits : List ℕ)
    → PassesBytes a b (waited ++ xs) waits → AppendsPrefix a b (waited ++ (xs ++ ys))
cut_between a b waited xs ys waits h = cut_later a b b waited xs ys waits h (none_part b (waits ++ ys))

-- a text that was put where nothing waited, and then all that waits
pub ends_whole : (a b c : Option (List ℕ)) (text waits : List ℕ) → PassesBytes a b ([] ++ text) waits → Appends b c waits → Appends a c text
ends_whole a b c text waits h k = passes-all a b c text waits h k

pub ends_part : (a b c : Option (List ℕ)) (text waits : List ℕ) → PassesBytes a b ([] ++ text) waits → AppendsPrefix b c waits → AppendsPrefix a c text
ends_part a b c text waits h p = passes-some a b c text waits h p

-- what holds of the sink holds at the fault
pub at_fault : {X E : Type 0} (P : Type 0) (r : Result X E) → P → OnErr r P
at_fault P (Ok x) p = tt
at_fault P (Err e) p = p

-- two texts, where the second call tells how both end
pub both : {E : Type 0} (a b c : Option (List ℕ)) (waited xs ys waits left : List ℕ) (r : Result (Unit {0}) E)
    → PassesBytes a b (waited ++ xs) waits → OnOk r (PassesBytes b c (waits ++ ys) left) → OnOk r (PassesBytes a c (waited ++ (xs ++ ys)) left)
both a b c waited xs ys waits left (Ok done) before more = in_turn a b c waited xs ys waits left before more
both a b c waited xs ys waits left (Err fault) before more = tt

pub both_cut : {E : Type 0} (a b c : Option (List ℕ)) (waited xs ys waits : List ℕ) (r : Result (Unit {0}) E)
    → PassesBytes a b (waited ++ xs) waits → OnErr r (AppendsPrefix b c (waits ++ ys)) → OnErr r (AppendsPrefix a c (waited ++ (xs ++ ys)))
both_cut a b c waited xs ys waits (Ok done) before part = tt
both_cut a b c waited xs ys waits (Err fault) before part = cut_later a b c waited xs ys waits before part
