-- What was joined, and kept behind what was there.
use Rattle.std.proofs.Common.{◌≡◌, ◌∙◌, ap, sym, refl, subst, ℕ, List, [], ◌∷◌, ◌++◌, append-nil, append_assoc, map, take, ◌-◌, Some, inl, inr}
use Rattle.std.proofs.lemmas.List.{map-append, reverse-append, reverse-reverse}
use mathlib.Core.List.{reverse}
use Rattle.std.specs.Prelude.{Bool, true, false, Vec, if◌then◌else◌, Option, None, ◌⊎◌}
use Rattle.std.specs.declared.alloc.Global.{Global}
use Rattle.tpcc_rows.specs.Layout.{Scale}
use Rattle.tpcc_run.specs.declared.plan.Plan.{Plan}
use Rattle.tpcc_turns.specs.Seats.{SeatedView, keeper_of}
use Rattle.tpcc_terminal.specs.declared.receipts.Receipt.{Receipt}
use Rattle.tpcc_run.specs.OperatorView.{OperatorView}
use Rattle.tpcc_run.specs.Working.{HasWorked}
use Rattle.tpcc_run.specs.Internal.Working.{HasComeBack}
use Rattle.tpcc_run.specs.Returned.{HasKept, Returned, lists_of, returned_of, without_receipts}
use Rattle.tpcc_run.specs.Internal.Returned.{HasKeptBack}
use Rattle.tpcc_run.specs.Internal.Started.{AreKept, HasJoinedRunner, HaveJoined, HaveJoinedServers, IsPromised}
use Rattle.tpcc_run.specs.Internal.Answered.{HasDrained, IfAll}
use Rattle.tpcc_run.specs.Asking.{HasAsked}
use Rattle.tpcc_run.specs.declared.threads.operator_work.OperatorBack.{OperatorBack}
use Rattle.tpcc_run.specs.declared.threads.operator_work.OperatorBack.TheVariants.{All as Whole, Short, Missing}
use Rattle.tpcc_run.specs.declared.threads.duty.Duty.{Duty}
use Rattle.tpcc_run.specs.declared.threads.duty.Duty.TheVariants.{Deliveries, Rest}
use Rattle.tpcc_run.specs.declared.threads.fault.RunFault.{RunFault}
use Rattle.tpcc_run.specs.declared.threads.fault.RunFault.TheVariants.{NoMemory}
use Rattle.tpcc_run.specs.declared.threads.promises.ComesBack.{ComesBack}
use Rattle.tpcc_run.specs.declared.threads.promises.KeepsPurse.{KeepsPurse}

-- nothing was kept
pub kept_nothing : (purses : List SeatedView) (receipts : List (Vec Receipt Global)) → HasKept [] purses receipts purses receipts
kept_nothing purses receipts = record { purses_are = sym (append-nil purses); receipts_are = sym (append-nil (lists_of receipts)) }

-- a purse with its receipts was kept, where there was room
pub kept_one : (purses held : List SeatedView) (purse : SeatedView) (receipts now : List (Vec Receipt Global)) (more : Vec Receipt Global) (ok : Bool)
    → held ≡ purses ++ purse ∷ [] → now ≡ (if ok then receipts ++ more ∷ [] else receipts) → ok ≡ true → HasKept (record { purse = purse; receipts = more.items } ∷ []) purses receipts held now
kept_one purses held purse receipts now more true same is so =
    record { purses_are = same; receipts_are = ap lists_of is ∙ map-append (λ (v : Vec Receipt Global). v.items) receipts (more ∷ []) }
kept_one purses held purse receipts now more false same is so = absurd (cc so)

behind : {X Y : Type 0} (f : X → Y) (a b : List X) (first second third : List Y) → second ≡ first ++ map f a → third ≡ second ++ map f b → third ≡ first ++ map f (a ++ b)
behind f a b first second third was is = is ∙ ap (λ ys. ys ++ map f b) was ∙ append_assoc first (map f a) (map f b) ∙ ap (λ ys. first ++ ys) (sym (map-append f a b))

-- more was kept behind it
pub kept_behind : (a b : List Returned) (p0 : List SeatedView) (r0 : List (Vec Receipt Global)) (p1 : List SeatedView) (r1 : List (Vec Receipt Global)) (p2 : List SeatedView) (r2 : List (Vec Receipt Global))
    → HasKept a p0 r0 p1 r1 → HasKept b p1 r1 p2 r2 → HasKept (a ++ b) p0 r0 p2 r2
kept_behind a b p0 r0 p1 r1 p2 r2 was is = record {
  purses_are = behind (λ (r : Returned). r.purse) a b p0 p1 p2 was.purses_are is.purses_are;
  receipts_are = behind (λ (r : Returned). r.receipts) a b (lists_of r0) (lists_of r1) (lists_of r2) was.receipts_are is.receipts_are;
}

-- as many more of a kind
pub kept_mapped : {X : Type 0} (f : X → Returned) (a b : List X) (p0 : List SeatedView) (r0 : List (Vec Receipt Global)) (p1 : List SeatedView) (r1 : List (Vec Receipt Global)) (p2 : List SeatedView) (r2 : List (Vec Receipt Global))
    → HasKept (map f a) p0 r0 p1 r1 → HasKept (map f b) p1 r1 p2 r2 → HasKept (map f (a ++ b)) p0 r0 p2 r2
kept_mapped f a b p0 r0 p1 r1 p2 r2 was is =
    subst (λ (rs : List Returned). HasKept rs p0 r0 p2 r2) (sym (map-append f a b)) (kept_behind (map f a) (map f b) p0 r0 p1 r1 p2 r2 was is)

kept_more : (promises : List ComesBack) (posts : List OperatorView) (promise : ComesBack) (post : OperatorView)
    → AreKept promises posts → HasWorked promise.duty promise.scale promise.plan promise.number post → AreKept (promises ++ promise ∷ []) (posts ++ post ∷ [])
kept_more [] [] promise post before here = (here, tt)
kept_more [] (q ∷ qs) promise post before here = absurd before
kept_more (p ∷ ps) [] promise post before here = absurd before
kept_more (p ∷ ps) (q ∷ qs) promise post before here = (before.0, kept_more ps qs promise post before.1 here)

-- no terminal was joined yet
pub joined_nothing : (purses : List SeatedView) (receipts : List (Vec Receipt Global)) → HaveJoined [] purses receipts purses receipts
joined_nothing purses receipts = record { posts = []; are_kept = tt; kept = kept_nothing purses receipts }

-- one more was joined
pub joined_more : {N T C : Type 0} (promises : List ComesBack) (promise : ComesBack) (back : OperatorBack N T C)
    (p0 : List SeatedView) (r0 : List (Vec Receipt Global)) (p1 : List SeatedView) (r1 : List (Vec Receipt Global)) (p2 : List SeatedView) (r2 : List (Vec Receipt Global))
    → HaveJoined promises p0 r0 p1 r1 → HasComeBack promise back → HasKeptBack back p1 r1 p2 r2 → HaveJoined (promises ++ promise ∷ []) p0 r0 p2 r2
joined_more promises promise (Whole post) p0 r0 p1 r1 p2 r2 was came kept = record {
  posts = was.posts ++ post ∷ [];
  are_kept = kept_more promises was.posts promise post was.are_kept came;
  kept = kept_mapped returned_of was.posts (post ∷ []) p0 r0 p1 r1 p2 r2 was.kept kept;
}
joined_more promises promise (Short post) p0 r0 p1 r1 p2 r2 was came kept = absurd kept
joined_more promises promise Missing p0 r0 p1 r1 p2 r2 was came kept = absurd kept

-- of all handles some are joined, and the others are left, the next of them last
pub record JoinedSoFar {H : Type 0} (promise_of : H → ComesBack) (all left : List H)
    (p0 : List SeatedView) (r0 : List (Vec Receipt Global)) (p1 : List SeatedView) (r1 : List (Vec Receipt Global)) : Type 0 where
  pub done : List H
  pub split : all ≡ done ++ reverse left
  pub joined : HaveJoined (map promise_of done) p0 r0 p1 r1

pub so_far_nothing : {H : Type 0} (promise_of : H → ComesBack) (all left : List H) (purses : List SeatedView) (receipts : List (Vec Receipt Global))
    → left ≡ reverse all → JoinedSoFar promise_of all left purses receipts purses receipts
so_far_nothing promise_of all left purses receipts is =
    record { done = []; split = sym (reverse-reverse all) ∙ ap reverse (sym is); joined = joined_nothing purses receipts }

pub so_far_more : {H N T C : Type 0} (promise_of : H → ComesBack) (all left rest : List H) (handle : H) (back : OperatorBack N T C)
    (p0 : List SeatedView) (r0 : List (Vec Receipt Global)) (p1 : List SeatedView) (r1 : List (Vec Receipt Global)) (p2 : List SeatedView) (r2 : List (Vec Receipt Global))
    → JoinedSoFar promise_of all left p0 r0 p1 r1 → left ≡ rest ++ handle ∷ [] → HasComeBack (promise_of handle) back → HasKeptBack back p1 r1 p2 r2 → JoinedSoFar promise_of all rest p0 r0 p2 r2
so_far_more {H} promise_of all left rest handle back p0 r0 p1 r1 p2 r2 was is came kept = record {
  done = was.done ++ handle ∷ [];
  split = was.split ∙ ap (λ (hs : List H). was.done ++ reverse hs) is ∙ ap (λ (hs : List H). was.done ++ hs) (reverse-append rest (handle ∷ []))
      ∙ sym (append_assoc was.done (handle ∷ []) (reverse rest));
  joined = subst (λ (ps : List ComesBack). HaveJoined ps p0 r0 p2 r2) (sym (map-append promise_of was.done (handle ∷ [])))
      (joined_more (map promise_of was.done) (promise_of handle) back p0 r0 p1 r1 p2 r2 was.joined came kept);
}

pub so_far_all : {H : Type 0} (promise_of : H → ComesBack) (all left : List H) (p0 : List SeatedView) (r0 : List (Vec Receipt Global)) (p1 : List SeatedView) (r1 : List (Vec Receipt Global))
    → JoinedSoFar promise_of all left p0 r0 p1 r1 → left ≡ [] → HaveJoined (map promise_of all) p0 r0 p1 r1
so_far_all {H} promise_of all left p0 r0 p1 r1 was none =
    let same : was.done ≡ all = sym (was.split ∙ ap (λ (hs : List H). was.done ++ reverse hs) none ∙ append-nil was.done) in
    subst (λ (hs : List H). HaveJoined (map promise_of hs) p0 r0 p1 r1) same was.joined

-- the delivery runner was joined, and has asked for the rest
pub joined_runner : {N T C : Type 0} (scale : Scale) (plan : Plan) (promise : ComesBack) (back drained : OperatorBack N T C)
    (p0 : List SeatedView) (r0 : List (Vec Receipt Global)) (p1 : List SeatedView) (r1 : List (Vec Receipt Global))
    → IsPromised Deliveries scale plan promise → HasComeBack promise back → IfAll drained (HasDrained plan.moment back) → HasKeptBack drained p0 r0 p1 r1 → HasJoinedRunner promise p0 r0 p1 r1
joined_runner scale plan promise (Whole mid) (Whole post) p0 r0 p1 r1 promised came rest kept = record {
  post = post;
  run = record {
    mid = mid;
    worked = subst (λ (duty : Duty). HasWorked duty promise.scale promise.plan promise.number mid) promised.duty_is came;
    rested = subst (λ (one : Plan). (count : ℕ) × HasAsked count Rest one.moment mid post) (sym promised.plan_is) rest;
  };
  kept = kept;
}
joined_runner scale plan promise (Short mid) (Whole post) p0 r0 p1 r1 promised came rest kept = absurd rest
joined_runner scale plan promise Missing (Whole post) p0 r0 p1 r1 promised came rest kept = absurd rest
joined_runner scale plan promise back (Short post) p0 r0 p1 r1 promised came rest kept = absurd kept
joined_runner scale plan promise back Missing p0 r0 p1 r1 promised came rest kept = absurd kept

module _ {N T : Type 0} where
  -- no server was joined yet
  pub servers_nothing : (purses : List SeatedView) (receipts : List (Vec Receipt Global)) → HaveJoinedServers {N = N} {T = T} [] purses receipts purses receipts
  servers_nothing purses receipts = record { idle = []; idled = refl; kept = kept_nothing purses receipts }

  -- one more server was joined
  pub servers_more : (promises : List (KeepsPurse N T)) (promise : KeepsPurse N T) (purse : SeatedView)
      (p0 : List SeatedView) (r0 : List (Vec Receipt Global)) (p1 : List SeatedView) (r1 : List (Vec Receipt Global)) (p2 : List SeatedView) (r2 : List (Vec Receipt Global))
      → HaveJoinedServers promises p0 r0 p1 r1 → keeper_of purse ≡ keeper_of promise.purse.value → HasKept (without_receipts purse ∷ []) p1 r1 p2 r2
      → HaveJoinedServers (promises ++ promise ∷ []) p0 r0 p2 r2
  servers_more promises promise purse p0 r0 p1 r1 p2 r2 was same kept = record {
    idle = was.idle ++ purse ∷ [];
    idled = map-append keeper_of was.idle (purse ∷ []) ∙ ap (λ ks. ks ++ keeper_of purse ∷ []) was.idled
        ∙ ap (λ k. map (λ (p : KeepsPurse N T). keeper_of p.purse.value) promises ++ k ∷ []) same
        ∙ sym (map-append (λ (p : KeepsPurse N T). keeper_of p.purse.value) promises (promise ∷ []));
    kept = kept_mapped without_receipts was.idle (purse ∷ []) p0 r0 p1 r1 p2 r2 was.kept kept;
  }

  pub servers_step : {H : Type 0} (promise_of : H → KeepsPurse N T) (done : List H) (handle : H) (purse : SeatedView) (receipts : List Receipt)
      (p0 : List SeatedView) (r0 : List (Vec Receipt Global)) (p1 : List SeatedView) (r1 : List (Vec Receipt Global)) (p2 : List SeatedView) (r2 : List (Vec Receipt Global))
      → HaveJoinedServers (map promise_of done) p0 r0 p1 r1 → keeper_of purse ≡ keeper_of (promise_of handle).purse.value → receipts ≡ []
      → HasKept (record { purse = purse; receipts = receipts } ∷ []) p1 r1 p2 r2 → HaveJoinedServers (map promise_of (done ++ handle ∷ [])) p0 r0 p2 r2
  servers_step promise_of done handle purse receipts p0 r0 p1 r1 p2 r2 was same bare kept =
      subst (λ (ps : List (KeepsPurse N T)). HaveJoinedServers ps p0 r0 p2 r2) (sym (map-append promise_of done (handle ∷ [])))
      (servers_more (map promise_of done) (promise_of handle) purse p0 r0 p1 r1 p2 r2 was same
      (subst (λ (rs : List Receipt). HasKept (record { purse = purse; receipts = rs } ∷ []) p1 r1 p2 r2) bare kept))

-- no fault behind means none before
pub none_before : (old new : Option RunFault) → (new ≡ old) ⊎ (new ≡ Some NoMemory) → new ≡ None → old ≡ None
none_before old new (inl is) none = sym is ∙ none
none_before old new (inr is) none = absurd (cc (is, none))

-- where nothing more is popped
pub nothing_left : {H : Type 0} (old new : List H) (count : ℕ) → old ≡ new ++ [] → new ≡ take (count - 1) old → count ≡ 0 → old ≡ []
nothing_left old new count is rest none = is ∙ append-nil new ∙ rest ∙ ap (λ (n : ℕ). take (n - 1) old) none
