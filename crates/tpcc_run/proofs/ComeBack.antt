-- All that came back of a run.
use Rattle.std.proofs.Common.{◌≡◌, ◌∙◌, ap, sym, refl, subst, ℕ, ◌+◌, List, [], ◌∷◌, ◌++◌, append_assoc, map, arith}
use Rattle.std.specs.Prelude.{Vec, Option, None, Some, IfSome, IsSome}
use Rattle.std.specs.List.{range_with_len}
use Rattle.std.specs.declared.alloc.Global.{Global}
use Rattle.std.proofs.lemmas.Simd.{map-map}
use Rattle.tpcc_rows.specs.Layout.{Scale}
use Rattle.tpcc_run.specs.declared.plan.Plan.{Plan}
use Rattle.tpcc_turns.specs.Seats.{SeatedView, keeper_of}
use Rattle.tpcc_terminal.specs.declared.receipts.Receipt.{Receipt}
use Rattle.tpcc_run.specs.OperatorView.{OperatorView}
use Rattle.tpcc_run.specs.Purses.{split_off, with_rooms}
use Rattle.tpcc_run.specs.Working.{HasRun}
use Rattle.tpcc_run.specs.Returned.{HaveComeBack, HaveWorked, HasKept, Returned, returned_of, without_receipts}
use Rattle.tpcc_run.specs.Internal.Started.{HasJoinedRunner, HaveJoined, HaveJoinedServers, HaveStarted, HaveStartedServers, IsPromised}
use Rattle.tpcc_run.specs.declared.threads.duty.Duty.TheVariants.{Deliveries}
use Rattle.tpcc_run.specs.declared.threads.promises.ComesBack.{ComesBack}
use Rattle.tpcc_run.specs.declared.threads.promises.KeepsPurse.{KeepsPurse}
use Rattle.tpcc_run.proofs.Joined.{kept_behind}
use Rattle.tpcc_run.proofs.Started.{rooms_more}
use Rattle.tpcc_run.proofs.Worked.{have_worked}

module _ (scale : Scale) (plan : Plan) where
  -- the terminals that were started have worked
  terminals_worked : (promises : List ComesBack) (p0 : List SeatedView) (r0 : List (Vec Receipt Global)) (p1 : List SeatedView) (r1 : List (Vec Receipt Global))
      → HaveStarted scale plan (range_with_len 1 plan.terminals) promises → (joined : HaveJoined promises p0 r0 p1 r1) → HaveWorked scale plan joined.posts
  terminals_worked promises p0 r0 p1 r1 started joined =
      let both = have_worked scale plan (range_with_len 1 plan.terminals) promises joined.posts started joined.are_kept in
      record { numbers = both.0; worked = both.1 }

  -- and the delivery runner has run
  runner_worked : (number : ℕ) (promise : ComesBack) (post : OperatorView)
      → IsPromised Deliveries scale plan promise → promise.number ≡ number → HasRun promise.scale promise.plan promise.number post → HasRun scale plan number post
  runner_worked number promise post promised same run =
      subst (λ (s : Scale). HasRun s plan number post) promised.scale_is
      (subst (λ (one : Plan). HasRun promise.scale one number post) promised.plan_is
      (subst (λ (n : ℕ). HasRun promise.scale promise.plan n post) same run))

  -- all that ask came back, before any server
  pub all_asked : (first mid rest : SeatedView) (runner : ComesBack) (promises : List ComesBack)
      (p1 : List SeatedView) (r1 : List (Vec Receipt Global)) (p2 : List SeatedView) (r2 : List (Vec Receipt Global)) (p3 : List SeatedView) (r3 : List (Vec Receipt Global))
      → first ≡ with_rooms mid 1 → mid ≡ with_rooms rest plan.terminals
      → IsPromised Deliveries scale plan runner → runner.number ≡ plan.terminals + 1 → HaveStarted scale plan (range_with_len 1 plan.terminals) promises
      → HaveJoined promises [] [] p1 r1 → HasJoinedRunner runner p1 r1 p2 r2 → HasKept (without_receipts rest ∷ []) p2 r2 p3 r3 → HaveComeBack 0 scale plan first p3 r3
  all_asked first mid rest runner promises p1 r1 p2 r2 p3 r3 before behind promised number started joined ran kept =
      let terminals = map returned_of joined.posts in
      let one = returned_of ran.post ∷ [] in
      let both : HasKept (terminals ++ one) [] [] p2 r2 = kept_behind terminals one [] [] p1 r1 p2 r2 joined.kept ran.kept in
      let whole : HasKept ((terminals ++ one) ++ without_receipts rest ∷ []) [] [] p3 r3 = kept_behind (terminals ++ one) (without_receipts rest ∷ []) [] [] p2 r2 p3 r3 both kept in
      record {
        terminals = joined.posts;
        runner = ran.post;
        rest = rest;
        idle = [];
        terminals_worked = terminals_worked promises [] [] p1 r1 started joined;
        runner_worked = runner_worked (plan.terminals + 1) runner ran.post promised number ran.run;
        rest_is = rooms_more first mid rest 1 plan.terminals (plan.terminals + 1 + 0) before behind (omega arith);
        servers_idled = refl;
        kept = subst (λ (rs : List Returned). HasKept rs [] [] p3 r3) (append_assoc terminals one (without_receipts rest ∷ [])) whole;
      }

  -- where there is a runner
  pub all_asked_with : {H : Type 0} (promise_of : H → ComesBack) (first mid rest : SeatedView) (runner : Option H) (promises : List ComesBack) (more : List Receipt)
      (p0 : List SeatedView) (r0 : List (Vec Receipt Global)) (p1 : List SeatedView) (r1 : List (Vec Receipt Global))
      (p2 : List SeatedView) (r2 : List (Vec Receipt Global)) (p3 : List SeatedView) (r3 : List (Vec Receipt Global))
      → p0 ≡ [] → r0 ≡ [] → first ≡ with_rooms mid 1 → mid ≡ with_rooms rest plan.terminals
      → IsSome runner → IfSome runner (λ h. IsPromised Deliveries scale plan (promise_of h)) → IfSome runner (λ h. (promise_of h).number ≡ plan.terminals + 1)
      → HaveStarted scale plan (range_with_len 1 plan.terminals) promises → HaveJoined promises p0 r0 p1 r1 → IfSome runner (λ h. HasJoinedRunner (promise_of h) p1 r1 p2 r2)
      → more ≡ [] → HasKept (record { purse = rest; receipts = more } ∷ []) p2 r2 p3 r3 → HaveComeBack 0 scale plan first p3 r3
  all_asked_with promise_of first mid rest None promises more p0 r0 p1 r1 p2 r2 p3 r3 none nothing before behind made promised number started joined ran bare kept = absurd (cc made)
  all_asked_with promise_of first mid rest (Some h) promises more p0 r0 p1 r1 p2 r2 p3 r3 none nothing before behind made promised number started joined ran bare kept =
      all_asked first mid rest (promise_of h) promises p1 r1 p2 r2 p3 r3 before behind promised number started
      (subst (λ (rs : List (Vec Receipt Global)). HaveJoined promises [] rs p1 r1) nothing (subst (λ (ps : List SeatedView). HaveJoined promises ps r0 p1 r1) none joined)) ran
      (subst (λ (rs : List Receipt). HasKept (record { purse = rest; receipts = rs } ∷ []) p2 r2 p3 r3) bare kept)

module _ {N T : Type 0} (scale : Scale) (plan : Plan) where
  idled : (first : SeatedView) (numbers : List ℕ) (promises : List (KeepsPurse N T)) (idle : List SeatedView)
      → HaveStartedServers first numbers promises → map keeper_of idle ≡ map (λ (p : KeepsPurse N T). keeper_of p.purse.value) promises → map keeper_of idle ≡ map (λ (n : ℕ). keeper_of (split_off first n)) numbers
  idled first numbers promises idle started same =
      same ∙ sym (map-map keeper_of (λ (p : KeepsPurse N T). p.purse.value) promises) ∙ ap (map keeper_of) started ∙ map-map keeper_of (split_off first) numbers

  -- and with the servers
  pub all_served : (count : ℕ) (first mid : SeatedView) (promises : List (KeepsPurse N T))
      (q0 : List SeatedView) (s0 : List (Vec Receipt Global)) (p0 : List SeatedView) (r0 : List (Vec Receipt Global)) (p1 : List SeatedView) (r1 : List (Vec Receipt Global))
      → first ≡ with_rooms mid count → HaveStartedServers first (range_with_len (plan.terminals + 2) count) promises
      → HaveComeBack 0 scale plan mid q0 s0 → p0 ≡ q0 → r0 ≡ s0 → HaveJoinedServers promises p0 r0 p1 r1 → HaveComeBack count scale plan first p1 r1
  all_served count first mid promises q0 s0 p0 r0 p1 r1 before started back same equal joined =
      let terminals = map returned_of back.terminals in
      let rest = returned_of back.runner ∷ without_receipts back.rest ∷ [] in
      let servers = map without_receipts joined.idle in
      let none : back.idle ≡ [] = nothing back.idle back.servers_idled in
      let asked : HasKept (terminals ++ rest) [] [] q0 s0 =
      subst (λ (ps : List SeatedView). HasKept (terminals ++ returned_of back.runner ∷ without_receipts back.rest ∷ map without_receipts ps) [] [] q0 s0) none back.kept in
      let askers : HasKept (terminals ++ rest) [] [] p0 r0 =
      subst (λ (rs : List (Vec Receipt Global)). HasKept (terminals ++ rest) [] [] p0 rs) (sym equal) (subst (λ (ps : List SeatedView). HasKept (terminals ++ rest) [] [] ps s0) (sym same) asked) in
      let whole : HasKept ((terminals ++ rest) ++ servers) [] [] p1 r1 = kept_behind (terminals ++ rest) servers [] [] p0 r0 p1 r1 askers joined.kept in
      record {
        terminals = back.terminals;
        runner = back.runner;
        rest = back.rest;
        idle = joined.idle;
        terminals_worked = back.terminals_worked;
        runner_worked = back.runner_worked;
        rest_is = rooms_more first mid back.rest count (plan.terminals + 1 + 0) (plan.terminals + 1 + count) before back.rest_is (omega arith);
        servers_idled = idled first (range_with_len (plan.terminals + 2) count) promises joined.idle started joined.idled;
        kept = subst (λ (rs : List Returned). HasKept rs [] [] p1 r1) (append_assoc terminals rest servers) whole;
      }
    where
      nothing : (purses : List SeatedView) → map keeper_of purses ≡ [] → purses ≡ []
      nothing [] is = refl
      nothing (p ∷ ps) is = absurd (cc is)
