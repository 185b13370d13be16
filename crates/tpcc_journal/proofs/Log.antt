-- The result log, run by run and ten runs by ten runs.
use Rattle.std.proofs.Common.{◌≡◌, ◌∙◌, sym, ap, ℕ, zero, suc, ◌+◌, ◌*◌, ◌<◌, List, [], ◌∷◌, ◌++◌, length, take, get_or, refl, arith, Option, Some, None}
use Rattle.std.specs.Prelude.{filter_map, slice_range}
use Rattle.std.specs.List.{range_with_len, cons_option}
use Rattle.std.specs.Option.{option_to_list}
use Rattle.tpcc_rows.specs.declared.transactions.entry.Entry.{Entry}
use Rattle.tpcc_rows.specs.declared.transactions.replies.DistrictDelivery.{DistrictDelivery}
use Rattle.tpcc_rows.specs.declared.transactions.replies.Delivered.{Delivered}
use Rattle.tpcc_rows.specs.Replay.{district_delivery, district_deliveries, whole_ticket}
use Rattle.tpcc_journal.specs.Internal.Kept.{run_at}
use Rattle.tpcc_journal.proofs.Elements.{are_rest}

then_one : {X : Type 0} (o : Option X) (ls ms : List X) → cons_option o (ls ++ ms) ≡ cons_option o ls ++ ms
then_one None ls ms = refl
then_one (Some l) ls ms = refl

alone : {X : Type 0} (o : Option X) → cons_option o [] ≡ option_to_list o
alone None = refl
alone (Some l) = refl

pub one_more_run : (entries : List Entry) (i : ℕ) → i < length entries → district_deliveries (take (i + 1) entries) ≡ district_deliveries (take i entries) ++ option_to_list (run_at entries i)
one_more_run [] i lt = absurd (omega arith)
one_more_run (x ∷ xs) zero lt = alone (district_delivery x.reply)
one_more_run (x ∷ xs) (suc i) lt =
    let more : suc i + 1 ≡ suc (i + 1) = omega arith in
    ap (λ k. district_deliveries (take k (x ∷ xs))) more
    ∙ ap (cons_option (district_delivery x.reply)) (one_more_run xs i (omega arith))
    ∙ then_one (district_delivery x.reply) (district_deliveries (take i xs)) (option_to_list (run_at xs i))

-- the lines of so many tens of runs
abbrev pub line_at : List DistrictDelivery → ℕ → Option Delivered
line_at runs ten = whole_ticket (slice_range runs (10 * ten) (10 * ten + 10))

abbrev pub lines_of : List DistrictDelivery → ℕ → ℕ → List Delivered
lines_of runs from tens = filter_map (line_at runs) (range_with_len from tens)

pub one_more_line : (runs : List DistrictDelivery) (from tens ten : ℕ) → from + tens ≡ ten → lines_of runs from (tens + 1) ≡ lines_of runs from tens ++ option_to_list (line_at runs ten)
one_more_line runs from zero ten e =
    let there : from ≡ ten = omega arith in
    ap (λ n. cons_option (line_at runs n) []) there ∙ alone (line_at runs ten)
one_more_line runs from (suc tens) ten e =
    let more : suc tens + 1 ≡ suc (tens + 1) = omega arith in
    ap (λ n. lines_of runs from n) more
    ∙ ap (cons_option (line_at runs from)) (one_more_line runs (from + 1) tens ten (omega arith))
    ∙ then_one (line_at runs from) (lines_of runs (from + 1) tens) (option_to_list (line_at runs ten))

-- ---- ten runs

any_default : {X : Type 0} (xs : List X) (i : ℕ) (a b : X) → i < length xs → get_or xs i a ≡ get_or xs i b
any_default [] i a b lt = absurd (omega arith)
any_default (x ∷ xs) zero a b lt = refl
any_default (x ∷ xs) (suc i) a b lt = any_default xs i a b (omega arith)

-- a run that stands at a place
abbrev IsAt : List DistrictDelivery → ℕ → DistrictDelivery → Type 0
IsAt runs i run = run ≡ get_or runs i run

pub ten_runs : (runs : List DistrictDelivery) (t a r0 r1 r2 r3 r4 r5 r6 r7 r8 r9 : DistrictDelivery) → length runs ≡ 10 → IsAt runs 0 r0 → IsAt runs 1 r1 → IsAt runs 2 r2 → IsAt runs 3 r3 → IsAt runs 4 r4 → IsAt runs 5 r5 → IsAt runs 6 r6 → IsAt runs 7 r7 → IsAt runs 8 r8 → IsAt runs 9 r9
    → Some (record {
      ticket = (get_or runs 9 t).ticket;
      at = (get_or runs 9 a).at;
      orders = (get_or runs 0 r0).order ∷ (get_or runs 1 r1).order ∷ (get_or runs 2 r2).order ∷ (get_or runs 3 r3).order ∷ (get_or runs 4 r4).order ∷ (get_or runs 5 r5).order ∷ (get_or runs 6 r6).order ∷ (get_or runs 7 r7).order ∷ (get_or runs 8 r8).order ∷ (get_or runs 9 r9).order ∷ [];
    }) ≡ whole_ticket runs
ten_runs runs t a r0 r1 r2 r3 r4 r5 r6 r7 r8 r9 ten e0 e1 e2 e3 e4 e5 e6 e7 e8 e9 =
    let lt : 9 < length runs = omega arith in
    let whole = are_rest (r0 ∷ r1 ∷ r2 ∷ r3 ∷ r4 ∷ r5 ∷ r6 ∷ r7 ∷ r8 ∷ r9 ∷ []) runs 0 (e0, (e1, (e2, (e3, (e4, (e5, (e6, (e7, (e8, (e9, tt)))))))))) (omega arith) in
    (λ i. Some (record {
      ticket = ((any_default runs 9 t r9 lt ∙ sym e9) i).ticket;
      at = ((any_default runs 9 a r9 lt ∙ sym e9) i).at;
      orders = (sym e0 i).order ∷ (sym e1 i).order ∷ (sym e2 i).order ∷ (sym e3 i).order ∷ (sym e4 i).order ∷ (sym e5 i).order ∷ (sym e6 i).order ∷ (sym e7 i).order ∷ (sym e8 i).order ∷ (sym e9 i).order ∷ [];
    }))
    ∙ ap whole_ticket whole
