-- The lines of all terminals' receipts.
use Rattle.std.proofs.Common.{◌≡◌, ◌∙◌, refl, sym, ap, ℕ, List, [], ◌∷◌, ◌++◌}
use Rattle.std.specs.Prelude.{Vec, flat_map}
use Rattle.std.specs.declared.alloc.Global.{Global}
use Rattle.std.proofs.lemmas.List.Concat.{flat_map-append}
use Rattle.tpcc_terminal.specs.declared.receipts.Receipt.{Receipt}
use Rattle.tpcc_audit.specs.Settlement.{all_receipts}
use Rattle.tpcc_run.specs.ShownRun.{receipt_line, receipt_lines}

-- one terminal's behind another's
pub lines_of_all : (held : List (Vec Receipt Global)) → flat_map (λ (v : Vec Receipt Global). receipt_lines v.items) held ≡ receipt_lines (all_receipts held)
lines_of_all [] = refl
lines_of_all (v ∷ vs) =
    ap (λ (t : List ℕ). receipt_lines v.items ++ t) (lines_of_all vs) ∙ sym (flat_map-append receipt_line v.items (all_receipts vs))
