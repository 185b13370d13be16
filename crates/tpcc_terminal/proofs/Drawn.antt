-- One more line of an order.
use Rattle.std.proofs.Common.{◌≡◌, ℕ, suc, ◌+◌, Bool, List, [], ◌∷◌, ◌++◌, refl, arith}
use Rattle.std.specs.Prelude.{◌&&◌, ◌==◌}
use Rattle.rand_core.specs.Stream.{Stream}
use Rattle.tpcc_rows.specs.declared.transactions.requests.Line.{Line}
use Rattle.tpcc_terminal.specs.declared.home.Home.{Home}
use Rattle.tpcc_terminal.specs.Cards.{drawn_line, drawn_lines}

pub no_lines : (home : Home) (count : ℕ) (is_unused : Bool) (s : Stream) → ([], s) ≡ drawn_lines home count is_unused 0 s
unfolding drawn_lines
no_lines home count is_unused s = refl

-- the lines so far, and the draws of one more
pub lines_more : (home : Home) (count : ℕ) (is_unused : Bool) (n : ℕ) (s t u : Stream) (lines : List Line) (is_last : Bool) (line : Line)
    → (lines, t) ≡ drawn_lines home count is_unused n s → is_last ≡ (is_unused && (n + 1 == count)) → (line, u) ≡ drawn_line home is_last t
    → (lines ++ line ∷ [], u) ≡ drawn_lines home count is_unused (n + 1) s
unfolding drawn_lines
lines_more home count is_unused n s t u lines is_last line before last next =
    let on : n + 1 ≡ suc n = omega arith in
    let next_too : (line, u) ≡ drawn_line home (is_unused && (suc n == count)) t = rw on at (rw last at next) in
    rw (on, ← before, ← next_too) refl
