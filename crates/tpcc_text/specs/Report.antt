-- The report of a run.
use Rattle.std.specs.Prelude.{ℕ, List, [], ◌∷◌, ◌++◌, ℤ, codes, decimal}
use Rattle.tpcc_money.specs.Texts.{amount_text}
use Rattle.tpcc_text.specs.Screens.{line}

-- the journal's entries, the payments in the purses, and the rise of W_YTD over all warehouses
abbrev pub report_text : ℕ → ℤ → ℤ → List ℕ
report_text entries paid rise =
    line (codes "entries") (decimal entries ∷ [])
    ++ (line (codes "paid") (amount_text paid ∷ [])
    ++ line (codes "rise") (amount_text rise ∷ []))
