-- A last name is a text.
use Rattle.std.proofs.Common.{◌≡◌, ◌≤◌, ℕ, true, List, [], ◌∷◌, length, refl, arith}
use Rattle.std.specs.List.{list_all}
use Rattle.std.proofs.lemmas.Bool.Decides.{nat_tests}
use Rattle.tpcc_rows.specs.Printable.{is_printable}
use Rattle.tpcc_text.specs.Script.{is_capital, is_last_name}

capital_is_printable : (b : ℕ) → is_capital b ≡ true → is_printable b ≡ true
capital_is_printable b h = grind (arith, nat_tests)

pub capitals_are_printable : (word : List ℕ) → list_all is_capital word ≡ true → list_all is_printable word ≡ true
capitals_are_printable [] h = refl
capitals_are_printable (b ∷ word) h = grind (arith, capital_is_printable b, capitals_are_printable word)

-- the test of a last name tells its length and its letters
pub name_is_text : (word : List ℕ) → is_last_name word ≡ true → (length word ≤ 16) × (list_all is_printable word ≡ true)
name_is_text word h =
    let capitals : list_all is_capital word ≡ true = grind (arith, nat_tests) in
    (grind (arith, nat_tests), capitals_are_printable word capitals)
