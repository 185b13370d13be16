-- The words of a new order, each read alone.
use Rattle.std.proofs.Common.{◌≡◌, refl, ap, sym, ℕ, ◌-◌, ◌≤◌, List, [], ◌∷◌, length, map, get_or, take, drop, Some, None, arith}
use Rattle.std.proofs.lemmas.List.{take_rest}
use Rattle.tpcc_rows.specs.declared.transactions.requests.Line.{Line}
use Rattle.tpcc_rows.specs.declared.transactions.requests.Request.TheVariants.{NewOrder}
use Rattle.tpcc_text.specs.Script.{number_of, moment_of, order_lines_of, order_of}

-- a list of four or more, by its places
pub four_up : {X : Type 0} (f : X → List ℕ) (xs : List X) (d : X) → 4 ≤ length xs
    → map f xs ≡ f (get_or xs 0 d) ∷ f (get_or xs 1 d) ∷ f (get_or xs 2 d) ∷ f (get_or xs 3 d) ∷ map f (take (length xs - 4) (drop 4 xs))
four_up f [] d least = absurd (omega (arith, least))
four_up f (a ∷ []) d least = absurd (omega (arith, least))
four_up f (a ∷ b ∷ []) d least = absurd (omega (arith, least))
four_up f (a ∷ b ∷ c ∷ []) d least = absurd (omega (arith, least))
four_up f (a ∷ b ∷ c ∷ e ∷ xs) d least = ap (λ rest. f a ∷ f b ∷ f c ∷ f e ∷ map f rest) (sym (take_rest (a ∷ b ∷ c ∷ e ∷ xs) 4))

module _ (w d c at : List ℕ) (words : List (List ℕ)) where
  pub no_warehouse : number_of w ≡ None → order_of (w ∷ d ∷ c ∷ at ∷ words) ≡ None
  unfolding order_of
  no_warehouse none = rw none refl

  pub no_district : (warehouse : ℕ) → number_of w ≡ Some warehouse → number_of d ≡ None → order_of (w ∷ d ∷ c ∷ at ∷ words) ≡ None
  unfolding order_of
  no_district warehouse e1 none = rw (e1, none) refl

  pub no_customer : (warehouse : ℕ) (district : ℕ) → number_of w ≡ Some warehouse → number_of d ≡ Some district → number_of c ≡ None → order_of (w ∷ d ∷ c ∷ at ∷ words) ≡ None
  unfolding order_of
  no_customer warehouse district e1 e2 none = rw (e1, e2, none) refl

  pub no_moment : (warehouse : ℕ) (district : ℕ) (customer : ℕ) → number_of w ≡ Some warehouse → number_of d ≡ Some district → number_of c ≡ Some customer → moment_of at ≡ None → order_of (w ∷ d ∷ c ∷ at ∷ words) ≡ None
  unfolding order_of
  no_moment warehouse district customer e1 e2 e3 none = rw (e1, e2, e3, none) refl

  pub no_lines : (warehouse : ℕ) (district : ℕ) (customer : ℕ) (moment : ℕ) → number_of w ≡ Some warehouse → number_of d ≡ Some district → number_of c ≡ Some customer → moment_of at ≡ Some moment → order_lines_of words ≡ None → order_of (w ∷ d ∷ c ∷ at ∷ words) ≡ None
  unfolding order_of
  no_lines warehouse district customer moment e1 e2 e3 e4 none = rw (e1, e2, e3, e4, none) refl

  pub order_read : (warehouse : ℕ) (district : ℕ) (customer : ℕ) (moment : ℕ) (lines : List Line) → number_of w ≡ Some warehouse → number_of d ≡ Some district → number_of c ≡ Some customer → moment_of at ≡ Some moment → order_lines_of words ≡ Some lines → order_of (w ∷ d ∷ c ∷ at ∷ words) ≡ Some (NewOrder (record { warehouse = warehouse; district = district; customer = customer; moment = moment; lines = lines }))
  unfolding order_of
  order_read warehouse district customer moment lines e1 e2 e3 e4 e5 = rw (e1, e2, e3, e4, e5) refl
