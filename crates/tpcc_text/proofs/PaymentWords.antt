-- The seven words of a payment, each read alone.
use Rattle.std.proofs.Common.{◌≡◌, refl, ℕ, ◌≤◌, ◌<◌, ℤ, List, [], ◌∷◌, length, map, get_or, Some, None, arith}
use Rattle.tpcc_rows.specs.declared.transactions.requests.Who.{Who}
use Rattle.tpcc_rows.specs.declared.transactions.requests.Request.TheVariants.{Payment}
use Rattle.tpcc_text.specs.Script.{number_of, moment_of, cents_of, customer_of, payment_of}

-- a list of seven, by its places
pub seven : {X : Type 0} (f : X → List ℕ) (xs : List X) (d : X) → 7 ≤ length xs → length xs < 8
    → map f xs ≡ f (get_or xs 0 d) ∷ f (get_or xs 1 d) ∷ f (get_or xs 2 d) ∷ f (get_or xs 3 d) ∷ f (get_or xs 4 d) ∷ f (get_or xs 5 d) ∷ f (get_or xs 6 d) ∷ []
seven f [] d least below = absurd (omega (arith, least))
seven f (a ∷ []) d least below = absurd (omega (arith, least))
seven f (a ∷ b ∷ []) d least below = absurd (omega (arith, least))
seven f (a ∷ b ∷ c ∷ []) d least below = absurd (omega (arith, least))
seven f (a ∷ b ∷ c ∷ e ∷ []) d least below = absurd (omega (arith, least))
seven f (a ∷ b ∷ c ∷ e ∷ g ∷ []) d least below = absurd (omega (arith, least))
seven f (a ∷ b ∷ c ∷ e ∷ g ∷ h ∷ []) d least below = absurd (omega (arith, least))
seven f (a ∷ b ∷ c ∷ e ∷ g ∷ h ∷ i ∷ []) d least below = refl
seven f (a ∷ b ∷ c ∷ e ∷ g ∷ h ∷ i ∷ j ∷ xs) d least below = absurd (omega (arith, below))

pub payment_read : (w d c_w c_d c h at : List ℕ) (warehouse district customer_warehouse customer_district : ℕ) (who : Who) (amount : ℤ) (moment : ℕ)
    → number_of w ≡ Some warehouse → number_of d ≡ Some district → number_of c_w ≡ Some customer_warehouse → number_of c_d ≡ Some customer_district
    → customer_of c ≡ Some who → cents_of h ≡ Some amount → moment_of at ≡ Some moment
    → payment_of (w ∷ d ∷ c_w ∷ c_d ∷ c ∷ h ∷ at ∷ [])
    ≡ Some (Payment (record { warehouse = warehouse; district = district; customer_warehouse = customer_warehouse; customer_district = customer_district; who = who; amount = amount; moment = moment }))
unfolding payment_of
payment_read w d c_w c_d c h at warehouse district customer_warehouse customer_district who amount moment e1 e2 e3 e4 e5 e6 e7 = rw (e1, e2, e3, e4, e5, e6, e7) refl

-- and where one of them can't be read
module _ (w d c_w c_d c h at : List ℕ) where
  pub no_warehouse : number_of w ≡ None → payment_of (w ∷ d ∷ c_w ∷ c_d ∷ c ∷ h ∷ at ∷ []) ≡ None
  unfolding payment_of
  no_warehouse none = rw none refl

  pub no_district : (warehouse : ℕ) → number_of w ≡ Some warehouse → number_of d ≡ None → payment_of (w ∷ d ∷ c_w ∷ c_d ∷ c ∷ h ∷ at ∷ []) ≡ None
  unfolding payment_of
  no_district warehouse e1 none = rw (e1, none) refl

  pub no_customer_warehouse : (warehouse : ℕ) (district : ℕ) → number_of w ≡ Some warehouse → number_of d ≡ Some district → number_of c_w ≡ None → payment_of (w ∷ d ∷ c_w ∷ c_d ∷ c ∷ h ∷ at ∷ []) ≡ None
  unfolding payment_of
  no_customer_warehouse warehouse district e1 e2 none = rw (e1, e2, none) refl

  pub no_customer_district : (warehouse : ℕ) (district : ℕ) (customer_warehouse : ℕ) → number_of w ≡ Some warehouse → number_of d ≡ Some district → number_of c_w ≡ Some customer_warehouse → number_of c_d ≡ None → payment_of (w ∷ d ∷ c_w ∷ c_d ∷ c ∷ h ∷ at ∷ []) ≡ None
  unfolding payment_of
  no_customer_district warehouse district customer_warehouse e1 e2 e3 none = rw (e1, e2, e3, none) refl

  pub no_who : (warehouse : ℕ) (district : ℕ) (customer_warehouse : ℕ) (customer_district : ℕ) → number_of w ≡ Some warehouse → number_of d ≡ Some district → number_of c_w ≡ Some customer_warehouse → number_of c_d ≡ Some customer_district → customer_of c ≡ None → payment_of (w ∷ d ∷ c_w ∷ c_d ∷ c ∷ h ∷ at ∷ []) ≡ None
  unfolding payment_of
  no_who warehouse district customer_warehouse customer_district e1 e2 e3 e4 none = rw (e1, e2, e3, e4, none) refl

  pub no_amount : (warehouse : ℕ) (district : ℕ) (customer_warehouse : ℕ) (customer_district : ℕ) (who : Who) → number_of w ≡ Some warehouse → number_of d ≡ Some district → number_of c_w ≡ Some customer_warehouse → number_of c_d ≡ Some customer_district → customer_of c ≡ Some who → cents_of h ≡ None → payment_of (w ∷ d ∷ c_w ∷ c_d ∷ c ∷ h ∷ at ∷ []) ≡ None
  unfolding payment_of
  no_amount warehouse district customer_warehouse customer_district who e1 e2 e3 e4 e5 none = rw (e1, e2, e3, e4, e5, none) refl

  pub no_moment : (warehouse : ℕ) (district : ℕ) (customer_warehouse : ℕ) (customer_district : ℕ) (who : Who) (amount : ℤ) → number_of w ≡ Some warehouse → number_of d ≡ Some district → number_of c_w ≡ Some customer_warehouse → number_of c_d ≡ Some customer_district → customer_of c ≡ Some who → cents_of h ≡ Some amount → moment_of at ≡ None → payment_of (w ∷ d ∷ c_w ∷ c_d ∷ c ∷ h ∷ at ∷ []) ≡ None
  unfolding payment_of
  no_moment warehouse district customer_warehouse customer_district who amount e1 e2 e3 e4 e5 e6 none = rw (e1, e2, e3, e4, e5, e6, none) refl
