use Rattle.std.proofs.Common.{rules, arith, refl, ap, length, length-append, ◌∷◌, []}
use Rattle.std.proofs.lemmas.Fmt.{length-decimal-le}
use Rattle.tpcc_payment.proofs.note.add_amount.Goals as goal

pub extend_padded-requires : goal.extend_padded-requires
extend_padded-requires c = (
  search rules,
  (
    search rules,
    (
      search rules,
      (
        length-decimal-le 2 _ (omega arith) (omega arith) (omega arith),
        omega (arith, c.requires.room, c.extend_number.ensures.few, ap length c.extend.ensures.extended, length-append c.extend_number.new.self (46 ∷ [])),
      ),
    ),
  ),
)

pub extend-requires-2 : goal.extend-requires-2
extend-requires-2 c = (
  search rules,
  (
    search rules,
    (
      omega (arith, c.requires.room, c.extend_number.ensures.few, ap length c.extend.ensures.extended, length-append c.extend_number.new.self (46 ∷ []), c.extend_padded.ensures.long),
      refl,
    ),
  ),
)
