-- What a server's hand gives away.
use Rattle.std.specs.Prelude.{ℕ, ◌≡◌}
use Rattle.tpcc_book.specs.AnswerView.{AnswerView}
use Rattle.tpcc_core.specs.declared.mailbox.Hand.{Hand}
use Rattle.tpcc_core.specs.declared.mailbox.Hand.TheVariants as hand

-- the answer leaves the hand
pub record IsGiven {P : Type 0} (old : Hand P) (answer : AnswerView P) (new : Hand P) : Type 0 where
  pub terminal : ℕ
  pub was : old ≡ hand.Served terminal answer
  pub is : new ≡ hand.Empty
