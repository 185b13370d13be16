-- What contracts see of a server's hand, and what events do to it.
use Rattle.std.specs.Prelude.{ℕ, ◌≡◌, Bool, true, false, Option, Some, None}
use Rattle.tpcc_book.specs.Past.{Past}
use Rattle.tpcc_book.specs.Purses.{PurseView}
use Rattle.tpcc_book.specs.AnswerView.{AnswerView}
use Rattle.tpcc_book.specs.Serve.{IsServed}
use Rattle.tpcc_core.specs.declared.mailbox.Hand.{Hand}
use Rattle.tpcc_core.specs.declared.mailbox.Hand.TheVariants as hand
use Rattle.tpcc_core.specs.declared.mailbox.Letter.{Letter}

abbrev pub is_empty : {P : Type 0} → Hand P → Bool
is_empty hand.Empty = true
is_empty (hand.Holds terminal letter) = false
is_empty (hand.Served terminal answer) = false

abbrev pub holds_letter : {P : Type 0} → Hand P → Bool
holds_letter hand.Empty = false
holds_letter (hand.Holds terminal letter) = true
holds_letter (hand.Served terminal answer) = false

abbrev pub holds_answer : {P : Type 0} → Hand P → Bool
holds_answer hand.Empty = false
holds_answer (hand.Holds terminal letter) = false
holds_answer (hand.Served terminal answer) = true

-- the terminal of the answer that it holds
abbrev pub answer_for : {P : Type 0} → Hand P → Option ℕ
answer_for hand.Empty = None
answer_for (hand.Holds terminal letter) = None
answer_for (hand.Served terminal answer) = Some terminal

-- the book serves the letter in the hand, which then holds its answer
pub record Serves (old : Hand PurseView) (book : Past) (new : Hand PurseView) (after : Past) : Type 0 where
  pub terminal : ℕ
  pub letter : Letter PurseView
  pub answer : AnswerView PurseView
  pub was : old ≡ hand.Holds terminal letter
  pub served : IsServed book letter.request letter.purse answer after
  pub is : new ≡ hand.Served terminal answer
