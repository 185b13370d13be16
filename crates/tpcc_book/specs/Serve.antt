-- What a book does with a request and a purse.
use Rattle.std.specs.Prelude.{ℕ, ◌≡◌, ◌+◌, ℤ, ◌+ℤ◌, List, MatchResult}
use Rattle.std.specs.List.{sum_by}
use Rattle.tpcc_money.specs.Amounts.{total}
use Rattle.tpcc_rows.specs.declared.transactions.requests.Request.{Request}
use Rattle.tpcc_rows.specs.Replay.{paid_by_request}
use Rattle.tpcc_book.specs.Past.{Past}
use Rattle.tpcc_book.specs.Purses.{PurseView}
use Rattle.tpcc_book.specs.AnswerView.{AnswerView}
use Rattle.tpcc_book.specs.Turn.{IsTurn}

-- a purse that made one more entry, and paid
abbrev pub purse_after : PurseView → ℤ → PurseView
purse_after p amount =
    record { terminal = p.terminal; entries = p.entries + 1; paid = p.paid +ℤ amount; room = p.room }

-- an answer by the purse that was handed in: it grew by the entry and its amount, or stayed
pub record Fits (request : Request) (purse : PurseView) (answer : AnswerView PurseView) : Type 0 where
  pub request_is : answer.request ≡ request
  pub purse_is : MatchResult answer.outcome (λ reply. answer.purse ≡ purse_after purse (paid_by_request request)) (λ refusal. answer.purse ≡ purse)

-- one turn of the purse's terminal, and an answer by that purse
pub record IsServed (old : Past) (request : Request) (purse : PurseView) (answer : AnswerView PurseView) (new : Past) : Type 0 where
  pub turn : IsTurn old purse.terminal purse.entries request (record { request = answer.request; outcome = answer.outcome; place = answer.place }) new
  pub fits : Fits request purse answer

-- the parts of the book that purses have: all are there where they add up to 10,001
abbrev pub rooms_of : List PurseView → ℕ
rooms_of purses = sum_by (λ p. p.room + 1) purses

abbrev pub entries_of : List PurseView → ℕ
entries_of purses = sum_by (λ p. p.entries) purses

abbrev pub paid_of : List PurseView → ℤ
paid_of purses = total (λ p. p.paid) purses
