-- An answer, put together from what a turn gave.
use Rattle.tpcc_book.specs.declared.register.outcome.Turned.{Turned}
use Rattle.tpcc_book.specs.AnswerView.{AnswerView}

-- what a turn gave back, with the purse
abbrev pub answer_of : {P : Type 0} → Turned → P → AnswerView P
answer_of turned purse =
    record { request = turned.request; outcome = turned.outcome; place = turned.place; purse = purse }
