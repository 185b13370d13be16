-- What an answer is seen as.
use Rattle.std.specs.Prelude.{ℕ, Option, Result}
use Rattle.tpcc_rows.specs.declared.transactions.requests.Request.{Request}
use Rattle.tpcc_rows.specs.declared.transactions.replies.Reply.{Reply}
use Rattle.tpcc_rows.specs.declared.transactions.refusals.Refusal.{Refusal}

-- the request, its reply or refusal, the place of its entry, and the purse that was handed in
pub record AnswerView (P : Type 0) : Type 0 where
  pub request : Request
  pub outcome : Result Reply Refusal
  pub place : Option ℕ
  pub purse : P

-- the same answer by what carries its purse
abbrev pub answer_with : {Q P : Type 0} → AnswerView Q → P → AnswerView P
answer_with answer purse =
    record { request = answer.request; outcome = answer.outcome; place = answer.place; purse = purse }
