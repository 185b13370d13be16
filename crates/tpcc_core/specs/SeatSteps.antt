-- What events do to a terminal's seat.
use Rattle.std.specs.Prelude.{List, [], ◌∷◌, ◌++◌}
use Rattle.tpcc_rows.specs.declared.transactions.requests.Request.{Request}
use Rattle.tpcc_book.specs.AnswerView.{AnswerView}
use Rattle.tpcc_core.specs.declared.mailbox.Mailbox.{Mailbox}
use Rattle.tpcc_core.specs.declared.mailbox.Mailbox.TheVariants as box
use Rattle.tpcc_core.specs.declared.mailbox.Collected.{Collected}
use Rattle.tpcc_core.specs.Seats.{SeatNow}

-- the purse of a free mailbox goes into it with a request
abbrev pub mailbox_after_post : {P : Type 0} → Mailbox P → Request → Mailbox P
mailbox_after_post (box.Free purse) request = box.Posted (record { request = request; purse = purse })
mailbox_after_post (box.Posted letter) request = box.Posted letter
mailbox_after_post (box.Taken server) request = box.Taken server
mailbox_after_post (box.Answered answer) request = box.Answered answer

-- what a terminal keeps of an answer
abbrev pub kept_of : {P : Type 0} → AnswerView P → Collected
kept_of answer = record { request = answer.request; outcome = answer.outcome; place = answer.place }

-- the terminal takes the purse out of its mailbox, and keeps the answer that waits there
abbrev pub mailbox_after_collect : {P : Type 0} → Mailbox P → Mailbox P
mailbox_after_collect (box.Free purse) = box.Free purse
mailbox_after_collect (box.Posted letter) = box.Posted letter
mailbox_after_collect (box.Taken server) = box.Taken server
mailbox_after_collect (box.Answered answer) = box.Free answer.purse

abbrev pub waiting_answer : {P : Type 0} → Mailbox P → List Collected
waiting_answer (box.Free purse) = []
waiting_answer (box.Posted letter) = []
waiting_answer (box.Taken server) = []
waiting_answer (box.Answered answer) = kept_of answer ∷ []

abbrev pub seat_after_collect : {P : Type 0} → SeatNow P → SeatNow P
seat_after_collect seat = record { mailbox = mailbox_after_collect seat.mailbox; collected = seat.collected ++ waiting_answer seat.mailbox }
