use Rattle.std.proofs.Common.{◌∙◌, ◌++◌, ◌∷◌, [], ap}
use Rattle.tpcc_rows.specs.declared.transactions.entry.Entry.{Entry}
use Rattle.tpcc_rows.specs.declared.transactions.replies.Reply.{Reply}
use Rattle.tpcc_book.proofs.register.ready.commit.Goals as goal

pub returns-clause-entries : goal.returns-clause-entries
returns-clause-entries c =
    let entry : Reply → Entry = λ r. record { terminal = c.args.terminal; number = c.args.number; request = c.args.ready.copy; reply = r } in
    c.append.ensures.appended ∙ ap (λ (r : Reply). c.args.journal.now.entries ++ entry r ∷ []) c.finish-reply.ensures.reply

pub returns-clause-reply : goal.returns-clause-reply
returns-clause-reply c = c.finish-reply.ensures.reply
