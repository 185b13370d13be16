use Rattle.std.proofs.Common.{rules, ◌≡◌, ◌∙◌, ◌++◌, ◌∷◌, [], ap, sym}
use Rattle.tpcc_rows.specs.declared.transactions.replies.Reply.TheVariants as tell
use Rattle.tpcc_rows.specs.declared.transactions.replies.Entered.TheVariants as entered
use Rattle.tpcc_journal.specs.Internal.Kept.{Shelf}
use Rattle.tpcc_journal.proofs.Shelves.{begins_longer, begins_same, keeps, last_reply}
use Rattle.tpcc_journal.proofs.stored.Replies.keep.Goals as goal

pub returns-in-Entered-Accepted-clause-reply : goal.returns-in-Entered-Accepted-clause-reply
returns-in-Entered-Accepted-clause-reply c = last_reply (λ order. tell.Entered (entered.Accepted order)) c.self.inside.orders.items c.push_reserved.new.self.items c.in-Entered-Accepted.order c.len.result c.push_reserved.ensures.items (search rules) ∙ (let f : c.in-Entered-Accepted.field-0 ≡ entered.Accepted c.in-Entered-Accepted.order = rw c.in-Entered-Accepted.is at c.in-Entered-Accepted.field-0-is in sym (c.in-Entered-Accepted.is ∙ ap tell.Entered f))

pub returns-in-Entered-Accepted-clause-others : goal.returns-in-Entered-Accepted-clause-others
returns-in-Entered-Accepted-clause-others c =
    keeps c.args.self.now.kinds (record { orders = c.push_reserved.new.self.items; payments = c.self.inside.payments.items; statuses = c.self.inside.statuses.items })
    (begins_longer c.args.self.now.kinds.orders c.push_reserved.new.self.items c.in-Entered-Accepted.order (c.push_reserved.ensures.items ∙ ap (λ (s : Shelf). s.kinds.orders ++ c.in-Entered-Accepted.order ∷ []) c.self.view_is)) (begins_same c.args.self.now.kinds.payments c.self.inside.payments.items (ap (λ (s : Shelf). s.kinds.payments) c.self.view_is)) (begins_same c.args.self.now.kinds.statuses c.self.inside.statuses.items (ap (λ (s : Shelf). s.kinds.statuses) c.self.view_is))

pub returns-in-Paid-clause-reply : goal.returns-in-Paid-clause-reply
returns-in-Paid-clause-reply c = last_reply tell.Paid c.self.inside.payments.items c.push_reserved-in-Paid.new.self.items c.in-Paid.paid c.len-in-Paid.result c.push_reserved-in-Paid.ensures.items (search rules) ∙ cc

pub returns-in-Paid-clause-others : goal.returns-in-Paid-clause-others
returns-in-Paid-clause-others c =
    keeps c.args.self.now.kinds (record { orders = c.self.inside.orders.items; payments = c.push_reserved-in-Paid.new.self.items; statuses = c.self.inside.statuses.items })
    (begins_same c.args.self.now.kinds.orders c.self.inside.orders.items (ap (λ (s : Shelf). s.kinds.orders) c.self.view_is)) (begins_longer c.args.self.now.kinds.payments c.push_reserved-in-Paid.new.self.items c.in-Paid.paid (c.push_reserved-in-Paid.ensures.items ∙ ap (λ (s : Shelf). s.kinds.payments ++ c.in-Paid.paid ∷ []) c.self.view_is)) (begins_same c.args.self.now.kinds.statuses c.self.inside.statuses.items (ap (λ (s : Shelf). s.kinds.statuses) c.self.view_is))

pub returns-in-Status-clause-reply : goal.returns-in-Status-clause-reply
returns-in-Status-clause-reply c = last_reply tell.Status c.self.inside.statuses.items c.push_reserved-in-Status.new.self.items c.in-Status.status c.len-in-Status.result c.push_reserved-in-Status.ensures.items (search rules) ∙ cc

pub returns-in-Status-clause-others : goal.returns-in-Status-clause-others
returns-in-Status-clause-others c =
    keeps c.args.self.now.kinds (record { orders = c.self.inside.orders.items; payments = c.self.inside.payments.items; statuses = c.push_reserved-in-Status.new.self.items })
    (begins_same c.args.self.now.kinds.orders c.self.inside.orders.items (ap (λ (s : Shelf). s.kinds.orders) c.self.view_is)) (begins_same c.args.self.now.kinds.payments c.self.inside.payments.items (ap (λ (s : Shelf). s.kinds.payments) c.self.view_is)) (begins_longer c.args.self.now.kinds.statuses c.push_reserved-in-Status.new.self.items c.in-Status.status (c.push_reserved-in-Status.ensures.items ∙ ap (λ (s : Shelf). s.kinds.statuses ++ c.in-Status.status ∷ []) c.self.view_is))
