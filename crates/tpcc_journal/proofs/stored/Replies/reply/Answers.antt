use Rattle.std.proofs.Common.{◌≡◌, ◌∙◌, ◌<◌, sym, ap, true, length, arith}
use Rattle.std.specs.Prelude.{nat_lt, unwrap_or, option_map}
use Rattle.std.proofs.lemmas.Bool.Decides.{nat_tests}
use Rattle.std.proofs.lemmas.Option.{slice_get-get_or}
use Rattle.tpcc_rows.specs.declared.transactions.replies.Reply.TheVariants as tell
use Rattle.tpcc_rows.specs.declared.transactions.replies.Delivery.TheVariants.{NoneQueued}
use Rattle.tpcc_journal.specs.declared.stored.StoredReply.TheVariants as kept
use Rattle.tpcc_journal.specs.Internal.Kept.{Shelf, is_in, reply_in}
use Rattle.tpcc_journal.proofs.stored.Replies.reply.Goals as goal

pub returns-in-Paid : goal.returns-in-Paid
returns-in-Paid c =
    let place = c.in-Paid.place in
    let paid = c.self.inside.payments.items in
    let there : nat_lt place (length paid) ≡ true =
    ap (λ (s : Shelf). is_in s.kinds (kept.Paid place)) c.self.view_is ∙ ap (is_in c.args.self.now.kinds) (sym c.in-Paid.is) ∙ c.requires.there in
    let inside : place < length paid = grind (arith, nat_tests, there) in
    ap tell.Paid c.index-in-Paid.ensures
    ∙ ap (λ o. unwrap_or (option_map tell.Paid o) (tell.Delivery NoneQueued)) (sym (slice_get-get_or paid place _ inside))
    ∙ ap (λ (s : Shelf). reply_in s.kinds (kept.Paid place)) c.self.view_is
    ∙ ap (reply_in c.args.self.now.kinds) (sym c.in-Paid.is)
