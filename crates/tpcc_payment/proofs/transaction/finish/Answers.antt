use Rattle.std.proofs.Common.{◌∙◌, arith}
use Rattle.std.specs.Prelude.{pos}
use Rattle.std.proofs.lemmas.Int.{ints}
use Rattle.tpcc_laws.proofs.Numbers.{is_in, amount_within}
use Rattle.tpcc_laws.proofs.PaymentFacts.{payment_facts}
use Rattle.tpcc_tables.proofs.Pay.{payment_is}
use Rattle.tpcc_payment.proofs.Preparations.{named_fits, shown_reply, writes_of}
use Rattle.tpcc_payment.proofs.transaction.finish.Goals as goal
use Rattle.tpcc_rows.specs.declared.limits.TheConstants.{GREATEST_PAYMENT}
use Rattle.tpcc_money.specs.declared.moment.TheConstants.Moment.{LAST_SECOND}

pub information_after-information-requires : goal.information_after-information-requires
information_after-information-requires c =
    let facts = payment_facts c.args.tables.now.rows c.args.payment.now c.well_keyed.ensures.keyed.customers c.requires.accepted in
    let range = amount_within (pos 100) GREATEST_PAYMENT c.args.payment.now.amount facts.amount in
    record { least = omega (arith, ints, range.0); most = range.1 }

pub show_payment-reply-requires : goal.show_payment-reply-requires
show_payment-reply-requires c = record { fits = named_fits c.args.tables.now.rows c.args.payment.now c.named_rows-named.result c.well_keyed.ensures c.named_rows-named.ensures }

pub pay-requires-clause-payment : goal.pay-requires-clause-payment
pay-requires-clause-payment c = (
  c.args.payment.now,
  writes_of c.args.tables.now.rows c.args.payment.now c.named_rows-named.result c.history_row-history.result c.information_after-information.result c.named_rows-named.ensures
      (is_in 0 LAST_SECOND c.args.payment.now.moment (omega arith) (omega (arith, c.seconds.ensures.range))) c.history_row-history.ensures c.information_after-information.ensures,
)

pub returns-clause-rows : goal.returns-clause-rows
returns-clause-rows c =
    c.pay.ensures.rows
    ∙ payment_is c.args.tables.now.rows c.history_row-history.result c.information_after-information.result c.args.payment.now c.well_keyed.ensures.keyed
    (writes_of c.args.tables.now.rows c.args.payment.now c.named_rows-named.result c.history_row-history.result c.information_after-information.result c.named_rows-named.ensures
    (is_in 0 LAST_SECOND c.args.payment.now.moment (omega arith) (omega (arith, c.seconds.ensures.range))) c.history_row-history.ensures c.information_after-information.ensures)

pub returns-clause-reply : goal.returns-clause-reply
returns-clause-reply c = c.show_payment-reply.ensures ∙ shown_reply c.args.tables.now.rows c.args.payment.now c.named_rows-named.result c.information_after-information.result c.named_rows-named.ensures c.information_after-information.ensures
