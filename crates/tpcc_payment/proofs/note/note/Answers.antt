use Rattle.std.proofs.Common.{ap, ◌∙◌, ◌++◌, codes}
use Rattle.std.specs.Fmt.{decimal}
use Rattle.tpcc_money.specs.Texts.{amount_text}
use Rattle.tpcc_payment.proofs.Text.{note_is}
use Rattle.tpcc_payment.proofs.note.note.Goals as goal

pub returns : goal.returns
returns c =
    let p = c.args.payment.now in
    let k = c.args.customer.now in
    let one = c.add_number.ensures.written ∙ ap (λ t. t ++ decimal k.id ++ codes " ") c.empty-note.ensures.text in
    let two = c.add_number-2.ensures.written ∙ ap (λ t. t ++ decimal k.district ++ codes " ") one in
    let three = c.add_number-3.ensures.written ∙ ap (λ t. t ++ decimal k.warehouse ++ codes " ") two in
    let four = c.add_number-4.ensures.written ∙ ap (λ t. t ++ decimal p.district ++ codes " ") three in
    let five = c.add_number-5.ensures.written ∙ ap (λ t. t ++ decimal p.warehouse ++ codes " ") four in
    c.add_amount.ensures.written ∙ ap (λ t. t ++ amount_text p.amount ++ codes " ") five ∙ note_is p k
