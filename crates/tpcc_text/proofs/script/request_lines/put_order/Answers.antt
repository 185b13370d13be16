use Rattle.std.proofs.Common.{[], ◌∷◌, ◌++◌}
use Rattle.std.proofs.lemmas.Result.{on_ok_weaker}
use Rattle.std.specs.Prelude.{codes, decimal, flat_map}
use Rattle.tpcc_text.specs.RequestLines.{order_line, order_line_word}
use Rattle.tpcc_text.proofs.Chains.{behind}
use Rattle.tpcc_text.proofs.Request.{behind_four, words_behind}
use Rattle.tpcc_text.proofs.script.request_lines.put_order.Goals as goal

pub returns : goal.returns
unfolding order_line
returns c =
    let order = c.args.order.now in
    let head = rw c.seconds.ensures.value at c.in_ok-put_all.ensures in
    let placed = rw c.as_slice.ensures.lines at c.in_ok-put_order_lines.ensures in
    on_ok_weaker c.put.result (λ last. rw (words_behind order_line_word (decimal order.moment) order.lines)
    (behind_four (codes "new-order " ++ decimal order.warehouse) (32 ∷ decimal order.district) (32 ∷ decimal order.customer) (32 ∷ decimal order.moment)
    (flat_map (λ x. 32 ∷ order_line_word x) order.lines ++ 10 ∷ []) head (behind placed last))) c.put.ensures
