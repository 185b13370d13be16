use Rattle.std.proofs.Common.{◌≡◌, ◌+◌, ◌*◌, arith}
use Rattle.tpcc_mailbox.proofs.table.step_word.Goals as goal

pub compare_exchange-requires : goal.compare_exchange-requires
compare_exchange-requires g c = let words : c.args.shared.now.table_id.words ≡ 16 * (c.args.shared.now.table_id.slots + 1) = c.requires.sized.words in
    let at : c.word_index.result ≡ 16 * c.args.mailbox + 8 = c.word_index.ensures in (c.requires.own, omega (arith, words, at, c.requires.within), rw c.word_index.ensures c.requires.allowed)
