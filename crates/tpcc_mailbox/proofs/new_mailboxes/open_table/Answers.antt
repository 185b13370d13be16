use Rattle.std.proofs.Common.{rules}
use Rattle.tpcc_mailbox.proofs.Begins.{begins, first_words}
use Rattle.tpcc_mailbox.proofs.new_mailboxes.open_table.Goals as goal

pub vacant-requires : goal.vacant-requires
vacant-requires g c = let words = first_words c.args.count c.as_slice.result.now (search rules) in begins (λ j a. g.A.Answers.fits (g.A.Answers.label j) a) c.args.count c.as_slice.result.now words.0 words.1
