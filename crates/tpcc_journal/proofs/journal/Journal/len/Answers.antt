use Rattle.std.proofs.Common.{◌≡◌, length, ap, arith, rules}
use Rattle.std.specs.Prelude.{vec_len}
use Rattle.std.proofs.lemmas.List.{length-map}
use Rattle.tpcc_journal.specs.Internal.Kept.{entry_in}
use Rattle.tpcc_journal.specs.Log.{Log}
use Rattle.tpcc_journal.proofs.journal.Journal.len.Goals as goal

pub returns : goal.returns
returns c =
    let j = c.self.inside in
    let mapped = length-map j.entries.items (entry_in j.replies.kinds) in
    let seen = ap (λ (l : Log). length l.entries) c.self.view_is in
    let count : vec_len j.entries ≡ length c.args.self.now.entries = omega (arith, mapped, seen, j.entries.ok.0) in
    record { length = search (rules, count) }
