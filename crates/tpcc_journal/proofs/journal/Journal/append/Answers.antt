use Rattle.std.proofs.Common.{◌∙◌, ◌++◌, ◌∷◌, ◌+◌, [], ap, sym, map}
use Rattle.std.specs.Prelude.{◌==◌, if◌then◌else◌}
use Rattle.std.specs.List.{list_all}
use Rattle.tpcc_rows.specs.Replay.{count_of}
use Rattle.tpcc_journal.specs.declared.stored.StoredEntry.{StoredEntry}
use Rattle.tpcc_journal.specs.Internal.Kept.{entry_in, is_in}
use Rattle.tpcc_journal.specs.Log.{Log}
use Rattle.tpcc_journal.proofs.Shelves.{entries_more, there_more, count_more}
use Rattle.tpcc_journal.proofs.journal.Journal.append.Goals as goal

pub invariant_of-self : goal.invariant_of-self
invariant_of-self c =
    let old = c.self.inside.replies.kinds in
    let new = c.keep-reply.new.self.kinds in
    let es = c.self.inside.entries.items in
    let e : StoredEntry = record { terminal = c.args.terminal; number = c.args.number; request = c.args.request; reply = c.keep-reply.result } in
    let more = ap (map (entry_in new)) c.push_reserved.ensures.items ∙ entries_more old new es e c.keep-reply.ensures.others c.self.invariant.there in
    record {
      there = ap (list_all (λ x. is_in new x.reply)) c.push_reserved.ensures.items ∙ there_more old new es e c.keep-reply.ensures.others c.self.invariant.there c.keep-reply.ensures.there;
      counted = λ t. c.add_one.ensures.counted t
          ∙ ap (λ n. n + (if t == c.args.terminal then 1 else 0)) (c.self.invariant.counted t)
          ∙ sym (ap (count_of t) more ∙ count_more t (map (entry_in old) es) (entry_in new e));
    }

pub returns : goal.returns
returns c =
    let old = c.self.inside.replies.kinds in
    let new = c.keep-reply.new.self.kinds in
    let es = c.self.inside.entries.items in
    let e : StoredEntry = record { terminal = c.args.terminal; number = c.args.number; request = c.args.request; reply = c.keep-reply.result } in
    record {
      appended = ap (map (entry_in new)) c.push_reserved.ensures.items
          ∙ entries_more old new es e c.keep-reply.ensures.others c.self.invariant.there
          ∙ (λ i. ap (λ (l : Log). l.entries) c.self.view_is i ++ record { terminal = c.args.terminal; number = c.args.number; request = c.args.request; reply = c.keep-reply.ensures.reply i } ∷ []);
    }
