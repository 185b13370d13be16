use Rattle.std.proofs.Common.{◌≡◌, ◌∙◌, sym, ap, refl, Some}
use Rattle.std.specs.Prelude.{slice_get, option_map}
use Rattle.std.proofs.lemmas.Option.{slice_get_read, slice_get-map}
use Rattle.tpcc_journal.specs.Internal.Kept.{entry_in}
use Rattle.tpcc_journal.specs.Log.{Log}
use Rattle.tpcc_journal.proofs.journal.Journal.entry.Goals as goal

pub returns : goal.returns
returns c =
    let j = c.self.inside in
    let kept = c.in_ok-kept.kept.now in
    let found : slice_get j.entries.items c.args.place ≡ Some kept =
    ap (λ xs. slice_get xs c.args.place) (sym c.deref.ensures.value) ∙ slice_get_read c.deref.result.now _ c.args.place kept refl c.in_ok-kept.ensures.lookup.3.0 c.in_ok-kept.ensures.lookup.1
    in
    record {
      entry = (λ i. Some (record { terminal = kept.terminal; number = kept.number; request = kept.request; reply = c.reply.ensures i }))
          ∙ sym (slice_get-map (entry_in j.replies.kinds) j.entries.items c.args.place ∙ ap (option_map (entry_in j.replies.kinds)) found)
          ∙ ap (λ (l : Log). slice_get l.entries c.args.place) c.self.view_is;
    }
