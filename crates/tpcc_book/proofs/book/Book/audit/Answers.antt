use Rattle.std.proofs.Common.{◌∙◌, ap, length}
use Rattle.tpcc_book.specs.Past.{Past, rise_of}
use Rattle.tpcc_book.proofs.book.Book.audit.Goals as goal

pub returns : goal.returns
returns g c =
    let entries = c.audit.ensures.entries in
    let paid = c.audit.ensures.cents in
    record {
      same = c.self.view_is;
      kept = rw (← c.self.view_is) c.journal.ensures.kept;
      entries = (entries.1, entries.2 ∙ c.self.invariant.0 ∙ ap (λ (b : Past). length b.entries) c.self.view_is);
      paid = (paid.1, paid.2 ∙ c.self.invariant.1 ∙ ap rise_of c.self.view_is);
    }
