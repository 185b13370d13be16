use Rattle.tpcc_book.proofs.Credits.{can_credit, served_by, totals_stay}
use Rattle.tpcc_book.proofs.Keeps.{PayLaws}
use Rattle.tpcc_book.proofs.book.Book.serve_by.Goals as goal

pub credit-requires : goal.credit-requires
credit-requires g c =
    let laws : PayLaws = record { rises = c.turn_pays.ensures.rises; least = c.turn_pays.ensures.least; most = c.turn_pays.ensures.most } in
    record {
      room =
          can_credit laws c.self.inside.register c.call_turn-turned.new.register _ _ c.args.request c.call_turn-turned.result c.self.inside.entries.total c.self.inside.cents.total
          c.journal.ensures.kept c.call_turn-turned.ensures.turn c.self.invariant.0 c.self.invariant.1;
    }

pub invariant_of-self : goal.invariant_of-self
invariant_of-self g c =
    let laws : PayLaws = record { rises = c.turn_pays.ensures.rises; least = c.turn_pays.ensures.least; most = c.turn_pays.ensures.most } in
    totals_stay laws c.self.inside.register c.call_turn-turned.new.register _ _ c.args.request c.call_turn-turned.result c.self.inside.entries.total c.self.inside.cents.total c.credit.new.entries.total c.credit.new.cents.total
    c.journal.ensures.kept c.call_turn-turned.ensures.turn c.self.invariant.0 c.self.invariant.1 c.credit.ensures.totals

pub returns : goal.returns
returns g c =
    record {
      served =
          rw (← c.self.view_is)
          (served_by c.self.inside.register c.call_turn-turned.new.register c.args.request c.args.purse c.terminal-terminal.result c.entries-entries.result c.call_turn-turned.result c.credit.result
          c.terminal-terminal.ensures.terminal c.entries-entries.ensures.entries c.call_turn-turned.ensures.turn c.credit.ensures.answer c.credit.ensures.fits);
    }
