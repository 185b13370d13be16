use Rattle.tpcc_book.proofs.Keeps.{KeepLaws, PayLaws}
use Rattle.tpcc_core.proofs.Keeps.{book_stays}
use Rattle.tpcc_core.proofs.laws.book_is_kept.Goals as goal

pub returns : goal.returns
returns c =
    let keeps : KeepLaws = record { sound = c.turn_keeps.ensures; one_more = c.journal_grows.ensures.replay; stays_faithful = c.journal_grows.ensures.faithful } in
    let pays : PayLaws = record { rises = c.turn_pays.ensures.rises; least = c.turn_pays.ensures.least; most = c.turn_pays.ensures.most } in
    let stays = book_stays keeps pays c.args.opening c.opening_is_sound.ensures in
    record {
      kept = λ terminals servers events desk after. (stays terminals servers events desk after).0;
      opening = λ terminals servers events desk after. (stays terminals servers events desk after).1;
    }
