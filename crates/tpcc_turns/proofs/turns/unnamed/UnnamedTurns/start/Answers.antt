use Rattle.tpcc_turns.proofs.Starts.{starts_at_opening}
use Rattle.tpcc_turns.proofs.turns.unnamed.UnnamedTurns.start.Goals as goal

pub new-requires : goal.new-requires
new-requires g c =
    starts_at_opening c.args.opening.now c.in_ok-book.book c.in_ok-slots.slots.items c.in_ok-slots.ensures.slot c.in_ok-book.ensures.book
