use Rattle.std.proofs.Common.{rules}
use Rattle.tpcc_book.proofs.register.Register.start.Goals as goal

pub invariant_of-result : goal.invariant_of-result
invariant_of-result c = record {
  kept = record {
    sound = record {
      well_keyed = search rules;
      queue = search rules;
      stocked = search rules;
      consistent = search rules;
    };
    replays = search rules;
    faithful = search rules;
    few = search rules;
    rises = search rules;
    paid_least = search rules;
    paid_most = search rules;
  };
  opening_sum = search rules;
}
