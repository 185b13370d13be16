use Rattle.tpcc_laws.proofs.Paid.{turn_pays, paid_within}
use Rattle.tpcc_laws.proofs.laws.turn_pays.Goals as goal

pub returns : goal.returns
returns c =
    record {
      rises = λ s request none keyed. turn_pays s request keyed.keyed none;
      least = λ s request none. (paid_within s request none).0;
      most = λ s request none. (paid_within s request none).1;
    }
