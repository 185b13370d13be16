use Rattle.std.proofs.Common.{ap}
use Rattle.tpcc_book.specs.Purses.{PoolView}
use Rattle.tpcc_book.proofs.purse.pool.Pool.parts.Goals as goal

pub returns : goal.returns
returns g c = record { parts = ap (λ (p : PoolView). p.parts) c.self.view_is }
