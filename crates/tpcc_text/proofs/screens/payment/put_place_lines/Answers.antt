use Rattle.std.proofs.Common.{append_assoc}
use Rattle.tpcc_text.specs.Screens.{address_text, place_lines}
use Rattle.tpcc_text.proofs.screens.payment.put_place_lines.Goals as goal

pub returns : goal.returns
unfolding place_lines
returns c = rw (append_assoc (address_text c.args.paid.now.warehouse_address)) c.put_all.ensures
