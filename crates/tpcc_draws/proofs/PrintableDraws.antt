-- What is drawn as a text is printable.
use Rattle.std.proofs.Common.{ℕ, ◌≤◌, refl, arith}
use Rattle.rand_core.specs.Stream.{Stream}
use Rattle.tpcc_draws.specs.Draws.{a_string, n_string, letters, digits}
use Rattle.tpcc_draws.specs.Internal.Within.{HasWords, IsTextBetween}
use Rattle.tpcc_draws.proofs.Draw.{text_is_drawn}
use Rattle.tpcc_rows.specs.Printable.{is_printable}

pub a_text : (least most : ℕ) (s : Stream) → least ≤ most → most ≤ 1000 → HasWords s → IsTextBetween is_printable least most (a_string least most s)
a_text least most s order small words = text_is_drawn is_printable letters least most s refl (omega arith) (omega arith) order small words

pub n_text : (least most : ℕ) (s : Stream) → least ≤ most → most ≤ 1000 → HasWords s → IsTextBetween is_printable least most (n_string least most s)
n_text least most s order small words = text_is_drawn is_printable digits least most s refl (omega arith) (omega arith) order small words
