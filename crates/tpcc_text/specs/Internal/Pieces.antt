-- The text of a piece of a line.
use Rattle.std.specs.Prelude.{ℕ, List, ◌++◌, flat_map, decimal}
use Rattle.tpcc_money.specs.Texts.{amount_text, rate_text, moment_text}
use Rattle.tpcc_text.specs.declared.screens.pieces.Piece.{Piece}
use Rattle.tpcc_text.specs.declared.screens.pieces.Piece.TheVariants as piece
use Rattle.tpcc_text.specs.Screens.{address_text}

abbrev pub piece_text : Piece → List ℕ
piece_text (piece.Word word) = word.now
piece_text (piece.Text name text) = name.now ++ text.now
piece_text (piece.Number name n) = name.now ++ decimal n
piece_text (piece.Count name n) = name.now ++ decimal n
piece_text (piece.Amount name amount) = name.now ++ amount_text amount
piece_text (piece.Rate name rate) = name.now ++ rate_text rate
piece_text (piece.Moment name at) = name.now ++ moment_text at
piece_text (piece.Address name address) = name.now ++ address_text address.now

abbrev pub pieces_text : List Piece → List ℕ
pieces_text pieces = flat_map piece_text pieces
