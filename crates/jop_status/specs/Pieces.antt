-- Texts that are written piece by piece, so that none takes memory.
use Rattle.std.specs.Prelude.{ℕ, List}
use Rattle.std.specs.List.{flat_map}
use Rattle.std.specs.Fmt.{decimal}
use Rattle.jop_base.specs.LockNames.{file_name}
use Rattle.jop_status.specs.declared.piece.Piece.{Piece}
use Rattle.jop_status.specs.declared.piece.Piece.TheVariants.{Word, Bytes, Number, Id, Name}

abbrev pub piece_text : Piece → List ℕ
piece_text (Word text) = text.now
piece_text (Bytes bytes) = bytes.now
piece_text (Number number) = decimal number
piece_text (Id id) = id
piece_text (Name name) = file_name name

-- all pieces in a row
abbrev pub pieces_text : List Piece → List ℕ
pieces_text pieces = flat_map piece_text pieces
