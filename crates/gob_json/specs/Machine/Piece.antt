-- Text that is kept in a piece of a fixed size. For private clauses.
use Rattle.std.specs.Prelude.{ℕ, List, take}
use Rattle.gob_json.specs.declared.text.piece.Piece.{Piece}

-- the text that is there
abbrev pub piece_text : {n : ℕ} → Piece n → List ℕ
piece_text p = take p.len p.bytes
