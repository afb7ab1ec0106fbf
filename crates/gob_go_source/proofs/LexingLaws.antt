-- The piece that stands first in a text.
use Rattle.std.proofs.Common.{◌≡◌, ◌∙◌, ℕ, List, drop, ap}
use Rattle.std.specs.Prelude.{Option, Some, None}
use Rattle.gob_go_source.specs.declared.piece.Start.{Start}
use Rattle.gob_go_source.specs.Lexing.{front, front_by, of_length, start_of}
use Rattle.gob_go_source.specs.Scanning.{end_of}

pub no_front : (text : List ℕ) → None ≡ start_of text → None ≡ front text
no_front text e = ap (front_by text) e

pub front_is : (text : List ℕ) (s : Start) (o : Option ℕ) → Some s ≡ start_of text
    → o ≡ end_of s.scan (drop s.len text) → of_length s.piece s.len o ≡ front text
front_is text s o e f = ap (of_length s.piece s.len) f ∙ ap (front_by text) e
