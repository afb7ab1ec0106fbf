-- So many bytes stand behind the offset.
use Rattle.std.proofs.Common.{◌≡◌, ◌++◌, take, string_bytes}
use Rattle.gob_explain.specs.Column.{hex_column, offset_text}
use Rattle.gob_explain.proofs.text.lines.push_bytes.Given as goal

abbrev pub invariant-bytes : goal.invariant-bytes
invariant-bytes l =
    string_bytes l.out ≡ string_bytes l.fn.out ++ (offset_text l.fn.offset ++ hex_column (take l.byte-index l.bytes))
