-- What stands in the line is what was read of the text, escaped.
use Rattle.std.proofs.Common.{◌≡◌, encode_utf8_all, string_bytes}
use Rattle.gob_words.specs.Escaped.{escaped_text}
use Rattle.gob_words.proofs.message.escaped.Given as goal

abbrev pub invariant-loop-character : goal.invariant-loop-character
invariant-loop-character l = string_bytes l.line ≡ encode_utf8_all (escaped_text l.yielded)
