-- What stands in the word is a quote, and behind it what was read of the text, quoted.
use Rattle.std.proofs.Common.{◌≡◌, ◌∷◌, encode_utf8_all, string_bytes}
use Rattle.gob_words.proofs.ShellLaws.{quoted_text}
use Rattle.gob_words.proofs.shell.between_quotes.Given as goal

abbrev pub invariant-loop-character : goal.invariant-loop-character
invariant-loop-character l = string_bytes l.word ≡ encode_utf8_all (39 ∷ quoted_text l.yielded)
