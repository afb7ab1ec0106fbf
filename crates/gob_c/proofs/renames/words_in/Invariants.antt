-- The words so far are the first of those in the text.
use denote.Shadow.{shadow}
use denote.Text.{Utf8}
use Rattle.std.proofs.Common.{length}
use Rattle.gob_c.proofs.RenameLaws.{Begins}
use Rattle.gob_c.proofs.renames.words_in.Given as goal

abbrev pub invariant-words : goal.invariant-words
invariant-words l = shadow (Utf8 l.rest) × Begins l.fn.text l.rest l.words.items

abbrev pub decreases-words : goal.decreases-words
decreases-words l = length l.rest
