-- The bytes are the characters that were gone over.
use Rattle.gob_forms.proofs.SpellingLaws.{AreFirst}
use Rattle.gob_forms.specs.Spellings.{without_cut}
use Rattle.gob_forms.proofs.spelling.decode_latin1.Given as goal

abbrev pub invariant-loop-character : goal.invariant-loop-character
invariant-loop-character l = AreFirst (without_cut l.fn.text) l.bytes.items l.character-iterator.rest.now
