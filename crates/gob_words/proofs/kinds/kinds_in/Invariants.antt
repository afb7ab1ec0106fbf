use Rattle.gob_words.proofs.KindLaws.{SayUpTo}
use Rattle.gob_words.proofs.kinds.kinds_in.Given as goal

abbrev pub invariant-loop-word : goal.invariant-loop-word
invariant-loop-word l = SayUpTo l.words l.word-index l.kinds.items
