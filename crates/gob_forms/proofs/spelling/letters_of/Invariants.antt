-- The letters of the text are those of the rest behind what was read.
use Rattle.std.proofs.Common.{◌≡◌, [], drop, get_or}
use Rattle.gob_forms.specs.Spellings.{letters_behind}
use Rattle.gob_forms.proofs.spelling.letters_of.Given as goal

abbrev pub invariant-loop-byte : goal.invariant-loop-byte
invariant-loop-byte l = letters_behind (get_or l.last 0 0) (get_or l.last 1 0) l.letters.items
    (drop l.byte-index l.text)
    ≡ letters_behind (get_or l.last 0 0) (get_or l.last 1 0) [] l.text
