-- The words so far say those that were made.
use Rattle.std.proofs.Common.{take}
use Rattle.gob_rename.proofs.WordLaws.{texts}
use Rattle.gob_rename.specs.Words.{AreSaid}
use Rattle.gob_rename.proofs.word.renames_said_by.Given as goal

abbrev pub invariant-loop-number : goal.invariant-loop-number
invariant-loop-number l = AreSaid (texts (take l.number l.words)) l.renames.items
