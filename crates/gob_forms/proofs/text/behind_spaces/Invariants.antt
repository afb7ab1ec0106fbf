-- What was gone over are spaces.
use Rattle.std.proofs.Common.{◌≡◌, drop}
use Rattle.gob_forms.specs.Texts.{behind_spaces}
use Rattle.gob_forms.proofs.text.behind_spaces.Given as goal

abbrev pub invariant-loop-place : goal.invariant-loop-place
invariant-loop-place l = behind_spaces (drop l.place l.bytes) ≡ behind_spaces l.bytes
