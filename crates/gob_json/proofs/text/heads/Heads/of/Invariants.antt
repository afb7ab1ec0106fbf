-- Those that are made so far are as they should be.
use Rattle.std.proofs.Common.{◌≡◌, length}
use Rattle.gob_json.specs.Machine.Heads.{AreHeadsTo}
use Rattle.gob_json.proofs.text.heads.Heads.of.Given as goal

abbrev pub invariant-fields : goal.invariant-fields
invariant-fields l = (length l.heads ≡ 8) × AreHeadsTo l.fields l.heads l.count
