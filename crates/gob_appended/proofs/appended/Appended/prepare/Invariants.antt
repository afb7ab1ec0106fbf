use Rattle.std.proofs.Common.{◌≡◌}
use Rattle.std.specs.Io.KnownBytes.{Keeps}
use Rattle.gob_appended.specs.Offsets.{GivesNone}
use Rattle.gob_appended.specs.Reader.{to_give}
use Rattle.gob_appended.proofs.appended.Appended.prepare.Given as goal

abbrev pub invariant-loop : goal.invariant-loop
invariant-loop g l = record {
  bytes : Keeps (to_give g.R.Read.remaining l.fn.self) (to_give g.R.Read.remaining l.self);
  offsets : GivesNone g.R.Read.remaining l.fn.self l.self;
  memory : l.self.lacks_memory ≡ l.fn.self.lacks_memory;
}
