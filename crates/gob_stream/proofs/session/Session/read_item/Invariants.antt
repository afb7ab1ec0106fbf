use Rattle.std.proofs.Common.{◌≡◌, ◌+◌, ◌-◌, ◌<◌, ◌⊎◌, length}
use Rattle.gob_stream.specs.Devices.{counts_up}
use Rattle.gob_stream.specs.Machine.HasRead.{HasReadOn}
use Rattle.gob_stream.proofs.Reader.SessionSteps.{StoodOn}
use Rattle.gob_stream.proofs.session.Session.read_item.Given as goal

abbrev pub invariant-pieces : goal.invariant-pieces
invariant-pieces g l = record {
  chunk : length l.chunk ≡ 1024;
  began : HasReadOn g.B.Builder.building l.initial.self;
  stood : StoodOn g.B.Builder.building l.initial.self l.self
      (g.R.Read.remaining l.initial.input.reader) (g.R.Read.remaining l.input.reader);
  limits : l.self.limits ≡ l.initial.self.limits;
  failures : l.input.failures ≡ l.initial.input.failures;
  taken : l.input.taken ≡ counts_up l.initial.input.taken (l.self.taken - l.initial.self.taken);
  grown : (l.self ≡ l.initial.self) ⊎ (l.initial.self.taken < l.self.taken);
}

abbrev pub decreases-pieces : goal.decreases-pieces
decreases-pieces g l = l.self.limits.stream + 9 - l.self.taken
