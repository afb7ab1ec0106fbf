-- The names that were put are known, type by type.
use Rattle.std.proofs.Common.{take}
use Rattle.gob_source.specs.Places.{CountsNames, KnowsNamings}
use Rattle.gob_source.specs.Registered.{namings}
use Rattle.gob_source.proofs.by_type.NamesByType.new.Given as goal

abbrev pub invariant-loop-index : goal.invariant-loop-index
invariant-loop-index l = record {
  counted : CountsNames (namings (take l.index l.all)) l.counts.entries;
  known : KnowsNamings (namings (take l.index l.all)) l.names.entries;
}
