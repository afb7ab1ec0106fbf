-- So many bytes were searched.
use Rattle.std.proofs.Common.{◌-◌, length}
use Rattle.gob_write.specs.Texts.{IsSearched}
use Rattle.gob_write.proofs.texts.Searched.ends_in.Given as goal

abbrev pub invariant-bytes : goal.invariant-bytes
invariant-bytes l = IsSearched l.self l.bytes

abbrev pub decreases-bytes : goal.decreases-bytes
decreases-bytes l = length l.bytes - l.self.count
