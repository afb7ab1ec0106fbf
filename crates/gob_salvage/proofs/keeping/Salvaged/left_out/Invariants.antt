-- So much was counted of the gaps so far.
use Rattle.std.proofs.Common.{◌≡◌, ◌-◌, ◌^◌, take}
use Rattle.std.specs.Prelude.{min}
use Rattle.gob_salvage.specs.Salvage.{left_out}
use Rattle.gob_salvage.proofs.keeping.Salvaged.left_out.Given as goal

abbrev pub invariant-gaps : goal.invariant-gaps
invariant-gaps l = l.bytes ≡ min (left_out (take l.gap-index l.self.gaps.items)) (2 ^ 64 - 1)
