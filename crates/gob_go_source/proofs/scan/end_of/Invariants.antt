-- So many bytes are read, and how many of the rest are of the piece that goes on so says how many are in all.
use Rattle.std.proofs.Common.{◌≡◌, ◌-◌, ◌≤◌, drop, length}
use Rattle.gob_go_source.specs.Scanning.{end_of}
use Rattle.gob_go_source.proofs.ScanLaws.{moved}
use Rattle.gob_go_source.proofs.scan.end_of.Given as goal

abbrev pub invariant-bytes : goal.invariant-bytes
invariant-bytes l = record {
  so_far : moved l.at (end_of l.goes_on (drop l.at l.bytes)) ≡ end_of l.fn.scan l.fn.bytes;
  within : l.at ≤ length l.bytes;
}

abbrev pub decreases-bytes : goal.decreases-bytes
decreases-bytes l = length l.bytes - l.at
