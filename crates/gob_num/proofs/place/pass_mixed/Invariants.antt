use Rattle.std.proofs.Common.{◌≤◌, length}
use Rattle.gob_num.specs.Place.{PassesNumbers}
use Rattle.gob_num.proofs.place.pass_mixed.Given as goal

-- the numbers behind the place are what was asked for behind those before it
abbrev pub invariant-mixed : goal.invariant-mixed
invariant-mixed l = record {
  passed : PassesNumbers l.bytes l.most l.begin l.left l.at;
  inside : l.at ≤ length l.bytes;
}

abbrev pub decreases-mixed : goal.decreases-mixed
decreases-mixed l = l.left
