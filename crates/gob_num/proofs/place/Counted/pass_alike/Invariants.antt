use Rattle.std.proofs.Common.{◌≡◌, ◌+◌, ◌≤◌, length}
use Rattle.gob_num.specs.Place.{PassesNumbers}
use Rattle.gob_num.proofs.place.Counted.pass_alike.Given as goal

-- the numbers behind the place are what was asked for behind those before it
abbrev pub invariant-alike : goal.invariant-alike
invariant-alike l = record {
  passed : PassesNumbers l.bytes l.most l.begin l.left l.at;
  inside : l.at ≤ length l.bytes;
  size : l.size ≡ l.self.count + 1;
}

abbrev pub decreases-alike : goal.decreases-alike
decreases-alike l = l.left
