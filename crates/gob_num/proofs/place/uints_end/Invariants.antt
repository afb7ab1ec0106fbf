use Rattle.gob_num.specs.Place.{PassesNumbers, CountsDigits}
use Rattle.gob_num.proofs.place.uints_end.Given as goal

-- the numbers behind the place are what the count asks for behind those before it
abbrev pub invariant-numbers : goal.invariant-numbers
invariant-numbers l = record {
  counts : CountsDigits l.last.head l.last.count;
  passed : PassesNumbers l.bytes l.count l.begin l.left l.at;
}

abbrev pub decreases-numbers : goal.decreases-numbers
decreases-numbers l = l.left
