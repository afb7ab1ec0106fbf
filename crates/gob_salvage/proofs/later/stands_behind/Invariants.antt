-- So much of the piece was read behind the front.
use Rattle.std.proofs.Common.{◌≡◌, ◌≤◌, ◌++◌, length, take}
use Rattle.gob_go.specs.Calls.Session.{limits_of}
use Rattle.gob_salvage.specs.Taking.{HasReadAll}
use Rattle.gob_salvage.proofs.later.stands_behind.Given as goal

abbrev pub invariant-definitions : goal.invariant-definitions
invariant-definitions l = record {
  read : HasReadAll l.session (l.front ++ take l.at l.piece);
  within : l.at ≤ length l.piece;
  some : l.counter ≤ l.at;
  limits : limits_of l.session ≡ l.fn.limits;
}
