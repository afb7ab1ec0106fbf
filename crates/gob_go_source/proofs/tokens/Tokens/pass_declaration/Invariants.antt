use Rattle.std.proofs.Common.{◌≡◌, ◌≤◌, length}
use Rattle.gob_go_source.specs.Declarations.{behind_stop}
use Rattle.gob_go_source.specs.Left.{left}
use Rattle.gob_go_source.proofs.tokens.Tokens.pass_declaration.Given as goal

abbrev pub invariant-tokens : goal.invariant-tokens
invariant-tokens l = record {
  few : l.depth ≤ l.self.at;
  same : behind_stop l.depth (left l.self) ≡ behind_stop 0 (left l.fn.self);
}

abbrev pub decreases-tokens : goal.decreases-tokens
decreases-tokens l = length (left l.self)
