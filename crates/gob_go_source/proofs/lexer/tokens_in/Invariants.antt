use Rattle.std.proofs.Common.{◌≤◌, length}
use Rattle.gob_go_source.specs.Lexing.{Lexes}
use Rattle.gob_go_source.proofs.lexer.tokens_in.Given as goal

abbrev pub invariant-pieces : goal.invariant-pieces
invariant-pieces l = record {
  lexes : Lexes l.text l.rest l.ahead l.tokens.items l.offsets.items;
  within : length l.rest ≤ length l.text;
}

abbrev pub decreases-pieces : goal.decreases-pieces
decreases-pieces l = length l.rest
