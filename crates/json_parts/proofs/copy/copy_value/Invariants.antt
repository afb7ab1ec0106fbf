-- What is written, and what is still to be read of the value, are its tokens.
use Rattle.std.proofs.Common.{◌≡◌, ◌+◌, ◌≤◌, ◌∷◌, ◌++◌, length}
use Rattle.json.specs.Reads.{token_of}
use Rattle.json_parts.specs.Copying.{after}
use Rattle.json_parts.proofs.Copies.{front, behind}
use Rattle.json_parts.proofs.copy.copy_value.Given as goal

abbrev pub invariant-tokens : goal.invariant-tokens
invariant-tokens l = record {
  before : l.out.before ≡ l.fn.out.before;
  written : l.out.tokens ++ front l.depth l.reader
      ≡ l.fn.out.tokens ++ (token_of l.first ∷ front (after (token_of l.first) 0) l.fn.reader);
  behind : behind l.depth l.reader ≡ behind (after (token_of l.first) 0) l.fn.reader;
  fits : l.depth + length l.reader ≤ length l.fn.reader + 1;
  shorter : length l.reader ≤ length l.fn.reader;
}

abbrev pub decreases-tokens : goal.decreases-tokens
decreases-tokens l = length l.reader
