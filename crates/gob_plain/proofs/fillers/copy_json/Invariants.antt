-- What is written, and what the reader has left, are the tokens of the text.
use Rattle.std.proofs.Common.{◌≡◌, ◌++◌, length}
use Rattle.json.specs.Lex.{tokens}
use Rattle.gob_plain.proofs.GoodTokens.{AreGood}
use Rattle.gob_plain.proofs.fillers.copy_json.Given as goal

abbrev pub invariant-tokens : goal.invariant-tokens
invariant-tokens l = record {
  before : l.out.before ≡ l.fn.out.before;
  all : l.out.tokens ++ l.reader ≡ l.fn.out.tokens ++ tokens l.text;
  good : AreGood (tokens l.text) → AreGood l.reader;
}

abbrev pub decreases-tokens : goal.decreases-tokens
decreases-tokens l = length l.reader
