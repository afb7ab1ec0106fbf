-- What is written, and what the tokens that are left say with what is held, is what the text says.
use Rattle.std.proofs.Common.{◌≡◌, ◌++◌, List, drop, length}
use Rattle.json.specs.Json.{Json}
use Rattle.json.specs.Lex.{tokens}
use Rattle.gob_plain.specs.Machine.Levels.{HeldSay, held_of, text_of}
use Rattle.gob_plain.specs.Machine.Nulls.{with_held}
use Rattle.gob_plain.proofs.GoodTokens.{AreGood}
use Rattle.gob_plain.proofs.go.level.+level.Given as goal

abbrev pub invariant-write_inner-tokens : goal.invariant-write_inner-tokens
invariant-write_inner-tokens l = record {
  before : l.out.before ≡ l.fn.out.before;
  all : (said : List Json) → HeldSay (held_of l.level) said
      → l.out.tokens ++ with_held (drop l.nulls said) l.reader
      ≡ l.fn.out.tokens ++ with_held said (tokens (text_of l.level));
  good : AreGood (tokens (text_of l.level)) → AreGood l.reader;
}

abbrev pub decreases-write_inner-tokens : goal.decreases-write_inner-tokens
decreases-write_inner-tokens l = length l.reader
