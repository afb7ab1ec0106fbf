-- The texts so far were seen, and no two of them are one.
use Rattle.std.proofs.Common.{◌≡◌, ◌++◌, true, drop, map}
use Rattle.std.specs.Prelude.{string_bytes}
use Rattle.gob_plain.specs.Plain.{all_differ}
use Rattle.gob_plain.proofs.distinct.all_differ.Given as goal

abbrev pub invariant-loop-text : goal.invariant-loop-text
invariant-loop-text l = record {
  all : l.seen ++ map string_bytes (drop l.text-index l.texts) ≡ map string_bytes l.texts;
  differ : all_differ l.seen ≡ true;
}
