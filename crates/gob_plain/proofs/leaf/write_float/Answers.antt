-- The size of the bits tells whether the float is finite.
use Rattle.std.proofs.Common.{[], ◌∷◌, codes, refl, arith}
use Rattle.std.proofs.lemmas.Float.{not_nan_f64_bits}
use Rattle.std.proofs.lemmas.Result.{on_ok_weaker}
use Rattle.json.specs.Token.{Token}
use Rattle.json.specs.Json as json
use Rattle.gob_plain.proofs.SomeLaws.{some_of, one_written}
use Rattle.gob_plain.proofs.FloatLaws.{finite_is, finite_says, nan_says, positive_says, negative_says}
use Rattle.gob_plain.proofs.leaf.write_float.Goals as goal

pub float_from_bits-pattern : goal.float_from_bits-pattern
float_from_bits-pattern c = not_nan_f64_bits c.args.pattern (omega arith)

pub float-requires : goal.float-requires
float-requires c = finite_is c.args.pattern (omega arith)

pub returns-then-size-lt-INFINITY : goal.returns-then-size-lt-INFINITY
returns-then-size-lt-INFINITY c = record {
  tokens = on_ok_weaker c.float.result
      (λ w. (
        Token.number w.0 ∷ [],
        (
          json.number w.0,
          finite_says _ w.0 (finite_is c.args.pattern (omega arith)) w.2
              w.3,
          refl,
        ),
        w.1,
      ))
      c.float.ensures.plain;
  before = c.float.ensures.room.1.0;
}

pub returns-then-size-gt-INFINITY : goal.returns-then-size-gt-INFINITY
returns-then-size-gt-INFINITY c = some_of (one_written c.string.ensures) (
  json.string (codes "NaN"),
  nan_says c.args.pattern (omega arith),
  refl,
)

pub returns-then-pattern-lt-SIGN : goal.returns-then-pattern-lt-SIGN
returns-then-pattern-lt-SIGN c =
    some_of (one_written c.string-then-pattern-lt-SIGN.ensures)
    (json.string (codes "Infinity"), positive_says c.args.pattern (omega arith) (omega arith), refl)

pub returns-else-pattern-lt-SIGN : goal.returns-else-pattern-lt-SIGN
returns-else-pattern-lt-SIGN c =
    some_of (one_written c.string-else-pattern-lt-SIGN.ensures)
    (json.string (codes "-Infinity"), negative_says c.args.pattern (omega arith) (omega arith), refl)
