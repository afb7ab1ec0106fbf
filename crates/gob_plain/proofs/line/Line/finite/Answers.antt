-- The digits are those of the number.
use Rattle.std.proofs.Common.{[], ◌∷◌, ◌++◌, ◌∙◌, List, ap, arith, refl, ℕ}
use Rattle.std.proofs.lemmas.Float.{not_nan_f64_bits}
use Rattle.std.proofs.lemmas.Result.{on_ok_weaker}
use Rattle.json.specs.Json as json
use Rattle.json.specs.Token.{Token}
use Rattle.json.proofs.Printed.Floats.{IsNumber-plain}
use Rattle.serde_json.specs.Written.{comma_if}
use Rattle.gob_plain.proofs.FloatLaws.{finite_is, finite_says}
use Rattle.gob_plain.proofs.LineLaws.{put_of, token_put}
use Rattle.gob_plain.proofs.line.Line.finite.Goals as goal

pub float_from_bits-pattern : goal.float_from_bits-pattern
float_from_bits-pattern c = not_nan_f64_bits c.args.pattern (omega (arith, c.requires))

pub format_finite-requires : goal.format_finite-requires
format_finite-requires c = finite_is c.args.pattern c.requires

pub returns : goal.returns
returns c =
    let s = c.format_finite.result.now in
    on_ok_weaker c.puts.result
    (λ p. put_of (
      json.number s,
      finite_says _ s (finite_is c.args.pattern c.requires) c.format_finite.ensures.plain
          c.format_finite.ensures.parses,
      refl,
    ) (token_put (Token.number s) refl (IsNumber-plain s c.format_finite.ensures.plain)
    (p.0 ∙ ap (λ (t : List ℕ). c.args.self.now.text.items ++ (comma_if c.args.self.now.later ++ t))
    c.as_bytes.ensures.value)
    p.1)) c.puts.ensures
