-- The number is put behind the comma.
use Rattle.std.proofs.Common.{◌++◌, ◌∙◌, ap, refl, rules, w64}
use Rattle.std.proofs.lemmas.Int.{to_z-of_z}
use Rattle.serde_json.specs.Written.{comma_if, compact_text}
use Rattle.gob_json.specs.Json.{integer_json}
use Rattle.gob_plain.proofs.LineLaws.{after_comma, data_put, integer_printable}
use Rattle.gob_plain.proofs.line.Line.i64.Goals as goal

pub returns : goal.returns
returns c = data_put (integer_json c.args.number) (integer_printable c.args.number c.ranges.number.sfits)
    (after_comma c.args.self.now.text.items (comma_if c.args.self.now.later) (compact_text (integer_json c.args.number))
    c.in_ok-comma.ensures.0 (c.in_ok-put_integer.ensures
    ∙ ap (λ i. c.comma.new.self.text.items ++ compact_text (integer_json i)) (to_z-of_z w64 c.args.number
    (search rules))))
    refl
