-- The name is that of the key that the view shows.
use Rattle.std.proofs.Common.{[], ◌∷◌, ap, sym, subst, ◌∙◌}
use Rattle.json.specs.Token.{Token}
use Rattle.gob_json_writer.specs.WritesJson.{WritesTokens}
use Rattle.std.proofs.Common.{ℕ}
use Rattle.std.specs.Fmt.{decimal, signed_decimal}
use Rattle.gob_read.specs.Leaf.{signed_of}
use Rattle.gob_tape.specs.declared.kind.ValueKind.TheVariants as kind
use Rattle.gob_plain.specs.Plain.{name_text}
use Rattle.gob_plain.proofs.SomeLaws.{one_written}
use Rattle.gob_plain.proofs.PartLaws.{key_is, other_key}
use Rattle.gob_plain.proofs.leaf.write_key.Goals as goal

pub returns-in-Str-clause-name : goal.returns-in-Str-clause-name
returns-in-Str-clause-name c v s =
    subst (λ t. WritesTokens c.write_name.result c.args.out.now c.write_name.new.out (Token.key t ∷ []))
    (ap name_text (c.bytes.ensures s.0 v s.1) ∙ sym (key_is v kind.Str (sym c.in-Str.is ∙ c.kind.ensures s.0 v s.1)))
    c.write_name.ensures

pub returns-in-Int-clause-name : goal.returns-in-Int-clause-name
returns-in-Int-clause-name c v s =
    subst (λ t. WritesTokens c.write_int_name.result c.args.out.now c.write_int_name.new.out (Token.key t ∷ []))
    (ap (λ n. signed_decimal (signed_of n)) (ap (λ (n : ℕ × ℕ). n.0) (c.numbers.ensures s.0 v s.1))
    ∙ sym (key_is v kind.Int (sym c.in-Int.is ∙ c.kind.ensures s.0 v s.1)))
    c.write_int_name.ensures

pub returns-in-Uint-clause-name : goal.returns-in-Uint-clause-name
returns-in-Uint-clause-name c v s =
    subst (λ t. WritesTokens c.write_uint_name.result c.args.out.now c.write_uint_name.new.out (Token.key t ∷ []))
    (ap decimal (ap (λ (n : ℕ × ℕ). n.0) (c.numbers-in-Uint.ensures s.0 v s.1))
    ∙ sym (key_is v kind.Uint (sym c.in-Uint.is ∙ c.kind.ensures s.0 v s.1)))
    c.write_uint_name.ensures

pub returns-in_default : goal.returns-in_default
returns-in_default c = record {
  before = c.key.ensures.room.0;
  name = λ v s.
      subst (λ t. WritesTokens c.key.result c.args.out.now c.key.new.self (Token.key t ∷ []))
      (sym (other_key v (λ e. c.in_default.not-Str (c.kind.ensures s.0 v s.1 ∙ e))
      (λ e. c.in_default.not-Int (c.kind.ensures s.0 v s.1 ∙ e)) (λ e. c.in_default.not-Uint (c.kind.ensures s.0 v s.1
      ∙ e))))
      (one_written c.key.ensures);
}
