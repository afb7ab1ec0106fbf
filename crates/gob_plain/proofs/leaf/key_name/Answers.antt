-- The name is that of the key that the view shows.
use Rattle.std.proofs.Common.{◌∙◌, ℕ, ap, sym}
use Rattle.std.specs.Fmt.{decimal, signed_decimal}
use Rattle.std.proofs.lemmas.Result.{IfOk-weaker}
use Rattle.gob_read.specs.Leaf.{signed_of}
use Rattle.gob_tape.specs.declared.kind.ValueKind.TheVariants as kind
use Rattle.gob_plain.specs.Plain.{name_text}
use Rattle.gob_plain.proofs.PartLaws.{key_is, other_key}
use Rattle.gob_plain.proofs.leaf.key_name.Goals as goal

pub returns-in-Str : goal.returns-in-Str
returns-in-Str c =
    IfOk-weaker c.name_of.result _ _
    (λ name e v s. e ∙ ap name_text (c.bytes.ensures s.0 v s.1)
    ∙ sym (key_is v kind.Str (sym c.in-Str.is ∙ c.kind.ensures s.0 v s.1)))
    c.name_of.ensures

pub returns-in-Int : goal.returns-in-Int
returns-in-Int c =
    IfOk-weaker c.int_name.result _ _
    (λ name e v s. e
    ∙ ap (λ n. signed_decimal (signed_of n)) (ap (λ (n : ℕ × ℕ). n.0) (c.numbers.ensures s.0 v s.1))
    ∙ sym (key_is v kind.Int (sym c.in-Int.is ∙ c.kind.ensures s.0 v s.1)))
    c.int_name.ensures

pub returns-in-Uint : goal.returns-in-Uint
returns-in-Uint c =
    IfOk-weaker c.uint_name.result _ _
    (λ name e v s. e ∙ ap decimal (ap (λ (n : ℕ × ℕ). n.0) (c.numbers-in-Uint.ensures s.0 v s.1))
    ∙ sym (key_is v kind.Uint (sym c.in-Uint.is ∙ c.kind.ensures s.0 v s.1)))
    c.uint_name.ensures

pub returns-in_default : goal.returns-in_default
returns-in_default c v s =
    c.new.ensures.bytes
    ∙ sym (other_key v (λ e. c.in_default.not-Str (c.kind.ensures s.0 v s.1 ∙ e))
    (λ e. c.in_default.not-Int (c.kind.ensures s.0 v s.1 ∙ e))
    (λ e. c.in_default.not-Uint (c.kind.ensures s.0 v s.1 ∙ e)))
