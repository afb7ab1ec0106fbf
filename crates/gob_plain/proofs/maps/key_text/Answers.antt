-- A key that is nil has what fills it, and an element its kind.
use Rattle.std.proofs.Common.{◌∙◌, ◌&&◌, not, sym, ap, inl}
use Rattle.std.proofs.lemmas.Result.{IfOk-weaker}
use Rattle.gob_plain.specs.Plain.{has_parts, is_nil}
use Rattle.gob_plain.specs.Machine.Naming.{nil_kind, parts_kind}
use Rattle.gob_plain.proofs.FormLaws.{fits_text}
use Rattle.gob_plain.proofs.MapLaws.{nil_by_kind, parts_by_kind}
use Rattle.gob_plain.proofs.DistinctLaws.{and_false}
use Rattle.gob_plain.proofs.maps.key_text.Goals as goal
use Rattle.gob_plain.proofs.maps.key_text.Goals.{else-is_nil-via-then-is_nil+else-not-has_parts}
use Rattle.gob_plain.proofs.maps.key_text.Goals.{else-is_nil-via-else-is_nil}

pub returns-then-not-has_parts : goal.returns-then-not-has_parts
returns-then-not-has_parts g c =
    IfOk-weaker c.text_ahead.result _ _
    (λ text says x v s t. fits_text _ (g.N.NilTexts.says c.args.nils.now c.args.ahead) x v
    (ap (λ b. b && not (has_parts v)) (sym (nil_by_kind x) ∙ ap nil_kind (sym (c.kind.ensures s.0 x s.1))
    ∙ sym c.is_nil.ensures ∙ c.if-is_nil.true)
    ∙ ap not (sym (parts_by_kind v) ∙ ap parts_kind (sym (c.kind-then-is_nil.ensures t.0 v t.1))
    ∙ sym c.has_parts.ensures ∙ c.if-not-has_parts.true)) says)
    c.text_ahead.ensures

pub returns-else-is_nil : goal.returns-else-is_nil
returns-else-is_nil g c = λ x v s t. inl (elim c.else-is_nil.branch [
  | else-is_nil-via-then-is_nil+else-not-has_parts w ↦ and_false (is_nil x) (not (has_parts v))
      (ap not (sym (parts_by_kind v) ∙ ap parts_kind (sym (w.kind-then-is_nil.ensures t.0 v t.1))
      ∙ sym w.has_parts.ensures ∙ w.if-not-has_parts.false))
  | else-is_nil-via-else-is_nil w ↦ ap (λ b. b && not (has_parts v))
      (sym (nil_by_kind x) ∙ ap nil_kind (sym (c.kind.ensures s.0 x s.1)) ∙ sym c.is_nil.ensures ∙ w.if-is_nil.false)
])
