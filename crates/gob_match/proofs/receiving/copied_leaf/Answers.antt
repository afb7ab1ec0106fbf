use Rattle.std.proofs.Common.{sym, ap, ◌∙◌}
use Rattle.std.proofs.lemmas.Result.{IfOk-from_err}
use Rattle.gob_value.specs.Tree.{Tree}
use Rattle.gob_value.specs.View.{view}
use Rattle.gob_value.proofs.PublicLaws.{view-Bytes, view-Str, view-Opaque}
use Rattle.gob_match.proofs.receiving.copied_leaf.Goals as goal

pub returns-in-Bool : goal.returns-in-Bool
returns-in-Bool c = ap view (sym c.in-Bool.is)

pub returns-in-Uint : goal.returns-in-Uint
returns-in-Uint c = ap view (sym c.in-Uint.is)

pub returns-in-Float : goal.returns-in-Float
returns-in-Float c = ap view (sym c.in-Float.is)

pub returns-in-Complex : goal.returns-in-Complex
returns-in-Complex c = ap view (sym c.in-Complex.is)

pub returns-in-Nil : goal.returns-in-Nil
returns-in-Nil c = ap view (sym c.in-Nil.is)

pub returns-in_err-from_slice-in-Bytes : goal.returns-in_err-from_slice-in-Bytes
returns-in_err-from_slice-in-Bytes c = IfOk-from_err c.from_residual.result _ c.from_residual.ensures.0

pub returns-in_ok-from_slice-in-Bytes : goal.returns-in_ok-from_slice-in-Bytes
returns-in_ok-from_slice-in-Bytes c =
    let s = c.in_ok-from_slice-in-Bytes.field-0 in
    view-Bytes s ∙ ap Tree.bytes (c.in_ok-from_slice-in-Bytes.ensures.items ∙ c.deref.ensures.value)
    ∙ sym (ap view c.in-Bytes.is ∙ view-Bytes c.in-Bytes.s)

pub returns-in_err-from_slice-in-Str : goal.returns-in_err-from_slice-in-Str
returns-in_err-from_slice-in-Str c = IfOk-from_err c.from_residual-in_err-from_slice-in-Str.result _
    c.from_residual-in_err-from_slice-in-Str.ensures.0

pub returns-in_ok-from_slice-in-Str : goal.returns-in_ok-from_slice-in-Str
returns-in_ok-from_slice-in-Str c =
    let s = c.in_ok-from_slice-in-Str.field-0 in
    view-Str s ∙ ap Tree.text (c.in_ok-from_slice-in-Str.ensures.items ∙ c.deref-in-Str.ensures.value)
    ∙ sym (ap view c.in-Str.is ∙ view-Str c.in-Str.s)

pub returns-in_err-from_slice-in-Opaque : goal.returns-in_err-from_slice-in-Opaque
returns-in_err-from_slice-in-Opaque c = IfOk-from_err c.from_residual-in_err-from_slice-in-Opaque.result _
    c.from_residual-in_err-from_slice-in-Opaque.ensures.0

pub returns-in_ok-from_slice-in-Opaque : goal.returns-in_ok-from_slice-in-Opaque
returns-in_ok-from_slice-in-Opaque c =
    let s = c.in_ok-from_slice-in-Opaque.field-0 in
    view-Opaque s ∙ ap Tree.opaque (c.in_ok-from_slice-in-Opaque.ensures.items ∙ c.deref-in-Opaque.ensures.value)
    ∙ sym (ap view c.in-Opaque.is ∙ view-Opaque c.in-Opaque.s)
