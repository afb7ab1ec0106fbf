-- A slice is a byte string where its elements are bytes.
use Rattle.std.proofs.Common.{◌∙◌, ap, refl, sym}
use Rattle.gob_go_types.specs.declared.sight.Sight.{Sight}
use Rattle.gob_go_types.specs.declared.sight.Step.TheVariants as step
use Rattle.gob_go_types.specs.Sight.{of_bytes, of_others}
use Rattle.gob_go_types.proofs.code.Code.end_of_slice.Goals as goal

pub returns-then-is_byte_type : goal.returns-then-is_byte_type
returns-then-is_byte_type c =
    of_bytes c.in_ok-under.ensures c.in_ok-found.ensures (sym c.is_byte_type.ensures ∙ c.if-is_byte_type.true) refl

pub returns : goal.returns
returns c =
    of_others c.in_ok-under.ensures c.in_ok-found.ensures (sym c.is_byte_type.ensures ∙ c.if-is_byte_type.false)
    (ap (λ (v : Sight). step.At v) c.parts_sight.ensures)
