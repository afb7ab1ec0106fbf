-- A type of a package encodes itself as is known.
use Rattle.std.proofs.Common.{◌∙◌, Some, ap, refl, sym}
use Rattle.gob_go_types.specs.declared.library.Known.{Known}
use Rattle.gob_go_types.specs.Sight.{encodes_itself}
use Rattle.gob_go_types.proofs.sight.end_of_library.Goals as goal

pub returns-in-Some-Opaque : goal.returns-in-Some-Opaque
returns-in-Some-Opaque c =
    encodes_itself {m = c.in-Some-Opaque.marshal}
    (sym c.known_of.ensures ∙ c.in-Some-Opaque.is
    ∙ ap (λ (k : Known). Some k) c.in-Some-Opaque.field-0-is)
    (c.is_unowned.ensures c.if-is_unowned.true) refl
