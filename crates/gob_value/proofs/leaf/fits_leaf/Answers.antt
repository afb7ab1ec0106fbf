use Rattle.std.proofs.Common.{arith, rules, ap, ◌∙◌, []}
use Rattle.gob_value.specs.View.{view}
use Rattle.gob_value.proofs.LeafLaws.{at_kind, fits_bool, fits_int, fits_uint, fits_float, fits_complex, fits_bytes}
use Rattle.gob_value.proofs.LeafLaws.{fits_text, fits_opaque, fits_nil}
use Rattle.gob_value.proofs.TestSteps.{always}
use Rattle.gob_value.proofs.ViewLaws.{view-Bool, view-Int, view-Uint, view-Float, view-Complex, view-Bytes, view-Str}
use Rattle.gob_value.proofs.ViewLaws.{view-Nil, view-Opaque}
use Rattle.gob_value.proofs.leaf.fits_leaf.Goals as goal

pub returns-in-Bool : goal.returns-in-Bool
returns-in-Bool c = at_kind (ap view c.in-Bool.is ∙ view-Bool _) c.is_basic.ensures (fits_bool [] c.args.kind.now _)

pub returns-in-Int : goal.returns-in-Int
returns-in-Int c = at_kind (ap view c.in-Int.is ∙ view-Int _) c.is_basic-in-Int.ensures
    (fits_int [] c.args.kind.now c.in-Int.i (search rules))

pub returns-in-Uint : goal.returns-in-Uint
returns-in-Uint c = at_kind (ap view c.in-Uint.is ∙ view-Uint _) c.is_basic-in-Uint.ensures
    (fits_uint [] c.args.kind.now c.in-Uint.n (omega arith))

pub returns-in-Float : goal.returns-in-Float
returns-in-Float c = at_kind (ap view c.in-Float.is ∙ view-Float _) c.is_basic-in-Float.ensures
    (fits_float [] c.args.kind.now c.in-Float.p (omega arith))

pub returns-in-Complex : goal.returns-in-Complex
returns-in-Complex c =
    at_kind (ap view c.in-Complex.is ∙ view-Complex _ _) c.is_basic-in-Complex.ensures
    (fits_complex [] c.args.kind.now c.in-Complex.p c.in-Complex.q (omega arith) (omega arith))

pub returns-in-Bytes : goal.returns-in-Bytes
returns-in-Bytes c =
    let s = c.in-Bytes.field-0 in
    at_kind (ap view c.in-Bytes.is ∙ view-Bytes s) c.is_basic-in-Bytes.ensures
    (fits_bytes [] c.args.kind.now s.items (omega (arith, s.ok.0, s.small)))

pub returns-in-Str : goal.returns-in-Str
returns-in-Str c =
    let s = c.in-Str.field-0 in
    at_kind (ap view c.in-Str.is ∙ view-Str s) c.is_basic-in-Str.ensures
    (fits_text [] c.args.kind.now s.items (omega (arith, s.ok.0, s.small)))

pub returns-in-Nil : goal.returns-in-Nil
returns-in-Nil c = at_kind (ap view c.in-Nil.is ∙ view-Nil) c.is_basic-in-Nil.ensures (fits_nil [] c.args.kind.now)

pub returns-in-Opaque-matches : goal.returns-in-Opaque-matches
returns-in-Opaque-matches c =
    let s = c.in-Opaque.field-0 in
    rw (c.in-Opaque.is, view-Opaque s) (always (fits_opaque [] c.args.kind.now c.in-Opaque-matches.field-0 s.items
    (omega (arith, s.ok.0, s.small)) c.in-Opaque-matches.is))
