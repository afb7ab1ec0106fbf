use Rattle.std.proofs.Common.{◌≡◌, ℕ, ℤ, ◌≤ℤ◌, pos, arith, rules, sym, ap, ◌∙◌, w64}
use Rattle.std.proofs.Math.IntN.{nat_abs}
use Rattle.std.proofs.lemmas.Int.{ints, to_z-of_z}
use Rattle.gob_value.specs.View.{field_views}
use Rattle.gob_value.specs.Description.{number_in, present_field}
use Rattle.gob_value.proofs.TestSteps.{not_true}
use Rattle.gob_value.proofs.DescriptionSteps.{not_negative}
use Rattle.gob_value.proofs.LooseLaws.{read_none, read_kind, read_not_above, read_above}
use Rattle.gob_value.proofs.described_shape.said_id.Goals as goal

pub returns-in_default : goal.returns-in_default
returns-in_default c = read_none c.args.id c.in_default.ensures

pub returns-then-not-is_opaque : goal.returns-then-not-is_opaque
returns-then-not-is_opaque c = read_kind c.in-Some.wire (field_views c.in-Some.fields.now) c.args.id c.in-Some.ensures
    (not_true c.if-not-is_opaque.true c.is_opaque.ensures)

same_size : {i j : ℤ} {n s : ℕ} → i ≡ j → s ≡ nat_abs i → j ≡ pos n → s ≡ n
same_size e a f = a ∙ ap nat_abs (e ∙ f)

same_pos : {i j : ℤ} {s : ℕ} → i ≡ j → s ≡ nat_abs i → pos 0 ≤ℤ i → j ≡ pos s
same_pos {i = i} e a l = sym e ∙ not_negative i l ∙ ap pos (sym a)

pub returns-then-number-lt0 : goal.returns-then-number-lt0
returns-then-number-lt0 c =
    let e = to_z-of_z w64 c.number_of-number.result (search rules) ∙ c.number_of-number.ensures
    ∙ ap (λ fs. number_in (present_field 1 fs)) c.struct_of.ensures in
    read_not_above c.in-Some.wire (field_views c.in-Some.fields.now) c.args.id c.in-Some.ensures
    (λ n f l m. let k = e ∙ f in let low = c.if-number-lt0.true in absurd (omega (arith, ints)))

pub returns-then-not-is_above : goal.returns-then-not-is_above
returns-then-not-is_above c =
    let e = to_z-of_z w64 c.number_of-number.result (search rules) ∙ c.number_of-number.ensures
    ∙ ap (λ fs. number_in (present_field 1 fs)) c.struct_of.ensures in
    read_not_above c.in-Some.wire (field_views c.in-Some.fields.now) c.args.id c.in-Some.ensures
    (λ n f l m. let k = same_size e c.unsigned_abs-said.ensures.value f in
    not_true c.if-not-is_above.true c.is_above.ensures (omega arith, omega arith))

pub returns : goal.returns
returns c =
    let e = to_z-of_z w64 c.number_of-number.result (search rules) ∙ c.number_of-number.ensures
    ∙ ap (λ fs. number_in (present_field 1 fs)) c.struct_of.ensures in
    read_above c.in-Some.wire (field_views c.in-Some.fields.now) c.args.id _ c.in-Some.ensures
    (c.is_opaque.ensures.0 c.if-not-is_opaque.false)
    (same_pos e c.unsigned_abs-said.ensures.value (omega (arith, ints)))
    (c.is_above.ensures.0 c.if-not-is_above.false)
