use Rattle.std.proofs.Common.{◌≡◌, ◌∙◌, ◌<◌, ◌^◌, Some, ap, rules, subst, sym, w64, arith}
use Rattle.std.specs.Prelude.{FitsSigned}
use Rattle.std.proofs.lemmas.Int.{ints, to_z-of_z}
use Rattle.gob_types.specs.Table.{basic_of}
use Rattle.gob_types.specs.declared.basic.Basic.TheVariants as basic
use Rattle.gob_value.proofs.PublicLaws.{view-Str}
use Rattle.gob_value.specs.Tree.{Tree}
use Rattle.gob_make.proofs.ViewLaws.{view-Int, view-Uint}
use Rattle.gob_make.specs.Leaf.{ReadsKey}
use Rattle.gob_make.specs.Leaf as leaf
use Rattle.gob_make.proofs.value.key_of.Goals as goal

pub returns-in_ok-from_slice-in-Some-Str : goal.returns-in_ok-from_slice-in-Some-Str
returns-in_ok-from_slice-in-Some-Str g c =
    let T = g.S.Shapes.table c.args.table.now in
    let b : basic_of T c.args.id ≡ Some basic.Str = search rules in
    let text = c.in_ok-from_slice-in-Some-Str.field-0 in
    let is = view-Str text ∙ ap Tree.text (c.in_ok-from_slice-in-Some-Str.ensures.items ∙ c.as_bytes.ensures.value) in
    subst (λ x. ReadsKey T c.args.id c.args.name.now x) (sym is) (leaf.of_text b)

pub returns-in-Some : goal.returns-in-Some
returns-in-Some g c =
    let T = g.S.Shapes.table c.args.table.now in
    let b : basic_of T c.args.id ≡ Some basic.Int = search rules in
    let fits : FitsSigned w64 c.in-Some.number = omega (arith, ints) in
    let is = view-Int _ ∙ ap Tree.int (to_z-of_z w64 c.in-Some.number fits) in
    subst (λ x. ReadsKey T c.args.id c.args.name.now x) (sym is)
    (subst (λ n. ReadsKey T c.args.id n (Tree.int c.in-Some.number)) c.in-Some.ensures.ok (leaf.of_int b fits))

pub returns-in-Some-uint_of : goal.returns-in-Some-uint_of
returns-in-Some-uint_of g c =
    let T = g.S.Shapes.table c.args.table.now in
    let b : basic_of T c.args.id ≡ Some basic.Uint = search rules in
    let fits : c.in-Some-uint_of.number < 2 ^ 64 = omega (arith, ints) in
    subst (λ x. ReadsKey T c.args.id c.args.name.now x) (sym (view-Uint c.in-Some-uint_of.number))
    (subst (λ n. ReadsKey T c.args.id n (Tree.uint c.in-Some-uint_of.number)) c.in-Some-uint_of.ensures.ok
    (leaf.of_uint b fits))
