use Rattle.std.proofs.Common.{◌∙◌, ℕ, List, subst, sym}
use Rattle.std.proofs.lemmas.Bool.{false≢true}
use Rattle.gob_value.specs.View.{field_views}
use Rattle.gob_value.specs.declared.value.Value.{Value}
use Rattle.gob_make.specs.Zero.{AreKept}
use Rattle.gob_make.proofs.FieldLaws.{all_kept, one_kept, one_left_out}
use Rattle.gob_make.proofs.fields.without_zeros.Goals as goal

pub fields-preserved-then-is_left_out : goal.fields-preserved-then-is_left_out
fields-preserved-then-is_left_out g c =
    one_left_out (g.S.Shapes.table c.args.table.now) c.args.types.now c.into_iter-number-iterator.result
    c.fields.number-iterator c.next.new.self c.fields.kept.items c.in-Some.number c.in-Some.value c.fields.invariant
    c.in-Some.ensures.steps (c.is_left_out.ensures.0 c.if-is_left_out.true)

pub fields-preserved : goal.fields-preserved
fields-preserved g c =
    one_kept (g.S.Shapes.table c.args.table.now) c.args.types.now c.into_iter-number-iterator.result
    c.fields.number-iterator c.next.new.self c.fields.kept.items c.push.new.self.items c.in-Some.number c.in-Some.value
    c.fields.invariant c.in-Some.ensures.steps
    (λ d. false≢true (sym c.if-is_left_out.false ∙ c.is_left_out.ensures.1 d)) c.in_ok-push.ensures.items

pub returns : goal.returns
returns g c =
    let T = g.S.Shapes.table c.args.table.now in
    subst (λ (l : List (ℕ × Value)). AreKept T c.args.types.now (field_views l) (field_views c.fields.kept.items))
    c.into_iter-number-iterator.ensures.into_iter_gives.0
    (all_kept T c.args.types.now c.into_iter-number-iterator.result c.fields.number-iterator c.fields.kept.items
    c.fields.invariant c.in-None.ensures.steps.0)
