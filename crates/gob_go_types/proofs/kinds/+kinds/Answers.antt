-- What is said of parts is still so where more is defined.
use Rattle.std.proofs.Common.{◌∙◌, Some, ap, arith, rules, subst, sym}
use Rattle.gob_types.specs.declared.id.TypeId.{TypeId}
use Rattle.gob_types.specs.declared.kind.Kind.TheVariants as kind
use Rattle.gob_go_source.specs.declared.go_type.GoType.{GoType}
use Rattle.gob_go_types.specs.declared.sight.Sight.{Sight}
use Rattle.gob_go_types.specs.declared.sight.Sight.TheVariants as sight
use Rattle.gob_go_types.specs.Fields.{SendsNames}
use Rattle.gob_go_types.specs.Machine.{HasIdIn, IsLed, IsOfIn, finished}
use Rattle.gob_go_types.specs.Sight.{Seen}
use Rattle.gob_go_types.specs.Types.{Has, IsNumbered, a_basic, a_declared, a_map, a_slice, all_sent, an_array}
use Rattle.gob_go_types.specs.Types.{an_opaque}
use Rattle.gob_go_types.specs.Types.{defined, has_id, no_lines, none_seen, nothing_sent}
use Rattle.gob_go_types.proofs.KindLaws.{adds_none, goes_keeps, goes_on, goes_same, goes_then, id_on, lines_more}
use Rattle.gob_go_types.proofs.KindLaws.{parts_says, struct_says}
use Rattle.gob_go_types.proofs.SightLaws.{if_ok}
use Rattle.gob_go_types.proofs.kinds.+kinds.Goals as goal

-- ---- by what is seen

pub id_of-returns-in-Basic-clause-goes : goal.id_of-returns-in-Basic-clause-goes
id_of-returns-in-Basic-clause-goes t c = goes_same c.args.numbers.now

pub id_of-returns-in-Basic-clause-says : goal.id_of-returns-in-Basic-clause-says
id_of-returns-in-Basic-clause-says t c =
    subst (λ (v : Sight). IsOfIn c.args.code.now.source.now c.args.numbers.now v c.in-Basic.id) (sym c.in-Basic.is)
    a_basic

pub id_of-returns-in-Opaque-clause-says : goal.id_of-returns-in-Opaque-clause-says
id_of-returns-in-Opaque-clause-says t c =
    if_ok
    (λ (u : TypeId). Has (finished c.defined_id.new.numbers.slots.items)
    (defined u c.in-Opaque.name.now (kind.Opaque c.in-Opaque.marshal)))
    (λ (u : TypeId). IsOfIn c.args.code.now.source.now c.defined_id.new.numbers c.args.sight u) c.defined_id.result
    (λ u h. subst (λ (v : Sight). IsOfIn c.args.code.now.source.now c.defined_id.new.numbers v u)
    (sym c.in-Opaque.is) (an_opaque h))
    c.defined_id.ensures.there

pub id_of-own_id-requires-clause-led : goal.id_of-own_id-requires-clause-led
id_of-own_id-requires-clause-led t c = subst (IsLed c.args.code.now.source.now) c.in-Own.is c.requires.led

pub id_of-returns-in-Own-clause-says : goal.id_of-returns-in-Own-clause-says
id_of-returns-in-Own-clause-says t c =
    if_ok (λ (u : TypeId). IsNumbered c.own_id.new.numbers.ids.entries c.in-Own.place u)
    (λ (u : TypeId). IsOfIn c.args.code.now.source.now c.own_id.new.numbers c.args.sight u) c.own_id.result
    (λ u h. subst (λ (v : Sight). IsOfIn c.args.code.now.source.now c.own_id.new.numbers v u)
    (sym c.in-Own.is) (a_declared h))
    c.own_id.ensures.numbered

pub id_of-returns-in-Parts-clause-says : goal.id_of-returns-in-Parts-clause-says
id_of-returns-in-Parts-clause-says t c =
    if_ok
    (λ (u : TypeId). IsOfIn c.args.code.now.source.now c.id_of_parts.new.numbers (sight.Parts c.in-Parts.place) u)
    (λ (u : TypeId). IsOfIn c.args.code.now.source.now c.id_of_parts.new.numbers c.args.sight u)
    c.id_of_parts.result
    (λ u h. subst (λ (v : Sight). IsOfIn c.args.code.now.source.now c.id_of_parts.new.numbers v u)
    (sym c.in-Parts.is) h)
    c.id_of_parts.ensures.says

pub id_of_parts-returns-clause-goes : goal.id_of_parts-returns-clause-goes
id_of_parts-returns-clause-goes t c =
    goes_on _ _ _ c.defined_id.result c.in_ok-kind.ensures.goes c.defined_id.ensures.goes

pub id_of_parts-returns-clause-says : goal.id_of_parts-returns-clause-says
id_of_parts-returns-clause-says t c =
    parts_says c.args.code.now.source.now c.kind_at.new.numbers c.defined_id.new.numbers c.args.place
    c.in_ok-kind.kind _ c.defined_id.result c.in_ok-kind.ensures.says (search rules) c.defined_id.ensures.goes
    c.defined_id.ensures.there

pub id_at-returns-clause-says : goal.id_at-returns-clause-says
id_at-returns-clause-says t c =
    if_ok (λ (u : TypeId). IsOfIn c.args.code.now.source.now c.id_of.new.numbers c.in_ok-sight.sight u)
    (λ (u : TypeId). HasIdIn c.args.code.now.source.now c.id_of.new.numbers c.args.place u) c.id_of.result
    (λ u h. has_id c.in_ok-sight.ensures.seen h) c.id_of.ensures.says

-- ---- kinds

pub kind_at-returns-in_ok-elem-in-Slice-clause-says : goal.kind_at-returns-in_ok-elem-in-Slice-clause-says
kind_at-returns-in_ok-elem-in-Slice-clause-says t c =
    a_slice (c.in_ok-found.ensures ∙ ap (λ (g : GoType). Some g) c.in-Slice.is) c.in_ok-elem-in-Slice.ensures.says

pub kind_at-returns-in_ok-member-in-Array-clause-says : goal.kind_at-returns-in_ok-member-in-Array-clause-says
kind_at-returns-in_ok-member-in-Array-clause-says t c =
    an_array (c.in_ok-found.ensures ∙ ap (λ (g : GoType). Some g) c.in-Array.is)
    c.in_ok-check_length-in-Array.ensures c.in_ok-member-in-Array.ensures.says

pub kind_at-returns-in_ok-value-in-Map-clause-says : goal.kind_at-returns-in_ok-value-in-Map-clause-says
kind_at-returns-in_ok-value-in-Map-clause-says t c =
    a_map (c.in_ok-found.ensures ∙ ap (λ (g : GoType). Some g) c.in-Map.is)
    (id_on _ _ _ (goes_keeps _ _ c.in_ok-value-in-Map.ensures.goes) c.in_ok-key-in-Map.ensures.says)
    c.in_ok-value-in-Map.ensures.says

pub kind_at-returns-in_ok-push_lines-in-Struct-clause-says : goal.kind_at-returns-in_ok-push_lines-in-Struct-clause-says
kind_at-returns-in_ok-push_lines-in-Struct-clause-says t c =
    struct_says c.args.code.now.source.now c.push_lines.new.numbers c.args.place _ _ c.struct_of.result
    (c.in_ok-found.ensures ∙ ap (λ (g : GoType). Some g) c.in-Struct.is) (search rules)
    c.in_ok-push_lines-in-Struct.ensures.says c.struct_of.ensures.says c.struct_of.ensures.any

-- ---- structs

pub push_lines-loop-line-init : goal.push_lines-loop-line-init
push_lines-loop-line-init t c = record {
  sound = c.requires.sound;
  goes = goes_same c.args.numbers.now;
  says = rw c.requires.empty no_lines;
}

pub push_lines-loop-line-preserved : goal.push_lines-loop-line-preserved
push_lines-loop-line-preserved t c = record {
  sound = c.in_ok-push_line.ensures.sound;
  goes = goes_then _ _ _ c.loop-line.invariant.goes c.in_ok-push_line.ensures.goes;
  says =
      lines_more c.args.code.now.source.now _ _ c.args.lines.now c.loop-line.line-index _ _ _
      c.in_ok-push_line.ensures.goes c.loop-line.invariant.says c.in_ok-push_line.ensures.says (omega arith)
      (search rules);
}

pub push_line-returns-then-none-clause-goes : goal.push_line-returns-then-none-clause-goes
push_line-returns-then-none-clause-goes t c = goes_same c.args.numbers.now

pub push_line-returns-then-none-clause-says : goal.push_line-returns-then-none-clause-says
push_line-returns-then-none-clause-says t c =
    adds_none c.args.code.now.source.now c.args.numbers.now c.args.line.now c.args.fields.now.items
    (none_seen (subst (λ ws. SendsNames c.args.code.now.source.now c.args.line.now ws) (search rules)
    c.in_ok-names.ensures))

pub push_line-returns-then-unsent-clause-goes : goal.push_line-returns-then-unsent-clause-goes
push_line-returns-then-unsent-clause-goes t c = goes_same c.args.numbers.now

pub push_line-returns-then-unsent-clause-says : goal.push_line-returns-then-unsent-clause-says
push_line-returns-then-unsent-clause-says t c =
    adds_none c.args.code.now.source.now c.args.numbers.now c.args.line.now c.args.fields.now.items
    (nothing_sent (subst (λ (v : Sight). Seen c.args.code.now.source.now v c.args.line.now.of) (search rules)
    c.in_ok-sight.ensures.seen))

pub push_line-returns-clause-says : goal.push_line-returns-clause-says
push_line-returns-clause-says t c = record {
  more = _;
  is = c.in_ok-push_fields.ensures;
  has = all_sent (subst (λ ws. SendsNames c.args.code.now.source.now c.args.line.now ws) (search rules)
      c.in_ok-names.ensures) (has_id c.in_ok-sight.ensures.seen c.in_ok-id.ensures.says);
}
