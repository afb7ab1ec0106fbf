-- Part by part the rows lead on, as the bytes are read.
use Rattle.std.proofs.Common.{◌≡◌, ℕ, ◌∷◌, [], ◌++◌, ◌+◌, ◌-◌, ◌%◌, ◌/◌, ◌<◌, List, length, Some, arith, refl, sym}
use Rattle.std.proofs.Common.{ap, ◌∙◌, subst, inl, inr}
use Rattle.std.specs.Prelude.{slice_get}
use Rattle.gob_num.specs.Unsigned.{IsUnsigned}
use Rattle.gob_types.specs.Defined.{types}
use Rattle.gob_types.specs.declared.id.TypeId.{TypeId}
use Rattle.gob_types.specs.declared.kind.Field.{Field}
use Rattle.gob_types.specs.declared.kind.Kind.{Kind}
use Rattle.gob_types.specs.declared.kind.Kind.TheVariants as kind
use Rattle.gob_types.specs.declared.kind.Shape.{Shape}
use Rattle.gob_types.specs.Table.{Table, shape_of}
use Rattle.gob_types.specs.Ready.{IsReady, Names}
use Rattle.gob_types.proofs.PublicLaws.{names_ready, ready_defined}
use Rattle.gob_value.specs.Top.{IsStruct}
use Rattle.gob_read.specs.Expected.{any, array_count, delta, first_allowed, tag}
use Rattle.gob_read.specs.Expects.{no_fields}
use Rattle.gob_read.proofs.Machine.FieldSteps.{past_end}
use Rattle.gob_explain.specs.Open.{a_filling, a_value, content, description}
use Rattle.gob_explain.specs.Path.{of_filling}
use Rattle.gob_explain.specs.Walk as rows
use Rattle.gob_explain.specs.Walk.{HasRawBytes, between}
use Rattle.gob_explain.specs.Machine.Walking.{SpellsOne, SpellsWhole}
use Rattle.gob_explain.proofs.BodyLaws.{held_at, struct_at, struct_whole_top, tag_is, tagged_at, tagged_whole_top}
use Rattle.gob_explain.proofs.BodyLaws.{value_begins_at}
use Rattle.gob_explain.proofs.BodyLaws as body
use Rattle.gob_explain.proofs.PartLaws.{array_parts, array_whole, entries_more, many_more, map_keys, map_values}
use Rattle.gob_explain.proofs.PartLaws.{map_whole, next_field, next_key, next_part, next_value, nil_spelled, nil_whole}
use Rattle.gob_explain.proofs.PartLaws.{none_entries, none_many, run_more_at, slice_parts, slice_whole, struct_whole}
use Rattle.gob_explain.proofs.FillingLaws.{described_told, filled_walks, held_told, name_told, nil_told, walks_to_end}
use Rattle.gob_explain.proofs.FillingLaws.{walks_to_on}
use Rattle.gob_explain.proofs.TakesLaws.{
  behind_nil,
  goes_on,
  path_begin,
  path_first,
  takes_count,
  takes_delta,
  takes_first,
  takes_name,
}
use Rattle.gob_explain.proofs.TakesLaws.{takes_nil, takes_segment, takes_tag, takes_type}
use Rattle.gob_explain.proofs.WalkLaws.{any_range, array_range, delta_range, fails_then, nothing_there, stops_deep}
use Rattle.gob_explain.proofs.WalkLaws.{stops_none, tag_range, told_end, told_more, told_none, told_nothing, told_then}
use Rattle.gob_explain.proofs.WalkLaws.{told_three, walk_failed, walk_to_failed, walks_on}
use Rattle.gob_explain.proofs.walk.+walk.Goals as goal

-- what the shape of a ready type names is ready
field_ready : {T : Table} {u : TypeId} {s : Shape} {types : List Field} {f : Field} (number : ℕ)
    → IsReady T u
    → shape_of T u ≡ Some s → s.kind ≡ kind.Struct types → slice_get types number ≡ Some f → IsReady T f.id
field_ready {f = f} number r g k at =
    names_ready r g (subst (λ k. Names k f.id) (sym k) (record { number = number; field = f; there = at; type = refl }))

named_ready : {T : Table} {u e : TypeId} {s : Shape} (k : Kind) → IsReady T u → shape_of T u ≡ Some s → s.kind ≡ k
    → Names k e → IsReady T e
named_ready {e = e} k r g is n = names_ready r g (subst (λ k. Names k e) (sym is) n)

no_struct : {k : Kind} (m : Kind) → k ≡ m → ¬ IsStruct m → ¬ IsStruct k
no_struct m e n = subst (λ k. ¬ IsStruct k) (sym e) n

-- the delta to a field counts from the next one
delta_counts : {b : List ℕ} {d : ℕ} (next number : ℕ) → number ≡ next + d - 1 → 0 < d → IsUnsigned d b
    → IsUnsigned (number + 1 - next) b
delta_counts {b = b} {d = d} next number e l q =
    let same : d ≡ number + 1 - next = omega arith in subst (λ k. IsUnsigned k b) same q

-- ---- a value with its tag

pub walk_value-returns-then-not-kept : goal.walk_value-returns-then-not-kept
walk_value-returns-then-not-kept g t c = λ base outer way d l v. (
  a_value c.args.part.id base [] ∷ outer,
  way,
  told_nothing g.O.RowSink.tells (g.met.O.RowSink.nothing _) l,
  rows.not_ready (λ r. let there = c.kept.ensures.1 r in let none = c.if-not-kept.true in cc),
  path_begin v,
)

pub walk_value-returns-in_default : goal.walk_value-returns-in_default
walk_value-returns-in_default g t c = λ base outer way d l v.
    let ready = c.kept.ensures.0 c.if-not-kept.false in
    let known = (ready_defined ready).1 in let none = c.in_default.ensures in absurd (cc)

pub walk_value-returns-in-Struct : goal.walk_value-returns-in-Struct
walk_value-returns-in-Struct g t c = λ base outer way d l v.
    let ready = c.kept.ensures.0 c.if-not-kept.false in
    let f = sym c.in-Some.ensures in
    let i = subst IsStruct (sym c.in-Struct.is) tt in
    walks_on g.O.RowSink.tells g.met.O.RowSink.joined
    (SpellsWhole (types c.args.walk.now.table.now) c.args.part.id) c.args.walk.now.most _ [] []
    (told_none g.O.RowSink.tells [] (g.met.O.RowSink.nothing _) l) c.walk_part.result
    (c.walk_part.ensures c.args.part.id base 0 [] outer way (omega arith) l ready (struct_at v f i))
    (λ b q. struct_whole_top b f i q)

pub walk_value-returns-in_err-behind-in_default-kind : goal.walk_value-returns-in_err-behind-in_default-kind
walk_value-returns-in_err-behind-in_default-kind g t c = λ base outer way d l v.
    let n = body.no_struct c.in-Some.shape.now.kind c.in_default-kind.not-Struct in
    walk_failed g.O.RowSink.tells _ _ _ _ _ _ _ _ _ _ _ _
    c.from_residual.result c.from_residual.ensures.1
    (c.in_err-behind-in_default-kind.ensures.walks (types c.args.walk.now.table.now)
    (a_value c.args.part.id base [] ∷ outer) (goes_on c.args.part.id base [] outer) tag c.args.walk.now.most way l
    (takes_tag (omega arith) v (sym c.in-Some.ensures) n) tag_range)

pub walk_value-returns-in_ok-behind-in_default-kind : goal.walk_value-returns-in_ok-behind-in_default-kind
walk_value-returns-in_ok-behind-in_default-kind g t c = λ base outer way d l v.
    let ready = c.kept.ensures.0 c.if-not-kept.false in
    let f = sym c.in-Some.ensures in
    let n = body.no_struct c.in-Some.shape.now.kind c.in_default-kind.not-Struct in
    let first = c.in_ok-behind-in_default-kind.ensures.walks (types c.args.walk.now.table.now)
    (a_value c.args.part.id base [] ∷ outer) (goes_on c.args.part.id base [] outer) tag c.args.walk.now.most way l
    (takes_tag (omega arith) v f n) tag_range in
    let zero = between c.args.at c.in_ok-behind-in_default-kind.behind c.args.walk.now.body.now in
    let is = tag_is first.1.2 first.1.3 in
    walks_on g.O.RowSink.tells g.met.O.RowSink.joined
    (SpellsWhole (types c.args.walk.now.table.now) c.args.part.id) c.args.walk.now.most _ [] zero first.0
    c.walk_part-in_default-kind.result
    (c.walk_part-in_default-kind.ensures c.args.part.id base 0 zero outer way (omega arith) first.0.inside ready
    (value_begins_at is (tagged_at v f n))) (λ b q. tagged_whole_top zero b f n is q)

-- ---- a step

pub walk_step-returns-in_err-enter : goal.walk_step-returns-in_err-enter
walk_step-returns-in_err-enter g t c = λ u base around p outer way d l r b.
    walk_failed g.O.RowSink.tells _ _ _ _ _ _ _ _ _ _ _ _
    c.from_residual.result c.from_residual.ensures.1
    (_, c.args.at, _, told_nothing g.O.RowSink.tells (c.in_err-enter.ensures way) l)

pub walk_step-returns-in_err-end : goal.walk_step-returns-in_err-end
walk_step-returns-in_err-end g t c = λ u base around p outer way d l r b.
    walk_failed g.O.RowSink.tells _ _ _ _ _ _ _ _ _ _ _ _
    c.from_residual-in_err-end.result c.from_residual-in_err-end.ensures.1
    (fails_then g.O.RowSink.tells g.met.O.RowSink.joined c.args.walk.now.most _
    (told_nothing g.O.RowSink.tells (c.in_ok-enter.ensures way) l) _
    (c.in_err-end.ensures u base around p outer (way ++ c.args.step ∷ []) d l r b))

pub walk_step-returns : goal.walk_step-returns
walk_step-returns g t c = λ u base around p outer way d l r b.
    let one = c.in_ok-end.ensures u base around p outer (way ++ c.args.step ∷ []) d l r b in (
      one.0,
      one.1,
      told_then g.O.RowSink.tells g.met.O.RowSink.joined
          (told_then g.O.RowSink.tells g.met.O.RowSink.joined
          (told_nothing g.O.RowSink.tells (c.in_ok-enter.ensures way) l) one.2)
          (told_nothing g.O.RowSink.tells (c.leave.ensures way _) one.2.inside),
    )

-- ---- elements

pub walk_elements-elements-init : goal.walk_elements-elements-init
walk_elements-elements-init g t c = λ u base around p outer way d l r b.
    ([], none_many, told_none g.O.RowSink.tells p (g.met.O.RowSink.nothing _) l)

pub walk_elements-returns-in_err-at : goal.walk_elements-returns-in_err-at
walk_elements-returns-in_err-at g t c = λ u base around p outer way d l r b.
    let so = c.elements.invariant u base around p outer way d l r b in
    walk_failed g.O.RowSink.tells _ _ _ _ _ _ _ _ _ _ _ _
    c.from_residual.result c.from_residual.ensures.1
    (fails_then g.O.RowSink.tells g.met.O.RowSink.joined c.args.walk.now.most _ so.2 _
    (c.in_err-at.ensures u base around (p ++ so.0) outer way d so.2.inside r
    (next_part c.args.count around way p so.0 b so.1 (omega arith))))

pub walk_elements-elements-preserved : goal.walk_elements-elements-preserved
walk_elements-elements-preserved g t c = λ u base around p outer way d l r b.
    let so = c.elements.invariant u base around p outer way d l r b in
    let one = c.in_ok-at.ensures u base around (p ++ so.0) outer way d so.2.inside r
    (next_part c.args.count around way p so.0 b so.1 (omega arith)) in (
      so.0 ++ one.0,
      many_more so.0 one.0 so.1 one.1,
      told_more g.O.RowSink.tells p so.0 one.0
          (told_then g.O.RowSink.tells g.met.O.RowSink.joined so.2 one.2),
    )

pub walk_elements-returns : goal.walk_elements-returns
walk_elements-returns g t c = λ u base around p outer way d l r b.
    let so = c.elements.invariant u base around p outer way d l r b in
    (so.0, (so.1.0, so.1.1, omega (arith, so.1.2)), so.2)

-- ---- pairs

pub walk_pairs-pairs-init : goal.walk_pairs-pairs-init
walk_pairs-pairs-init g t c = λ u base around p outer way d l rk re bk be.
    ([], none_entries, told_none g.O.RowSink.tells p (g.met.O.RowSink.nothing _) l)

pub walk_pairs-returns-in_err-behind : goal.walk_pairs-returns-in_err-behind
walk_pairs-returns-in_err-behind g t c = λ u base around p outer way d l rk re bk be.
    let so = c.pairs.invariant u base around p outer way d l rk re bk be in
    walk_failed g.O.RowSink.tells _ _ _ _ _ _ _ _ _ _ _ _
    c.from_residual.result c.from_residual.ensures.1
    (fails_then g.O.RowSink.tells g.met.O.RowSink.joined c.args.walk.now.most _ so.2 _
    (c.in_err-behind.ensures u base around (p ++ so.0) outer way d so.2.inside rk
    (next_key c.args.count around way p so.0 bk so.1 (omega arith))))

pub walk_pairs-returns-in_err-at : goal.walk_pairs-returns-in_err-at
walk_pairs-returns-in_err-at g t c = λ u base around p outer way d l rk re bk be.
    let so = c.pairs.invariant u base around p outer way d l rk re bk be in
    let key = c.in_ok-behind.ensures u base around (p ++ so.0) outer way d so.2.inside rk
    (next_key c.args.count around way p so.0 bk so.1 (omega arith)) in
    walk_failed g.O.RowSink.tells _ _ _ _ _ _ _ _ _ _ _ _
    c.from_residual-in_err-at.result c.from_residual-in_err-at.ensures.1
    (fails_then g.O.RowSink.tells g.met.O.RowSink.joined c.args.walk.now.most _
    (told_more g.O.RowSink.tells p so.0 key.0 (told_then g.O.RowSink.tells g.met.O.RowSink.joined so.2 key.2)) _
    (c.in_err-at.ensures u base around (p ++ (so.0 ++ key.0)) outer way d key.2.inside re
    (next_value c.args.count around way p so.0 key.0 be so.1 (omega arith) key.1)))

pub walk_pairs-pairs-preserved : goal.walk_pairs-pairs-preserved
walk_pairs-pairs-preserved g t c = λ u base around p outer way d l rk re bk be.
    let so = c.pairs.invariant u base around p outer way d l rk re bk be in
    let key = c.in_ok-behind.ensures u base around (p ++ so.0) outer way d so.2.inside rk
    (next_key c.args.count around way p so.0 bk so.1 (omega arith)) in
    let one = c.in_ok-at.ensures u base around (p ++ (so.0 ++ key.0)) outer way d key.2.inside re
    (next_value c.args.count around way p so.0 key.0 be so.1 (omega arith) key.1) in (
      so.0 ++ (key.0 ++ one.0),
      entries_more so.0 key.0 one.0 so.1 key.1 one.1,
      told_three g.O.RowSink.tells p so.0 key.0 one.0
          (told_then g.O.RowSink.tells g.met.O.RowSink.joined
          (told_more g.O.RowSink.tells p so.0 key.0 (told_then g.O.RowSink.tells g.met.O.RowSink.joined so.2 key.2))
          one.2),
    )

pub walk_pairs-returns : goal.walk_pairs-returns
walk_pairs-returns g t c = λ u base around p outer way d l rk re bk be.
    let so = c.pairs.invariant u base around p outer way d l rk re bk be in
    (so.0, (so.1.0, so.1.1, omega (arith, so.1.2)), so.2)

-- ---- fields

pub walk_fields-fields-init : goal.walk_fields-fields-init
walk_fields-fields-init g t c = record {
  within = omega arith;
  walked = λ u base around p outer way s d l r f k b.
      ([], no_fields, told_none g.O.RowSink.tells p (g.met.O.RowSink.nothing _) l);
}

pub walk_fields-returns-in_err-delta : goal.walk_fields-returns-in_err-delta
walk_fields-returns-in_err-delta g t c = λ u base around p outer way s d l r f k b.
    let so = c.fields.invariant.walked u base around p outer way s d l r f k b in
    walk_failed g.O.RowSink.tells _ _ _ _ _ _ _ _ _ _ _ _
    c.from_residual.result c.from_residual.ensures.1
    (fails_then g.O.RowSink.tells g.met.O.RowSink.joined c.args.walk.now.most _ so.2 _
    (c.in_err-delta.ensures.walks (types c.args.walk.now.table.now) _ (goes_on u base (p ++ so.0) outer)
    (delta (length c.args.fields.now - c.fields.next)) c.args.walk.now.most way so.2.inside
    (takes_delta p so.0 d b f k so.1) (delta_range (omega arith))))

pub walk_fields-returns-then-delta-eq0 : goal.walk_fields-returns-then-delta-eq0
walk_fields-returns-then-delta-eq0 g t c = λ u base around p outer way s d l r f k b.
    let so = c.fields.invariant.walked u base around p outer way s d l r f k b in
    let first = c.in_ok-delta.ensures.walks (types c.args.walk.now.table.now) _ (goes_on u base (p ++ so.0) outer)
    (delta (length c.args.fields.now - c.fields.next)) c.args.walk.now.most way so.2.inside
    (takes_delta p so.0 d b f k so.1) (delta_range (omega arith)) in
    let zero = between c.fields.at c.in_ok-delta.behind c.args.walk.now.body.now in
    let none : c.in_ok-delta.delta ≡ 0 = omega arith in (
      so.0 ++ zero,
      struct_whole so.0 zero f k so.1 (subst (λ n. IsUnsigned n zero) none first.1.3),
      told_more g.O.RowSink.tells p so.0 zero
          (told_then g.O.RowSink.tells g.met.O.RowSink.joined so.2 first.0),
    )

pub walk_fields-returns-in_default : goal.walk_fields-returns-in_default
walk_fields-returns-in_default g t c = λ u base around p outer way s d l r f k b.
    absurd (omega (arith, past_end c.args.fields.now _ c.in_default.ensures.found, c.in_ok-delta.ensures.most))

pub walk_fields-returns-in_err-at : goal.walk_fields-returns-in_err-at
walk_fields-returns-in_err-at g t c = λ u base around p outer way s d l r f k b.
    let so = c.fields.invariant.walked u base around p outer way s d l r f k b in
    let first = c.in_ok-delta.ensures.walks (types c.args.walk.now.table.now) _ (goes_on u base (p ++ so.0) outer)
    (delta (length c.args.fields.now - c.fields.next)) c.args.walk.now.most way so.2.inside
    (takes_delta p so.0 d b f k so.1) (delta_range (omega arith)) in
    let number = between c.fields.at c.in_ok-delta.behind c.args.walk.now.body.now in
    let at = sym c.in-Some.ensures.found in
    walk_failed g.O.RowSink.tells _ _ _ _ _ _ _ _ _ _ _ _
    c.from_residual-in_err-at.result c.from_residual-in_err-at.ensures.1
    (fails_then g.O.RowSink.tells g.met.O.RowSink.joined c.args.walk.now.most _
    (told_more g.O.RowSink.tells p so.0 number (told_then g.O.RowSink.tells g.met.O.RowSink.joined so.2 first.0)) _
    (c.in_err-at.ensures u base (around + 1) (p ++ (so.0 ++ number)) outer way (omega arith) first.0.inside
    (field_ready _ r f k at)
    (next_field p so.0 number b f k so.1 (omega arith) at (delta_counts c.fields.next _ refl (omega arith) first.1.3))))

pub walk_fields-fields-preserved : goal.walk_fields-fields-preserved
walk_fields-fields-preserved g t c = record {
  within = omega (arith, c.in_ok-delta.ensures.most);
  walked = λ u base around p outer way s d l r f k b.
      let so = c.fields.invariant.walked u base around p outer way s d l r f k b in
      let first = c.in_ok-delta.ensures.walks (types c.args.walk.now.table.now) _ (goes_on u base (p ++ so.0) outer)
      (delta (length c.args.fields.now - c.fields.next)) c.args.walk.now.most way so.2.inside
      (takes_delta p so.0 d b f k so.1) (delta_range (omega arith)) in
      let number = between c.fields.at c.in_ok-delta.behind c.args.walk.now.body.now in
      let at = sym c.in-Some.ensures.found in
      let counts = delta_counts c.fields.next _ refl (omega arith) first.1.3 in
      let one = c.in_ok-at.ensures u base (around + 1) (p ++ (so.0 ++ number)) outer way (omega arith) first.0.inside
      (field_ready _ r f k at) (next_field p so.0 number b f k so.1 (omega arith) at counts) in (
        so.0 ++ (number ++ one.0),
        run_more_at so.0 number one.0 so.1 (omega arith) at counts one.1,
        told_three g.O.RowSink.tells p so.0 number one.0
            (told_then g.O.RowSink.tells g.met.O.RowSink.joined
            (told_more g.O.RowSink.tells p so.0 number
            (told_then g.O.RowSink.tells g.met.O.RowSink.joined so.2 first.0)) one.2),
      );
}

-- ---- a part

pub walk_part-returns-then-part-walk : goal.walk_part-returns-then-part-walk
walk_part-returns-then-part-walk g t c = λ u base around p outer way d l r b. (
  _,
  way,
  told_nothing g.O.RowSink.tells (g.met.O.RowSink.nothing _) l,
  stops_deep c.args.walk.now.most d b.begins (ready_defined r).1 c.if-part-walk.true,
  path_first b (ready_defined r).1,
)

pub walk_part-returns-in_default : goal.walk_part-returns-in_default
walk_part-returns-in_default g t c = λ u base around p outer way d l r b.
    let known = (ready_defined r).1 in let none = c.in_default.ensures in absurd (cc)

pub walk_part-returns-in-Basic : goal.walk_part-returns-in-Basic
walk_part-returns-in-Basic g t c = λ u base around p outer way d l r b.
    c.walk_basic_part.ensures u base around p outer way c.in-Some.shape.now d l b (sym c.in-Some.ensures) c.in-Basic.is

pub walk_part-returns-in-Struct : goal.walk_part-returns-in-Struct
walk_part-returns-in-Struct g t c = λ u base around p outer way d l r b.
    c.walk_fields.ensures u base around p outer way c.in-Some.shape.now d l r (sym c.in-Some.ensures) c.in-Struct.is b

pub walk_part-returns-in-Opaque : goal.walk_part-returns-in-Opaque
walk_part-returns-in-Opaque g t c = λ u base around p outer way d l r b.
    c.walk_counted.ensures _ u c.in-Some.shape.now base around c.args.walk.now.most p outer way d l b
    (sym c.in-Some.ensures) (subst HasRawBytes (sym c.in-Opaque.is) tt)

pub walk_part-returns-in_err-count-in-Slice : goal.walk_part-returns-in_err-count-in-Slice
walk_part-returns-in_err-count-in-Slice g t c = λ u base around p outer way d l r b.
    walk_failed g.O.RowSink.tells _ _ _ _ _ _ _ _ _ _ _ _
    c.from_residual.result c.from_residual.ensures.1
    (c.in_err-count-in-Slice.ensures.walks (types c.args.walk.now.table.now) (a_value u base p ∷ outer)
    (goes_on u base p outer) any c.args.walk.now.most way l
    (takes_first d b (sym c.in-Some.ensures) (no_struct _ c.in-Slice.is (λ i. i)) (ap first_allowed c.in-Slice.is)
    refl) any_range)

pub walk_part-returns-in_ok-count-in-Slice : goal.walk_part-returns-in_ok-count-in-Slice
walk_part-returns-in_ok-count-in-Slice g t c = λ u base around p outer way d l r b.
    let f = sym c.in-Some.ensures in
    let first = c.in_ok-count-in-Slice.ensures.walks (types c.args.walk.now.table.now) (a_value u base p ∷ outer)
    (goes_on u base p outer) any c.args.walk.now.most way l
    (takes_first d b f (no_struct _ c.in-Slice.is (λ i. i)) (ap first_allowed c.in-Slice.is) refl) any_range in
    let size = between c.args.at c.in_ok-count-in-Slice.behind c.args.walk.now.body.now in
    walks_on g.O.RowSink.tells g.met.O.RowSink.joined
    (SpellsOne (types c.args.walk.now.table.now) c.args.part.id) c.args.walk.now.most _ p size first.0
    c.walk_elements.result (c.walk_elements.ensures u base (around + 1) (p ++ size) outer way (omega arith)
    first.0.inside (named_ready _ r f c.in-Slice.is refl) (slice_parts p size b f c.in-Slice.is first.1.3))
    (λ x q. slice_whole size x f c.in-Slice.is first.1.3 q)

pub walk_part-returns-in_err-count-in-Array : goal.walk_part-returns-in_err-count-in-Array
walk_part-returns-in_err-count-in-Array g t c = λ u base around p outer way d l r b.
    walk_failed g.O.RowSink.tells _ _ _ _ _ _ _ _ _ _ _ _
    c.from_residual-in_err-count-in-Array.result c.from_residual-in_err-count-in-Array.ensures.1
    (c.in_err-count-in-Array.ensures.walks (types c.args.walk.now.table.now) (a_value u base p ∷ outer)
    (goes_on u base p outer) (array_count c.in-Array.len) c.args.walk.now.most way l
    (takes_first d b (sym c.in-Some.ensures) (no_struct _ c.in-Array.is (λ i. i)) (ap first_allowed c.in-Array.is)
    refl) (array_range c.only-allowed.ensures.least c.only-allowed.ensures.most))

pub walk_part-returns-in_ok-count-in-Array : goal.walk_part-returns-in_ok-count-in-Array
walk_part-returns-in_ok-count-in-Array g t c = λ u base around p outer way d l r b.
    let f = sym c.in-Some.ensures in
    let first = c.in_ok-count-in-Array.ensures.walks (types c.args.walk.now.table.now) (a_value u base p ∷ outer)
    (goes_on u base p outer) (array_count c.in-Array.len) c.args.walk.now.most way l
    (takes_first d b f (no_struct _ c.in-Array.is (λ i. i)) (ap first_allowed c.in-Array.is) refl)
    (array_range c.only-allowed.ensures.least c.only-allowed.ensures.most) in
    let size = between c.args.at c.in_ok-count-in-Array.behind c.args.walk.now.body.now in
    let same : c.in_ok-count-in-Array.count ≡ c.in-Array.len = omega
    (arith, first.1.1, first.1.2, c.only-allowed.ensures.least, c.only-allowed.ensures.most) in
    let spelled : IsUnsigned c.in-Array.len size = subst (λ n. IsUnsigned n size) same first.1.3 in
    let parts = array_parts p size b f c.in-Array.is spelled in
    walks_on g.O.RowSink.tells g.met.O.RowSink.joined
    (SpellsOne (types c.args.walk.now.table.now) c.args.part.id) c.args.walk.now.most _ p size first.0
    c.walk_elements-in-Array.result (c.walk_elements-in-Array.ensures u base (around + 1) (p ++ size) outer way
    (omega arith) first.0.inside (named_ready _ r f c.in-Array.is refl) (λ vs q qs i. parts vs q qs (omega arith)))
    (λ x q. array_whole size x f c.in-Array.is spelled (q.0, q.1, q.2 ∙ same))

pub walk_part-returns-in_err-count-in-Map : goal.walk_part-returns-in_err-count-in-Map
walk_part-returns-in_err-count-in-Map g t c = λ u base around p outer way d l r b.
    walk_failed g.O.RowSink.tells _ _ _ _ _ _ _ _ _ _ _ _
    c.from_residual-in_err-count-in-Map.result c.from_residual-in_err-count-in-Map.ensures.1
    (c.in_err-count-in-Map.ensures.walks (types c.args.walk.now.table.now) (a_value u base p ∷ outer)
    (goes_on u base p outer) any c.args.walk.now.most way l
    (takes_first d b (sym c.in-Some.ensures) (no_struct _ c.in-Map.is (λ i. i)) (ap first_allowed c.in-Map.is) refl)
    any_range)

pub walk_part-returns-in_ok-count-in-Map : goal.walk_part-returns-in_ok-count-in-Map
walk_part-returns-in_ok-count-in-Map g t c = λ u base around p outer way d l r b.
    let f = sym c.in-Some.ensures in
    let first = c.in_ok-count-in-Map.ensures.walks (types c.args.walk.now.table.now) (a_value u base p ∷ outer)
    (goes_on u base p outer) any c.args.walk.now.most way l
    (takes_first d b f (no_struct _ c.in-Map.is (λ i. i)) (ap first_allowed c.in-Map.is) refl) any_range in
    let size = between c.args.at c.in_ok-count-in-Map.behind c.args.walk.now.body.now in
    walks_on g.O.RowSink.tells g.met.O.RowSink.joined
    (SpellsOne (types c.args.walk.now.table.now) c.args.part.id) c.args.walk.now.most _ p size first.0
    c.walk_pairs.result (c.walk_pairs.ensures u base (around + 1) (p ++ size) outer way (omega arith) first.0.inside
    (named_ready _ r f c.in-Map.is (inl refl)) (named_ready _ r f c.in-Map.is (inr refl))
    (map_keys p size b f c.in-Map.is first.1.3) (map_values p size b f c.in-Map.is first.1.3))
    (λ x q. map_whole size x f c.in-Map.is first.1.3 q)

-- ---- an interface

pub walk_basic_part-returns-in-Interface : goal.walk_basic_part-returns-in-Interface
walk_basic_part-returns-in-Interface g t c = λ u base around p outer way s d l b f k.
    c.walk_interface.ensures u base around p outer way s d l b f (k ∙ ap kind.Basic c.in-Interface.is)

pub walk_basic_part-returns-in_default : goal.walk_basic_part-returns-in_default
walk_basic_part-returns-in_default g t c = λ u base around p outer way s d l b f k.
    c.walk_basic.ensures _ u s base around c.args.walk.now.most p outer way d l b f k c.in_default.not-Interface

pub walk_interface-returns-in_err-length : goal.walk_interface-returns-in_err-length
walk_interface-returns-in_err-length g t c = λ u base around p outer way s d l b f k.
    walk_failed g.O.RowSink.tells _ _ _ _ _ _ _ _ _ _ _ _
    c.from_residual.result c.from_residual.ensures.1
    (c.in_err-length.ensures.walks (types c.args.walk.now.table.now) (a_value u base p ∷ outer)
    (behind_nil u base p outer c.args.part.id (c.args.part.depth + 1)) any c.args.walk.now.most way l
    (takes_nil d refl b f k) any_range)

pub walk_interface-returns-then-length-eq0 : goal.walk_interface-returns-then-length-eq0
walk_interface-returns-then-length-eq0 g t c = λ u base around p outer way s d l b f k.
    let first = c.in_ok-length.ensures.walks (types c.args.walk.now.table.now) (a_value u base p ∷ outer)
    (behind_nil u base p outer c.args.part.id (c.args.part.depth + 1)) any c.args.walk.now.most way l
    (takes_nil d refl b f k) any_range in
    let none = between c.args.at c.in_ok-length.behind c.args.walk.now.body.now in
    let zero = c.if-length-eq0.true in (
      none,
      nil_whole f k (subst (λ n. IsUnsigned n none) zero first.1.3),
      nil_told g.O.RowSink.tells p c.args.part.id (c.args.part.depth + 1) c.in_ok-length.length none zero
          first.0,
    )

pub walk_interface-returns-then-filling-walk : goal.walk_interface-returns-then-filling-walk
walk_interface-returns-then-filling-walk g t c = λ u base around p outer way s d l b f k.
    let first = c.in_ok-length.ensures.walks (types c.args.walk.now.table.now) (a_value u base p ∷ outer)
    (behind_nil u base p outer c.args.part.id (c.args.part.depth + 1)) any c.args.walk.now.most way l
    (takes_nil d refl b f k) any_range in (
      _,
      way,
      name_told g.O.RowSink.tells c.in_ok-length.length _ (omega arith) first.0,
      rows.none_stands (rows.too_deep rows.awaits_name c.if-filling-walk.true),
      of_filling (path_first b f),
    )

pub walk_interface-returns-in_err-named : goal.walk_interface-returns-in_err-named
walk_interface-returns-in_err-named g t c = λ u base around p outer way s d l b f k.
    let first = c.in_ok-length.ensures.walks (types c.args.walk.now.table.now) (a_value u base p ∷ outer)
    (behind_nil u base p outer c.args.part.id (c.args.part.depth + 1)) any c.args.walk.now.most way l
    (takes_nil d refl b f k) any_range in
    walk_failed g.O.RowSink.tells _ _ _ _ _ _ _ _ _ _ _ _
    c.from_residual-in_err-named.result c.from_residual-in_err-named.ensures.1
    (fails_then g.O.RowSink.tells g.met.O.RowSink.joined c.args.walk.now.most _
    (name_told g.O.RowSink.tells c.in_ok-length.length _ (omega arith) first.0) _
    (c.in_err-named.ensures (types c.args.walk.now.table.now) _ _ c.args.walk.now.most way first.0.inside (omega arith)
    (takes_name (path_first b f))))

pub walk_interface-returns : goal.walk_interface-returns
walk_interface-returns g t c = λ u base around p outer way s d l b f k.
    let first = c.in_ok-length.ensures.walks (types c.args.walk.now.table.now) (a_value u base p ∷ outer)
    (behind_nil u base p outer c.args.part.id (c.args.part.depth + 1)) any c.args.walk.now.most way l
    (takes_nil d refl b f k) any_range in
    let named = c.in_ok-named.ensures (types c.args.walk.now.table.now) _ _ c.args.walk.now.most way first.0.inside
    (omega arith) (takes_name (path_first b f)) in
    filled_walks g.O.RowSink.tells (types c.args.walk.now.table.now) c.args.walk.now.body.now c.args.walk.now.most u
    base p outer c.args.at _ _ (SpellsOne (types c.args.walk.now.table.now) c.args.part.id) c.walk_filling.result
    (nil_spelled f k) (walks_to_on g.O.RowSink.tells g.met.O.RowSink.joined _ c.args.walk.now.most _
    (told_then g.O.RowSink.tells g.met.O.RowSink.joined
    (name_told g.O.RowSink.tells c.in_ok-length.length _ (omega arith) first.0) named.0) c.walk_filling.result
    (c.walk_filling.ensures u base p outer way named.0.inside (path_first b f)))

-- ---- a filling

pub walk_filling-definitions-init : goal.walk_filling-definitions-init
walk_filling-definitions-init g t c = λ outer way l h.
    (omega arith, told_nothing g.O.RowSink.tells (g.met.O.RowSink.nothing _) l)

pub walk_filling-returns-in_err-number : goal.walk_filling-returns-in_err-number
walk_filling-returns-in_err-number g t c = λ u base p outer way l h.
    let so = c.definitions.invariant (a_value u base p ∷ outer) way l h in
    walk_to_failed g.O.RowSink.tells _ _ _ _ _ _ _ _ _
    c.from_residual.result c.from_residual.ensures.1
    (fails_then g.O.RowSink.tells g.met.O.RowSink.joined c.args.walk.now.most _ so.1 _
    (c.in_err-number.ensures.walks (types c.args.walk.now.table.now) _ _ any c.args.walk.now.most way so.1.inside
    (takes_type h) any_range))

pub walk_filling-returns-then-sign-eq0 : goal.walk_filling-returns-then-sign-eq0
walk_filling-returns-then-sign-eq0 g t c = λ u base p outer way l h.
    let so = c.definitions.invariant (a_value u base p ∷ outer) way l h in
    let first = c.in_ok-number.ensures.walks (types c.args.walk.now.table.now) _ _ any c.args.walk.now.most way
    so.1.inside (takes_type h) any_range in
    let told = held_told g.O.RowSink.tells (c.in_ok-number.number % 2) (c.in_ok-number.number / 2) c.if-sign-eq0.true
    first.0 in
    walks_to_on g.O.RowSink.tells g.met.O.RowSink.joined _ c.args.walk.now.most _
    (told_then g.O.RowSink.tells g.met.O.RowSink.joined so.1 told) c.walk_held.result
    (c.walk_held.ensures u base p outer way first.0.inside h)

pub walk_filling-returns-in_err-at : goal.walk_filling-returns-in_err-at
walk_filling-returns-in_err-at g t c = λ u base p outer way l h.
    let so = c.definitions.invariant (a_value u base p ∷ outer) way l h in
    let first = c.in_ok-number.ensures.walks (types c.args.walk.now.table.now) _ _ any c.args.walk.now.most way
    so.1.inside (takes_type h) any_range in
    let told = described_told g.O.RowSink.tells (c.in_ok-number.number % 2) (c.in_ok-number.number / 2)
    c.if-sign-eq0.false first.0 in
    walk_to_failed g.O.RowSink.tells _ _ _ _ _ _ _ _ _
    c.from_residual-in_err-at.result c.from_residual-in_err-at.ensures.1
    (fails_then g.O.RowSink.tells g.met.O.RowSink.joined c.args.walk.now.most _
    (told_then g.O.RowSink.tells g.met.O.RowSink.joined so.1 told) _
    (c.in_err-at.ensures (a_value u base p ∷ outer) way first.0.inside h))

pub walk_filling-definitions-preserved : goal.walk_filling-definitions-preserved
walk_filling-definitions-preserved g t c = λ outer way l h.
    let so = c.definitions.invariant outer way l h in
    let first = c.in_ok-number.ensures.walks (types c.args.walk.now.table.now) _ _ any c.args.walk.now.most way
    so.1.inside (takes_type h) any_range in
    let told = described_told g.O.RowSink.tells (c.in_ok-number.number % 2) (c.in_ok-number.number / 2)
    c.if-sign-eq0.false first.0 in
    let one = c.in_ok-at.ensures outer way first.0.inside h in (
      omega (arith, so.0, first.1.0, one.order),
      told_then g.O.RowSink.tells g.met.O.RowSink.joined
          (told_then g.O.RowSink.tells g.met.O.RowSink.joined so.1 told) one,
    )

pub walk_filling-returns : goal.walk_filling-returns
walk_filling-returns g t c = λ u base p outer way l h.
    let so = c.definitions.invariant (a_value u base p ∷ outer) way l h in (
      _,
      way,
      so.1,
      stops_none c.args.walk.now.most rows.awaits_type_number (nothing_there (omega (arith, so.0))),
      of_filling h,
    )

pub walk_definition-returns-in_err-behind : goal.walk_definition-returns-in_err-behind
walk_definition-returns-in_err-behind g t c = λ outer way l h.
    walk_to_failed g.O.RowSink.tells _ _ _ _ _ _ _ _ _
    c.from_residual.result c.from_residual.ensures.1
    (c.in_err-behind.ensures (a_filling c.args.filling.id c.args.filling.depth description ∷ outer) way l
    (of_filling h))

pub walk_definition-returns-in_err-end : goal.walk_definition-returns-in_err-end
walk_definition-returns-in_err-end g t c = λ outer way l h.
    let one = c.in_ok-behind.ensures (a_filling c.args.filling.id c.args.filling.depth description ∷ outer) way l
    (of_filling h) in
    let told = told_end g.O.RowSink.tells one.2 (rows.description_ends one.1.1) in
    walk_to_failed g.O.RowSink.tells _ _ _ _ _ _ _ _ _
    c.from_residual-in_err-end.result c.from_residual-in_err-end.ensures.1
    (fails_then g.O.RowSink.tells g.met.O.RowSink.joined c.args.walk.now.most _ told _
    (c.in_err-end.ensures.walks (types c.args.walk.now.table.now) _ _ any c.args.walk.now.most way told.inside
    (takes_segment h) any_range))

pub walk_definition-returns : goal.walk_definition-returns
walk_definition-returns g t c = λ outer way l h.
    let one = c.in_ok-behind.ensures (a_filling c.args.filling.id c.args.filling.depth description ∷ outer) way l
    (of_filling h) in
    let told = told_end g.O.RowSink.tells one.2 (rows.description_ends one.1.1) in
    told_then g.O.RowSink.tells g.met.O.RowSink.joined told
    (c.in_ok-end.ensures.walks (types c.args.walk.now.table.now) _ _ any c.args.walk.now.most way told.inside
    (takes_segment h) any_range).0

pub walk_held-returns-in_err-begin : goal.walk_held-returns-in_err-begin
walk_held-returns-in_err-begin g t c = λ u base p outer way l h.
    walk_to_failed g.O.RowSink.tells _ _ _ _ _ _ _ _ _
    c.from_residual.result c.from_residual.ensures.1
    (c.in_err-begin.ensures.walks (types c.args.walk.now.table.now) _ _ any c.args.walk.now.most way l (takes_count h)
    any_range)

pub walk_held-returns : goal.walk_held-returns
walk_held-returns g t c = λ u base p outer way l h.
    let first = c.in_ok-begin.ensures.walks (types c.args.walk.now.table.now) _ _ any c.args.walk.now.most way l
    (takes_count h) any_range in
    walks_to_on g.O.RowSink.tells g.met.O.RowSink.joined _ c.args.walk.now.most _ first.0 c.walk_inside.result
    (walks_to_end g.O.RowSink.tells c.args.walk.now.body.now c.in_ok-begin.begin _ c.args.walk.now.most _
    c.walk_inside.result (c.walk_inside.ensures (a_filling c.args.filling.id c.args.filling.depth content ∷
    (a_value u base p ∷ outer)) way first.0.inside (of_filling h)) (λ b q. rows.filling_ends q.1))

pub walk_inside-returns-in_err-enter : goal.walk_inside-returns-in_err-enter
walk_inside-returns-in_err-enter g t c = λ outer way l h.
    walk_failed g.O.RowSink.tells _ _ _ _ _ _ _ _ _ _ _ _
    c.from_residual.result c.from_residual.ensures.1
    (_, c.args.at, _, told_nothing g.O.RowSink.tells (c.in_err-enter.ensures way) l)

pub walk_inside-returns-in_err-end : goal.walk_inside-returns-in_err-end
walk_inside-returns-in_err-end g t c = λ outer way l h.
    walk_failed g.O.RowSink.tells _ _ _ _ _ _ _ _ _ _ _ _
    c.from_residual-in_err-end.result c.from_residual-in_err-end.ensures.1
    (fails_then g.O.RowSink.tells g.met.O.RowSink.joined c.args.walk.now.most _
    (told_nothing g.O.RowSink.tells (c.in_ok-enter.ensures way) l) _
    (c.in_err-end.ensures c.args.filling.depth outer _ refl l (held_at h)))

pub walk_inside-returns : goal.walk_inside-returns
walk_inside-returns g t c = λ outer way l h.
    let one = c.in_ok-end.ensures c.args.filling.depth outer _ refl l (held_at h) in (
      one.0,
      one.1,
      told_then g.O.RowSink.tells g.met.O.RowSink.joined
          (told_then g.O.RowSink.tells g.met.O.RowSink.joined
          (told_nothing g.O.RowSink.tells (c.in_ok-enter.ensures way) l) one.2)
          (told_nothing g.O.RowSink.tells (c.leave.ensures way _) one.2.inside),
    )
