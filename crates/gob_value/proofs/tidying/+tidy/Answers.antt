use Rattle.std.proofs.Common.{◌≡◌, ◌+◌, ◌*◌, ◌<◌, ◌∷◌, max, Vec, Global, Option, Some, None, ◌≤◌, ℕ, List, length}
use Rattle.std.proofs.Common.{arith, rules, sym, ap, ◌∙◌, subst}
use Rattle.std.proofs.lemmas.Bool.{false≢true}
use Rattle.std.proofs.lemmas.Result.{IfOk-from_err}
use Rattle.gob_types.specs.declared.kind.Kind.TheVariants as kind
use Rattle.gob_value.specs.Tree.{Tree, depth, trees_depth, pairs_depth, fields_depth}
use Rattle.gob_value.specs.View.{view, views, pair_views, field_views}
use Rattle.gob_value.specs.Tidy.{of_map, of_struct, no_element, no_entry, no_more}
use Rattle.gob_value.specs.Tidy.{TidiesAs, TidiesEach, TidiesPairs, TidiesFields, HasTidyForm}
use Rattle.gob_value.specs.declared.value.Value.{Value, the_lemmas}
use Rattle.gob_value.specs.declared.value.Value.TheVariants as value
use Rattle.gob_value.specs.Machine.Tidied.{IsTidied}
use Rattle.gob_value.specs.TidyLaws.{AllHaveSmallNumbers, PairsHaveSmallNumbers, FieldsHaveSmallNumbers}
use Rattle.gob_value.proofs.TidySteps.{goes_starts, goes_end, each_left, each_on, pairs_left, pairs_on, field_left}
use Rattle.gob_value.proofs.TidySteps.{field_shallow, field_form, field_dropped, field_kept, many_of_parts}
use Rattle.gob_value.proofs.TidySteps.{parts_of_many, parts_of_pairs, parts_of_fields, form_at, formless, plain_stays}
use Rattle.gob_value.proofs.TidySteps.{nowhere, typed, IsNoList, IsNoMap, IsNoStruct, has_list, has_map, has_struct}
use Rattle.gob_value.proofs.ViewLaws.{view-Many, view-Pairs, view-Fields}
use Rattle.gob_value.proofs.tidying.+tidy.Goals as goal

-- the measures of what is called are less
type_next : {a b t : ℕ} → a ≤ b → 3 * b + 2 ≡ t → 3 * a + 1 < t
type_next l e = omega arith

kind_next : (a n : ℕ) {b d t : ℕ} → max a n ≤ b → b ≡ d → 3 * d + 2 ≡ t → 3 * a < t
kind_next a n l same e = omega arith

parts_next : (a : ℕ) {d t : ℕ} → d ≡ a + 1 → 3 * d ≡ t → 3 * a + 2 < t
parts_next a deep e = omega arith

shape_next : (a : ℕ) {t : ℕ} → 3 * a + 1 ≡ t → 3 * a < t
shape_next a e = omega arith

-- what is left behind the next value
one_gone : {A : Type 0} {x : A} {xs ys : List A} {n m : ℕ} → n ≡ length xs → xs ≡ x ∷ ys → m + 1 ≡ n → m ≡ length ys
one_gone was is gone = let short = ap length is in omega arith

one_less : {n m : ℕ} → m + 1 ≡ n → m < n
one_less e = omega arith

-- what is there is something
nothing_there : {A : Type 0} {o : Option A} {x : A} → o ≡ Some x → ¬ (o ≡ None)
nothing_there p q = cc

-- a value without such parts
no_list : (v : Value) → ((vs : Vec Value Global) → ¬ (v ≡ value.Many vs)) → IsNoList (view v)
no_list v n = search (rules, the_lemmas)

no_map : (v : Value) → ((ps : Vec (Value × Value) Global) → ¬ (v ≡ value.Pairs ps)) → IsNoMap (view v)
no_map v n = search (rules, the_lemmas)

no_struct : (v : Value) → ((fs : Vec (ℕ × Value) Global) → ¬ (v ≡ value.Fields fs)) → IsNoStruct (view v)
no_struct v n = search (rules, the_lemmas)

-- ---- elements

pub tidy_each-loop-part-init : goal.tidy_each-loop-part-init
tidy_each-loop-part-init g t c = (
  goes_starts c.new-tidied.ensures.items (subst
      (λ (l : List Value). HasTidyForm (TidiesEach (g.S.Shapes.table c.args.shapes.now) c.args.elem (views l)))
      (sym c.into_iter-part-iterator.ensures.into_iter_gives.0) c.requires),
  omega arith,
)

pub tidy_each-returns-in_err-tidy_type : goal.tidy_each-returns-in_err-tidy_type
tidy_each-returns-in_err-tidy_type g t c = IfOk-from_err c.from_residual.result _ c.from_residual.ensures.0

pub tidy_each-returns-in_err-push : goal.tidy_each-returns-in_err-push
tidy_each-returns-in_err-push g t c = IfOk-from_err c.from_residual-in_err-push.result _
    c.from_residual-in_err-push.ensures.0

pub tidy_each-tidy_type-requires : goal.tidy_each-tidy_type-requires
tidy_each-tidy_type-requires g t c κs within =
    let l = each_left c.loop-part.invariant.0 c.in-Some.ensures.steps.0 in
    let d = subst (λ (l : List Value). depth (view c.in-Some.part) ≤ trees_depth (views l))
    c.into_iter-part-iterator.ensures.into_iter_gives.0 l.shallow in
    (type_next d c.decreases, (within, l.form))

pub tidy_each-loop-part-preserved : goal.tidy_each-loop-part-preserved
tidy_each-loop-part-preserved g t c =
    let s = c.in-Some.ensures.steps in (
      each_on c.in_ok-tidy_type.field-0 c.loop-part.invariant.0 s.0 c.in_ok-tidy_type.ensures
          c.in_ok-push.ensures.items,
      one_gone c.loop-part.invariant.1 s.0 s.1,
    )

pub tidy_each-returns : goal.tidy_each-returns
tidy_each-returns g t c =
    let none = c.in-None.ensures.steps in
    subst (λ (l : List Value). IsTidied (TidiesEach (g.S.Shapes.table c.args.shapes.now) c.args.elem)
    AllHaveSmallNumbers (views l)
    (views c.loop-part.tidied.items)) c.into_iter-part-iterator.ensures.into_iter_gives.0
    (goes_end c.loop-part.invariant.0 (sym c.loop-part.invariant.1 ∙ none.0)
    (record { tidies = no_element; small = tt }))

-- ---- keys and elements

pub tidy_pairs-loop-k-init : goal.tidy_pairs-loop-k-init
tidy_pairs-loop-k-init g t c = (
  goes_starts c.new-tidied.ensures.items (subst
      (λ (l : List (Value × Value)). HasTidyForm (TidiesPairs (g.S.Shapes.table c.args.shapes.now) c.args.key
      c.args.elem (pair_views l))) (sym c.into_iter-k-iterator.ensures.into_iter_gives.0) c.requires),
  omega arith,
)

pub tidy_pairs-returns-in_err-k : goal.tidy_pairs-returns-in_err-k
tidy_pairs-returns-in_err-k g t c = IfOk-from_err c.from_residual.result _ c.from_residual.ensures.0

pub tidy_pairs-returns-in_err-e : goal.tidy_pairs-returns-in_err-e
tidy_pairs-returns-in_err-e g t c = IfOk-from_err c.from_residual-in_err-e.result _ c.from_residual-in_err-e.ensures.0

pub tidy_pairs-returns-in_err-push : goal.tidy_pairs-returns-in_err-push
tidy_pairs-returns-in_err-push g t c = IfOk-from_err c.from_residual-in_err-push.result _
    c.from_residual-in_err-push.ensures.0

pub tidy_pairs-tidy_type-requires : goal.tidy_pairs-tidy_type-requires
tidy_pairs-tidy_type-requires g t c κs within =
    let l = pairs_left c.loop-k.invariant.0 c.in-Some.ensures.steps.0 in
    let d = subst (λ (l : List (Value × Value)). depth (view c.in-Some.k) ≤ pairs_depth (pair_views l))
    c.into_iter-k-iterator.ensures.into_iter_gives.0 l.key_shallow in
    (type_next d c.decreases, (within, l.key))

pub tidy_pairs-tidy_type-requires-in-loop-k : goal.tidy_pairs-tidy_type-requires-in-loop-k
tidy_pairs-tidy_type-requires-in-loop-k g t c κs within =
    let l = pairs_left c.loop-k.invariant.0 c.in-Some.ensures.steps.0 in
    let d = subst (λ (l : List (Value × Value)). depth (view c.in-Some.e) ≤ pairs_depth (pair_views l))
    c.into_iter-k-iterator.ensures.into_iter_gives.0 l.shallow in
    (type_next d c.decreases, (within, l.form))

pub tidy_pairs-loop-k-preserved : goal.tidy_pairs-loop-k-preserved
tidy_pairs-loop-k-preserved g t c =
    let s = c.in-Some.ensures.steps in (
      pairs_on (c.in_ok-k.k, c.in_ok-e.e) c.loop-k.invariant.0 s.0 c.in_ok-k.ensures c.in_ok-e.ensures
          c.in_ok-push.ensures.items,
      one_gone c.loop-k.invariant.1 s.0 s.1,
    )

pub tidy_pairs-returns : goal.tidy_pairs-returns
tidy_pairs-returns g t c =
    let none = c.in-None.ensures.steps in
    subst (λ (l : List (Value × Value)). IsTidied (TidiesPairs (g.S.Shapes.table c.args.shapes.now) c.args.key
    c.args.elem) PairsHaveSmallNumbers
    (pair_views l) (pair_views c.loop-k.tidied.items)) c.into_iter-k-iterator.ensures.into_iter_gives.0
    (goes_end c.loop-k.invariant.0 (sym c.loop-k.invariant.1 ∙ none.0) (record { tidies = no_entry; small = tt }))

-- ---- fields

pub tidy_fields-loop-number-init : goal.tidy_fields-loop-number-init
tidy_fields-loop-number-init g t c = (
  goes_starts c.new-tidied.ensures.items (subst
      (λ (l : List (ℕ × Value)). HasTidyForm (TidiesFields (g.S.Shapes.table c.args.shapes.now) c.args.types.now
      (field_views l)))
      (sym c.into_iter-number-iterator.ensures.into_iter_gives.0) c.requires),
  omega arith,
)

pub tidy_fields-returns-in_err-tidy_kind : goal.tidy_fields-returns-in_err-tidy_kind
tidy_fields-returns-in_err-tidy_kind g t c = IfOk-from_err c.from_residual.result _ c.from_residual.ensures.0

pub tidy_fields-returns-in_err-push : goal.tidy_fields-returns-in_err-push
tidy_fields-returns-in_err-push g t c = IfOk-from_err c.from_residual-in_err-push.result _
    c.from_residual-in_err-push.ensures.0

pub tidy_fields-unreachable-requires : goal.tidy_fields-unreachable-requires
tidy_fields-unreachable-requires g t c =
    let l = field_left c.loop-number.invariant.0 c.in-Some.ensures.steps.0 in
    nothing_there l.there (sym c.in_default.ensures.found)

pub tidy_fields-unreachable-requires-in_default-shape_of : goal.tidy_fields-unreachable-requires-in_default-shape_of
tidy_fields-unreachable-requires-in_default-shape_of g t c =
    let l = field_left c.loop-number.invariant.0 c.in-Some.ensures.steps.0 in
    nowhere (g.S.Shapes.table c.args.shapes.now) c.args.types.now c.in-Some.number l.there
    (sym c.in-Some-get.ensures.found) l.defined (sym c.in_default-shape_of.ensures)

pub tidy_fields-tidy_kind-requires : goal.tidy_fields-tidy_kind-requires
tidy_fields-tidy_kind-requires g t c κs within =
    let l = field_left c.loop-number.invariant.0 c.in-Some.ensures.steps.0 in
    let s = field_shallow c.loop-number.invariant.0 c.in-Some.ensures.steps.0 in
    let e = ap (λ (l : List (ℕ × Value)). fields_depth (field_views l))
    c.into_iter-number-iterator.ensures.into_iter_gives.0 in (
      kind_next _ _ s e c.decreases,
      (
        within,
        field_form l (sym c.in-Some-get.ensures.found) (sym c.in-Some-shape_of.ensures)
            (λ d. false≢true (sym c.if-is_dropped.false ∙ c.is_dropped.ensures.1 d)),
      ),
    )

pub tidy_fields-loop-number-preserved-then-is_dropped : goal.tidy_fields-loop-number-preserved-then-is_dropped
tidy_fields-loop-number-preserved-then-is_dropped g t c =
    let s = c.in-Some.ensures.steps in (
      field_dropped c.loop-number.invariant.0 s.0 (sym c.in-Some-get.ensures.found) (sym c.in-Some-shape_of.ensures)
          (c.is_dropped.ensures.0 c.if-is_dropped.true) c.in-Some-get.ensures.small,
      one_gone c.loop-number.invariant.1 s.0 s.1,
    )

pub tidy_fields-loop-number-preserved : goal.tidy_fields-loop-number-preserved
tidy_fields-loop-number-preserved g t c =
    let s = c.in-Some.ensures.steps in (
      field_kept c.in_ok-tidy_kind.field-0 c.loop-number.invariant.0 s.0 (sym c.in-Some-get.ensures.found)
          (sym c.in-Some-shape_of.ensures)
          (λ d. false≢true (sym c.if-is_dropped.false ∙ c.is_dropped.ensures.1 d)) c.in_ok-tidy_kind.ensures
          c.in-Some-get.ensures.small c.in_ok-push.ensures.items,
      one_gone c.loop-number.invariant.1 s.0 s.1,
    )

pub tidy_fields-returns : goal.tidy_fields-returns
tidy_fields-returns g t c =
    let none = c.in-None.ensures.steps in
    subst (λ (l : List (ℕ × Value)). IsTidied (TidiesFields (g.S.Shapes.table c.args.shapes.now) c.args.types.now)
    FieldsHaveSmallNumbers (field_views l)
    (field_views c.loop-number.tidied.items)) c.into_iter-number-iterator.ensures.into_iter_gives.0
    (goes_end c.loop-number.invariant.0 (sym c.loop-number.invariant.1 ∙ none.0)
    (record { tidies = no_more; small = tt }))

-- ---- values

pub tidy_kind-tidy_each-requires : goal.tidy_kind-tidy_each-requires
tidy_kind-tidy_each-requires g t c κs within =
    let is : view c.args.value ≡ Tree.many (views c.in-Many.parts.items) = ap view c.in-Many.is
    ∙ view-Many c.in-Many.parts in
    let deep = ap depth is in (
      parts_next _ deep c.decreases,
      (
        within,
        parts_of_many c.in-Slice.is
            (subst (λ (v : Tree). HasTidyForm (TidiesAs (g.S.Shapes.table c.args.shapes.now) c.args.kind.now v)) is
            c.requires),
      ),
    )

pub tidy_kind-tidy_pairs-requires : goal.tidy_kind-tidy_pairs-requires
tidy_kind-tidy_pairs-requires g t c κs within =
    let is : view c.args.value ≡ Tree.pairs (pair_views c.in-Pairs.parts.items) = ap view c.in-Pairs.is
    ∙ view-Pairs c.in-Pairs.parts in
    let deep = ap depth is in
    let form = subst (λ k. HasTidyForm (TidiesAs (g.S.Shapes.table c.args.shapes.now) k (view c.args.value)))
    c.in-Map.is
    c.requires in (
      parts_next _ deep c.decreases,
      (
        within,
        parts_of_pairs (subst
            (λ (v : Tree). HasTidyForm (TidiesAs (g.S.Shapes.table c.args.shapes.now)
            (kind.Map c.in-Map.key c.in-Map.elem) v)) is form),
      ),
    )

pub tidy_kind-tidy_fields-requires : goal.tidy_kind-tidy_fields-requires
tidy_kind-tidy_fields-requires g t c κs within =
    let is : view c.args.value ≡ Tree.fields (field_views c.in-Fields.parts.items) = ap view c.in-Fields.is
    ∙ view-Fields c.in-Fields.parts in
    let deep = ap depth is in
    let form = subst (λ k. HasTidyForm (TidiesAs (g.S.Shapes.table c.args.shapes.now) k (view c.args.value)))
    c.in-Struct.is
    c.requires in (
      parts_next _ deep c.decreases,
      (
        within,
        parts_of_fields (subst
            (λ (v : Tree). HasTidyForm (TidiesAs (g.S.Shapes.table c.args.shapes.now) (kind.Struct c.in-Struct.fields)
            v)) is
            form),
      ),
    )

pub tidy_type-tidy_kind-requires : goal.tidy_type-tidy_kind-requires
tidy_type-tidy_kind-requires g t c κs within =
    (shape_next _ c.decreases, (within, form_at c.requires (sym c.in-Some.ensures)))

pub tidy_type-unreachable-requires : goal.tidy_type-unreachable-requires
tidy_type-unreachable-requires g t c = formless c.requires (sym c.in-None.ensures)

pub tidy_kind-returns-in_err-tidy_each-in-Many : goal.tidy_kind-returns-in_err-tidy_each-in-Many
tidy_kind-returns-in_err-tidy_each-in-Many g t c = IfOk-from_err c.from_residual-in_err-tidy_each-in-Many.result _
    c.from_residual-in_err-tidy_each-in-Many.ensures.0

pub tidy_kind-returns-in_err-tidy_pairs-in-Pairs : goal.tidy_kind-returns-in_err-tidy_pairs-in-Pairs
tidy_kind-returns-in_err-tidy_pairs-in-Pairs g t c = IfOk-from_err c.from_residual.result _ c.from_residual.ensures.0

pub tidy_kind-returns-in_err-tidy_fields-in-Fields : goal.tidy_kind-returns-in_err-tidy_fields-in-Fields
tidy_kind-returns-in_err-tidy_fields-in-Fields g t c = IfOk-from_err c.from_residual-in_err-tidy_fields-in-Fields.result
    _ c.from_residual-in_err-tidy_fields-in-Fields.ensures.0

pub tidy_kind-unreachable-requires : goal.tidy_kind-unreachable-requires
tidy_kind-unreachable-requires g t c =
    has_map (subst (λ k. HasTidyForm (TidiesAs (g.S.Shapes.table c.args.shapes.now) k (view c.args.value))) c.in-Map.is
    c.requires) (no_map _ c.in_default.not-Pairs)

pub tidy_kind-unreachable-requires-in_default-value : goal.tidy_kind-unreachable-requires-in_default-value
tidy_kind-unreachable-requires-in_default-value g t c =
    has_struct (subst (λ k. HasTidyForm (TidiesAs (g.S.Shapes.table c.args.shapes.now) k (view c.args.value)))
    c.in-Struct.is
    c.requires) (no_struct _ c.in_default-value.not-Fields)

pub tidy_kind-unreachable-requires-in_default-value-2 : goal.tidy_kind-unreachable-requires-in_default-value-2
tidy_kind-unreachable-requires-in_default-value-2 g t c =
    has_list c.in-Slice.is c.requires (no_list _ c.in_default-value-2.not-Many)

pub tidy_kind-returns-in_ok-tidy_each-in-Many : goal.tidy_kind-returns-in_ok-tidy_each-in-Many
tidy_kind-returns-in_ok-tidy_each-in-Many g t c =
    let vs = c.in-Many.parts in let ws = c.in_ok-tidy_each-in-Many.field-0 in
    rw (c.in-Many.is, view-Many vs, view-Many ws) (many_of_parts c.in-Slice.is c.in_ok-tidy_each-in-Many.ensures)

pub tidy_kind-returns-in_ok-tidy_pairs-in-Pairs : goal.tidy_kind-returns-in_ok-tidy_pairs-in-Pairs
tidy_kind-returns-in_ok-tidy_pairs-in-Pairs g t c =
    let ps = c.in-Pairs.parts in let qs = c.in_ok-tidy_pairs-in-Pairs.field-0 in
    rw (c.in-Map.is, c.in-Pairs.is, view-Pairs ps, view-Pairs qs)
    (let p = c.in_ok-tidy_pairs-in-Pairs.ensures in record { tidies = of_map p.tidies; small = p.small })

pub tidy_kind-returns-in_ok-tidy_fields-in-Fields : goal.tidy_kind-returns-in_ok-tidy_fields-in-Fields
tidy_kind-returns-in_ok-tidy_fields-in-Fields g t c =
    let fs = c.in-Fields.parts in let gs = c.in_ok-tidy_fields-in-Fields.field-0 in
    rw (c.in-Struct.is, c.in-Fields.is, view-Fields fs, view-Fields gs)
    (let p = c.in_ok-tidy_fields-in-Fields.ensures in record { tidies = of_struct p.tidies; small = p.small })

pub tidy_type-returns : goal.tidy_type-returns
tidy_type-returns g t c = typed (g.S.Shapes.table c.args.shapes.now) c.args.id c.args.value (sym c.in-Some.ensures)
    c.tidy_kind.result c.tidy_kind.ensures

pub tidy_kind-returns-in-Basic : goal.tidy_kind-returns-in-Basic
tidy_kind-returns-in-Basic g t c = plain_stays c.in-Basic.is c.requires

pub tidy_each-loop-part-smaller : goal.tidy_each-loop-part-smaller
tidy_each-loop-part-smaller g t c = one_less c.in-Some.ensures.steps.1

pub tidy_pairs-loop-k-smaller : goal.tidy_pairs-loop-k-smaller
tidy_pairs-loop-k-smaller g t c = one_less c.in-Some.ensures.steps.1

pub tidy_fields-loop-number-smaller : goal.tidy_fields-loop-number-smaller
tidy_fields-loop-number-smaller g t c = one_less c.in-Some.ensures.steps.1

pub tidy_fields-loop-number-smaller-then-is_dropped : goal.tidy_fields-loop-number-smaller-then-is_dropped
tidy_fields-loop-number-smaller-then-is_dropped g t c = one_less c.in-Some.ensures.steps.1
