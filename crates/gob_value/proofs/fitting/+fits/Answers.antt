use Rattle.std.proofs.Common.{ℕ, List, ◌+◌, ◌*◌, ◌<◌, max, length, get_or, refl, arith, rules, sym, ap, ◌∙◌, ◌≡◌}
use denote.Param.Weighed.{most, at_most}
use Rattle.gob_value.specs.View.{view, views, pair_views, field_views}
use Rattle.gob_value.specs.Machine.Elements.{element_type_at}
use Rattle.gob_value.specs.Tree.{tree_count}
use Rattle.gob_value.specs.declared.value.Value.{the_lemmas}
use Rattle.gob_value.proofs.TestSteps.{through, never, always, keep, stop, stop_first, stop_second, keep_both, not_true}
use Rattle.gob_value.proofs.FitLaws.{fits_at, fits_leaf, fits_many, fits_no_list, fits_map, fits_struct, fits_none}
use Rattle.gob_value.proofs.FitLaws.{map_fitted, struct_fitted, all_fit_item, all_fit_end, pairs_fit_item}
use Rattle.gob_value.proofs.FitLaws.{pairs_fit_end, field_fits_item, fields_fit_end, field_low, field_past}
use Rattle.gob_value.proofs.ViewLaws.{view-Many, view-Pairs, view-Fields, tree_count-views, pair_count-views}
use Rattle.gob_value.proofs.WithinLaws.{some_depth}
use Rattle.gob_value.proofs.fitting.+fits.Goals as goal

-- the measure of an item is less than that of all
module _ {X : Type 0} (μ : X → ℕ) (xs : List X) (i : ℕ) (x : X) {t : ℕ} (is : x ≡ get_or xs i x) (l : i < length xs)
    (e : 3 * most μ xs + 2 ≡ t) where
  item_next : 3 * μ x + 1 < t
  item_next = let m = at_most μ xs i x l in let same = ap μ is in omega arith

  -- and that of each part of one
  first_next : (a b : ℕ) → μ x ≡ max a b → 3 * a + 1 < t
  first_next a b f = let n = item_next in omega arith

  second_next : (a b : ℕ) → μ x ≡ max a (max b 0) → 3 * b + 1 < t
  second_next a b f = let n = item_next in omega arith

-- and so is that of a value of a kind
kind_next : (a : ℕ) {t : ℕ} → 3 * a + 1 ≡ t → 3 * a + 0 < t
kind_next a e = omega arith

some_limit : {n : ℕ} → ¬ (n ≡ 0) → 0 < n
some_limit n = omega arith

pub all_fit-returns-then-not-fits_type : goal.all_fit-returns-then-not-fits_type
all_fit-returns-then-not-fits_type g t c =
    stop (not_true c.if-not-fits_type.true c.fits_type.ensures)
    (all_fit_item _ c.args.elem c.args.limit c.args.parts.now c.loop-part.part-index c.part-item.result c.part-item.is
    c.loop-part-test.true) c.loop-part.invariant

pub all_fit-loop-part-preserved : goal.all_fit-loop-part-preserved
all_fit-loop-part-preserved g t c =
    keep (c.fits_type.ensures.0 c.if-not-fits_type.false)
    (all_fit_item _ c.args.elem c.args.limit c.args.parts.now c.loop-part.part-index c.part-item.result c.part-item.is
    c.loop-part-test.true) c.loop-part.invariant

pub all_fit-returns : goal.all_fit-returns
all_fit-returns g t c = always (c.loop-part.invariant.0
    (all_fit_end _ c.args.elem c.args.limit c.args.parts.now c.loop-part.part-index c.loop-part-test.false))

pub pairs_fit-returns-then-not-fits_type : goal.pairs_fit-returns-then-not-fits_type
pairs_fit-returns-then-not-fits_type g t c =
    stop_first (not_true c.if-not-fits_type.true c.fits_type.ensures)
    (pairs_fit_item _ c.args.key c.args.elem c.args.limit c.args.parts.now c.loop-k.k-index c.loop-k-item.result
    c.loop-k-item.is c.loop-k-test.true) c.loop-k.invariant

pub pairs_fit-returns-then-not-fits_type-2 : goal.pairs_fit-returns-then-not-fits_type-2
pairs_fit-returns-then-not-fits_type-2 g t c =
    stop_second (not_true c.if-not-fits_type-2.true c.fits_type-in-loop-k.ensures)
    (pairs_fit_item _ c.args.key c.args.elem c.args.limit c.args.parts.now c.loop-k.k-index c.loop-k-item.result
    c.loop-k-item.is c.loop-k-test.true) c.loop-k.invariant

pub pairs_fit-loop-k-preserved : goal.pairs_fit-loop-k-preserved
pairs_fit-loop-k-preserved g t c =
    keep_both (c.fits_type.ensures.0 c.if-not-fits_type.false)
    (c.fits_type-in-loop-k.ensures.0 c.if-not-fits_type-2.false)
    (pairs_fit_item _ c.args.key c.args.elem c.args.limit c.args.parts.now c.loop-k.k-index c.loop-k-item.result
    c.loop-k-item.is c.loop-k-test.true) c.loop-k.invariant

pub pairs_fit-returns : goal.pairs_fit-returns
pairs_fit-returns g t c = always (c.loop-k.invariant.0
    (pairs_fit_end _ c.args.key c.args.elem c.args.limit c.args.parts.now c.loop-k.k-index c.loop-k-test.false))

pub fields_fit-returns-then-number-next : goal.fields_fit-returns-then-number-next
fields_fit-returns-then-number-next g t c =
    never (λ p. field_low _ c.args.types.now c.args.limit c.loop-number.next c.args.parts.now c.loop-number.number-index
    c.loop-number-item.result c.loop-number-item.is c.loop-number-test.true c.if-number-next.true
    (c.loop-number.invariant.1 p))

pub fields_fit-returns-in-None : goal.fields_fit-returns-in-None
fields_fit-returns-in-None g t c =
    never (λ p. field_past _ c.args.types.now c.args.limit c.loop-number.next c.args.parts.now
    c.loop-number.number-index c.loop-number-item.result c.loop-number-item.is c.loop-number-test.true
    (sym c.in-None.ensures.found)
    (c.loop-number.invariant.1 p))

pub fields_fit-returns-then-not-fits_type : goal.fields_fit-returns-then-not-fits_type
fields_fit-returns-then-not-fits_type g t c =
    stop (not_true c.if-not-fits_type.true c.fits_type.ensures)
    (field_fits_item _ c.args.types.now c.args.limit c.loop-number.next c.args.parts.now c.loop-number.number-index
    c.loop-number-item.result c.in-Some.field.now c.loop-number-item.is c.loop-number-test.true (omega arith)
    c.in-Some.ensures.small (sym c.in-Some.ensures.found)) c.loop-number.invariant

pub fields_fit-loop-number-preserved : goal.fields_fit-loop-number-preserved
fields_fit-loop-number-preserved g t c =
    keep (c.fits_type.ensures.0 c.if-not-fits_type.false)
    (field_fits_item _ c.args.types.now c.args.limit c.loop-number.next c.args.parts.now c.loop-number.number-index
    c.loop-number-item.result c.in-Some.field.now c.loop-number-item.is c.loop-number-test.true (omega arith)
    c.in-Some.ensures.small (sym c.in-Some.ensures.found)) c.loop-number.invariant

pub fields_fit-returns : goal.fields_fit-returns
fields_fit-returns g t c = always (c.loop-number.invariant.0
    (fields_fit_end _ c.args.types.now c.args.limit c.loop-number.next c.args.parts.now c.loop-number.number-index
    c.loop-number-test.false))

pub fits_type-returns-in-Some : goal.fits_type-returns-in-Some
fits_type-returns-in-Some g t c = through c.fits_kind.ensures
    (fits_at _ c.args.id c.in-Some.shape.now c.args.limit _ (sym c.in-Some.ensures))

pub fits_kind-returns-in-Some : goal.fits_kind-returns-in-Some
fits_kind-returns-in-Some g t c =
    let vs = c.in-Many.parts in
    let n : tree_count (views vs.items) ≡ c.len.result = tree_count-views vs.items ∙ sym (c.len.ensures ∙ vs.ok.0) in
    rw (c.in-Many.is, view-Many vs) (through (rw c.deref.ensures.value at c.all_fit.ensures)
    (fits_many _ c.args.kind.now (views vs.items) c.in-Some.elem c.args.limit
    (ap (element_type_at c.args.kind.now) n ∙ sym c.in-Some.ensures)
    (omega (arith, n, c.len.ensures, vs.ok.0, vs.small)) (some_limit c.if-limit-eq0.false)))

pub fits_kind-returns-in-None : goal.fits_kind-returns-in-None
fits_kind-returns-in-None g t c =
    let vs = c.in-Many.parts in
    let n : tree_count (views vs.items) ≡ c.len.result = tree_count-views vs.items ∙ sym (c.len.ensures ∙ vs.ok.0) in
    rw (c.in-Many.is, view-Many vs) (never (fits_no_list _ c.args.kind.now (views vs.items) c.args.limit
    (ap (element_type_at c.args.kind.now) n ∙ sym c.in-None.ensures)))

pub fits_kind-returns-in-Map : goal.fits_kind-returns-in-Map
fits_kind-returns-in-Map g t c =
    let ps = c.in-Pairs.parts in
    rw (c.in-Map.is, c.in-Pairs.is, view-Pairs ps) (through (rw c.deref-in-Map.ensures.value at c.pairs_fit.ensures)
    (fits_map _ c.in-Map.key c.in-Map.elem (pair_views ps.items) c.args.limit
    (omega (arith, pair_count-views ps.items, ps.ok.0, ps.small)) (some_limit c.if-limit-eq0.false)))

pub fits_kind-returns-in-Struct : goal.fits_kind-returns-in-Struct
fits_kind-returns-in-Struct g t c =
    let fs = c.in-Fields.parts in
    rw (c.in-Struct.is, c.in-Fields.is, view-Fields fs)
    (through (rw c.deref-in-Struct.ensures.value at c.fields_fit.ensures)
    (fits_struct _ c.in-Struct.fields (field_views fs.items) c.args.limit (some_limit c.if-limit-eq0.false)))

pub fits_kind-returns-in_default : goal.fits_kind-returns-in_default
fits_kind-returns-in_default g t c =
    through c.fits_leaf.ensures (fits_leaf _ c.args.kind.now c.args.limit (view c.args.value.now)
    (search (rules, the_lemmas)) (some_limit c.if-limit-eq0.false))

pub fits_type-returns-in-None : goal.fits_type-returns-in-None
fits_type-returns-in-None g t c = never (fits_none _ c.args.id c.args.limit (view c.args.value.now)
    (sym c.in-None.ensures))

pub fits_kind-returns-then-limit-eq0 : goal.fits_kind-returns-then-limit-eq0
fits_kind-returns-then-limit-eq0 g t c = never (λ f. let d = f.within in let some = some_depth (view c.args.value.now)
    in omega arith)

pub fits_kind-returns-in_default-kind : goal.fits_kind-returns-in_default-kind
fits_kind-returns-in_default-kind g t c =
    let ps = c.in-Pairs.parts in
    rw (c.in-Pairs.is, view-Pairs ps) (never (λ f. let m = map_fitted f in c.in_default-kind.not-Map m.key m.elem m.is))

pub fits_kind-returns-in_default-kind-2 : goal.fits_kind-returns-in_default-kind-2
fits_kind-returns-in_default-kind-2 g t c =
    let fs = c.in-Fields.parts in
    rw (c.in-Fields.is, view-Fields fs) (never (λ f. let m = struct_fitted f in c.in_default-kind-2.not-Struct m.types
    m.is))

pub fits_kind-fits_leaf-requires : goal.fits_kind-fits_leaf-requires
fits_kind-fits_leaf-requires g t c = search (rules, the_lemmas)

pub all_fit-loop-part-init : goal.all_fit-loop-part-init
all_fit-loop-part-init g t c = (λ p. p, λ p. p)

pub pairs_fit-loop-k-init : goal.pairs_fit-loop-k-init
pairs_fit-loop-k-init g t c = (λ p. p, λ p. p)

pub fields_fit-loop-number-init : goal.fields_fit-loop-number-init
fields_fit-loop-number-init g t c = (λ p. p, λ p. p)

pub all_fit-fits_type-requires : goal.all_fit-fits_type-requires
all_fit-fits_type-requires g t c κs within =
    (item_next _ _ _ _ c.part-item.is c.loop-part-test.true c.decreases, (within, c.requires))

pub pairs_fit-fits_type-requires : goal.pairs_fit-fits_type-requires
pairs_fit-fits_type-requires g t c κs within =
    (first_next _ _ _ _ c.loop-k-item.is c.loop-k-test.true c.decreases _ _ refl, (within, c.requires))

pub pairs_fit-fits_type-requires-in-loop-k : goal.pairs_fit-fits_type-requires-in-loop-k
pairs_fit-fits_type-requires-in-loop-k g t c κs within =
    (second_next _ _ _ _ c.loop-k-item.is c.loop-k-test.true c.decreases _ _ refl, (within, c.requires))

pub fields_fit-fits_type-requires : goal.fields_fit-fits_type-requires
fields_fit-fits_type-requires g t c κs within =
    (second_next _ _ _ _ c.loop-number-item.is c.loop-number-test.true c.decreases _ _ refl, (within, c.requires))

pub fits_type-fits_kind-requires : goal.fits_type-fits_kind-requires
fits_type-fits_kind-requires g t c κs within =
    (kind_next _ c.decreases, (within, c.requires))
