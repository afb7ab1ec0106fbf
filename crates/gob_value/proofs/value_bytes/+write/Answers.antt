use Rattle.std.proofs.Common.{ℕ, List, ◌<◌, ◌*◌, max, length, get_or, refl, arith, rules, sym, ap, ◌∙◌, subst, ◌≡◌}
use Rattle.std.proofs.Common.{◌+◌, drop}
use denote.Param.Weighed.{most, at_most}
use Rattle.std.proofs.lemmas.Result.{on_ok_weaker, on_err_weaker}
use Rattle.gob_num.specs.Unsigned.{IsUnsigned}
use Rattle.gob_value.specs.View.{view, views, pair_views, field_views}
use Rattle.gob_value.specs.Tree.{tree_count, pair_count, depth, pairs_depth, fields_depth}
use Rattle.gob_value.specs.Written.{Written, of_many, of_pairs, of_fields, WrittenPairs, WrittenFields, next_number}
use Rattle.gob_value.specs.declared.value.Value.{the_lemmas}
use Rattle.gob_value.specs.Within.{IsSpelledWithin}
use Rattle.gob_value.proofs.AppendedLaws.{keeps_all, keeps, keeps_then, keeps_same, then, then_as, Goes, goes_more}
use Rattle.gob_value.proofs.AppendedLaws.{goes_last, goes_ends, Behind, behind, on_err_any, on_ok_failed}
use Rattle.gob_value.proofs.WrittenSteps.{many_writable, pairs_writable, fields_writable, each_left, each_from}
use Rattle.gob_value.proofs.WrittenSteps.{each_end, pairs_left, pairs_from, pairs_end, field_left, field_from}
use Rattle.gob_value.proofs.WrittenSteps.{fields_end}
use Rattle.gob_value.proofs.ViewLaws.{view-Many, view-Pairs, view-Fields, tree_count-views, pair_count-views}
use Rattle.gob_value.proofs.value_bytes.+write.Goals as goal

-- the measure of an item is less than that of all
module _ {X : Type 0} (μ : X → ℕ) (xs : List X) (i : ℕ) (x : X) {t : ℕ} (is : x ≡ get_or xs i x) (l : i < length xs)
    (e : 2 * most μ xs + 1 ≡ t) where
  item_next : 2 * μ x + 0 < t
  item_next = let m = at_most μ xs i x l in let same = ap μ is in omega arith

  -- and that of each part of one
  first_next : (a b : ℕ) → μ x ≡ max a b → 2 * a + 0 < t
  first_next a b f = let n = item_next in omega arith

  second_next : (a b : ℕ) → μ x ≡ max a (max b 0) → 2 * b + 0 < t
  second_next a b f = let n = item_next in omega arith

-- ---- elements

pub write_each-returns-in_err-write_value-clause-ok : goal.write_each-returns-in_err-write_value-clause-ok
write_each-returns-in_err-write_value-clause-ok t c = on_ok_failed _ c.from_residual.result c.from_residual.ensures.0

pub write_each-write_value-requires : goal.write_each-write_value-requires
write_each-write_value-requires t c = (
  item_next _ _ _ _ c.part-item.is c.loop-part-test.true c.decreases,
  (each_left c.args.parts.now c.loop-part.part-index c.part-item.result c.part-item.is
      c.loop-part-test.true c.loop-part.invariant.left).0,
)

pub write_each-returns-in_err-write_value-clause-err : goal.write_each-returns-in_err-write_value-clause-err
write_each-returns-in_err-write_value-clause-err t c = on_err_any c.from_residual.result
    (keeps_then c.loop-part.invariant.kept c.in_err-write_value.ensures.err)

pub write_each-loop-part-preserved : goal.write_each-loop-part-preserved
write_each-loop-part-preserved t c =
    let vs = c.args.parts.now in
    let i = c.loop-part.part-index in
    goes_more c.loop-part.invariant c.in_ok-write_value.ensures.ok
    (each_from vs i c.part-item.result c.part-item.is c.loop-part-test.true)
    (each_left vs i c.part-item.result c.part-item.is c.loop-part-test.true c.loop-part.invariant.left).1

pub write_each-returns-clause-ok : goal.write_each-returns-clause-ok
write_each-returns-clause-ok t c = goes_last c.loop-part.invariant
    (each_end c.args.parts.now c.loop-part.part-index c.loop-part-test.false)

-- ---- keys and elements

pub write_pairs-returns-in_err-write_value-clause-ok : goal.write_pairs-returns-in_err-write_value-clause-ok
write_pairs-returns-in_err-write_value-clause-ok t c = on_ok_failed _ c.from_residual.result c.from_residual.ensures.0

pub write_pairs-returns-in_err-write_value-2-clause-ok : goal.write_pairs-returns-in_err-write_value-2-clause-ok
write_pairs-returns-in_err-write_value-2-clause-ok t c = on_ok_failed _ c.from_residual-in_err-write_value-2.result
    c.from_residual-in_err-write_value-2.ensures.0

pub write_pairs-write_value-requires : goal.write_pairs-write_value-requires
write_pairs-write_value-requires t c = (
  first_next _ _ _ _ c.loop-key-item.is c.loop-key-test.true c.decreases _ _ refl,
  (pairs_left c.args.parts.now c.loop-key.key-index c.loop-key-item.result
      c.loop-key-item.is c.loop-key-test.true c.loop-key.invariant.left).0,
)

pub write_pairs-returns-in_err-write_value-clause-err : goal.write_pairs-returns-in_err-write_value-clause-err
write_pairs-returns-in_err-write_value-clause-err t c = on_err_any c.from_residual.result
    (keeps_then c.loop-key.invariant.kept c.in_err-write_value.ensures.err)

pub write_pairs-write_value-requires-in-loop-key : goal.write_pairs-write_value-requires-in-loop-key
write_pairs-write_value-requires-in-loop-key t c = (
  second_next _ _ _ _ c.loop-key-item.is c.loop-key-test.true c.decreases _ _ refl,
  (pairs_left c.args.parts.now c.loop-key.key-index c.loop-key-item.result
      c.loop-key-item.is c.loop-key-test.true c.loop-key.invariant.left).1,
)

pub write_pairs-loop-key-preserved : goal.write_pairs-loop-key-preserved
write_pairs-loop-key-preserved t c =
    let ps = c.args.parts.now in
    let i = c.loop-key.key-index in
    let p = c.loop-key-item.result in
    let rest = (pairs_left ps i p c.loop-key-item.is c.loop-key-test.true c.loop-key.invariant.left).2 in
    let first : Goes (WrittenPairs (pair_views ps))
    (Behind (Written (view p.1)) (WrittenPairs (pair_views (drop (i + 1) ps))))
    (IsSpelledWithin WrittenPairs pairs_depth 1000 (pair_views (drop (i + 1) ps))) c.args.out.now.items
    c.write_value.new.out.items =
    goes_more c.loop-key.invariant c.in_ok-write_value.ensures.ok
    (pairs_from ps i p c.loop-key-item.is c.loop-key-test.true)
    rest in
    goes_more first c.in_ok-write_value-2.ensures.ok behind rest

pub write_pairs-returns-in_err-write_value-2-clause-err : goal.write_pairs-returns-in_err-write_value-2-clause-err
write_pairs-returns-in_err-write_value-2-clause-err t c =
    on_err_any c.from_residual-in_err-write_value-2.result
    (keeps_then (keeps_then c.loop-key.invariant.kept (keeps c.in_ok-write_value.ensures.ok))
    c.in_err-write_value-2.ensures.err)

pub write_pairs-returns-clause-ok : goal.write_pairs-returns-clause-ok
write_pairs-returns-clause-ok t c = goes_last c.loop-key.invariant
    (pairs_end c.args.parts.now c.loop-key.key-index c.loop-key-test.false)

-- ---- fields

pub write_fields-returns-in_err-write_uint-clause-ok : goal.write_fields-returns-in_err-write_uint-clause-ok
write_fields-returns-in_err-write_uint-clause-ok t c = on_ok_failed _ c.from_residual.result c.from_residual.ensures.0

pub write_fields-returns-in_err-write_value-clause-ok : goal.write_fields-returns-in_err-write_value-clause-ok
write_fields-returns-in_err-write_value-clause-ok t c = on_ok_failed _ c.from_residual-in_err-write_value.result
    c.from_residual-in_err-write_value.ensures.0

pub write_fields-returns-in_err-write_uint-clause-err : goal.write_fields-returns-in_err-write_uint-clause-err
write_fields-returns-in_err-write_uint-clause-err t c = on_err_any c.from_residual.result
    (keeps_same c.in_err-write_uint.ensures.err c.loop-number.invariant.kept)

pub write_fields-returns-clause-err : goal.write_fields-returns-clause-err
write_fields-returns-clause-err t c = on_err_weaker c.write_uint-2.result
    (λ same. keeps_same same c.loop-number.invariant.kept) c.write_uint-2.ensures.err

pub write_fields-delta-requires-clause-rises : goal.write_fields-delta-requires-clause-rises
write_fields-delta-requires-clause-rises t c =
    (field_left c.args.parts.now c.loop-number.number-index _ c.loop-number-item.result c.loop-number-item.is
    c.loop-number-test.true c.loop-number.invariant.left).rises

pub write_fields-delta-requires-clause-small : goal.write_fields-delta-requires-clause-small
write_fields-delta-requires-clause-small t c =
    (field_left c.args.parts.now c.loop-number.number-index _ c.loop-number-item.result c.loop-number-item.is
    c.loop-number-test.true c.loop-number.invariant.left).small

pub write_fields-write_value-requires : goal.write_fields-write_value-requires
write_fields-write_value-requires t c = (
  second_next _ _ _ _ c.loop-number-item.is c.loop-number-test.true c.decreases _ _ refl,
  (field_left c.args.parts.now c.loop-number.number-index _ c.loop-number-item.result
      c.loop-number-item.is c.loop-number-test.true c.loop-number.invariant.left).value,
)

pub write_fields-returns-in_err-write_value-clause-err : goal.write_fields-returns-in_err-write_value-clause-err
write_fields-returns-in_err-write_value-clause-err t c =
    on_err_any c.from_residual-in_err-write_value.result
    (keeps_then (keeps_then c.loop-number.invariant.kept (keeps c.in_ok-write_uint.ensures.ok))
    c.in_err-write_value.ensures.err)

pub write_fields-loop-number-preserved : goal.write_fields-loop-number-preserved
write_fields-loop-number-preserved t c =
    let fs = c.args.parts.now in
    let i = c.loop-number.number-index in
    let f = c.loop-number-item.result in
    let next = next_number c.loop-number.last in
    let left = field_left fs i next f c.loop-number-item.is c.loop-number-test.true c.loop-number.invariant.left in
    let first : Goes (WrittenFields 0 (field_views fs))
    (Behind (Written (view f.1)) (WrittenFields (f.0 + 1) (field_views (drop (i + 1) fs))))
    (IsSpelledWithin (WrittenFields (f.0 + 1)) fields_depth 1000 (field_views (drop (i + 1) fs))) c.args.out.now.items
    c.write_uint.new.out.items =
    goes_more c.loop-number.invariant c.in_ok-write_uint.ensures.ok
    (λ b r n s. field_from fs i next f c.loop-number-item.is c.loop-number-test.true left.rises b r
    (subst (λ n. IsUnsigned n b) c.delta.ensures n) s) left.rest in
    goes_more first c.in_ok-write_value.ensures.ok behind left.rest

pub write_fields-returns-clause-ok : goal.write_fields-returns-clause-ok
write_fields-returns-clause-ok t c =
    on_ok_weaker c.write_uint-2.result
    (λ a. goes_ends c.loop-number.invariant a (λ b p. fields_end c.args.parts.now c.loop-number.number-index
    (next_number c.loop-number.last) b c.loop-number-test.false p))
    c.write_uint-2.ensures.ok

-- ---- values

pub write_value-write_fields-requires : goal.write_value-write_fields-requires
write_value-write_fields-requires t c =
    let fs = c.in-Fields.parts in (
      search (rules, the_lemmas),
      rw c.deref-in-Fields.ensures.value
          (fields_writable (field_views fs.items) (subst (IsSpelledWithin Written depth 1000) (ap view c.in-Fields.is
          ∙ view-Fields fs)
          c.requires)),
    )

pub write_value-write_leaf-requires : goal.write_value-write_leaf-requires
write_value-write_leaf-requires t c = search (rules, the_lemmas)

pub write_value-returns-in_err-write_uint-in-Many-clause-ok :
    goal.write_value-returns-in_err-write_uint-in-Many-clause-ok
write_value-returns-in_err-write_uint-in-Many-clause-ok t c = on_ok_failed _ c.from_residual.result
    c.from_residual.ensures.0

pub write_value-returns-in_err-write_uint-in-Pairs-clause-ok :
    goal.write_value-returns-in_err-write_uint-in-Pairs-clause-ok
write_value-returns-in_err-write_uint-in-Pairs-clause-ok t c = on_ok_failed _
    c.from_residual-in_err-write_uint-in-Pairs.result c.from_residual-in_err-write_uint-in-Pairs.ensures.0

pub write_value-returns-in_err-write_uint-in-Many-clause-err :
    goal.write_value-returns-in_err-write_uint-in-Many-clause-err
write_value-returns-in_err-write_uint-in-Many-clause-err t c = on_err_any c.from_residual.result
    (keeps_same c.in_err-write_uint-in-Many.ensures.err (keeps_all _))

pub write_value-returns-in_err-write_uint-in-Pairs-clause-err :
    goal.write_value-returns-in_err-write_uint-in-Pairs-clause-err
write_value-returns-in_err-write_uint-in-Pairs-clause-err t c = on_err_any
    c.from_residual-in_err-write_uint-in-Pairs.result
    (keeps_same c.in_err-write_uint-in-Pairs.ensures.err (keeps_all _))

pub write_value-returns-in_ok-write_uint-in-Many-clause-err :
    goal.write_value-returns-in_ok-write_uint-in-Many-clause-err
write_value-returns-in_ok-write_uint-in-Many-clause-err t c = on_err_weaker c.write_each.result
    (keeps_then (keeps c.in_ok-write_uint-in-Many.ensures.ok)) c.write_each.ensures.err

pub write_value-returns-in_ok-write_uint-in-Pairs-clause-err :
    goal.write_value-returns-in_ok-write_uint-in-Pairs-clause-err
write_value-returns-in_ok-write_uint-in-Pairs-clause-err t c = on_err_weaker c.write_pairs.result
    (keeps_then (keeps c.in_ok-write_uint-in-Pairs.ensures.ok)) c.write_pairs.ensures.err

pub write_value-returns-in-Fields-clause-err : goal.write_value-returns-in-Fields-clause-err
write_value-returns-in-Fields-clause-err t c = c.write_fields.ensures.err

pub write_value-returns-in_default : goal.write_value-returns-in_default
write_value-returns-in_default t c = record { ok = c.write_leaf.ensures.ok; err = c.write_leaf.ensures.err }

pub write_value-write_each-requires : goal.write_value-write_each-requires
write_value-write_each-requires t c =
    let vs = c.in-Many.parts in (
      search (rules, the_lemmas),
      rw c.deref.ensures.value
          (many_writable (views vs.items) (subst (IsSpelledWithin Written depth 1000) (ap view c.in-Many.is
          ∙ view-Many vs) c.requires)),
    )

pub write_value-write_pairs-requires : goal.write_value-write_pairs-requires
write_value-write_pairs-requires t c =
    let ps = c.in-Pairs.parts in (
      search (rules, the_lemmas),
      rw c.deref-in-Pairs.ensures.value
          (pairs_writable (pair_views ps.items) (subst (IsSpelledWithin Written depth 1000) (ap view c.in-Pairs.is
          ∙ view-Pairs ps)
          c.requires)),
    )

pub write_value-returns-in_ok-write_uint-in-Many-clause-ok : goal.write_value-returns-in_ok-write_uint-in-Many-clause-ok
write_value-returns-in_ok-write_uint-in-Many-clause-ok t c =
    let vs = c.in-Many.parts in
    let count : c.len.result ≡ tree_count (views vs.items) = c.len.ensures ∙ vs.ok.0
    ∙ sym (tree_count-views vs.items) in
    on_ok_weaker c.write_each.result
    (λ a. then (λ x y p q. rw (c.in-Many.is, view-Many vs) (of_many (subst (λ n. IsUnsigned n x) count p) q))
    c.in_ok-write_uint-in-Many.ensures.ok (rw c.deref.ensures.value at a))
    c.write_each.ensures.ok

pub write_value-returns-in_ok-write_uint-in-Pairs-clause-ok :
    goal.write_value-returns-in_ok-write_uint-in-Pairs-clause-ok
write_value-returns-in_ok-write_uint-in-Pairs-clause-ok t c =
    let ps = c.in-Pairs.parts in
    let count : c.len-in-Pairs.result ≡ pair_count (pair_views ps.items) = c.len-in-Pairs.ensures ∙ ps.ok.0
    ∙ sym (pair_count-views ps.items) in
    on_ok_weaker c.write_pairs.result
    (λ a. then (λ x y p q. rw (c.in-Pairs.is, view-Pairs ps) (of_pairs (subst (λ n. IsUnsigned n x) count p) q))
    c.in_ok-write_uint-in-Pairs.ensures.ok (rw c.deref-in-Pairs.ensures.value at a))
    c.write_pairs.ensures.ok

pub write_value-returns-in-Fields-clause-ok : goal.write_value-returns-in-Fields-clause-ok
write_value-returns-in-Fields-clause-ok t c =
    let fs = c.in-Fields.parts in
    on_ok_weaker c.write_fields.result (λ a. then_as (λ b p. rw (c.in-Fields.is, view-Fields fs) (of_fields p))
    (rw c.deref-in-Fields.ensures.value at a)) c.write_fields.ensures.ok
