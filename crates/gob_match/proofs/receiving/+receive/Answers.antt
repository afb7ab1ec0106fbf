use Rattle.std.proofs.Common.{[], ◌∷◌, append-nil, length, arith, rules, refl, sym, subst}
use Rattle.std.proofs.lemmas.Result.{IfOk-from_err}
use Rattle.std.proofs.lemmas.Option.{slice_get_read}
use Rattle.gob_value.specs.declared.value.Value.{the_lemmas}
use Rattle.gob_value.specs.Fits.{Fits}
use Rattle.gob_value.specs.View.{view}
use Rattle.gob_value.proofs.PublicLaws.{IsNoList, IsNoMap, IsNoStruct}
use Rattle.gob_match.specs.Machine.Receiving.{no_more, absent, present}
use Rattle.gob_match.specs.Received.{no_element, element, no_entry, entry}
use Rattle.gob_match.proofs.Loops.{completes_start, completes_on, completes_end}
use Rattle.gob_match.proofs.ReceiveLaws.{present_shallow}
use Rattle.gob_match.proofs.ReceiveSteps.{each_fits, each_shallow, pair_fits, pair_shallow, present_fits, rising}
use Rattle.gob_match.proofs.ReceiveSteps.{is_leaf, copy_received, is_list, list_receivable, list_received, list_depth}
use Rattle.gob_match.proofs.ReceiveSteps.{is_map, map_receivable, map_received, map_depth, is_struct, struct_receivable}
use Rattle.gob_match.proofs.ReceiveSteps.{struct_received, struct_depth}
use Rattle.gob_match.proofs.receiving.+receive.Goals as goal

-- ---- elements

pub receive_each-returns-in_err-receive_value : goal.receive_each-returns-in_err-receive_value
receive_each-returns-in_err-receive_value g t c = IfOk-from_err c.from_residual.result _ c.from_residual.ensures.0

pub receive_each-returns-in_err-push : goal.receive_each-returns-in_err-push
receive_each-returns-in_err-push g t c = IfOk-from_err c.from_residual-in_err-push.result _
    c.from_residual-in_err-push.ensures.0

pub receive_each-loop-part-init : goal.receive_each-loop-part-init
receive_each-loop-part-init g t c = completes_start c.new-received.ensures.items

pub receive_each-receive_value-requires : goal.receive_each-receive_value-requires
receive_each-receive_value-requires g t c κs within =
    let parts = c.args.parts.now in
    let there = slice_get_read parts (length parts) c.loop-part.part-index c.part-item.result refl c.loop-part-test.true
    c.part-item.is in
    let shallow = each_shallow parts c.loop-part.part-index there in (
      omega arith,
      (
        within.0,
        (
          within.1,
          record {
            pair = c.requires.pair;
            fits = each_fits parts c.loop-part.part-index
                c.requires.spelled there;
          },
        ),
      ),
    )

pub receive_each-loop-part-preserved : goal.receive_each-loop-part-preserved
receive_each-loop-part-preserved g t c =
    let parts = c.args.parts.now in
    let there = slice_get_read parts (length parts) c.loop-part.part-index c.part-item.result refl c.loop-part-test.true
    c.part-item.is in
    let made = c.in_ok-receive_value.ensures in
    completes_on (c.in_ok-receive_value.field-0 ∷ []) c.loop-part.part-index c.loop-part.invariant there
    c.in_ok-push.ensures.items (λ more r. record
    { receives = element made.receives r.receives; small = (made.small, r.small) })

pub receive_each-returns : goal.receive_each-returns
receive_each-returns g t c = completes_end c.loop-part.part-index c.loop-part.invariant c.loop-part-test.false
    (record { receives = no_element; small = tt })

-- ---- keys and elements

pub receive_pairs-returns-in_err-k : goal.receive_pairs-returns-in_err-k
receive_pairs-returns-in_err-k g t c = IfOk-from_err c.from_residual.result _ c.from_residual.ensures.0

pub receive_pairs-returns-in_err-e : goal.receive_pairs-returns-in_err-e
receive_pairs-returns-in_err-e g t c = IfOk-from_err c.from_residual-in_err-e.result _
    c.from_residual-in_err-e.ensures.0

pub receive_pairs-returns-in_err-push : goal.receive_pairs-returns-in_err-push
receive_pairs-returns-in_err-push g t c = IfOk-from_err c.from_residual-in_err-push.result _
    c.from_residual-in_err-push.ensures.0

pub receive_pairs-loop-k-init : goal.receive_pairs-loop-k-init
receive_pairs-loop-k-init g t c = completes_start c.new-received.ensures.items

pub receive_pairs-receive_value-requires : goal.receive_pairs-receive_value-requires
receive_pairs-receive_value-requires g t c κs within =
    let parts = c.args.parts.now in
    let there = slice_get_read parts (length parts) c.loop-k.k-index c.loop-k-item.result refl c.loop-k-test.true
    c.loop-k-item.is in
    let shallow = (pair_shallow parts c.loop-k.k-index there).0 in (
      omega arith,
      (
        within.0,
        (
          within.1,
          record {
            pair = c.requires.key;
            fits =
                (pair_fits parts c.loop-k.k-index c.requires.spelled there).0;
          },
        ),
      ),
    )

pub receive_pairs-receive_value-requires-in-loop-k : goal.receive_pairs-receive_value-requires-in-loop-k
receive_pairs-receive_value-requires-in-loop-k g t c κs within =
    let parts = c.args.parts.now in
    let there = slice_get_read parts (length parts) c.loop-k.k-index c.loop-k-item.result refl c.loop-k-test.true
    c.loop-k-item.is in
    let shallow = (pair_shallow parts c.loop-k.k-index there).1 in (
      omega arith,
      (
        within.0,
        (
          within.1,
          record {
            pair = c.requires.elem;
            fits =
                (pair_fits parts c.loop-k.k-index c.requires.spelled there).1;
          },
        ),
      ),
    )

pub receive_pairs-loop-k-preserved : goal.receive_pairs-loop-k-preserved
receive_pairs-loop-k-preserved g t c =
    let parts = c.args.parts.now in
    let there = slice_get_read parts (length parts) c.loop-k.k-index c.loop-k-item.result refl c.loop-k-test.true
    c.loop-k-item.is in
    let key = c.in_ok-k.ensures in
    let made = c.in_ok-e.ensures in
    completes_on ((c.in_ok-k.k, c.in_ok-e.e) ∷ []) c.loop-k.k-index c.loop-k.invariant there c.in_ok-push.ensures.items
    (λ more r. record {
      receives = entry key.receives made.receives r.receives;
      small =
          (key.small, made.small, r.small);
    })

pub receive_pairs-returns : goal.receive_pairs-returns
receive_pairs-returns g t c = completes_end c.loop-k.k-index c.loop-k.invariant c.loop-k-test.false
    (record { receives = no_entry; small = tt })

-- ---- fields

pub receive_fields-returns-in_err-part : goal.receive_fields-returns-in_err-part
receive_fields-returns-in_err-part g t c = IfOk-from_err c.from_residual.result _ c.from_residual.ensures.0

pub receive_fields-returns-in_err-push : goal.receive_fields-returns-in_err-push
receive_fields-returns-in_err-push g t c = IfOk-from_err c.from_residual-in_err-push.result _
    c.from_residual-in_err-push.ensures.0

pub receive_fields-loop-field-init : goal.receive_fields-loop-field-init
receive_fields-loop-field-init g t c = completes_start c.new-received.ensures.items

pub receive_fields-part_at-requires : goal.receive_fields-part_at-requires
receive_fields-part_at-requires g t c = rising c.args.parts.now c.requires.spelled

pub receive_fields-receive_value-requires : goal.receive_fields-receive_value-requires
receive_fields-receive_value-requires g t c κs within =
    let common = c.args.common.now in
    let there = slice_get_read common (length common) c.loop-field.field-index c.field-item.result refl
    c.loop-field-test.true c.field-item.is in
    let field = c.requires.each c.loop-field.field-index c.field-item.result there in
    let shallow = present_shallow c.in-Some.ensures in (
      omega arith,
      (
        within.0,
        (
          within.1,
          record {
            pair = field.pair;
            fits = subst (λ e. Fits (g.S.Shapes.table c.args.matched.now.stream.now) e (view c.in-Some.part.now))
                field.typed (present_fits c.requires.spelled c.in-Some.ensures field.there);
          },
        ),
      ),
    )

pub receive_fields-loop-field-preserved-in_default : goal.receive_fields-loop-field-preserved-in_default
receive_fields-loop-field-preserved-in_default g t c =
    let common = c.args.common.now in
    let there = slice_get_read common (length common) c.loop-field.field-index c.field-item.result refl
    c.loop-field-test.true c.field-item.is in
    completes_on [] c.loop-field.field-index c.loop-field.invariant there (sym (append-nil c.loop-field.received.items))
    (λ more r. absent c.in_default.ensures r)

pub receive_fields-loop-field-preserved : goal.receive_fields-loop-field-preserved
receive_fields-loop-field-preserved g t c =
    let common = c.args.common.now in
    let there = slice_get_read common (length common) c.loop-field.field-index c.field-item.result refl
    c.loop-field-test.true c.field-item.is in
    let field = c.requires.each c.loop-field.field-index c.field-item.result there in
    completes_on ((c.field-item.result.wanted, c.in_ok-part.part) ∷ []) c.loop-field.field-index c.loop-field.invariant
    there c.in_ok-push.ensures.items (λ more r. present c.in-Some.ensures field.small c.in_ok-part.ensures r)

pub receive_fields-returns : goal.receive_fields-returns
receive_fields-returns g t c = completes_end c.loop-field.field-index c.loop-field.invariant c.loop-field-test.false
    no_more

-- ---- values

pub receive_value-returns-in_err-receive_each-in-Many : goal.receive_value-returns-in_err-receive_each-in-Many
receive_value-returns-in_err-receive_each-in-Many g t c = IfOk-from_err c.from_residual.result _
    c.from_residual.ensures.0

pub receive_value-returns-in_err-receive_pairs-in-Pairs : goal.receive_value-returns-in_err-receive_pairs-in-Pairs
receive_value-returns-in_err-receive_pairs-in-Pairs g t c = IfOk-from_err
    c.from_residual-in_err-receive_pairs-in-Pairs.result _ c.from_residual-in_err-receive_pairs-in-Pairs.ensures.0

pub receive_value-returns-in_err-receive_fields-in-Fields-value :
    goal.receive_value-returns-in_err-receive_fields-in-Fields-value
receive_value-returns-in_err-receive_fields-in-Fields-value g t c = IfOk-from_err
    c.from_residual-in_err-receive_fields-in-Fields-value.result _
    c.from_residual-in_err-receive_fields-in-Fields-value.ensures.0

pub receive_value-conversion_of-requires : goal.receive_value-conversion_of-requires
receive_value-conversion_of-requires g t c = c.requires.pair

pub receive_value-copied_leaf-requires : goal.receive_value-copied_leaf-requires
receive_value-copied_leaf-requires g t c = is_leaf c.in-Unchanged.is c.conversion_of.ensures c.requires.fits

pub receive_value-returns-in-Unchanged : goal.receive_value-returns-in-Unchanged
receive_value-returns-in-Unchanged g t c = copy_received c.in-Unchanged.is c.conversion_of.ensures c.copied_leaf.result
    c.requires.fits c.copied_leaf.ensures

pub receive_value-unreachable-requires : goal.receive_value-unreachable-requires
receive_value-unreachable-requires g t c =
    let n : IsNoList (view c.args.value.now) = search (rules, the_lemmas) in
    is_list c.in-Elements.is c.conversion_of.ensures c.requires.fits n

pub receive_value-receive_each-requires : goal.receive_value-receive_each-requires
receive_value-receive_each-requires g t c κs within =
    let d = list_depth c.in-Many.parts c.in-Many.is c.deref.ensures.value in (
      omega arith,
      (
        within.0,
        (
          within.1,
          list_receivable c.in-Elements.is c.conversion_of.ensures c.in-Many.parts
              c.in-Many.is c.deref.ensures.value c.requires,
        ),
      ),
    )

pub receive_value-returns-in_ok-receive_each-in-Many : goal.receive_value-returns-in_ok-receive_each-in-Many
receive_value-returns-in_ok-receive_each-in-Many g t c = list_received c.in-Elements.is c.conversion_of.ensures
    c.in-Many.parts c.in_ok-receive_each-in-Many.field-0 c.in-Many.is c.deref.ensures.value
    c.in_ok-receive_each-in-Many.ensures

pub receive_value-unreachable-requires-in_default-value : goal.receive_value-unreachable-requires-in_default-value
receive_value-unreachable-requires-in_default-value g t c =
    let n : IsNoMap (view c.args.value.now) = search (rules, the_lemmas) in
    is_map c.in-Entries.is c.conversion_of.ensures c.requires.fits n

pub receive_value-receive_pairs-requires : goal.receive_value-receive_pairs-requires
receive_value-receive_pairs-requires g t c κs within =
    let d = map_depth c.in-Pairs.parts c.in-Pairs.is c.deref-in-Pairs.ensures.value in (
      omega arith,
      (
        within.0,
        (
          within.1,
          map_receivable c.in-Entries.is c.conversion_of.ensures c.in-Pairs.parts
              c.in-Pairs.is c.deref-in-Pairs.ensures.value c.requires,
        ),
      ),
    )

pub receive_value-returns-in_ok-receive_pairs-in-Pairs : goal.receive_value-returns-in_ok-receive_pairs-in-Pairs
receive_value-returns-in_ok-receive_pairs-in-Pairs g t c = map_received c.in-Entries.is c.conversion_of.ensures
    c.in-Pairs.parts c.in_ok-receive_pairs-in-Pairs.field-0 c.in-Pairs.is c.deref-in-Pairs.ensures.value
    c.in_ok-receive_pairs-in-Pairs.ensures

pub receive_value-unreachable-requires-in_default-value-2 : goal.receive_value-unreachable-requires-in_default-value-2
receive_value-unreachable-requires-in_default-value-2 g t c =
    let n : IsNoStruct (view c.args.value.now) = search (rules, the_lemmas) in
    is_struct c.in-Fields.is c.conversion_of.ensures c.requires.fits n

pub receive_value-receive_fields-requires : goal.receive_value-receive_fields-requires
receive_value-receive_fields-requires g t c κs within =
    let d = struct_depth c.in-Fields-value.parts c.in-Fields-value.is c.deref-in-Fields-value-2.ensures.value in (
      omega arith,
      (
        within.0,
        (
          within.1,
          struct_receivable c.in-Fields.is c.conversion_of.ensures c.in-Fields-value.parts
              c.in-Fields-value.is c.deref-in-Fields-value-2.ensures.value c.deref-in-Fields-value.ensures.value
              c.requires,
        ),
      ),
    )

pub receive_value-returns-in_ok-receive_fields-in-Fields-value :
    goal.receive_value-returns-in_ok-receive_fields-in-Fields-value
receive_value-returns-in_ok-receive_fields-in-Fields-value g t c =
    struct_received c.in-Fields.is c.conversion_of.ensures c.in-Fields-value.parts
    c.in_ok-receive_fields-in-Fields-value.field-0 c.in-Fields-value.is c.deref-in-Fields-value-2.ensures.value
    c.deref-in-Fields-value.ensures.value c.in_ok-receive_fields-in-Fields-value.ensures
