-- Part by part the visitor is told of what is read.
use Rattle.std.proofs.Common.{◌≡◌, ℕ, Ok, Some, List, [], ◌∷◌, ◌++◌, ◌-◌, ◌+◌, arith, drop, refl, sym, subst, ap, ◌∙◌}
use Rattle.std.proofs.Common.{length, length-drop, false, OnOk, rules}
use native.Mathlib.Nat.{sub-zero}
use Rattle.gob_types.specs.Defined.{types}
use Rattle.gob_types.proofs.PublicLaws.{basic_shape_of}
use Rattle.gob_value.specs.Top.{IsStruct}
use Rattle.gob_value.specs.Machine.Begins.{BeginsThisNumber}
use Rattle.gob_go.specs.Machine.WholeFilled.{IsOfKind}
use Rattle.gob_walk.proofs.PublicLaws.{if_ok}
use Rattle.gob_walk.specs.Event as event
use Rattle.gob_walk.specs.Standing as standing
use Rattle.gob_types.specs.declared.basic.Basic.TheVariants as basic
use Rattle.gob_types.specs.declared.kind.Kind.TheVariants as kind
use Rattle.gob_filled_walk.specs.HeldEvent.{told, all_told, held_begins, held_ends}
use Rattle.gob_filled_walk.specs.Reads.{Reads, ReadsTop, ReadsEach, reads_slice, reads_array, reads_map, reads_struct}
use Rattle.gob_filled_walk.specs.Reads.{reads_held, reads_at_once, reads_tagged, fields_stop, and_field}
use Rattle.gob_filled_walk.proofs.WalkLaws.{ok_so, each_next, each_end, entries_next, entries_end, leaf_heard}
use Rattle.gob_filled_walk.proofs.WalkLaws.{ints_heard, no_struct, tag_first}
use Rattle.gob_filled_walk.proofs.walk.+filled.Goals as goal

pub walk_elements-elements-init : goal.walk_elements-elements-init
walk_elements-elements-init g t c = record {
  inside = c.requires.place;
  all = λ new end h. record {
    events = told event.list_begins ∷ h.events;
    inside = h.inside;
    reads = (h.events, refl, rw sub-zero at h.reads);
    heard = g.met.V.HeldVisitor.both _ _ _ (told event.list_begins ∷ []) h.events
        (g.met.V.HeldVisitor.any _ _ (event.list_begins ∷ []) c.in_ok-list_begins.ensures) h.heard;
  };
}

pub walk_elements-elements-preserved : goal.walk_elements-elements-preserved
walk_elements-elements-preserved g t c =
    let one = c.in_ok-at.ensures in
    let both = g.met.V.HeldVisitor.both in
    record {
      inside = one.inside;
      all = λ new end h. c.elements.invariant.all new end (record {
        events = told (event.element _) ∷ (one.events ++ h.events);
        inside = h.inside;
        reads = each_next c.elements-test.true one.reads h.reads;
        heard = both _ _ _ (told (event.element _) ∷ []) (one.events ++ h.events)
            (g.met.V.HeldVisitor.any _ _ (event.element _ ∷ []) c.in_ok-element.ensures)
            (both _ _ _ one.events h.events one.heard h.heard);
      });
    }

pub walk_elements-returns : goal.walk_elements-returns
walk_elements-returns g t c = ok_so _ c.elements.at c.list_ends.result c.closed.result c.closed.ensures
    (λ is. c.elements.invariant.all _ c.elements.at (record {
      events = told event.list_ends ∷ [];
      inside = c.elements.invariant.inside;
      reads = each_end (omega arith);
      heard = g.met.V.HeldVisitor.any _ _ (event.list_ends ∷ [])
          (subst (λ r. g.V.Visitor.tells c.elements.out c.list_ends.new.self (event.list_ends ∷ []) r) is
          c.list_ends.ensures);
    }))

pub walk_entries-pairs-init : goal.walk_entries-pairs-init
walk_entries-pairs-init g t c = record {
  inside = c.requires.place;
  all = λ new end h. record {
    events = told (event.map_begins _) ∷ h.events;
    inside = h.inside;
    reads = (h.events, refl, rw sub-zero at h.reads);
    heard = g.met.V.HeldVisitor.both _ _ _ (told (event.map_begins _) ∷ []) h.events
        (g.met.V.HeldVisitor.any _ _ (event.map_begins _ ∷ []) c.in_ok-map_begins.ensures) h.heard;
  };
}

pub walk_entries-pairs-preserved : goal.walk_entries-pairs-preserved
walk_entries-pairs-preserved g t c =
    let key = c.in_ok-behind.ensures in
    let one = c.in_ok-at.ensures in
    let both = g.met.V.HeldVisitor.both in
    let any = g.met.V.HeldVisitor.any in
    let ends = told (event.entry_ends _) ∷ [] in
    let second = told (event.between _) ∷ (one.events ++ ends) in
    record {
      inside = one.inside;
      all = λ new end h. c.pairs.invariant.all new end (record {
        events = told (event.entry _ _) ∷ ((key.events ++ second) ++ h.events);
        inside = h.inside;
        reads = entries_next c.pairs-test.true key.reads one.reads h.reads;
        heard = both _ _ _ (told (event.entry _ _) ∷ []) ((key.events ++ second) ++ h.events)
            (any _ _ (event.entry _ _ ∷ []) c.in_ok-entry.ensures)
            (both _ _ _ (key.events ++ second) h.events
            (both _ _ _ key.events second key.heard
            (both _ _ _ (told (event.between _) ∷ []) (one.events ++ ends)
            (any _ _ (event.between _ ∷ []) c.in_ok-between.ensures)
            (both _ _ _ one.events ends one.heard (any _ _ (event.entry_ends _ ∷ []) c.in_ok-entry_ends.ensures))))
            h.heard);
      });
    }

pub walk_entries-returns : goal.walk_entries-returns
walk_entries-returns g t c = ok_so _ c.pairs.at c.map_ends.result c.closed.result c.closed.ensures
    (λ is. c.pairs.invariant.all _ c.pairs.at (record {
      events = told (event.map_ends c.args.entries.key) ∷ [];
      inside = c.pairs.invariant.inside;
      reads = entries_end (omega arith);
      heard = g.met.V.HeldVisitor.any _ _ (event.map_ends c.args.entries.key ∷ [])
          (subst (λ r. g.V.Visitor.tells c.pairs.out c.map_ends.new.self (event.map_ends c.args.entries.key ∷ []) r) is
          c.map_ends.ensures);
    }))

pub walk_fields-fields-init : goal.walk_fields-fields-init
walk_fields-fields-init g t c = record {
  inside = c.requires.place;
  all = λ new end h. record {
    events = told event.struct_begins ∷ h.events;
    inside = h.inside;
    reads = (h.events, refl, h.reads);
    heard = g.met.V.HeldVisitor.both _ _ _ (told event.struct_begins ∷ []) h.events
        (g.met.V.HeldVisitor.any _ _ (event.struct_begins ∷ []) c.in_ok-struct_begins.ensures) h.heard;
  };
}

pub walk_fields-returns-then-delta-eq0 : goal.walk_fields-returns-then-delta-eq0
walk_fields-returns-then-delta-eq0 g t c =
    let stands = c.in-Some.ensures.stands in
    ok_so _ c.in-Some.behind c.struct_ends.result c.closed.result c.closed.ensures
    (λ is. c.fields.invariant.all _ c.in-Some.behind (record {
      events = told (event.struct_ends c.args.fields.now c.fields.next) ∷ [];
      inside = stands.inside;
      reads = fields_stop (subst (λ n. BeginsThisNumber n (drop c.fields.at c.args.body.now)
          (drop c.in-Some.behind c.args.body.now)) c.if-delta-eq0.true stands.begins);
      heard = g.met.V.HeldVisitor.any _ _ (event.struct_ends c.args.fields.now c.fields.next ∷ [])
          (subst (λ r. g.V.Visitor.tells c.fields.out c.struct_ends.new.self
          (event.struct_ends c.args.fields.now c.fields.next ∷ []) r) is c.struct_ends.ensures);
    }))

pub walk_fields-fields-preserved : goal.walk_fields-fields-preserved
walk_fields-fields-preserved g t c =
    let one = c.in_ok-at.ensures in
    let next = c.in-Some-next_field.ensures.some in
    let both = g.met.V.HeldVisitor.both in
    let any = g.met.V.HeldVisitor.any in
    let ends = told event.field_ends ∷ [] in
    let field = told (event.present _ _ _) ∷ (one.events ++ ends) in
    record {
      inside = one.inside;
      all = λ new end h. c.fields.invariant.all new end (record {
        events = field ++ h.events;
        inside = h.inside;
        reads = and_field next.0 next.1 next.2 c.in-Some.ensures.stands.begins one.reads h.reads;
        heard = both _ _ _ field h.events
            (both _ _ _ (told (event.present _ _ _) ∷ []) (one.events ++ ends)
            (any _ _ (event.present _ _ _ ∷ []) c.in_ok-tell_field.ensures)
            (both _ _ _ one.events ends one.heard (any _ _ (event.field_ends ∷ []) c.in_ok-field_ends.ensures)))
            h.heard;
      });
    }

pub walk_elements-returns-in-Basic-Int : goal.walk_elements-returns-in-Basic-Int
walk_elements-returns-in-Basic-Int g t c =
    let T = types c.args.table.now in
    let int : c.in-Some.shape.now.kind ≡ kind.Basic basic.Int = search rules in
    let is_int : standing.IsOfKind T c.args.elem (kind.Basic basic.Int) =
    record { shape = c.in-Some.shape.now; found = sym c.in-Some.ensures; same = int } in
    if_ok c.ints.result (λ end h. record {
      events = told event.list_begins ∷ h.events;
      inside = h.inside;
      reads = (h.events, refl, h.reads);
      heard = g.met.V.HeldVisitor.both _ _ _ (told event.list_begins ∷ []) h.events
          (g.met.V.HeldVisitor.any _ _ (event.list_begins ∷ []) c.in_ok-list_begins.ensures) h.heard;
    })
    (ints_heard g.V.Visitor.tells g.V.HeldVisitor.hears g.met.V.HeldVisitor.any T c.args.elem c.args.begin c.ints.result
    (omega arith) (λ vs rest b n. c.ints.ensures.sent T c.args.elem c.args.depth vs rest is_int b n)
    (if_ok c.ints.result (λ end h. h T c.args.elem is_int) c.ints.ensures.stands))

pub walk_interface-returns-in_default : goal.walk_interface-returns-in_default
walk_interface-returns-in_default g t c =
    let T = types c.args.table.now in
    leaf_heard g.V.Visitor.tells g.V.HeldVisitor.hears g.met.V.HeldVisitor.any T c.args.id c.args.at
    c.walk_basic.result c.requires.kind (omega arith) (λ v rest h. c.walk_basic.ensures.sent T c.args.id v rest h)
    (if_ok c.walk_basic.result (λ end h. h T) c.walk_basic.ensures.stands)

pub walk_interface-returns : goal.walk_interface-returns
walk_interface-returns g t c =
    let top = c.in_ok-end.ensures in
    let held = c.in-Some.held in
    let both = g.met.V.HeldVisitor.both in
    let body = c.args.body.now in
    let ends = held_ends ∷ [] in
    let size : length (drop held.begin body) ≡ held.end - held.begin + length (drop c.in_ok-end.end body) =
    omega (
      arith,
      length-drop held.begin body,
      length-drop c.in_ok-end.end body,
      top.inside,
      c.in-Some.ensures.order,
    ) in
    ok_so _ c.in_ok-end.end c.held_ends.result c.closed.result c.closed.ensures (λ is. record {
      events = held_begins held.name.now held.id ∷ (top.events ++ ends);
      inside = top.inside;
      reads = reads_held c.requires.kind c.in-Some.ensures.begins top.reads size;
      heard = both _ _ _ (held_begins held.name.now held.id ∷ []) (top.events ++ ends) c.in_ok-held_begins.ensures
          (both _ _ _ top.events ends top.heard
          (subst (λ r. OnOk r (g.V.HeldVisitor.hears c.walk_top.new.out c.held_ends.new.self ends)) is
          c.held_ends.ensures));
    })

pub walk_top-returns-in-Struct : goal.walk_top-returns-in-Struct
walk_top-returns-in-Struct g t c = if_ok c.walk_value.result (λ end h. record {
  events = h.events;
  inside = h.inside;
  reads = reads_at_once (sym c.in-Some.ensures) (subst (λ k. IsStruct k) (sym c.in-Struct.is) tt) h.reads;
  heard = h.heard;
}) c.walk_value.ensures

pub walk_top-returns : goal.walk_top-returns
walk_top-returns g t c = if_ok c.walk_value-2.result (λ end h. record {
  events = h.events;
  inside = h.inside;
  reads = subst (λ (l : List ℕ). ReadsTop (types c.args.table.now) c.args.id c.args.depth h.events l
      (drop end c.args.body.now))
      (sym (tag_first c.args.body.now c.args.at c.if-at-body.false c.if-body-at-ne0.false))
      (reads_tagged (sym c.in-Some.ensures) (no_struct c.in-Some.shape.now.kind c.in_default-kind.not-Struct) h.reads);
  heard = h.heard;
}) c.walk_value-2.ensures

pub walk_typed-returns-in-Some : goal.walk_typed-returns-in-Some
walk_typed-returns-in-Some g t c =
    let T = types c.args.table.now in
    let is = basic_shape_of T c.args.id (sym c.basic_of.ensures ∙ c.in-Some.is) in
    leaf_heard g.V.Visitor.tells g.V.HeldVisitor.hears g.met.V.HeldVisitor.any T c.args.id c.args.at
    c.walk_basic.result is (omega arith) (λ v rest h. c.walk_basic.ensures.sent T c.args.id v rest h)
    (if_ok c.walk_basic.result (λ end h. h T) c.walk_basic.ensures.stands)

pub walk_value-returns-in-Basic : goal.walk_value-returns-in-Basic
walk_value-returns-in-Basic g t c =
    let T = types c.args.table.now in
    leaf_heard g.V.Visitor.tells g.V.HeldVisitor.hears g.met.V.HeldVisitor.any T c.args.id c.args.at
    c.walk_basic.result (c.args.shape.now, c.requires.shape, c.in-Basic.is) (omega arith)
    (λ v rest h. c.walk_basic.ensures.sent T c.args.id v rest h)
    (if_ok c.walk_basic.result (λ end h. h T) c.walk_basic.ensures.stands)

pub walk_value-returns-in-Opaque : goal.walk_value-returns-in-Opaque
walk_value-returns-in-Opaque g t c =
    let T = types c.args.table.now in
    leaf_heard g.V.Visitor.tells g.V.HeldVisitor.hears g.met.V.HeldVisitor.any T c.args.id c.args.at
    c.walk_raw.result (c.args.shape.now, c.requires.shape, c.in-Opaque.is) (omega arith)
    (λ v rest h. c.walk_raw.ensures.sent T c.args.id _ v rest c.requires.shape h)
    (if_ok c.walk_raw.result (λ end h. h T _) c.walk_raw.ensures.stands)

pub walk_value-returns-in-Struct : goal.walk_value-returns-in-Struct
walk_value-returns-in-Struct g t c = if_ok c.walk_fields.result (λ end h. record {
  events = h.events;
  inside = h.inside;
  reads = subst (λ es. Reads (types c.args.table.now) c.args.id c.args.depth es (drop c.args.at c.args.body.now)
      (drop end c.args.body.now)) (sym h.reads.1)
      (reads_struct (c.args.shape.now, c.requires.shape, c.in-Struct.is) (omega arith) h.reads.2);
  heard = h.heard;
}) c.walk_fields.ensures

pub walk_value-returns-in-Some : goal.walk_value-returns-in-Some
walk_value-returns-in-Some g t c = if_ok c.walk_elements.result (λ end h. record {
  events = h.events;
  inside = h.inside;
  reads = subst (λ es. Reads (types c.args.table.now) c.args.id c.args.depth es (drop c.args.at c.args.body.now)
      (drop end c.args.body.now)) (sym h.reads.1)
      (reads_slice (c.args.shape.now, c.requires.shape, c.in-Slice.is) (omega arith) c.in-Some.ensures.stands.begins
      h.reads.2);
  heard = h.heard;
}) c.walk_elements.ensures

pub walk_value-returns-else-count-len : goal.walk_value-returns-else-count-len
walk_value-returns-else-count-len g t c = if_ok c.walk_elements-in-Array.result (λ end h. record {
  events = h.events;
  inside = h.inside;
  reads = subst (λ es. Reads (types c.args.table.now) c.args.id c.args.depth es (drop c.args.at c.args.body.now)
      (drop end c.args.body.now)) (sym h.reads.1)
      (reads_array (c.args.shape.now, c.requires.shape, c.in-Array.is) (omega arith)
      (subst (λ n. BeginsThisNumber n (drop c.args.at c.args.body.now)
      (drop c.in-Some-number_at.behind c.args.body.now)) (omega arith) c.in-Some-number_at.ensures.stands.begins)
      (subst (λ n. ReadsEach (types c.args.table.now) c.in-Array.elem (c.args.depth - 1) n false h.reads.0
      (drop c.in-Some-number_at.behind c.args.body.now) (drop end c.args.body.now)) (omega arith) h.reads.2));
  heard = h.heard;
}) c.walk_elements-in-Array.ensures

pub walk_value-returns-in-Some-number_at-2 : goal.walk_value-returns-in-Some-number_at-2
walk_value-returns-in-Some-number_at-2 g t c = if_ok c.walk_entries.result (λ end h. record {
  events = h.events;
  inside = h.inside;
  reads = subst (λ es. Reads (types c.args.table.now) c.args.id c.args.depth es (drop c.args.at c.args.body.now)
      (drop end c.args.body.now)) (sym h.reads.1)
      (reads_map (c.args.shape.now, c.requires.shape, c.in-Map.is) (omega arith)
      c.in-Some-number_at-2.ensures.stands.begins h.reads.2);
  heard = h.heard;
}) c.walk_entries.ensures
