-- What the parts behind the place are with those before it, and the bytes that are appended with those that were.
use Rattle.std.proofs.Common.{ℕ, ◌+◌, ◌*◌, ◌-◌, ◌≤◌, List, drop, length}
use Rattle.gob_value.specs.Machine.Begins.{HoldsBetween}
use Rattle.gob_match.specs.Calls.Matched.{stream_of, wanted_types_of}
use Rattle.gob_value.specs.Tree.{Fields}
use Rattle.gob_match.specs.Machine.ReceivingWhole.{ArePlaces, GivesCommon, GivesEach, GivesEntries, GivesFields}
use Rattle.gob_match.specs.Machine.ReceivingWhole.{RiseFrom}
use Rattle.gob_match.proofs.receiving_whole.+receive_whole.Given as goal

abbrev pub decreases-receive_typed : goal.decreases-receive_typed
decreases-receive_typed g l = 3 * l.part.depth

abbrev pub decreases-receive_each : goal.decreases-receive_each
decreases-receive_each g l = 3 * l.part.depth + 1

abbrev pub decreases-receive_map : goal.decreases-receive_map
decreases-receive_map g l = 3 * l.part.depth + 1

abbrev pub decreases-receive_in_order : goal.decreases-receive_in_order
decreases-receive_in_order g l = 3 * l.part.depth + 1

abbrev pub decreases-receive_reordered : goal.decreases-receive_reordered
decreases-receive_reordered g l = 3 * l.part.depth + 1

abbrev pub decreases-receive_struct : goal.decreases-receive_struct
decreases-receive_struct g l = 3 * l.part.depth + 2

abbrev pub decreases-receive_list : goal.decreases-receive_list
decreases-receive_list g l = 3 * l.part.depth + 2

abbrev pub invariant-receive_each-elements : goal.invariant-receive_each-elements
invariant-receive_each-elements g l = record {
  inside : l.at ≤ length l.part.body.now;
  parts : (end : ℕ) (new : List ℕ)
      → HoldsBetween (GivesEach (g.S.Shapes.table (stream_of l.matched)) (g.T.Shapes.table (wanted_types_of l.matched))
      l.elem (l.count - l.counter) l.part.depth l.out.items new) l.part.body.now l.at end
      → HoldsBetween (GivesEach (g.S.Shapes.table (stream_of l.matched)) (g.T.Shapes.table (wanted_types_of l.matched))
      l.elem l.count l.part.depth l.fn.out.items new) l.part.body.now l.part.at end;
}

abbrev pub invariant-receive_map-entries : goal.invariant-receive_map-entries
invariant-receive_map-entries g l = record {
  inside : l.at ≤ length l.part.body.now;
  parts : (end : ℕ) (new : List ℕ)
      → HoldsBetween (GivesEntries (g.S.Shapes.table (stream_of l.matched))
      (g.T.Shapes.table (wanted_types_of l.matched)) l.key l.elem (l.count - l.counter) l.part.depth l.out.items new)
      l.part.body.now l.at end
      → HoldsBetween (GivesEntries (g.S.Shapes.table (stream_of l.matched))
      (g.T.Shapes.table (wanted_types_of l.matched)) l.key l.elem l.count l.part.depth l.initial.out.items new)
      l.part.body.now l.begin end;
}

abbrev pub invariant-receive_in_order-fields : goal.invariant-receive_in_order-fields
invariant-receive_in_order-fields g l = record {
  inside : l.at ≤ length l.part.body.now;
  rises : RiseFrom l.next (drop l.index l.common);
  parts : (end : ℕ) (new : List ℕ)
      → HoldsBetween (GivesFields (g.S.Shapes.table (stream_of l.matched))
      (g.T.Shapes.table (wanted_types_of l.matched)) l.types (drop l.index l.common) l.next l.wanted l.part.depth
      l.out.items new) l.part.body.now l.at end
      → HoldsBetween (GivesFields (g.S.Shapes.table (stream_of l.matched))
      (g.T.Shapes.table (wanted_types_of l.matched)) l.types l.common 0 0 l.part.depth l.fn.out.items new)
      l.part.body.now l.part.at end;
}

abbrev pub decreases-receive_in_order-fields : goal.decreases-receive_in_order-fields
decreases-receive_in_order-fields g l = length l.part.body.now - l.at

-- what is received of the values whose places these are
abbrev pub invariant-receive_reordered-loop-field : goal.invariant-receive_reordered-loop-field
invariant-receive_reordered-loop-field g l =
    (values : Fields) → ArePlaces (g.S.Shapes.table (stream_of l.matched)) l.types l.part.body.now values l.places.items
    → (new : List ℕ)
    → GivesCommon (g.S.Shapes.table (stream_of l.matched)) (g.T.Shapes.table (wanted_types_of l.matched)) values
    (drop l.field-index l.common) l.wanted l.out.items new
    → GivesCommon (g.S.Shapes.table (stream_of l.matched)) (g.T.Shapes.table (wanted_types_of l.matched)) values
    l.common 0 l.fn.out.items new
