use Rattle.std.proofs.Common.{◌+◌, false, arith, refl, sym}
use Rattle.gob_value.proofs.WholeSteps.{all_three, no_pairs_stand, pair_begins}
use Rattle.gob_value.proofs.WholePartSteps.{has_entries, no_entries}
use Rattle.gob_value.proofs.whole_parts.whole_entries.Goals as goal

pub returns-in_default-clause-whole : goal.returns-in_default-clause-whole
returns-in_default-clause-whole g c = no_entries _ c.args.key c.args.elem c.args.depth c.args.bytes.now

pub returns-in_default-shape_of-clause-whole : goal.returns-in_default-shape_of-clause-whole
returns-in_default-shape_of-clause-whole g c = no_entries _ c.args.key c.args.elem c.args.depth c.args.bytes.now

pub returns-in_default-part_end-clause-whole : goal.returns-in_default-part_end-clause-whole
returns-in_default-part_end-clause-whole g c =
    has_entries {a = c.min-depth.result} (omega arith)
    (c.entries.invariant.parts 0 c.entries.found.count c.entries.found.end (omega arith)
    (no_pairs_stand _ false _ _ _ 0 _ _ refl c.entries.invariant.inside))

pub returns-in_default-part_end-2-clause-whole : goal.returns-in_default-part_end-2-clause-whole
returns-in_default-part_end-2-clause-whole g c =
    has_entries {a = c.min-depth.result} (omega arith)
    (c.entries.invariant.parts 0 c.entries.found.count c.entries.found.end (omega arith)
    (no_pairs_stand _ false _ _ _ 0 _ _ refl c.entries.invariant.inside))

pub entries-preserved : goal.entries-preserved
entries-preserved g c = record {
  inside = c.in-Some-part_end-2.ensures.inside;
  count = let n = c.entries.invariant.count in omega arith;
  parts =
      λ n m end more p. c.entries.invariant.parts (n + 1) m end (omega arith)
      (all_three c.in-Some-part_end.ensures c.in-Some-part_end-2.ensures p
      (pair_begins _ false _ _ c.in-Some.keys.now c.in-Some-shape_of.elems.now _ (n + 1) n (sym c.in-Some.ensures)
      (sym c.in-Some-shape_of.ensures) refl));
}

pub returns-clause-whole : goal.returns-clause-whole
returns-clause-whole g c =
    has_entries {a = c.min-depth.result} (omega arith)
    (c.entries.invariant.parts 0 c.entries.found.count c.entries.found.end (omega arith)
    (no_pairs_stand _ false _ _ _ 0 _ _ refl c.entries.invariant.inside))
