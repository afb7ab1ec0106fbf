use Rattle.std.proofs.Common.{◌↔◌, drop}
use Rattle.gob_value.specs.View.{views, pair_views, field_views}
use Rattle.gob_value.specs.Within.{IsSpelledWithin}
use Rattle.gob_value.specs.Tree.{trees_depth, pairs_depth, fields_depth}
use Rattle.gob_value.specs.Spelling.{SpellsEach, SpellsPairs, SpellsFields}
use Rattle.gob_value.proofs.fitting.+fits.Given as goal

abbrev pub invariant-all_fit-loop-part : goal.invariant-all_fit-loop-part
invariant-all_fit-loop-part g l =
    let T = g.S.Shapes.table l.shapes in
    IsSpelledWithin (SpellsEach T l.elem) trees_depth l.limit (views (drop l.part-index l.parts))
    ↔ IsSpelledWithin (SpellsEach T l.elem) trees_depth l.limit (views l.parts)

abbrev pub invariant-pairs_fit-loop-k : goal.invariant-pairs_fit-loop-k
invariant-pairs_fit-loop-k g l =
    let T = g.S.Shapes.table l.shapes in
    IsSpelledWithin (SpellsPairs T l.key l.elem) pairs_depth l.limit (pair_views (drop l.k-index l.parts))
    ↔ IsSpelledWithin (SpellsPairs T l.key l.elem) pairs_depth l.limit (pair_views l.parts)

abbrev pub invariant-fields_fit-loop-number : goal.invariant-fields_fit-loop-number
invariant-fields_fit-loop-number g l =
    let T = g.S.Shapes.table l.shapes in
    IsSpelledWithin (SpellsFields T l.types l.next) fields_depth l.limit (field_views (drop l.number-index l.parts))
    ↔ IsSpelledWithin (SpellsFields T l.types 0) fields_depth l.limit (field_views l.parts)
