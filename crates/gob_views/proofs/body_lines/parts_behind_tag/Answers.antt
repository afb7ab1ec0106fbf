-- The parts are behind the tag and the count.
use Rattle.std.proofs.Common.{◌≡◌, Some, rules, sym}
use Rattle.std.specs.Prelude.{slice_get}
use Rattle.gob_views.proofs.PartLineLaws.{map_parts, slice_parts}
use Rattle.gob_views.proofs.body_lines.parts_behind_tag.Goals as goal

pub returns-in-Slice : goal.returns-in-Slice
returns-in-Slice c =
    let first : slice_get c.args.body.now 0 ≡ Some 0 = search rules in
    slice_parts (sym c.in_ok-shape.ensures) c.in-Slice.is first c.in_ok-count.ensures.stands

pub returns-in-Map : goal.returns-in-Map
returns-in-Map c =
    let first : slice_get c.args.body.now 0 ≡ Some 0 = search rules in
    map_parts (sym c.in_ok-shape.ensures) c.in-Map.is first c.in_ok-count.ensures.stands
