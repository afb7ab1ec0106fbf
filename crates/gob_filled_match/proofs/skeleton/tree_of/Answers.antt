use Rattle.std.proofs.Common.{[], length}
use Rattle.gob_read.proofs.PublicLaws.{usable}
use Rattle.gob_filled_match.proofs.SkeletonLaws.{made_tree}
use Rattle.gob_filled_match.proofs.skeleton.tree_of.Goals as goal

pub push-requires : goal.push-requires
push-requires g c =
    let after = c.in_ok-reader.ensures (g.S.Shapes.table c.args.types.now) c.requires in
    usable (record { limit = _; announced = _; bytes = []; after = after })

pub returns-in-Ok-Done : goal.returns-in-Ok-Done
returns-in-Ok-Done g c =
    let after = c.in_ok-reader.ensures (g.S.Shapes.table c.args.types.now) c.requires in
    let given = c.in-Ok-Done.ensures.given c.args.id 1000 (length c.args.bytes.now) [] after in
    let ends = rw c.in-Ok-Done.field-0-is at given in
    made_tree ends.within ends.made
