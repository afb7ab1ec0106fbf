use Rattle.gob_left_out.proofs.KindLaws.{leaf_either, leaf_parts}
use Rattle.gob_left_out.proofs.kinds.kind_parts.Goals as goal

pub returns-in-Basic : goal.returns-in-Basic
returns-in-Basic c = leaf_parts (leaf_either c.in-Basic.is) c.requires
