use Rattle.std.proofs.Common.{refl}
use Rattle.gob_left_out.proofs.KindLaws.{struct_parts}
use Rattle.gob_left_out.proofs.kinds.struct_fields.Goals as goal

pub returns : goal.returns
returns c = struct_parts _ c.in-Struct.is refl refl
