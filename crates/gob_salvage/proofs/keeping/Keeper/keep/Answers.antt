use Rattle.std.proofs.Common.{refl}
use Rattle.gob_salvage.proofs.keeping.Keeper.keep.Goals as goal

pub returns : goal.returns
returns c = record {
  items = refl;
  bytes = c.in_ok-extend_from_slice.ensures.items;
  at = refl;
  session = refl;
  defining = refl;
  gaps = refl;
  read = refl;
  later = refl;
  in_step = refl;
  search = refl;
}
