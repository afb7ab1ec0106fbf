use Rattle.std.proofs.Common.{[], subst, sym}
use Rattle.gob_go_writer.specs.Machine.Letters.{AreEnded, none_ended}
use Rattle.gob_go_writer.proofs.segments.Segments.new.Goals as goal

pub returns : goal.returns
returns c = record {
  ended = [];
  are_ended = subst (AreEnded []) (sym c.new.ensures.items) none_ended;
  whole = sym c.new-2.ensures.items;
}
