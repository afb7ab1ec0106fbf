use Rattle.std.proofs.Common.{◌∙◌, refl}
use Rattle.gob_filled.specs.Stream.{no_more}
use Rattle.gob_filled_writer.proofs.writer.FilledWriter.new.Goals as goal

pub returns-clause-nothing : goal.returns-clause-nothing
returns-clause-nothing c = record {
  stream = no_more;
  table = c.in_ok-types.ensures.base;
  room = c.in_ok-types.ensures.most ∙ c.types.ensures.types;
  offset = refl;
  sound = refl;
}
