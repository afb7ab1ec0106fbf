use Rattle.std.proofs.Common.{[], refl, ◌∙◌}
use Rattle.gob_types.specs.Base.{base_table}
use Rattle.gob_stream.specs.Stream.{no_more}
use Rattle.gob_stream.specs.Calls.Writing.{has_written}
use Rattle.gob_stream.proofs.stream_writer.StreamWriter.new.Goals as goal

pub invariant_of-result : goal.invariant_of-result
invariant_of-result c = has_written (record {
  items = [];
  bytes = [];
  table = base_table;
  written = record {
    stream = no_more;
    table = c.in_ok-types.ensures.base;
    room = c.in_ok-types.ensures.most
        ∙ c.types.ensures.types;
    offset = refl;
    sound = refl;
  };
})

pub returns : goal.returns
returns c = record {
  limits = refl;
  nothing = record {
    stream = no_more;
    table = c.in_ok-types.ensures.base;
    room =
        c.in_ok-types.ensures.most ∙ c.types.ensures.types;
    offset = refl;
    sound = refl;
  };
}
