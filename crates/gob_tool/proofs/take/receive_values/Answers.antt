-- Nothing is kept before the first item.
use Rattle.gob_types.specs.Defined.{types}
use Rattle.gob_tool.proofs.take.receive_values.Goals as goal

pub write_items-requires : goal.write_items-requires
write_items-requires g c = record {
  fits = λ T. record {
    ready = c.requires.ready;
    number = c.requires.number;
    known = c.new-kept.ensures T (types c.args.receiver.now.wanted.now) c.args.receiver.now.wanted_id;
  };
}
