-- In nils in which nothing stands null is shown.
use Rattle.std.proofs.Common.{refl}
use Rattle.gob_types.specs.Defined.{types}
use Rattle.gob_json_writer.specs.Nils.{put_shows}
use Rattle.gob_json_writer.proofs.NilsLaws.{nulls, put_nulls}
use Rattle.gob_json_writer.proofs.WrittenLaws.{same_written}
use Rattle.gob_json_writer.proofs.tape_json.write_tape.Goals as goal

pub returns : goal.returns
returns c = record {
  before = c.write_filled_tape.ensures.before;
  each = λ v m.
      same_written (put_nulls (types c.args.table.now) c.args.id v)
      (c.write_filled_tape.ensures.each _ (put_shows {N = nulls} m (λ k. refl)));
}
