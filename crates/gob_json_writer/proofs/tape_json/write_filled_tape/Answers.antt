-- The value is what the tape's root shows.
use Rattle.std.proofs.Common.{◌∙◌, None, ℕ, Result}
use Rattle.json.specs.Written.{Written}
use Rattle.serde_json.specs.Data.{Data}
use Rattle.gob_types.specs.declared.id.TypeId.{TypeId}
use Rattle.gob_types.specs.Table.{Table}
use Rattle.gob_value.specs.Tree.{Tree}
use Rattle.gob_tape.specs.Flat.{Flat}
use Rattle.gob_tape.specs.Meaning.{Means}
use Rattle.gob_json_writer.specs.Nils.{PutShows, put_shows}
use Rattle.gob_json_writer.specs.NilsJson.{put_json_with}
use Rattle.gob_json_writer.specs.WritesJson.{WritesJson}
use Rattle.gob_json_writer.proofs.WrittenLaws.{one_written, both_written}
use Rattle.gob_json_writer.proofs.tape_json.write_filled_tape.Goals as goal

put_written : {E : Type 0} {r : Result (Unit {0}) E} {old new : Written} {T : Table} {id : TypeId} {tape : Flat}
    {shows : (ℕ → Data) → ℕ → Type 0} {json : Data}
    → ((v : Tree) (N : ℕ → Data) → Means tape v → shows N 0 → WritesJson r old new (put_json_with N T id v))
    → PutShows T id tape shows json → WritesJson r old new json
put_written w (put_shows {v = v} {N = N} m s) = w v N m s

pub returns : goal.returns
returns g c = record {
  before = c.end_object.ensures.room.0 ∙ c.in_ok-write_part.ensures.written.before ∙ c.in_ok-key-2.ensures.room.0
      ∙ c.in_ok-u64.ensures.room.0 ∙ c.in_ok-key.ensures.room.0 ∙ c.in_ok-begin_object.ensures.room.0;
  each = λ json h. put_written (λ v N m s.
      both_written (one_written c.in_ok-begin_object.ensures) (both_written (one_written c.in_ok-key.ensures)
      (both_written (one_written c.in_ok-u64.ensures) (both_written (one_written c.in_ok-key-2.ensures)
      (both_written (c.in_ok-write_part.ensures.written.each v N 0 (None, c.root.ensures v m) s).0
      (one_written c.end_object.ensures)))))) h;
}
