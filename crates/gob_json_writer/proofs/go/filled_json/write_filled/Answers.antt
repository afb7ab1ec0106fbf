use Rattle.serde_json.specs.Data.{Data}
use Rattle.gob_types.specs.Table.{Table}
use Rattle.gob_types.specs.declared.id.TypeId.{TypeId}
use Rattle.gob_json_writer.specs.Nils as nils
use Rattle.gob_go.specs.declared.filled.Filled.{Filled}
use Rattle.gob_json_writer.specs.FilledJson.{PutShows, put_shows}
use Rattle.gob_json_writer.specs.Machine.Holding.{Holds, IsLevelOf}
use Rattle.gob_json_writer.specs.declared.go.holding.FilledTape.{FilledTape}
use Rattle.gob_json_writer.proofs.go.filled_json.write_filled.Goals as goal

-- what the value shows with its type, the level shows
put_by_level : {T : Table} {id : TypeId} {value : Filled} {level : FilledTape} {json : Data}
    → IsLevelOf T id value level → PutShows T id value json → nils.PutShows T id level.tape (Holds T level.nils) json
put_by_level l (put_shows {w = w} {v = v} {N = N} f s) =
    let both = l.each w v N f s in nils.put_shows both.0 both.1

pub returns-in-Ok : goal.returns-in-Ok
returns-in-Ok c = record {
  before = c.write_filled_tape.ensures.before;
  each = λ json h. c.write_filled_tape.ensures.each json (put_by_level c.in-Ok.ensures.level h);
}
