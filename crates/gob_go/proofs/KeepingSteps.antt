-- Between two items a session stands where it stands, whether it keeps what fills nils in the items to come or not.
use Rattle.std.proofs.Common.{◌≡◌, ℕ, List, Bool, refl}
use Rattle.gob_types.specs.Table.{Table}
use Rattle.gob_stream.specs.Bounds.{Bounds}
use Rattle.gob_filled.specs.Stream.{FilledItem}
use Rattle.gob_go.specs.Calls.Session.{StandsAfter}
use Rattle.gob_go.specs.Machine.HasRead.{IsUsable, StageHasRead, has_failed, stands_after}
use Rattle.gob_go.specs.Machine.HasRead.{in_count, in_definition, in_put, in_type_number}
use Rattle.gob_go.specs.Machine.SessionState.{SessionState}
use Rattle.gob_go.specs.Machine.Stages.{count_at}
use Rattle.gob_go.specs.declared.stage.Stage.{Stage}

-- no byte of an item was taken
read_keeping : {keep : Bool} {L : Bounds} {T U : Table} {offset at : ℕ} {expects : Stage} {y : List ℕ} (k : Bool)
    → StageHasRead keep L T offset U expects y → expects ≡ count_at at → StageHasRead k L T offset U expects y
read_keeping k (in_count q same n) e = in_count q same n
read_keeping k (in_type_number a same n m) e = absurd (cc)
read_keeping k (in_definition a y same n d) e = absurd (cc)
read_keeping k (in_put p) e = absurd (cc)

pub stands_keeping : {keep : Bool} {s : SessionState} {items : List FilledItem} {bytes : List ℕ} (k : Bool)
    → s.stage ≡ count_at s.taken → StandsAfter keep s items bytes
    → StandsAfter k (record s { keeps = k }) items bytes
stands_keeping k between a = record {
  prefix = a.prefix;
  under_way = a.under_way;
  table = a.table;
  whole = a.whole;
  are_bytes = a.are_bytes;
  stream = a.stream;
  stage = read_keeping k a.stage between;
  taken = a.taken;
  room = a.room;
  kept = refl;
}

pub usable_keeping : {s : SessionState} (k : Bool) → s.stage ≡ count_at s.taken → IsUsable s
    → IsUsable (record s { keeps = k })
usable_keeping k between (has_failed e) = has_failed e
usable_keeping k between (stands_after a) = stands_after (stands_keeping k between a)
