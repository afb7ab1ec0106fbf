-- What contracts see of a reader: its session, what waits in it to be handed out, and where the
-- item under way begins, or the next one.
use Rattle.std.specs.Prelude.{ℕ, List, drop}
use Rattle.gob_types.specs.Defined.{types}
use Rattle.gob_types.specs.Table.{Table}
use Rattle.gob_stream.specs.Stepping.{Stepping}
use Rattle.gob_handed.specs.declared.reader.Reader.{Reader}
use Rattle.gob_handed.specs.declared.handout.Handout.{Handout}

abbrev pub session_of : {X I : Type 0} → Reader X I → X
session_of r = r.session

-- the types that the stream has defined so far
abbrev pub types_in : {X I Told : Type 0} → Stepping X I Told → Reader X I → Table
types_in d r = types (d.table (session_of r))

abbrev pub waiting : {X I : Type 0} → Reader X I → List Handout
waiting r = drop r.waiting.taken r.waiting.handouts.items

abbrev pub begin_of : {X I : Type 0} → Reader X I → ℕ
begin_of r = r.begin
