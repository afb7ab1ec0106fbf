-- The laws of readers of bodies. (docs/FORMAT.md, Types and the base table: a stream's table only grows.)
use Rattle.std.specs.Prelude.{ℕ, List}
use Rattle.gob_types.specs.declared.id.TypeId.{TypeId}
use Rattle.gob_types.specs.Table.{Table, Extends}
use Rattle.gob_read.specs.Building.{Building}
use Rattle.gob_read.specs.Calls.UnderWay.{HasReadBody, FitsTable}
use Rattle.gob_read.specs.declared.reader.BodyReader.{BodyReader}

-- where the reader stands under a table, it stands when the table grows
abbrev pub StaysRead : {X O : Type 0} {most : ℕ} → Building X O most → BodyReader X O → Type 0
StaysRead building reader = (T U : Table) (t : TypeId) (limit announced : ℕ) (z : List ℕ) → Extends T U
    → HasReadBody building T t limit announced reader z → HasReadBody building U t limit announced reader z

-- and it stays of use
abbrev pub StaysUsable : {X O : Type 0} {most : ℕ} → Building X O most → BodyReader X O → Type 0
StaysUsable building reader = (T U : Table) → Extends T U → FitsTable building T reader → FitsTable building U reader
