-- Source gives no two types one name. (docs/FORMAT.md, Types as source: this project's own.)
use Rattle.std.specs.Prelude.{◌≡◌, ◌<◌, ◌^◌, List, true, Some}
use Rattle.gob_types.specs.declared.id.TypeId.{TypeId}
use Rattle.gob_types.specs.declared.kind.Shape.{Shape}
use Rattle.gob_types.specs.Table.{Table, shape_of}
use Rattle.gob_source.specs.Names.{own_name}
use Rattle.gob_source.specs.Source.{is_among}

-- an id of at least two digits, as each is that a definition gives: a name with such an id behind it is told from those
-- that were sent
abbrev pub IsLongId : TypeId → Type 0
IsLongId t = (9 < t.0) × (t.0 < 2 ^ 64)

-- Two of the types whose source is written, under such ids, are one if they have one name there.
abbrev pub SourceNamesDiffer : Type 0
SourceNamesDiffer = (T : Table) (ts : List TypeId) (t u : TypeId) (r s : Shape) → IsLongId t → IsLongId u
    → is_among t ts ≡ true → is_among u ts ≡ true → shape_of T t ≡ Some r → shape_of T u ≡ Some s
    → own_name T ts t r.name ≡ own_name T ts u s.name → t ≡ u
