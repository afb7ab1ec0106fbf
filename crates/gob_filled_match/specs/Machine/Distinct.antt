-- Each id has one shape in a table whose interfaces are numbers, too.
use Rattle.std.specs.Prelude.{◌≡◌, ◌==◌, [], ◌∷◌, Option, Some, None, Bool, true, false, if◌then◌else◌, refl}
use Rattle.std.proofs.Common.{ap, ◌∙◌}
use Rattle.gob_types.specs.declared.id.TypeId.{TypeId}
use Rattle.gob_types.specs.declared.kind.Shape.{Shape}
use Rattle.gob_types.specs.Defined.{Defined, types}
use Rattle.gob_types.specs.Machine.Distinct.{distinct-types}
use Rattle.gob_types.specs.Table.{Table, shape_of, HasDistinctIds}
use Rattle.gob_filled_match.specs.Numbered.{numbered, numbered_shape}

-- the shape where there is one
abbrev pub numbered_in : Option Shape → Option Shape
numbered_in None = None
numbered_in (Some s) = Some (numbered_shape s)

same_in : (b : Bool) (s : Shape) (o p : Option Shape) → p ≡ numbered_in o
    → (if b then Some (numbered_shape s) else p) ≡ numbered_in (if b then Some s else o)
same_in true s o p e = refl
same_in false s o p e = e

-- a look-up gives the shape that it gives in the table itself, numbered
pub shape_of-numbered : (T : Table) (t : TypeId) → shape_of (numbered T) t ≡ numbered_in (shape_of T t)
shape_of-numbered [] t = refl
shape_of-numbered (entry ∷ T) t =
    same_in (entry.0.0 == t.0) entry.1 (shape_of T t) (shape_of (numbered T) t) (shape_of-numbered T t)

pub distinct-numbered : (T : Table) → HasDistinctIds T → HasDistinctIds (numbered T)
distinct-numbered [] d = tt
distinct-numbered (entry ∷ T) d =
    (shape_of-numbered T entry.0 ∙ ap numbered_in d.0, distinct-numbered T d.1)

pub distinct-types-numbered : (d : Defined) → HasDistinctIds (numbered (types d))
distinct-types-numbered d = distinct-numbered (types d) (distinct-types d)
