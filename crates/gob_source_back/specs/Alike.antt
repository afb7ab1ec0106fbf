-- Types of a stream, and the types that reading their Go source gives: structs, slices, arrays, maps, basic types and
-- types that encode themselves. (docs/FORMAT.md, Types as source: this project's own.)
use Rattle.std.specs.Prelude.{◌≡◌, ℕ, zero, suc, ◌≤◌, ◌<◌, ◌^◌, List, [], ◌∷◌, ◌++◌, true, Option}
use Rattle.std.specs.Prelude.{IsSome, None, Some}
use Rattle.gob_types.specs.declared.id.TypeId.{TypeId}
use Rattle.gob_types.specs.declared.kind.Field.{Field}
use Rattle.gob_types.specs.declared.kind.Kind.{Kind}
use Rattle.gob_types.specs.declared.kind.Kind.TheVariants as kind
use Rattle.gob_types.specs.declared.kind.Marshal.{Marshal}
use Rattle.gob_types.specs.declared.kind.Shape.{Shape}
use Rattle.gob_types.specs.Definable.{greatest_length}
use Rattle.gob_types.specs.Table.{Table, shape_of}
use Rattle.gob_source.specs.Library.{shape_package}
use Rattle.gob_source.specs.Names.{own_name}
use Rattle.gob_source.specs.Registered.{Naming}
use Rattle.gob_source.specs.Source.{has_parts, is_among, is_declared, named_source}
use Rattle.gob_go_source.specs.declared.declarations.GoSource.{GoSource}
use Rattle.gob_go_source.specs.Source.{SaysText}
use Rattle.gob_go_types.specs.declared.numbers.Defined.{Defined}
use Rattle.gob_go_types.specs.Fields.{is_exported}
use Rattle.gob_go_types.specs.Types.{AreTypesOf, Has, defined}

-- ---- what is written

-- one of the types that each stream has, and no type of a description
abbrev pub IsBasicId : TypeId → Type 0
IsBasicId t = (1 ≤ t.0) × (t.0 ≤ 8)

-- the type of a field, an element or a key: a basic one, or one of these
pub data IsPart (ts : List TypeId) (t : TypeId) : Type 0 where
  a_basic_part : IsBasicId t → IsPart ts t
  a_written_part : is_among t ts ≡ true → IsPart ts t

-- behind the fields that were seen, each of these is declared, and its name begins with a capital
pub data AreFields (ts : List TypeId) : (seen rest : List Field) → Type 0 where
  no_fields : {seen : List Field} → AreFields ts seen []
  one_field : {seen fs : List Field} {f : Field} → is_declared seen f ≡ true → is_exported f.name ≡ true
      → IsPart ts f.id → AreFields ts (seen ++ f ∷ []) fs → AreFields ts seen (f ∷ fs)

-- what a type is, of parts that are basic or among these types. One that encodes itself, of Go's library or not, has no
-- parts
pub data IsWrittenKind (ts : List TypeId) : Kind → Type 0 where
  a_struct : {fs : List Field} → AreFields ts [] fs → IsWrittenKind ts (kind.Struct fs)
  a_slice : {e : TypeId} → IsPart ts e → IsWrittenKind ts (kind.Slice e)
  an_array : {e : TypeId} {n : ℕ} → IsPart ts e → n ≤ greatest_length → IsWrittenKind ts (kind.Array e n)
  a_map : {k e : TypeId} → IsPart ts k → IsPart ts e → IsWrittenKind ts (kind.Map k e)
  an_opaque : {m : Marshal} → IsWrittenKind ts (kind.Opaque m)

-- a type with the id of a definition
pub record IsWritten (T : Table) (ts : List TypeId) (t : TypeId) : Type 0 where
  pub shape : Shape
  pub has : shape_of T t ≡ Some shape
  pub own : 8 < t.0
  pub small : t.0 < 2 ^ 64
  pub kinds : IsWrittenKind ts shape.kind

-- each of these is one
pub data EachIsWritten (T : Table) (ts : List TypeId) : List TypeId → Type 0 where
  none_is_written : EachIsWritten T ts []
  one_is_written : {t : TypeId} {us : List TypeId} → IsWritten T ts t → EachIsWritten T ts us
      → EachIsWritten T ts (t ∷ us)

-- each of the types is one. Where an id has one digit, which none has that a definition gives, no other type has the
-- name in the source that its type has: under longer ids no two have one name (SourceNamesDiffer)
pub record AreWritten (T : Table) (ts : List TypeId) : Type 0 where
  pub each : EachIsWritten T ts ts
  pub distinct : (t u : TypeId) (r s : Shape) → t.0 < 10 → is_among t ts ≡ true → is_among u ts ≡ true
      → shape_of T t ≡ Some r → shape_of T u ≡ Some s → own_name T ts t r.name ≡ own_name T ts u s.name → t ≡ u

-- ---- what is asked for

-- the type is the first of these, or the one among them that has the name in the source
pub data IsAsked (T : Table) : Option (List ℕ) → List TypeId → TypeId → Type 0 where
  the_first : {t : TypeId} {us : List TypeId} → IsAsked T None (t ∷ us) t
  the_named : {ts : List TypeId} {t : TypeId} {s : Shape} → is_among t ts ≡ true → shape_of T t ≡ Some s
      → IsAsked T (Some (own_name T ts t s.name)) ts t

-- ---- types that are alike

-- the name of a type that is made is that of its declaration, which is the one that was sent where source keeps it.
-- There is none of a list or a map that has no name of its own. A type of Go's library has the one that was sent where
-- another type names it, by its package, whatever its declaration has
pub data IsNameOf (T : Table) (ts : List TypeId) (t : TypeId) (s : Shape) : List ℕ → Type 0 where
  its_own : {name : List ℕ} → name ≡ own_name T ts t s.name → IsNameOf T ts t s name
  without_name : has_parts s ≡ true → IsNameOf T ts t s []
  of_library : IsSome (shape_package s) → IsNameOf T ts t s s.name

mutual
  -- Down to this depth a type among the definitions is as one of the table: the same basic type, or of the name that it
  -- has and of an alike kind. Their ids may differ.
  pub data IsAlike (D : List Defined) (T : Table) (ts : List TypeId) : ℕ → TypeId → TypeId → Type 0 where
    not_looked : {t u : TypeId} → IsAlike D T ts zero t u
    same_basic : {depth : ℕ} {t : TypeId} → IsBasicId t → IsAlike D T ts depth t t
    alike_types : {depth : ℕ} {t u : TypeId} {name : List ℕ} {k : Kind} {s : Shape} → Has D (defined t name k)
        → shape_of T u ≡ Some s → IsNameOf T ts u s name → HasAlikeKind D T ts depth k s.kind
        → IsAlike D T ts (suc depth) t u

  -- lists, maps and structs of alike parts, arrays of the same length, types that encode themselves by the same method
  pub data HasAlikeKind (D : List Defined) (T : Table) (ts : List TypeId) : ℕ → Kind → Kind → Type 0 where
    alike_structs : {depth : ℕ} {fs gs : List Field} → AreAlike D T ts depth fs gs
        → HasAlikeKind D T ts depth (kind.Struct fs) (kind.Struct gs)
    alike_slices : {depth : ℕ} {e f : TypeId} → IsAlike D T ts depth e f
        → HasAlikeKind D T ts depth (kind.Slice e) (kind.Slice f)
    alike_arrays : {depth n : ℕ} {e f : TypeId} → IsAlike D T ts depth e f
        → HasAlikeKind D T ts depth (kind.Array e n) (kind.Array f n)
    alike_maps : {depth : ℕ} {k l e f : TypeId} → IsAlike D T ts depth k l → IsAlike D T ts depth e f
        → HasAlikeKind D T ts depth (kind.Map k e) (kind.Map l f)
    alike_opaques : {depth : ℕ} {m : Marshal} → HasAlikeKind D T ts depth (kind.Opaque m) (kind.Opaque m)

  -- fields of the same names in the same order, of alike types
  pub data AreAlike (D : List Defined) (T : Table) (ts : List TypeId) : ℕ → List Field → List Field → Type 0 where
    no_more : {depth : ℕ} → AreAlike D T ts depth [] []
    alike_field : {depth : ℕ} {f g : Field} {fs gs : List Field} → f.name ≡ g.name → IsAlike D T ts depth f.id g.id
        → AreAlike D T ts depth fs gs → AreAlike D T ts depth (f ∷ fs) (g ∷ gs)

-- ---- the law

-- Whatever the source of such types says, with any registered names beside them, and whatever definitions are made of
-- that, the type that is asked for is as the table has it, to any depth.
abbrev pub WrittenTypesAreReadBack : Type 0
WrittenTypesAreReadBack = (T : Table) (ts : List TypeId) (ps : List Naming) (s : GoSource) (named : Option (List ℕ))
    (D : List Defined) (t u : TypeId) (depth : ℕ) → AreWritten T ts
    → SaysText (named_source T ts ps) s.types.items s.declarations.items → AreTypesOf s named D t
    → IsAsked T named ts u → IsAlike D T ts depth t u
