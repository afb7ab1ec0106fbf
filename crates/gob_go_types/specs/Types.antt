-- The definitions that Go's encoder makes of declared types. (Go's encoding/gob documentation, Types and Values and
-- Encoding Details, and its type.go and encode.go; docs/FORMAT.md, Descriptions.)
use Rattle.std.specs.Prelude.{◌≡◌, ℕ, ◌≤◌, List, [], ◌∷◌, ◌++◌, Bool, true, false, Option, Some, None, map, nat_eq}
use Rattle.std.specs.Prelude.{slice_get}
use Rattle.std.specs.Borrow.{Bor}
use Rattle.std.specs.Map.{lookup}
use Rattle.gob_types.specs.declared.id.TypeId.{TypeId}
use Rattle.gob_types.specs.declared.kind.Field.{Field}
use Rattle.gob_types.specs.declared.kind.Kind.{Kind}
use Rattle.gob_types.specs.declared.kind.Kind.TheVariants as kind
use Rattle.gob_types.specs.declared.kind.Marshal.{Marshal}
use Rattle.gob_types.specs.Definable.{IsOwnId, greatest_length}
use Rattle.gob_go_source.specs.declared.declarations.GoSource.{GoSource}
use Rattle.gob_go_source.specs.declared.go_type.Declaration.{Declaration}
use Rattle.gob_go_source.specs.declared.go_type.GoField.{GoField}
use Rattle.gob_go_source.specs.declared.go_type.GoType.TheVariants as go
use Rattle.gob_go_types.specs.declared.numbers.Defined.{Defined}
use Rattle.gob_go_types.specs.declared.sight.Sight.{Sight}
use Rattle.gob_go_types.specs.declared.sight.Sight.TheVariants as sight
use Rattle.gob_go_types.specs.declared.sight.Step.TheVariants as step
use Rattle.gob_go_types.specs.Code.{declaration_of}
use Rattle.gob_go_types.specs.Fields.{SendsNames, fields_of}
use Rattle.gob_go_types.specs.Sight.{LeadsFrom, Seen, SeenFrom}

-- it is one of them
abbrev pub Has : {A : Type 0} → List A → A → Type 0
Has {A} xs x = (k : ℕ) × (slice_get xs k ≡ Some x)

-- the definition of a type id: a name and a kind
abbrev pub defined : TypeId → List ℕ → Kind → Defined
defined t name k = record { id = t; shape = record { name = name; kind = k } }

-- which id each declared type has, by the place of its declaration
abbrev pub Ids : Type 0
Ids = List (ℕ × TypeId)

abbrev pub IsNumbered : Ids → ℕ → TypeId → Type 0
IsNumbered ids i t = lookup (nat_eq i) ids ≡ Some t

-- there are lines of a struct, and no field is sent of them: Go's encoder refuses such a struct
abbrev pub lacks_fields : List GoField → List Field → Bool
lacks_fields [] fs = false
lacks_fields (l ∷ ls) [] = true
lacks_fields (l ∷ ls) (f ∷ fs) = false

mutual
  -- among the definitions T, and declared types of these ids, what is seen has the id
  pub data IsOf (s : GoSource) (ids : Ids) (T : List Defined) : Sight → TypeId → Type 0 where
    a_basic : {t : TypeId} → IsOf s ids T (sight.Basic t) t
    an_opaque : {w : Bor (List ℕ)} {m : Marshal} {t : TypeId} → Has T (defined t w.now (kind.Opaque m))
        → IsOf s ids T (sight.Opaque w m) t
    a_declared : {i n : ℕ} {t : TypeId} → IsNumbered ids i t → IsOf s ids T (sight.Own i n) t
    of_parts : {n : ℕ} {k : Kind} {t : TypeId} → HasKind s ids T n k → Has T (defined t [] k)
        → IsOf s ids T (sight.Parts n) t

  -- the type at a place does
  pub data HasId (s : GoSource) (ids : Ids) (T : List Defined) : ℕ → TypeId → Type 0 where
    has_id : {n : ℕ} {v : Sight} {t : TypeId} → Seen s v n → IsOf s ids T v t → HasId s ids T n t

  -- the type at a place, which has parts, has the kind: the ids in it are those of its parts
  pub data HasKind (s : GoSource) (ids : Ids) (T : List Defined) : ℕ → Kind → Type 0 where
    a_slice : {n elem : ℕ} {t : TypeId} → slice_get s.types.items n ≡ Some (go.Slice elem) → HasId s ids T elem t
        → HasKind s ids T n (kind.Slice t)
    an_array : {n elem len : ℕ} {t : TypeId} → slice_get s.types.items n ≡ Some (go.Array len elem)
        → len ≤ greatest_length → HasId s ids T elem t → HasKind s ids T n (kind.Array t len)
    a_map : {n key elem : ℕ} {t u : TypeId} → slice_get s.types.items n ≡ Some (go.Map key elem)
        → HasId s ids T key t → HasId s ids T elem u → HasKind s ids T n (kind.Map t u)
    a_struct : {n : ℕ} {lines : _} {fs : List Field} → slice_get s.types.items n ≡ Some (go.Struct lines)
        → HasFields s ids T lines.items fs → lacks_fields lines.items fs ≡ false → HasKind s ids T n (kind.Struct fs)

  -- the lines of a struct have these fields
  pub data HasFields (s : GoSource) (ids : Ids) (T : List Defined) : List GoField → List Field → Type 0 where
    no_lines : HasFields s ids T [] []
    more_lines : {ls : List GoField} {l : GoField} {fs gs : List Field} → HasFields s ids T ls fs
        → LineHas s ids T l gs → HasFields s ids T (ls ++ l ∷ []) (fs ++ gs)

  -- a line of one does: none where no name is seen in other packages, or nothing is sent of their type
  pub data LineHas (s : GoSource) (ids : Ids) (T : List Defined) : GoField → List Field → Type 0 where
    none_seen : {l : GoField} → SendsNames s l [] → LineHas s ids T l []
    nothing_sent : {l : GoField} → Seen s sight.Unsent l.of → LineHas s ids T l []
    all_sent : {l : GoField} {ws : List (Bor (List ℕ))} {t : TypeId} → SendsNames s l ws → HasId s ids T l.of t
        → LineHas s ids T l (fields_of t ws)

-- the declared type has the id: its definition has its name, and the kind of the type that is behind its declaration
pub record IsDefinedBy (s : GoSource) (ids : Ids) (T : List Defined) (i : ℕ) (t : TypeId) : Type 0 where
  pub declaration : Declaration
  pub parts : ℕ
  pub kind : Kind
  pub declared : slice_get s.declarations.items i ≡ Some declaration
  pub leads : LeadsFrom s i (step.At (sight.Own i parts))
  pub has_kind : HasKind s ids T parts kind
  pub there : Has T (defined t declaration.name.now kind)

-- ids that definitions may give, each once
pub data AreOwnIds : List TypeId → Type 0 where
  no_ids : AreOwnIds []
  one_more_id : {ts : List TypeId} {t : TypeId} → AreOwnIds ts → IsOwnId t → ((Has ts t) → ⊥)
      → AreOwnIds (ts ++ t ∷ [])

-- where the declaration stands that is asked for: that of the name, or the first
abbrev pub wanted_of : List Declaration → Option (List ℕ) → Option ℕ
wanted_of ds (Some w) = declaration_of ds w
wanted_of [] None = None
wanted_of (d ∷ ds) None = Some 0

-- the definitions are those of the declared type that is asked for, whose id this is, and of all that it leads to
pub record AreTypesOf (s : GoSource) (named : Option (List ℕ)) (T : List Defined) (t : TypeId) : Type 0 where
  pub wanted : ℕ
  pub seen_as : Sight
  pub ids : Ids
  pub asked : wanted_of s.declarations.items named ≡ Some wanted
  pub seen : SeenFrom s wanted seen_as
  pub is_of : IsOf s ids T seen_as t
  pub defined_all : (i : ℕ) (u : TypeId) → IsNumbered ids i u → IsDefinedBy s ids T i u
  pub own_ids : AreOwnIds (map (λ d. d.id) T)
