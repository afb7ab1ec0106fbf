-- The kind of a type, and what it says of spellings.
use Rattle.std.proofs.Common.{◌≡◌, ℕ, List, Option, Some, None, IfSome, sym, ap, ◌∙◌, subst}
use Rattle.gob_types.specs.declared.basic.Basic.{Basic}
use Rattle.gob_types.specs.declared.id.TypeId.{TypeId}
use Rattle.gob_types.specs.declared.kind.Field.{Field}
use Rattle.gob_types.specs.declared.kind.Kind.{Kind}
use Rattle.gob_types.specs.declared.kind.Kind.TheVariants as kind
use Rattle.gob_types.specs.declared.kind.Shape.{Shape}
use Rattle.gob_types.specs.Table.{Table, shape_of, basic_of}
use Rattle.gob_types.proofs.PublicLaws.{basic_shape_of, some_injective}
use Rattle.gob_value.specs.Tree.{Tree}
use Rattle.gob_value.specs.Spelling.{Spells, of_type, SpellsAs}
use Rattle.gob_value.specs.Top.{HasStructs, IsStruct}
use Rattle.gob_read.specs.Machine.Kinds.{HasKind}

pub spelled_as : {T : Table} {u : TypeId} {k : Kind} {v : Tree} {b : List ℕ} → HasKind T u k → SpellsAs T k v b
    → Spells T u v b
spelled_as {T = T} {v = v} {b = b} h s = of_type h.there (subst (λ k. SpellsAs T k v b) (sym h.kind) s)

-- a type has one kind
pub one_kind : {T : Table} {u : TypeId} {k l : Kind} → HasKind T u k → HasKind T u l → k ≡ l
one_kind h i = sym h.kind ∙ ap (λ (s : Shape). s.kind) (some_injective (sym h.there ∙ i.there)) ∙ i.kind

struct_injective : {a b : List Field} → kind.Struct a ≡ kind.Struct b → a ≡ b
struct_injective e = cc

pub same_fields : {T : Table} {u : TypeId} {a b : List Field} → HasKind T u (kind.Struct a)
    → HasKind T u (kind.Struct b) → a ≡ b
same_fields h i = struct_injective (one_kind h i)

-- the shape in the table says whether the type's values are structs
pub struct_shape : {T : Table} {u : TypeId} {s : Shape} → shape_of T u ≡ Some s → HasStructs T u → IsStruct s.kind
struct_shape e i = subst (λ (s : Shape). IsStruct s.kind) (some_injective (sym i.found ∙ e)) i.struct

pub struct_type : {T : Table} {u : TypeId} {s : Shape} → shape_of T u ≡ Some s → IsStruct s.kind → HasStructs T u
struct_type {s = s} e i = record { shape = s; found = e; struct = i }

-- what a look-up tells of it
pub named_basic : (T : Table) (u : TypeId) (r : Option Basic) → r ≡ basic_of T u
    → IfSome r (λ b. HasKind T u (kind.Basic b))
named_basic T u None e = tt
named_basic T u (Some b) e =
    let (s, known, is) = basic_shape_of T u (sym e) in
    record { shape = s; there = known; kind = is }
