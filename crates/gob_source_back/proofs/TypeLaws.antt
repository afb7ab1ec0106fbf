-- What is seen of types that are written, and that it is alike to what they are written of.
use Rattle.std.proofs.Common.{◌≡◌, ◌∙◌, ℕ, zero, suc, ◌+◌, List, [], ◌∷◌, ◌++◌, Bool, true, false, refl, ap, sym, subst}
use Rattle.std.proofs.Common.{append_assoc, arith, codes, Some, None, if◌then◌else◌, ◌==◌, ◌||◌, eqb-true, ◌≤◌, decimal}
use Rattle.std.proofs.lemmas.Fmt.{decimal_injective}
use Rattle.std.proofs.lemmas.Option.{none-some}
use Rattle.std.proofs.lemmas.Slice.Eq.{bytes_eq-Decides}
use Rattle.std.specs.Borrow.{Bor}
use Rattle.std.specs.Prelude.{IsSome, Option, slice_get}
use Rattle.gob_types.proofs.PublicLaws.{some_injective}
use Rattle.gob_types.specs.declared.id.TypeId.{TypeId}
use Rattle.gob_types.specs.declared.kind.Field.{Field}
use Rattle.gob_types.specs.declared.kind.Kind.{Kind}
use Rattle.gob_types.specs.declared.kind.Kind.TheVariants as kind
use Rattle.gob_types.specs.declared.kind.Marshal.{Marshal}
use Rattle.gob_types.specs.declared.kind.Marshal.TheVariants as marshal
use Rattle.gob_types.specs.declared.kind.Shape.{Shape}
use Rattle.gob_types.specs.Base.{id}
use Rattle.gob_types.specs.Table.{Table, shape_of}
use Rattle.gob_types.specs.Definable.{greatest_length}
use Rattle.gob_source.specs.Library.{shape_package}
use Rattle.gob_source.specs.Names.{is_reserved, own_name}
use Rattle.gob_source.specs.Source.{has_parts, is_among}
use Rattle.gob_go_source.specs.declared.declarations.GoSource.{GoSource}
use Rattle.gob_go_source.specs.declared.go_type.Declaration.{Declaration}
use Rattle.gob_go_source.specs.declared.go_type.GoField.{GoField}
use Rattle.gob_go_source.specs.declared.go_type.GoType.{GoType}
use Rattle.gob_go_source.specs.declared.go_type.GoType.TheVariants as go
use Rattle.gob_go_types.specs.declared.numbers.Defined.{Defined}
use Rattle.gob_go_types.specs.Code.{declaration_of, declared_at, declared_by, first_declared, is_name}
use Rattle.gob_go_types.specs.Fields.{SendsNames, are_none, embedded, exported, fields_of, is_exported, written}
use Rattle.gob_go_types.specs.Library.{basic_named, is_byte, known_of}
use Rattle.gob_go_types.specs.Sight.{Ends, EndsName, EndsSlice, Leads, LeadsFrom, Seen, SeenFrom, Underlies, itself}
use Rattle.gob_go_types.specs.Sight.{behind, a_basic_name, of_bytes, of_others, a_pointer, a_name, of_library, a_slice}
use Rattle.gob_go_types.specs.Sight.{an_array, a_map, a_struct, an_interface, not_sent, parts_sight, declared_opaque}
use Rattle.gob_go_types.specs.Sight.{another_name, of_its_own, by_declaration, by_itself, seen, seen_on, seen_there}
use Rattle.gob_go_types.specs.Sight.{seen_behind, is_byte_type, EndsLibrary, a_whole_number, encodes_itself}
use Rattle.gob_go_types.specs.Types.{AreTypesOf, Has, HasFields, HasId, HasKind, Ids, IsDefinedBy, IsNumbered, IsOf}
use Rattle.gob_go_types.specs.Types.{LineHas, defined, a_basic, a_declared, all_sent, an_opaque, has_id, more_lines}
use Rattle.gob_go_types.specs.Types.{no_lines, none_seen, nothing_sent, of_parts, wanted_of}
use Rattle.gob_go_types.specs.Types as types
use Rattle.gob_source_back.specs.Alike.{AreAlike, HasAlikeKind, IsAlike, IsBasicId, IsWritten, alike_arrays}
use Rattle.gob_source_back.specs.Alike.{alike_field, alike_maps, alike_slices, alike_structs, alike_types, its_own}
use Rattle.gob_source_back.specs.Alike.{no_more, without_name, IsAsked, not_looked, same_basic}
use Rattle.gob_source_back.specs.Alike.{the_first, the_named, alike_opaques, of_library}
use Rattle.gob_source_back.proofs.Named.{Sight, Step, known_opaque, sight_basic, sight_opaque, sight_own, step_at}
use Rattle.gob_source_back.proofs.Named.{step_on}
use Rattle.gob_source_back.proofs.Written.{Body, BodyStands, array_of, at_array, at_map, fields, fields_stand, map_of}
use Rattle.gob_source_back.proofs.Written.{parts, parts_stand, AreDeclared, IsDeclared, Line, LinesStand, StandsAt}
use Rattle.gob_source_back.proofs.Written.{Struct, Written, at_interface, at_pointer, at_slice, at_word, interface}
use Rattle.gob_source_back.proofs.Written.{more_declared, no_line, none_declared, one_line, pointer, slice, word}
use Rattle.gob_source_back.proofs.Written.{another, another_stands, at_qualified, is_another, qualified}
use Rattle.gob_source_back.proofs.NameLaws.{no_name, own_free}

-- ---- what is written of types

-- by what a type encodes itself
abbrev pub kind_marshal : Kind → Option Marshal
kind_marshal (kind.Opaque m) = Some m
kind_marshal _ = None

-- the type is one of Go's library, of the package of this name
pub record IsOfLibrary (s : Shape) (p : List ℕ) : Type 0 where
  pub marshal : Marshal
  pub is : s.kind ≡ kind.Opaque marshal
  pub some : IsSome (shape_package s)
  pub known : known_of p s.name ≡ known_opaque marshal

mutual
  -- the type is written so where it is a part of others
  pub data TypeOf (T : Table) (ts : List TypeId) : TypeId → Written → Type 0 where
    of_basic : {u : TypeId} {w : List ℕ} → basic_named w ≡ Some u → IsBasicId u → is_reserved w ≡ true
        → is_byte w ≡ false → TypeOf T ts u (word w)
    of_byte : {u : TypeId} {e : Written} → e ≡ word (codes "byte") → u ≡ id 5 → TypeOf T ts u (slice e)
    of_any : {u : TypeId} → u ≡ id 8 → TypeOf T ts u interface
    of_name : {u : TypeId} {w : List ℕ} (x : IsWritten T ts u) → is_among u ts ≡ true
        → w ≡ own_name T ts u x.shape.name → TypeOf T ts u (word w)
    of_package : {u : TypeId} {p w : List ℕ} (x : IsWritten T ts u) → IsOfLibrary x.shape p → w ≡ x.shape.name
        → TypeOf T ts u (qualified p w)
    of_pointed : {u : TypeId} {e : Written} → TypeOf T ts u e → TypeOf T ts u (pointer e)
    of_its_parts : {u : TypeId} {k : Kind} {e : Written} (x : IsWritten T ts u) → has_parts x.shape ≡ true
        → x.shape.kind ≡ k → PartsOf T ts k e → TypeOf T ts u e

  -- the list or map of this kind is
  pub data PartsOf (T : Table) (ts : List TypeId) : Kind → Written → Type 0 where
    slice_parts : {v : TypeId} {e : Written} → TypeOf T ts v e → PartsOf T ts (kind.Slice v) (slice e)
    array_parts : {v : TypeId} {n : ℕ} {e : Written} → n ≤ greatest_length → TypeOf T ts v e
        → PartsOf T ts (kind.Array v n) (array_of n e)
    map_parts : {k v : TypeId} {a e : Written} → TypeOf T ts k a → TypeOf T ts v e
        → PartsOf T ts (kind.Map k v) (map_of a e)

pub data LinesOf (T : Table) (ts : List TypeId) : List Field → List Line → Type 0 where
  no_line_of : LinesOf T ts [] []
  line_of : {f : Field} {fs : List Field} {l : Line} {ls : List Line} → l.name ≡ f.name → is_exported f.name ≡ true
      → TypeOf T ts f.id l.type → LinesOf T ts fs ls → LinesOf T ts (f ∷ fs) (l ∷ ls)

-- a declared type of this kind is written so
pub data BodyOf (T : Table) (ts : List TypeId) : Kind → Body → Type 0 where
  fields_of_body : {fs : List Field} {ls : List Line} → LinesOf T ts fs ls → BodyOf T ts (kind.Struct fs) (fields ls)
  parts_of_body : {k : Kind} {e : Written} → PartsOf T ts k e → BodyOf T ts k (parts e)
  string_of_body : {m : Marshal} → BodyOf T ts (kind.Opaque m) (parts (word (codes "string")))
  another_of_body : {m : Marshal} {p w : List ℕ} → BodyOf T ts (kind.Opaque m) (another (qualified p w))

-- the declaration is that of the type
pub record IsStructOf (T : Table) (ts : List TypeId) (u : TypeId) (x : Struct) : Type 0 where
  pub is : IsWritten T ts u
  pub among : is_among u ts ≡ true
  pub named : x.name ≡ own_name T ts u is.shape.name
  pub marshal : x.marshal ≡ kind_marshal is.shape.kind
  pub body : BodyOf T ts is.shape.kind x.body

pub data AreStructsOf (T : Table) (ts : List TypeId) : List TypeId → List Struct → Type 0 where
  no_struct_of : AreStructsOf T ts [] []
  struct_of : {u : TypeId} {us : List TypeId} {x : Struct} {xs : List Struct} → IsStructOf T ts u x
      → AreStructsOf T ts us xs → AreStructsOf T ts (u ∷ us) (x ∷ xs)

-- no two types have one name in the source
abbrev pub AreDistinct : Table → List TypeId → Type 0
AreDistinct T ts = (t u : TypeId) (r s : Shape) → is_among t ts ≡ true → is_among u ts ≡ true → shape_of T t ≡ Some r
    → shape_of T u ≡ Some s → own_name T ts t r.name ≡ own_name T ts u s.name → t ≡ u

-- ---- names

same_shapes : {T : Table} {ts : List TypeId} {u : TypeId} (x y : IsWritten T ts u) → x.shape ≡ y.shape
same_shapes x y = some_injective (sym x.has ∙ y.has)

-- the place of a declaration that is that of a type
record IsPlace (T : Table) (ts : List TypeId) (types : List GoType) (ds : List Declaration) (u : TypeId)
    (at : ℕ) : Type 0 where
  declaration : Declaration
  struct : Struct
  declared : slice_get ds at ≡ Some declaration
  is : IsDeclared types declaration struct
  of : IsStructOf T ts u struct

unknown_name : {T : Table} {ts : List TypeId} {types : List GoType} {us : List TypeId} {ds : List Declaration}
    {xs : List Struct} (n : ℕ) (w : List ℕ) → AreDeclared types ds xs → AreStructsOf T ts us xs → is_reserved w ≡ true
    → first_declared n ds w ≡ None
unknown_name n w none_declared of e = refl
unknown_name {T = T} {ts = ts} n w (more_declared {d = d} {ds = ds} one more) (struct_of {u = u} is of) e =
    let free = own_free T ts u is.is.shape.name is.is.small in
    let other = no_name d.name.now w (ap is_reserved (one.named ∙ is.named) ∙ free) e in
    ap (λ (b : Bool). if b then Some n else first_declared (n + 1) ds w) other ∙ unknown_name (n + 1) w more of e

record Found (T : Table) (ts : List TypeId) (types : List GoType) (ds : List Declaration) (u : TypeId) (n : ℕ)
    (w : List ℕ) : Type 0 where
  at : ℕ
  found : first_declared n ds w ≡ Some (n + at)
  place : IsPlace T ts types ds u at

pub same_id : (v u : TypeId) → (v.0 == u.0) ≡ true → v ≡ u
same_id v u e = ap (λ (n : ℕ). id n) (eqb-true v.0 u.0 e)

found_later : {T : Table} {ts : List TypeId} {types : List GoType} {ds : List Declaration} {u : TypeId} (n : ℕ)
    (w : List ℕ) (d : Declaration) → is_name d.name.now w ≡ false → Found T ts types ds u (n + 1) w
    → Found T ts types (d ∷ ds) u n w
found_later {ds = ds} n w d other r = record {
  at = suc r.at;
  found = ap (λ (b : Bool). if b then Some n else first_declared (n + 1) ds w) other ∙ r.found
      ∙ ap (λ (k : ℕ). Some k) (omega arith);
  place = record {
    declaration = r.place.declaration;
    struct = r.place.struct;
    declared = r.place.declared;
    is = r.place.is;
    of = r.place.of;
  };
}

found_here : {T : Table} {ts : List TypeId} {types : List GoType} {ds : List Declaration} {u v : TypeId} {y : Struct}
    (n : ℕ) (w : List ℕ) (d : Declaration) → IsDeclared types d y → IsStructOf T ts v y → v ≡ u
    → is_name d.name.now w ≡ true → Found T ts types (d ∷ ds) u n w
found_here {T = T} {ts = ts} {ds = ds} {y = y} n w d one is same test = record {
  at = 0;
  found = ap (λ (b : Bool). if b then Some n else first_declared (n + 1) ds w) test
      ∙ ap (λ (k : ℕ). Some k) (omega arith);
  place = record {
    declaration = d;
    struct = y;
    declared = refl;
    is = one;
    of = subst (λ (t : TypeId). IsStructOf T ts t y) same is;
  };
}

find_name : {T : Table} {ts : List TypeId} {types : List GoType} {us : List TypeId} {ds : List Declaration}
    {xs : List Struct} (n : ℕ) (u : TypeId) (x : IsWritten T ts u) → AreDistinct T ts → is_among u ts ≡ true
    → AreDeclared types ds xs → AreStructsOf T ts us xs → is_among u us ≡ true
    → Found T ts types ds u n (own_name T ts u x.shape.name)
find_name n u x distinct within none_declared no_struct_of e = cc
find_name {T = T} {ts = ts} {types = types} n u x distinct within (more_declared {d = d} {ds = ds} {x = y} one more)
    (struct_of {u = v} {us = us} is of) e =
    by (is_name d.name.now w) refl (λ k. find_name (n + 1) u x distinct within more of k)
  where
    w : List ℕ
    w = own_name T ts u x.shape.name

    named : d.name.now ≡ own_name T ts v is.is.shape.name
    named = one.named ∙ is.named

    unlike : v ≡ u → is_name d.name.now w ≡ false → ⊥
    unlike same other =
        let whole = subst (λ (t : TypeId). IsStructOf T ts t y) same is in
        let name = one.named ∙ whole.named
        ∙ ap (λ (r : Shape). own_name T ts u r.name) (same_shapes whole.is x) in
        let test = sym other ∙ (bytes_eq-Decides d.name.now w).1 name in cc

    among : is_name d.name.now w ≡ false → (b : Bool) → (v.0 == u.0) ≡ b → (b || is_among u us) ≡ true
        → is_among u us ≡ true
    among other true same f = absurd (unlike (same_id v u same) other)
    among other false same f = f

    by : (b : Bool) → is_name d.name.now w ≡ b → (is_among u us ≡ true → Found T ts types ds u (n + 1) w)
        → Found T ts types (d ∷ ds) u n w
    by true same go =
        let name = (bytes_eq-Decides d.name.now w).0 same in
        found_here n w d one is (distinct v u is.is.shape x.shape is.among within is.is.has x.has
        (sym named ∙ name)) same
    by false same go = found_later n w d same (go (among same (v.0 == u.0) refl e))

-- ---- looks

-- what is seen of a declared type that encodes itself so, or that doesn't
abbrev declared_sight : GoSource → Option Marshal → ℕ → Declaration → Sight
declared_sight s None at d = sight_own at d.of
declared_sight s (Some m) at d = sight_opaque s d.name m

-- what is seen is the basic type, the one that is declared at a place, one of Go's library, or parts without a name
data Sees (T : Table) (ts : List TypeId) (s : GoSource) (v : Sight) (u : TypeId) : Type 0 where
  a_basic_sight : v ≡ sight_basic s u → IsBasicId u → Sees T ts s v u
  a_declared_sight : {at : ℕ} (place : IsPlace T ts s.types.items s.declarations.items u at)
      → v ≡ declared_sight s place.struct.marshal at place.declaration → Sees T ts s v u
  a_library_sight : {w : Bor (List ℕ)} {m : Marshal} (x : IsWritten T ts u) → IsSome (shape_package x.shape)
      → x.shape.kind ≡ kind.Opaque m → w.now ≡ x.shape.name → v ≡ sight_opaque s w m → Sees T ts s v u
  a_parts_sight : {m : ℕ} {k : Kind} {e : Written} (x : IsWritten T ts u) → has_parts x.shape ≡ true
      → x.shape.kind ≡ k → PartsOf T ts k e → StandsAt s.types.items m e → v ≡ parts_sight None m → Sees T ts s v u

module _ (T : Table) (ts : List TypeId) (s : GoSource) (xs : List Struct)
    (declared : AreDeclared s.types.items s.declarations.items xs) (structs : AreStructsOf T ts ts xs)
    (distinct : AreDistinct T ts) where
  undeclared : (n : ℕ) (t : GoType) → slice_get s.types.items n ≡ Some t
      → declared_by s.declarations.items (Some t) ≡ None → declared_at s n ≡ None
  undeclared n t e f = ap (declared_by s.declarations.items) e ∙ f

  -- the type at a place that is no declared name
  ends_there : (n : ℕ) (t : GoType) (e : Step s) → slice_get s.types.items n ≡ Some t
      → declared_by s.declarations.items (Some t) ≡ None → Leads s n e → Ends s None n e
  ends_there n t e at none (by_declaration {i = i} f l) = absurd (none-some i (sym (undeclared n t at none) ∙ f))
  ends_there n t e at none (by_itself f l) = l

  name_ends : (o : Option ℕ) (n : ℕ) (b : Bor (List ℕ)) (e : Step s) → slice_get s.types.items n ≡ Some (go.Name b)
      → Ends s o n e → EndsName b.now e
  name_ends o n b e at (a_pointer f g) = cc
  name_ends o n b e at (a_name {w = w} f g) =
      let same : w ≡ b = cc in subst (λ (x : Bor (List ℕ)). EndsName x.now e) same g
  name_ends o n b e at (of_library f g) = cc
  name_ends o n b e at (a_slice f g) = cc
  name_ends o n b e at (an_array f g) = cc
  name_ends o n b e at (a_map f g) = cc
  name_ends o n b e at (a_struct f g) = cc
  name_ends o n b e at (an_interface f g) = cc
  name_ends o n b e at (not_sent f g) = cc

  library_ends : (o : Option ℕ) (n : ℕ) (a b : Bor (List ℕ)) (e : Step s)
      → slice_get s.types.items n ≡ Some (go.Qualified a b) → Ends s o n e → EndsLibrary o a.now b e
  library_ends o n a b e at (a_pointer f g) = cc
  library_ends o n a b e at (a_name f g) = cc
  library_ends o n a b e at (of_library {p = p} {w = w} f g) =
      let owner : p ≡ a = cc in
      let name : w ≡ b = cc in
      subst (λ (y : Bor (List ℕ)). EndsLibrary o a.now y e) name
      (subst (λ (x : Bor (List ℕ)). EndsLibrary o x.now w e) owner g)
  library_ends o n a b e at (a_slice f g) = cc
  library_ends o n a b e at (an_array f g) = cc
  library_ends o n a b e at (a_map f g) = cc
  library_ends o n a b e at (a_struct f g) = cc
  library_ends o n a b e at (an_interface f g) = cc
  library_ends o n a b e at (not_sent f g) = cc

  -- a type of Go's library that encodes itself so is seen to
  known_ends : (o : Option ℕ) (m : Marshal) (p : List ℕ) (w : Bor (List ℕ)) (e : Step s)
      → known_of p w.now ≡ known_opaque m → EndsLibrary o p w e → e ≡ step_at s (sight_opaque s w m)
  known_ends o marshal.Gob p w e known (a_whole_number f g) = let k = sym known ∙ f in cc
  known_ends o marshal.Binary p w e known (a_whole_number f g) = let k = sym known ∙ f in cc
  known_ends o marshal.Text p w e known (a_whole_number f g) = let k = sym known ∙ f in cc
  known_ends o marshal.Gob p w e known (encodes_itself {m = n} f none g) =
      let k = sym known ∙ f in
      let same : n ≡ marshal.Gob = cc in
      g ∙ ap (λ (x : Marshal). step_at s (sight_opaque s w x)) same
  known_ends o marshal.Binary p w e known (encodes_itself {m = n} f none g) =
      let k = sym known ∙ f in
      let same : n ≡ marshal.Binary = cc in
      g ∙ ap (λ (x : Marshal). step_at s (sight_opaque s w x)) same
  known_ends o marshal.Text p w e known (encodes_itself f none g) = let k = sym known ∙ f in cc

  pointer_ends : (o : Option ℕ) (n m : ℕ) (e : Step s) → slice_get s.types.items n ≡ Some (go.Pointer m) → Ends s o n e
      → e ≡ step_on s m
  pointer_ends o n m e at (a_pointer {to = to} f g) = let same : to ≡ m = cc in g ∙ ap (λ (k : ℕ). step_on s k) same
  pointer_ends o n m e at (a_name f g) = cc
  pointer_ends o n m e at (of_library f g) = cc
  pointer_ends o n m e at (a_slice f g) = cc
  pointer_ends o n m e at (an_array f g) = cc
  pointer_ends o n m e at (a_map f g) = cc
  pointer_ends o n m e at (a_struct f g) = cc
  pointer_ends o n m e at (an_interface f g) = cc
  pointer_ends o n m e at (not_sent f g) = cc

  slice_ends : (o : Option ℕ) (n m : ℕ) (e : Step s) → slice_get s.types.items n ≡ Some (go.Slice m) → Ends s o n e
      → EndsSlice s o m n e
  slice_ends o n m e at (a_pointer f g) = cc
  slice_ends o n m e at (a_name f g) = cc
  slice_ends o n m e at (of_library f g) = cc
  slice_ends o n m e at (a_slice {elem = elem} f g) =
      let same : elem ≡ m = cc in subst (λ (k : ℕ). EndsSlice s o k n e) same g
  slice_ends o n m e at (an_array f g) = cc
  slice_ends o n m e at (a_map f g) = cc
  slice_ends o n m e at (a_struct f g) = cc
  slice_ends o n m e at (an_interface f g) = cc
  slice_ends o n m e at (not_sent f g) = cc

  interface_ends : (o : Option ℕ) (n : ℕ) (e : Step s) → slice_get s.types.items n ≡ Some go.Interface → Ends s o n e
      → e ≡ step_at s (sight_basic s (id 8))
  interface_ends o n e at (a_pointer f g) = cc
  interface_ends o n e at (a_name f g) = cc
  interface_ends o n e at (of_library f g) = cc
  interface_ends o n e at (a_slice f g) = cc
  interface_ends o n e at (an_array f g) = cc
  interface_ends o n e at (a_map f g) = cc
  interface_ends o n e at (a_struct f g) = cc
  interface_ends o n e at (an_interface f g) = g
  interface_ends o n e at (not_sent f g) = cc

  array_ends : (o : Option ℕ) (n l m : ℕ) (e : Step s) → slice_get s.types.items n ≡ Some (go.Array l m) → Ends s o n e
      → e ≡ step_at s (parts_sight o n)
  array_ends o n l m e at (a_pointer f g) = cc
  array_ends o n l m e at (a_name f g) = cc
  array_ends o n l m e at (of_library f g) = cc
  array_ends o n l m e at (a_slice f g) = cc
  array_ends o n l m e at (an_array f g) = g
  array_ends o n l m e at (a_map f g) = cc
  array_ends o n l m e at (a_struct f g) = cc
  array_ends o n l m e at (an_interface f g) = cc
  array_ends o n l m e at (not_sent f g) = cc

  map_ends : (o : Option ℕ) (n k m : ℕ) (e : Step s) → slice_get s.types.items n ≡ Some (go.Map k m) → Ends s o n e
      → e ≡ step_at s (parts_sight o n)
  map_ends o n k m e at (a_pointer f g) = cc
  map_ends o n k m e at (a_name f g) = cc
  map_ends o n k m e at (of_library f g) = cc
  map_ends o n k m e at (a_slice f g) = cc
  map_ends o n k m e at (an_array f g) = cc
  map_ends o n k m e at (a_map f g) = g
  map_ends o n k m e at (a_struct f g) = cc
  map_ends o n k m e at (an_interface f g) = cc
  map_ends o n k m e at (not_sent f g) = cc

  struct_ends : (i n : ℕ) (e : Step s) {fields : _} → slice_get s.types.items n ≡ Some (go.Struct fields)
      → Ends s (Some i) n e → e ≡ step_at s (sight_own i n)
  struct_ends i n e at (a_pointer f g) = cc
  struct_ends i n e at (a_name f g) = cc
  struct_ends i n e at (of_library f g) = cc
  struct_ends i n e at (a_slice f g) = cc
  struct_ends i n e at (an_array f g) = cc
  struct_ends i n e at (a_map f g) = cc
  struct_ends i n e at (a_struct f g) = g
  struct_ends i n e at (an_interface f g) = cc
  struct_ends i n e at (not_sent f g) = cc

  basic_ends : (w : List ℕ) (u : TypeId) (e : Step s) → basic_named w ≡ Some u → EndsName w e
      → e ≡ step_at s (sight_basic s u)
  basic_ends w u e is (a_basic_name {t = t} f g) =
      let same : t ≡ u = some_injective (sym f ∙ is) in g ∙ ap (λ (t : TypeId). step_at s (sight_basic s t)) same

  -- a type that is no declared name is behind no other
  underlies_itself : (n m : ℕ) → declared_at s n ≡ None → Underlies s n m → m ≡ n
  underlies_itself n m none (itself f) = refl
  underlies_itself n m none (behind {i = i} f g l) = absurd (none-some i (sym none ∙ f))

  at_step : {v w : Sight} → step_at s v ≡ step_at s w → v ≡ w
  at_step e = cc

  on_same : {n m : ℕ} → step_on s n ≡ step_on s m → n ≡ m
  on_same e = cc

  on_at : {A : Type 0} {n : ℕ} {v : Sight} → step_on s n ≡ step_at s v → A
  on_at e = cc

  at_on : {A : Type 0} {n : ℕ} {v : Sight} → step_at s v ≡ step_on s n → A
  at_on e = cc

  basic_name : (w : List ℕ) → is_reserved w ≡ true → declaration_of s.declarations.items w ≡ None
  basic_name w e = unknown_name 0 w declared structs e

  place_of : (u : TypeId) (x : IsWritten T ts u) → is_among u ts ≡ true
      → Found T ts s.types.items s.declarations.items u 0 (own_name T ts u x.shape.name)
  place_of u x among = find_name 0 u x distinct among declared structs among

  zero_more : (k : ℕ) → 0 + k ≡ k
  zero_more k = omega arith

  known_at : (n : ℕ) (b : Bor (List ℕ)) (u : TypeId) (x : IsWritten T ts u)
      (f : Found T ts s.types.items s.declarations.items u 0 (own_name T ts u x.shape.name))
      → slice_get s.types.items n ≡ Some (go.Name b) → b.now ≡ own_name T ts u x.shape.name
      → declared_at s n ≡ Some f.at
  known_at n b u x f at named =
      ap (declared_by s.declarations.items) at ∙ ap (declaration_of s.declarations.items) named ∙ f.found
      ∙ ap (λ (k : ℕ). Some k) (zero_more f.at)

  -- ---- no list is of bytes

  itself_type : (m end : ℕ) (a t : GoType) → slice_get s.types.items m ≡ Some a
      → declared_by s.declarations.items (Some a) ≡ None → Underlies s m end → slice_get s.types.items end ≡ Some t
      → t ≡ a
  itself_type m end a t at none under found =
      let last = underlies_itself m end (undeclared m a at none) under in
      some_injective (sym found ∙ ap (slice_get s.types.items) last ∙ at)

  no_byte : (m end : ℕ) (a t : GoType) → slice_get s.types.items m ≡ Some a
      → declared_by s.declarations.items (Some a) ≡ None → is_byte_type a ≡ false → Underlies s m end
      → slice_get s.types.items end ≡ Some t → is_byte_type t ≡ false
  no_byte m end a t at none other under found =
      ap is_byte_type (itself_type m end a t at none under found) ∙ other

  package_no_byte : (m end : ℕ) (t : GoType) {p w : List ℕ} → StandsAt s.types.items m (qualified p w)
      → Underlies s m end → slice_get s.types.items end ≡ Some t → is_byte_type t ≡ false
  package_no_byte m end t (at_qualified at owned named) under found = no_byte m end _ t at refl refl under found

  body_no_byte : (m end : ℕ) (t : GoType) {b : Body} {k : Kind} → BodyStands s.types.items m b → BodyOf T ts k b
      → Underlies s m end → slice_get s.types.items end ≡ Some t → is_byte_type t ≡ false
  body_no_byte m end t (fields_stand at lines) of under found = no_byte m end _ t at refl refl under found
  body_no_byte m end t (parts_stand (at_word at named)) (parts_of_body p) under found = elim p [ ]
  body_no_byte m end t (parts_stand (at_word {b = b} at named)) string_of_body under found =
      no_byte m end (go.Name b) t at (ap (declaration_of s.declarations.items) named ∙ basic_name (codes "string") refl)
      (ap is_byte named) under found
  body_no_byte m end t (another_stands stands) another_of_body under found =
      package_no_byte m end t stands under found
  body_no_byte m end t (parts_stand (at_qualified at owned named)) (parts_of_body p) under found = elim p [ ]
  body_no_byte m end t (parts_stand (at_pointer at more)) (parts_of_body p) under found = elim p [ ]
  body_no_byte m end t (parts_stand (at_interface at)) (parts_of_body p) under found = elim p [ ]
  body_no_byte m end t (parts_stand (at_slice at more)) (parts_of_body p) under found =
      no_byte m end _ t at refl refl under found
  body_no_byte m end t (parts_stand (at_array at same more)) (parts_of_body p) under found =
      no_byte m end _ t at refl refl under found
  body_no_byte m end t (parts_stand (at_map at key more)) (parts_of_body p) under found =
      no_byte m end _ t at refl refl under found

  place_no_byte : {u : TypeId} (m end at : ℕ) (t : GoType) → IsPlace T ts s.types.items s.declarations.items u at
      → declared_at s m ≡ Some at → Underlies s m end → slice_get s.types.items end ≡ Some t → is_byte_type t ≡ false
  place_no_byte m end at t p known (itself f) found = absurd (none-some at (sym f ∙ known))
  place_no_byte m end at t p known (behind {i = i} {d = d} f g under) found =
      let one : i ≡ at = some_injective (sym f ∙ known) in
      let same : d ≡ p.declaration = some_injective (sym g ∙ ap (slice_get s.declarations.items) one ∙ p.declared) in
      body_no_byte p.declaration.of end t p.is.body p.of.body
      (subst (λ (k : ℕ). Underlies s k end) (ap (λ (x : Declaration). x.of) same) under) found

  type_no_byte : {e : Written} {u : TypeId} (m end : ℕ) (t : GoType) → StandsAt s.types.items m e → TypeOf T ts u e
      → Underlies s m end → slice_get s.types.items end ≡ Some t → is_byte_type t ≡ false
  type_no_byte m end t (at_word {w = w} {b = b} at named) (of_basic is small low other) under found =
      no_byte m end (go.Name b) t at (ap (declaration_of s.declarations.items) named ∙ basic_name w low)
      (ap is_byte named ∙ other) under found
  type_no_byte m end t (at_word {b = b} at named) (of_name {u = u} x among name) under found =
      let f = place_of u x among in
      place_no_byte m end f.at t f.place (known_at m b u x f at (named ∙ name)) under found
  type_no_byte m end t (at_word at named) (of_its_parts x h is p) under found = elim p [ ]
  type_no_byte m end t (at_qualified at owned named) of under found = no_byte m end _ t at refl refl under found
  type_no_byte m end t (at_pointer at more) of under found = no_byte m end _ t at refl refl under found
  type_no_byte m end t (at_slice at more) of under found = no_byte m end _ t at refl refl under found
  type_no_byte m end t (at_interface at) of under found = no_byte m end _ t at refl refl under found
  type_no_byte m end t (at_array at same more) of under found = no_byte m end _ t at refl refl under found
  type_no_byte m end t (at_map at key more) of under found = no_byte m end _ t at refl refl under found

  others_end : (o : Option ℕ) (m n : ℕ) (e : Step s) {elem : Written} {u : TypeId} → StandsAt s.types.items m elem
      → TypeOf T ts u elem → EndsSlice s o m n e → e ≡ step_at s (parts_sight o n)
  others_end o m n e stands type (of_bytes {end = end} {t = t} under g test h) =
      let other = sym test ∙ type_no_byte m end t stands type under g in cc
  others_end o m n e stands type (of_others under g test h) = h

  -- ---- what is declared

  parts_end : (o : Option ℕ) (n : ℕ) (e : Step s) {a : Written} {k : Kind} → StandsAt s.types.items n a
      → PartsOf T ts k a → Ends s o n e → e ≡ step_at s (parts_sight o n)
  parts_end o n e (at_word at named) p ends = elim p [ ]
  parts_end o n e (at_pointer at more) p ends = elim p [ ]
  parts_end o n e (at_interface at) p ends = elim p [ ]
  parts_end o n e (at_qualified at owned named) p ends = elim p [ ]
  parts_end o n e (at_slice {m = m} at more) (slice_parts type) ends =
      others_end o m n e more type (slice_ends o n m e at ends)
  parts_end o n e (at_array {m = m} {length = l} at same more) p ends = array_ends o n l m e at ends
  parts_end o n e (at_map {k = k} {m = m} at key more) p ends = map_ends o n k m e at ends

  parts_undeclared : (n : ℕ) {a : Written} {k : Kind} → StandsAt s.types.items n a → PartsOf T ts k a
      → declared_at s n ≡ None
  parts_undeclared n (at_word at named) p = elim p [ ]
  parts_undeclared n (at_pointer at more) p = undeclared n _ at refl
  parts_undeclared n (at_interface at) p = undeclared n _ at refl
  parts_undeclared n (at_qualified at owned named) p = undeclared n _ at refl
  parts_undeclared n (at_slice at more) p = undeclared n _ at refl
  parts_undeclared n (at_array at same more) p = undeclared n _ at refl
  parts_undeclared n (at_map at key more) p = undeclared n _ at refl

  parts_look : (n : ℕ) (e : Step s) {a : Written} {k : Kind} → StandsAt s.types.items n a → PartsOf T ts k a
      → Leads s n e → e ≡ step_at s (parts_sight None n)
  parts_look n e stands p (by_declaration {i = i} f l) = absurd (none-some i (sym (parts_undeclared n stands p) ∙ f))
  parts_look n e stands p (by_itself f l) = parts_end None n e stands p l

  -- the body of a type that doesn't encode itself
  body_end : (i n end : ℕ) (e : Step s) {b : Body} {k : Kind} → kind_marshal k ≡ None → BodyStands s.types.items n b
      → BodyOf T ts k b → Underlies s n end → Ends s (Some i) end e → e ≡ step_at s (sight_own i n)
  body_end i n end e plain (fields_stand at lines) of under ends =
      let last = underlies_itself n end (undeclared n _ at refl) under in
      struct_ends i n e at (subst (λ (k : ℕ). Ends s (Some i) k e) last ends)
  body_end i n end e plain (parts_stand stands) (parts_of_body p) under ends =
      let last = underlies_itself n end (parts_undeclared n stands p) under in
      parts_end (Some i) n e stands p (subst (λ (k : ℕ). Ends s (Some i) k e) last ends)
  body_end i n end e plain (parts_stand stands) string_of_body under ends = cc
  body_end i n end e plain (another_stands stands) another_of_body under ends = cc

  no_other : {b : Body} {k : Kind} → kind_marshal k ≡ None → BodyOf T ts k b → is_another b ≡ false
  no_other plain (fields_of_body of) = refl
  no_other plain (parts_of_body p) = refl
  no_other plain string_of_body = refl
  no_other plain another_of_body = cc

  -- a look at a type that is declared ends there
  declared_led : {u : TypeId} (o : Option Marshal) (at : ℕ) (p : IsPlace T ts s.types.items s.declarations.items u at)
      (e : Step s) → p.struct.marshal ≡ o → LeadsFrom s at e → e ≡ step_at s (declared_sight s o at p.declaration)
  declared_led None at p e is (declared_opaque {d = d} f g h) =
      let same : d ≡ p.declaration = some_injective (sym f ∙ p.declared) in
      let quiet = sym g ∙ ap (λ (x : Declaration). x.note.marshal) same ∙ p.is.noted ∙ is in cc
  declared_led None at p e is (another_name {d = d} f g alias h) =
      let same : d ≡ p.declaration = some_injective (sym f ∙ p.declared) in
      let own = sym alias ∙ ap (λ (x : Declaration). x.is_alias) same ∙ p.is.is_alias
      ∙ no_other (sym p.of.marshal ∙ is) p.of.body in cc
  declared_led None at p e is (of_its_own {d = d} {end = end} f g alias under ends) =
      let same : d ≡ p.declaration = some_injective (sym f ∙ p.declared) in
      let here = subst (λ (k : ℕ). Underlies s k end) (ap (λ (x : Declaration). x.of) same) under in
      body_end at p.declaration.of end e (sym p.of.marshal ∙ is) p.is.body p.of.body here ends
  declared_led (Some m) at p e is (declared_opaque {d = d} {m = n} f g h) =
      let same : d ≡ p.declaration = some_injective (sym f ∙ p.declared) in
      let marshal : n ≡ m = some_injective (sym g ∙ ap (λ (x : Declaration). x.note.marshal) same ∙ p.is.noted ∙ is) in
      h ∙ ap (λ (x : Declaration). step_at s (sight_opaque s x.name n)) same
      ∙ ap (λ (x : Marshal). step_at s (sight_opaque s p.declaration.name x)) marshal
  declared_led (Some m) at p e is (another_name {d = d} f g alias h) =
      let same : d ≡ p.declaration = some_injective (sym f ∙ p.declared) in
      let quiet = sym g ∙ ap (λ (x : Declaration). x.note.marshal) same ∙ p.is.noted ∙ is in cc
  declared_led (Some m) at p e is (of_its_own {d = d} f g alias under ends) =
      let same : d ≡ p.declaration = some_injective (sym f ∙ p.declared) in
      let quiet = sym g ∙ ap (λ (x : Declaration). x.note.marshal) same ∙ p.is.noted ∙ is in cc

  own_led : {u : TypeId} (at : ℕ) (p : IsPlace T ts s.types.items s.declarations.items u at) (e : Step s)
      → LeadsFrom s at e → e ≡ step_at s (declared_sight s p.struct.marshal at p.declaration)
  own_led at p e l = declared_led p.struct.marshal at p e refl l

  name_led : (n : ℕ) (b : Bor (List ℕ)) (u : TypeId) (x : IsWritten T ts u) (e : Step s)
      (f : Found T ts s.types.items s.declarations.items u 0 (own_name T ts u x.shape.name))
      → slice_get s.types.items n ≡ Some (go.Name b) → b.now ≡ own_name T ts u x.shape.name → Leads s n e
      → e ≡ step_at s (declared_sight s f.place.struct.marshal f.at f.place.declaration)
  name_led n b u x e f at named l = by (known_at n b u x f at named) l
    where
      by : declared_at s n ≡ Some f.at → Leads s n e
          → e ≡ step_at s (declared_sight s f.place.struct.marshal f.at f.place.declaration)
      by known (by_declaration {i = i} g l) =
          let same : i ≡ f.at = some_injective (sym g ∙ known) in
          own_led f.at f.place e (subst (λ (k : ℕ). LeadsFrom s k e) same l)
      by known (by_itself g l) = absurd (none-some f.at (sym g ∙ known))

  byte_ends : (n m : ℕ) (b : Bor (List ℕ)) (e : Step s) → slice_get s.types.items m ≡ Some (go.Name b)
      → b.now ≡ codes "byte" → EndsSlice s None m n e → e ≡ step_at s (sight_basic s (id 5))
  byte_ends n m b e at named (of_bytes under g test h) = h
  byte_ends n m b e at named (of_others {end = end} {t = t} under g test h) =
      let none = undeclared m (go.Name b) at (ap (declaration_of s.declarations.items) named
      ∙ basic_name (codes "byte") refl) in
      let last = underlies_itself m end none under in
      let same : t ≡ go.Name b = some_injective (sym g ∙ ap (slice_get s.types.items) last ∙ at) in
      let is = sym test ∙ ap is_byte_type same ∙ ap is_byte named in cc

  byte_stands : {m : ℕ} {e : Written} → StandsAt s.types.items m e → e ≡ word (codes "byte")
      → (b : Bor (List ℕ)) × (slice_get s.types.items m ≡ Some (go.Name b)) × (b.now ≡ codes "byte")
  byte_stands (at_word {w = w} {b = b} at named) e =
      let same : w ≡ codes "byte" = cc in (b, at, named ∙ same)
  byte_stands (at_pointer at more) e = cc
  byte_stands (at_slice at more) e = cc
  byte_stands (at_interface at) e = cc
  byte_stands (at_qualified at owned named) e = cc
  byte_stands (at_array at same more) e = cc
  byte_stands (at_map at key more) e = cc

  ends_look : {n : ℕ} {v w : Sight} → ((e : Step s) → Leads s n e → e ≡ step_at s w) → Seen s v n → v ≡ w
  ends_look f (seen l) = at_step (f _ l)
  ends_look f (seen_on l x) = on_at (f _ l)

  goes_look : {n m : ℕ} {v : Sight} → ((e : Step s) → Leads s n e → e ≡ step_on s m) → Seen s v n → Seen s v m
  goes_look f (seen l) = at_on (f _ l)
  goes_look {v = v} f (seen_on l x) = subst (λ (k : ℕ). Seen s v k) (on_same (f _ l)) x

  sees : {n : ℕ} {e : Written} {u : TypeId} {v : Sight} → StandsAt s.types.items n e → TypeOf T ts u e → Seen s v n
      → Sees T ts s v u
  sees {n = n} {u = u} (at_word {w = w} {b = b} at named) (of_basic is small low other) look =
      let none = ap (declaration_of s.declarations.items) named ∙ basic_name w low in
      a_basic_sight (ends_look (λ e l. basic_ends w u e is (subst (λ (x : List ℕ). EndsName x e) named
      (name_ends None n b e at (ends_there n (go.Name b) e at none l)))) look) small
  sees {n = n} {u = u} (at_word {b = b} at named) (of_name x among name) look =
      let f = place_of u x among in
      a_declared_sight f.place (ends_look (λ e l. name_led n b u x e f at (named ∙ name) l) look)
  sees {n = n} (at_qualified {p = p} {a = a} {b = b} at owned named) (of_package x lib name) look =
      let known = ap (λ (l : List ℕ). known_of l b.now) owned
      ∙ ap (known_of p) (named ∙ name) ∙ lib.known in
      a_library_sight x lib.some lib.is (named ∙ name) (ends_look (λ e l. known_ends None lib.marshal a.now b e known
      (library_ends None n a b e at (ends_there n (go.Qualified a b) e at refl l))) look)
  sees (at_qualified at owned named) (of_its_parts x h is p) look = elim p [ ]
  sees (at_word at named) (of_its_parts x h is p) look = elim p [ ]
  sees {n = n} (at_pointer {m = m} at more) (of_pointed t) look =
      sees more t (goes_look (λ e l. pointer_ends None n m e at (ends_there n (go.Pointer m) e at refl l)) look)
  sees (at_pointer at more) (of_its_parts x h is p) look = elim p [ ]
  sees {n = n} (at_slice at more) (of_its_parts x h is p) look =
      a_parts_sight x h is p (at_slice at more) (ends_look (λ e l. parts_look n e (at_slice at more) p l) look)
  sees {n = n} (at_array at length more) (of_its_parts x h is p) look =
      a_parts_sight x h is p (at_array at length more)
      (ends_look (λ e l. parts_look n e (at_array at length more) p l) look)
  sees {n = n} (at_map at key more) (of_its_parts x h is p) look =
      a_parts_sight x h is p (at_map at key more) (ends_look (λ e l. parts_look n e (at_map at key more) p l) look)
  sees (at_interface at) (of_its_parts x h is p) look = elim p [ ]
  sees {n = n} {v = v} (at_slice {m = m} at more) (of_byte e same) look =
      let b = byte_stands more e in
      a_basic_sight (ends_look (λ e l. byte_ends n m b.0 e b.1 b.2 (slice_ends None n m e at
      (ends_there n (go.Slice m) e at refl l))) look ∙ ap (λ (t : TypeId). sight_basic s t) (sym same))
      (subst IsBasicId (sym same) (omega arith))
  sees {n = n} (at_interface at) (of_any same) look =
      a_basic_sight (ends_look (λ e l. interface_ends None n e at (ends_there n go.Interface e at refl l)) look
      ∙ ap (λ (t : TypeId). sight_basic s t) (sym same)) (subst IsBasicId (sym same) (omega arith))

  -- ---- definitions

  module _ (ids : Ids) (D : List Defined) (defined_all : (i : ℕ) (t : TypeId) → IsNumbered ids i t
      → IsDefinedBy s ids D i t) where
    -- to a depth, what stands at a place is alike to the type that is written so
    abbrev Goes : ℕ → Type 0
    Goes depth = (n : ℕ) (e : Written) (u t : TypeId) → StandsAt s.types.items n e → TypeOf T ts u e
        → HasId s ids D n t → IsAlike D T ts depth t u

    basic_id : {v : Sight} {t : TypeId} (u : TypeId) → IsOf s ids D v t → v ≡ sight_basic s u → t ≡ u
    basic_id u a_basic e = cc
    basic_id u (an_opaque h) e = cc
    basic_id u (a_declared h) e = cc
    basic_id u (of_parts k h) e = cc

    own_number : {v : Sight} {t : TypeId} (i n : ℕ) → IsOf s ids D v t → v ≡ sight_own i n → IsNumbered ids i t
    own_number i n a_basic e = cc
    own_number i n (an_opaque h) e = cc
    own_number {t = t} i n (a_declared {i = j} h) e =
        let same : j ≡ i = cc in subst (λ (k : ℕ). IsNumbered ids k t) same h
    own_number i n (of_parts k h) e = cc

    -- parts with an id have a kind, and their definition has no name
    record PartsAre (m : ℕ) (t : TypeId) : Type 0 where
      kind_is : Kind
      has : HasKind s ids D m kind_is
      there : Has D (defined t [] kind_is)

    parts_are : {v : Sight} {t : TypeId} (m : ℕ) → IsOf s ids D v t → v ≡ parts_sight None m → PartsAre m t
    parts_are m a_basic e = cc
    parts_are m (an_opaque h) e = cc
    parts_are m (a_declared h) e = cc
    parts_are m (of_parts {n = n} {k = k} h there) e =
        let same : n ≡ m = cc in
        record { kind_is = k; has = subst (λ (j : ℕ). HasKind s ids D j k) same h; there = there }

    -- ---- fields

    sends_one : (l : GoField) (b : Bor (List ℕ)) {ws : List (Bor (List ℕ))} → SendsNames s l ws
        → l.names.items ≡ b ∷ [] → is_exported b.now ≡ true → ws ≡ b ∷ []
    sends_one l b (written f) names shown = ap exported names
        ∙ ap (λ (x : Bool). if x then b ∷ [] else []) shown
    sends_one l b (embedded f e) names shown = let k = sym (ap are_none names) ∙ f in cc

    record LineIs (l : GoField) (b : Bor (List ℕ)) (gs : List Field) : Type 0 where
      id : TypeId
      is : gs ≡ record { name = b.now; id = id } ∷ []
      has : HasId s ids D l.of id

    sees_either : {A : Type 0} {v : Sight} {u : TypeId} → Sees T ts s v u → ((x : TypeId) → v ≡ sight_basic s x → A)
        → ((i n : ℕ) → v ≡ sight_own i n → A) → ((n : ℕ) → v ≡ parts_sight None n → A)
        → ((w : Bor (List ℕ)) (m : Marshal) → v ≡ sight_opaque s w m → A) → A
    sees_either {u = u} (a_basic_sight e small) f g h k = f u e
    sees_either {A = A} {v = v} (a_declared_sight {at = at} place e) f g h k = by place.struct.marshal e
      where
        by : (o : Option Marshal) → v ≡ declared_sight s o at place.declaration → A
        by None e = g at place.declaration.of e
        by (Some m) e = k place.declaration.name m e
    sees_either (a_library_sight {w = w} {m = m} x some is named e) f g h k = k w m e
    sees_either (a_parts_sight {m = m} x has is p stands e) f g h k = h m e

    line_is : (l : GoField) (b : Bor (List ℕ)) {gs : List Field} {e : Written} {u : TypeId} → LineHas s ids D l gs
        → l.names.items ≡ b ∷ [] → is_exported b.now ≡ true → StandsAt s.types.items l.of e → TypeOf T ts u e
        → LineIs l b gs
    line_is l b (none_seen sends) names shown stands type = let k = sends_one l b sends names shown in cc
    line_is l b (nothing_sent look) names shown stands type =
        sees_either (sees stands type look) (λ x e. cc) (λ i n e. cc) (λ n e. cc) (λ w m e. cc)
    line_is l b (all_sent {t = t} sends has) names shown stands type =
        record { id = t; is = ap (fields_of t) (sends_one l b sends names shown); has = has }

    -- fields from the first line on
    data FieldsHave : List GoField → List Field → Type 0 where
      none_have : FieldsHave [] []
      one_has : {l : GoField} {ls : List GoField} {fs gs whole : List Field} → LineHas s ids D l gs → FieldsHave ls fs
          → whole ≡ gs ++ fs → FieldsHave (l ∷ ls) whole

    fields_have : {ls : List GoField} {fs : List Field} → HasFields s ids D ls fs → (ms : List GoField)
        (hs : List Field) → FieldsHave ms hs → FieldsHave (ls ++ ms) (fs ++ hs)
    fields_have no_lines ms hs m = m
    fields_have (more_lines {ls = ls} {l = l} {fs = fs} {gs = gs} h line) ms hs m =
        subst (λ (x : List GoField). FieldsHave x ((fs ++ gs) ++ hs)) (sym (append_assoc ls (l ∷ []) ms))
        (subst (λ (x : List Field). FieldsHave (ls ++ l ∷ ms) x) (sym (append_assoc fs gs hs))
        (fields_have h (l ∷ ms) (gs ++ hs) (one_has line m refl)))

    fields_alike : (depth : ℕ) → Goes depth → {items : List GoField} {lines : List Line} {fs gs : List Field}
        → LinesStand s.types.items items lines → LinesOf T ts gs lines → FieldsHave items fs
        → AreAlike D T ts depth fs gs
    fields_alike depth go no_line no_line_of none_have = no_more
    fields_alike depth go {gs = gs} (one_line {f = l} {b = b} names named stands more)
        (line_of {f = g} {fs = others} name shown type rest) (one_has {fs = fs} line has is) =
        let one = line_is l b line names (ap is_exported (named ∙ name) ∙ shown) stands type in
        subst (λ (x : List Field). AreAlike D T ts depth x (g ∷ others))
        (sym (is ∙ ap (λ (x : List Field). x ++ fs) one.is))
        (alike_field (named ∙ name) (go l.of _ g.id one.id stands type one.has) (fields_alike depth go more rest has))

    -- ---- structs

    record StructKind (lines : List GoField) (k : Kind) : Type 0 where
      kinds : List Field
      is : k ≡ kind.Struct kinds
      have : HasFields s ids D lines kinds

    kind_struct : (n : ℕ) {fields : _} {k : Kind} → HasKind s ids D n k
        → slice_get s.types.items n ≡ Some (go.Struct fields) → StructKind fields.items k
    kind_struct n (types.a_slice f h) at = cc
    kind_struct n (types.an_array f small h) at = cc
    kind_struct n (types.a_map f h i) at = cc
    kind_struct n {fields = found} (types.a_struct {lines = lines} {fs = fs} f h lacks) at =
        let same : lines ≡ found = cc in
        record { kinds = fs; is = refl; have = subst (λ x. HasFields s ids D x.items fs) same h }

    append_none : {A : Type 0} (xs : List A) → xs ++ [] ≡ xs
    append_none [] = refl
    append_none (x ∷ xs) = ap (λ l. x ∷ l) (append_none xs)

    at_own : {i n m : ℕ} → step_at s (sight_own i n) ≡ step_at s (sight_own i m) → n ≡ m
    at_own e = cc

    parts_alike : (depth n : ℕ) → Goes depth → {e : Written} {j k : Kind} → StandsAt s.types.items n e
        → PartsOf T ts j e → HasKind s ids D n k → HasAlikeKind D T ts depth k j
    parts_alike depth n go (at_word at named) p has = elim p [ ]
    parts_alike depth n go (at_pointer at more) p has = elim p [ ]
    parts_alike depth n go (at_interface at) p has = elim p [ ]
    parts_alike depth n go (at_qualified at owned named) p has = elim p [ ]
    parts_alike depth n go (at_slice {m = m} at more) (slice_parts type) (types.a_slice {elem = elem} {t = t} f h) =
        let same : elem ≡ m = cc in
        alike_slices (go m _ _ t more type (subst (λ (i : ℕ). HasId s ids D i t) same h))
    parts_alike depth n go (at_slice at more) (slice_parts type) (types.an_array f small h) = cc
    parts_alike depth n go (at_slice at more) (slice_parts type) (types.a_map f h i) = cc
    parts_alike depth n go (at_slice at more) (slice_parts type) (types.a_struct f h lacks) = cc
    parts_alike depth n go (at_array at len more) (array_parts small type) (types.a_slice f h) = cc
    parts_alike depth n go (at_array {m = m} {length = l} at len more) (array_parts {v = v} {n = count} small type)
        (types.an_array {elem = elem} {len = found} {t = t} f few h) =
        let same : elem ≡ m = cc in
        let one : found ≡ l = cc in
        let all = decimal_injective found count (omega arith) (omega arith) (ap decimal one ∙ len) in
        subst (λ (i : ℕ). HasAlikeKind D T ts depth (kind.Array t i) (kind.Array v count)) (sym all)
        (alike_arrays (go m _ v t more type (subst (λ (i : ℕ). HasId s ids D i t) same h)))
    parts_alike depth n go (at_array at len more) (array_parts small type) (types.a_map f h i) = cc
    parts_alike depth n go (at_array at len more) (array_parts small type) (types.a_struct f h lacks) = cc
    parts_alike depth n go (at_map at key more) (map_parts of_key type) (types.a_slice f h) = cc
    parts_alike depth n go (at_map at key more) (map_parts of_key type) (types.an_array f small h) = cc
    parts_alike depth n go (at_map {k = j} {m = m} at key more) (map_parts of_key type)
        (types.a_map {key = a} {elem = elem} {t = t} {u = u} f h i) =
        let first : a ≡ j = cc in
        let same : elem ≡ m = cc in
        alike_maps (go j _ _ t key of_key (subst (λ (x : ℕ). HasId s ids D x t) first h))
        (go m _ _ u more type (subst (λ (x : ℕ). HasId s ids D x u) same i))
    parts_alike depth n go (at_map at key more) (map_parts of_key type) (types.a_struct f h lacks) = cc

    body_alike : (depth n : ℕ) → Goes depth → {b : Body} {j k : Kind} → kind_marshal j ≡ None
        → BodyStands s.types.items n b → BodyOf T ts j b → HasKind s ids D n k → HasAlikeKind D T ts depth k j
    body_alike depth n go plain (fields_stand {found = found} at lines) (fields_of_body {fs = gs} of) has =
        let r = kind_struct n has at in
        let whole = subst (λ (x : List GoField). FieldsHave x (r.kinds ++ [])) (append_none found.items)
        (fields_have r.have [] [] none_have) in
        let all = subst (λ (x : List Field). FieldsHave found.items x) (append_none r.kinds) whole in
        subst (λ (k : Kind). HasAlikeKind D T ts depth k (kind.Struct gs)) (sym r.is)
        (alike_structs (fields_alike depth go lines of all))
    body_alike depth n go plain (parts_stand stands) (parts_of_body p) has = parts_alike depth n go stands p has
    body_alike depth n go plain (parts_stand stands) string_of_body has = cc
    body_alike depth n go plain (another_stands stands) another_of_body has = cc

    -- an id of a type that encodes itself is that of its definition
    opaque_there : {v : Sight} {t : TypeId} (w : Bor (List ℕ)) (m : Marshal) → IsOf s ids D v t
        → v ≡ sight_opaque s w m → Has D (defined t w.now (kind.Opaque m))
    opaque_there w m a_basic e = cc
    opaque_there {t = t} w m (an_opaque {w = x} {m = n} h) e =
        let name : x ≡ w = cc in
        let marshal : n ≡ m = cc in
        subst (λ (k : Marshal). Has D (defined t w.now (kind.Opaque k))) marshal
        (subst (λ (y : Bor (List ℕ)). Has D (defined t y.now (kind.Opaque n))) name h)
    opaque_there w m (a_declared h) e = cc
    opaque_there w m (of_parts k h) e = cc

    opaque_alike : (depth : ℕ) (m : Marshal) {k : Kind} → k ≡ kind.Opaque m
        → HasAlikeKind D T ts depth (kind.Opaque m) k
    opaque_alike depth m is =
        subst (λ (j : Kind). HasAlikeKind D T ts depth (kind.Opaque m) j) (sym is) alike_opaques

    opaque_kind : (k : Kind) (m : Marshal) → kind_marshal k ≡ Some m → k ≡ kind.Opaque m
    opaque_kind (kind.Opaque n) m e = ap (λ (x : Marshal). kind.Opaque x) (some_injective e)
    opaque_kind (kind.Basic b) m e = cc
    opaque_kind (kind.Struct fs) m e = cc
    opaque_kind (kind.Slice t) m e = cc
    opaque_kind (kind.Array t n) m e = cc
    opaque_kind (kind.Map t u) m e = cc

    plain_alike : (depth : ℕ) → Goes depth → (u t : TypeId) (at : ℕ)
        (place : IsPlace T ts s.types.items s.declarations.items u at) → place.struct.marshal ≡ None
        → IsNumbered ids at t → IsAlike D T ts (suc depth) t u
    plain_alike depth go u t at place plain number =
        let def = defined_all at t number in
        let p = place.declaration in
        let same : def.declaration ≡ p = some_injective (sym def.declared ∙ place.declared) in
        let led = at_own (declared_led None at place (step_at s (sight_own at def.parts)) plain def.leads) in
        let has = subst (λ (k : ℕ). HasKind s ids D k def.kind) led def.has_kind in
        let name = ap (λ (d : Declaration). d.name.now) same ∙ place.is.named ∙ place.of.named in
        alike_types def.there place.of.is.has (its_own name)
        (body_alike depth p.of go (sym place.of.marshal ∙ plain) place.is.body place.of.body has)

    declared_alike : (depth : ℕ) → Goes depth → (u t : TypeId) (at : ℕ) {v : Sight}
        (place : IsPlace T ts s.types.items s.declarations.items u at)
        → v ≡ declared_sight s place.struct.marshal at place.declaration → IsOf s ids D v t
        → IsAlike D T ts (suc depth) t u
    declared_alike depth go u t at {v = v} place e of = by place.struct.marshal refl e
      where
        by : (o : Option Marshal) → place.struct.marshal ≡ o → v ≡ declared_sight s o at place.declaration
            → IsAlike D T ts (suc depth) t u
        by None is e = plain_alike depth go u t at place is (own_number at place.declaration.of of e)
        by (Some m) is e =
            alike_types (opaque_there place.declaration.name m of e) place.of.is.has
            (its_own (place.is.named ∙ place.of.named))
            (opaque_alike depth m (opaque_kind place.of.is.shape.kind m (sym place.of.marshal ∙ is)))

    goes : (depth : ℕ) → Goes depth
    goes zero n e u t stands type has = not_looked
    goes (suc depth) n e u t stands type (has_id {v = v} look of) = by (sees stands type look) (goes depth)
      where
        by : Sees T ts s v u → Goes depth → IsAlike D T ts (suc depth) t u
        by (a_basic_sight e small) go =
            subst (λ (x : TypeId). IsAlike D T ts (suc depth) x u) (sym (basic_id u of e)) (same_basic small)
        by (a_declared_sight {at = at} place e) go = declared_alike depth go u t at place e of
        by (a_library_sight {w = w} {m = m} x some is named e) go =
            let there = subst (λ (l : List ℕ). Has D (defined t l (kind.Opaque m))) named (opaque_there w m of e) in
            alike_types there x.has (of_library some) (opaque_alike depth m is)
        by (a_parts_sight {m = m} x list is p stands e) go =
            let r = parts_are m of e in
            alike_types r.there x.has (without_name list)
            (subst (λ (k : Kind). HasAlikeKind D T ts depth r.kind_is k) (sym is)
            (parts_alike depth m go stands p r.has))

    -- the declared type that is asked for is alike to the one of the table
    asked_alike : (depth : ℕ) (u t : TypeId) (at : ℕ) (v : Sight)
        → IsPlace T ts s.types.items s.declarations.items u at → SeenFrom s at v → IsOf s ids D v t
        → IsAlike D T ts depth t u
    asked_alike zero u t at v place look of = not_looked
    asked_alike (suc depth) u t at v place (seen_there l) of =
        declared_alike depth (goes depth) u t at place (at_step (own_led at place (step_at s v) l)) of
    asked_alike (suc depth) u t at v place (seen_behind {m = m} l look) of = on_at (own_led at place (step_on s m) l)

-- ---- what is asked for

first_place : {T : Table} {ts : List TypeId} {types : List GoType} {us vs : List TypeId} {ds : List Declaration}
    {xs : List Struct} (u : TypeId) (n : ℕ) → AreDeclared types ds xs → AreStructsOf T ts us xs → us ≡ u ∷ vs
    → wanted_of ds None ≡ Some n → IsPlace T ts types ds u n
first_place u n none_declared no_struct_of first wanted = cc
first_place {T = T} {ts = ts} {types = types} u n (more_declared {d = d} {ds = ds} {x = x} one more)
    (struct_of {u = v} is of) first wanted =
    let same : v ≡ u = cc in
    subst (λ (k : ℕ). IsPlace T ts types (d ∷ ds) u k) (some_injective wanted) (record {
      declaration = d;
      struct = x;
      declared = refl;
      is = one;
      of = subst (λ (t : TypeId). IsStructOf T ts t x) same is;
    })

named_place : {T : Table} {ts : List TypeId} {types : List GoType} {ds : List Declaration} {u : TypeId} (n : ℕ)
    (w : List ℕ) → Found T ts types ds u 0 w → declaration_of ds w ≡ Some n → IsPlace T ts types ds u n
named_place {T = T} {ts = ts} {types = types} {ds = ds} {u = u} n w f wanted =
    subst (λ (k : ℕ). IsPlace T ts types ds u k) same f.place
  where
    same : f.at ≡ n
    same = let e = some_injective (sym f.found ∙ wanted) in omega arith

asked_place : (T : Table) (ts : List TypeId) (s : GoSource) (xs : List Struct)
    → AreDeclared s.types.items s.declarations.items xs → AreStructsOf T ts ts xs → AreDistinct T ts
    → ((u : TypeId) → is_among u ts ≡ true → IsWritten T ts u) → (named : Option (List ℕ)) (n : ℕ) (u : TypeId)
    → IsAsked T named ts u → wanted_of s.declarations.items named ≡ Some n
    → IsPlace T ts s.types.items s.declarations.items u n
asked_place T ts s xs declared structs distinct among named n u asked wanted = by named asked refl refl wanted
  where
    by : {us : List TypeId} {o : Option (List ℕ)} (p : Option (List ℕ)) → IsAsked T o us u → us ≡ ts → o ≡ p
        → wanted_of s.declarations.items p ≡ Some n → IsPlace T ts s.types.items s.declarations.items u n
    by None the_first whole same wanted = first_place u n declared structs (sym whole) wanted
    by (Some w) the_first whole same wanted = cc
    by None (the_named is has) whole same wanted = cc
    by (Some w) (the_named {ts = us} {s = shape} is has) whole same wanted =
        let here = subst (λ (l : List TypeId). is_among u l ≡ true) whole is in
        let x = among u here in
        let named = ap (λ (r : Shape). own_name T ts u r.name) (some_injective (sym x.has ∙ has)) in
        let name : own_name T us u shape.name ≡ w = some_injective same in
        let moved = ap (λ (l : List TypeId). own_name T l u shape.name) (sym whole) in
        named_place n (own_name T ts u x.shape.name) (place_of T ts s xs declared structs distinct u x here)
        (ap (declaration_of s.declarations.items) (named ∙ moved ∙ name) ∙ wanted)

-- what is made of declared types is alike to these
pub types_alike : (T : Table) (ts : List TypeId) (s : GoSource) (xs : List Struct)
    → AreDeclared s.types.items s.declarations.items xs → AreStructsOf T ts ts xs → AreDistinct T ts
    → ((u : TypeId) → is_among u ts ≡ true → IsWritten T ts u) → (named : Option (List ℕ)) (D : List Defined)
    (t u : TypeId) (depth : ℕ) → AreTypesOf s named D t → IsAsked T named ts u → IsAlike D T ts depth t u
types_alike T ts s xs declared structs distinct among named D t u depth are asked =
    asked_alike T ts s xs declared structs distinct are.ids D are.defined_all depth u t are.wanted are.seen_as
    (asked_place T ts s xs declared structs distinct among named are.wanted u asked are.asked) are.seen are.is_of
