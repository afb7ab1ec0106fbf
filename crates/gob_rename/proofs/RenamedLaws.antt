-- The types with fields renamed differ from the types in the names of fields alone.
use Rattle.std.proofs.Common.{◌≡◌, ◌==◌, ℕ, zero, suc, Bool, true, false, cond, List, [], ◌∷◌, ◌++◌, Some}
use Rattle.std.proofs.Common.{refl, sym, ap, ◌∙◌, subst, map}
use Rattle.std.specs.Prelude.{slice_get}
use Rattle.gob_types.specs.declared.id.TypeId.{TypeId}
use Rattle.gob_types.specs.declared.kind.Field.{Field}
use Rattle.gob_types.specs.declared.kind.Kind.{Kind}
use Rattle.gob_types.specs.declared.kind.Kind.TheVariants as kind
use Rattle.gob_types.specs.declared.kind.Shape.{Shape}
use Rattle.gob_types.specs.Base.{base_table}
use Rattle.gob_types.specs.Definable.{HasLength, IsDefinable}
use Rattle.gob_types.specs.Defined.{IsTable}
use Rattle.gob_types.specs.Table.{Table, shape_of}
use Rattle.gob_types.proofs.PublicLaws.{some_injective}
use Rattle.gob_rename.specs.declared.rename.Rename.{Rename}
use Rattle.gob_rename.specs.Renaming.{renamed, renamed_entry, renamed_field, renamed_kind, renamed_shape}
use Rattle.gob_rename.proofs.AlikeLaws.{KindFollows, named_follows, one_kind, structs, ShapeFollows, Follows}

-- ---- fields and kinds
fields_on : (rs : List Rename) (struct : List ℕ) (fields : List Field) (number : ℕ) (f : Field)
    → slice_get fields number ≡ Some f
    → slice_get (map (λ field. renamed_field rs struct field) fields) number ≡ Some (renamed_field rs struct f)
fields_on rs struct [] number f e = absurd (cc e)
fields_on rs struct (x ∷ fields) zero f e = ap (λ x. Some (renamed_field rs struct x)) (some_injective e)
fields_on rs struct (x ∷ fields) (suc number) f e = fields_on rs struct fields number f e

fields_back : (rs : List Rename) (struct : List ℕ) (fields : List Field) (number : ℕ) (g : Field)
    → slice_get (map (λ field. renamed_field rs struct field) fields) number ≡ Some g
    → (f : Field) × (slice_get fields number ≡ Some f) × (f.id ≡ g.id)
fields_back rs struct [] number g e = absurd (cc e)
fields_back rs struct (x ∷ fields) zero g e = (x, refl, ap (λ (y : Field). y.id) (some_injective e))
fields_back rs struct (x ∷ fields) (suc number) g e = fields_back rs struct fields number g e

kind_on : (rs : List Rename) (struct : List ℕ) (k : Kind) → KindFollows k (renamed_kind rs struct k)
kind_on rs struct (kind.Basic b) = one_kind
kind_on rs struct (kind.Array e n) = one_kind
kind_on rs struct (kind.Slice e) = one_kind
kind_on rs struct (kind.Struct fields) =
    structs (record { each = λ n f e. (renamed_field rs struct f, fields_on rs struct fields n f e, refl) })
kind_on rs struct (kind.Map k e) = one_kind
kind_on rs struct (kind.Opaque m) = one_kind

kind_back : (rs : List Rename) (struct : List ℕ) (k : Kind) → KindFollows (renamed_kind rs struct k) k
kind_back rs struct (kind.Basic b) = one_kind
kind_back rs struct (kind.Array e n) = one_kind
kind_back rs struct (kind.Slice e) = one_kind
kind_back rs struct (kind.Struct fields) = structs (record { each = λ n g e. fields_back rs struct fields n g e })
kind_back rs struct (kind.Map k e) = one_kind
kind_back rs struct (kind.Opaque m) = one_kind

-- ---- tables
-- the same entries in front, and in the second the renamed ones behind them
shape_on : (rs : List Rename) (B D : Table) (t : TypeId) (s : Shape) → shape_of (B ++ D) t ≡ Some s
    → ShapeFollows (B ++ map (λ entry. renamed_entry rs entry) D) t s.kind
shape_on rs [] [] t s e = absurd (cc e)
shape_on rs [] (entry ∷ D) t s e = by (entry.0.0 == t.0) refl e (shape_on rs [] D t s)
  where
    U : Table
    U = map (λ entry. renamed_entry rs entry) (entry ∷ D)

    by : (b : Bool) → (entry.0.0 == t.0) ≡ b → cond b (Some entry.1) (shape_of D t) ≡ Some s
        → (shape_of D t ≡ Some s → ShapeFollows (map (λ entry. renamed_entry rs entry) D) t s.kind)
        → ShapeFollows U t s.kind
    by true f e rest = record {
      shape = renamed_shape rs entry.1;
      there = ap (λ b. cond b (Some (renamed_shape rs entry.1))
          (shape_of (map (λ entry. renamed_entry rs entry) D) t)) f;
      kinds = subst (λ (x : Shape). KindFollows x.kind (renamed_shape rs entry.1).kind) (some_injective e)
          (kind_on rs entry.1.name entry.1.kind);
    }
    by false f e rest =
        let r = rest e in
        record {
          shape = r.shape;
          there = ap (λ b. cond b (Some (renamed_shape rs entry.1))
              (shape_of (map (λ entry. renamed_entry rs entry) D) t)) f ∙ r.there;
          kinds = r.kinds;
        }
shape_on rs (entry ∷ B) D t s e = by (entry.0.0 == t.0) refl e (shape_on rs B D t s)
  where
    by : (b : Bool) → (entry.0.0 == t.0) ≡ b → cond b (Some entry.1) (shape_of (B ++ D) t) ≡ Some s
        → (shape_of (B ++ D) t ≡ Some s → ShapeFollows (B ++ map (λ entry. renamed_entry rs entry) D) t s.kind)
        → ShapeFollows (entry ∷ B ++ map (λ entry. renamed_entry rs entry) D) t s.kind
    by true f e rest = record {
      shape = entry.1;
      there = ap (λ b. cond b (Some entry.1) (shape_of (B ++ map (λ entry. renamed_entry rs entry) D) t)) f;
      kinds = subst (λ (x : Shape). KindFollows x.kind entry.1.kind) (some_injective e) one_kind;
    }
    by false f e rest =
        let r = rest e in
        record {
          shape = r.shape;
          there = ap (λ b. cond b (Some entry.1) (shape_of (B ++ map (λ entry. renamed_entry rs entry) D) t)) f
              ∙ r.there;
          kinds = r.kinds;
        }

-- and back
shape_back : (rs : List Rename) (B D : Table) (t : TypeId) (s : Shape)
    → shape_of (B ++ map (λ entry. renamed_entry rs entry) D) t ≡ Some s → ShapeFollows (B ++ D) t s.kind
shape_back rs [] [] t s e = absurd (cc e)
shape_back rs [] (entry ∷ D) t s e = by (entry.0.0 == t.0) refl e (shape_back rs [] D t s)
  where
    by : (b : Bool) → (entry.0.0 == t.0) ≡ b
        → cond b (Some (renamed_shape rs entry.1)) (shape_of (map (λ entry. renamed_entry rs entry) D) t) ≡ Some s
        → (shape_of (map (λ entry. renamed_entry rs entry) D) t ≡ Some s → ShapeFollows D t s.kind)
        → ShapeFollows (entry ∷ D) t s.kind
    by true f e rest = record {
      shape = entry.1;
      there = ap (λ b. cond b (Some entry.1) (shape_of D t)) f;
      kinds = subst (λ (x : Shape). KindFollows x.kind entry.1.kind) (some_injective e)
          (kind_back rs entry.1.name entry.1.kind);
    }
    by false f e rest =
        let r = rest e in
        record {
          shape = r.shape;
          there = ap (λ b. cond b (Some entry.1) (shape_of D t)) f ∙ r.there;
          kinds = r.kinds;
        }
shape_back rs (entry ∷ B) D t s e = by (entry.0.0 == t.0) refl e (shape_back rs B D t s)
  where
    by : (b : Bool) → (entry.0.0 == t.0) ≡ b
        → cond b (Some entry.1) (shape_of (B ++ map (λ entry. renamed_entry rs entry) D) t) ≡ Some s
        → (shape_of (B ++ map (λ entry. renamed_entry rs entry) D) t ≡ Some s → ShapeFollows (B ++ D) t s.kind)
        → ShapeFollows (entry ∷ B ++ D) t s.kind
    by true f e rest = record {
      shape = entry.1;
      there = ap (λ b. cond b (Some entry.1) (shape_of (B ++ D) t)) f;
      kinds = subst (λ (x : Shape). KindFollows x.kind entry.1.kind) (some_injective e) one_kind;
    }
    by false f e rest =
        let r = rest e in
        record {
          shape = r.shape;
          there = ap (λ b. cond b (Some entry.1) (shape_of (B ++ D) t)) f ∙ r.there;
          kinds = r.kinds;
        }

pub renamed_on : {T : Table} (rs : List Rename) → IsTable T → Follows T (renamed rs T)
renamed_on {T = T} rs k = subst (λ (T : Table). Follows T (renamed rs T)) (sym k.behind_base)
    (record { each = λ t s e. shape_on rs base_table k.definitions t s e })

pub renamed_back : {T : Table} (rs : List Rename) → IsTable T → Follows (renamed rs T) T
renamed_back {T = T} rs k = subst (λ (T : Table). Follows (renamed rs T) T) (sym k.behind_base)
    (record { each = λ t s e. shape_back rs base_table k.definitions t s e })

-- a description can give the renamed shape too
pub definable_renamed : (rs : List Rename) (s : Shape) → IsDefinable s → IsDefinable (renamed_shape rs s)
definable_renamed rs s d = record {
  length = length_of s.kind d.length;
  references = λ u n. d.references u (named_follows u (kind_back rs s.name s.kind) n);
}
  where
    length_of : (k : Kind) → HasLength k → HasLength (renamed_kind rs s.name k)
    length_of (kind.Basic b) h = h
    length_of (kind.Array e n) h = h
    length_of (kind.Slice e) h = h
    length_of (kind.Struct fields) h = h
    length_of (kind.Map k e) h = h
    length_of (kind.Opaque m) h = h
