-- One step of tidying the parts of a value.
use Rattle.std.proofs.Common.{◌≡◌, ◌⊎◌, inl, inr, ℕ, ◌+◌, ◌^◌, ◌<◌, ◌≤◌, max, List, [], ◌∷◌, ◌++◌, length, Some, None}
use Rattle.std.proofs.Common.{arith, refl, sym, ap, ◌∙◌, subst, append_assoc}
use Rattle.std.specs.Prelude.{slice_get, Result, Ok, Err, IfOk}
use Rattle.gob_num.specs.declared.memory.Memory.{Memory}
use Rattle.std.proofs.lemmas.List.{append-nil}
use Rattle.gob_types.specs.declared.basic.Basic.{Basic}
use Rattle.gob_types.specs.declared.id.TypeId.{TypeId}
use Rattle.gob_types.specs.declared.kind.Field.{Field}
use Rattle.gob_types.specs.declared.kind.Marshal.{Marshal}
use Rattle.gob_types.specs.declared.kind.Kind.{Kind}
use Rattle.gob_types.specs.declared.kind.Kind.TheVariants as kind
use Rattle.gob_types.specs.declared.kind.Shape.{Shape}
use Rattle.gob_types.specs.Table.{Table, shape_of}
use Rattle.gob_types.proofs.PublicLaws.{some_injective}
use Rattle.gob_value.specs.Tree.{Tree, Trees, tree, Pairs, pair, Fields, field, depth, trees_depth, pairs_depth}
use Rattle.gob_value.specs.Tree.{fields_depth}
use Rattle.gob_value.specs.View.{view, views, pair_views, field_views}
use Rattle.gob_value.specs.TidyLaws.{HasSmallNumbers}
use Rattle.gob_value.specs.TidyLaws.{AllHaveSmallNumbers, PairsHaveSmallNumbers, FieldsHaveSmallNumbers}
use Rattle.gob_value.specs.Machine.Tidied.{IsTidied}
use Rattle.gob_value.specs.Written.{HasParts}
use Rattle.gob_value.specs.Tidy.{Tidies, IsZero, of_bool}
use Rattle.gob_value.specs.Tidy.{IsDropped, zero_basic, empty_slice, of_type, TidiesAs, of_basic, of_opaque, of_slice}
use Rattle.gob_value.specs.Tidy.{of_array, of_map, of_struct, TidiesEach, element, TidiesPairs, entry, TidiesFields}
use Rattle.gob_value.specs.Tidy.{dropped, kept, HasTidyForm}
use Rattle.gob_value.specs.declared.value.Value.{Value}
use Rattle.gob_value.proofs.TidyLaws.{same_shape}

-- ---- a list that is tidied part after part

-- what is tidied so far, before the tidy form of what is left, is the tidy form of the whole; this is known of what is
-- left, which is no deeper than the whole
pub record Goes {A : Type 0} (Tidy : List A → List A → Type 0) (Known : List A → Type 0) (deep : List A → ℕ)
    (whole more tidied : List A) : Type 0 where
  pub completes : (rest : List A) → Tidy more rest → Tidy whole (tidied ++ rest)
  pub known : Known more
  pub shallow : deep more ≤ deep whole

module _ {A : Type 0} {Tidy : List A → List A → Type 0} {Known : List A → Type 0} {deep : List A → ℕ}
    {whole more tidied new rest : List A} where
  -- a part becomes those in front
  pub goes_on : (prefix : List A) {part : A} → Goes Tidy Known deep whole more tidied → more ≡ part ∷ rest
      → new ≡ tidied ++ prefix
      → ((r : List A) → Tidy rest r → Tidy (part ∷ rest) (prefix ++ r)) → Known rest → deep rest ≤ deep (part ∷ rest)
      → Goes Tidy Known deep whole rest new
  goes_on prefix {part = part} g h n step k d = record {
    completes = λ r p. subst (Tidy whole) (sym (ap (λ l. l ++ r) n ∙ append_assoc tidied prefix r))
        (g.completes (prefix ++ r) (subst (λ l. Tidy l (prefix ++ r)) (sym h) (step r p)));
    known = k;
    shallow = let s = subst (λ l. deep l ≤ deep whole) h g.shallow in omega arith;
  }

pub goes_starts : {A : Type 0} {Tidy : List A → List A → Type 0} {Known : List A → Type 0} {deep : List A → ℕ}
    {whole new : List A} → new ≡ [] → Known whole → Goes Tidy Known deep whole whole new
goes_starts {Tidy = Tidy} {whole = whole} e k = record
    { completes = λ r p. subst (λ l. Tidy whole (l ++ r)) (sym e) p; known = k; shallow = omega arith }

module _ {A : Type 0} {Tidy : List A → List A → Type 0} {Known : List A → Type 0} {deep : List A → ℕ}
    {whole more tidied : List A} where
  pub goes_end : Goes Tidy Known deep whole more tidied → length more ≡ 0 → Tidy [] [] → Tidy whole tidied
  goes_end g h e = subst (Tidy whole) (append-nil tidied)
      (g.completes [] (subst (λ l. Tidy l []) (sym (nothing more h)) e))
    where
      nothing : (l : List A) → length l ≡ 0 → l ≡ []
      nothing [] h = refl
      nothing (x ∷ xs) h = absurd (omega arith)

abbrev pub EachGoes : Table → TypeId → List Value → List Value → List Value → Type 0
EachGoes T e = Goes (λ vs ws. IsTidied (TidiesEach T e) AllHaveSmallNumbers (views vs) (views ws))
    (λ vs. HasTidyForm (TidiesEach T e (views vs)))
    (λ vs. trees_depth (views vs))

abbrev pub PairsGo : Table → TypeId → TypeId → List (Value × Value) → List (Value × Value) → List (Value × Value)
    → Type 0
PairsGo T k e = Goes (λ ps qs. IsTidied (TidiesPairs T k e) PairsHaveSmallNumbers (pair_views ps) (pair_views qs))
    (λ ps. HasTidyForm (TidiesPairs T k e (pair_views ps))) (λ ps. pairs_depth (pair_views ps))

abbrev pub FieldsGo : Table → List Field → List (ℕ × Value) → List (ℕ × Value) → List (ℕ × Value) → Type 0
FieldsGo T types = Goes (λ fs gs. IsTidied (TidiesFields T types) FieldsHaveSmallNumbers (field_views fs)
    (field_views gs))
    (λ fs. HasTidyForm (TidiesFields T types (field_views fs))) (λ fs. fields_depth (field_views fs))

-- ---- kinds and values with parts

-- a slice's kind or an array's
abbrev pub IsListOf : Kind → TypeId → Type 0
IsListOf k e = (k ≡ kind.Slice e) ⊎ ((n : ℕ) × (k ≡ kind.Array e n))

abbrev pub IsNoList : Tree → Type 0
IsNoList (Tree.many vs) = ⊥
IsNoList _ = Unit {0}

abbrev pub IsNoMap : Tree → Type 0
IsNoMap (Tree.pairs ps) = ⊥
IsNoMap _ = Unit {0}

abbrev pub IsNoStruct : Tree → Type 0
IsNoStruct (Tree.fields fs) = ⊥
IsNoStruct _ = Unit {0}

-- a kind whose values have no parts
abbrev pub IsPlain : Kind → Type 0
IsPlain k = ((b : Basic) × (k ≡ kind.Basic b)) ⊎ ((m : Marshal) × (k ≡ kind.Opaque m))

pub no_numbers : (v : Tree) → ¬ HasParts v → HasSmallNumbers v
no_numbers (Tree.many vs) n = absurd (n tt)
no_numbers (Tree.pairs ps) n = absurd (n tt)
no_numbers (Tree.fields fs) n = absurd (n tt)
no_numbers _ n = tt

dropped_small : {k : Kind} {v : Tree} → IsDropped k v → HasSmallNumbers v
dropped_small (zero_basic z) = zero_small z
  where
    zero_small : {v : Tree} → IsZero v → HasSmallNumbers v
    zero_small of_bool = tt
    zero_small _ = tt
dropped_small empty_slice = tt

-- ---- what a loop needs of the next part

pub record PartLeft (T : Table) (e : TypeId) (part : Value) (rest whole : List Value) : Type 0 where
  pub form : HasTidyForm (Tidies T e (view part))
  pub forms : HasTidyForm (TidiesEach T e (views rest))
  pub shallow : depth (view part) ≤ trees_depth (views whole)

pub record PairLeft (T : Table) (k e : TypeId) (part : Value × Value) (rest whole : List (Value × Value)) : Type 0 where
  pub key : HasTidyForm (Tidies T k (view part.0))
  pub form : HasTidyForm (Tidies T e (view part.1))
  pub forms : HasTidyForm (TidiesPairs T k e (pair_views rest))
  pub key_shallow : depth (view part.0) ≤ pairs_depth (pair_views whole)
  pub shallow : depth (view part.1) ≤ pairs_depth (pair_views whole)

pub record FieldLeft (T : Table) (types : List Field) (f : ℕ) (v : Tree) (rest : List (ℕ × Value)) : Type 0 where
  pub type : Field
  pub shape : Shape
  pub there : slice_get types f ≡ Some type
  pub defined : shape_of T type.id ≡ Some shape
  pub form : ¬ IsDropped shape.kind v → HasTidyForm (TidiesAs T shape.kind v)
  pub forms : HasTidyForm (TidiesFields T types (field_views rest))

module _ {T : Table} where
  -- ---- elements

  pub each_left : {e : TypeId} {whole more tidied rest : List Value} {part : Value} → EachGoes T e whole more tidied
      → more ≡ part ∷ rest → PartLeft T e part rest whole
  each_left {e = e} {whole = whole} g h =
      let known = subst (λ (l : List Value). HasTidyForm (TidiesEach T e (views l))) h g.known in
      let r = inside known.tidies in
      let s = subst (λ (l : List Value). trees_depth (views l) ≤ trees_depth (views whole)) h g.shallow in
      record { form = r.0; forms = r.1; shallow = omega arith }
    where
      inside : {e : TypeId} {v : Tree} {vs ws : Trees} → TidiesEach T e (tree v vs) ws → HasTidyForm (Tidies T e v)
          × HasTidyForm (TidiesEach T e vs)
      inside (element {w = w} {ws = ws} p ps) = (record { tidy = w; tidies = p }, record { tidy = ws; tidies = ps })

  pub each_on : {e : TypeId} {whole more tidied new rest : List Value} {part : Value} (made : Value)
      → EachGoes T e whole more tidied → more ≡ part ∷ rest → IsTidied (Tidies T e) HasSmallNumbers (view part)
      (view made)
      → new ≡ tidied ++ made ∷ [] → EachGoes T e whole rest new
  each_on made g h p n = let l = each_left g h in goes_on (made ∷ []) g h n
      (λ r q. record { tidies = element p.tidies q.tidies; small = (p.small, q.small) }) l.forms (omega arith)

  -- ---- keys and elements

  pub pairs_left : {k e : TypeId} {whole more tidied rest : List (Value × Value)} {part : Value × Value}
      → PairsGo T k e whole more tidied → more ≡ part ∷ rest → PairLeft T k e part rest whole
  pairs_left {k = k} {e = e} {whole = whole} g h =
      let known = subst (λ (l : List (Value × Value)). HasTidyForm (TidiesPairs T k e (pair_views l))) h g.known in
      let r = inside known.tidies in
      let s = subst (λ (l : List (Value × Value)). pairs_depth (pair_views l) ≤ pairs_depth (pair_views whole)) h
      g.shallow in
      record { key = r.0; form = r.1; forms = r.2; key_shallow = omega arith; shallow = omega arith }
    where
      inside : {k e : TypeId} {x v : Tree} {ps qs : Pairs} → TidiesPairs T k e (pair x v ps) qs
          → HasTidyForm (Tidies T k x)
          × HasTidyForm (Tidies T e v) × HasTidyForm (TidiesPairs T k e ps)
      inside (entry {y = y} {w = w} {qs = qs} o p ps) =
          (record { tidy = y; tidies = o }, record { tidy = w; tidies = p }, record { tidy = qs; tidies = ps })

  pub pairs_on : {k e : TypeId} {whole more tidied new rest : List (Value × Value)} {part : Value × Value}
      (made : Value × Value) → PairsGo T k e whole more tidied → more ≡ part ∷ rest
      → IsTidied (Tidies T k) HasSmallNumbers (view part.0) (view made.0)
      → IsTidied (Tidies T e) HasSmallNumbers (view part.1) (view made.1) → new ≡ tidied ++ made ∷ []
      → PairsGo T k e whole rest new
  pairs_on made g h o p n = let l = pairs_left g h in goes_on (made ∷ []) g h n
      (λ r q. record { tidies = entry o.tidies p.tidies q.tidies; small = (o.small, p.small, q.small) }) l.forms
      (omega arith)

  -- ---- fields

  pub field_left : {types : List Field} {whole more tidied rest : List (ℕ × Value)} {f : ℕ} {v : Value}
      → FieldsGo T types whole more tidied → more ≡ (f, v) ∷ rest → FieldLeft T types f (view v) rest
  field_left {types = types} {rest = rest} g h =
      let known = subst (λ (l : List (ℕ × Value)). HasTidyForm (TidiesFields T types (field_views l))) h g.known in
      inside known.tidies
    where
      inside : {f : ℕ} {v : Tree} {gs : Fields} → TidiesFields T types (field f v (field_views rest)) gs
          → FieldLeft T types f v rest
      inside (dropped {e = e} {s = s} {gs = gs} m p d ps) =
          record {
            type = e;
            shape = s;
            there = m;
            defined = p;
            form = λ n. absurd (n d);
            forms = record
                { tidy = gs; tidies = ps };
          }
      inside (kept {e = e} {s = s} {w = w} {gs = gs} m p n q ps) =
          record {
            type = e;
            shape = s;
            there = m;
            defined = p;
            form = λ _. record { tidy = w; tidies = q };
            forms =
                record { tidy = gs; tidies = ps };
          }

  pub field_shallow : {types : List Field} {whole more tidied rest : List (ℕ × Value)} {f : ℕ} {v : Value}
      → FieldsGo T types whole more tidied → more ≡ (f, v) ∷ rest
      → max (depth (view v)) (fields_depth (field_views rest)) ≤ fields_depth (field_views whole)
  field_shallow {whole = whole} g h = subst (λ (l : List (ℕ × Value)). fields_depth (field_views l) ≤ fields_depth
      (field_views whole)) h g.shallow

  -- at whatever shape is found for the field
  pub field_form : {types : List Field} {f : ℕ} {v : Tree} {rest : List (ℕ × Value)} {e : Field} {s : Shape}
      → FieldLeft T types f v rest → slice_get types f ≡ Some e → shape_of T e.id ≡ Some s
      → ¬ IsDropped s.kind v → HasTidyForm (TidiesAs T s.kind v)
  field_form {types = types} {f = f} {v = v} {s = s} l m p =
      let same : s ≡ l.shape = same_shape T types f l.there m l.defined p in
      subst (λ (r : Shape). ¬ IsDropped r.kind v → HasTidyForm (TidiesAs T r.kind v)) (sym same) l.form

  module _ {types : List Field} {whole more tidied rest : List (ℕ × Value)} {f : ℕ} {v : Value} {e : Field} {s : Shape}
    where
      pub field_dropped : FieldsGo T types whole more tidied → more ≡ (f, v) ∷ rest → slice_get types f ≡ Some e
          → shape_of T e.id ≡ Some s → IsDropped s.kind (view v) → f + 1 < 2 ^ 64 → FieldsGo T types whole rest tidied
      field_dropped g h m p d b = let l = field_left g h in goes_on [] g h (sym (append-nil tidied))
          (λ r q. record { tidies = dropped m p d q.tidies; small = (b, dropped_small d, q.small) }) l.forms
          (omega arith)

      pub field_kept : {new : List (ℕ × Value)} (w : Value) → FieldsGo T types whole more tidied → more ≡ (f, v) ∷ rest
          → slice_get types f ≡ Some e → shape_of T e.id ≡ Some s → ¬ IsDropped s.kind (view v)
          → IsTidied (TidiesAs T s.kind) HasSmallNumbers (view v) (view w) → f + 1 < 2 ^ 64 → new ≡ tidied
          ++ (f, w) ∷ []
          → FieldsGo T types whole rest new
      field_kept w g h m p n o b k = let l = field_left g h in goes_on ((f, w) ∷ []) g h k
          (λ r q. record { tidies = kept m p n o.tidies q.tidies; small = (b, o.small, q.small) }) l.forms (omega arith)

  -- ---- a value with parts, and its parts

  pub many_of_parts : {k : Kind} {e : TypeId} {vs ws : Trees} → IsListOf k e
      → IsTidied (TidiesEach T e) AllHaveSmallNumbers vs ws
      → IsTidied (TidiesAs T k) HasSmallNumbers (Tree.many vs) (Tree.many ws)
  many_of_parts {vs = vs} {ws = ws} (inl h) ps = record {
    tidies = subst (λ (k : Kind). TidiesAs T k (Tree.many vs) (Tree.many ws)) (sym h) (of_slice ps.tidies);
    small =
        ps.small;
  }
  many_of_parts {vs = vs} {ws = ws} (inr h) ps = record {
    tidies = subst (λ (k : Kind). TidiesAs T k (Tree.many vs) (Tree.many ws)) (sym h.1) (of_array ps.tidies);
    small = ps.small;
  }

  pub parts_of_many : {k : Kind} {e : TypeId} {vs : Trees} → IsListOf k e → HasTidyForm (TidiesAs T k (Tree.many vs))
      → HasTidyForm (TidiesEach T e vs)
  parts_of_many {e = e} {vs = vs} (inl h) r = inside
      (subst (λ (k : Kind). TidiesAs T k (Tree.many vs) r.tidy) h r.tidies)
    where
      inside : {w : Tree} → TidiesAs T (kind.Slice e) (Tree.many vs) w → HasTidyForm (TidiesEach T e vs)
      inside (of_slice {ws = ws} ps) = record { tidy = ws; tidies = ps }
  parts_of_many {e = e} {vs = vs} (inr h) r = inside
      (subst (λ (k : Kind). TidiesAs T k (Tree.many vs) r.tidy) h.1 r.tidies)
    where
      inside : {n : ℕ} {w : Tree} → TidiesAs T (kind.Array e n) (Tree.many vs) w → HasTidyForm (TidiesEach T e vs)
      inside (of_array {ws = ws} ps) = record { tidy = ws; tidies = ps }

  pub parts_of_pairs : {k e : TypeId} {ps : Pairs} → HasTidyForm (TidiesAs T (kind.Map k e) (Tree.pairs ps))
      → HasTidyForm (TidiesPairs T k e ps)
  parts_of_pairs r = inside r.tidies
    where
      inside : {k e : TypeId} {ps : Pairs} {w : Tree} → TidiesAs T (kind.Map k e) (Tree.pairs ps) w
          → HasTidyForm (TidiesPairs T k e ps)
      inside (of_map {qs = qs} ps) = record { tidy = qs; tidies = ps }

  pub parts_of_fields : {types : List Field} {fs : Fields}
      → HasTidyForm (TidiesAs T (kind.Struct types) (Tree.fields fs))
      → HasTidyForm (TidiesFields T types fs)
  parts_of_fields r = inside r.tidies
    where
      inside : {types : List Field} {fs : Fields} {w : Tree} → TidiesAs T (kind.Struct types) (Tree.fields fs) w
          → HasTidyForm (TidiesFields T types fs)
      inside (of_struct {gs = gs} ps) = record { tidy = gs; tidies = ps }

  pub form_at : {t : TypeId} {v : Tree} {s : Shape} → HasTidyForm (Tidies T t v) → shape_of T t ≡ Some s
      → HasTidyForm (TidiesAs T s.kind v)
  form_at {v = v} r e = inside r.tidies e
    where
      inside : {t : TypeId} {w : Tree} {s : Shape} → Tidies T t v w → shape_of T t ≡ Some s
          → HasTidyForm (TidiesAs T s.kind v)
      inside {w = w} {s = s} (of_type {s = r} f p) e =
          let one : r ≡ s = some_injective (sym f ∙ e) in
          record { tidy = w; tidies = subst (λ (s : Shape). TidiesAs T s.kind v w) one p }

  pub formless : {t : TypeId} {v : Tree} → HasTidyForm (Tidies T t v) → shape_of T t ≡ None → ⊥
  formless {v = v} r e = inside r.tidies e
    where
      inside : {t : TypeId} {w : Tree} → Tidies T t v w → shape_of T t ≡ None → ⊥
      inside (of_type f p) e = cc

  pub plain_stays : {k : Kind} {v : Tree} → IsPlain k → HasTidyForm (TidiesAs T k v)
      → IsTidied (TidiesAs T k) HasSmallNumbers v v
  plain_stays {v = v} (inl h) r =
      let p = inside (subst (λ (k : Kind). TidiesAs T k v r.tidy) h.1 r.tidies) in
      record { tidies = subst (λ (k : Kind). TidiesAs T k v v) (sym h.1) (of_basic p); small = no_numbers v p }
    where
      inside : {b : Basic} {v w : Tree} → TidiesAs T (kind.Basic b) v w → ¬ HasParts v
      inside (of_basic n) = n
  plain_stays {v = v} (inr h) r =
      let p = inside (subst (λ (k : Kind). TidiesAs T k v r.tidy) h.1 r.tidies) in
      record { tidies = subst (λ (k : Kind). TidiesAs T k v v) (sym h.1) (of_opaque p); small = no_numbers v p }
    where
      inside : {m : Marshal} {v w : Tree} → TidiesAs T (kind.Opaque m) v w → ¬ HasParts v
      inside (of_opaque n) = n

  pub has_list : {k : Kind} {e : TypeId} {v : Tree} → IsListOf k e → HasTidyForm (TidiesAs T k v) → ¬ IsNoList v
  has_list {v = v} (inl h) r n = inside (subst (λ (k : Kind). TidiesAs T k v r.tidy) h r.tidies) n
    where
      inside : {e : TypeId} {v w : Tree} → TidiesAs T (kind.Slice e) v w → ¬ IsNoList v
      inside (of_slice ps) n = n
  has_list {v = v} (inr h) r n = inside (subst (λ (k : Kind). TidiesAs T k v r.tidy) h.1 r.tidies) n
    where
      inside : {e : TypeId} {n : ℕ} {v w : Tree} → TidiesAs T (kind.Array e n) v w → ¬ IsNoList v
      inside (of_array ps) n = n

  pub has_map : {k e : TypeId} {v : Tree} → HasTidyForm (TidiesAs T (kind.Map k e) v) → ¬ IsNoMap v
  has_map r = inside r.tidies
    where
      inside : {k e : TypeId} {v w : Tree} → TidiesAs T (kind.Map k e) v w → ¬ IsNoMap v
      inside (of_map ps) n = n

  pub has_struct : {types : List Field} {v : Tree} → HasTidyForm (TidiesAs T (kind.Struct types) v) → ¬ IsNoStruct v
  has_struct r = inside r.tidies
    where
      inside : {types : List Field} {v w : Tree} → TidiesAs T (kind.Struct types) v w → ¬ IsNoStruct v
      inside (of_struct ps) n = n

-- a field's type has a shape
pub nowhere : (T : Table) (types : List Field) (f : ℕ) {e g : Field} {s : Shape} → slice_get types f ≡ Some e
    → slice_get types f ≡ Some g → shape_of T e.id ≡ Some s → shape_of T g.id ≡ None → ⊥
nowhere T types f {e = e} {g = g} m n p q = let one : e ≡ g = some_injective (sym m ∙ n) in let r = ap
    (λ (e : Field). shape_of T e.id) one in cc

pub typed : (T : Table) (t : TypeId) (v : Value) {s : Shape} → shape_of T t ≡ Some s → (r : Result Value Memory)
    → IfOk r (λ w. IsTidied (TidiesAs T s.kind) HasSmallNumbers (view v) (view w))
    → IfOk r (λ w. IsTidied (Tidies T t) HasSmallNumbers (view v) (view w))
typed T t v e (Ok w) p = record { tidies = of_type e p.tidies; small = p.small }
typed T t v e (Err m) p = tt
