-- What the rows of a value are to its spelling.
use Rattle.std.proofs.Common.{◌≡◌, ℕ, ◌+◌, List, [], ◌∷◌, ◌++◌, refl, sym, ap, ◌∙◌, subst, append_assoc}
use Rattle.gob_num.proofs.PublicLaws.{unsigned_unique, signed_unique, pattern_unique}
use Rattle.gob_types.specs.declared.id.TypeId.{TypeId}
use Rattle.gob_types.specs.declared.kind.Field.{Field}
use Rattle.gob_types.specs.declared.kind.Kind.{Kind}
use Rattle.gob_types.specs.declared.kind.Shape.{Shape}
use Rattle.gob_types.specs.Table.{Table}
use Rattle.gob_types.proofs.PublicLaws.{some_injective}
use Rattle.gob_value.specs.Tree.{Tree, Trees, Pairs, Fields}
use Rattle.gob_value.specs.Spelling.{Spells, SpellsAs, SpellsEach, SpellsPairs, SpellsFields}
use Rattle.gob_value.specs.Spelling as spelling
use Rattle.gob_value.specs.Top.{SpellsTop}
use Rattle.gob_value.specs.Top as top
use Rattle.gob_explain.specs.Rows.{Row, row, What, tag, names, joined, ExplainsTop, raw_rows, Explains, ExplainsAs}
use Rattle.gob_explain.specs.Rows.{ExplainsEach, ExplainsPairs, ExplainsFields}
use Rattle.gob_explain.specs.Rows as rows

pub append_nil : (xs : List ℕ) → xs ++ [] ≡ xs
append_nil [] = refl
append_nil (x ∷ xs) = ap (λ (l : List ℕ). x ∷ l) (append_nil xs)

pub both : {a b c d : List ℕ} → a ≡ c → b ≡ d → a ++ b ≡ c ++ d
both {b = b} {c = c} e f = ap (λ (l : List ℕ). l ++ b) e ∙ ap (λ (l : List ℕ). c ++ l) f

-- the bytes of rows behind one another
pub joined_append : (rs ss : List Row) → joined (rs ++ ss) ≡ joined rs ++ joined ss
joined_append [] ss = refl
joined_append (r ∷ rs) ss =
    ap (λ (l : List ℕ). r.bytes ++ l) (joined_append rs ss) ∙ sym (append_assoc r.bytes (joined rs) (joined ss))

joined_raw : (d : ℕ) (s : List ℕ) → joined (raw_rows d s) ≡ s
joined_raw d [] = refl
joined_raw d (x ∷ s) = append_nil (x ∷ s)

-- ---- the rows join to the spelling

mutual
  pub joins : (T : Table) (d : ℕ) (t : TypeId) (v : Tree) (rs : List Row) → Explains T d t v rs
      → Spells T t v (joined rs)
  joins T d t v rs (rows.of_type e p) = spelling.of_type e (joins_as p)

  joins_as : {T : Table} {d : ℕ} {k : Kind} {v : Tree} {rs : List Row} → ExplainsAs T d k v rs
      → SpellsAs T k v (joined rs)
  joins_as (rows.of_bool {b = b} p) = subst (SpellsAs _ _ _) (sym (append_nil b)) (spelling.of_bool p)
  joins_as (rows.of_int {b = b} p) = subst (SpellsAs _ _ _) (sym (append_nil b)) (spelling.of_int p)
  joins_as (rows.of_uint {b = b} p) = subst (SpellsAs _ _ _) (sym (append_nil b)) (spelling.of_uint p)
  joins_as (rows.of_float {b = b} p) = subst (SpellsAs _ _ _) (sym (append_nil b)) (spelling.of_float p)
  joins_as (rows.of_complex {b = b} {c = c} p q) =
      subst (SpellsAs _ _ _) (ap (λ (l : List ℕ). b ++ l) (sym (append_nil c))) (spelling.of_complex p q)
  joins_as (rows.of_nil {b = b} p) = subst (SpellsAs _ _ _) (sym (append_nil b)) (spelling.of_nil p)
  joins_as (rows.of_bytes {d = d} {s = s} {c = c} p) =
      subst (SpellsAs _ _ _) (ap (λ (l : List ℕ). c ++ l) (sym (joined_raw d s))) (spelling.of_bytes p)
  joins_as (rows.of_text {d = d} {s = s} {c = c} p) =
      subst (SpellsAs _ _ _) (ap (λ (l : List ℕ). c ++ l) (sym (joined_raw d s))) (spelling.of_text p)
  joins_as (rows.of_opaque {d = d} {s = s} {c = c} p) =
      subst (SpellsAs _ _ _) (ap (λ (l : List ℕ). c ++ l) (sym (joined_raw d s))) (spelling.of_opaque p)
  joins_as (rows.of_slice p ps) = spelling.of_slice p (joins_each ps)
  joins_as (rows.of_array n p ps) = spelling.of_array n p (joins_each ps)
  joins_as (rows.of_map p ps) = spelling.of_map p (joins_pairs ps)
  joins_as (rows.of_struct ps) = spelling.of_struct (joins_fields ps)

  joins_each : {T : Table} {d : ℕ} {e : TypeId} {vs : Trees} {rs : List Row} → ExplainsEach T d e vs rs
      → SpellsEach T e vs (joined rs)
  joins_each rows.no_element = spelling.no_element
  joins_each (rows.element {rs = rs} {ss = ss} p ps) =
      subst (SpellsEach _ _ _) (sym (joined_append rs ss)) (spelling.element (joins _ _ _ _ rs p) (joins_each ps))

  joins_pairs : {T : Table} {d : ℕ} {k e : TypeId} {es : Pairs} {rs : List Row} → ExplainsPairs T d k e es rs
      → SpellsPairs T k e es (joined rs)
  joins_pairs rows.no_entry = spelling.no_entry
  joins_pairs (rows.entry {qs = qs} {rs = rs} {ss = ss} q p ps) =
      subst (SpellsPairs _ _ _ _)
      (sym (joined_append qs (rs ++ ss) ∙ ap (λ (l : List ℕ). joined qs ++ l) (joined_append rs ss)))
      (spelling.entry (joins _ _ _ _ qs q) (joins _ _ _ _ rs p) (joins_pairs ps))

  joins_fields : {T : Table} {d : ℕ} {types : List Field} {next : ℕ} {fs : Fields} {rs : List Row}
      → ExplainsFields T d types next fs rs → SpellsFields T types next fs (joined rs)
  joins_fields (rows.end_of_fields {b = b} p) = subst (SpellsFields _ _ _ _) (sym (append_nil b))
      (spelling.end_of_fields p)
  joins_fields (rows.next_field {a = a} {rs = rs} {ss = ss} l at p q ps) =
      subst (SpellsFields _ _ _ _) (ap (λ (l : List ℕ). a ++ l) (sym (joined_append rs ss)))
      (spelling.next_field l at p (joins _ _ _ _ rs q) (joins_fields ps))

-- ---- each spelling has its rows

mutual
  pub explained : (T : Table) (d : ℕ) (t : TypeId) (v : Tree) (b : List ℕ) → Spells T t v b
      → (rs : List Row) × Explains T d t v rs × (joined rs ≡ b)
  explained T d t v b (spelling.of_type e p) = let r = explained_as d p in (r.0, rows.of_type e r.1, r.2)

  explained_as : {T : Table} {k : Kind} {v : Tree} {b : List ℕ} (d : ℕ) → SpellsAs T k v b
      → (rs : List Row) × ExplainsAs T d k v rs × (joined rs ≡ b)
  explained_as d (spelling.of_bool {b = b} p) = (_, rows.of_bool p, append_nil b)
  explained_as d (spelling.of_int {b = b} p) = (_, rows.of_int p, append_nil b)
  explained_as d (spelling.of_uint {b = b} p) = (_, rows.of_uint p, append_nil b)
  explained_as d (spelling.of_float {b = b} p) = (_, rows.of_float p, append_nil b)
  explained_as d (spelling.of_complex {b = b} {c = c} p q) =
      (_, rows.of_complex p q, ap (λ (l : List ℕ). b ++ l) (append_nil c))
  explained_as d (spelling.of_nil {b = b} p) = (_, rows.of_nil p, append_nil b)
  explained_as d (spelling.of_bytes {s = s} {c = c} p) = (
    _,
    rows.of_bytes p,
    ap (λ (l : List ℕ). c ++ l) (joined_raw
        d s),
  )
  explained_as d (spelling.of_text {s = s} {c = c} p) = (
    _,
    rows.of_text p,
    ap (λ (l : List ℕ). c ++ l) (joined_raw d
        s),
  )
  explained_as d (spelling.of_opaque {s = s} {c = c} p) =
      (_, rows.of_opaque p, ap (λ (l : List ℕ). c ++ l) (joined_raw d s))
  explained_as d (spelling.of_slice {c = c} p ps) =
      let r = explained_each (d + 1) ps in (_, rows.of_slice p r.1, ap (λ (l : List ℕ). c ++ l) r.2)
  explained_as d (spelling.of_array {c = c} n p ps) =
      let r = explained_each (d + 1) ps in (_, rows.of_array n p r.1, ap (λ (l : List ℕ). c ++ l) r.2)
  explained_as d (spelling.of_map {c = c} p ps) =
      let r = explained_pairs (d + 1) ps in (_, rows.of_map p r.1, ap (λ (l : List ℕ). c ++ l) r.2)
  explained_as d (spelling.of_struct ps) = let r = explained_fields d ps in (r.0, rows.of_struct r.1, r.2)

  pub explained_each : {T : Table} {e : TypeId} {vs : Trees} {b : List ℕ} (d : ℕ) → SpellsEach T e vs b
      → (rs : List Row) × ExplainsEach T d e vs rs × (joined rs ≡ b)
  explained_each d spelling.no_element = ([], rows.no_element, refl)
  explained_each d (spelling.element p ps) =
      let r = explained _ d _ _ _ p in
      let s = explained_each d ps in
      (r.0 ++ s.0, rows.element r.1 s.1, joined_append r.0 s.0 ∙ both r.2 s.2)

  pub explained_pairs : {T : Table} {k e : TypeId} {es : Pairs} {b : List ℕ} (d : ℕ) → SpellsPairs T k e es b
      → (rs : List Row) × ExplainsPairs T d k e es rs × (joined rs ≡ b)
  explained_pairs d spelling.no_entry = ([], rows.no_entry, refl)
  explained_pairs d (spelling.entry q p ps) =
      let x = explained _ d _ _ _ q in
      let r = explained _ d _ _ _ p in
      let s = explained_pairs d ps in (
        x.0 ++ (r.0 ++ s.0),
        rows.entry x.1 r.1 s.1,
        joined_append x.0 (r.0 ++ s.0) ∙ both x.2 (joined_append r.0 s.0 ∙ both r.2 s.2),
      )

  explained_fields : {T : Table} {types : List Field} {next : ℕ} {fs : Fields} {b : List ℕ} (d : ℕ)
      → SpellsFields T types next fs b → (rs : List Row) × ExplainsFields T d types next fs rs × (joined rs ≡ b)
  explained_fields d (spelling.end_of_fields {b = b} p) = (_, rows.end_of_fields p, append_nil b)
  explained_fields d (spelling.next_field {a = a} l at p q ps) =
      let r = explained _ (d + 1) _ _ _ q in
      let s = explained_fields d ps in
      (_, rows.next_field l at p r.1 s.1, ap (λ (l : List ℕ). a ++ l) (joined_append r.0 s.0 ∙ both r.2 s.2))

-- ---- behind a tag

pub joins_top : (T : Table) (t : TypeId) (v : Tree) (rs : List Row) → ExplainsTop T t v rs → SpellsTop T t v (joined rs)
joins_top T t v rs (rows.at_once e i p) = top.at_once e i (joins T 1 t v rs p)
joins_top T t v rs (rows.tagged e n p) = top.tagged e n (joins T 1 t v _ p)

pub explained_top : (T : Table) (t : TypeId) (v : Tree) (b : List ℕ) → SpellsTop T t v b
    → (rs : List Row) × ExplainsTop T t v rs × (joined rs ≡ b)
explained_top T t v b (top.at_once e i p) = let r = explained T 1 t v b p in (r.0, rows.at_once e i r.1, r.2)
explained_top T t v b (top.tagged e n p) =
    let r = explained T 1 t v _ p in (row 0 tag (0 ∷ []) ∷ r.0, rows.tagged e n r.1, ap (λ (l : List ℕ). 0 ∷ l) r.2)

-- ---- a value is explained in one way

cons_same : {r s : Row} {rs ss : List Row} → r ≡ s → rs ≡ ss → r ∷ rs ≡ s ∷ ss
cons_same {s = s} {rs = rs} e f = ap (λ (r : Row). r ∷ rs) e ∙ ap (λ (l : List Row). s ∷ l) f

rows_same : {ps qs rs ss : List Row} → ps ≡ rs → qs ≡ ss → ps ++ qs ≡ rs ++ ss
rows_same {qs = qs} {rs = rs} e f = ap (λ (l : List Row). l ++ qs) e ∙ ap (λ (l : List Row). rs ++ l) f

row_same : {d : ℕ} {w : What} {a b : List ℕ} → a ≡ b → row d w a ≡ row d w b
row_same {d = d} {w = w} e = ap (row d w) e

mutual
  pub one_explanation : (T : Table) (d : ℕ) (t : TypeId) (v : Tree) (rs : List Row) (ss : List Row)
      → Explains T d t v rs
      → Explains T d t v ss → rs ≡ ss
  one_explanation T d t v rs ss (rows.of_type e p) (rows.of_type f q) =
      one_as (subst (λ (s : Shape). ExplainsAs T d s.kind v rs) (some_injective (sym e ∙ f)) p) q

  one_as : {T : Table} {d : ℕ} {k : Kind} {v : Tree} {rs ss : List Row} → ExplainsAs T d k v rs → ExplainsAs T d k v ss
      → rs ≡ ss
  one_as (rows.of_bool p) (rows.of_bool q) = cons_same (row_same (unsigned_unique p q)) refl
  one_as (rows.of_int p) (rows.of_int q) = cons_same (row_same (signed_unique p q)) refl
  one_as (rows.of_uint p) (rows.of_uint q) = cons_same (row_same (unsigned_unique p q)) refl
  one_as (rows.of_float p) (rows.of_float q) = cons_same (row_same (pattern_unique p q)) refl
  one_as (rows.of_complex p r) (rows.of_complex q s) =
      cons_same (row_same (pattern_unique p q)) (cons_same (row_same (pattern_unique r s)) refl)
  one_as (rows.of_nil p) (rows.of_nil q) = cons_same (row_same (unsigned_unique p q)) refl
  one_as (rows.of_bytes p) (rows.of_bytes q) = cons_same (row_same (unsigned_unique p q)) refl
  one_as (rows.of_text p) (rows.of_text q) = cons_same (row_same (unsigned_unique p q)) refl
  one_as (rows.of_opaque p) (rows.of_opaque q) = cons_same (row_same (unsigned_unique p q)) refl
  one_as (rows.of_slice p ps) (rows.of_slice q qs) = cons_same (row_same (unsigned_unique p q)) (one_each ps qs)
  one_as (rows.of_array n p ps) (rows.of_array m q qs) = cons_same (row_same (unsigned_unique p q)) (one_each ps qs)
  one_as (rows.of_map p ps) (rows.of_map q qs) = cons_same (row_same (unsigned_unique p q)) (one_pairs ps qs)
  one_as (rows.of_struct ps) (rows.of_struct qs) = one_fields ps qs

  one_each : {T : Table} {d : ℕ} {e : TypeId} {vs : Trees} {rs ss : List Row} → ExplainsEach T d e vs rs
      → ExplainsEach T d e vs ss → rs ≡ ss
  one_each rows.no_element rows.no_element = refl
  one_each (rows.element p ps) (rows.element q qs) = rows_same (one_explanation _ _ _ _ _ _ p q) (one_each ps qs)

  one_pairs : {T : Table} {d : ℕ} {k e : TypeId} {es : Pairs} {rs ss : List Row} → ExplainsPairs T d k e es rs
      → ExplainsPairs T d k e es ss → rs ≡ ss
  one_pairs rows.no_entry rows.no_entry = refl
  one_pairs (rows.entry p r ps) (rows.entry q s qs) =
      rows_same (one_explanation _ _ _ _ _ _ p q) (rows_same (one_explanation _ _ _ _ _ _ r s) (one_pairs ps qs))

  one_fields : {T : Table} {d : ℕ} {types : List Field} {next : ℕ} {fs : Fields} {rs ss : List Row}
      → ExplainsFields T d types next fs rs → ExplainsFields T d types next fs ss → rs ≡ ss
  one_fields (rows.end_of_fields p) (rows.end_of_fields q) = cons_same (row_same (unsigned_unique p q)) refl
  one_fields {T = T} {d = d} (rows.next_field {f = f} {v = v} {a = a} {rs = rs} l at p r ps) (rows.next_field m bt q s
      qs) =
      let same = some_injective (sym at ∙ bt) in
      cons_same (ap (λ (x : Field). row d (names f x.name) a) same ∙ row_same (unsigned_unique p q))
      (rows_same (one_explanation _ _ _ _ _ _ (subst (λ (x : Field). Explains T (d + 1) x.id v rs) same r) s)
      (one_fields ps qs))
