-- Each row of a value is what comes next behind the rows before it.
use Rattle.std.proofs.Common.{◌≡◌, ℕ, suc, ◌+◌, ◌-◌, ◌<◌, ◌≤◌, List, [], ◌∷◌, ◌++◌, length, Bool, true, false, refl}
use Rattle.std.proofs.Common.{sym, ap, ◌∙◌, subst, append_assoc, arith, ℤ}
use Rattle.std.proofs.lemmas.Option.{slice_get_within}
use Rattle.gob_num.specs.Unsigned.{short}
use Rattle.gob_num.specs.Signed.{IsSigned, not_negative, negative}
use Rattle.gob_num.specs.Pattern.{IsPattern}
use Rattle.gob_types.specs.declared.id.TypeId.{TypeId}
use Rattle.gob_types.specs.declared.kind.Field.{Field}
use Rattle.gob_types.specs.declared.kind.Kind.{Kind}
use Rattle.gob_types.specs.declared.kind.Kind.TheVariants as kind
use Rattle.gob_types.specs.Table.{Table}
use Rattle.gob_value.specs.Tree.{Tree, Trees, tree_count, Pairs, pair_count, Fields}
use Rattle.gob_value.specs.Spelling.{Spells, SpellsEach, SpellsPairs, truth}
use Rattle.gob_value.specs.Spelling as spelling
use Rattle.gob_read.specs.Expected.{Expected, a_number, any, delta, first_allowed}
use Rattle.gob_read.specs.Expected as expected
use Rattle.gob_read.specs.Expects.{FieldsRun, no_fields, field_then, Enters, ExpectsAt, ExpectsTop, first, second}
use Rattle.gob_read.specs.Expects as expects
use Rattle.gob_read.proofs.Grammar.Inside.{InsideTop, inside_struct, inside_behind_tag, outermost, inside_more_top}
use Rattle.gob_read.proofs.Grammar.Inside.{inside_expects_top}
use Rattle.gob_read.proofs.Grammar.Inside.{each_more, pairs_more, run_more}
use Rattle.gob_explain.specs.Rows.{Row, row, joined, raw, raw_rows, Explains, ExplainsAs, ExplainsEach}
use Rattle.gob_explain.specs.Rows.{ExplainsPairs, ExplainsFields, ExplainsTop}
use Rattle.gob_explain.specs.Rows as rows
use Rattle.gob_explain.specs.Laws.{Answers, EachStands}
use Rattle.gob_explain.proofs.RowLaws.{joins, append_nil}

-- a part of this kind begins behind the bytes, and lies so deep: what it expects, the body expects
pub record At (T : Table) (t : TypeId) (k : Kind) (p : List ℕ) (d : ℕ) : Type 0 where
  pub expects : (q : List ℕ) (w : Expected) → ExpectsAt T k q w → ExpectsTop T t (p ++ q) w d
  pub enters : (q : List ℕ) (u : TypeId) → Enters T k q u → InsideTop T t (p ++ q) u d

pub first_at : {T : Table} {t : TypeId} {k : Kind} {p : List ℕ} {d : ℕ} → At T t k p d
    → ExpectsTop T t p (a_number (first_allowed k)) d
first_at {T = T} {t = t} {k = k} {p = p} {d = d} a =
    subst (λ l. ExpectsTop T t l (a_number (first_allowed k)) d) (append_nil p) (a.expects [] _ first)

-- rows behind rows
pub stand_append : (T : Table) (t : TypeId) (p : List ℕ) (rs ss : List Row) → EachStands T t p rs
    → EachStands T t (p ++ joined rs) ss → EachStands T t p (rs ++ ss)
stand_append T t p [] ss g h = subst (λ l. EachStands T t l ss) (append_nil p) h
stand_append T t p (r ∷ rs) ss g h = (
  g.0,
  stand_append T t (p ++ r.bytes) rs ss g.1
      (subst (λ l. EachStands T t l ss) (sym (append_assoc p r.bytes (joined rs))) h),
)

-- raw bytes, where there are any
raw_stands : {T : Table} {t : TypeId} (q : List ℕ) (d : ℕ) (s : List ℕ)
    → (0 < length s → ExpectsTop T t q (expected.raw (length s)) d) → EachStands T t q (raw_rows d s)
raw_stands q d [] f = tt
raw_stands q d (x ∷ s) f = ((expected.raw (length (x ∷ s)), f (omega arith), refl), tt)

signed_number : {i : ℤ} {b : List ℕ} → IsSigned i b → Answers (a_number any) b
signed_number (not_negative p) = (_, p, tt)
signed_number (negative p) = (_, p, tt)

pub pattern_number : {n : ℕ} {b : List ℕ} → IsPattern n b → Answers (a_number any) b
pattern_number p = (_, p.spelled, tt)

truth_allowed : (x : Bool) → truth x ≤ 1
truth_allowed true = omega arith
truth_allowed false = omega arith

-- a run of fields doesn't go back
pub run_rises : {T : Table} {types : List Field} {start next : ℕ} {b : List ℕ} → FieldsRun T types start next b
    → start ≤ next
run_rises no_fields = omega arith
run_rises (field_then l g n s r) = let m = run_rises r in omega arith

pub delta_at : {T : Table} {t : TypeId} {types : List Field} {p : List ℕ} {d start next : ℕ} {b : List ℕ}
    → At T t (kind.Struct types) p d
    → start ≡ 0 → FieldsRun T types start next b → ExpectsTop T t (p ++ b) (a_number (delta (length types - next))) d
delta_at {T = T} {t = t} {types = types} {p = p} {d = d} {start = start} a e no_fields =
    let same : length types ≡ length types - start = omega arith in
    subst (λ n. ExpectsTop T t (p ++ []) (a_number (delta n)) d) same (a.expects [] _ first)
delta_at {T = T} {types = types} {next = next} {b = b} a e (field_then l g n s r) =
    let m = run_rises r in
    let run : FieldsRun T types 0 next b = subst (λ k. FieldsRun T types k next b) e (field_then l g n s r) in
    a.expects b _ (expects.next_delta (omega arith) run)

-- the bytes behind, one run more
further : (p c b j : List ℕ) → p ++ (c ++ (b ++ j)) ≡ (p ++ (c ++ b)) ++ j
further p c b j =
    ap (λ l. p ++ l) (sym (append_assoc c b j)) ∙ sym (append_assoc p (c ++ b) j)

mutual
  pub stand : {T : Table} {t u : TypeId} {v : Tree} {rs : List Row} {p : List ℕ} {c d : ℕ} → InsideTop T t p u c
      → suc c ≡ d
      → Explains T d u v rs → EachStands T t p rs
  stand {T = T} {t = t} {v = v} {rs = rs} {p = p} i e (rows.of_type {s = s} f q) =
      stand_as (subst (At T t s.kind p) e (record {
        expects = λ q w a. inside_expects_top i f a;
        enters = λ q u n. inside_more_top i f n;
      })) q

  stand_as : {T : Table} {t : TypeId} {k : Kind} {v : Tree} {rs : List Row} {p : List ℕ} {d : ℕ} → At T t k p d
      → ExplainsAs T d k v rs → EachStands T t p rs
  stand_as a (rows.of_bool {x = x} q) = ((_, first_at a, (_, q, truth_allowed x)), tt)
  stand_as a (rows.of_int q) = ((_, first_at a, signed_number q), tt)
  stand_as a (rows.of_uint q) = ((_, first_at a, (_, q, tt)), tt)
  stand_as a (rows.of_float q) = ((_, first_at a, pattern_number q), tt)
  stand_as a (rows.of_complex {b = b} q r) =
      ((_, first_at a, pattern_number q), ((_, a.expects b _ (second q), pattern_number r), tt))
  stand_as a (rows.of_nil q) = ((_, first_at a, (_, q, refl)), tt)
  stand_as {p = p} {d = d} a (rows.of_bytes {s = s} {c = c} q) =
      ((_, first_at a, (_, q, tt)), raw_stands (p ++ c) d s (λ h. a.expects c _ (expects.byte_content h q)))
  stand_as {p = p} {d = d} a (rows.of_text {s = s} {c = c} q) =
      ((_, first_at a, (_, q, tt)), raw_stands (p ++ c) d s (λ h. a.expects c _ (expects.text_content h q)))
  stand_as {p = p} {d = d} a (rows.of_opaque {s = s} {c = c} q) =
      ((_, first_at a, (_, q, tt)), raw_stands (p ++ c) d s (λ h. a.expects c _ (expects.opaque_content h q)))
  stand_as {T = T} {t = t} {p = p} a (rows.of_slice {vs = vs} {c = c} {rs = rs} q ps) = (
    (_, first_at a, (_, q, tt)),
    subst (λ l. EachStands T t (p ++ l) rs) (append_nil c)
        (each_stand p c (tree_count vs) (λ vs b qs l. a.enters (c ++ b) _ (expects.slice_element q qs l))
        spelling.no_element (omega arith) (omega arith) ps),
  )
  stand_as {T = T} {t = t} {p = p} a (rows.of_array {n = n} {vs = vs} {c = c} {rs = rs} m q ps) = (
    (_, first_at a, (_, q, refl)),
    subst (λ l. EachStands T t (p ++ l) rs) (append_nil c)
        (each_stand p c n (λ vs b qs l. a.enters (c ++ b) _ (expects.array_element q qs l)) spelling.no_element (omega
        arith) (omega arith) ps),
  )
  stand_as {T = T} {t = t} {p = p} a (rows.of_map {ps = es} {c = c} {rs = rs} q ps) = (
    (_, first_at a, (_, q, tt)),
    subst (λ l. EachStands T t (p ++ l) rs) (append_nil c)
        (pairs_stand p c (pair_count es) (λ es b qs l. a.enters (c ++ b) _ (expects.next_key q qs l))
        (λ es x b k qs r l. a.enters (c ++ (b ++ k)) _ (expects.next_value q qs l r)) spelling.no_entry (omega arith)
        (omega arith) ps),
  )
  stand_as {T = T} {t = t} {p = p} a (rows.of_struct {rs = rs} ps) =
      subst (λ l. EachStands T t l rs) (append_nil p) (fields_stand a refl no_fields ps)

  -- elements behind those that came before them
  pub each_stand : {T : Table} {t e : TypeId} {done vs : Trees} {rs : List Row} {b : List ℕ} {d m : ℕ} (p c : List ℕ)
      (n : ℕ)
      → ((ds : Trees) (q : List ℕ) → SpellsEach T e ds q → tree_count ds < n → InsideTop T t (p ++ (c ++ q)) e d)
      → SpellsEach T e done b → tree_count done + tree_count vs ≤ n → suc d ≡ m → ExplainsEach T m e vs rs
      → EachStands T t (p ++ (c ++ b)) rs
  each_stand p c n enter qs count deep rows.no_element = tt
  each_stand {T = T} {t = t} {e = e} {done = done} {b = b} p c n enter qs count deep
      (rows.element {vs = vs} {rs = rs} {ss = ss} r ps) =
      let more = each_more qs (joins T _ e _ rs r) in
      stand_append T t (p ++ (c ++ b)) rs ss (stand (enter done b qs (omega arith)) deep r)
      (subst (λ l. EachStands T t l ss) (further p c b (joined rs))
      (each_stand p c n enter more.spelled (let m = more.count in omega arith) deep ps))

  pub pairs_stand : {T : Table} {t k e : TypeId} {done es : Pairs} {rs : List Row} {b : List ℕ} {d m : ℕ} (p c : List
      ℕ) (n : ℕ)
      → ((ds : Pairs) (q : List ℕ) → SpellsPairs T k e ds q → pair_count ds < n → InsideTop T t (p ++ (c ++ q)) k d)
      → ((ds : Pairs) (x : Tree) (q a : List ℕ) → SpellsPairs T k e ds q → Spells T k x a → pair_count ds < n
      → InsideTop T t (p ++ (c ++ (q ++ a))) e d)
      → SpellsPairs T k e done b → pair_count done + pair_count es ≤ n → suc d ≡ m → ExplainsPairs T m k e es rs
      → EachStands T t (p ++ (c ++ b)) rs
  pairs_stand p c n key value qs count deep rows.no_entry = tt
  pairs_stand {T = T} {t = t} {k = k} {e = e} {done = done} {b = b} p c n key value qs count deep
      (rows.entry {x = x} {ps = es} {qs = ks} {rs = rs} {ss = ss} r s ps) =
      let a = joins T _ k x ks r in
      let more = pairs_more qs a (joins T _ e _ rs s) in
      stand_append T t (p ++ (c ++ b)) ks (rs ++ ss) (stand (key done b qs (omega arith)) deep r)
      (subst (λ l. EachStands T t l (rs ++ ss)) (further p c b (joined ks))
      (stand_append T t (p ++ (c ++ (b ++ joined ks))) rs ss (stand (value done x b (joined ks) qs a (omega arith))
      deep s)
      (subst (λ l. EachStands T t l ss)
      (ap (λ l. p ++ (c ++ l)) (sym (append_assoc b (joined ks) (joined rs))) ∙ further p c (b ++ joined ks) (joined
      rs))
      (pairs_stand p c n key value more.spelled (let m = more.count in omega arith) deep ps))))

  fields_stand : {T : Table} {t : TypeId} {types : List Field} {start next : ℕ} {fs : Fields} {rs : List Row} {p b :
      List ℕ} {d : ℕ}
      → At T t (kind.Struct types) p d → start ≡ 0 → FieldsRun T types start next b
      → ExplainsFields T d types next fs rs
      → EachStands T t (p ++ b) rs
  fields_stand a e run (rows.end_of_fields q) = ((_, delta_at a e run, (_, q, omega arith)), tt)
  fields_stand {T = T} {t = t} {types = types} {start = start} {next = next} {p = p} {b = b} {d = d} a e run
      (rows.next_field {f = f} {e = field} {v = v} {a = n} {rs = rs} {ss = ss} l at q r ps) =
      let within = slice_get_within types f field at in
      let spelled = joins T _ field.id v rs r in
      let from = subst (λ k. FieldsRun T types k next b) e run in
      let inside = a.enters (b ++ n) field.id (expects.next_field from l at q) in (
        (_, delta_at a e run, (_, q, omega arith)),
        subst (λ l. EachStands T t l (rs ++ ss)) (sym (append_assoc p b n))
            (stand_append T t (p ++ (b ++ n)) rs ss (stand inside (omega arith) r)
            (subst (λ l. EachStands T t l ss)
            (ap (λ l. p ++ l) (sym (append_assoc b n (joined rs))) ∙ sym (append_assoc p (b ++ n) (joined rs)))
            (fields_stand a e (run_more run l at q spelled) ps))),
      )

pub stand_top : (T : Table) (t : TypeId) (v : Tree) (rs : List Row) → ExplainsTop T t v rs → EachStands T t [] rs
stand_top T t v rs (rows.at_once e i q) = stand (inside_struct e i outermost) refl q
stand_top T t v rs (rows.tagged e n q) =
    ((_, expects.at_tag e n, (0, short (omega arith), refl)), stand (inside_behind_tag e n outermost) refl q)
