-- What comes next in a value or a filling, and what the row that takes it leads to.
use Rattle.std.proofs.Common.{◌≡◌, ℕ, zero, suc, ◌+◌, ◌-◌, ◌/◌, ◌%◌, ◌*◌, ◌<◌, ◌≤◌, List, [], ◌∷◌, ◌++◌, length, Some}
use Rattle.std.proofs.Common.{refl, sym, ap, ◌∙◌, subst, append-nil, append_assoc, arith}
use Rattle.gob_num.specs.Signed.{negative, not_negative}
use Rattle.gob_num.specs.Unsigned.{IsUnsigned}
use Rattle.gob_num.proofs.PublicLaws.{unsigned_pattern}
use Rattle.gob_types.specs.Base.{id, wire_type}
use Rattle.gob_types.specs.declared.id.TypeId.{TypeId}
use Rattle.gob_types.specs.declared.basic.Basic.TheVariants as basic
use Rattle.gob_types.specs.declared.kind.Field.{Field}
use Rattle.gob_types.specs.declared.kind.Kind.{Kind}
use Rattle.gob_types.specs.declared.kind.Kind.TheVariants as kind
use Rattle.gob_types.specs.declared.kind.Shape.{Shape}
use Rattle.gob_types.specs.Table.{Table, shape_of}
use Rattle.gob_value.specs.Top.{IsStruct}
use Rattle.gob_read.specs.Expected.{Expected, Allowed, a_number, any, nil, raw, delta, tag, first_allowed}
use Rattle.gob_read.specs.Expects.{FieldsRun, no_fields, field_then, Enters, ExpectsAt, ExpectsTop}
use Rattle.gob_read.specs.Expected as expected
use Rattle.gob_read.specs.Expects as expects
use Rattle.gob_explain.specs.Open.{Open, a_filling, a_value, content, count, description, name, segment, type_number}
use Rattle.gob_explain.specs.Path.{PathOf, at_begin, in_itself, in_part, of_filling, step_into}
use Rattle.gob_explain.specs.declared.row.Row.{Row}
use Rattle.gob_explain.specs.declared.row.PartStep.{PartStep}
use Rattle.gob_explain.specs.declared.row.What.{What}
use Rattle.gob_explain.specs.declared.row.What.TheVariants as what
use Rattle.gob_explain.specs.Walk.{Awaits, BeginsPart, Comes, HasRawBytes, IsRow, Steps, opened}
use Rattle.gob_explain.specs.Walk as walk
use Rattle.gob_explain.specs.Machine.Walking.{BeginsAt, IsValueAt, Takes}
use Rattle.gob_explain.proofs.RowLaws.{append_nil}

-- ---- what comes next

-- a run of fields doesn't go back
run_rises : {T : Table} {types : List Field} {start next : ℕ} {b : List ℕ} → FieldsRun T types start next b
    → start ≤ next
run_rises no_fields = omega arith
run_rises (field_then l g n s r) = let m = run_rises r in omega arith

-- where a part begins, what it expects itself comes next
pub itself : {T : Table} {t u : TypeId} {s : Shape} {p q : List ℕ} {w : Expected} {around : ℕ}
    → BeginsPart T t p u around → shape_of T u ≡ Some s → ExpectsAt T s.kind q w
    → ExpectsTop T t (p ++ q) w (suc around)
itself {T = T} {t = t} {p = p} {q = q} {w = w} {around = around} b f a =
    let deep : around + 1 ≡ suc around = omega arith in
    subst (λ d. ExpectsTop T t (p ++ q) w d) deep (b.expects q w 1 (expects.in_itself f a))

first_delta : {T : Table} {types : List Field} {start next : ℕ} {b : List ℕ} → start ≡ 0
    → FieldsRun T types start next b
    → ExpectsAt T (kind.Struct types) b (a_number (delta (length types - next)))
first_delta {T = T} {types = types} {start = start} e no_fields =
    let same : length types ≡ length types - start = omega arith in
    subst (λ n. ExpectsAt T (kind.Struct types) [] (a_number (delta n))) same expects.first
first_delta {T = T} {types = types} {next = next} {b = b} e (field_then l g n s r) =
    let m = run_rises r in
    let run : FieldsRun T types 0 next b = subst (λ k. FieldsRun T types k next b) e (field_then l g n s r) in
    expects.next_delta (omega arith) run

raw_next : {T : Table} {n : ℕ} {b : List ℕ} (k : Kind) → HasRawBytes k → 0 < n → IsUnsigned n b
    → ExpectsAt T k b (raw n)
raw_next (kind.Basic basic.Bytes) h l q = expects.byte_content l q
raw_next (kind.Basic basic.Str) h l q = expects.text_content l q
raw_next (kind.Opaque m) h l q = expects.opaque_content l q
raw_next _ h l q = absurd h

pub comes_expects : {T : Table} {t u : TypeId} {p : List ℕ} {w : Expected} {x : What} {d : ℕ} → Comes T t p w x u d
    → ExpectsTop T t p w d
comes_expects (walk.of_tag f n) = expects.at_tag f n
comes_expects {T = T} {t = t} (walk.of_first {s = s} {p = p} {around = around} b f n) =
    subst (λ l. ExpectsTop T t l (a_number (first_allowed s.kind)) (suc around)) (append_nil p)
    (itself b f expects.first)
comes_expects {T = T} (walk.of_imaginary {b = c} p b f e q) =
    itself b f (subst (λ k. ExpectsAt T k c (a_number any)) (sym e) (expects.second q))
comes_expects (walk.of_raw {s = s} p b f h l q) = itself b f (raw_next s.kind h l q)
comes_expects {T = T} (walk.of_delta {types = types} {b = c} {next = next} p b f e run) =
    itself b f (subst (λ k. ExpectsAt T k c (a_number (delta (length types - next)))) (sym e) (first_delta refl run))

-- the next part begins in a part
pub enters_part : {T : Table} {t u v : TypeId} {s : Shape} {p c : List ℕ} {around : ℕ} → BeginsPart T t p u around
    → shape_of T u ≡ Some s → Enters T s.kind c v → BeginsPart T t (p ++ c) v (around + 1)
enters_part {T = T} {t = t} {p = p} {c = c} {around = around} b f n = record {
  expects = λ q w d x.
      let deep : around + suc d ≡ around + 1 + d = omega arith in
      subst (λ l. ExpectsTop T t l w (around + 1 + d)) (sym (append_assoc p c q))
      (subst (λ e. ExpectsTop T t (p ++ (c ++ q)) w e) deep (b.expects (c ++ q) w (suc d) (expects.in_part f n x)));
}

-- ---- at which path

-- and it is a step further
pub enters_at : {T : Table} {t u v : TypeId} {s : Shape} {k : Kind} {base around : ℕ} {p c : List ℕ}
    {outer : List Open} {way : List PartStep} → BeginsAt T t base p outer u around way → shape_of T u ≡ Some s
    → s.kind ≡ k → (n : Enters T k c v)
    → BeginsAt T t base (p ++ c) outer v (around + 1) (way ++ step_into u n ∷ [])
enters_at {T = T} {t = t} {u = u} {v = v} {base = base} {p = p} {c = c} {outer = outer} {way = way} b f e n = record {
  begins = enters_part b.begins f (subst (λ k. Enters T k c v) (sym e) n);
  leads = λ q path x.
      subst (λ l. PathOf T (a_value t base l ∷ outer) ((way ++ step_into u n ∷ []) ++ path)) (sym (append_assoc p c q))
      (subst (λ w. PathOf T (a_value t base (p ++ (c ++ q)) ∷ outer) w)
      (sym (append_assoc way (step_into u n ∷ []) path))
      (b.leads (c ++ q) (step_into u n ∷ path) (in_part f e n x)));
}

-- what a part expects itself is of it
path_itself : {T : Table} {t u : TypeId} {s : Shape} {base around : ℕ} {p q : List ℕ} {outer : List Open}
    {way : List PartStep} {w : Expected} → BeginsAt T t base p outer u around way → shape_of T u ≡ Some s
    → ExpectsAt T s.kind q w → PathOf T (a_value t base (p ++ q) ∷ outer) way
path_itself {T = T} {t = t} {base = base} {p = p} {q = q} {outer = outer} {way = way} b f x =
    subst (λ w. PathOf T (a_value t base (p ++ q) ∷ outer) w) (append-nil way) (b.leads q [] (in_itself f x))

pub path_first : {T : Table} {t u : TypeId} {s : Shape} {base around : ℕ} {p : List ℕ} {outer : List Open}
    {way : List PartStep} → BeginsAt T t base p outer u around way → shape_of T u ≡ Some s
    → PathOf T (a_value t base p ∷ outer) way
path_first {T = T} {t = t} {base = base} {p = p} {outer = outer} {way = way} b f =
    subst (λ l. PathOf T (a_value t base l ∷ outer) way) (append_nil p) (path_itself b f expects.first)

pub path_begin : {T : Table} {t : TypeId} {base : ℕ} {outer : List Open} {way : List PartStep}
    → IsValueAt T t base outer way → PathOf T (a_value t base [] ∷ outer) way
path_begin {T = T} {t = t} {base = base} {outer = outer} {way = way} v =
    subst (λ w. PathOf T (a_value t base [] ∷ outer) w) (append-nil way) (v [] [] at_begin)

-- ---- what takes the next row in a value

pub opened_once : (a : Allowed) → opened (opened a) ≡ opened a
opened_once any = refl
opened_once tag = refl
opened_once expected.truth_value = refl
opened_once (expected.array_count n) = refl
opened_once (delta n) = refl
opened_once nil = refl

-- behind more of the skeleton of the value at hand
abbrev pub goes_on : TypeId → (base : ℕ) → (p : List ℕ) → (outer : List Open) → ℕ → List ℕ → List Open
goes_on t base p outer n b = a_value t base (p ++ b) ∷ outer

row_comes : {T : Table} {t u : TypeId} {p : List ℕ} {w : Expected} {x : What} {d e : ℕ} (r : Row) → IsRow x u e r
    → Comes T t p w x u d → Comes T t p w r.what r.id d
row_comes {T = T} {t = t} {p = p} {w = w} {x = x} {d = d} r is c =
    subst (λ y. Comes T t p w y r.id d) (sym is.0) (subst (λ v. Comes T t p w x v d) (sym is.1) c)

pub takes_number : {T : Table} {t u : TypeId} {base d e : ℕ} {p : List ℕ} {outer : List Open} {a : Allowed} {x : What}
    {way : List PartStep} → Comes T t p (a_number a) x u e → base + e ≡ d → opened a ≡ a
    → PathOf T (a_value t base p ∷ outer) way
    → Takes T (a_value t base p ∷ outer) (a_number a) x u d way (goes_on t base p outer)
takes_number {T = T} {t = t} {u = u} {base = base} {d = d} {e = e} {p = p} {outer = outer} {a = a} c deep o h = record {
  path = h;
  awaits = subst (λ d. Awaits T (a_value t base p ∷ outer) (a_number a) d) deep
      (subst (λ k. Awaits T (a_value t base p ∷ outer) (a_number k) (base + e)) o
      (walk.awaits_number (comes_expects c)));
  steps = λ r b is answers tells. walk.in_value (row_comes r is c) (is.2 ∙ sym deep) answers tells;
}

-- the first number of a part that is neither a struct nor an interface
pub takes_first : {T : Table} {t u : TypeId} {s : Shape} {a : Allowed} {p : List ℕ} {outer : List Open}
    {base around d : ℕ} {way : List PartStep} → base + around + 1 ≡ d → BeginsAt T t base p outer u around way
    → shape_of T u ≡ Some s → ¬ IsStruct s.kind → first_allowed s.kind ≡ a → opened a ≡ a
    → Takes T (a_value t base p ∷ outer) (a_number a) what.First u d way (goes_on t base p outer)
takes_first {T = T} {t = t} {u = u} {a = a} {p = p} {base = base} {around = around} {d = d} e b f n k o =
    let deep : base + suc around ≡ d = omega arith in
    takes_number (subst (λ a. Comes T t p (a_number a) what.First u (suc around)) k (walk.of_first b.begins f n)) deep o
    (path_first b f)

-- the second pattern of a complex
pub takes_second : {T : Table} {t u : TypeId} {s : Shape} {outer : List Open} {base around d n : ℕ} {way : List
    PartStep}
    (p b : List ℕ) → base + around + 1 ≡ d → BeginsAt T t base p outer u around way → shape_of T u ≡ Some s
    → s.kind ≡ kind.Basic basic.Complex → IsUnsigned n b
    → Takes T (a_value t base (p ++ b) ∷ outer) (a_number any) what.Imaginary u d way (goes_on t base (p ++ b) outer)
takes_second {T = T} {base = base} {around = around} {d = d} p b e g f k q =
    let deep : base + suc around ≡ d = omega arith in
    let x = unsigned_pattern q in
    takes_number (walk.of_imaginary p g.begins f k x.1) deep refl
    (path_itself g f (subst (λ k. ExpectsAt T k b (a_number any)) (sym k) (expects.second x.1)))

-- raw bytes behind their count
pub takes_raw : {T : Table} {t u : TypeId} {s : Shape} {outer : List Open} {base around d n : ℕ} {way : List PartStep}
    (p b : List ℕ) → base + around + 1 ≡ d → BeginsAt T t base p outer u around way → shape_of T u ≡ Some s
    → HasRawBytes s.kind → 0 < n → IsUnsigned n b
    → Takes T (a_value t base (p ++ b) ∷ outer) (raw n) what.Raw u d way (goes_on t base (p ++ b) outer)
takes_raw {T = T} {t = t} {u = u} {s = s} {outer = outer} {base = base} {around = around} {d = d} {n = n} p b e g f h m
    q =
    let deep : base + suc around ≡ d = omega arith in
    let c : Comes T t (p ++ b) (raw n) what.Raw u (suc around) = walk.of_raw p g.begins f h m q in
    record {
      path = path_itself g f (raw_next s.kind h m q);
      awaits = subst (λ d. Awaits T (a_value t base (p ++ b) ∷ outer) (raw n) d) deep
          (walk.awaits_raw (comes_expects c));
      steps = λ r b is answers tells. walk.in_value (row_comes r is c) (is.2 ∙ sym deep) answers tells;
    }

-- the next delta of a struct
pub takes_delta : {T : Table} {t u : TypeId} {s : Shape} {types : List Field} {outer : List Open}
    {base around d next : ℕ} {way : List PartStep} (p b : List ℕ) → base + around + 1 ≡ d
    → BeginsAt T t base p outer u around way → shape_of T u ≡ Some s → s.kind ≡ kind.Struct types
    → FieldsRun T types 0 next b
    → Takes T (a_value t base (p ++ b) ∷ outer) (a_number (delta (length types - next))) what.Delta u d way
    (goes_on t base (p ++ b) outer)
takes_delta {T = T} {types = types} {base = base} {around = around} {d = d} {next = next} p b e g f k run =
    let deep : base + suc around ≡ d = omega arith in
    takes_number (walk.of_delta p g.begins f k run) deep refl
    (path_itself g f (subst (λ k. ExpectsAt T k b (a_number (delta (length types - next)))) (sym k)
    (first_delta refl run)))

-- the tag
pub takes_tag : {T : Table} {t : TypeId} {s : Shape} {outer : List Open} {base d : ℕ} {way : List PartStep} → base ≡ d
    → IsValueAt T t base outer way → shape_of T t ≡ Some s → ¬ IsStruct s.kind
    → Takes T (a_value t base [] ∷ outer) (a_number tag) what.Tag t d way (goes_on t base [] outer)
takes_tag {base = base} {d = d} e v f n =
    let deep : base + 0 ≡ d = omega arith in takes_number (walk.of_tag f n) deep refl (path_begin v)

raw_no_struct : (k : Kind) → HasRawBytes k → ¬ IsStruct k
raw_no_struct (kind.Struct fields) h = absurd h
raw_no_struct _ h = λ i. i

raw_any : (k : Kind) → HasRawBytes k → first_allowed k ≡ any
raw_any (kind.Basic basic.Bytes) h = refl
raw_any (kind.Basic basic.Str) h = refl
raw_any (kind.Opaque m) h = refl
raw_any _ h = absurd h

-- the count of raw bytes
pub takes_size : {T : Table} {t u : TypeId} {s : Shape} {p : List ℕ} {outer : List Open} {base around d : ℕ}
    {way : List PartStep} → base + around + 1 ≡ d → BeginsAt T t base p outer u around way → shape_of T u ≡ Some s
    → HasRawBytes s.kind
    → Takes T (a_value t base p ∷ outer) (a_number any) what.First u d way (goes_on t base p outer)
takes_size {s = s} e b f h = takes_first e b f (raw_no_struct s.kind h) (raw_any s.kind h) refl

-- ---- and in a filling

-- behind the number of an interface: nil, or the name of what it holds
abbrev pub behind_nil : TypeId → (base : ℕ) → (p : List ℕ) → (outer : List Open) → (u : TypeId) → (deep : ℕ) → ℕ
    → List ℕ → List Open
behind_nil t base p outer u deep zero b = a_value t base (p ++ b) ∷ outer
behind_nil t base p outer u deep (suc n) b = a_filling u deep (name (suc n)) ∷ (a_value t base p ∷ outer)

nil_steps : {T : Table} {t u : TypeId} {base d e deep : ℕ} {p : List ℕ} {outer : List Open} {x : What} (n : ℕ) (r : Row)
    (b : List ℕ) → r.number ≡ n → Comes T t p (a_number nil) x u e → base + e ≡ d → deep ≡ d + 1 → IsRow x u d r
    → IsUnsigned r.number b → Steps T (a_value t base p ∷ outer) r b (behind_nil t base p outer u deep n b)
nil_steps zero r b z c deep up is q =
    walk.in_value (row_comes r is c) (is.2 ∙ sym deep) (0, subst (λ n. IsUnsigned n b) z q, refl) q
nil_steps {T = T} {t = t} {u = u} {base = base} {deep = deep} {p = p} {outer = outer} (suc n) r b z c e up is q =
    subst (λ v. Steps T (a_value t base p ∷ outer) r b (a_filling v deep (name (suc n)) ∷ (a_value t base p ∷ outer)))
    is.1
    (subst (λ k. Steps T (a_value t base p ∷ outer) r b (a_filling r.id deep (name k) ∷ (a_value t base p ∷ outer))) z
    (walk.of_filling (row_comes r is c) (is.2 ∙ sym e) (up ∙ ap (λ d. d + 1) (sym is.2)) q (omega arith)))

pub takes_nil : {T : Table} {t u : TypeId} {s : Shape} {p : List ℕ} {outer : List Open} {base around d deep : ℕ}
    {way : List PartStep} → base + around + 1 ≡ d → deep ≡ d + 1 → BeginsAt T t base p outer u around way
    → shape_of T u ≡ Some s → s.kind ≡ kind.Basic basic.Interface
    → Takes T (a_value t base p ∷ outer) (a_number any) what.First u d way (behind_nil t base p outer u deep)
takes_nil {T = T} {t = t} {u = u} {s = s} {p = p} {outer = outer} {base = base} {around = around} {d = d} e up b f k =
    let below : base + suc around ≡ d = omega arith in
    let no : ¬ IsStruct s.kind = subst (λ k. ¬ IsStruct k) (sym k) (λ i. i) in
    let c : Comes T t p (a_number nil) what.First u (suc around) =
    subst (λ a. Comes T t p (a_number a) what.First u (suc around)) (ap first_allowed k)
    (walk.of_first b.begins f no) in
    record {
      path = path_first b f;
      awaits = subst (λ d. Awaits T (a_value t base p ∷ outer) (a_number any) d) below
          (walk.awaits_number (comes_expects c));
      steps = λ r b is answers tells. nil_steps r.number r b refl c below up is tells;
    }

pub takes_name : {T : Table} {u : TypeId} {d n : ℕ} {outer : List Open} {way : List PartStep} → PathOf T outer way
    → Takes T (a_filling u d (name n) ∷ outer) (raw n) what.Raw u d way (λ k b. a_filling u d type_number ∷ outer)
takes_name h = record {
  awaits = walk.awaits_name;
  path = of_filling h;
  steps = λ r b is answers tells. walk.of_name is tells answers;
}

pub takes_segment : {T : Table} {u : TypeId} {d : ℕ} {outer : List Open} {way : List PartStep} → PathOf T outer way
    → Takes T (a_filling u d segment ∷ outer) (a_number any) what.Segment u d way
    (λ k b. a_filling u d type_number ∷ outer)
takes_segment h = record {
  awaits = walk.awaits_segment;
  path = of_filling h;
  steps = λ r b is answers tells. walk.of_segment is tells;
}

pub takes_count : {T : Table} {u v : TypeId} {d : ℕ} {outer : List Open} {way : List PartStep} → PathOf T outer way
    → Takes T (a_filling u d (count v) ∷ outer) (a_number any) what.Segment u d way
    (λ k b. a_value v d [] ∷ (a_filling u d content ∷ outer))
takes_count h = record {
  awaits = walk.awaits_count;
  path = of_filling h;
  steps = λ r b is answers tells. walk.of_count is tells;
}

-- behind a type number of this sign and half: the count of what is held, or a description
abbrev pub behind_type : TypeId → (d : ℕ) → (outer : List Open) → (sign half : ℕ) → List Open
behind_type u d outer zero half = a_filling u d (count (id half)) ∷ outer
behind_type u d outer (suc sign) half = a_value wire_type d [] ∷ (a_filling u d description ∷ outer)

type_steps : {T : Table} {u : TypeId} {d : ℕ} {outer : List Open} (sign half : ℕ) (r : Row) (b : List ℕ)
    → r.number ≡ 2 * half + sign → sign < 2 → IsRow what.TypeNumber u d r → IsUnsigned r.number b
    → Steps T (a_filling u d type_number ∷ outer) r b (behind_type u d outer sign half)
type_steps zero half r b e l is q =
    let twice : r.number ≡ 2 * half = omega arith in
    walk.of_type {v = id half} is q (not_negative (subst (λ k. IsUnsigned k b) twice q))
type_steps (suc zero) half r b e l is q = walk.of_definition is q (negative (subst (λ k. IsUnsigned k b) e q))
type_steps (suc (suc sign)) half r b e l is q = absurd (omega arith)

pub takes_type : {T : Table} {u : TypeId} {d : ℕ} {outer : List Open} {way : List PartStep} → PathOf T outer way
    → Takes T (a_filling u d type_number ∷ outer) (a_number any) what.TypeNumber u d way
    (λ n b. behind_type u d outer (n % 2) (n / 2))
takes_type h = record {
  awaits = walk.awaits_type_number;
  path = of_filling h;
  steps = λ r b is answers tells.
      type_steps (r.number % 2) (r.number / 2) r b (omega arith) (omega arith) is tells;
}
