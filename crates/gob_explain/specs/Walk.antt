-- Which rows lead from one place of a body to another: each is what comes next behind the bytes before it, in the part
-- or the filling that it belongs to. (docs/FORMAT.md, Refusals, What comes next; What Go's encoder writes beyond its
-- documentation; Explained bytes: this project's own.)
use Rattle.std.specs.Prelude.{◌≡◌, ℕ, pos, negsuc, suc, ◌+◌, ◌-◌, ◌<◌, ◌≤◌, List, [], ◌∷◌, ◌++◌, length, take}
use Rattle.std.specs.Prelude.{drop, Some}
use Rattle.gob_num.specs.Unsigned.{IsUnsigned}
use Rattle.gob_num.specs.Pattern.{IsPattern}
use Rattle.gob_num.specs.Signed.{IsSigned}
use Rattle.gob_types.specs.Base.{wire_type}
use Rattle.gob_types.specs.Ready.{IsReady}
use Rattle.gob_types.specs.declared.id.TypeId.{TypeId}
use Rattle.gob_types.specs.declared.basic.Basic.TheVariants as basic
use Rattle.gob_types.specs.declared.kind.Field.{Field}
use Rattle.gob_types.specs.declared.kind.Kind.{Kind}
use Rattle.gob_types.specs.declared.kind.Kind.TheVariants as kind
use Rattle.gob_types.specs.declared.kind.Shape.{Shape}
use Rattle.gob_types.specs.Table.{Table, shape_of}
use Rattle.gob_value.specs.Top.{IsStruct, SpellsTop}
use Rattle.gob_value.specs.Tree.{Tree}
use Rattle.gob_read.specs.Expected.{Allowed, Expected, a_number, raw, any, tag, delta, nil, first_allowed}
use Rattle.gob_read.specs.Expects.{FieldsRun, Expects, ExpectsTop}
use Rattle.gob_explain.specs.declared.row.Row.{Row}
use Rattle.gob_explain.specs.declared.row.What.{What}
use Rattle.gob_explain.specs.declared.row.What.TheVariants as what
use Rattle.gob_explain.specs.Laws.{Answers}
use Rattle.gob_explain.specs.Open.{Open, a_filling, a_value, content, count, description, name, segment, type_number}

-- the bytes of a body from one place up to the other
abbrev pub between : ℕ → ℕ → List ℕ → List ℕ
between begin end body = take (end - begin) (drop begin body)

-- behind these bytes of a body of the type a part of the other type begins, with so many open parts around it: what it
-- expects, the body expects
pub record BeginsPart (T : Table) (t : TypeId) (p : List ℕ) (u : TypeId) (around : ℕ) : Type 0 where
  pub expects : (q : List ℕ) (w : Expected) (d : ℕ) → Expects T u q w d → ExpectsTop T t (p ++ q) w (around + d)

-- what has raw bytes
abbrev pub HasRawBytes : Kind → Type 0
HasRawBytes (kind.Basic basic.Bytes) = Unit {0}
HasRawBytes (kind.Basic basic.Str) = Unit {0}
HasRawBytes (kind.Opaque marshal) = Unit {0}
HasRawBytes _ = ⊥

-- behind these bytes of a skeleton this comes next, and what it is in which part, so deep
pub data Comes (T : Table) (t : TypeId) : List ℕ → Expected → What → TypeId → ℕ → Type 0 where
  of_tag : {s : Shape} → shape_of T t ≡ Some s → ¬ IsStruct s.kind → Comes T t [] (a_number tag) what.Tag t 0
  of_first : {u : TypeId} {s : Shape} {p : List ℕ} {around : ℕ} → BeginsPart T t p u around → shape_of T u ≡ Some s
      → ¬ IsStruct s.kind
      → Comes T t p (a_number (first_allowed s.kind)) what.First u (suc around)
  of_imaginary : {u : TypeId} {s : Shape} {b : List ℕ} {n around : ℕ} (p : List ℕ) → BeginsPart T t p u around
      → shape_of T u ≡ Some s → s.kind ≡ kind.Basic basic.Complex → IsPattern n b
      → Comes T t (p ++ b) (a_number any) what.Imaginary u (suc around)
  of_raw : {u : TypeId} {s : Shape} {b : List ℕ} {n around : ℕ} (p : List ℕ) → BeginsPart T t p u around
      → shape_of T u ≡ Some s
      → HasRawBytes s.kind → 0 < n → IsUnsigned n b → Comes T t (p ++ b) (raw n) what.Raw u (suc around)
  of_delta : {u : TypeId} {s : Shape} {types : List Field} {b : List ℕ} {next around : ℕ} (p : List ℕ)
      → BeginsPart T t p u around
      → shape_of T u ≡ Some s → s.kind ≡ kind.Struct types → FieldsRun T types 0 next b
      → Comes T t (p ++ b) (a_number (delta (length types - next))) what.Delta u (suc around)

-- the number that a row tells is that of its bytes
abbrev pub TellsNumber : Expected → ℕ → List ℕ → Type 0
TellsNumber (a_number a) n b = IsUnsigned n b
TellsNumber (raw m) n b = n ≡ m

-- the row is this, in a part of the type that lies so deep
abbrev pub IsRow : What → TypeId → ℕ → Row → Type 0
IsRow x u d r = (r.what ≡ x) × (r.id ≡ u) × (r.depth ≡ d)

-- the row has these bytes and comes next where these are open, and behind it the others are
pub data Steps (T : Table) : List Open → Row → List ℕ → List Open → Type 0 where
  -- the next row of a skeleton
  in_value : {t : TypeId} {base d : ℕ} {p b : List ℕ} {w : Expected} {r : Row} {outer : List Open}
      → Comes T t p w r.what r.id d → r.depth ≡ base + d → Answers w b → TellsNumber w r.number b
      → Steps T (a_value t base p ∷ outer) r b (a_value t base (p ++ b) ∷ outer)
  -- the count of a name, where nil might stand; the filling lies one deeper than the interface
  of_filling : {t : TypeId} {base d deep : ℕ} {p b : List ℕ} {r : Row} {outer : List Open}
      → Comes T t p (a_number nil) r.what r.id d → r.depth ≡ base + d → deep ≡ r.depth + 1 → IsUnsigned r.number b
      → 0 < r.number
      → Steps T (a_value t base p ∷ outer) r b (a_filling r.id deep (name r.number) ∷ (a_value t base p ∷ outer))
  of_name : {u : TypeId} {d n : ℕ} {b : List ℕ} {r : Row} {outer : List Open} → IsRow what.Raw u d r → r.number ≡ n
      → length b ≡ n → Steps T (a_filling u d (name n) ∷ outer) r b (a_filling u d type_number ∷ outer)
  -- the type number of a definition, and that of what is held
  of_definition : {u : TypeId} {d n : ℕ} {b : List ℕ} {r : Row} {outer : List Open} → IsRow what.TypeNumber u d r
      → IsUnsigned r.number b → IsSigned (negsuc n) b
      → Steps T (a_filling u d type_number ∷ outer) r b (a_value wire_type d [] ∷ (a_filling u d description ∷ outer))
  of_type : {u v : TypeId} {d : ℕ} {b : List ℕ} {r : Row} {outer : List Open} → IsRow what.TypeNumber u d r
      → IsUnsigned r.number b → IsSigned (pos v.0) b
      → Steps T (a_filling u d type_number ∷ outer) r b (a_filling u d (count v) ∷ outer)
  -- the count of the segment behind a description, and that of the first one of what is held
  of_segment : {u : TypeId} {d : ℕ} {b : List ℕ} {r : Row} {outer : List Open} → IsRow what.Segment u d r
      → IsUnsigned r.number b
      → Steps T (a_filling u d segment ∷ outer) r b (a_filling u d type_number ∷ outer)
  of_count : {u v : TypeId} {d : ℕ} {b : List ℕ} {r : Row} {outer : List Open} → IsRow what.Segment u d r
      → IsUnsigned r.number b
      → Steps T (a_filling u d (count v) ∷ outer) r b (a_value v d [] ∷ (a_filling u d content ∷ outer))

-- what is whole ends: a description, or what is held, and with it the filling, so that its nil is read
pub data Ends (T : Table) : List Open → List Open → Type 0 where
  description_ends : {u : TypeId} {base d : ℕ} {p : List ℕ} {v : Tree} {outer : List Open} → SpellsTop T wire_type v p
      → Ends T (a_value wire_type base p ∷ (a_filling u d description ∷ outer)) (a_filling u d segment ∷ outer)
  filling_ends : {t u s : TypeId} {base d below : ℕ} {p q : List ℕ} {v : Tree} {outer : List Open} → SpellsTop T t v p
      → Ends T (a_value t base p ∷ (a_filling u d content ∷ (a_value s below q ∷ outer)))
      (a_value s below (q ++ 0 ∷ []) ∷ outer)

-- the rows stand one behind another in the bytes, from the place on at which the first ones are open, up to the place
-- at which the others are
pub data RowsLead (T : Table) (bytes : List ℕ) : List Open → ℕ → List Row → List Open → ℕ → Type 0 where
  no_row : {opens : List Open} {at : ℕ} → RowsLead T bytes opens at [] opens at
  row_then : {opens next last : List Open} {rows : List Row} {end : ℕ} (r : Row) → r.begin < r.end
      → r.end ≤ length bytes → Steps T opens r (between r.begin r.end bytes) next
      → RowsLead T bytes next r.end rows last end → RowsLead T bytes opens r.begin (r ∷ rows) last end
  end_then : {opens next last : List Open} {rows : List Row} {at end : ℕ} → Ends T opens next
      → RowsLead T bytes next at rows last end → RowsLead T bytes opens at rows last end

-- where nil might stand any number may
abbrev pub opened : Allowed → Allowed
opened nil = any
opened a = a

-- where these are open this comes next, so deep
pub data Awaits (T : Table) : List Open → Expected → ℕ → Type 0 where
  awaits_number : {t : TypeId} {base d : ℕ} {p : List ℕ} {a : Allowed} {outer : List Open}
      → ExpectsTop T t p (a_number a) d → Awaits T (a_value t base p ∷ outer) (a_number (opened a)) (base + d)
  awaits_raw : {t : TypeId} {base d n : ℕ} {p : List ℕ} {outer : List Open} → ExpectsTop T t p (raw n) d
      → Awaits T (a_value t base p ∷ outer) (raw n) (base + d)
  awaits_name : {u : TypeId} {d n : ℕ} {outer : List Open} → Awaits T (a_filling u d (name n) ∷ outer) (raw n) d
  awaits_type_number : {u : TypeId} {d : ℕ} {outer : List Open}
      → Awaits T (a_filling u d type_number ∷ outer) (a_number any) d
  awaits_segment : {u : TypeId} {d : ℕ} {outer : List Open} → Awaits T (a_filling u d segment ∷ outer) (a_number any) d
  awaits_count : {u v : TypeId} {d : ℕ} {outer : List Open}
      → Awaits T (a_filling u d (count v) ∷ outer) (a_number any) d

-- no row can stand at the place where these are open: what comes next doesn't stand there whole, or it lies too deep
pub data NoneStands (T : Table) (bytes : List ℕ) (most : ℕ) : List Open → ℕ → Type 0 where
  not_there : {opens : List Open} {place d : ℕ} {w : Expected} → Awaits T opens w d
      → ((end : ℕ) → place ≤ end → end ≤ length bytes → ¬ Answers w (between place end bytes))
      → NoneStands T bytes most opens place
  too_deep : {opens : List Open} {place d : ℕ} {w : Expected} → Awaits T opens w d → most < d
      → NoneStands T bytes most opens place

-- rows go no further: none can stand at the place, or a value would begin of a type that isn't ready
pub data StopsAt (T : Table) (bytes : List ℕ) (most : ℕ) : List Open → ℕ → Type 0 where
  none_stands : {opens : List Open} {place : ℕ} → NoneStands T bytes most opens place
      → StopsAt T bytes most opens place
  not_ready : {t : TypeId} {base place : ℕ} {outer : List Open} → ¬ IsReady T t
      → StopsAt T bytes most (a_value t base [] ∷ outer) place
