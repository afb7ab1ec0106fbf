-- What types are among definitions, and are still where more is defined.
use Rattle.std.proofs.Common.{◌≡◌, ◌∙◌, ℕ, ◌+◌, ◌<◌, List, [], ◌∷◌, ◌++◌, refl, sym, ap, subst, append_assoc}
use Rattle.std.proofs.Common.{Some, false, get_or, length, take}
use Rattle.std.proofs.lemmas.List.{take_more}
use Rattle.std.specs.Prelude.{Err, IfOk, Ok, OnOk, Result, slice_get}
use Rattle.gob_types.specs.declared.id.TypeId.{TypeId}
use Rattle.gob_types.specs.declared.kind.Field.{Field}
use Rattle.gob_types.specs.declared.kind.Kind.{Kind}
use Rattle.gob_types.specs.declared.kind.Kind.TheVariants as kind
use Rattle.gob_go_source.specs.declared.declarations.GoSource.{GoSource}
use Rattle.gob_go_source.specs.declared.go_type.GoField.{GoField}
use Rattle.gob_go_source.specs.declared.go_type.GoType.TheVariants as go
use Rattle.gob_go_types.specs.declared.numbers.Defined.{Defined}
use Rattle.gob_go_types.specs.declared.numbers.Numbers.{Numbers}
use Rattle.gob_go_types.specs.declared.numbers.Slot.{Slot}
use Rattle.gob_go_types.specs.declared.sight.Sight.{Sight}
use Rattle.gob_go_types.specs.declared.sight.Sight.TheVariants as sight
use Rattle.gob_go_types.specs.Machine.{AddsLine, Goes, HasFieldsIn, HasIdIn, HasKindIn, IsOfIn, Keeps, finished}
use Rattle.gob_go_types.specs.Types.{Has, HasFields, Ids, IsNumbered, HasId, HasKind, IsOf, LineHas, a_basic}
use Rattle.gob_go_types.specs.Types.{an_opaque, a_declared}
use Rattle.gob_go_types.specs.Types.{of_parts, has_id, a_slice, an_array, a_map, a_struct, no_lines, more_lines}
use Rattle.gob_go_types.specs.Types.{none_seen, nothing_sent, all_sent, defined, lacks_fields}
use Rattle.gob_go_types.proofs.SlotLaws.{finished_front}

-- ---- states one after another

append_none : {A : Type 0} (xs : List A) → xs ++ [] ≡ xs
append_none [] = refl
append_none (x ∷ xs) = ap (λ l. x ∷ l) (append_none xs)

pub goes_same : (a : Numbers) → Goes a a
goes_same a = record { ids = λ i t h. h; more = []; slots = sym (append_none a.slots.items) }

pub goes_then : (a b c : Numbers) → Goes a b → Goes b c → Goes a c
goes_then a b c g h = record {
  ids = λ i t n. h.ids i t (g.ids i t n);
  more = g.more ++ h.more;
  slots =
      h.slots ∙ ap (λ (l : List Slot). l ++ h.more) g.slots ∙ append_assoc a.slots.items g.more h.more;
}

pub goes_keeps : (a b : Numbers) → Goes a b → Keeps a b
goes_keeps a b g = record {
  ids = g.ids;
  definitions = λ d h. finished_front a.slots.items g.more b.slots.items d g.slots h;
}

pub keeps_same : (a : Numbers) → Keeps a a
keeps_same a = record { ids = λ i t h. h; definitions = λ d h. h }

pub keeps_then : (a b c : Numbers) → Keeps a b → Keeps b c → Keeps a c
keeps_then a b c g h = record {
  ids = λ i t n. h.ids i t (g.ids i t n);
  definitions = λ d n. h.definitions d (g.definitions d n);
}

-- ---- what types are

mutual
  of_by : (s : GoSource) (I J : Ids) (T U : List Defined)
      → ((i : ℕ) (t : TypeId) → IsNumbered I i t → IsNumbered J i t) → ((d : Defined) → Has T d → Has U d)
      → {v : Sight} {t : TypeId} → IsOf s I T v t → IsOf s J U v t
  of_by s I J T U f g a_basic = a_basic
  of_by s I J T U f g (an_opaque h) = an_opaque (g _ h)
  of_by s I J T U f g (a_declared h) = a_declared (f _ _ h)
  of_by s I J T U f g (of_parts k h) = of_parts (kind_by s I J T U f g k) (g _ h)

  id_by : (s : GoSource) (I J : Ids) (T U : List Defined)
      → ((i : ℕ) (t : TypeId) → IsNumbered I i t → IsNumbered J i t) → ((d : Defined) → Has T d → Has U d)
      → {n : ℕ} {t : TypeId} → HasId s I T n t → HasId s J U n t
  id_by s I J T U f g (has_id e o) = has_id e (of_by s I J T U f g o)

  kind_by : (s : GoSource) (I J : Ids) (T U : List Defined)
      → ((i : ℕ) (t : TypeId) → IsNumbered I i t → IsNumbered J i t) → ((d : Defined) → Has T d → Has U d)
      → {n : ℕ} {k : Kind} → HasKind s I T n k → HasKind s J U n k
  kind_by s I J T U f g (a_slice e h) = a_slice e (id_by s I J T U f g h)
  kind_by s I J T U f g (an_array e l h) = an_array e l (id_by s I J T U f g h)
  kind_by s I J T U f g (a_map e h i) = a_map e (id_by s I J T U f g h) (id_by s I J T U f g i)
  kind_by s I J T U f g (a_struct e h n) = a_struct e (fields_by s I J T U f g h) n

  fields_by : (s : GoSource) (I J : Ids) (T U : List Defined)
      → ((i : ℕ) (t : TypeId) → IsNumbered I i t → IsNumbered J i t) → ((d : Defined) → Has T d → Has U d)
      → {ls : List GoField} {fs : List Field} → HasFields s I T ls fs → HasFields s J U ls fs
  fields_by s I J T U f g no_lines = no_lines
  fields_by s I J T U f g (more_lines h l) = more_lines (fields_by s I J T U f g h) (line_by s I J T U f g l)

  line_by : (s : GoSource) (I J : Ids) (T U : List Defined)
      → ((i : ℕ) (t : TypeId) → IsNumbered I i t → IsNumbered J i t) → ((d : Defined) → Has T d → Has U d)
      → {l : GoField} {fs : List Field} → LineHas s I T l fs → LineHas s J U l fs
  line_by s I J T U f g (none_seen n) = none_seen n
  line_by s I J T U f g (nothing_sent u) = nothing_sent u
  line_by s I J T U f g (all_sent n h) = all_sent n (id_by s I J T U f g h)

pub of_on : (s : GoSource) (a b : Numbers) {v : Sight} {t : TypeId} → Keeps a b → IsOfIn s a v t → IsOfIn s b v t
of_on s a b k h =
    of_by s a.ids.entries b.ids.entries (finished a.slots.items) (finished b.slots.items) k.ids k.definitions h

pub id_on : (s : GoSource) (a b : Numbers) {n : ℕ} {t : TypeId} → Keeps a b → HasIdIn s a n t → HasIdIn s b n t
id_on s a b k h =
    id_by s a.ids.entries b.ids.entries (finished a.slots.items) (finished b.slots.items) k.ids k.definitions h

pub kind_on : (s : GoSource) (a b : Numbers) {n : ℕ} {x : Kind} → Keeps a b → HasKindIn s a n x → HasKindIn s b n x
kind_on s a b k h =
    kind_by s a.ids.entries b.ids.entries (finished a.slots.items) (finished b.slots.items) k.ids k.definitions h

fields_on : (s : GoSource) (a b : Numbers) {ls : List GoField} {fs : List Field} → Keeps a b → HasFieldsIn s a ls fs
    → HasFieldsIn s b ls fs
fields_on s a b k h =
    fields_by s a.ids.entries b.ids.entries (finished a.slots.items) (finished b.slots.items) k.ids k.definitions h

-- ---- parts, one after another

pub goes_on : {A E : Type 0} (a m b : Numbers) (r : Result A E) → Goes a m → OnOk r (Goes m b) → OnOk r (Goes a b)
goes_on a m b (Ok x) g h = goes_then a m b g h
goes_on a m b (Err e) g h = tt

-- a type without a name is defined by its kind
pub parts_says : {E : Type 0} (s : GoSource) (m b : Numbers) (n : ℕ) (k : Kind) (w : List ℕ) (r : Result TypeId E)
    → HasKindIn s m n k → w ≡ [] → OnOk r (Goes m b) → IfOk r (λ t. Has (finished b.slots.items) (defined t w k))
    → IfOk r (λ t. IsOfIn s b (sight.Parts n) t)
parts_says s m b n k w (Ok t) h e g d =
    of_parts (kind_on s m b (goes_keeps m b g) h)
    (subst (λ (v : List ℕ). Has (finished b.slots.items) (defined t v k)) e d)
parts_says s m b n k w (Err x) h e g d = tt

-- a struct has the fields of its lines
pub struct_says : {E : Type 0} (s : GoSource) (b : Numbers) (n : ℕ) {lines : _} (ls : List GoField)
    (fs : List Field) (r : Result Kind E) → slice_get s.types.items n ≡ Some (go.Struct lines) → ls ≡ lines.items
    → HasFieldsIn s b ls fs → IfOk r (λ k. k ≡ kind.Struct fs) → OnOk r (lacks_fields ls fs ≡ false)
    → IfOk r (λ k. HasKindIn s b n k)
struct_says s b n ls fs (Ok k) e same h is any =
    subst (λ (x : Kind). HasKindIn s b n x) (sym is)
    (a_struct e (subst (λ (l : List GoField). HasFieldsIn s b l fs) same h)
    (subst (λ (l : List GoField). lacks_fields l fs ≡ false) same any))
struct_says s b n ls fs (Err x) e same h is any = tt

-- one more line
pub lines_more : (s : GoSource) (a b : Numbers) (ls : List GoField) (i : ℕ) (l : GoField) (fs gs : List Field)
    → Goes a b → HasFieldsIn s a (take i ls) fs → AddsLine s b l fs gs → i < length ls → l ≡ get_or ls i l
    → HasFieldsIn s b (take (i + 1) ls) gs
lines_more s a b ls i l fs gs g h adds within at =
    subst (λ (x : List GoField). HasFieldsIn s b x gs) (sym next)
    (subst (λ (x : List Field). HasFieldsIn s b (take i ls ++ l ∷ []) x) (sym adds.is)
    (more_lines (fields_on s a b (goes_keeps a b g) h) adds.has))
  where
    next : take (i + 1) ls ≡ take i ls ++ l ∷ []
    next = take_more ls i l within ∙ ap (λ (x : GoField). take i ls ++ x ∷ []) (sym at)

pub adds_none : (s : GoSource) (a : Numbers) (l : GoField) (fs : List Field)
    → LineHas s a.ids.entries (finished a.slots.items) l [] → AddsLine s a l fs fs
adds_none s a l fs h = record { more = []; is = sym (append_none fs); has = h }
