-- What tidying gives of parts that stand in bytes, and the bytes of their tidy forms, part after part.
use Rattle.std.proofs.Common.{◌≡◌, ℕ, ◌+◌, ◌-◌, ◌<◌, ◌≤◌, List, [], ◌∷◌, ◌++◌, length, Option, None, Some, IfSome}
use Rattle.std.proofs.Common.{take, drop, ◌⊎◌, inl, inr, arith, refl, sym, ap, ◌∙◌, subst, append_assoc, append-nil}
use Rattle.std.proofs.Common.{length-append, length-drop}
use Rattle.std.proofs.lemmas.List.{drop-drop, drop_all, take-append-drop}
use Rattle.std.specs.Prelude.{slice_get}
use Rattle.gob_num.specs.Spelled.{Appends}
use Rattle.gob_num.specs.Unsigned.{IsUnsigned, short}
use Rattle.gob_num.proofs.PublicLaws.{unsigned_unique}
use Rattle.gob_types.specs.declared.id.TypeId.{TypeId}
use Rattle.gob_types.specs.declared.basic.Basic.{Basic}
use Rattle.gob_types.specs.declared.basic.Basic.TheVariants as basic
use Rattle.gob_types.specs.declared.kind.Field.{Field}
use Rattle.gob_types.specs.declared.kind.Kind.{Kind}
use Rattle.gob_types.specs.declared.kind.Kind.TheVariants as kind
use Rattle.gob_types.specs.declared.kind.Marshal.{Marshal}
use Rattle.gob_types.specs.declared.kind.Shape.{Shape}
use Rattle.gob_types.specs.Table.{Table, shape_of}
use Rattle.gob_types.proofs.PublicLaws.{some_injective}
use Rattle.gob_value.specs.Machine.Begins.{BeginsKept, BeginsThisNumber, HoldsBetween}
use Rattle.gob_value.specs.Spelling.{Spells, SpellsAs, SpellsEach, SpellsPairs, SpellsFields}
use Rattle.gob_value.specs.Spelling as spelling
use Rattle.gob_value.specs.Tidy.{Tidies, TidiesAs, TidiesEach}
use Rattle.gob_value.specs.Tidy as tidy
use Rattle.gob_value.specs.Top.{SpellsTop, HasStructs, at_once, tagged}
use Rattle.gob_value.specs.Tree.{Tree, Trees, no_tree, tree, no_pair, pair, no_field, field, depth, tree_count}
use Rattle.gob_value.specs.Tree.{trees_depth}
use Rattle.gob_value.specs.Tree as Value
use Rattle.gob_value.proofs.PublicLaws.{whole_of_two}
use Rattle.gob_tidy.specs.SameNil.{PathStep, LeadsTo, to_itself, by_part, LeadsFromTop, in_struct, its_delta, IsSameNil}
use Rattle.gob_tidy.specs.SameNil as same_nil
use Rattle.gob_tidy.specs.Machine.Tidying.{Admits, BeginsDropped, BeginsZero, CopiesEach, CopiesNumber, GivesEach}
use Rattle.gob_tidy.specs.Machine.Tidying.{GivesEntries, GivesFields, GivesList, GivesMap, GivesTop, GivesValue, IsLeaf}
use Rattle.gob_tidy.specs.Machine.Tidying.{IsAsked, IsForm, LeadAlike, LeadAlikeFromTop, LeadInEntries, LeadInFields}
use Rattle.gob_tidy.specs.Machine.Tidying.{HasNils, in_list, in_map, in_field, PutsPlace}
use Rattle.gob_tidy.specs.declared.part.Form.{Form}
use Rattle.gob_tidy.proofs.MovedLaws.{array_way, behind_dropped, behind_kept, first_element, first_entry, first_key}
use Rattle.gob_tidy.proofs.MovedLaws.{map_way, moved_as, moved_both, moved_later, next_element, next_entry, none_moved}
use Rattle.gob_tidy.proofs.MovedLaws.{slice_way, struct_way}

-- ---- bytes

-- what stands between two places, and behind
split_at : (body : List ℕ) (at end : ℕ) → at ≤ end → drop at body ≡ take (end - at) (drop at body) ++ drop end body
split_at body at end l =
    let up : at + (end - at) ≡ end = omega arith in
    sym (take-append-drop (end - at) (drop at body))
    ∙ ap (λ r. take (end - at) (drop at body) ++ r) (drop-drop (end - at) at body ∙ ap (λ i. drop i body) up)

-- two things appended, one behind the other
out_of_two : (old a b : List ℕ) {mid new : List ℕ} → mid ≡ old ++ a → new ≡ mid ++ b → new ≡ old ++ (a ++ b)
out_of_two old a b e f = f ∙ ap (λ l. l ++ b) e ∙ append_assoc old a b

-- ---- values and their tidy forms by a known shape

as_kind : {T : Table} {t : TypeId} {s : Shape} {v : Tree} {b : List ℕ} → shape_of T t ≡ Some s → Spells T t v b
    → SpellsAs T s.kind v b
as_kind {T = T} {v = v} {b = b} known (spelling.of_type e p) =
    subst (λ (s : Shape). SpellsAs T s.kind v b) (some_injective (sym e ∙ known)) p

form_as_kind : {T : Table} {t : TypeId} {s : Shape} {v w : Tree} → shape_of T t ≡ Some s → Tidies T t v w
    → TidiesAs T s.kind v w
form_as_kind {T = T} {v = v} {w = w} known (tidy.of_type e p) =
    subst (λ (s : Shape). TidiesAs T s.kind v w) (some_injective (sym e ∙ known)) p

-- ---- values without parts, which are copied

leaf_as_kind : {T : Table} {k : Kind} {v : Tree} {b : List ℕ} → IsLeaf k → SpellsAs T k v b → TidiesAs T k v v
leaf_as_kind leaf (spelling.of_opaque p) = tidy.of_opaque (λ h. h)
leaf_as_kind leaf (spelling.of_slice p ps) = absurd leaf
leaf_as_kind leaf (spelling.of_array m p ps) = absurd leaf
leaf_as_kind leaf (spelling.of_map p ps) = absurd leaf
leaf_as_kind leaf (spelling.of_struct ps) = absurd leaf
leaf_as_kind leaf _ = tidy.of_basic (λ h. h)

leaf_tidy : {T : Table} {t : TypeId} {s : Shape} {v : Tree} {b : List ℕ} → shape_of T t ≡ Some s → IsLeaf s.kind
    → Spells T t v b → Tidies T t v v
leaf_tidy known leaf p = tidy.of_type known (leaf_as_kind leaf (as_kind known p))

leaves_tidy : {T : Table} {t : TypeId} {s : Shape} {vs : Trees} {b : List ℕ} → shape_of T t ≡ Some s → IsLeaf s.kind
    → SpellsEach T t vs b → TidiesEach T t vs vs
leaves_tidy known leaf spelling.no_element = tidy.no_element
leaves_tidy known leaf (spelling.element p ps) =
    tidy.element (leaf_tidy known leaf p) (leaves_tidy known leaf ps)

record OneValue (T : Table) (t : TypeId) (limit : ℕ) (bytes : List ℕ) : Type 0 where
  value : Tree
  spelled : Spells T t value bytes
  within : depth value ≤ limit

one_value : {T : Table} {t : TypeId} {vs : Trees} {b : List ℕ} (limit : ℕ) → SpellsEach T t vs b → tree_count vs ≡ 1
    → trees_depth vs ≤ limit → OneValue T t limit b
one_value limit spelling.no_element n w = absurd (omega arith)
one_value {T = T} {t = t} limit (spelling.element {v = v} {b = b} p spelling.no_element) n w =
    record { value = v; spelled = subst (Spells T t v) (sym (append-nil b)) p; within = omega arith }
one_value limit (spelling.element p (spelling.element q qs)) n w = absurd (omega arith)

-- a kind that is one of those
pub leaf_kind : {k : Kind} → ((b : Basic) × (k ≡ kind.Basic b)) ⊎ ((m : Marshal) × (k ≡ kind.Opaque m)) → IsLeaf k
leaf_kind (inl h) = subst IsLeaf (sym h.1) tt
leaf_kind (inr h) = subst IsLeaf (sym h.1) tt

module _ {T : Table} {t : TypeId} {s : Shape} (known : shape_of T t ≡ Some s) (leaf : IsLeaf s.kind) {limit size : ℕ}
    (asked : List ℕ) (old new : Form) (same : new.places.items ≡ old.places.items) where
  pub leaf_given : (body : List ℕ) (at end : ℕ)
      → CopiesEach T t limit 1 body at end old.bytes.items new.bytes.items
      → HoldsBetween (GivesValue T t limit size asked old new) body at end
  leaf_given body at end h =
      let v = one_value limit h.spelled h.counted h.within in
      let bytes = take (end - at) (drop at body) in
      record {
        order = h.order;
        inside = h.inside;
        begins = record {
          value = v.value;
          form = v.value;
          bytes = bytes;
          added = bytes;
          spelled = v.spelled;
          within = v.within;
          tidies = leaf_tidy known leaf v.spelled;
          form_spelled = v.spelled;
          whole = split_at body at end h.order;
          out = h.copied;
          moved = none_moved old new same;
        };
      }

  pub leaves_given : {count : ℕ} (body : List ℕ) (at end : ℕ)
      → CopiesEach T t limit count body at end old.bytes.items new.bytes.items
      → HoldsBetween (GivesEach T t count limit size asked old new) body at end
  leaves_given body at end h =
      let bytes = take (end - at) (drop at body) in
      record {
        order = h.order;
        inside = h.inside;
        begins = record {
          values = h.values;
          forms = h.values;
          bytes = bytes;
          added = bytes;
          counted = h.counted;
          forms_counted = h.counted;
          spelled = h.spelled;
          within = h.within;
          tidies = leaves_tidy known leaf h.spelled;
          forms_spelled = h.spelled;
          whole = split_at body at end h.order;
          out = h.copied;
          moved = none_moved old new same;
        };
      }

-- ---- a nil

nil_bytes : {T : Table} {v : Tree} {b : List ℕ} → SpellsAs T (kind.Basic basic.Interface) v b → b ≡ 0 ∷ []
nil_bytes (spelling.of_nil u) = unsigned_unique u (short (omega arith))

pub nil_given : {T : Table} {t : TypeId} {limit : ℕ} {asked : List ℕ} {old mid new : Form} (body : List ℕ) (at end : ℕ)
    → HasNils T t → PutsPlace asked at old mid → new.places.items ≡ mid.places.items
    → CopiesEach T t limit 1 body at end mid.bytes.items new.bytes.items
    → HoldsBetween (GivesValue T t limit (length body) asked old new) body at end
nil_given {T = T} {t = t} {limit = limit} {asked = asked} {old = old} {new = new} body at end nil put same h =
    let v = one_value limit h.spelled h.counted h.within in
    let bytes = take (end - at) (drop at body) in
    let zero : bytes ≡ 0 ∷ [] =
    nil_bytes (subst (λ k. SpellsAs T k v.value bytes) nil.nil (as_kind nil.found v.spelled)) in
    let out : new.bytes.items ≡ old.bytes.items ++ bytes = h.copied ∙ ap (λ l. l ++ bytes) put.bytes in
    let stands : drop at body ≡ 0 ∷ drop end body =
    split_at body at end h.order ∙ ap (λ l. l ++ drop end body) zero in
    let order = h.order in let inside = h.inside in
    record {
      order = h.order;
      inside = h.inside;
      begins = record {
        value = v.value;
        form = v.value;
        bytes = bytes;
        added = bytes;
        spelled = v.spelled;
        within = v.within;
        tidies = leaf_tidy nil.found (subst IsLeaf (sym nil.nil) tt) v.spelled;
        form_spelled = v.spelled;
        whole = split_at body at end h.order;
        out = out;
        moved = record {
          each = λ number q there.
              elim (put.each number q (subst (λ l. slice_get l number ≡ Some q) same there)) as
              (λ _. (slice_get old.places.items number ≡ Some q)
              ⊎ IsAsked (LeadAlike T t) (length body) asked old new (drop at body) number q) [
                | inl was ↦ inl was
                | inr is ↦ inr (record {
                  place = at;
                  asked_for = is.0;
                  moves = record {
                    front = [];
                    rest = drop end body;
                    form_front = [];
                    form_rest = [];
                    alike = record {
                      way = [];
                      leads = to_itself nil.found nil.nil;
                      form_leads = to_itself nil.found nil.nil;
                    };
                    stands = stands;
                    place_is = omega (arith, ap length stands, length-drop at body, length-drop end body);
                    out = out ∙ ap (λ l. old.bytes.items ++ l) zero;
                    moved_is = omega (arith, is.1);
                  };
                })
              ];
        };
      };
    }

-- ---- elements

module _ (T : Table) (e : TypeId) (limit size : ℕ) (asked : List ℕ) where
  pub none_given : (n : ℕ) (body : List ℕ) (at : ℕ) (out : Form) → n ≡ 0 → at ≤ length body
      → HoldsBetween (GivesEach T e n limit size asked out out) body at at
  none_given n body at out none l = record {
    order = omega arith;
    inside = l;
    begins = record {
      values = no_tree;
      forms = no_tree;
      bytes = [];
      added = [];
      counted = sym none;
      forms_counted = sym none;
      spelled = spelling.no_element;
      within = omega arith;
      tidies = tidy.no_element;
      forms_spelled = spelling.no_element;
      whole = refl;
      out = sym (append-nil out.bytes.items);
      moved = none_moved out out refl;
    };
  }

  pub element_given : (n m : ℕ) (old mid new : Form) → n ≡ m + 1 → (x y z : List ℕ)
      → GivesValue T e limit size asked old mid x y → GivesEach T e m limit size asked mid new y z
      → GivesEach T e n limit size asked old new x z
  element_given n m old mid new more x y z p q =
      let v = p.within in
      let w = q.within in
      let some : 0 < n = omega arith in
      record {
        values = tree p.value q.values;
        forms = tree p.form q.forms;
        bytes = p.bytes ++ q.bytes;
        added = p.added ++ q.added;
        counted = ap (λ k. k + 1) q.counted ∙ sym more;
        forms_counted = ap (λ k. k + 1) q.forms_counted ∙ sym more;
        spelled = spelling.element p.spelled q.spelled;
        within = omega arith;
        tidies = tidy.element p.tidies q.tidies;
        forms_spelled = spelling.element p.form_spelled q.forms_spelled;
        whole = whole_of_two p.bytes q.bytes z p.whole q.whole;
        out = out_of_two old.bytes.items p.added q.added p.out q.out;
        moved = moved_both p.bytes p.added q.added p.whole p.out q.out (λ f g l. first_element some l)
            (λ f g l. next_element more p.spelled p.form_spelled l) p.moved q.moved;
      }

  pub list_given : (due : Option ℕ) (n : ℕ) (old mid new : Form) → Admits due n
      → mid.places.items ≡ old.places.items → (x y z : List ℕ)
      → CopiesNumber n old.bytes.items mid.bytes.items x y → GivesEach T e n limit size asked mid new y z
      → GivesList T e due limit size asked old new x z
  list_given due n old mid new admitted same x y z p q =
      let b = p.begins in
      let a = p.appends in
      record {
        count = n;
        admitted = admitted;
        values = q.values;
        forms = q.forms;
        head = b.bytes;
        bytes = q.bytes;
        form_head = a.bytes;
        added = q.added;
        counted = q.counted;
        forms_counted = q.forms_counted;
        headed = b.spelled;
        form_headed = a.spelled;
        spelled = q.spelled;
        within = q.within;
        tidies = q.tidies;
        forms_spelled = q.forms_spelled;
        whole = whole_of_two b.bytes q.bytes z b.whole q.whole;
        out = out_of_two old.bytes.items a.bytes q.added a.appended q.out;
        moved = moved_later b.bytes a.bytes b.whole a.appended same
            (λ f g l. in_list admitted b.spelled a.spelled l) q.moved;
      }

-- ---- entries

module _ (T : Table) (k e : TypeId) (limit size : ℕ) (asked : List ℕ) where
  pub no_entries_given : (n : ℕ) (body : List ℕ) (at : ℕ) (out : Form) → n ≡ 0 → at ≤ length body
      → HoldsBetween (GivesEntries T k e n limit size asked out out) body at at
  no_entries_given n body at out none l = record {
    order = omega arith;
    inside = l;
    begins = record {
      values = no_pair;
      forms = no_pair;
      bytes = [];
      added = [];
      counted = sym none;
      forms_counted = sym none;
      spelled = spelling.no_entry;
      within = omega arith;
      tidies = tidy.no_entry;
      forms_spelled = spelling.no_entry;
      whole = refl;
      out = sym (append-nil out.bytes.items);
      moved = none_moved out out refl;
    };
  }

  pub entry_given : (n m : ℕ) (old mid late new : Form) → n ≡ m + 1 → (x a y z : List ℕ)
      → GivesValue T k limit size asked old mid x a → GivesValue T e limit size asked mid late a y
      → GivesEntries T k e m limit size asked late new y z → GivesEntries T k e n limit size asked old new x z
  entry_given n m old mid late new more x a y z p q r =
      let u = p.within in
      let v = q.within in
      let w = r.within in
      let some : 0 < n = omega arith in
      record {
        values = pair p.value q.value r.values;
        forms = pair p.form q.form r.forms;
        bytes = p.bytes ++ (q.bytes ++ r.bytes);
        added = p.added ++ (q.added ++ r.added);
        counted = ap (λ k. k + 1) r.counted ∙ sym more;
        forms_counted = ap (λ k. k + 1) r.forms_counted ∙ sym more;
        spelled = spelling.entry p.spelled q.spelled r.spelled;
        within = omega arith;
        tidies = tidy.entry p.tidies q.tidies r.tidies;
        forms_spelled = spelling.entry p.form_spelled q.form_spelled r.forms_spelled;
        whole = whole_of_two p.bytes (q.bytes ++ r.bytes) z p.whole (whole_of_two q.bytes r.bytes z q.whole r.whole);
        out = out_of_two old.bytes.items p.added (q.added ++ r.added) p.out
            (out_of_two mid.bytes.items q.added r.added q.out r.out);
        moved = moved_both p.bytes p.added (q.added ++ r.added) p.whole p.out
            (out_of_two mid.bytes.items q.added r.added q.out r.out) (λ f g l. first_key some l)
            (λ f g (l : LeadInEntries T k e n (p.bytes ++ f) (p.added ++ g)). l) p.moved
            (moved_both q.bytes q.added r.added q.whole q.out r.out
            (λ f g l. first_entry some p.spelled p.form_spelled l)
            (λ f g l. next_entry more p.spelled p.form_spelled q.spelled q.form_spelled l) q.moved r.moved);
      }

  pub map_given : (n : ℕ) (old mid new : Form) → mid.places.items ≡ old.places.items → (x y z : List ℕ)
      → CopiesNumber n old.bytes.items mid.bytes.items x y
      → GivesEntries T k e n limit size asked mid new y z → GivesMap T k e limit size asked old new x z
  map_given n old mid new same x y z p q =
      let b = p.begins in
      let a = p.appends in
      record {
        count = n;
        values = q.values;
        forms = q.forms;
        head = b.bytes;
        bytes = q.bytes;
        form_head = a.bytes;
        added = q.added;
        counted = q.counted;
        forms_counted = q.forms_counted;
        headed = b.spelled;
        form_headed = a.spelled;
        spelled = q.spelled;
        within = q.within;
        tidies = q.tidies;
        forms_spelled = q.forms_spelled;
        whole = whole_of_two b.bytes q.bytes z b.whole q.whole;
        out = out_of_two old.bytes.items a.bytes q.added a.appended q.out;
        moved = moved_later b.bytes a.bytes b.whole a.appended same (λ f g l. in_map b.spelled a.spelled l) q.moved;
      }

-- ---- fields

-- what begins there is a value that is kept
pub kept_there : {P : List ℕ → List ℕ → Type 0} {k : Kind} {body : List ℕ} {at end : ℕ} → BeginsKept k (drop at body)
    → HoldsBetween P body at end → HoldsBetween (λ x y. BeginsKept k x × P x y) body at end
kept_there keeps h = record { order = h.order; inside = h.inside; begins = (keeps, h.begins) }

module _ (T : Table) (types : List Field) (limit size : ℕ) (asked : List ℕ) where
  pub fields_end_given : (next kept n : ℕ) (old new : Form) → n ≡ 0 → new.places.items ≡ old.places.items
      → Appends (IsUnsigned 0) old.bytes.items new.bytes.items → (x y : List ℕ) → BeginsThisNumber n x y
      → GivesFields T types next kept limit size asked old new x y
  fields_end_given next kept n old new none same a x y p = record {
    values = no_field;
    forms = no_field;
    bytes = p.bytes;
    added = a.bytes;
    spelled = spelling.end_of_fields (subst (λ k. IsUnsigned k p.bytes) none p.spelled);
    within = omega arith;
    tidies = tidy.no_more;
    forms_spelled = spelling.end_of_fields a.spelled;
    whole = p.whole;
    out = a.appended;
    moved = none_moved old new same;
  }

  module _ (next delta number : ℕ) (type : Field) (s : Shape) (some : 0 < delta) (is : number + 1 ≡ next + delta)
      (there : slice_get types number ≡ Some type) (known : shape_of T type.id ≡ Some s) where
    pub field_dropped : (kept : ℕ) (old new : Form) → 0 < limit → (x a y z : List ℕ) → BeginsThisNumber delta x a
        → BeginsDropped T s.kind a y → GivesFields T types (number + 1) kept limit size asked old new y z
        → GivesFields T types next kept limit size asked old new x z
    field_dropped kept old new deep x a y z p q r =
        let u = q.shallow in
        let v = r.within in
        let up : delta ≡ number + 1 - next = omega arith in
        record {
          values = field number q.value r.values;
          forms = r.forms;
          bytes = p.bytes ++ (q.bytes ++ r.bytes);
          added = r.added;
          spelled = spelling.next_field (omega arith) there (subst (λ k. IsUnsigned k p.bytes) up p.spelled)
              (spelling.of_type known q.spelled) r.spelled;
          within = omega arith;
          tidies = tidy.dropped there known q.dropped r.tidies;
          forms_spelled = r.forms_spelled;
          whole = whole_of_two p.bytes (q.bytes ++ r.bytes) z p.whole (whole_of_two q.bytes r.bytes z q.whole r.whole);
          out = r.out;
          moved = moved_later (p.bytes ++ q.bytes) [] (whole_of_two p.bytes q.bytes y p.whole q.whole)
              (sym (append-nil old.bytes.items)) refl
              (λ f g l. behind_dropped (omega arith) there (subst (λ k. IsUnsigned k p.bytes) up p.spelled)
              (spelling.of_type known q.spelled) l) r.moved;
        }

    pub field_kept : (kept : ℕ) (old mid late new : Form) → kept ≤ number → mid.places.items ≡ old.places.items
        → Appends (IsUnsigned (number + 1 - kept)) old.bytes.items mid.bytes.items → (x a y z : List ℕ)
        → BeginsThisNumber delta x a → BeginsKept s.kind a × GivesValue T type.id limit size asked mid late a y
        → GivesFields T types (number + 1) (number + 1) limit size asked late new y z
        → GivesFields T types next kept limit size asked old new x z
    field_kept kept old mid late new l same d x a y z p (keeps, q) r =
        let u = q.within in
        let v = r.within in
        let up : delta ≡ number + 1 - next = omega arith in
        record {
          values = field number q.value r.values;
          forms = field number q.form r.forms;
          bytes = p.bytes ++ (q.bytes ++ r.bytes);
          added = d.bytes ++ (q.added ++ r.added);
          spelled = spelling.next_field (omega arith) there (subst (λ k. IsUnsigned k p.bytes) up p.spelled) q.spelled
              r.spelled;
          within = omega arith;
          tidies = tidy.kept there known (keeps T q.value q.bytes y (as_kind known q.spelled) q.whole)
              (form_as_kind known q.tidies) r.tidies;
          forms_spelled = spelling.next_field l there d.spelled q.form_spelled r.forms_spelled;
          whole = whole_of_two p.bytes (q.bytes ++ r.bytes) z p.whole (whole_of_two q.bytes r.bytes z q.whole r.whole);
          out = out_of_two old.bytes.items d.bytes (q.added ++ r.added) d.appended
              (out_of_two mid.bytes.items q.added r.added q.out r.out);
          moved = moved_later p.bytes d.bytes p.whole d.appended same
              (λ f g (l : LeadInFields T types next kept (p.bytes ++ f) (d.bytes ++ g)). l)
              (moved_both q.bytes q.added r.added q.whole q.out r.out
              (λ f g m. in_field there (its_delta (omega arith) (subst (λ k. IsUnsigned k p.bytes) up p.spelled))
              (its_delta l d.spelled) m)
              (λ f g m. behind_kept (omega arith) l there (subst (λ k. IsUnsigned k p.bytes) up p.spelled) d.spelled
              q.spelled q.form_spelled m) q.moved r.moved);
        }

-- ---- values with parts

module _ {T : Table} {t : TypeId} {s : Shape} (limit size : ℕ) (asked : List ℕ) (some : 0 < limit)
    (known : shape_of T t ≡ Some s) (old new : Form) (x y : List ℕ) where
  pub slice_given : {e : TypeId} {due : Option ℕ} → s.kind ≡ kind.Slice e
      → GivesList T e due (limit - 1) size asked old new x y → GivesValue T t limit size asked old new x y
  slice_given {e = e} is q =
      let w = q.within in
      let v = Value.many q.values in
      let f = Value.many q.forms in
      record {
        value = v;
        form = f;
        bytes = q.head ++ q.bytes;
        added = q.form_head ++ q.added;
        spelled = spelling.of_type known (subst (λ k. SpellsAs T k v (q.head ++ q.bytes)) (sym is) (spelling.of_slice
            (subst (λ n. IsUnsigned n q.head) (sym q.counted) q.headed) q.spelled));
        within = omega arith;
        tidies = tidy.of_type known (subst (λ k. TidiesAs T k v f) (sym is) (tidy.of_slice q.tidies));
        form_spelled = spelling.of_type known (subst (λ k. SpellsAs T k f (q.form_head ++ q.added)) (sym is)
            (spelling.of_slice (subst (λ n. IsUnsigned n q.form_head) (sym q.forms_counted) q.form_headed)
            q.forms_spelled));
        whole = q.whole;
        out = q.out;
        moved = moved_as (λ f g l. slice_way known is l) q.moved;
      }

  pub array_given : {e : TypeId} {n : ℕ} → s.kind ≡ kind.Array e n
      → GivesList T e (Some n) (limit - 1) size asked old new x y → GivesValue T t limit size asked old new x y
  array_given {e = e} {n = n} is q =
      let w = q.within in
      let v = Value.many q.values in
      let f = Value.many q.forms in
      record {
        value = v;
        form = f;
        bytes = q.head ++ q.bytes;
        added = q.form_head ++ q.added;
        spelled = spelling.of_type known (subst (λ k. SpellsAs T k v (q.head ++ q.bytes)) (sym is) (spelling.of_array
            (q.counted ∙ q.admitted) (subst (λ n. IsUnsigned n q.head) q.admitted q.headed) q.spelled));
        within = omega arith;
        tidies = tidy.of_type known (subst (λ k. TidiesAs T k v f) (sym is) (tidy.of_array q.tidies));
        form_spelled = spelling.of_type known (subst (λ k. SpellsAs T k f (q.form_head ++ q.added)) (sym is)
            (spelling.of_array (q.forms_counted ∙ q.admitted) (subst (λ n. IsUnsigned n q.form_head) q.admitted
            q.form_headed) q.forms_spelled));
        whole = q.whole;
        out = q.out;
        moved = moved_as (λ f g l. array_way known is l) q.moved;
      }

  pub map_is_given : {k e : TypeId} → s.kind ≡ kind.Map k e → GivesMap T k e (limit - 1) size asked old new x y
      → GivesValue T t limit size asked old new x y
  map_is_given {k = k} {e = e} is q =
      let w = q.within in
      let v = Value.pairs q.values in
      let f = Value.pairs q.forms in
      record {
        value = v;
        form = f;
        bytes = q.head ++ q.bytes;
        added = q.form_head ++ q.added;
        spelled = spelling.of_type known (subst (λ k. SpellsAs T k v (q.head ++ q.bytes)) (sym is) (spelling.of_map
            (subst (λ n. IsUnsigned n q.head) (sym q.counted) q.headed) q.spelled));
        within = omega arith;
        tidies = tidy.of_type known (subst (λ k. TidiesAs T k v f) (sym is) (tidy.of_map q.tidies));
        form_spelled = spelling.of_type known (subst (λ k. SpellsAs T k f (q.form_head ++ q.added)) (sym is)
            (spelling.of_map (subst (λ n. IsUnsigned n q.form_head) (sym q.forms_counted) q.form_headed)
            q.forms_spelled));
        whole = q.whole;
        out = q.out;
        moved = moved_as (λ f g l. map_way known is l) q.moved;
      }

  pub struct_given : {types : List Field} → s.kind ≡ kind.Struct types
      → GivesFields T types 0 0 (limit - 1) size asked old new x y → GivesValue T t limit size asked old new x y
  struct_given is q =
      let w = q.within in
      let v = Value.fields q.values in
      let f = Value.fields q.forms in
      record {
        value = v;
        form = f;
        bytes = q.bytes;
        added = q.added;
        spelled = spelling.of_type known (subst (λ k. SpellsAs T k v q.bytes) (sym is) (spelling.of_struct q.spelled));
        within = omega arith;
        tidies = tidy.of_type known (subst (λ k. TidiesAs T k v f) (sym is) (tidy.of_struct q.tidies));
        form_spelled = spelling.of_type known (subst (λ k. SpellsAs T k f q.added) (sym is) (spelling.of_struct
            q.forms_spelled));
        whole = q.whole;
        out = q.out;
        moved = moved_as (λ f g l. struct_way known is l) q.moved;
      }

-- ---- the value behind its tag

module _ {T : Table} {t : TypeId} (limit size : ℕ) (asked : List ℕ) (old : Form) where
  pub struct_top : {new : Form} → HasStructs T t → (x y : List ℕ) → GivesValue T t limit size asked old new x y
      → GivesTop T t limit size asked old new x y
  struct_top h x y q = record {
    value = q.value;
    form = q.form;
    bytes = q.bytes;
    added = q.added;
    spelled = at_once h.found h.struct q.spelled;
    within = q.within;
    tidies = q.tidies;
    form_spelled = at_once h.found h.struct q.form_spelled;
    whole = q.whole;
    out = q.out;
    moved = moved_as (λ f g (l : LeadAlike T t f g). record {
      way = l.way;
      leads = in_struct h.found h.struct l.leads;
      form_leads = in_struct h.found h.struct l.form_leads;
    }) q.moved;
  }

  behind_tag : {v : Tree} {b : List ℕ} → ¬ HasStructs T t → Spells T t v b → SpellsTop T t v (0 ∷ b)
  behind_tag n (spelling.of_type {s = s} e p) =
      tagged e (λ struct. n (record { shape = s; found = e; struct = struct })) (spelling.of_type e p)

  leads_behind_tag : {way : List PathStep} {f : List ℕ} → ¬ HasStructs T t → LeadsTo T t way f
      → LeadsFromTop T t way (0 ∷ f)
  leads_behind_tag n (to_itself {s = s} e k) =
      same_nil.behind_tag e (λ struct. n (record { shape = s; found = e; struct = struct })) (to_itself e k)
  leads_behind_tag n (by_part {s = s} e b l) =
      same_nil.behind_tag e (λ struct. n (record { shape = s; found = e; struct = struct })) (by_part e b l)

  pub tagged_top : {mid new : Form} → ¬ HasStructs T t → mid.places.items ≡ old.places.items
      → mid.bytes.items ≡ old.bytes.items ++ 0 ∷ [] → (x y z : List ℕ) → BeginsZero x y
      → GivesValue T t limit size asked mid new y z → GivesTop T t limit size asked old new x z
  tagged_top n same grown x y z tag q = record {
    value = q.value;
    form = q.form;
    bytes = 0 ∷ q.bytes;
    added = 0 ∷ q.added;
    spelled = behind_tag n q.spelled;
    within = q.within;
    tidies = q.tidies;
    form_spelled = behind_tag n q.form_spelled;
    whole = tag ∙ ap (λ l. 0 ∷ l) q.whole;
    out = out_of_two old.bytes.items (0 ∷ []) q.added grown q.out;
    moved = moved_later (0 ∷ []) (0 ∷ []) tag grown same (λ f g (l : LeadAlike T t f g). record {
      way = l.way;
      leads = leads_behind_tag n l.leads;
      form_leads = leads_behind_tag n l.form_leads;
    }) q.moved;
  }

-- where nothing stood, a nil that moved is the same one
same_nil_of : {T : Table} {t : TypeId} {old new : Form} {body asked : List ℕ} {number q : ℕ} → old.bytes.items ≡ []
    → IsAsked (LeadAlikeFromTop T t) (length body) asked old new body number q
    → (p : ℕ) × (slice_get asked number ≡ Some p) × IsSameNil T t body new.bytes.items p q
same_nil_of {old = old} {new = new} {body = body} empty h =
    let m = h.moves in let place = m.place_is in let moved = m.moved_is in
    let all : length body ≡ length m.front + (length m.rest + 1) =
    omega (arith, ap length m.stands, length-append m.front (0 ∷ m.rest)) in (
      h.place,
      h.asked_for,
      record {
        way = m.alike.way;
        from = record {
          front = m.front;
          rest = m.rest;
          leads = m.alike.leads;
          whole = m.stands;
          place_is = omega arith;
        };
        to = record {
          front = m.form_front;
          rest = m.form_rest;
          leads = m.alike.form_leads;
          whole = m.out ∙ ap (λ l. l ++ (m.form_front ++ (0 ∷ m.form_rest))) empty;
          place_is = omega (arith, ap length empty);
        };
      },
    )

pub whole_tidied : {T : Table} {t : TypeId} {most limit : ℕ} {old new : Form} (body asked : List ℕ) (end : ℕ)
    → most ≤ limit → end ≡ length body → old.bytes.items ≡ [] → old.places.items ≡ []
    → HoldsBetween (GivesTop T t most (length body) asked old new) body 0 end → IsForm T t limit body asked new
whole_tidied {T = T} {t = t} {old = old} {new = new} body asked end l ends empty none s =
    let q = s.begins in
    let w = q.within in
    let no = drop_all end body (omega arith) in
    let all : body ≡ q.bytes = q.whole ∙ ap (λ r. q.bytes ++ r) no ∙ append-nil q.bytes in
    record {
      whole = record {
        value = q.value;
        spelled = subst (SpellsTop T t q.value) (sym all) q.spelled;
        within = omega arith;
        form = q.form;
        tidies = q.tidies;
        form_spelled = subst (SpellsTop T t q.form) (sym (q.out ∙ ap (λ l. l ++ q.added) empty)) q.form_spelled;
      };
      each = λ number r there. elim (q.moved.each number r there) [
        | inl before ↦ absurd (no_place _ number r before none)
        | inr asks ↦ same_nil_of empty asks
      ];
    }
  where
    no_place : (xs : List ℕ) (i r : ℕ) → slice_get xs i ≡ Some r → xs ≡ [] → ⊥
    no_place xs i r there e = let none : slice_get [] i ≡ Some r = subst (λ xs. slice_get xs i ≡ Some r) e there in
        cc

-- where the part begins with the body
pub at_start : {P : List ℕ → List ℕ → Type 0} {body : List ℕ} {at end : ℕ} → at ≡ 0 → HoldsBetween P body at end
    → HoldsBetween P body 0 end
at_start {P = P} {body = body} {end = end} e h = subst (λ at. HoldsBetween P body at end) e h

-- an answer of a place, if any
pub if_some : {A : Type 0} {P Q : A → Type 0} (r : Option A) → ((x : A) → P x → Q x) → IfSome r P → IfSome r Q
if_some None f p = tt
if_some (Some x) f p = f x p
