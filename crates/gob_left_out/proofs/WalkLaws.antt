-- What the parts of a value leave out is what the value does.
use Rattle.std.proofs.Common.{◌≡◌, ℕ, inl, inr, List, [], ◌∷◌, ◌++◌, length, None, Some, Vec, refl, sym, ap, ◌∙◌}
use Rattle.std.proofs.Common.{subst}
use Rattle.std.proofs.lemmas.Option.{none-some, slice_get_within}
use Rattle.std.specs.Global.{Global}
use Rattle.std.specs.Prelude.{slice_get}
use Rattle.gob_types.specs.declared.id.TypeId.{TypeId}
use Rattle.gob_types.specs.declared.kind.Field.{Field}
use Rattle.gob_types.specs.declared.kind.Kind.{Kind}
use Rattle.gob_types.specs.declared.kind.Kind.TheVariants as kind
use Rattle.gob_types.specs.declared.kind.Shape.{Shape}
use Rattle.gob_types.specs.Table.{Table}
use Rattle.gob_types.proofs.PublicLaws.{some_injective}
use Rattle.gob_value.specs.declared.value.Value.{Value, Many, Pairs as ValuePairs, Fields as ValueFields}
use Rattle.gob_value.specs.Tree.{Tree, Trees, Pairs, Fields, depth, trees_depth, pairs_depth, fields_depth}
use Rattle.gob_value.specs.Tree as Value
use Rattle.gob_value.specs.View.{view, views, pair_views, field_views}
use Rattle.gob_value.specs.Written.{HasParts}
use Rattle.gob_value.proofs.PublicLaws.{IsNoList, IsNoMap, IsNoStruct, view-Fields, view-Many, view-Pairs}
use Rattle.gob_match.specs.declared.pair.TypePair.{TypePair}
use Rattle.gob_match.specs.declared.step.TypeStep.{TypeStep}
use Rattle.gob_match.specs.declared.step.TypeStep.TheVariants as step
use Rattle.gob_match.specs.Matching.{HasMatchingShapes, HasShapes, KindsMatch, Match, NamesByStep, structs as two_structs}
use Rattle.gob_match.specs.Pairs.{element_of_arrays as element_of_two_arrays}
use Rattle.gob_match.specs.Pairs.{element_of_maps as element_of_two_maps, element_of_slices as element_of_two_slices}
use Rattle.gob_match.specs.Pairs.{field_of_structs as field_of_two_structs, HasFieldNamed, HasName}
use Rattle.gob_match.specs.Pairs.{key_of_maps as key_of_two_maps, NamesPair, of_types, RepeatsName}
use Rattle.gob_match.proofs.ConversionLaws.{one_number}
use Rattle.gob_match.specs.Received.{HasPresent, IsPresent}
use Rattle.gob_left_out.specs.declared.field.UnwantedField.{UnwantedField}
use Rattle.gob_left_out.specs.declared.kinds.Parts.{Parts}
use Rattle.gob_left_out.specs.declared.kinds.Parts.TheVariants as parts
use Rattle.gob_left_out.specs.declared.kinds.StructPair.{StructPair}
use Rattle.gob_left_out.specs.declared.walk.Met.{Met}
use Rattle.gob_left_out.specs.LeftOut.{HasPart, element_of_arrays, element_of_slices, key_of_maps, element_of_maps}
use Rattle.gob_left_out.specs.LeftOut.{field_of_structs, HasUnwanted, Lacks, of_structs as lacks_field, LeavesOut, here}
use Rattle.gob_left_out.specs.LeftOut.{inside, IsElement, IsEntry}
use Rattle.gob_left_out.specs.Machine.Kinds.{KindParts, of_arrays, of_basics, of_maps, of_opaques, of_slices}
use Rattle.gob_left_out.specs.Machine.Kinds.{of_structs, PairParts}
use Rattle.gob_left_out.specs.Machine.Walk.{ElementsLeave, EntriesLeave, EntryLeaves, FieldLeaves, FieldsLeave}
use Rattle.gob_left_out.specs.Machine.Walk.{IsAlone, MatchStructs, Meets, Notes, part, StepLeaves, ValueLeaves, whole}
use Rattle.gob_left_out.proofs.NoteLaws.{meets_as, meets_none, meets_noted}
use Rattle.gob_left_out.proofs.PartLaws.{element_at, element_of, entry_at, entry_of, field_of, present_at}

-- ---- what a value leaves out, by the shapes of its types
data Opened (T U : Table) (k l : Kind) (p : TypePair) (v : Tree) (path : List TypeStep) (x : UnwantedField)
    : Type 0 where
  lacked : (number : ℕ) (name : List ℕ) → Lacks k l v number name → path ≡ step.Named name ∷ []
      → x ≡ record { pair = p; number = number } → Opened T U k l p v path x
  inner : (onward : TypeStep) (q : TypePair) (w : Tree) (rest : List TypeStep) → HasPart k l v onward q w
      → LeavesOut T U q w rest x → path ≡ onward ∷ rest → Opened T U k l p v path x

opened : {T U : Table} {p : TypePair} {v : Tree} {s r : Shape} {path : List TypeStep} {x : UnwantedField}
    → HasShapes T U p s r → LeavesOut T U p v path x → Opened T U s.kind r.kind p v path x
opened {v = v} {s = s} {r = r} h (here {r = o} {number = number} {name = name} g l) =
    lacked number name (subst (λ (z : Shape). Lacks s.kind z.kind v number name) (some_injective (sym g.wanted ∙ h.wanted))
    (subst (λ (z : Shape). Lacks z.kind o.kind v number name) (some_injective (sym g.stream ∙ h.stream)) l)) refl refl
opened {v = v} {s = s} {r = r} h (inside {q = q} {w = w} {r = o} {onward = onward} {path = path} g inner_part leaves) =
    inner onward q w path (subst (λ (z : Shape). HasPart s.kind z.kind v onward q w)
    (some_injective (sym g.wanted ∙ h.wanted))
    (subst (λ (z : Shape). HasPart z.kind o.kind v onward q w) (some_injective (sym g.stream ∙ h.stream)) inner_part)) leaves refl

-- ---- values without such parts
no_parts : {T U : Table} {k l : Kind} {p : TypePair} {v : Tree} {path : List TypeStep} {x : UnwantedField}
    → KindParts k l parts.Nothing → Opened T U k l p v path x → ⊥
no_parts of_basics (lacked number name l e f) = elim l [ ]
no_parts of_basics (inner onward q w rest h l e) = elim h [ ]
no_parts of_opaques (lacked number name l e f) = elim l [ ]
no_parts of_opaques (inner onward q w rest h l e) = elim h [ ]

no_elements : {T U : Table} {k l : Kind} {p q : TypePair} {v : Tree} {path : List TypeStep} {x : UnwantedField}
    → KindParts k l (parts.Elements q) → IsNoList v → Opened T U k l p v path x → ⊥
no_elements of_arrays n (lacked number name l f g) = elim l [ ]
no_elements of_arrays n (inner onward q w rest (element_of_arrays h) l f) = n
no_elements of_slices n (lacked number name l f g) = elim l [ ]
no_elements of_slices n (inner onward q w rest (element_of_slices h) l f) = n

no_entries : {T U : Table} {k l : Kind} {p q r : TypePair} {v : Tree} {path : List TypeStep} {x : UnwantedField}
    → KindParts k l (parts.Entries q r) → IsNoMap v → Opened T U k l p v path x → ⊥
no_entries of_maps n (lacked number name l g h) = elim l [ ]
no_entries of_maps n (inner onward q w rest (key_of_maps h) l g) = n
no_entries of_maps n (inner onward q w rest (element_of_maps h) l g) = n

no_fields : {T U : Table} {k l : Kind} {p : TypePair} {structs : StructPair} {v : Tree} {path : List TypeStep}
    {x : UnwantedField} → KindParts k l (parts.Fields structs) → IsNoStruct v → Opened T U k l p v path x → ⊥
no_fields (of_structs e f) n (lacked number name (lacks_field l) g h) = n
no_fields (of_structs e f) n (inner onward q w rest (field_of_structs g h) l i) = n

module _ {T U : Table} {p : TypePair} {given : Parts} (h : PairParts T U p given) where
  pub none_of_nothing : {met : Met} {v : Tree} → given ≡ parts.Nothing → Meets met met (ValueLeaves T U p v)
  none_of_nothing {v = v} e = meets_none (λ path x l.
      no_parts {T = T} {U = U} {p = p} {v = v} {path = path} {x = x}
      (subst (KindParts h.stream.kind h.wanted.kind) e h.parts) (opened h.shapes l))

  pub none_of_no_list : {met : Met} {v : Tree} {q : TypePair} → given ≡ parts.Elements q → IsNoList v
      → Meets met met (ValueLeaves T U p v)
  none_of_no_list {v = v} e n = meets_none (λ path x l.
      no_elements {T = T} {U = U} {p = p} {v = v} {path = path} {x = x}
      (subst (KindParts h.stream.kind h.wanted.kind) e h.parts) n (opened h.shapes l))

  pub none_of_no_map : {met : Met} {v : Tree} {q r : TypePair} → given ≡ parts.Entries q r → IsNoMap v
      → Meets met met (ValueLeaves T U p v)
  none_of_no_map {v = v} e n = meets_none (λ path x l.
      no_entries {T = T} {U = U} {p = p} {v = v} {path = path} {x = x}
      (subst (KindParts h.stream.kind h.wanted.kind) e h.parts) n (opened h.shapes l))

  pub none_of_no_struct : {met : Met} {v : Tree} {structs : StructPair} → given ≡ parts.Fields structs → IsNoStruct v
      → Meets met met (ValueLeaves T U p v)
  none_of_no_struct {v = v} e n = meets_none (λ path x l.
      no_fields {T = T} {U = U} {p = p} {v = v} {path = path} {x = x}
      (subst (KindParts h.stream.kind h.wanted.kind) e h.parts) n (opened h.shapes l))

-- ---- pairs that match
pub has_shapes : {T U : Table} {p : TypePair} → Match T U p.stream p.wanted → HasMatchingShapes T U p
has_shapes {p = p} m = m.closed.match p m.holds

match_named : {T U : Table} {p q : TypePair} (s : TypeStep) → Match T U p.stream p.wanted → NamesByStep T U p s q
    → Match T U q.stream q.wanted
match_named {p = p} {q = q} s m n =
    record { pairs = m.pairs; closed = m.closed; holds = m.closed.named p q s m.holds n }

-- ---- lists
elements_shape : {k l : Kind} {q : TypePair} → KindParts k l (parts.Elements q) → NamesPair k l step.Element q
elements_shape of_arrays = element_of_two_arrays
elements_shape of_slices = element_of_two_slices

an_element : {k l : Kind} {q : TypePair} {vs : Trees} {w : Tree} → KindParts k l (parts.Elements q) → IsElement w vs
    → HasPart k l (Value.many vs) step.Element q w
an_element of_arrays h = element_of_arrays h
an_element of_slices h = element_of_slices h

-- of a value that is in the list
in_list : {T U : Table} {q : TypePair} {items : List Value} {w : Tree} {rest : List TypeStep} {x : UnwantedField}
    → IsElement w (views items) → LeavesOut T U q w rest x
    → ElementsLeave T U q items (length items) (step.Element ∷ rest) x
in_list {T = T} {U = U} {q = q} {items = items} {rest = rest} {x = x} h l =
    let e = element_of items h in
    record {
      index = e.index;
      below = slice_get_within items e.index e.value e.there;
      item = e.value;
      there = e.there;
      holds = record {
        rest = rest;
        whole = refl;
        holds = subst (λ (w : Tree). LeavesOut T U q w rest x) (sym e.is) l;
      };
    }

list_opened : {T U : Table} {k l : Kind} {p q : TypePair} {items : List Value} {path : List TypeStep} {x : UnwantedField}
    → KindParts k l (parts.Elements q) → Opened T U k l p (Value.many (views items)) path x
    → ElementsLeave T U q items (length items) path x
list_opened of_arrays (lacked number name l f g) = elim l [ ]
list_opened {T = T} {U = U} {q = q} {items = items} {x = x} of_arrays
    (inner onward p w rest (element_of_arrays h) l f) =
    subst (λ (path : List TypeStep). ElementsLeave T U q items (length items) path x) (sym f) (in_list h l)
list_opened of_slices (lacked number name l f g) = elim l [ ]
list_opened {T = T} {U = U} {q = q} {items = items} {x = x} of_slices
    (inner onward p w rest (element_of_slices h) l f) =
    subst (λ (path : List TypeStep). ElementsLeave T U q items (length items) path x) (sym f) (in_list h l)

module _ {T U : Table} {p : TypePair} {given : Parts} (h : PairParts T U p given) where
  module _ {q : TypePair} (e : given ≡ parts.Elements q) where
    list_parts : KindParts h.stream.kind h.wanted.kind (parts.Elements q)
    list_parts = subst (KindParts h.stream.kind h.wanted.kind) e h.parts

    pub match_elements : Match T U p.stream p.wanted → Match T U q.stream q.wanted
    match_elements m = match_named step.Element m
        (record { stream = h.stream; wanted = h.wanted; shapes = h.shapes; named = elements_shape list_parts })

    list_leaves : (items : List Value) (path : List TypeStep) (x : UnwantedField)
        → ElementsLeave T U q items (length items) path x → LeavesOut T U p (Value.many (views items)) path x
    list_leaves items path x s =
        subst (λ (path : List TypeStep). LeavesOut T U p (Value.many (views items)) path x) (sym s.holds.whole)
        (inside h.shapes (an_element list_parts (element_at items s.index s.there)) s.holds.holds)

    pub list_met : {old new : Met} {v : Value} {items : List Value} (made : Vec Value Global) → v ≡ Many made
        → items ≡ made.items → Meets old new (ElementsLeave T U q items (length items))
        → Meets old new (ValueLeaves T U p (view v))
    list_met {old = old} {new = new} {items = items} made f g m =
        let is = ap view f ∙ view-Many made ∙ ap (λ (l : List Value). Value.many (views l)) (sym g) in
        subst (λ (w : Tree). Meets old new (ValueLeaves T U p w)) (sym is)
        (meets_as m (list_leaves items) (λ path x l. list_opened list_parts (opened h.shapes l)))

-- ---- maps
map_opened : {T U : Table} {k l : Kind} {p q r : TypePair} {items : List (Value × Value)} {path : List TypeStep}
    {x : UnwantedField} → KindParts k l (parts.Entries q r) → Opened T U k l p (Value.pairs (pair_views items)) path x
    → EntriesLeave T U q r items (length items) path x
map_opened of_maps (lacked number name l g h) = elim l [ ]
map_opened {T = T} {U = U} {q = q} {r = r} {items = items} {x = x} of_maps
    (inner onward s w rest (key_of_maps g) l i) =
    let n = entry_of items g in
    record {
      index = n.index;
      below = slice_get_within items n.index n.entry n.there;
      item = n.entry;
      there = n.there;
      holds = inl (record {
        rest = rest;
        whole = i;
        holds = subst (λ (w : Tree). LeavesOut T U q w rest x) (sym n.key_is) l;
      });
    }
map_opened {T = T} {U = U} {q = q} {r = r} {items = items} {x = x} of_maps
    (inner onward s w rest (element_of_maps g) l i) =
    let n = entry_of items g in
    record {
      index = n.index;
      below = slice_get_within items n.index n.entry n.there;
      item = n.entry;
      there = n.there;
      holds = inr (record {
        rest = rest;
        whole = i;
        holds = subst (λ (w : Tree). LeavesOut T U r w rest x) (sym n.elem_is) l;
      });
    }

keys_shape : {k l : Kind} {q r : TypePair} → KindParts k l (parts.Entries q r) → NamesPair k l step.Key q
keys_shape of_maps = key_of_two_maps

values_shape : {k l : Kind} {q r : TypePair} → KindParts k l (parts.Entries q r) → NamesPair k l step.Element r
values_shape of_maps = element_of_two_maps

a_key : {k l : Kind} {q r : TypePair} {ps : Pairs} {x y : Tree} → KindParts k l (parts.Entries q r) → IsEntry x y ps
    → HasPart k l (Value.pairs ps) step.Key q x
a_key of_maps h = key_of_maps h

a_value : {k l : Kind} {q r : TypePair} {ps : Pairs} {x y : Tree} → KindParts k l (parts.Entries q r) → IsEntry x y ps
    → HasPart k l (Value.pairs ps) step.Element r y
a_value of_maps h = element_of_maps h

module _ {T U : Table} {p : TypePair} {given : Parts} (h : PairParts T U p given) where
  module _ {q r : TypePair} (e : given ≡ parts.Entries q r) where
    map_parts : KindParts h.stream.kind h.wanted.kind (parts.Entries q r)
    map_parts = subst (KindParts h.stream.kind h.wanted.kind) e h.parts

    pub match_keys : Match T U p.stream p.wanted → Match T U q.stream q.wanted
    match_keys m = match_named step.Key m
        (record { stream = h.stream; wanted = h.wanted; shapes = h.shapes; named = keys_shape map_parts })

    pub match_values : Match T U p.stream p.wanted → Match T U r.stream r.wanted
    match_values m = match_named step.Element m
        (record { stream = h.stream; wanted = h.wanted; shapes = h.shapes; named = values_shape map_parts })

    map_leaves : (items : List (Value × Value)) (path : List TypeStep) (x : UnwantedField)
        → EntriesLeave T U q r items (length items) path x → LeavesOut T U p (Value.pairs (pair_views items)) path x
    map_leaves items path x s = by s.holds
      where
        by : EntryLeaves T U q r s.item path x → LeavesOut T U p (Value.pairs (pair_views items)) path x
        by (inl k) =
            subst (λ (path : List TypeStep). LeavesOut T U p (Value.pairs (pair_views items)) path x) (sym k.whole)
            (inside h.shapes (a_key map_parts (entry_at items s.index s.there)) k.holds)
        by (inr k) =
            subst (λ (path : List TypeStep). LeavesOut T U p (Value.pairs (pair_views items)) path x) (sym k.whole)
            (inside h.shapes (a_value map_parts (entry_at items s.index s.there)) k.holds)

    pub map_met : {old new : Met} {v : Value} {items : List (Value × Value)} (made : Vec (Value × Value) Global)
        → v ≡ ValuePairs made → items ≡ made.items → Meets old new (EntriesLeave T U q r items (length items))
        → Meets old new (ValueLeaves T U p (view v))
    map_met {old = old} {new = new} {items = items} made f g m =
        let is = ap view f ∙ view-Pairs made ∙ ap (λ (l : List (Value × Value)). Value.pairs (pair_views l)) (sym g) in
        subst (λ (w : Tree). Meets old new (ValueLeaves T U p w)) (sym is)
        (meets_as m (map_leaves items) (λ path x l. map_opened map_parts (opened h.shapes l)))

-- ---- structs
wanted_distinct : {fs gs : List Field} → KindsMatch (kind.Struct fs) (kind.Struct gs) → ¬ RepeatsName gs
wanted_distinct (two_structs d c) = d.in_wanted

-- the shapes of a pair of structs
record StructShapes (k l : Kind) (structs : StructPair) : Type 0 where
  stream_is : k ≡ kind.Struct structs.stream.now
  wanted_is : l ≡ kind.Struct structs.wanted.now

struct_shapes : {k l : Kind} {structs : StructPair} → KindParts k l (parts.Fields structs) → StructShapes k l structs
struct_shapes (of_structs e f) = record { stream_is = ap kind.Struct (sym e); wanted_is = ap kind.Struct (sym f) }

field_opened : {T U : Table} {p : TypePair} (structs : StructPair) {items : List (ℕ × Value)} {path : List TypeStep}
    {x : UnwantedField} → Opened T U (kind.Struct structs.stream.now) (kind.Struct structs.wanted.now) p
    (Value.fields (field_views items)) path x
    → FieldsLeave T U p structs items (length items) path x
field_opened {T = T} {U = U} {p = p} structs {items = items} {path = path} {x = x}
    (lacked number name (lacks_field l) g h) =
    let n = field_of items l.present in
    record {
      index = n.index;
      below = slice_get_within items n.index n.part n.there;
      item = n.part;
      there = n.there;
      holds = subst (λ (path : List TypeStep). FieldLeaves T U p structs.stream.now structs.wanted.now n.part.0
          (view n.part.1) path x) (sym (g ∙ ap (λ (name : List ℕ). step.Named name ∷ []) (sym l.named)))
          (subst (λ (x : UnwantedField). FieldLeaves T U p structs.stream.now structs.wanted.now n.part.0
          (view n.part.1) (step.Named l.field.name ∷ []) x)
          (sym (h ∙ ap (λ (number : ℕ). record { pair = p; number = number }) (sym n.number_is)))
          (whole (ap (slice_get structs.stream.now) n.number_is ∙ l.there)
          (subst (λ (name : List ℕ). ¬ HasName structs.wanted.now name) (sym l.named) l.unwanted)));
    }
field_opened {T = T} {U = U} {p = p} structs {items = items} {path = path} {x = x}
    (inner onward q w rest (field_of_structs {name = name} {t = t} {u = u} g h) l e) =
    let n = field_of items g.present in
    record {
      index = n.index;
      below = slice_get_within items n.index n.part n.there;
      item = n.part;
      there = n.there;
      holds = part {u = u} (ap (slice_get structs.stream.now) n.number_is ∙ g.there)
          (subst (λ (name : List ℕ). HasFieldNamed structs.wanted.now name u) (sym g.named) h)
          (record {
            rest = rest;
            whole = e ∙ ap (λ (name : List ℕ). step.Named name ∷ rest) (sym g.named);
            holds = subst (λ (t : TypeId). LeavesOut T U (of_types t u) (view n.part.1) rest x) (sym g.typed)
                (subst (λ (w : Tree). LeavesOut T U (of_types t u) w rest x) (sym n.value_is) l);
          });
    }

opened_as : {T U : Table} {k k' l l' : Kind} {p : TypePair} {v : Tree} {path : List TypeStep} {x : UnwantedField}
    → k ≡ k' → l ≡ l' → Opened T U k l p v path x → Opened T U k' l' p v path x
opened_as {T = T} {U = U} {k = k} {l' = l'} {p = p} {v = v} {path = path} {x = x} e f o =
    subst (λ (k : Kind). Opened T U k l' p v path x) e (subst (λ (l : Kind). Opened T U k l p v path x) f o)

module _ {T U : Table} {p : TypePair} {given : Parts} (h : PairParts T U p given) where
  module _ {structs : StructPair} (e : given ≡ parts.Fields structs) where
    are : StructShapes h.stream.kind h.wanted.kind structs
    are = struct_shapes (subst (KindParts h.stream.kind h.wanted.kind) e h.parts)

    pub structs_match : Match T U p.stream p.wanted → MatchStructs T U p structs
    structs_match m = record {
      match = m;
      stream = h.stream;
      wanted = h.wanted;
      shapes = h.shapes;
      stream_is = are.stream_is;
      wanted_is = are.wanted_is;
      distinct = wanted_distinct (subst (λ (k : Kind). KindsMatch k _) are.stream_is
          (subst (λ (l : Kind). KindsMatch h.stream.kind l) are.wanted_is h.match));
    }

    a_lack : {fs : Fields} {number : ℕ} {name : List ℕ}
        → HasUnwanted structs.stream.now structs.wanted.now fs number name
        → Lacks h.stream.kind h.wanted.kind (Value.fields fs) number name
    a_lack {fs = fs} {number = number} {name = name} l =
        subst (λ (k : Kind). Lacks k h.wanted.kind (Value.fields fs) number name) (sym are.stream_is)
        (subst (λ (k : Kind). Lacks _ k (Value.fields fs) number name) (sym are.wanted_is) (lacks_field l))

    a_field : {fs : Fields} {name : List ℕ} {t u : TypeId} {w : Tree} → HasPresent structs.stream.now fs name t w
        → HasFieldNamed structs.wanted.now name u
        → HasPart h.stream.kind h.wanted.kind (Value.fields fs) (step.Named name) (of_types t u) w
    a_field {fs = fs} {name = name} {t = t} {u = u} {w = w} g f =
        subst (λ (k : Kind). HasPart k h.wanted.kind (Value.fields fs) (step.Named name) (of_types t u) w)
        (sym are.stream_is)
        (subst (λ (k : Kind). HasPart _ k (Value.fields fs) (step.Named name) (of_types t u) w) (sym are.wanted_is)
        (field_of_structs g f))

    struct_leaves : (items : List (ℕ × Value)) (path : List TypeStep) (x : UnwantedField)
        → FieldsLeave T U p structs items (length items) path x
        → LeavesOut T U p (Value.fields (field_views items)) path x
    struct_leaves items path x s = by s.holds (present_at items s.index s.there)
      where
        by : {number : ℕ} {v : Tree} {path : List TypeStep} {x : UnwantedField}
            → FieldLeaves T U p structs.stream.now structs.wanted.now number v path x
            → IsPresent number v (field_views items) → LeavesOut T U p (Value.fields (field_views items)) path x
        by {number = number} {v = v} (whole {field = field} there unwanted) present =
            here h.shapes (a_lack (record {
              field = field;
              there = there;
              named = refl;
              value = v;
              present = present;
              unwanted = unwanted;
            }))
        by {number = number} {v = v} {x = x} (part {field = field} {u = u} there named leaves) present =
            subst (λ (path : List TypeStep). LeavesOut T U p (Value.fields (field_views items)) path x)
            (sym leaves.whole)
            (inside h.shapes (a_field (record {
              number = number;
              type = field;
              there = there;
              named = refl;
              typed = refl;
              present = present;
            }) named) leaves.holds)

    pub struct_met : {old new : Met} {v : Value} {items : List (ℕ × Value)} (made : Vec (ℕ × Value) Global)
        → v ≡ ValueFields made → items ≡ made.items
        → Meets old new (FieldsLeave T U p structs items (length items)) → Meets old new (ValueLeaves T U p (view v))
    struct_met {old = old} {new = new} {items = items} made f g m =
        let is = ap view f ∙ view-Fields made ∙ ap (λ (l : List (ℕ × Value)). Value.fields (field_views l)) (sym g) in
        subst (λ (w : Tree). Meets old new (ValueLeaves T U p w)) (sym is)
        (meets_as m (struct_leaves items)
        (λ path x l. field_opened structs (opened_as are.stream_is are.wanted_is (opened h.shapes l))))

-- ---- values without parts
part_parts : {k l : Kind} {v w : Tree} {s : TypeStep} {q : TypePair} → HasPart k l v s q w → HasParts v
part_parts (element_of_arrays h) = tt
part_parts (element_of_slices h) = tt
part_parts (key_of_maps h) = tt
part_parts (element_of_maps h) = tt
part_parts (field_of_structs g h) = tt

lacks_parts : {k l : Kind} {v : Tree} {number : ℕ} {name : List ℕ} → Lacks k l v number name → HasParts v
lacks_parts (lacks_field h) = tt

no_leaf : {T U : Table} {p : TypePair} {v : Tree} {path : List TypeStep} {x : UnwantedField} → ¬ HasParts v
    → LeavesOut T U p v path x → ⊥
no_leaf n (here h l) = n (lacks_parts l)
no_leaf n (inside h held l) = n (part_parts held)

-- ---- one field
pub named_as : {fields others : List Field} {name other : List ℕ} {u : TypeId} → fields ≡ others → name ≡ other
    → HasFieldNamed fields name u → HasFieldNamed others other u
named_as {fields = fields} {other = other} {u = u} e f h = subst (λ (l : List Field). HasFieldNamed l other u) e
    (subst (λ (n : List ℕ). HasFieldNamed fields n u) f h)

pub unnamed_as : {fields others : List Field} {name other : List ℕ} → fields ≡ others → name ≡ other
    → ¬ HasName fields name → ¬ HasName others other
unnamed_as {fields = fields} {other = other} e f h = subst (λ (l : List Field). ¬ HasName l other) e
    (subst (λ (n : List ℕ). ¬ HasName fields n) f h)

module _ {T U : Table} {p : TypePair} {structs : StructPair} (m : MatchStructs T U p structs) where
  -- the wanted struct has one field of the name
  one_named : {name : List ℕ} {t u : TypeId} → HasFieldNamed structs.wanted.now name t
      → HasFieldNamed structs.wanted.now name u → t ≡ u
  one_named f g =
      let same = one_number m.distinct f.there g.there (f.named ∙ sym g.named) in
      let is : f.field ≡ g.field =
      some_injective (sym f.there ∙ ap (slice_get structs.wanted.now) same ∙ g.there) in
      sym f.typed ∙ ap (λ (x : Field). x.id) is ∙ g.typed

  pub match_field : (number : ℕ) {field : Field} {u : TypeId} → slice_get structs.stream.now number ≡ Some field
      → HasFieldNamed structs.wanted.now field.name u → Match T U field.id u
  match_field number {field = field} {u = u} there named =
      match_named (step.Named field.name) m.match (record {
        stream = m.stream;
        wanted = m.wanted;
        shapes = m.shapes;
        named = subst (λ (k : Kind). NamesPair k m.wanted.kind (step.Named field.name) (of_types field.id u))
            (sym m.stream_is)
            (subst (λ (k : Kind). NamesPair _ k (step.Named field.name) (of_types field.id u)) (sym m.wanted_is)
            (field_of_two_structs (record { number = number; field = field; there = there; named = refl; typed = refl })
            named));
      })

  -- where the struct has no such field
  pub no_field : {met : Met} (number : ℕ) (v : Tree) → slice_get structs.stream.now number ≡ None
      → Meets met met (FieldLeaves T U p structs.stream.now structs.wanted.now number v)
  no_field number v none = meets_none (λ path x l. by l)
    where
      by : {path : List TypeStep} {x : UnwantedField}
          → FieldLeaves T U p structs.stream.now structs.wanted.now number v path x → ⊥
      by (whole there unwanted) = none-some _ (sym none ∙ there)
      by (part there named leaves) = none-some _ (sym none ∙ there)

  -- a field whose name the wanted struct lacks
  pub whole_met : {old new : Met} {trail : List TypeStep} {field : Field} (number : ℕ) (v : Tree)
      → slice_get structs.stream.now number ≡ Some field
      → ¬ HasName structs.wanted.now field.name → trail ≡ old.trail.items → new.trail.items ≡ old.trail.items
      → Notes old.fields new.fields
      (IsAlone (record { pair = p; number = number }) (trail ++ step.Named field.name ∷ []))
      → Meets old new (FieldLeaves T U p structs.stream.now structs.wanted.now number v)
  whole_met {old = old} {trail = trail} {field = field} number v there unwanted is same n = meets_noted same n
      (λ path x e. record {
        rest = step.Named field.name ∷ [];
        whole = e.1 ∙ ap (λ (t : List TypeStep). t ++ step.Named field.name ∷ []) is;
        holds = subst (λ (x : UnwantedField). FieldLeaves T U p structs.stream.now structs.wanted.now number v
            (step.Named field.name ∷ []) x) (sym e.0) (whole there unwanted);
      })
      (λ path x b. back b.whole b.holds)
    where
      back : {path rest : List TypeStep} {x : UnwantedField} → path ≡ old.trail.items ++ rest
          → FieldLeaves T U p structs.stream.now structs.wanted.now number v rest x
          → IsAlone (record { pair = p; number = number }) (trail ++ step.Named field.name ∷ []) path x
      back e (whole {field = other} at lacks) =
          let one : other ≡ field = some_injective (sym at ∙ there) in (
            refl,
            e ∙ ap (λ (t : List TypeStep). t ++ step.Named other.name ∷ []) (sym is)
                ∙ ap (λ (f : Field). trail ++ step.Named f.name ∷ []) one,
          )
      back e (part {field = other} {u = u} at named leaves) =
          let one : other ≡ field = some_injective (sym at ∙ there) in
          absurd (unwanted (record {
            number = named.number;
            field = named.field;
            there = named.there;
            named = named.named ∙ ap (λ (f : Field). f.name) one;
          }))

  -- the value of one whose name it has
  pub part_met : {old new : Met} {field : Field} {u : TypeId} (number : ℕ) (v : Tree)
      → slice_get structs.stream.now number ≡ Some field → HasFieldNamed structs.wanted.now field.name u
      → Meets old new (StepLeaves T U (step.Named field.name) (of_types field.id u) v)
      → Meets old new (FieldLeaves T U p structs.stream.now structs.wanted.now number v)
  part_met {field = field} {u = u} number v there named m = meets_as m (λ path x l. part there named l)
      (λ path x l. back l)
    where
      back : {path : List TypeStep} {x : UnwantedField}
          → FieldLeaves T U p structs.stream.now structs.wanted.now number v path x
          → StepLeaves T U (step.Named field.name) (of_types field.id u) v path x
      back (whole {field = other} at lacks) =
          let one : field ≡ other = some_injective (sym there ∙ at) in
          absurd (lacks (record {
            number = named.number;
            field = named.field;
            there = named.there;
            named = named.named ∙ ap (λ (f : Field). f.name) one;
          }))
      back {path = path} {x = x} (part {field = other} {u = w} at called leaves) =
          let one : other ≡ field = some_injective (sym at ∙ there) in
          let here = subst (λ (f : Field). HasFieldNamed structs.wanted.now f.name w) one called in
          let same : w ≡ u = one_named here named in
          subst (λ (z : TypeId). StepLeaves T U (step.Named field.name) (of_types field.id z) v path x) same
          (subst (λ (f : Field). StepLeaves T U (step.Named f.name) (of_types f.id w) v path x) one leaves)

  -- a value without parts
  pub leaf_met : {met : Met} {field : Field} {u : TypeId} (number : ℕ) (v : Tree)
      → slice_get structs.stream.now number ≡ Some field → HasFieldNamed structs.wanted.now field.name u → ¬ HasParts v
      → Meets met met (FieldLeaves T U p structs.stream.now structs.wanted.now number v)
  leaf_met {field = field} number v there named leaf = meets_none (λ path x l. by l)
    where
      by : {path : List TypeStep} {x : UnwantedField}
          → FieldLeaves T U p structs.stream.now structs.wanted.now number v path x → ⊥
      by (whole {field = other} at lacks) =
          let one : field ≡ other = some_injective (sym there ∙ at) in
          lacks (record {
            number = named.number;
            field = named.field;
            there = named.there;
            named = named.named ∙ ap (λ (f : Field). f.name) one;
          })
      by (part at called leaves) = no_leaf leaf leaves.holds
