-- Steps of receiving a value.
use Rattle.std.proofs.Common.{◌≡◌, ℕ, zero, suc, ◌+◌, ◌≤◌, List, [], ◌∷◌, Some, Vec, arith, refl, sym, ap, ◌∙◌, subst}
use Rattle.std.proofs.Common.{true≢false, is_some, inl, inr}
use Rattle.std.specs.Global.{Global}
use Rattle.std.specs.Prelude.{slice_get, Result, Ok, Err, IfOk}
use Rattle.gob_num.specs.declared.memory.Memory.{Memory}
use Rattle.gob_types.specs.declared.id.TypeId.{TypeId}
use Rattle.gob_types.specs.declared.kind.Field.{Field}
use Rattle.gob_types.specs.declared.kind.Kind.{Kind}
use Rattle.gob_types.specs.declared.kind.Shape.{Shape}
use Rattle.gob_types.specs.Table.{Table}
use Rattle.gob_types.proofs.PublicLaws.{some_injective}
use Rattle.gob_value.specs.declared.value.Value.{Value, Many, Pairs as ValuePairs, Fields as ValueFields}
use Rattle.gob_value.specs.Fits.{Fits, FitsKind}
use Rattle.gob_value.specs.Spelling.{Spells, of_type, SpellsAs, of_bool, of_int, of_uint, of_float, of_complex, of_nil}
use Rattle.gob_value.specs.Spelling.{of_bytes, of_text, of_opaque, of_slice, of_array, of_map, of_struct, SpellsEach}
use Rattle.gob_value.specs.Spelling.{SpellsPairs, SpellsFields, next_field}
use Rattle.gob_value.specs.Spelling as spelling
use Rattle.gob_value.specs.TidyLaws.{HasSmallNumbers}
use Rattle.gob_value.specs.Tree.{Tree, Trees, tree, Pairs, pair, Fields, field, depth, trees_depth, pairs_depth}
use Rattle.gob_value.specs.Tree.{fields_depth}
use Rattle.gob_value.specs.Tree as Value
use Rattle.gob_value.specs.View.{view, views, pair_views, field_views}
use Rattle.gob_value.specs.Written.{HasParts}
use Rattle.gob_value.proofs.PublicLaws.{IsNoList, IsNoMap, IsNoStruct, no_numbers, view-Many, view-Pairs, view-Fields}
use Rattle.gob_match.specs.declared.common.CommonField.{CommonField}
use Rattle.gob_match.specs.declared.conversion.Conversion.{Conversion}
use Rattle.gob_match.specs.declared.conversion.Conversion.TheVariants as conversion
use Rattle.gob_match.specs.declared.pair.TypePair.{TypePair}
use Rattle.gob_match.specs.declared.step.TypeStep.{TypeStep}
use Rattle.gob_match.specs.declared.step.TypeStep.TheVariants as step
use Rattle.gob_match.specs.Machine.Conversions.{IsConversion, ConversionNames}
use Rattle.gob_match.specs.Machine.Conversions as kept
use Rattle.gob_match.specs.Machine.Exploring.{ConvertsAt}
use Rattle.gob_match.specs.Machine.Receiving.{IsReceived, AreElementsReceived, PairsReceived, FieldsReceived, no_more}
use Rattle.gob_match.specs.Machine.Receiving.{absent}
use Rattle.gob_match.specs.Machine.Receiving.{present, IsOfMatch, IsReceivable, AreReceivable, PairsReceivable}
use Rattle.gob_match.specs.Machine.Receiving.{FieldsReceivable, HaveRisingNumbers}
use Rattle.gob_match.specs.Machine.Search.{Entry}
use Rattle.gob_match.specs.Machine.Struct.{AreCommonFields}
use Rattle.gob_match.specs.Machine.Struct as struct
use Rattle.gob_match.specs.Matching.{KindsMatch, basics, opaques, arrays, slices, maps, structs}
use Rattle.gob_match.specs.Pairs.{RepeatsName}
use Rattle.gob_match.specs.Received.{IsPresent, first, later, IsAbsent, HasPresent, Receives, ReceivesAs}
use Rattle.gob_match.specs.Received.{ReceivesFields}
use Rattle.gob_match.specs.Received as relation
use Rattle.gob_match.proofs.ConversionLaws.{common_sound, conversion_named, one_number}

-- ---- what stands in a value that fits

pub each_fits : {T : Table} {e : TypeId} (vs : List Value) (k : ℕ) {v : Value} {b : List ℕ}
    → SpellsEach T e (views vs) b → slice_get vs k ≡ Some v → Fits T e (view v)
each_fits [] k s there = absurd (true≢false (sym (ap is_some there)))
each_fits {T = T} {e = e} (x ∷ xs) zero s there = subst (λ (v : Value). Fits T e (view v)) (some_injective there)
    (prefix s)
  where
    prefix : {T : Table} {e : TypeId} {v : Tree} {vs : Trees} {b : List ℕ} → SpellsEach T e (tree v vs) b → Fits T e v
    prefix (spelling.element {b = b} p ps) = record { bytes = b; spelled = p }
each_fits {T = T} {e = e} (x ∷ xs) (suc k) s there = let r = behind s in each_fits xs k r.1 there
  where
    behind : {T : Table} {e : TypeId} {v : Tree} {vs : Trees} {b : List ℕ} → SpellsEach T e (tree v vs) b → (c : List ℕ)
        × SpellsEach T e vs c
    behind (spelling.element {c = c} p ps) = (c, ps)

pub each_shallow : (vs : List Value) (k : ℕ) {v : Value} → slice_get vs k ≡ Some v
    → depth (view v) ≤ trees_depth (views vs)
each_shallow [] k there = absurd (true≢false (sym (ap is_some there)))
each_shallow (x ∷ xs) zero there = let e = ap (λ (v : Value). depth (view v)) (some_injective there) in omega arith
each_shallow (x ∷ xs) (suc k) there = let h = each_shallow xs k there in omega arith

pub pair_fits : {T : Table} {k e : TypeId} (ps : List (Value × Value)) (i : ℕ) {p : Value × Value} {b : List ℕ}
    → SpellsPairs T k e (pair_views ps) b → slice_get ps i ≡ Some p → Fits T k (view p.0) × Fits T e (view p.1)
pair_fits [] i s there = absurd (true≢false (sym (ap is_some there)))
pair_fits {T = T} {k = k} {e = e} (x ∷ xs) zero s there = subst
    (λ (p : Value × Value). Fits T k (view p.0) × Fits T e (view p.1)) (some_injective there) (prefix s)
  where
    prefix : {T : Table} {k e : TypeId} {x v : Tree} {ps : Pairs} {b : List ℕ} → SpellsPairs T k e (pair x v ps) b
        → Fits T k x × Fits T e v
    prefix (spelling.entry {a = a} {b = b} o p ps) =
        (record { bytes = a; spelled = o }, record { bytes = b; spelled = p })
pair_fits (x ∷ xs) (suc i) s there = let r = behind s in pair_fits xs i r.1 there
  where
    behind : {T : Table} {k e : TypeId} {x v : Tree} {ps : Pairs} {b : List ℕ} → SpellsPairs T k e (pair x v ps) b
        → (c : List ℕ) × SpellsPairs T k e ps c
    behind (spelling.entry {c = c} o p ps) = (c, ps)

pub pair_shallow : (ps : List (Value × Value)) (i : ℕ) {p : Value × Value} → slice_get ps i ≡ Some p
    → (depth (view p.0) ≤ pairs_depth (pair_views ps)) × (depth (view p.1) ≤ pairs_depth (pair_views ps))
pair_shallow [] i there = absurd (true≢false (sym (ap is_some there)))
pair_shallow (x ∷ xs) zero there =
    let k = ap (λ (p : Value × Value). depth (view p.0)) (some_injective there) in
    let e = ap (λ (p : Value × Value). depth (view p.1)) (some_injective there) in (omega arith, omega arith)
pair_shallow (x ∷ xs) (suc i) there = let h = pair_shallow xs i there in (omega arith, omega arith)

pub present_fits : {T : Table} {types : List Field} {next f : ℕ} {e : Field} {fs : Fields} {v : Tree} {b : List ℕ}
    → SpellsFields T types next fs b → IsPresent f v fs → slice_get types f ≡ Some e → Fits T e.id v
present_fits {T = T} {v = v} (next_field {b = b} l at a p ps) first there = subst (λ (e : Field). Fits T e.id v)
    (some_injective (sym at ∙ there)) (record { bytes = b; spelled = p })
present_fits (next_field l at a p ps) (later h) there = present_fits ps h there
present_fits (spelling.end_of_fields e) h there = elim h [ ]

-- the first field has at least the number that is next, and those behind it have greater ones
fields_prefix : {T : Table} {types : List Field} {next f : ℕ} {v : Tree} {fs : Fields} {b : List ℕ}
    → SpellsFields T types next (field f v fs) b → (next ≤ f) × (c : List ℕ) × SpellsFields T types (f + 1) fs c
fields_prefix (next_field {c = c} l at a p ps) = (l, c, ps)

-- the numbers of the present fields rise
at_least : {T : Table} {types : List Field} (ps : List (ℕ × Value)) (j : ℕ) {next : ℕ} {q : ℕ × Value} {b : List ℕ}
    → SpellsFields T types next (field_views ps) b → slice_get ps j ≡ Some q → next ≤ q.0
at_least [] j s there = absurd (true≢false (sym (ap is_some there)))
at_least (x ∷ xs) zero s there = let e = ap (λ (p : ℕ × Value). p.0) (some_injective there) in let l =
    (fields_prefix s).0 in omega arith
at_least (x ∷ xs) (suc j) s there = let r = fields_prefix s in let h = at_least xs j r.2 there in let l = r.0 in omega
    arith

pub rising : {T : Table} {types : List Field} (ps : List (ℕ × Value)) {next : ℕ} {b : List ℕ}
    → SpellsFields T types next (field_views ps) b → HaveRisingNumbers ps
rising [] s i j p q below one other = absurd (true≢false (sym (ap is_some one)))
rising (x ∷ xs) s zero zero p q below one other = absurd (omega arith)
rising (x ∷ xs) s (suc i) zero p q below one other = absurd (omega arith)
rising (x ∷ xs) s zero (suc j) p q below one other = let h = at_least xs j (fields_prefix s).2 other in let e = ap
    (λ (p : ℕ × Value). p.0) (some_injective one) in omega arith
rising (x ∷ xs) s (suc i) (suc j) p q below one other = rising xs (fields_prefix s).2 i j p q (omega arith) one other

-- ---- the pairs that a conversion leads to

module _ {T U : Table} {found : List Entry} {conversions : List Conversion} where
  pub leads_on : {p q : TypePair} {w : Conversion} (s : TypeStep) → IsOfMatch T U found conversions p
      → ConvertsAt T U p w
      → ConversionNames w s q → IsOfMatch T U found conversions q
  leads_on {p = p} {q = q} s m c n =
      let r = m.matched.named m.place p q s m.at (record
      { stream = c.stream; wanted = c.wanted; shapes = c.shapes; named = conversion_named c.converts.conversion n })
      in
      record { stream = m.stream; wanted = m.wanted; matched = m.matched; place = r.0; at = r.1 }

-- a value of the type has a spelling at the type's kind
spelled_at : {T U : Table} {p : TypePair} {w : Conversion} {v : Tree} (c : ConvertsAt T U p w) → Fits T p.stream v
    → FitsKind T c.stream.kind v
spelled_at {T = T} {p = p} {v = v} c f = by f.spelled
  where
    by : {b : List ℕ} → Spells T p.stream v b → FitsKind T c.stream.kind v
    by {b = b} (of_type e h) = record {
      bytes = b;
      spelled = subst (λ (s : Shape). SpellsAs T s.kind v b)
          (some_injective (sym e ∙ c.shapes.stream)) h;
    }

as_received : {T U : Table} {p : TypePair} {w : Conversion} {v x : Tree} (c : ConvertsAt T U p w)
    → ReceivesAs T U c.stream.kind c.wanted.kind v x → HasSmallNumbers x → IsReceived T U p v x
as_received c r small = record { receives = relation.of_types c.shapes.stream c.shapes.wanted r; small = small }

-- ---- values without parts

stays : {T U : Table} {k l : Kind} {v : Tree} {b : List ℕ} → KindsMatch k l → IsConversion k l conversion.Unchanged
    → SpellsAs T k v b → ReceivesAs T U k l v v × ¬ HasParts v
stays basics kept.of_basics (of_bool h) = (relation.of_basics, λ h. h)
stays basics kept.of_basics _ = (relation.of_basics, λ h. h)
stays opaques kept.of_opaques (of_opaque h) = (relation.of_opaques, λ h. h)
stays _ w h = elim w [ ]

leaf_at : {T U : Table} {p : TypePair} {v : Tree} → ConvertsAt T U p conversion.Unchanged → Fits T p.stream v
    → ¬ HasParts v
leaf_at {T = T} {U = U} c f = (stays {T = T} {U = U} c.converts.match c.converts.conversion (spelled_at c f).spelled).1

pub leaf_received : {T U : Table} {p : TypePair} {v w : Tree} → ConvertsAt T U p conversion.Unchanged
    → Fits T p.stream v → w ≡ v → IsReceived T U p v w
leaf_received {T = T} {U = U} {p = p} {v = v} c f same =
    let r = stays {T = T} {U = U} c.converts.match c.converts.conversion (spelled_at c f).spelled in
    subst (IsReceived T U p v) (sym same) (as_received c r.0 (no_numbers v r.1))

module _ {T U : Table} {p : TypePair} {w : Conversion} (is : w ≡ conversion.Unchanged) (c : ConvertsAt T U p w) where
  pub is_leaf : {v : Tree} → Fits T p.stream v → ¬ HasParts v
  is_leaf = leaf_at (subst (ConvertsAt T U p) is c)

  pub copy_received : {v : Tree} (r : Result Value Memory) → Fits T p.stream v → IfOk r (λ x. view x ≡ v)
      → IfOk r (λ x. IsReceived T U p v (view x))
  copy_received (Ok x) f same = leaf_received (subst (ConvertsAt T U p) is c) f same
  copy_received (Err e) f same = tt

-- ---- lists

elements_inside : {T : Table} {k l : Kind} {q : TypePair} {v : Tree} {b : List ℕ}
    → IsConversion k l (conversion.Elements q) → SpellsAs T k v b → (vs : Trees) × (v ≡ Value.many vs) × (c : List ℕ)
    × SpellsEach T q.stream vs c
elements_inside kept.of_arrays (of_array {vs = vs} {b = b} m c h) = (vs, refl, b, h)
elements_inside kept.of_slices (of_slice {vs = vs} {b = b} c h) = (vs, refl, b, h)

many_inside : {vs ws : Trees} → Value.many vs ≡ Value.many ws → vs ≡ ws
many_inside e = cc

has_list : {T U : Table} {p q : TypePair} {v : Tree} → ConvertsAt T U p (conversion.Elements q) → Fits T p.stream v
    → ¬ IsNoList v
has_list c f n = let r = elements_inside c.converts.conversion (spelled_at c f).spelled in subst IsNoList r.1 n

elements_receivable : {T U : Table} {found : List Entry} {conversions : List Conversion} {p q : TypePair} {vs : Trees}
    → ConvertsAt T U p (conversion.Elements q) → IsReceivable T U found conversions p (Value.many vs)
    → AreReceivable T U found conversions q vs
elements_receivable {T = T} {q = q} c r =
    let i = elements_inside c.converts.conversion (spelled_at c r.fits).spelled in
    record {
      pair = leads_on step.Element r.pair c (refl, refl);
      bytes = i.2;
      spelled = subst
          (λ (l : Trees). SpellsEach T q.stream l i.2) (sym (many_inside i.1)) i.3;
    }

elements_as : {T U : Table} {k l : Kind} {q : TypePair} {vs ws : Trees} → KindsMatch k l
    → IsConversion k l (conversion.Elements q) → relation.ReceivesEach T U q.stream q.wanted vs ws
    → ReceivesAs T U k l (Value.many vs) (Value.many ws)
elements_as arrays kept.of_arrays r = relation.of_arrays r
elements_as slices kept.of_slices r = relation.of_slices r
elements_as _ w r = elim w [ ]

pub elements_received : {T U : Table} {p q : TypePair} {vs ws : Trees} → ConvertsAt T U p (conversion.Elements q)
    → AreElementsReceived T U q vs ws → IsReceived T U p (Value.many vs) (Value.many ws)
elements_received c r = as_received c (elements_as c.converts.match c.converts.conversion r.receives) r.small

module _ {T U : Table} {p q : TypePair} {w : Conversion} (is : w ≡ conversion.Elements q) (c : ConvertsAt T U p w) where
  elements_at : ConvertsAt T U p (conversion.Elements q)
  elements_at = subst (ConvertsAt T U p) is c

  pub is_list : {v : Tree} → Fits T p.stream v → ¬ IsNoList v
  is_list = has_list elements_at

  pub list_receivable : {found : List Entry} {conversions : List Conversion} {v : Value} {items : List Value}
      (parts : Vec Value Global) → v ≡ Many parts → items ≡ parts.items → IsReceivable T U found conversions p (view v)
      → AreReceivable T U found conversions q (views items)
  list_receivable {found = found} {conversions = conversions} parts e f r =
      subst (λ (l : List Value). AreReceivable T U found conversions q (views l)) (sym f)
      (elements_receivable elements_at (subst (IsReceivable T U found conversions p) (ap view e ∙ view-Many parts)
      r))

  pub list_received : {v : Value} {items : List Value} (parts made : Vec Value Global) → v ≡ Many parts
      → items ≡ parts.items → AreElementsReceived T U q (views items) (views made.items)
      → IsReceived T U p (view v) (view (Many made))
  list_received parts made e f r =
      subst (IsReceived T U p (view _)) (sym (view-Many made))
      (subst (λ v. IsReceived T U p v (Value.many (views made.items)))
      (sym (ap view e ∙ view-Many parts ∙ ap (λ (l : List Value). Value.many (views l)) (sym f)))
      (elements_received elements_at r))

pub list_depth : {v : Value} {items : List Value} (parts : Vec Value Global) → v ≡ Many parts → items ≡ parts.items
    → depth (view v) ≡ trees_depth (views items) + 1
list_depth parts e f = ap depth (ap view e ∙ view-Many parts ∙ ap (λ (l : List Value). Value.many (views l)) (sym f))

-- ---- maps

entries_inside : {T : Table} {k l : Kind} {x e : TypePair} {v : Tree} {b : List ℕ}
    → IsConversion k l (conversion.Entries x e) → SpellsAs T k v b → (ps : Pairs) × (v ≡ Value.pairs ps) × (c : List ℕ)
    × SpellsPairs T x.stream e.stream ps c
entries_inside kept.of_maps (of_map {ps = ps} {b = b} c h) = (ps, refl, b, h)

pairs_inside : {ps qs : Pairs} → Value.pairs ps ≡ Value.pairs qs → ps ≡ qs
pairs_inside e = cc

has_map : {T U : Table} {p x e : TypePair} {v : Tree} → ConvertsAt T U p (conversion.Entries x e) → Fits T p.stream v
    → ¬ IsNoMap v
has_map c f n = let r = entries_inside c.converts.conversion (spelled_at c f).spelled in subst IsNoMap r.1 n

entries_receivable : {T U : Table} {found : List Entry} {conversions : List Conversion} {p x e : TypePair} {ps : Pairs}
    → ConvertsAt T U p (conversion.Entries x e) → IsReceivable T U found conversions p (Value.pairs ps)
    → PairsReceivable T U found conversions x e ps
entries_receivable {T = T} {x = x} {e = e} c r =
    let i = entries_inside c.converts.conversion (spelled_at c r.fits).spelled in record {
      key = leads_on step.Key r.pair c (inl (refl, refl));
      elem = leads_on step.Element r.pair c (inr (refl, refl));
      bytes = i.2;
      spelled = subst (λ (l : Pairs). SpellsPairs T x.stream e.stream l i.2) (sym (pairs_inside i.1)) i.3;
    }

entries_as : {T U : Table} {k l : Kind} {x e : TypePair} {ps qs : Pairs} → KindsMatch k l
    → IsConversion k l (conversion.Entries x e) → relation.ReceivesPairs T U x.stream x.wanted e.stream e.wanted ps qs
    → ReceivesAs T U k l (Value.pairs ps) (Value.pairs qs)
entries_as maps kept.of_maps r = relation.of_maps r
entries_as _ w r = elim w [ ]

pub entries_received : {T U : Table} {p x e : TypePair} {ps qs : Pairs} → ConvertsAt T U p (conversion.Entries x e)
    → PairsReceived T U x e ps qs → IsReceived T U p (Value.pairs ps) (Value.pairs qs)
entries_received c r = as_received c (entries_as c.converts.match c.converts.conversion r.receives) r.small

module _ {T U : Table} {p x y : TypePair} {w : Conversion} (is : w ≡ conversion.Entries x y) (c : ConvertsAt T U p w)
  where
    entries_at : ConvertsAt T U p (conversion.Entries x y)
    entries_at = subst (ConvertsAt T U p) is c

    pub is_map : {v : Tree} → Fits T p.stream v → ¬ IsNoMap v
    is_map = has_map entries_at

    pub map_receivable : {found : List Entry} {conversions : List Conversion} {v : Value} {items : List (Value × Value)}
        (parts : Vec (Value × Value) Global) → v ≡ ValuePairs parts → items ≡ parts.items
        → IsReceivable T U found conversions p (view v) → PairsReceivable T U found conversions x y (pair_views items)
    map_receivable {found = found} {conversions = conversions} parts e f r =
        subst (λ (l : List (Value × Value)). PairsReceivable T U found conversions x y (pair_views l)) (sym f)
        (entries_receivable entries_at (subst (IsReceivable T U found conversions p) (ap view e ∙ view-Pairs parts)
        r))

    pub map_received : {v : Value} {items : List (Value × Value)} (parts made : Vec (Value × Value) Global)
        → v ≡ ValuePairs parts → items ≡ parts.items
        → PairsReceived T U x y (pair_views items) (pair_views made.items)
        → IsReceived T U p (view v) (view (ValuePairs made))
    map_received parts made e f r =
        subst (IsReceived T U p (view _)) (sym (view-Pairs made))
        (subst (λ v. IsReceived T U p v (Value.pairs (pair_views made.items)))
        (sym (ap view e ∙ view-Pairs parts ∙ ap (λ (l : List (Value × Value)). Value.pairs (pair_views l)) (sym f)))
        (entries_received entries_at r))

pub map_depth : {v : Value} {items : List (Value × Value)} (parts : Vec (Value × Value) Global) → v ≡ ValuePairs parts
    → items ≡ parts.items → depth (view v) ≡ pairs_depth (pair_views items) + 1
map_depth parts e f = ap depth (ap view e ∙ view-Pairs parts ∙ ap
    (λ (l : List (Value × Value)). Value.pairs (pair_views l)) (sym f))

-- ---- structs

fields_inside : {T : Table} {k l : Kind} {cs : Vec CommonField Global} {v : Tree} {b : List ℕ}
    → IsConversion k l (conversion.Fields cs) → SpellsAs T k v b
    → (types : List Field) × (wanted : List Field) × (fs : Fields) × (v ≡ Value.fields fs)
    × AreCommonFields types 0 wanted cs.items × (c : List ℕ) × SpellsFields T types 0 fs c
fields_inside (kept.of_structs {fs = types} {gs = wanted} a) (of_struct {fs = fs} {b = b} h) =
    (types, wanted, fs, refl, a, b, h)

same_fields : {fs gs : Fields} → Value.fields fs ≡ Value.fields gs → fs ≡ gs
same_fields e = cc

has_struct : {T U : Table} {p : TypePair} {cs : Vec CommonField Global} {v : Tree}
    → ConvertsAt T U p (conversion.Fields cs) → Fits T p.stream v → ¬ IsNoStruct v
has_struct c f n = let r = fields_inside c.converts.conversion (spelled_at c f).spelled in subst IsNoStruct r.3 n

fields_receivable : {T U : Table} {found : List Entry} {conversions : List Conversion} {p : TypePair}
    {cs : Vec CommonField Global} {fs : Fields} → ConvertsAt T U p (conversion.Fields cs)
    → IsReceivable T U found conversions p (Value.fields fs) → FieldsReceivable T U found conversions cs.items fs
fields_receivable {T = T} {cs = cs} c r =
    let i = fields_inside c.converts.conversion (spelled_at c r.fits).spelled in record {
      types = i.0;
      each = λ k f there.
          let s = common_sound i.4 k f there in record {
            pair = leads_on (step.Named f.name) r.pair c
                (record { place = k; field = f; there = there; step = refl; pair = refl });
            type = s.in_stream;
            there = s.there;
            typed = ap (λ (p : TypePair). p.stream) (sym s.typed);
            small = s.small;
          };
      bytes = i.5;
      spelled = subst (λ (l : Fields). SpellsFields T i.0 0 l i.5) (sym (same_fields i.3)) i.6;
    }

-- a field of the name has the number of the common field
absent_by_name : {types : List Field} {fs : Fields} {j : ℕ} {f : Field} {name : List ℕ} → ¬ RepeatsName types
    → slice_get types j ≡ Some f → f.name ≡ name → IsAbsent j fs → (t : TypeId) (v : Tree)
    → ¬ HasPresent types fs name t v
absent_by_name {fs = fs} d there named none t v h = none v
    (subst (λ n. IsPresent n v fs) (one_number d h.there there (h.named ∙ sym named)) h.present)

-- what is received of the common fields is received of the wanted ones
by_name : {T U : Table} {types : List Field} {fs : Fields} {n : ℕ} {wanted : List Field} {cs : List CommonField}
    → ¬ RepeatsName types → AreCommonFields types n wanted cs → {gs : Fields} → FieldsReceived T U fs cs gs
    → ReceivesFields T U types fs n wanted gs
by_name d struct.no_more no_more = relation.no_more
by_name d (struct.missing m rest) r =
    relation.absent (λ t v h. m (record { number = h.number; field = h.type; there = h.there; named = h.named }))
    (by_name d rest r)
by_name d (struct.common there same small rest) (absent none r) = relation.absent (absent_by_name d there same none)
    (by_name d rest r)
by_name d (struct.common {j = j} {f = f} there same small rest) (present h low p r) =
    relation.received (record { number = j; type = f; there = there; named = same; typed = refl; present = h })
    p.receives (by_name d rest r)

numbers_small : {T U : Table} {fs gs : Fields} {cs : List CommonField} → FieldsReceived T U fs cs gs
    → HasSmallNumbers (Value.fields gs)
numbers_small no_more = tt
numbers_small (absent none r) = numbers_small r
numbers_small (present h low p r) = (low, p.small, numbers_small r)

fields_as : {T U : Table} {k l : Kind} {cs : Vec CommonField Global} {fs gs : Fields} → KindsMatch k l
    → IsConversion k l (conversion.Fields cs) → FieldsReceived T U fs cs.items gs
    → ReceivesAs T U k l (Value.fields fs) (Value.fields gs)
fields_as (structs d h) (kept.of_structs a) r = relation.of_structs (by_name d.in_stream a r)
fields_as _ w r = elim w [ ]

pub fields_received : {T U : Table} {p : TypePair} {cs : Vec CommonField Global} {fs gs : Fields}
    → ConvertsAt T U p (conversion.Fields cs) → FieldsReceived T U fs cs.items gs
    → IsReceived T U p (Value.fields fs) (Value.fields gs)
fields_received c r = as_received c (fields_as c.converts.match c.converts.conversion r) (numbers_small r)

module _ {T U : Table} {p : TypePair} {cs : Vec CommonField Global} {w : Conversion} (is : w ≡ conversion.Fields cs)
    (c : ConvertsAt T U p w) where
  fields_at : ConvertsAt T U p (conversion.Fields cs)
  fields_at = subst (ConvertsAt T U p) is c

  pub is_struct : {v : Tree} → Fits T p.stream v → ¬ IsNoStruct v
  is_struct = has_struct fields_at

  pub struct_receivable : {found : List Entry} {conversions : List Conversion} {v : Value} {items : List (ℕ × Value)}
      {common : List CommonField} (parts : Vec (ℕ × Value) Global) → v ≡ ValueFields parts → items ≡ parts.items
      → common ≡ cs.items → IsReceivable T U found conversions p (view v)
      → FieldsReceivable T U found conversions common (field_views items)
  struct_receivable {found = found} {conversions = conversions} {items = items} parts e f same r =
      subst (λ l. FieldsReceivable T U found conversions l (field_views items)) (sym same)
      (subst (λ (l : List (ℕ × Value)). FieldsReceivable T U found conversions cs.items (field_views l)) (sym f)
      (fields_receivable fields_at (subst (IsReceivable T U found conversions p) (ap view e ∙ view-Fields parts)
      r)))

  pub struct_received : {v : Value} {items : List (ℕ × Value)} {common : List CommonField}
      (parts made : Vec (ℕ × Value) Global) → v ≡ ValueFields parts → items ≡ parts.items → common ≡ cs.items
      → FieldsReceived T U (field_views items) common (field_views made.items)
      → IsReceived T U p (view v) (view (ValueFields made))
  struct_received {items = items} parts made e f same r =
      subst (IsReceived T U p (view _)) (sym (view-Fields made))
      (subst (λ v. IsReceived T U p v (Value.fields (field_views made.items)))
      (sym (ap view e ∙ view-Fields parts ∙ ap (λ (l : List (ℕ × Value)). Value.fields (field_views l)) (sym f)))
      (fields_received fields_at (subst (λ l. FieldsReceived T U (field_views items) l (field_views made.items)) same
      r)))

pub struct_depth : {v : Value} {items : List (ℕ × Value)} (parts : Vec (ℕ × Value) Global) → v ≡ ValueFields parts
    → items ≡ parts.items → depth (view v) ≡ fields_depth (field_views items) + 1
struct_depth parts e f = ap depth (ap view e ∙ view-Fields parts ∙ ap
    (λ (l : List (ℕ × Value)). Value.fields (field_views l)) (sym f))
