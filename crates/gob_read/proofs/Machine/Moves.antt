-- How the place moves: each step of a reader, in the words of the grammar.
use Rattle.std.proofs.Common.{◌≡◌, ℕ, suc, ◌+◌, ◌-◌, ◌≤◌, List, [], ◌∷◌, ◌++◌, Some, arith, refl, sym, ap, ◌∙◌, subst}
use Rattle.std.proofs.Common.{append_assoc}
use Rattle.std.specs.Prelude.{slice_get}
use Rattle.gob_num.specs.Unsigned.{IsUnsigned}
use Rattle.gob_types.specs.declared.id.TypeId.{TypeId}
use Rattle.gob_types.specs.declared.kind.Field.{Field}
use Rattle.gob_types.specs.declared.kind.Kind.{Kind}
use Rattle.gob_types.specs.declared.kind.Kind.TheVariants as kind
use Rattle.gob_types.specs.Table.{Table}
use Rattle.gob_value.specs.Tree.{Tree, Trees, no_tree, tree, Pairs, no_pair, pair, Fields, no_field, tree_count}
use Rattle.gob_value.specs.Tree.{pair_count}
use Rattle.gob_value.specs.Tree as Value
use Rattle.gob_value.specs.Spelling.{Spells, of_slice, of_array, of_map, of_struct, SpellsEach, no_element, element}
use Rattle.gob_value.specs.Spelling.{SpellsPairs, no_entry, entry, SpellsFields, end_of_fields, next_field}
use Rattle.gob_value.specs.Top.{SpellsTop, at_once as top_at_once, tagged}
use Rattle.gob_read.specs.declared.event.GroupKind.TheVariants as group
use Rattle.gob_read.specs.declared.frame.Frame.{Frame}
use Rattle.gob_read.specs.declared.frame.Frame.TheVariants as frame
use Rattle.gob_read.specs.declared.next.Next.TheVariants.{Number}
use Rattle.gob_read.specs.declared.next.NextNumber.TheVariants.{Delta}
use Rattle.gob_read.specs.Event.{Event, enter, field, leave, HasEvents, tell_many, tell_pairs, tell_fields, HaveEvents}
use Rattle.gob_read.specs.Event.{tell_none, tell_each, PairsHaveEvents, tell_no_pair, tell_pair, FieldsHaveEvents}
use Rattle.gob_read.specs.Event.{tell_no_field, tell_field}
use Rattle.gob_read.specs.Machine.Frames.{IsOver, last_element, last_pair, FrameGoesOn, to_element, to_value, to_key}
use Rattle.gob_read.specs.Machine.Frames.{to_delta, item_of}
use Rattle.gob_read.specs.Machine.Kinds.{HasKind, IsList, is_slice, is_array}
use Rattle.gob_read.specs.Machine.OpenPath.{EachTold, none_told, one_told, PairsTold, no_pair_told, pair_told}
use Rattle.gob_read.specs.Machine.OpenPath.{FieldsTold, no_field_told, field_told, OpenPath, at_once, behind_tag}
use Rattle.gob_read.specs.Machine.OpenPath.{in_list, at_key, at_value, in_field, OpenStruct, open_struct, AtNext}
use Rattle.gob_read.specs.Machine.OpenPath.{at_part, at_delta, PartDone}
use Rattle.gob_read.proofs.Grammar.Prefixes.{append_nil}
use Rattle.gob_read.proofs.Machine.KindLaws.{spelled_as}

pub each_spells : {T : Table} {e : TypeId} {vs : Trees} {b : List ℕ} {us : List Event} → EachTold T e vs b us
    → SpellsEach T e vs b
each_spells none_told = no_element
each_spells (one_told s t r) = element s (each_spells r)

pub each_tells : {T : Table} {e : TypeId} {vs : Trees} {b : List ℕ} {us : List Event} → EachTold T e vs b us
    → HaveEvents vs us
each_tells none_told = tell_none
each_tells (one_told s t r) = tell_each t (each_tells r)

pub pairs_spell : {T : Table} {k e : TypeId} {ps : Pairs} {b : List ℕ} {us : List Event} → PairsTold T k e ps b us
    → SpellsPairs T k e ps b
pairs_spell no_pair_told = no_entry
pairs_spell (pair_told s t p o r) = entry s p (pairs_spell r)

pub pairs_tell : {T : Table} {k e : TypeId} {ps : Pairs} {b : List ℕ} {us : List Event} → PairsTold T k e ps b us
    → PairsHaveEvents ps us
pairs_tell no_pair_told = tell_no_pair
pairs_tell (pair_told s t p o r) = tell_pair t o (pairs_tell r)

pub fields_tell : {T : Table} {types : List Field} {start next : ℕ} {fs : Fields} {b : List ℕ} {us : List Event}
    → FieldsTold T types start next fs b us → FieldsHaveEvents fs us
fields_tell no_field_told = tell_no_field
fields_tell (field_told l g n s t r) = tell_field t (fields_tell r)

-- and the 0 at the end
pub fields_spell : {T : Table} {types : List Field} {start next : ℕ} {fs : Fields} {b c : List ℕ} {us : List Event}
    → FieldsTold T types start next fs b us → IsUnsigned 0 c → SpellsFields T types start fs (b ++ c)
fields_spell no_field_told z = end_of_fields z
fields_spell {T = T} {types = types} {start = start} {fs = fs} {c = d} (field_told {f = f} {a = a} {b = b} {c = c} l g n
    s t r) z =
    subst (SpellsFields T types start fs) (sym (append_assoc a (b ++ c) d ∙ ap (λ l. a ++ l) (append_assoc b c d)))
    (next_field l g n s (fields_spell r z))

-- one more element
pub record OneMore (T : Table) (e : TypeId) (count : ℕ) (b : List ℕ) (us : List Event) : Type 0 where
  pub values : Trees
  pub told : EachTold T e values b us
  pub count_is : tree_count values ≡ count + 1

pub one_more : {T : Table} {e : TypeId} {vs : Trees} {v : Tree} {b c : List ℕ} {us ws : List Event}
    → EachTold T e vs b us → Spells T e v c → HasEvents v ws → OneMore T e (tree_count vs) (b ++ c) (us ++ ws)
one_more {T = T} {e = e} {v = v} {c = c} {ws = ws} none_told s t =
    record {
      values = tree v no_tree;
      told = subst (λ l. EachTold T e (tree v no_tree) l ws) (append_nil c)
          (subst (λ l. EachTold T e (tree v no_tree) (c ++ []) l) (append_nil ws) (one_told s t none_told));
      count_is =
          refl;
    }
one_more {T = T} {e = e} {c = d} {ws = ys} (one_told {v = w} {b = b} {c = c} {us = us} {ws = ws} q r qs) s t =
    let m = one_more qs s t in
    record {
      values = tree w m.values;
      told = subst (λ l. EachTold T e (tree w m.values) l ((us ++ ws) ++ ys)) (sym (append_assoc b c d))
          (subst (λ l. EachTold T e (tree w m.values) (b ++ (c ++ d)) l) (sym (append_assoc us ws ys))
          (one_told q r m.told));
      count_is = omega (arith, m.count_is);
    }

-- one more key with its element
pub record PairMore (T : Table) (k e : TypeId) (count : ℕ) (b : List ℕ) (us : List Event) : Type 0 where
  pub values : Pairs
  pub told : PairsTold T k e values b us
  pub count_is : pair_count values ≡ count + 1

pub pair_more : {T : Table} {k e : TypeId} {ps : Pairs} {x v : Tree} {b c d : List ℕ} {us ws ys : List Event}
    → PairsTold T k e ps b us → Spells T k x c → HasEvents x ws → Spells T e v d → HasEvents v ys
    → PairMore T k e (pair_count ps) (b ++ (c ++ d)) (us ++ (ws ++ ys))
pair_more {T = T} {k = k} {e = e} {x = x} {v = v} {c = c} {d = d} {ws = ws} {ys = ys} no_pair_told s t r o =
    record {
      values = pair x v no_pair;
      told = subst (λ l. PairsTold T k e (pair x v no_pair) (c ++ l) (ws ++ ys)) (append_nil d)
          (subst (λ l. PairsTold T k e (pair x v no_pair) (c ++ (d ++ [])) (ws ++ l)) (append_nil ys)
          (pair_told s t r o no_pair_told));
      count_is = refl;
    }
pair_more {T = T} {k = k} {e = e} {c = c} {d = d} {ws = ws} {ys = ys} (pair_told {x = x'} {v = v'} {a = a'} {b = b'}
    {c = c'} {us = us'} {ws = ws'} {xs = xs'} s' t' r' o' q) s t r o =
    let m = pair_more q s t r o in
    let by : a' ++ (b' ++ (c' ++ (c ++ d))) ≡ (a' ++ (b' ++ c')) ++ (c ++ d) = simp append_assoc in
    let us : us' ++ (ws' ++ (xs' ++ (ws ++ ys))) ≡ (us' ++ (ws' ++ xs')) ++ (ws ++ ys) = simp append_assoc in
    record {
      values = pair x' v' m.values;
      told = subst (λ l. PairsTold T k e (pair x' v' m.values) l ((us' ++ (ws' ++ xs')) ++ (ws ++ ys))) by
          (subst (λ l. PairsTold T k e (pair x' v' m.values) (a' ++ (b' ++ (c' ++ (c ++ d)))) l) us
          (pair_told s' t' r' o' m.told));
      count_is = omega (arith, m.count_is);
    }

-- one more field
pub record FieldMore (T : Table) (types : List Field) (start next : ℕ) (b : List ℕ) (us : List Event) : Type 0 where
  pub values : Fields
  pub told : FieldsTold T types start next values b us

pub field_more : {T : Table} {types : List Field} {start next f : ℕ} {e : Field} {fs : Fields} {v : Tree}
    {a b c : List ℕ} {us ws : List Event} → FieldsTold T types start next fs c us → next ≤ f
    → slice_get types f ≡ Some e → IsUnsigned (f + 1 - next) a
    → Spells T e.id v b → HasEvents v ws → FieldMore T types start (f + 1) (c ++ (a ++ b)) (us ++ field f ∷ ws)
field_more {T = T} {types = types} {start = start} {f = f} {v = v} {a = a} {b = b} {ws = ws} no_field_told l g n s t =
    record {
      values = Value.field f v no_field;
      told =
          subst (λ l. FieldsTold T types start (f + 1) (Value.field f v no_field) (a ++ l) (field f ∷ ws))
          (append_nil b)
          (subst (λ l. FieldsTold T types start (f + 1) (Value.field f v no_field) (a ++ (b ++ [])) (field f ∷ l))
          (append_nil ws) (field_told l g n s t no_field_told));
    }
field_more {T = T} {types = types} {start = start} {f = f} {a = a} {b = b} {ws = ws}
    (field_told {f = f'} {v = v'} {a = a'} {b = b'} {c = c'} {us = us'} {ws = ws'} l' g' n' s' t' r) l g n s t =
    let m = field_more r l g n s t in
    let by : a' ++ (b' ++ (c' ++ (a ++ b))) ≡ (a' ++ (b' ++ c')) ++ (a ++ b) = simp append_assoc in
    let us : field f' ∷ (us' ++ (ws' ++ field f ∷ ws)) ≡ (field f' ∷ (us' ++ ws')) ++ field f ∷ ws =
    simp append_assoc in
    record {
      values = Value.field f' v' m.values;
      told = subst (λ l. FieldsTold T types start (f + 1) (Value.field f' v' m.values) l ((field f' ∷ (us' ++ ws'))
          ++ field f ∷ ws)) by (subst (λ l. FieldsTold T types start (f + 1) (Value.field f' v' m.values) (a'
          ++ (b' ++ (c' ++ (a ++ b)))) l) us (field_told l' g' n' s' t' m.told));
    }

-- the outermost part is the value
pub record IsValue (T : Table) (t : TypeId) (z : List ℕ) (us : List Event) : Type 0 where
  pub value : Tree
  pub spelled : SpellsTop T t value z
  pub told : HasEvents value us

pub completed_value : {T : Table} {t : TypeId} {z : List ℕ} {us : List Event} → PartDone T t [] z us → IsValue T t z us
completed_value {T = T} {t = t} {z = z} {us = us} c = from c.within c.spelled c.tells c.whole c.event
  where
    from : {b d : List ℕ} {ws ys : List Event} {u : TypeId} {v : Tree} → OpenPath T t [] b ws u → Spells T u v d
        → HasEvents v ys → z ≡ b ++ d → us ≡ ws ++ ys → IsValue T t z us
    from {v = v} (at_once e i) s o h f =
        record {
          value = v;
          spelled = subst (SpellsTop T t v) (sym h) (top_at_once e i s);
          told =
              subst (HasEvents v) (sym f) o;
        }
    from {v = v} (behind_tag e i) s o h f =
        record {
          value = v;
          spelled = subst (SpellsTop T t v) (sym h) (tagged e i s);
          told =
              subst (HasEvents v) (sym f) o;
        }

-- an element was read, and another follows
pub next_element : {T : Table} {t e : TypeId} {left : ℕ} {fs : List Frame} {z : List ℕ} {us : List Event}
    → PartDone T t (frame.Many e (suc left) ∷ fs) z us → OpenPath T t (frame.Many e left ∷ fs) z us e
next_element {T = T} {t = t} {e = e} {left = left} {fs = fs} {z = z} {us = us} c = from c.within c.spelled c.tells
    c.whole c.event
  where
    from : {b d : List ℕ} {ws ys : List Event} {u : TypeId} {v : Tree} → OpenPath T t (frame.Many e (suc left) ∷ fs) b
        ws u → Spells T u v d → HasEvents v ys → z ≡ b ++ d → us ≡ ws ++ ys
        → OpenPath T t (frame.Many e left ∷ fs) z us e
    from {d = d} {ys = ys} (in_list {p = p} {c = c} {b = b} {us = us'} {ws = ws'} w k l n r m) s o h i =
        let x = one_more r s o in
        let by : p ++ (c ++ (b ++ d)) ≡ z = sym (h ∙ append_assoc p (c ++ b) d ∙ ap (λ l. p ++ l) (append_assoc c b d))
        in
        let told : us' ++ enter group.Many ∷ (ws' ++ ys) ≡ us = sym (i ∙ append_assoc us' (enter group.Many ∷ ws') ys)
        in
        subst (λ q. OpenPath T t (frame.Many e left ∷ fs) q us e) by
        (subst (λ q. OpenPath T t (frame.Many e left ∷ fs) (p ++ (c ++ (b ++ d))) q e) told
        (in_list w k l n x.told (let y = x.count_is in omega arith)))

-- a key was read, and its element follows
pub key_read : {T : Table} {t k e : TypeId} {left : ℕ} {fs : List Frame} {z : List ℕ} {us : List Event}
    → PartDone T t (frame.Key k e left ∷ fs) z us → OpenPath T t (frame.Elem k e left ∷ fs) z us e
key_read {T = T} {t = t} {k = k} {e = e} {left = left} {fs = fs} {z = z} {us = us} c = from c.within c.spelled c.tells
    c.whole c.event
  where
    from : {b d : List ℕ} {ws ys : List Event} {u : TypeId} {v : Tree} → OpenPath T t (frame.Key k e left ∷ fs) b ws u
        → Spells T u v d → HasEvents v ys → z ≡ b ++ d → us ≡ ws ++ ys → OpenPath T t (frame.Elem k e left ∷ fs) z us e
    from {d = d} {ys = ys} (at_key {p = p} {c = c} {b = b} {us = us'} {ws = ws'} w q n r m) s o h i =
        let by : p ++ (c ++ (b ++ d)) ≡ z = sym (h ∙ append_assoc p (c ++ b) d ∙ ap (λ l. p ++ l) (append_assoc c b d))
        in
        let told : us' ++ enter group.Pairs ∷ (ws' ++ ys) ≡ us = sym (i ∙ append_assoc us' (enter group.Pairs ∷ ws') ys)
        in
        subst (λ q. OpenPath T t (frame.Elem k e left ∷ fs) q us e) by
        (subst (λ q. OpenPath T t (frame.Elem k e left ∷ fs) (p ++ (c ++ (b ++ d))) q e) told (at_value w q n r m s o))

-- an element of a map was read, and another key follows
pub next_pair : {T : Table} {t k e : TypeId} {left : ℕ} {fs : List Frame} {z : List ℕ} {us : List Event}
    → PartDone T t (frame.Elem k e (suc left) ∷ fs) z us → OpenPath T t (frame.Key k e left ∷ fs) z us k
next_pair {T = T} {t = t} {k = k} {e = e} {left = left} {fs = fs} {z = z} {us = us} c = from c.within c.spelled c.tells
    c.whole c.event
  where
    from : {b d : List ℕ} {ws ys : List Event} {u : TypeId} {v : Tree} → OpenPath T t (frame.Elem k e (suc left) ∷ fs) b
        ws u → Spells T u v d → HasEvents v ys → z ≡ b ++ d → us ≡ ws ++ ys
        → OpenPath T t (frame.Key k e left ∷ fs) z us k
    from {d = d} {ys = ys} (at_value {p = p} {c = c} {b = b} {a = a} {us = us'} {ws = ws'} {xs = xs'} w q n r m y f) s o
        h i =
        let x = pair_more r y f s o in
        let by : (p ++ (c ++ (b ++ a))) ++ d ≡ p ++ (c ++ (b ++ (a ++ d))) = simp append_assoc in
        let told : (us' ++ enter group.Pairs ∷ (ws' ++ xs')) ++ ys ≡ us' ++ enter group.Pairs ∷ (ws' ++ (xs' ++ ys)) =
        simp append_assoc in
        subst (λ q. OpenPath T t (frame.Key k e left ∷ fs) q us k) (sym (h ∙ by))
        (subst (λ q. OpenPath T t (frame.Key k e left ∷ fs) (p ++ (c ++ (b ++ (a ++ d)))) q k) (sym (i ∙ told))
        (at_key w q n x.told (let y = x.count_is in omega arith)))

-- a field's value was read
field_read : {T : Table} {t i : TypeId} {next : ℕ} {fs : List Frame} {z : List ℕ} {us : List Event}
    → PartDone T t (frame.Fields i next ∷ fs) z us → AtNext T t (frame.Fields i next ∷ fs) (Number Delta) z [] us
field_read {T = T} {t = t} {i = i} {next = next} {fs = fs} {z = z} {us = us} c = from c.within c.spelled c.tells c.whole
    c.event
  where
    from : {b d : List ℕ} {ws ys : List Event} {u : TypeId} {v : Tree} → OpenPath T t (frame.Fields i next ∷ fs) b ws u
        → Spells T u v d → HasEvents v ys → z ≡ b ++ d → us ≡ ws ++ ys
        → AtNext T t (frame.Fields i next ∷ fs) (Number Delta) z [] us
    from {d = d} {ys = ys} (in_field {p = p} {a = a} {b = b} {us = us'} {ws = ws'} {u = u} {f = f} {types = types} w k r
        l m g n) s o h j =
        let x = field_more r l g n s o in
        let told : FieldsTold T types 0 next x.values (a ++ (b ++ d)) (ws' ++ field f ∷ ys) =
        subst (λ q. FieldsTold T types 0 q x.values (a ++ (b ++ d)) (ws' ++ field f ∷ ys)) m x.told in
        let by : (p ++ (a ++ b)) ++ d ≡ p ++ (a ++ (b ++ d)) = simp append_assoc in
        let events : (us' ++ enter group.Fields ∷ (ws' ++ field f ∷ [])) ++ ys ≡ us'
        ++ enter group.Fields ∷ (ws' ++ field f ∷ ys) = simp append_assoc in
        subst (λ q. AtNext T t (frame.Fields u next ∷ fs) (Number Delta) q [] us) (sym (h ∙ by))
        (subst (λ q. AtNext T t (frame.Fields u next ∷ fs) (Number Delta) (p ++ (a ++ (b ++ d))) [] q)
        (sym (j ∙ events))
        (at_delta (open_struct w k told) (omega arith)))

-- behind a part, where another one or a delta is to come
pub moved : {T : Table} {t : TypeId} {f g : Frame} {fs : List Frame} {z : List ℕ} {us : List Event} → FrameGoesOn f g
    → PartDone T t (f ∷ fs) z us → AtNext T t (g ∷ fs) (Number (item_of g)) z [] us
moved to_element c = at_part (next_element c)
moved to_value c = at_part (key_read c)
moved to_key c = at_part (next_pair c)
moved to_delta c = field_read c

pub list_spelled : {T : Table} {u e : TypeId} {n : ℕ} {k : Kind} {vs : Trees} {c b : List ℕ} → HasKind T u k
    → IsList k n e → IsUnsigned n c → SpellsEach T e vs b → tree_count vs ≡ n → Spells T u (Value.many vs) (c ++ b)
list_spelled {c = c} k is_slice n s m = spelled_as k (of_slice (subst (λ i. IsUnsigned i c) (sym m) n) s)
list_spelled k is_array n s m = spelled_as k (of_array m n s)

-- the last element was read
list_whole : {T : Table} {t e : TypeId} {fs : List Frame} {z : List ℕ} {us : List Event}
    → PartDone T t (frame.Many e 0 ∷ fs) z us → PartDone T t fs z (us ++ leave ∷ [])
list_whole {T = T} {t = t} {e = e} {fs = fs} {z = z} {us = us} c = from c.within c.spelled c.tells c.whole c.event
  where
    from : {b d : List ℕ} {ws ys : List Event} {u : TypeId} {v : Tree} → OpenPath T t (frame.Many e 0 ∷ fs) b ws u
        → Spells T u v d → HasEvents v ys → z ≡ b ++ d → us ≡ ws ++ ys → PartDone T t fs z (us ++ leave ∷ [])
    from {d = d} {ys = ys} (in_list {p = p} {c = c} {b = b} {us = us'} {ws = ws'} {u = u} w k l n r m) s o h i =
        let x = one_more r s o in
        let by : (p ++ (c ++ b)) ++ d ≡ p ++ (c ++ (b ++ d)) = simp append_assoc in
        let told : ((us' ++ enter group.Many ∷ ws') ++ ys) ++ leave ∷ [] ≡ us'
        ++ ((enter group.Many ∷ (ws' ++ ys)) ++ leave ∷ []) = simp append_assoc in
        record {
          type = u;
          value = Value.many x.values;
          before = p;
          bytes = c ++ (b ++ d);
          told_before = us';
          told = (enter group.Many ∷ (ws' ++ ys)) ++ leave ∷ [];
          within = w;
          spelled = list_spelled k l n (each_spells x.told) (let y = x.count_is in omega arith);
          tells = tell_many (each_tells x.told);
          whole = h ∙ by;
          event = ap (λ q. q ++ leave ∷ []) i ∙ told;
        }

-- the last element of a map was read
map_whole : {T : Table} {t k e : TypeId} {fs : List Frame} {z : List ℕ} {us : List Event}
    → PartDone T t (frame.Elem k e 0 ∷ fs) z us → PartDone T t fs z (us ++ leave ∷ [])
map_whole {T = T} {t = t} {k = k} {e = e} {fs = fs} {z = z} {us = us} c = from c.within c.spelled c.tells c.whole
    c.event
  where
    from : {b d : List ℕ} {ws ys : List Event} {u : TypeId} {v : Tree} → OpenPath T t (frame.Elem k e 0 ∷ fs) b ws u
        → Spells T u v d → HasEvents v ys → z ≡ b ++ d → us ≡ ws ++ ys → PartDone T t fs z (us ++ leave ∷ [])
    from {d = d} {ys = ys} (at_value {p = p} {c = c} {b = b} {a = a} {us = us'} {ws = ws'} {xs = xs'} {u = u} w q n r m
        y f) s o h i =
        let x = pair_more r y f s o in
        let by : (p ++ (c ++ (b ++ a))) ++ d ≡ p ++ (c ++ (b ++ (a ++ d))) = simp append_assoc in
        let told : ((us' ++ enter group.Pairs ∷ (ws' ++ xs')) ++ ys) ++ leave ∷ [] ≡ us'
        ++ ((enter group.Pairs ∷ (ws' ++ (xs' ++ ys))) ++ leave ∷ []) = simp append_assoc in
        let count : pair_count x.values ≡ _ = x.count_is in
        record {
          type = u;
          value = Value.pairs x.values;
          before = p;
          bytes = c ++ (b ++ (a ++ d));
          told_before = us';
          told = (enter group.Pairs ∷ (ws' ++ (xs' ++ ys))) ++ leave ∷ [];
          within = w;
          spelled = spelled_as q (of_map (subst (λ i. IsUnsigned i c) (omega arith) n) (pairs_spell x.told));
          tells = tell_pairs (pairs_tell x.told);
          whole = h ∙ by;
          event = ap (λ q. q ++ leave ∷ []) i ∙ told;
        }

-- behind the last part of an open one
pub closed : {T : Table} {t : TypeId} {f : Frame} {fs : List Frame} {z : List ℕ} {us : List Event} → IsOver f
    → PartDone T t (f ∷ fs) z us → PartDone T t fs z (us ++ leave ∷ [])
closed last_element c = list_whole c
closed last_pair c = map_whole c

-- a delta of 0: the struct ends
pub fields_whole : {T : Table} {t u : TypeId} {next : ℕ} {types : List Field} {f : Frame} {fs : List Frame}
    {z c : List ℕ} {us : List Event} → OpenStruct T t (f ∷ fs) u types next z us → IsUnsigned 0 c
    → PartDone T t fs (z ++ c) (us ++ leave ∷ [])
fields_whole {c = d} (open_struct {p = p} {a = a} {us = us} {ws = ws} {u = u} {vs = vs} w k r) z =
    record {
      type = u;
      value = Value.fields vs;
      before = p;
      bytes = a ++ d;
      told_before = us;
      told = (enter group.Fields ∷ ws) ++ leave ∷ [];
      within = w;
      spelled = spelled_as k (of_struct (fields_spell r z));
      tells = tell_fields (fields_tell r);
      whole = append_assoc p a d;
      event = append_assoc us (enter group.Fields ∷ ws) (leave ∷ []);
    }

-- another delta: a field's value begins
pub field_begins : {T : Table} {t u : TypeId} {next f after : ℕ} {e : Field} {types : List Field} {g : Frame}
    {fs : List Frame} {z c : List ℕ} {us : List Event} → OpenStruct T t (g ∷ fs) u types next z us → next ≤ f
    → f + 1 ≡ after → slice_get types f ≡ Some e
    → IsUnsigned (f + 1 - next) c → OpenPath T t (frame.Fields u after ∷ fs) (z ++ c) (us ++ field f ∷ []) e.id
field_begins {T = T} {t = t} {u = u} {f = f} {after = after} {e = e} {fs = fs} {c = d}
    (open_struct {p = p} {a = a} {us = us} {ws = ws} w k r) m n g i =
    subst (λ q. OpenPath T t (frame.Fields u after ∷ fs) q ((us ++ enter group.Fields ∷ ws) ++ field f ∷ []) e.id)
    (sym (append_assoc p a d))
    (subst (λ q. OpenPath T t (frame.Fields u after ∷ fs) (p ++ (a ++ d)) q e.id)
    (sym (append_assoc us (enter group.Fields ∷ ws) (field f ∷ [])))
    (in_field w k r m n g i))

-- a struct begins
pub struct_opens : {T : Table} {t u : TypeId} {types : List Field} {fs : List Frame} {p : List ℕ} {us : List Event}
    → OpenPath T t fs p us u → HasKind T u (kind.Struct types) → OpenStruct T t (frame.Fields u 0 ∷ fs) u types 0 p (us
    ++ enter group.Fields ∷ [])
struct_opens {T = T} {t = t} {u = u} {types = types} {fs = fs} {p = p} {us = us} w k =
    subst (λ q. OpenStruct T t (frame.Fields u 0 ∷ fs) u types 0 q (us ++ enter group.Fields ∷ [])) (append_nil p)
    (open_struct {a = []} w k no_field_told)

-- a list's count, above 0
pub list_begins : {T : Table} {t u e : TypeId} {n left : ℕ} {k : Kind} {fs : List Frame} {p c : List ℕ}
    {us : List Event} → OpenPath T t fs p us u → HasKind T u k → IsList k n e
    → IsUnsigned n c → left + 1 ≡ n → OpenPath T t (frame.Many e left ∷ fs) (p ++ c) (us ++ enter group.Many ∷ []) e
list_begins {T = T} {t = t} {e = e} {left = left} {fs = fs} {p = p} {c = c} {us = us} w k l n m =
    subst (λ q. OpenPath T t (frame.Many e left ∷ fs) (p ++ q) (us ++ enter group.Many ∷ []) e) (append_nil c)
    (in_list w k l n none_told (omega arith))

-- a map's count, above 0
pub map_begins : {T : Table} {t u k e : TypeId} {n left : ℕ} {fs : List Frame} {p c : List ℕ} {us : List Event}
    → OpenPath T t fs p us u → HasKind T u (kind.Map k e)
    → IsUnsigned n c → left + 1 ≡ n → OpenPath T t (frame.Key k e left ∷ fs) (p ++ c) (us ++ enter group.Pairs ∷ []) k
map_begins {T = T} {t = t} {k = k} {e = e} {left = left} {fs = fs} {p = p} {c = c} {us = us} w h n m =
    subst (λ q. OpenPath T t (frame.Key k e left ∷ fs) (p ++ q) (us ++ enter group.Pairs ∷ []) k) (append_nil c)
    (at_key w h n no_pair_told (omega arith))

-- a part that was read at once
pub part_whole : {T : Table} {t u : TypeId} {fs : List Frame} {p c : List ℕ} {us ws : List Event} {v : Tree}
    → OpenPath T t fs p us u → Spells T u v c → HasEvents v ws → PartDone T t fs (p ++ c) (us ++ ws)
part_whole {p = p} {c = c} {us = us} {ws = ws} w s o = record {
  type = _;
  value = _;
  before = p;
  bytes = c;
  told_before = us;
  told = ws;
  within = w;
  spelled = s;
  tells = o;
  whole = refl;
  event = refl;
}
