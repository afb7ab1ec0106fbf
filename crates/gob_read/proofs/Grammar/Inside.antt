-- Where a part has begun, in the form that a stack of open parts keeps: one more part is open at its end.
use Rattle.std.proofs.Common.{◌≡◌, ℕ, suc, ◌+◌, List, [], ◌∷◌, ◌++◌, Some, arith, refl, sym, subst, append_assoc}
use Rattle.gob_types.specs.declared.id.TypeId.{TypeId}
use Rattle.gob_types.specs.declared.kind.Shape.{Shape}
use Rattle.gob_types.specs.Table.{Table, shape_of}
use Rattle.gob_value.specs.Tree.{Tree, Trees, no_tree, tree, tree_count, Pairs, no_pair, pair, pair_count}
use Rattle.gob_value.specs.Spelling.{Spells, SpellsEach, no_element, element, SpellsPairs, no_entry, entry}
use Rattle.gob_value.specs.Top.{IsStruct}
use Rattle.gob_read.specs.Expected.{Expected, a_number, first_allowed}
use Rattle.gob_read.specs.Expects.{FieldsRun, no_fields, field_then, Enters, ExpectsAt, first, Expects, in_itself}
use Rattle.gob_read.specs.Expects.{in_part, ExpectsTop, in_struct, behind_tag}
use Rattle.std.specs.Prelude.{◌-◌, ◌≤◌, slice_get}
use Rattle.gob_num.specs.Unsigned.{IsUnsigned}
use Rattle.gob_types.specs.declared.kind.Field.{Field}
use Rattle.gob_read.proofs.Grammar.Prefixes.{append_nil, joined_three}

-- a part of type u begins behind the bytes, with so many open parts around it
pub data Inside (T : Table) : TypeId → List ℕ → TypeId → ℕ → Type 0 where
  outermost : {t : TypeId} → Inside T t [] t 0
  one_in : {t u v : TypeId} {d : ℕ} {s : Shape} {p q : List ℕ} → shape_of T t ≡ Some s → Enters T s.kind q u
      → Inside T u p v d → Inside T t (q ++ p) v (suc d)

-- the last of them is entered
pub inside_more : {T : Table} {t u v : TypeId} {d : ℕ} {s : Shape} {p q : List ℕ} → Inside T t p u d
    → shape_of T u ≡ Some s → Enters T s.kind q v → Inside T t (p ++ q) v (suc d)
inside_more {T = T} {t = t} {v = v} {q = q} outermost e n = subst (λ l. Inside T t l v 1) (append_nil q)
    (one_in e n outermost)
inside_more {T = T} {t = t} {v = v} {q = r} (one_in {d = c} {p = p} {q = q} e n i) f m =
    subst (λ l. Inside T t l v d') (sym (append_assoc q p r)) (one_in e n (inside_more i f m))
  where
    d' : ℕ
    d' = suc (suc c)

-- what the last part expects, the outermost does
pub inside_expects : {T : Table} {t u : TypeId} {d : ℕ} {s : Shape} {p q : List ℕ} {w : Expected} → Inside T t p u d
    → shape_of T u ≡ Some s → ExpectsAt T s.kind q w → Expects T t (p ++ q) w (suc d)
inside_expects outermost e a = in_itself e a
inside_expects {T = T} {t = t} {q = r} {w = w} (one_in {d = c} {p = p} {q = q} e n i) f a =
    subst (λ l. Expects T t l w (suc (suc c))) (sym (append_assoc q p r)) (in_part e n (inside_expects i f a))

-- in a body behind its type number, behind these bytes a part of the other type is under way, so deep
pub data InsideTop (T : Table) : TypeId → List ℕ → TypeId → ℕ → Type 0 where
  inside_struct : {t u : TypeId} {d : ℕ} {s : Shape} {p : List ℕ} → shape_of T t ≡ Some s → IsStruct s.kind
      → Inside T t p u d → InsideTop T t p u d
  inside_behind_tag : {t u : TypeId} {d : ℕ} {s : Shape} {p : List ℕ} → shape_of T t ≡ Some s → ¬ IsStruct s.kind
      → Inside T t p u d → InsideTop T t (0 ∷ p) u d

pub inside_more_top : {T : Table} {t u v : TypeId} {d : ℕ} {s : Shape} {p q : List ℕ} → InsideTop T t p u d
    → shape_of T u ≡ Some s → Enters T s.kind q v → InsideTop T t (p ++ q) v (suc d)
inside_more_top (inside_struct f i a) e n = inside_struct f i (inside_more a e n)
inside_more_top (inside_behind_tag f i a) e n = inside_behind_tag f i (inside_more a e n)

pub inside_expects_top : {T : Table} {t u : TypeId} {d : ℕ} {s : Shape} {p q : List ℕ} {w : Expected}
    → InsideTop T t p u d → shape_of T u ≡ Some s → ExpectsAt T s.kind q w → ExpectsTop T t (p ++ q) w (suc d)
inside_expects_top (inside_struct f i a) e n = in_struct f i (inside_expects a e n)
inside_expects_top (inside_behind_tag f i a) e n = behind_tag f i (inside_expects a e n)

-- where a part begins, its first number is expected
pub begins_expects : {T : Table} {t u : TypeId} {d : ℕ} {s : Shape} {p : List ℕ} → InsideTop T t p u d
    → shape_of T u ≡ Some s → ExpectsTop T t p (a_number (first_allowed s.kind)) (suc d)
begins_expects {T = T} {t = t} {d = d} {s = s} {p = p} i e =
    subst (λ l. ExpectsTop T t l (a_number (first_allowed s.kind)) (suc d)) (append_nil p)
    (inside_expects_top i e first)

-- behind a run of elements one more was read
pub record Longer (T : Table) (e : TypeId) (vs : Trees) (b : List ℕ) : Type 0 where
  pub trees : Trees
  pub spelled : SpellsEach T e trees b
  pub count : tree_count trees ≡ tree_count vs + 1

pub each_more : {T : Table} {e : TypeId} {vs : Trees} {v : Tree} {b c : List ℕ} → SpellsEach T e vs b → Spells T e v c
    → Longer T e vs (b ++ c)
each_more {T = T} {e = e} {v = v} {c = c} no_element p = record {
  trees = tree v no_tree;
  spelled =
      subst (SpellsEach T e (tree v no_tree)) (append_nil c) (element p no_element);
  count = refl;
}
each_more {T = T} {e = e} {c = d} (element {v = w} {b = b} {c = c} q qs) p =
    let r = each_more qs p in
    record {
      trees = tree w r.trees;
      spelled = subst (SpellsEach T e (tree w r.trees)) (sym (append_assoc b c d))
          (element q r.spelled);
      count = let n = r.count in omega arith;
    }

-- behind a run of pairs one more was read
pub record LongerPairs (T : Table) (k e : TypeId) (ps : Pairs) (b : List ℕ) : Type 0 where
  pub pairs : Pairs
  pub spelled : SpellsPairs T k e pairs b
  pub count : pair_count pairs ≡ pair_count ps + 1

pub pairs_more : {T : Table} {k e : TypeId} {ps : Pairs} {x v : Tree} {b c d : List ℕ} → SpellsPairs T k e ps b
    → Spells T k x c → Spells T e v d → LongerPairs T k e ps (b ++ (c ++ d))
pairs_more {T = T} {k = k} {e = e} {x = x} {v = v} {c = c} {d = d} no_entry p q =
    record {
      pairs = pair x v no_pair;
      spelled = subst (λ l. SpellsPairs T k e (pair x v no_pair) (c ++ l))
          (append_nil d) (entry p q no_entry);
      count = refl;
    }
pairs_more {T = T} {k = k} {e = e} {c = f} {d = g} (entry {x = y} {v = w} {a = a} {b = b} {c = c} r s qs) p q =
    let n = pairs_more qs p q in
    record {
      pairs = pair y w n.pairs;
      spelled = subst (SpellsPairs T k e (pair y w n.pairs))
          (joined_three a b c (f ++ g)) (entry r s n.spelled);
      count = let m = n.count in omega arith;
    }

-- behind a run of fields one more was read
pub run_more : {T : Table} {types : List Field} {start next f : ℕ} {e : Field} {v : Tree} {a b c : List ℕ}
    → FieldsRun T types start next a → next ≤ f → slice_get types f ≡ Some e
    → IsUnsigned (f + 1 - next) b → Spells T e.id v c → FieldsRun T types start (f + 1) (a ++ (b ++ c))
run_more {T = T} {types = types} {start = start} {f = f} {b = b} {c = c} no_fields l g n s =
    subst (λ l. FieldsRun T types start (f + 1) (b ++ l)) (append_nil c) (field_then l g n s no_fields)
run_more {T = T} {types = types} {start = start} {f = f} {b = b'} {c = c'} (field_then {a = a} {b = b} {c = c} l' g' n'
    s' q) l g n s =
    subst (FieldsRun T types start (f + 1)) (joined_three a b c (b' ++ c'))
    (field_then l' g' n' s' (run_more q l g n s))
