-- The nils that stand in parts, and where those stand in the form that are asked for, part after part.
use Rattle.std.proofs.Common.{◌≡◌, ℕ, ◌+◌, ◌-◌, ◌<◌, ◌≤◌, List, ◌∷◌, ◌++◌, length, Option, Some, ◌⊎◌, inl, inr}
use Rattle.std.proofs.Common.{arith, refl, sym, ap, ◌∙◌, subst, append_assoc, length-append}
use Rattle.std.specs.Prelude.{slice_get}
use Rattle.gob_num.specs.Unsigned.{IsUnsigned}
use Rattle.gob_types.specs.declared.id.TypeId.{TypeId}
use Rattle.gob_types.specs.declared.kind.Field.{Field}
use Rattle.gob_types.specs.declared.kind.Kind.TheVariants as kind
use Rattle.gob_types.specs.declared.kind.Shape.{Shape}
use Rattle.gob_types.specs.Table.{Table, shape_of}
use Rattle.gob_value.specs.Spelling.{Spells, SpellsEach, SpellsPairs}
use Rattle.gob_value.specs.Spelling as spelling
use Rattle.gob_value.specs.Tree.{Tree, no_tree, no_pair, tree_count, pair_count}
use Rattle.gob_tidy.specs.SameNil.{PathStep, StandBefore, slice_element, array_element, map_key, map_element}
use Rattle.gob_tidy.specs.SameNil.{struct_field}
use Rattle.gob_tidy.specs.SameNil.{field_before, by_part}
use Rattle.gob_tidy.specs.Machine.Tidying.{Fronts, IsAsked, LeadAlike, LeadAmong, among, LeadInList, in_list}
use Rattle.gob_tidy.specs.Machine.Tidying.{LeadInEntries, in_key, in_element, LeadInMap, in_map, LeadInFields, in_field}
use Rattle.gob_tidy.specs.Machine.Tidying.{Moved, MovesTo}
use Rattle.gob_tidy.specs.declared.part.Form.{Form}

-- ---- places in the body and in the form

module _ {size : ℕ} where
  -- behind other bytes
  behind : {F G : Fronts} {old mid new : Form} {x y : List ℕ} {p q : ℕ} (a b : List ℕ) → x ≡ a ++ y
      → mid.bytes.items ≡ old.bytes.items ++ b → ((f g : List ℕ) → F f g → G (a ++ f) (b ++ g))
      → MovesTo F size mid new y p q → MovesTo G size old new x p q
  behind {old = old} a b e out into m =
      let moved = m.moved_is in
      record {
        front = a ++ m.front;
        rest = m.rest;
        form_front = b ++ m.form_front;
        form_rest = m.form_rest;
        alike = into m.front m.form_front m.alike;
        stands = e ∙ ap (λ l. a ++ l) m.stands ∙ sym (append_assoc a m.front (0 ∷ m.rest));
        place_is = m.place_is;
        out = m.out ∙ ap (λ l. l ++ (m.form_front ++ (0 ∷ m.form_rest))) out
            ∙ append_assoc old.bytes.items b (m.form_front ++ (0 ∷ m.form_rest))
            ∙ ap (λ l. old.bytes.items ++ l) (sym (append_assoc b m.form_front (0 ∷ m.form_rest)));
        moved_is = omega
            (arith, ap length out, length-append old.bytes.items b, length-append b m.form_front);
      }

  -- and before others
  before : {F G : Fronts} {old mid new : Form} {x : List ℕ} {p q : ℕ} (b : List ℕ)
      → new.bytes.items ≡ mid.bytes.items ++ b → ((f g : List ℕ) → F f g → G f g)
      → MovesTo F size old mid x p q → MovesTo G size old new x p q
  before {old = old} b out into m = record {
    front = m.front;
    rest = m.rest;
    form_front = m.form_front;
    form_rest = m.form_rest ++ b;
    alike = into m.front m.form_front m.alike;
    stands = m.stands;
    place_is = m.place_is;
    out = out ∙ ap (λ l. l ++ b) m.out ∙ append_assoc old.bytes.items (m.form_front ++ (0 ∷ m.form_rest)) b
        ∙ ap (λ l. old.bytes.items ++ l) (append_assoc m.form_front (0 ∷ m.form_rest) b);
    moved_is = m.moved_is;
  }

module _ {size : ℕ} {asked : List ℕ} where
  -- none came
  pub none_moved : {F : Fronts} (old new : Form) {x : List ℕ} → new.places.items ≡ old.places.items
      → Moved F size asked old new x
  none_moved old new same = record {
    each = λ number q there. inl
        (subst (λ l. slice_get l number ≡ Some q) same there);
  }

  -- those of parts are those of what they are parts of, which begins with them
  pub moved_as : {F G : Fronts} {old new : Form} {x : List ℕ} → ((f g : List ℕ) → F f g → G f g)
      → Moved F size asked old new x → Moved G size asked old new x
  moved_as {G = G} {old = old} {new = new} {x = x} into h = record {
    each = λ number q there. elim (h.each number q there) as
        (λ _. (slice_get old.places.items number ≡ Some q) ⊎ IsAsked G size asked old new x number q) [
          | inl before ↦ inl before
          | inr asks ↦ let m = asks.moves in inr (record {
            place = asks.place;
            asked_for = asks.asked_for;
            moves = record {
              front = m.front;
              rest = m.rest;
              form_front = m.form_front;
              form_rest = m.form_rest;
              alike = into m.front m.form_front m.alike;
              stands = m.stands;
              place_is = m.place_is;
              out = m.out;
              moved_is = m.moved_is;
            };
          })
        ];
  }

  pub moved_later : {F G : Fronts} {old mid new : Form} {x y : List ℕ} (a b : List ℕ) → x ≡ a ++ y
      → mid.bytes.items ≡ old.bytes.items ++ b → mid.places.items ≡ old.places.items
      → ((f g : List ℕ) → F f g → G (a ++ f) (b ++ g)) → Moved F size asked mid new y → Moved G size asked old new x
  moved_later {G = G} {old = old} {new = new} {x = x} a b e out same into h = record {
    each = λ number q there. elim (h.each number q there) as
        (λ _. (slice_get old.places.items number ≡ Some q) ⊎ IsAsked G size asked old new x number q) [
          | inl was ↦ inl (subst (λ l. slice_get l number ≡ Some q) same was)
          | inr asks ↦ inr (record {
            place = asks.place;
            asked_for = asks.asked_for;
            moves = behind a b e out into asks.moves;
          })
        ];
  }

  -- those of a part, and then those behind it
  pub moved_both : {F G H : Fronts} {old mid new : Form} {x y : List ℕ} (a b c : List ℕ) → x ≡ a ++ y
      → mid.bytes.items ≡ old.bytes.items ++ b → new.bytes.items ≡ mid.bytes.items ++ c
      → ((f g : List ℕ) → F f g → H f g) → ((f g : List ℕ) → G f g → H (a ++ f) (b ++ g))
      → Moved F size asked old mid x → Moved G size asked mid new y → Moved H size asked old new x
  moved_both {H = H} {old = old} {mid = mid} {new = new} {x = x} a b c e out more into behind_it h k = record {
    each = λ number q there. elim (k.each number q there) as
        (λ _. (slice_get old.places.items number ≡ Some q) ⊎ IsAsked H size asked old new x number q) [
          | inl was ↦ elim (h.each number q was) as
              (λ _. (slice_get old.places.items number ≡ Some q) ⊎ IsAsked H size asked old new x number q) [
                | inl first ↦ inl first
                | inr asks ↦ inr (record {
                  place = asks.place;
                  asked_for = asks.asked_for;
                  moves = before c more into asks.moves;
                })
              ]
          | inr asks ↦ inr (record {
            place = asks.place;
            asked_for = asks.asked_for;
            moves = behind a b e out behind_it asks.moves;
          })
        ];
  }

-- ---- ways into elements

pub first_element : {T : Table} {e : TypeId} {n : ℕ} {f g : List ℕ} → 0 < n → LeadAlike T e f g → LeadAmong T e n f g
first_element some l = among {vs = no_tree} {ws = no_tree} some refl spelling.no_element spelling.no_element l

pub next_element : {T : Table} {e : TypeId} {n m : ℕ} {v w : Tree} {a d f g : List ℕ} → n ≡ m + 1 → Spells T e v a
    → Spells T e w d → LeadAmong T e m f g → LeadAmong T e n (a ++ f) (d ++ g)
next_element {T = T} {e = e} {n = n} {a = a} {d = d} more p q
    (among {vs = vs} {ws = ws} {b = b} {c = c} {f = f} {g = g} few alike ps qs l) =
    subst (LeadAmong T e n (a ++ (b ++ f))) (append_assoc d c g)
    (subst (λ x. LeadAmong T e n x ((d ++ c) ++ g)) (append_assoc a b f)
    (among (omega arith) (ap (λ k. k + 1) alike) (spelling.element p ps) (spelling.element q qs) l))

-- ---- ways into entries

pub first_key : {T : Table} {k e : TypeId} {n : ℕ} {f g : List ℕ} → 0 < n → LeadAlike T k f g
    → LeadInEntries T k e n f g
first_key some l = in_key {ps = no_pair} {qs = no_pair} some refl spelling.no_entry spelling.no_entry l

pub first_entry : {T : Table} {k e : TypeId} {n : ℕ} {x y : Tree} {a d f g : List ℕ} → 0 < n → Spells T k x a
    → Spells T k y d → LeadAlike T e f g → LeadInEntries T k e n (a ++ f) (d ++ g)
first_entry some p q l = in_element {ps = no_pair} {qs = no_pair} some refl spelling.no_entry spelling.no_entry p q l

-- bytes of three parts, and what is behind them
three : (a b c f : List ℕ) → (a ++ (b ++ c)) ++ f ≡ a ++ (b ++ (c ++ f))
three a b c f = append_assoc a (b ++ c) f ∙ ap (λ l. a ++ l) (append_assoc b c f)

pub next_entry : {T : Table} {k e : TypeId} {n m : ℕ} {x y v w : Tree} {a d b c f g : List ℕ} → n ≡ m + 1
    → Spells T k x a → Spells T k y d → Spells T e v b → Spells T e w c → LeadInEntries T k e m f g
    → LeadInEntries T k e n (a ++ (b ++ f)) (d ++ (c ++ g))
next_entry {T = T} {k = k} {e = e} {n = n} {a = a} {d = d} {b = b} {c = c} more p q r s
    (in_key {b = i} {c = j} {f = f} {g = g} few alike ps qs l) =
    subst (LeadInEntries T k e n (a ++ (b ++ (i ++ f)))) (three d c j g)
    (subst (λ x. LeadInEntries T k e n x ((d ++ (c ++ j)) ++ g)) (three a b i f)
    (in_key (omega arith) (ap (λ k. k + 1) alike) (spelling.entry p r ps) (spelling.entry q s qs) l))
next_entry {T = T} {k = k} {e = e} {n = n} {a = a} {d = d} {b = b} {c = c} more p q r s
    (in_element {b = i} {c = j} {a = h} {d = o} {f = f} {g = g} few alike ps qs x y l) =
    subst (LeadInEntries T k e n (a ++ (b ++ (i ++ (h ++ f))))) (three d c j (o ++ g))
    (subst (λ x. LeadInEntries T k e n x ((d ++ (c ++ j)) ++ (o ++ g))) (three a b i (h ++ f))
    (in_element (omega arith) (ap (λ k. k + 1) alike) (spelling.entry p r ps) (spelling.entry q s qs) x y l))

-- ---- ways into fields

pub behind_dropped : {T : Table} {types : List Field} {next number kept : ℕ} {e : Field} {v : Tree} {a b f g : List ℕ}
    → next ≤ number → slice_get types number ≡ Some e → IsUnsigned (number + 1 - next) a → Spells T e.id v b
    → LeadInFields T types (number + 1) kept f g → LeadInFields T types next kept ((a ++ b) ++ f) g
behind_dropped {T = T} {types = types} {next = next} {kept = kept} {a = a} {b = b} low there u p
    (in_field {a = c} {b = d} {f = f} {g = g} at s t l) =
    subst (λ x. LeadInFields T types next kept x (d ++ g))
    (three a b c f ∙ sym (append_assoc a b (c ++ f)))
    (in_field at (field_before low there u p s) t l)

pub behind_kept : {T : Table} {types : List Field} {next number kept : ℕ} {e : Field} {v w : Tree}
    {a d b c f g : List ℕ} → next ≤ number → kept ≤ number → slice_get types number ≡ Some e
    → IsUnsigned (number + 1 - next) a → IsUnsigned (number + 1 - kept) d → Spells T e.id v b → Spells T e.id w c
    → LeadInFields T types (number + 1) (number + 1) f g
    → LeadInFields T types next kept (a ++ (b ++ f)) (d ++ (c ++ g))
behind_kept {T = T} {types = types} {next = next} {kept = kept} {a = a} {d = d} {b = b} {c = c} low l there u o p q
    (in_field {a = i} {b = j} {f = f} {g = g} at s t m) =
    subst (LeadInFields T types next kept (a ++ (b ++ (i ++ f)))) (three d c j g)
    (subst (λ x. LeadInFields T types next kept x ((d ++ (c ++ j)) ++ g)) (three a b i f)
    (in_field at (field_before low there u p s) (field_before l there o q t) m))

-- ---- ways into values with parts

by_step : {T : Table} {t u : TypeId} {s : Shape} {step : PathStep} {a b f g : List ℕ} → shape_of T t ≡ Some s
    → StandBefore T s.kind step a u → StandBefore T s.kind step b u → LeadAlike T u f g
    → LeadAlike T t (a ++ f) (b ++ g)
by_step known p q l = record {
  way = _ ∷ l.way;
  leads = by_part known p l.leads;
  form_leads = by_part known q l.form_leads;
}

-- behind a head and bytes
grouped : {T : Table} {t : TypeId} (a b f c d g : List ℕ) → LeadAlike T t ((a ++ b) ++ f) ((c ++ d) ++ g)
    → LeadAlike T t (a ++ (b ++ f)) (c ++ (d ++ g))
grouped {T = T} {t = t} a b f c d g l =
    subst (LeadAlike T t (a ++ (b ++ f))) (append_assoc c d g)
    (subst (λ x. LeadAlike T t x ((c ++ d) ++ g)) (append_assoc a b f) l)

module _ {T : Table} {t : TypeId} {s : Shape} (known : shape_of T t ≡ Some s) where
  pub slice_way : {e : TypeId} {due : Option ℕ} {f g : List ℕ} → s.kind ≡ kind.Slice e → LeadInList T e due f g
      → LeadAlike T t f g
  slice_way {e = e} is
      (in_list {a = a} {b = c} admitted u v (among {vs = vs} {b = b} {c = d} {f = f} {g = g} few alike ps qs l)) =
      grouped a b f c d g (by_step known
      (subst (λ k. StandBefore T k (PathStep.element (tree_count vs)) (a ++ b) e) (sym is)
      (slice_element u ps refl few))
      (subst (λ k. StandBefore T k (PathStep.element (tree_count vs)) (c ++ d) e) (sym is)
      (slice_element v qs alike few)) l)

  pub array_way : {e : TypeId} {n : ℕ} {f g : List ℕ} → s.kind ≡ kind.Array e n → LeadInList T e (Some n) f g
      → LeadAlike T t f g
  array_way {e = e} {n = n} is
      (in_list {n = m} {a = a} {b = c} admitted u v
      (among {vs = vs} {b = b} {c = d} {f = f} {g = g} few alike ps qs l)) =
      let low : tree_count vs < n = omega (arith, admitted) in
      grouped a b f c d g (by_step known
      (subst (λ k. StandBefore T k (PathStep.element (tree_count vs)) (a ++ b) e) (sym is)
      (array_element (subst (λ k. IsUnsigned k a) admitted u) ps refl low))
      (subst (λ k. StandBefore T k (PathStep.element (tree_count vs)) (c ++ d) e) (sym is)
      (array_element (subst (λ k. IsUnsigned k c) admitted v) qs alike low)) l)

  pub map_way : {k e : TypeId} {f g : List ℕ} → s.kind ≡ kind.Map k e → LeadInMap T k e f g → LeadAlike T t f g
  map_way {k = k} {e = e} is
      (in_map {a = a} {b = c} u v (in_key {ps = ps} {b = b} {c = d} {f = f} {g = g} few alike p q l)) =
      grouped a b f c d g (by_step known
      (subst (λ i. StandBefore T i (PathStep.key (pair_count ps)) (a ++ b) k) (sym is) (map_key u p refl few))
      (subst (λ i. StandBefore T i (PathStep.key (pair_count ps)) (c ++ d) k) (sym is) (map_key v q alike few)) l)
  map_way {k = k} {e = e} is
      (in_map {a = a} {b = c} u v
      (in_element {ps = ps} {b = b} {c = d} {a = h} {d = o} {f = f} {g = g} few alike p q x y l)) =
      let to : (a b h f : List ℕ) → (a ++ (b ++ h)) ++ f ≡ a ++ (b ++ (h ++ f)) = three in
      subst (LeadAlike T t (a ++ (b ++ (h ++ f)))) (to c d o g)
      (subst (λ z. LeadAlike T t z ((c ++ (d ++ o)) ++ g)) (to a b h f)
      (by_step known
      (subst (λ i. StandBefore T i (PathStep.entry_element (pair_count ps)) (a ++ (b ++ h)) e) (sym is)
      (map_element u p refl few x))
      (subst (λ i. StandBefore T i (PathStep.entry_element (pair_count ps)) (c ++ (d ++ o)) e) (sym is)
      (map_element v q alike few y)) l))

  pub struct_way : {types : List Field} {f g : List ℕ} → s.kind ≡ kind.Struct types → LeadInFields T types 0 0 f g
      → LeadAlike T t f g
  struct_way {types = types} is (in_field {number = n} {e = e} {a = a} {b = b} at p q l) = by_step known
      (subst (λ i. StandBefore T i (PathStep.field n) a e.id) (sym is) (struct_field at p))
      (subst (λ i. StandBefore T i (PathStep.field n) b e.id) (sym is) (struct_field at q)) l
