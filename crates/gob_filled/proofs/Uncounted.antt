-- A filled value begins with what is read of an item, without the counts of segments, just where each level goes on.
use Rattle.std.proofs.Common.{◌≡◌, ℕ, pos, ◌+◌, ◌<◌, ◌≤◌, max, List, [], ◌∷◌, ◌++◌, length, arith, refl, sym, ap}
use Rattle.std.proofs.Common.{◌∙◌, subst, append_assoc}
use Rattle.gob_num.specs.Unsigned.{IsUnsigned}
use Rattle.gob_num.specs.Signed.{IsSigned}
use Rattle.gob_num.proofs.PublicLaws.{append_split, unsigned_prefix, signed_prefix}
use Rattle.gob_types.specs.declared.id.TypeId.{TypeId}
use Rattle.gob_types.specs.Table.{Table}
use Rattle.gob_value.specs.Tree.{Tree, depth}
use Rattle.gob_value.specs.Top.{SpellsTop}
use Rattle.gob_value.proofs.PublicLaws.{same_top}
use Rattle.gob_read.specs.Expected.{Expected, a_number, nil}
use Rattle.gob_read.specs.Expects.{ExpectsTop}
use Rattle.gob_read.proofs.Grammar.Compare.{whole_meets_top, unmet_once}
use Rattle.gob_read.proofs.Grammar.Prefixes.{same_end, append_nil}
use Rattle.gob_stream.specs.Bounds.{Bounds}
use Rattle.gob_stream.specs.Body.{MayPut}
use Rattle.gob_stream.proofs.PublicLaws.{same_id}
use Rattle.gob_filled.specs.Definition.{Defines}
use Rattle.gob_filled.specs.Filled.{Definitions, no_definitions, definition, Filled, filled, Fillings, no_filling}
use Rattle.gob_filled.specs.Filled.{filling}
use Rattle.gob_filled.specs.Standing.{Level, Next, in_value, in_filling, Stands, at_value, behind_name}
use Rattle.gob_filled.specs.Standing.{behind_definition, at_inner, behind_inner}
use Rattle.gob_filled.specs.Uncounted.{AreDefinedUncounted, none_defined, one_defined, SpellsUncounted, with_fillings}
use Rattle.gob_filled.specs.Uncounted.{FillsUncounted, as_it_stands, next_filled, type_of, uncounted}
use Rattle.gob_filled.proofs.Prefix.{unmet, further, same_definition, not_defined}

-- from these bytes on the level goes on to its end, and then the levels around it do; where A holds, all of it is
-- within the limits
pub record Goes (base : Table) (L : Bounds) (A : Type 0) (U : Table) (lv : Level) (Around : Table → List ℕ → Type 0)
    (x : List ℕ) : Type 0 where
  pub value : Tree
  pub rest : List ℕ
  pub fillings : Fillings
  pub depth_of : ℕ
  pub text : List ℕ
  pub behind : Table
  pub others : List ℕ
  pub spelled : SpellsTop lv.table lv.type value (lv.done ++ rest)
  pub fills : FillsUncounted base L lv.table lv.type U lv.done rest fillings depth_of text behind
  pub low : A → depth value ≤ lv.limit
  pub fillings_low : A → depth_of ≤ lv.limit
  pub around : Around behind others
  pub whole : x ≡ text ++ others

abbrev pub filled_nil : Level → Level
filled_nil lv = record { table = lv.table; type = lv.type; limit = lv.limit; done = lv.done ++ 0 ∷ []; end = lv.end }

-- the levels around go on from the nil that is filled
abbrev pub Ends : Table → Bounds → Type 0 → List Level → Table → List ℕ → Type 0
Ends base L A [] X g = g ≡ []
Ends base L A (around ∷ levels) X g = Goes base L A X (filled_nil around) (Ends base L A levels) g

-- from behind the name of what fills a nil of this depth the levels go on
pub record GoesFilling (base : Table) (L : Bounds) (A : Type 0) (U : Table) (lv : Level)
    (Around : Table → List ℕ → Type 0) (d : ℕ) (x : List ℕ) : Type 0 where
  pub defs : Definitions
  pub table : Table
  pub type : TypeId
  pub inner : Filled
  pub inner_depth : ℕ
  pub e : List ℕ
  pub n : List ℕ
  pub f : List ℕ
  pub held : Table
  pub value : Tree
  pub rest : List ℕ
  pub fillings : Fillings
  pub depth_of : ℕ
  pub text : List ℕ
  pub behind : Table
  pub others : List ℕ
  pub defined : AreDefinedUncounted base L U defs e table
  pub may : MayPut table type
  pub names : IsSigned (pos type.0) n
  pub spells : SpellsUncounted base L table type inner inner_depth f held
  pub spelled : SpellsTop lv.table lv.type value ((lv.done ++ 0 ∷ []) ++ rest)
  pub fills : FillsUncounted base L lv.table lv.type held (lv.done ++ 0 ∷ []) rest fillings depth_of text behind
  pub low : A → depth value ≤ lv.limit
  pub inner_low : A → d + inner_depth ≤ lv.limit
  pub fillings_low : A → depth_of ≤ lv.limit
  pub around : Around behind others
  pub whole : x ≡ e ++ (n ++ (f ++ (text ++ others)))

abbrev pub GoesOn : Table → Bounds → Type 0 → Table → Level → List Level → Next → List ℕ → Type 0
GoesOn base L A U lv levels in_value x = Goes base L A U lv (Ends base L A levels) x
GoesOn base L A U lv levels (in_filling d) x = GoesFilling base L A U lv (Ends base L A levels) d x

-- ---- where each level goes on, a filled value begins

pub record Whole (base : Table) (L : Bounds) (T : Table) (t : TypeId) (b : List ℕ) : Type 0 where
  pub value : Filled
  pub deepest : ℕ
  pub behind : Table
  pub spelled : SpellsUncounted base L T t value deepest b behind

whole_as : (base : Table) (L : Bounds) (T : Table) (t : TypeId) {a b : List ℕ} → a ≡ b → Whole base L T t a
    → Whole base L T t b
whole_as base L T t e w = subst (Whole base L T t) e w

joined : (c a s e n f m g : List ℕ) → (c ++ (a ++ s)) ++ (e ++ (n ++ (f ++ (m ++ g)))) ≡
    (c ++ (a ++ (s ++ (e ++ (n ++ (f ++ m)))))) ++ g
joined c a s e n f m g = simp append_assoc

behind_nil : (done c rest : List ℕ) → ((done ++ c) ++ 0 ∷ []) ++ rest ≡ done ++ (c ++ (0 ∷ rest))
behind_nil done c rest = simp append_assoc

nil_behind : (done c : List ℕ) → (done ++ c) ++ 0 ∷ [] ≡ done ++ (c ++ 0 ∷ [])
nil_behind done c = simp append_assoc

pub goes_to_whole : {base : Table} {L : Bounds} {T : Table} {offset : ℕ} {z : List ℕ} {U : Table} {left : ℕ}
    {lv : Level} {levels : List Level} {next : Next} (x : List ℕ)
    → (p : Stands base L T offset z U (lv ∷ levels) next left) → GoesOn base L ⊥ U lv levels next x
    → Whole base L T (type_of p) (uncounted p ++ x)
goes_to_whole {base = base} {L = L} {T = T} x (at_value {t = t} u l e s sg short may k) h = record {
  value = filled h.value h.fillings;
  deepest = _;
  behind = h.behind;
  spelled = subst (λ b. SpellsUncounted base L T t (filled h.value h.fillings) (max (depth h.value) h.depth_of) b
      h.behind) (sym (h.whole ∙ ap (λ g. h.text ++ g) h.around ∙ append_nil h.text))
      (with_fillings h.spelled h.fills);
}
goes_to_whole {base = base} {L = L} {T = T} x (behind_name {a = a} {lv = lv} {d = d} c s p ex dl sh some u fit) h =
    whole_as base L T (type_of p) (sym (append_assoc (uncounted p) (c ++ (a ++ s)) x))
    (goes_to_whole ((c ++ (a ++ s)) ++ x) p (record {
      value = h.value;
      rest = c ++ (0 ∷ h.rest);
      fillings = filling (length (lv.done ++ c)) s h.defs h.type h.inner h.fillings;
      depth_of = max (d + h.inner_depth) h.depth_of;
      text = c ++ (a ++ (s ++ (h.e ++ (h.n ++ (h.f ++ h.text)))));
      behind = h.behind;
      others = h.others;
      spelled = subst (λ b. SpellsTop lv.table lv.type h.value b) (behind_nil lv.done c h.rest) h.spelled;
      fills = next_filled c ex some u h.defined h.may h.names h.spells
          (subst (λ b. FillsUncounted base L lv.table lv.type h.held b h.rest h.fillings h.depth_of h.text h.behind)
          (nil_behind lv.done c) h.fills);
      low = λ z. absurd z;
      fillings_low = λ z. absurd z;
      around = h.around;
      whole = ap (λ l. (c ++ (a ++ s)) ++ l) h.whole ∙ joined c a s h.e h.n h.f h.text h.others;
    }))
goes_to_whole {base = base} {L = L} {T = T} x (behind_definition {b = b} {id = id} {v = v} p def e k) h =
    whole_as base L T (type_of p) (sym (append_assoc (uncounted p) b x))
    (goes_to_whole (b ++ x) p (record {
      defs = definition id v h.defs;
      table = h.table;
      type = h.type;
      inner = h.inner;
      inner_depth = h.inner_depth;
      e = b ++ h.e;
      n = h.n;
      f = h.f;
      held = h.held;
      value = h.value;
      rest = h.rest;
      fillings = h.fillings;
      depth_of = h.depth_of;
      text = h.text;
      behind = h.behind;
      others = h.others;
      defined = one_defined def h.defined;
      may = h.may;
      names = h.names;
      spells = h.spells;
      spelled = h.spelled;
      fills = h.fills;
      low = λ z. absurd z;
      inner_low = λ z. absurd z;
      fillings_low = λ z. absurd z;
      around = h.around;
      whole = ap (λ l. b ++ l) h.whole ∙ sym (append_assoc b h.e (h.n ++ (h.f ++ (h.text ++ h.others))));
    }))
goes_to_whole {base = base} {L = L} {T = T} x (at_inner {n = n} {lv = lv} {u = u} p may sg k e l) h =
    let o = h.around in
    whole_as base L T (type_of p) (sym (append_assoc (uncounted p) n x))
    (goes_to_whole (n ++ x) p (record {
      defs = no_definitions;
      table = _;
      type = u;
      inner = filled h.value h.fillings;
      inner_depth = _;
      e = [];
      n = n;
      f = h.text;
      held = h.behind;
      value = o.value;
      rest = o.rest;
      fillings = o.fillings;
      depth_of = o.depth_of;
      text = o.text;
      behind = o.behind;
      others = o.others;
      defined = none_defined;
      may = may;
      names = sg;
      spells = with_fillings h.spelled h.fills;
      spelled = o.spelled;
      fills = o.fills;
      low = λ z. absurd z;
      inner_low = λ z. absurd z;
      fillings_low = λ z. absurd z;
      around = o.around;
      whole = ap (λ l. n ++ l) (h.whole ∙ ap (λ l. h.text ++ l) o.whole);
    }))
goes_to_whole {base = base} {L = L} {T = T} x (behind_inner {v = v} b p sp de e) h =
    whole_as base L T (type_of p) (sym (append_assoc (uncounted p) b x))
    (goes_to_whole (b ++ x) p (record {
      value = v;
      rest = b;
      fillings = no_filling;
      depth_of = 0;
      text = b;
      behind = _;
      others = x;
      spelled = sp;
      fills = as_it_stands;
      low = λ z. absurd z;
      fillings_low = λ z. absurd z;
      around = h;
      whole = refl;
    }))

-- ---- where a filled value begins, each level goes on

grouped : (c a s x : List ℕ) → (c ++ (a ++ s)) ++ x ≡ c ++ (a ++ (s ++ x))
grouped c a s x = simp append_assoc

spread : (c a s e n f m g : List ℕ) → (c ++ (a ++ (s ++ (e ++ (n ++ (f ++ m)))))) ++ g ≡ c ++
    (a ++ (s ++ (e ++ (n ++ (f ++ (m ++ g))))))
spread c a s e n f m g = simp append_assoc

low_left : {A : Type 0} {n : ℕ} (a b : ℕ) → (A → max a b ≤ n) → A → a ≤ n
low_left a b f z = let l = f z in omega arith

low_right : {A : Type 0} {n : ℕ} (a b : ℕ) → (A → max a b ≤ n) → A → b ≤ n
low_right a b f z = let l = f z in omega arith

-- behind the name of a filling
named : {base : Table} {M : Bounds} {A : Type 0} {U X T : Table} {t : TypeId} {end limit d k : ℕ}
    {Around : Table → List ℕ → Type 0}
    {v : Tree} {fs : Fillings} {done left a ms : List ℕ} (c s x g : List ℕ) → SpellsTop T t v (done ++ left)
    → FillsUncounted base M T t U done left fs k ms X → (A → depth v ≤ limit) → (A → k ≤ limit) → Around X g
    → ExpectsTop T t (done ++ c) (a_number nil) d → 0 < length s → IsUnsigned (length s) a
    → (c ++ (a ++ s)) ++ x ≡ ms ++ g
    → GoesFilling base M A U (record { table = T; type = t; limit = limit; done = done ++ c; end = end }) Around d x
named {done = done} {left = left} {a = a} c s x g sp as_it_stands low flow ar ex some u h =
    absurd (unmet s (s ++ x) some u (whole_meets_top (a ++ (s ++ x)) g sp ex
    (further done c (a ++ (s ++ x)) ∙ ap (λ (l : List ℕ). done ++ l) (sym (grouped c a s x) ∙ h)
    ∙ sym (further done left g))))
named {base = base} {M = M} {T = T} {t = t} {limit = limit} {d = d} {v = v} {done = done} {a = a} c s x g sp
    (next_filled {V = V} {W = W} {X = X} {u = u'} {d = d'} {k = k} {m = m} {left = left} {s = s'} {a = a'} {e = e}
    {n = n} {f = f} {ms = ms} {ds = ds} {v = w} {fs = fs} c' ex' some' u'' defs may sg vs fl) low flow ar ex some u h =
    let z = e ++ (n ++ (f ++ (ms ++ g))) in
    let one = unmet_once (a ++ (s ++ x)) (a' ++ (s' ++ z)) ex ex' (further done c (a ++ (s ++ x))
    ∙ ap (λ (l : List ℕ). done ++ l) (sym (grouped c a s x) ∙ h ∙ spread c' a' s' e n f ms g)
    ∙ sym (further done c' (a' ++ (s' ++ z)))) (unmet s (s ++ x) some u) (unmet s' (s' ++ z) some' u'') in
    let ec : c ≡ c' = same_end done c c' one.bytes in
    let ed : d ≡ d' = ap (λ (v : Expected × ℕ). v.1) one.value in
    let name = unsigned_prefix (s ++ x) (s' ++ z) u u'' one.rest in
    let text = append_split s s' x z name.value name.rest in
    record {
      defs = ds;
      table = V;
      type = u';
      inner = w;
      inner_depth = k;
      e = e;
      n = n;
      f = f;
      held = W;
      value = v;
      rest = left;
      fillings = fs;
      depth_of = m;
      text = ms;
      behind = X;
      others = g;
      defined = defs;
      may = may;
      names = sg;
      spells = vs;
      spelled = subst (λ b. SpellsTop T t v b) (ap (λ (c : List ℕ). done ++ (c ++ (0 ∷ left))) (sym ec)
          ∙ sym (behind_nil done c left)) sp;
      fills = subst (λ b. FillsUncounted base M T t W b left fs m ms X)
          (ap (λ (c : List ℕ). done ++ (c ++ 0 ∷ [])) (sym ec) ∙ sym (nil_behind done c)) fl;
      low = low;
      inner_low = λ z. (let l = low_left (d' + k) m flow z in omega arith);
      fillings_low = low_right (d' + k) m flow;
      around = ar;
      whole = text.1;
    }

record Ended (U X : Table) (x g : List ℕ) : Type 0 where
  pub table : U ≡ X
  pub rest : x ≡ g

ended : {base : Table} {M : Bounds} {U X T : Table} {t : TypeId} {k : ℕ} {v w : Tree} {fs : Fillings}
    {done left ms g : List ℕ} (b x : List ℕ)
    → SpellsTop T t w (done ++ b) → SpellsTop T t v (done ++ left) → FillsUncounted base M T t U done left fs k ms X
    → b ++ x ≡ ms ++ g → Ended U X x g
ended {done = done} {left = left} {g = g} b x sq sp as_it_stands h = record {
  table = refl;
  rest = (same_top x g sq sp (further done b x ∙ ap (λ (l : List ℕ). done ++ l) h ∙ sym (further done left g))).rest;
}
ended {done = done} {g = g} b x sq sp (next_filled {s = s} {a = a} {e = e} {n = n} {f = f} {ms = ms} c ex some u defs
    may sg vs fl) h =
    let z = s ++ (e ++ (n ++ (f ++ (ms ++ g)))) in
    absurd (unmet s z some u (whole_meets_top (a ++ z) x sq ex (further done c (a ++ z)
    ∙ ap (λ (l : List ℕ). done ++ l) (sym (spread c a s e n f ms g) ∙ sym h) ∙ sym (further done b x))))

-- definitions that begin with one
record OneFirst (base : Table) (M : Bounds) (V table : Table) (x rest : List ℕ) : Type 0 where
  pub defs : Definitions
  pub e : List ℕ
  pub defined : AreDefinedUncounted base M V defs e table
  pub whole : x ≡ e ++ rest

one_first : {base : Table} {L M : Bounds} {U V table : Table} {id u : TypeId} {v : Tree} {ds : Definitions}
    {b e n : List ℕ} (x r : List ℕ) → Defines base L U id v b V → AreDefinedUncounted base M U ds e table
    → IsSigned (pos u.0) n → b ++ x ≡ e ++ (n ++ r) → OneFirst base M V table x (n ++ r)
one_first x r def none_defined sg h = not_defined r x def sg (sym h)
one_first {base = base} {M = M} {table = table} {n = n} x r def (one_defined {ds = ds} {b = b'} {c = c} def' defs) sg
    h =
    let one = same_definition x (c ++ (n ++ r)) def def' (h ∙ append_assoc b' c (n ++ r)) in
    record {
      defs = ds;
      e = c;
      defined = subst (λ T. AreDefinedUncounted base M T ds c table) (sym one.table) defs;
      whole = one.rest;
    }

-- the type itself first
record TypeFirst (U table : Table) (t u : TypeId) (x rest : List ℕ) : Type 0 where
  pub table_is : U ≡ table
  pub type : t ≡ u
  pub whole : x ≡ rest

pos_injective : {m n : ℕ} → pos m ≡ pos n → m ≡ n
pos_injective e = cc

type_first : {base : Table} {M : Bounds} {U table : Table} {t u : TypeId} {ds : Definitions} {e n n' : List ℕ}
    (x r : List ℕ) → IsSigned (pos t.0) n → AreDefinedUncounted base M U ds e table → IsSigned (pos u.0) n'
    → n ++ x ≡ e ++ (n' ++ r) → TypeFirst U table t u x r
type_first x r sg none_defined sg' h =
    let number = signed_prefix x r sg sg' h in
    record { table_is = refl; type = same_id (pos_injective number.value); whole = number.rest }
type_first {n' = n'} x r sg (one_defined {b = b} {c = c} def defs) sg' h =
    not_defined x (c ++ (n' ++ r)) def sg (h ∙ append_assoc b c (n' ++ r))

-- what is held goes on, and then what holds it
held : {base : Table} {M : Bounds} {A : Type 0} {U X : Table} {u : TypeId} {end limit k : ℕ} {w : Filled}
    {Around : Table → List ℕ → Type 0} {f : List ℕ} (x g : List ℕ) → SpellsUncounted base M U u w k f X
    → (A → k ≤ limit) → Around X g → x ≡ f ++ g
    → Goes base M A U (record { table = U; type = u; limit = limit; done = []; end = end }) Around x
held x g (with_fillings {v = v} {fs = fs} {d = d} {b = b} {ls = ls} sp fl) low ar h = record {
  value = v;
  rest = b;
  fillings = fs;
  depth_of = d;
  text = ls;
  behind = _;
  others = _;
  spelled = sp;
  fills = fl;
  low = low_left (depth v) d low;
  fillings_low = low_right (depth v) d low;
  around = ar;
  whole = h;
}

pub goes_on : {base : Table} {L M : Bounds} {A : Type 0} {T : Table} {offset : ℕ} {z : List ℕ} {U X : Table} {left : ℕ}
    {lv : Level} {levels : List Level} {next : Next} {w : Filled} {deepest : ℕ} {b : List ℕ} (x : List ℕ)
    → (p : Stands base L T offset z U (lv ∷ levels) next left)
    → SpellsUncounted base M T (type_of p) w deepest b X → (A → deepest ≤ L.depth) → b ≡ uncounted p ++ x
    → GoesOn base M A U lv levels next x
goes_on {b = b} x (at_value u l e s sg short may k) sp low h = held x [] sp low refl (sym h ∙ sym (append_nil b))
goes_on {U = U} x (behind_name {a = a} {lv = lv} c s p ex dl sh some u fit) sp low h =
    let r = goes_on ((c ++ (a ++ s)) ++ x) p sp low (h ∙ append_assoc (uncounted p) (c ++ (a ++ s)) x) in
    named c s x r.others r.spelled r.fills r.low r.fillings_low r.around ex some u r.whole
goes_on x (behind_definition {b = b} p def e k) sp low h =
    let r = goes_on (b ++ x) p sp low (h ∙ append_assoc (uncounted p) b x) in
    let one = one_first x (r.f ++ (r.text ++ r.others)) def r.defined r.names r.whole in
    record {
      defs = one.defs;
      table = r.table;
      type = r.type;
      inner = r.inner;
      inner_depth = r.inner_depth;
      e = one.e;
      n = r.n;
      f = r.f;
      held = r.held;
      value = r.value;
      rest = r.rest;
      fillings = r.fillings;
      depth_of = r.depth_of;
      text = r.text;
      behind = r.behind;
      others = r.others;
      defined = one.defined;
      may = r.may;
      names = r.names;
      spells = r.spells;
      spelled = r.spelled;
      fills = r.fills;
      low = r.low;
      inner_low = r.inner_low;
      fillings_low = r.fillings_low;
      around = r.around;
      whole = one.whole;
    }
goes_on {base = base} {M = M} {U = U} x (at_inner {n = n} {u = u} {d = d} p may sg k e l) sp low h =
    let r = goes_on (n ++ x) p sp low (h ∙ append_assoc (uncounted p) n x) in
    let one = type_first x (r.f ++ (r.text ++ r.others)) sg r.defined r.names r.whole in
    held x (r.text ++ r.others)
    (subst (λ T. SpellsUncounted base M T u r.inner r.inner_depth r.f r.held) (sym one.table_is)
    (subst (λ u. SpellsUncounted base M r.table u r.inner r.inner_depth r.f r.held) (sym one.type) r.spells))
    (λ z. (let l = r.inner_low z in omega arith)) (record {
      value = r.value;
      rest = r.rest;
      fillings = r.fillings;
      depth_of = r.depth_of;
      text = r.text;
      behind = r.behind;
      others = r.others;
      spelled = r.spelled;
      fills = r.fills;
      low = r.low;
      fillings_low = r.fillings_low;
      around = r.around;
      whole = refl;
    }) one.whole
goes_on {base = base} {M = M} {A = A} x (behind_inner {around = around} {levels = levels} b p sq de e) sp low h =
    let r = goes_on (b ++ x) p sp low (h ∙ append_assoc (uncounted p) b x) in
    let one = ended b x sq r.spelled r.fills r.whole in
    subst (λ X. Goes base M A X (filled_nil around) (Ends base M A levels) x) (sym one.table)
    (subst (λ g. Goes base M A r.behind (filled_nil around) (Ends base M A levels) g) (sym one.rest) r.around)
