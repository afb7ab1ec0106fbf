-- No spelling of a filled value begins another of its type from the same table; equal ones have equal values and
-- tables.
use Rattle.std.proofs.Common.{◌≡◌, ℕ, pos, negsuc, ◌+◌, ◌-◌, ◌<◌, List, [], ◌∷◌, ◌++◌, length, arith, refl, sym}
use Rattle.std.proofs.Common.{ap, ◌∙◌, subst, append_assoc}
use Rattle.gob_num.specs.Unsigned.{IsUnsigned}
use Rattle.gob_num.specs.Signed.{IsSigned}
use Rattle.gob_num.specs.Spelled.{Same}
use Rattle.gob_num.proofs.PublicLaws.{append_split, unsigned_prefix, signed_prefix, regroup}
use Rattle.gob_types.specs.declared.id.TypeId.{TypeId}
use Rattle.gob_types.specs.declared.kind.Shape.{Shape}
use Rattle.gob_types.specs.Table.{Table}
use Rattle.gob_value.specs.Tree.{Tree}
use Rattle.gob_value.specs.Top.{SpellsTop}
use Rattle.gob_value.proofs.PublicLaws.{same_spelling, same_top}
use Rattle.gob_value.proofs.LooseLaws.{one_loose_shape}
use Rattle.gob_read.specs.Expected.{a_number, nil}
use Rattle.gob_read.proofs.Grammar.Whole.{Meets}
use Rattle.gob_read.proofs.Grammar.Firsts.{not_allowed_not_met}
use Rattle.gob_read.proofs.Grammar.Compare.{whole_meets_top, unmet_once}
use Rattle.gob_read.proofs.Grammar.Prefixes.{same_end, append_nil}
use Rattle.gob_stream.specs.Bounds.{Bounds}
use Rattle.gob_filled.specs.Definition.{Defines, defines}
use Rattle.gob_value.specs.Loose.{DescribesLoosely}
use Rattle.gob_stream.proofs.PublicLaws.{same_id}
use Rattle.gob_filled.specs.Filled.{cut, Definitions, Filled, filled, Fillings, filling, AreSegments, last_segment}
use Rattle.gob_filled.specs.Filled.{next_segment, AreDefined, none_defined, one_defined, SpellsFilled, with_fillings}
use Rattle.gob_filled.specs.Filled.{Fills, as_it_stands, next_filled}
use Rattle.gob_filled.specs.Laws.{SameEnd}

negsuc_injective : {m n : ℕ} → negsuc m ≡ negsuc n → m ≡ n
negsuc_injective e = cc

pos_injective : {m n : ℕ} → pos m ≡ pos n → m ≡ n
pos_injective e = cc

pos_negsuc : {m n : ℕ} {A : Type 0} → pos m ≡ negsuc n → A
pos_negsuc e = cc

tail_equal : {z : ℕ} {xs ys : List ℕ} → z ∷ xs ≡ z ∷ ys → xs ≡ ys
tail_equal e = cc

no_more : {z : ℕ} {l : List ℕ} {A : Type 0} → z ∷ l ≡ [] → A
no_more e = cc

-- letters that begin no other have segments that begin no other
pub same_segments : {ls ms f g : List ℕ} (x y : List ℕ) → AreSegments ls f → AreSegments ms g
    → ((p q : List ℕ) → ls ++ p ≡ ms ++ q → p ≡ q)
    → f ++ x ≡ g ++ y → Same ls ms f g x y
same_segments x y (last_segment {c = c} s _ p) (last_segment {c = d} t _ q) h e =
    let r = unsigned_prefix (s ++ x) (t ++ y) p q (regroup c s x d t y e) in
    let u = append_split s t x y r.value r.rest in
    let eb : c ≡ d = r.bytes in let es : s ≡ t = u.0 in
    record { value = es; bytes = cc; rest = u.1 }
same_segments x y (last_segment {c = c} s _ p) (next_segment {c = d} {ls = ms} {f = g} t _ q qs) h e =
    let r = unsigned_prefix (s ++ x) ((t ++ g) ++ y) p q (regroup c s x d (t ++ g) y e) in
    let u = append_split s t x (g ++ y) r.value (r.rest ∙ append_assoc t g y) in
    let es : s ≡ t = u.0 in
    let no : cut ∷ ms ≡ [] = h (cut ∷ ms) [] (ap (λ (l : List ℕ). l ++ (cut ∷ ms)) es
    ∙ sym (append_nil (t ++ (cut ∷ ms)))) in
    no_more no
same_segments x y (next_segment {c = c} {ls = ls} {f = f} s _ p ps) (last_segment {c = d} t _ q) h e =
    let r = unsigned_prefix ((s ++ f) ++ x) (t ++ y) p q (regroup c (s ++ f) x d t y e) in
    let u = append_split s t (f ++ x) y r.value (sym (append_assoc s f x) ∙ r.rest) in
    let es : s ≡ t = u.0 in
    let no : [] ≡ cut ∷ ls = h [] (cut ∷ ls) (append_nil (s ++ (cut ∷ ls)) ∙ ap (λ (l : List ℕ). l ++ (cut ∷ ls)) es) in
    no_more (sym no)
same_segments x y (next_segment {c = c} {ls = ls} {f = f} s _ p ps)
    (next_segment {c = d} {ls = ms} {f = g} t _ q qs) h e =
    let r = unsigned_prefix ((s ++ f) ++ x) ((t ++ g) ++ y) p q (regroup c (s ++ f) x d (t ++ g) y e) in
    let u = append_split s t (f ++ x) (g ++ y) r.value (sym (append_assoc s f x) ∙ r.rest ∙ append_assoc t g y) in
    let es : s ≡ t = u.0 in
    let eb : c ≡ d = r.bytes in
    let tails : (p q : List ℕ) → ls ++ p ≡ ms ++ q → p ≡ q = λ p q k. h p q
    (append_assoc s (cut ∷ ls) p ∙ behind s t (ls ++ p) (ms ++ q) es k ∙ sym (append_assoc t (cut ∷ ms) q)) in
    let v = same_segments x y ps qs tails u.1 in
    let el : ls ≡ ms = v.value in let ef : f ≡ g = v.bytes in
    record { value = cc; bytes = cc; rest = v.rest }
  where
    behind : (s t x y : List ℕ) → s ≡ t → x ≡ y → s ++ (cut ∷ x) ≡ t ++ (cut ∷ y)
    behind s t x y e f = cc

-- one definition, where something stands behind it
pub record OneDefined (id other : TypeId) (v w : Tree) (b c x y : List ℕ) (U V : Table) : Type 0 where
  pub id_is : id ≡ other
  pub value : v ≡ w
  pub bytes : b ≡ c
  pub rest : x ≡ y
  pub table : U ≡ V

one_behind : (T : Table) {t u : TypeId} {r s : Shape} → t ≡ u → r ≡ s → T ++ (t, r) ∷ [] ≡ T ++ (u, s) ∷ []
one_behind T e f = cc

pub one_loosely : {t u : TypeId} {v w : Tree} {r s : Shape} → DescribesLoosely t v r → DescribesLoosely u w s → v ≡ w
    → r ≡ s
one_loosely {u = u} {s = s} d e h = one_loose_shape d (subst (λ v. DescribesLoosely u v s) (sym h) e)

pub same_definition : {base : Table} {L M : Bounds} {T U V : Table} {id other : TypeId} {v w : Tree} {b c : List ℕ}
    (x y : List ℕ)
    → Defines base L T id v b U → Defines base M T other w c V → b ++ x ≡ c ++ y → OneDefined id other v w b c x y U V
same_definition {T = T} x y (defines {id = t} {n = m} {v = v} {s = r} {a = a} {b = b} may de d i s k)
    (defines {id = u} {n = n} {v = w} {s = r'} {a = a'} {b = b'} may' de' d' i' s' k') e =
    let number = signed_prefix (b ++ x) (b' ++ y) s s' (regroup a b x a' b' y e) in
    let one : t ≡ u = same_id (i ∙ ap (λ n. n + 1) (negsuc_injective number.value) ∙ sym i') in
    let said = same_spelling x y k k' number.rest in
    let shape : r ≡ r' = one_loosely d d' said.value in
    let ea : a ≡ a' = number.bytes in let eb : b ≡ b' = said.bytes in
    record { id_is = one; value = said.value; bytes = two ea eb; rest = said.rest; table = one_behind T one shape }
  where
    two : {a b c d : List ℕ} → a ≡ c → b ≡ d → a ++ b ≡ c ++ d
    two e f = cc

-- the type number of a definition is below 0
pub not_defined : {base : Table} {L : Bounds} {T U : Table} {id : TypeId} {v : Tree} {b p : List ℕ} {m : ℕ} {A : Type 0}
    (x y : List ℕ)
    → Defines base L T id v b U → IsSigned (pos m) p → p ++ x ≡ b ++ y → A
not_defined x y (defines {a = a} {b = b} may de d i s k) p e =
    pos_negsuc (signed_prefix x (b ++ y) p s (e ∙ append_assoc a b y)).value

-- definitions, and behind them the id of the concrete type
same_defined : {base : Table} {L : Bounds} {T U V : Table} {ds es : Definitions} {b c p q : List ℕ} {m n : ℕ}
    (x y : List ℕ)
    → AreDefined base L T ds b U → IsSigned (pos m) p
    → AreDefined base L T es c V → IsSigned (pos n) q → b ++ (p ++ x) ≡ c ++ (q ++ y)
    → SameEnd ds es b c (p ++ x) (q ++ y) U V
same_defined x y none_defined p none_defined q e = record { value = refl; bytes = refl; rest = e; table = refl }
same_defined {q = q'} x y none_defined p (one_defined {b = b} {c = c} o d ds) q e =
    not_defined x ((cut ∷ c) ++ (q' ++ y)) d p (e ∙ append_assoc b (cut ∷ c) (q' ++ y))
same_defined {p = p'} x y (one_defined {b = b} {c = c} o d ds) p none_defined q e =
    not_defined y ((cut ∷ c) ++ (p' ++ x)) d q (sym e ∙ append_assoc b (cut ∷ c) (p' ++ x))
same_defined {base = base} {L = L} {V = V} {p = p'} {q = q'} x y
    (one_defined {id = t} {v = v} {ds = ds} {b = b} {c = c} o d ps) p
    (one_defined {id = u} {v = w} {ds = es} {b = b'} {c = c'} o' d' qs) q e =
    let one = same_definition ((cut ∷ c) ++ (p' ++ x)) ((cut ∷ c') ++ (q' ++ y)) d d'
    (regroup b (cut ∷ c) (p' ++ x) b' (cut ∷ c') (q' ++ y) e) in
    let rest = same_defined x y ps p (subst (λ T. AreDefined base L T es c' V) (sym one.table) qs) q
    (tail_equal one.rest) in
    let et : t ≡ u = one.id_is in let ev : v ≡ w = one.value in let ed : ds ≡ es = rest.value in
    let eb : b ≡ b' = one.bytes in let ec : c ≡ c' = rest.bytes in
    record { value = cc; bytes = cc; rest = rest.rest; table = rest.table }

-- a name stands where nil is expected, so nil doesn't
pub unmet : (s : List ℕ) {a : List ℕ} (x : List ℕ) → 0 < length s → IsUnsigned (length s) a
    → ¬ Meets (a_number nil) (a ++ x)
unmet s x l u = not_allowed_not_met x u (λ e. omega arith)

spread : (c a q m x : List ℕ) → (c ++ ((a ++ q) ++ m)) ++ x ≡ c ++ (a ++ ((q ++ m) ++ x))
spread c a q m x = simp append_assoc

pub further : (done c z : List ℕ) → (done ++ c) ++ z ≡ done ++ (c ++ z)
further done c z = append_assoc done c z

content : (s e n f m x : List ℕ) → ((s ++ (e ++ (n ++ f))) ++ m) ++ x ≡ s ++ (e ++ (n ++ (f ++ (m ++ x))))
content s e n f m x = simp append_assoc

behind_nil : (done c left : List ℕ) → done ++ (c ++ (0 ∷ left)) ≡ (done ++ (c ++ 0 ∷ [])) ++ left
behind_nil done c left = simp append_assoc

joined : {s s' a a' e e' n n' f f' m m' c c' : List ℕ} → c ≡ c' → a ≡ a' → s ≡ s' → e ≡ e' → n ≡ n' → f ≡ f' → m ≡ m'
    → c ++ ((a ++ (s ++ (e ++ (n ++ f)))) ++ m) ≡ c' ++ ((a' ++ (s' ++ (e' ++ (n' ++ f')))) ++ m')
joined o p q r s t u = cc

filled_alike : {v w : Tree} {fs gs : Fillings} → v ≡ w → fs ≡ gs → filled v fs ≡ filled w gs
filled_alike e f = cc

filling_alike : {k l : ℕ} {s s' : List ℕ} {ds ds' : Definitions} {u u' : TypeId} {v v' : Filled} {fs gs : Fillings}
    → k ≡ l
    → s ≡ s' → ds ≡ ds' → u ≡ u' → v ≡ v' → fs ≡ gs
    → filling k s ds u v fs ≡ filling l s' ds' u' v' gs
filling_alike e f g h i j = cc

-- what is left of two spellings, filled, is one
record SameFills (left other : List ℕ) (fs gs : Fillings) (ls ms x y : List ℕ) (U V : Table) : Type 0 where
  pub left_is : left ≡ other
  pub fillings : fs ≡ gs
  pub letters : ls ≡ ms
  pub rest : x ≡ y
  pub table : U ≡ V

mutual
  pub same_filled : {base : Table} {L : Bounds} {T U V : Table} {t : TypeId} {limit most : ℕ} {v w : Filled}
      {b c : List ℕ} (x y : List ℕ)
      → SpellsFilled base L T t limit v b U → SpellsFilled base L T t most w c V → b ++ x ≡ c ++ y
      → SameEnd v w b c x y U V
  same_filled x y (with_fillings {v = v} {fs = fs} {b = b} sp de fl)
      (with_fillings {v = w} {fs = gs} {b = c} sq de' gl) h =
      let r = same_fills {done = []} x y sp sq fl gl h in
      let tree : v ≡ w = (same_top [] [] sp sq (ap (λ (l : List ℕ). l ++ []) r.left_is)).value in
      record { value = filled_alike tree r.fillings; bytes = r.letters; rest = r.rest; table = r.table }

  same_fills : {base : Table} {L : Bounds} {T U X Y : Table} {t : TypeId} {limit most : ℕ} {v w : Tree}
      {done left other ls ms : List ℕ} {fs gs : Fillings} (x y : List ℕ)
      → SpellsTop T t v (done ++ left) → SpellsTop T t w (done ++ other) → Fills base L T t limit U done left fs ls X
      → Fills base L T t most U done other gs ms Y
      → ls ++ x ≡ ms ++ y → SameFills left other fs gs ls ms x y X Y
  same_fills {done = done} {left = left} {other = other} x y sp sq (as_it_stands ob) (as_it_stands ob') h =
      let r = same_top x y sp sq (further done left x ∙ ap (λ (l : List ℕ). done ++ l) h ∙ sym (further done other y))
      in
      let one = same_end done left other r.bytes in
      record { left_is = one; fillings = refl; letters = one; rest = r.rest; table = refl }
  same_fills {done = done} {left = left} x y sp sq (as_it_stands ob)
      (next_filled {s = s} {a = a} {e = e} {n = n} {f = f} {ms = ms} c oc ex l o u ds may i vs g fl) h =
      let q = s ++ (e ++ (n ++ f)) in
      let z = (q ++ ms) ++ y in
      absurd (unmet s z l u (whole_meets_top (a ++ z) x sp ex
      (further done c (a ++ z) ∙ ap (λ (l : List ℕ). done ++ l) (sym (spread c a q ms y) ∙ sym h)
      ∙ sym (further done left x))))
  same_fills {done = done} {other = other} x y sp sq (next_filled {s = s} {a = a} {e = e} {n = n} {f = f}
      {ms = ms} c oc ex l o u ds may i vs g fl) (as_it_stands ob) h =
      let q = s ++ (e ++ (n ++ f)) in
      let z = (q ++ ms) ++ x in
      absurd (unmet s z l u (whole_meets_top (a ++ z) y sq ex
      (further done c (a ++ z) ∙ ap (λ (l : List ℕ). done ++ l) (sym (spread c a q ms x) ∙ h)
      ∙ sym (further done other y))))
  same_fills {base = base} {L = L} {T = T} {X = X} {Y = Y} {t = t} {most = most} {v = v} {w = w} {done = done} x y sp sq
      (next_filled {V = V} {W = W} {u = u} {d = d} {left = left} {s = s} {a = a} {e = e} {n = n} {f = f} {ls = ls}
      {ms = m} {ds = ds} {v = vf} {fs = fs} c oc ex l o p defs may i vs g fl)
      (next_filled {V = V'} {W = W'} {u = u'} {d = d'} {left = left'} {s = s'} {a = a'} {e = e'} {n = n'} {f = f'}
      {ls = ls'} {ms = m'} {ds = ds'} {v = wf} {fs = gs} c' oc' ex' l' o' p' defs' may' i' vs' g' gl) h =
      let z = ((s ++ (e ++ (n ++ f))) ++ m) ++ x in
      let z' = ((s' ++ (e' ++ (n' ++ f'))) ++ m') ++ y in
      let one = unmet_once (a ++ z) (a' ++ z') ex ex'
      (further done c (a ++ z) ∙ ap (λ (l : List ℕ). done ++ l)
      (sym (spread c a (s ++ (e ++ (n ++ f))) m x) ∙ h ∙ spread c' a' (s' ++ (e' ++ (n' ++ f'))) m' y)
      ∙ sym (further done c' (a' ++ z')))
      (unmet s z l p) (unmet s' z' l' p') in
      let ec : c ≡ c' = same_end done c c' one.bytes in
      let name = unsigned_prefix z z' p p' one.rest in
      let text = append_split s s' (e ++ (n ++ (f ++ (m ++ x)))) (e' ++ (n' ++ (f' ++ (m' ++ y)))) name.value
      (sym (content s e n f m x) ∙ name.rest ∙ content s' e' n' f' m' y) in
      let defined = same_defined (f ++ (m ++ x)) (f' ++ (m' ++ y)) defs i defs' i' text.1 in
      let number = signed_prefix (f ++ (m ++ x)) (f' ++ (m' ++ y)) i i' defined.rest in
      let type : u ≡ u' = same_id (pos_injective number.value) in
      let there : SpellsFilled base L V u (most - d') wf ls' W' =
      subst (λ u. SpellsFilled base L V u (most - d') wf ls' W') (sym type)
      (subst (λ T. SpellsFilled base L T u' (most - d') wf ls' W') (sym defined.table) vs') in
      let framed = same_segments (m ++ x) (m' ++ y) g g' (λ p q k. (same_filled p q vs there k).rest) number.rest in
      let inner = same_filled [] [] vs there (ap (λ (l : List ℕ). l ++ []) framed.value) in
      let behind : Fills base L T t most W (done ++ (c ++ 0 ∷ [])) left' gs m' Y =
      subst (λ c. Fills base L T t most W (done ++ (c ++ 0 ∷ [])) left' gs m' Y) (sym ec)
      (subst (λ W. Fills base L T t most W (done ++ (c' ++ 0 ∷ [])) left' gs m' Y) (sym inner.table) gl) in
      let next = same_fills x y (subst (λ b. SpellsTop T t v b) (behind_nil done c left) sp)
      (subst (λ b. SpellsTop T t w b) (behind_nil done c left')
      (subst (λ c. SpellsTop T t w (done ++ (c ++ (0 ∷ left')))) (sym ec) sq)) fl behind framed.rest in
      record {
        left_is = ended ec next.left_is;
        fillings = filling_alike (ap length one.bytes) text.0 defined.value type inner.value next.fillings;
        letters = joined ec name.bytes text.0 defined.bytes number.bytes framed.bytes next.letters;
        rest = next.rest;
        table = next.table;
      }
    where
      ended : {c c' left left' : List ℕ} → c ≡ c' → left ≡ left' → c ++ (0 ∷ left) ≡ c' ++ (0 ∷ left')
      ended e f = cc

pub same_counted : {base : Table} {L : Bounds} {T U V : Table} {t : TypeId} {limit most : ℕ} {v w : Filled}
    {ls ms f g : List ℕ} (x y : List ℕ)
    → SpellsFilled base L T t limit v ls U → AreSegments ls f → SpellsFilled base L T t most w ms V → AreSegments ms g
    → f ++ x ≡ g ++ y → SameEnd v w f g x y U V
same_counted x y p f q g h =
    let framed = same_segments x y f g (λ a b k. (same_filled a b p q k).rest) h in
    let inner = same_filled [] [] p q (ap (λ (l : List ℕ). l ++ []) framed.value) in
    record { value = inner.value; bytes = framed.bytes; rest = framed.rest; table = inner.table }
