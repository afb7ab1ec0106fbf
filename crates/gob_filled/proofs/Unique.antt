-- A filled value has one spelling from a table, and tells the table behind it.
use Rattle.std.proofs.Common.{◌≡◌, ℕ, pos, negsuc, ◌-◌, List, [], ◌∷◌, ◌++◌, length, arith, refl, sym, ap, subst}
use Rattle.std.proofs.Common.{length-append}
use Rattle.gob_num.specs.Unsigned.{IsUnsigned, AreBytes}
use Rattle.gob_num.specs.Signed.{IsSigned}
use Rattle.gob_num.proofs.PublicLaws.{append_split, bytes_rest, unsigned_unique, signed_unique}
use Rattle.gob_types.specs.declared.id.TypeId.{TypeId}
use Rattle.gob_types.specs.declared.kind.Shape.{Shape}
use Rattle.gob_types.specs.Table.{Table}
use Rattle.gob_value.specs.Tree.{Tree}
use Rattle.gob_value.specs.Top.{SpellsTop}
use Rattle.gob_value.proofs.PublicLaws.{one_spelling, one_top}
use Rattle.gob_stream.specs.Bounds.{Bounds}
use Rattle.gob_filled.specs.Definition.{Defines, defines}
use Rattle.gob_filled.proofs.Prefix.{one_loosely}
use Rattle.gob_filled.specs.Filled.{cut, Definitions, Filled, filled, Fillings, no_filling, filling, AreSegments}
use Rattle.gob_filled.specs.Filled.{last_segment}
use Rattle.gob_filled.specs.Filled.{next_segment, AreDefined, none_defined, one_defined, SpellsFilled, with_fillings}
use Rattle.gob_filled.specs.Filled.{Fills, as_it_stands, next_filled}

pub record Only (b c : List ℕ) (U V : Table) : Type 0 where
  pub bytes : b ≡ c
  pub table : U ≡ V

-- the first cut stands at one place
cut_split : (s t x y : List ℕ) → AreBytes s → AreBytes t → s ++ (cut ∷ x) ≡ t ++ (cut ∷ y) → (s ≡ t) × (x ≡ y)
cut_split [] [] x y p q e = (refl, (let f : x ≡ y = cc in f))
cut_split [] (d ∷ t) x y p q e = absurd (let f : cut ≡ d = cc in let l = q.0 in omega arith)
cut_split (d ∷ s) [] x y p q e = absurd (let f : d ≡ cut = cc in let l = p.0 in omega arith)
cut_split (d ∷ s) (c ∷ t) x y p q e =
    let f : s ++ (cut ∷ x) ≡ t ++ (cut ∷ y) = cc in
    let r = cut_split s t x y p.1 q.1 f in
    ((let h : d ≡ c = cc in let g : s ≡ t = r.0 in cc), r.1)

no_cut : (s t x : List ℕ) → AreBytes s → s ≡ t ++ (cut ∷ x) → ⊥
no_cut s t x p e = let l = (bytes_rest t (cut ∷ x) (subst AreBytes e p)).0 in omega arith

pub one_framed : {ls ms f g : List ℕ} → AreSegments ls f → AreSegments ms g → ls ≡ ms → f ≡ g
one_framed (last_segment {c = c} s o p) (last_segment {c = d} t o' q) e =
    let n : c ≡ d = unsigned_unique p (subst (λ (l : List ℕ). IsUnsigned (length l) d) (sym e) q) in cc
one_framed (last_segment s o p) (next_segment {ls = ms} t o' q qs) e = absurd (no_cut s t ms o e)
one_framed (next_segment {ls = ls} s o p ps) (last_segment t o' q) e = absurd (no_cut t s ls o' (sym e))
one_framed (next_segment {c = c} {ls = ls} {f = f} s o p ps) (next_segment {c = d} {ls = ms} {f = g} t o' q qs) e =
    let r = cut_split s t ls ms o o' e in
    let es : s ≡ t = r.0 in
    let n : c ≡ d = unsigned_unique p (subst (λ (l : List ℕ). IsUnsigned (length l) d) (sym es) q) in
    let ef : f ≡ g = one_framed ps qs r.1 in cc

one_definition : {base : Table} {L : Bounds} {T U V : Table} {id : TypeId} {v : Tree} {b c : List ℕ}
    → Defines base L T id v b U → Defines base L T id v c V → Only b c U V
one_definition {T = T} (defines {id = t} {n = m} {v = v} {s = r} {a = a} {b = b} may de d i s k)
    (defines {n = n} {s = r'} {a = a'} {b = b'} may' de' d' i' s' k') =
    let number : n ≡ m = omega arith in
    let ea : a ≡ a' = signed_unique s (subst (λ n. IsSigned (negsuc n) a') number s') in
    let eb : b ≡ b' = one_spelling k k' in
    record { bytes = cc; table = ap (λ (r : Shape). T ++ (t, r) ∷ []) (one_loosely d d' refl) }

one_defs : {base : Table} {L : Bounds} {T U V : Table} {ds : Definitions} {b c : List ℕ} → AreDefined base L T ds b U
    → AreDefined base L T ds c V → Only b c U V
one_defs none_defined none_defined = record { bytes = refl; table = refl }
one_defs {base = base} {L = L} {V = V} (one_defined {ds = ds} {b = b} {c = c} o d ps)
    (one_defined {b = b'} {c = c'} o' d' qs) =
    let first = one_definition d d' in
    let rest = one_defs ps (subst (λ T. AreDefined base L T ds c' V) (sym first.table) qs) in
    let eb : b ≡ b' = first.bytes in let ec : c ≡ c' = rest.bytes in
    record { bytes = cc; table = rest.table }

-- what a filling is
record OneFilling (k l : ℕ) (s r : List ℕ) (ds es : Definitions) (t u : TypeId) (v w : Filled)
    (fs gs : Fillings) : Type 0 where
  pub place : k ≡ l
  pub name : s ≡ r
  pub defs : ds ≡ es
  pub type : t ≡ u
  pub value : v ≡ w
  pub others : fs ≡ gs

one_filling : {k l : ℕ} {s r : List ℕ} {ds es : Definitions} {t u : TypeId} {v w : Filled} {fs gs : Fillings}
    → filling k s ds t v fs ≡ filling l r es u w gs
    → OneFilling k l s r ds es t u v w fs gs
one_filling e = record { place = cc; name = cc; defs = cc; type = cc; value = cc; others = cc }

some_filling : {k : ℕ} {s : List ℕ} {ds : Definitions} {t : TypeId} {v : Filled} {fs : Fillings} {A : Type 0}
    → filling k s ds t v fs ≡ no_filling → A
some_filling e = cc

one_filled_is : {v w : Tree} {fs gs : Fillings} → filled v fs ≡ filled w gs → (v ≡ w) × (fs ≡ gs)
one_filled_is e = (cc, cc)

same_place : (done c c' : List ℕ) → length (done ++ c) ≡ length (done ++ c') → length c ≡ length c'
same_place done c c' e = omega (arith, length-append done c, length-append done c')

mutual
  pub one_filled : {base : Table} {L : Bounds} {T U V : Table} {t : TypeId} {limit most : ℕ} {v w : Filled}
      {b c : List ℕ}
      → SpellsFilled base L T t limit v b U → SpellsFilled base L T t most w c V → v ≡ w → Only b c U V
  one_filled {T = T} {t = t} (with_fillings {b = b} sp de fl) (with_fillings {b = c} sq de' gl) e =
      let same = one_filled_is e in
      one_fills fl gl (one_top sp (subst (λ v. SpellsTop T t v c) (sym same.0) sq)) same.1

  one_fills : {base : Table} {L : Bounds} {T U X Y : Table} {t : TypeId} {limit most : ℕ}
      {done left other ls ms : List ℕ} {fs gs : Fillings}
      → Fills base L T t limit U done left fs ls X → Fills base L T t most U done other gs ms Y → left ≡ other → fs ≡ gs
      → Only ls ms X Y
  one_fills (as_it_stands ob) (as_it_stands ob') e f = record { bytes = e; table = refl }
  one_fills (as_it_stands ob) (next_filled c oc ex l o u ds may i vs g fl) e f = some_filling (sym f)
  one_fills (next_filled c oc ex l o u ds may i vs g fl) (as_it_stands ob) e f = some_filling f
  one_fills {base = base} {L = L} {T = T} {U = U} {X = X} {Y = Y} {t = t} {most = most} {done = done}
      (next_filled {V = V} {W = W} {u = u} {d = d} {left = left} {s = s} {a = a} {e = e} {n = n} {f = f} {ls = ls}
      {ms = m} {ds = ds} {v = vf} {fs = fs} c oc ex l o p defs may i vs g fl)
      (next_filled {V = V'} {W = W'} {u = u'} {d = d'} {left = left'} {s = s'} {a = a'} {e = e'} {n = n'} {f = f'}
      {ls = ls'} {ms = m'} {ds = ds'} {v = wf} {fs = gs} c' oc' ex' l' o' p' defs' may' i' vs' g' gl) h k =
      let one = one_filling k in
      let places = append_split c c' (0 ∷ left) (0 ∷ left') (same_place done c c' one.place) h in
      let ec : c ≡ c' = places.0 in
      let es : s ≡ s' = one.name in
      let ea : a ≡ a' = unsigned_unique p (subst (λ (s : List ℕ). IsUnsigned (length s) a') (sym es) p') in
      let defined = one_defs defs (subst (λ ds. AreDefined base L U ds e' V') (sym one.defs) defs') in
      let ee : e ≡ e' = defined.bytes in
      let en : n ≡ n' = signed_unique i (subst (λ (u : TypeId). IsSigned (pos u.0) n') (sym one.type) i') in
      let inner = one_filled vs (subst (λ u. SpellsFilled base L V u (most - d') wf ls' W') (sym one.type)
      (subst (λ T. SpellsFilled base L T u' (most - d') wf ls' W') (sym defined.table) vs')) one.value in
      let ef : f ≡ f' = one_framed g g' inner.bytes in
      let behind : Fills base L T t most W (done ++ (c ++ 0 ∷ [])) left' gs m' Y =
      subst (λ c. Fills base L T t most W (done ++ (c ++ 0 ∷ [])) left' gs m' Y) (sym ec)
      (subst (λ W. Fills base L T t most W (done ++ (c' ++ 0 ∷ [])) left' gs m' Y) (sym inner.table) gl) in
      let next = one_fills fl behind (tail_equal places.1) one.others in
      record { bytes = joined ec ea es ee en ef next.bytes; table = next.table }
    where
      tail_equal : {xs ys : List ℕ} → 0 ∷ xs ≡ 0 ∷ ys → xs ≡ ys
      tail_equal e = cc

      joined : {s s' a a' e e' n n' f f' m m' c c' : List ℕ} → c ≡ c' → a ≡ a' → s ≡ s' → e ≡ e' → n ≡ n' → f ≡ f'
          → m ≡ m'
          → c ++ ((a ++ (s ++ (e ++ (n ++ f)))) ++ m) ≡ c' ++ ((a' ++ (s' ++ (e' ++ (n' ++ f')))) ++ m')
      joined o p q r s t u = cc
