-- Each item of a value stands, level by level, to its end.
use Rattle.std.proofs.Common.{◌≡◌, ℕ, ◌+◌, ◌-◌, ◌≤◌, List, [], ◌∷◌, ◌++◌, length, arith, refl, sym, ap, ◌∙◌, subst}
use Rattle.std.proofs.Common.{append_assoc, length-append}
use Rattle.gob_num.specs.Unsigned.{IsUnsigned, AreBytes}
use Rattle.gob_num.proofs.PublicLaws.{bytes_rest, bytes-append, unsigned_bytes, signed_unsigned}
use Rattle.gob_types.specs.declared.id.TypeId.{TypeId}
use Rattle.gob_types.specs.Table.{Table}
use Rattle.gob_value.specs.Tree.{Tree, depth}
use Rattle.gob_value.specs.Top.{SpellsTop}
use Rattle.gob_read.specs.Expected.{a_number, nil}
use Rattle.gob_read.specs.Expects.{ExpectsTop}
use Rattle.gob_read.specs.Viable.{IsShallow}
use Rattle.gob_read.proofs.Grammar.Deep.{expects_top_within, within_shallow}
use Rattle.gob_read.proofs.Grammar.Onward.{shallow_before}
use Rattle.gob_read.proofs.Grammar.Prefixes.{append_nil}
use Rattle.gob_stream.specs.Bounds.{Bounds}
use Rattle.gob_filled.specs.Filled.{cut, Definitions, Filled, Fillings, AreSegments, last_segment, next_segment}
use Rattle.gob_filled.specs.Filled.{AreDefined}
use Rattle.gob_filled.specs.Filled.{none_defined, one_defined, with_fillings, Fills, as_it_stands, next_filled}
use Rattle.gob_filled.specs.Stream.{putting, IsFilledItem, of_value, AreCounted, last_counted, next_counted}
use Rattle.gob_filled.specs.Standing.{Level, in_value, in_filling, IsNextCount, of_item, within, Stands, at_value}
use Rattle.gob_filled.specs.Standing.{behind_name, behind_definition, at_inner, behind_inner, IsWholeItem}
use Rattle.gob_filled.proofs.Sound.{Continues, to_the_end, with_more, More, segments_bytes}

-- what is read in a level ends within the level around it
abbrev Room : List Level → ℕ → Type 0
Room [] n = Unit {0}
Room (around ∷ levels) n = n ≤ around.end

-- within a level the item's bytes left stay as they are
abbrev Keeps : List Level → ℕ → ℕ → Type 0
Keeps [] left left' = Unit {0}
Keeps (around ∷ levels) left left' = left ≡ left'

no_cut : {A : Type 0} (s x : List ℕ) → AreBytes (s ++ (cut ∷ x)) → A
no_cut s x o = absurd (let l = (bytes_rest s (cut ∷ x) o).0 in omega arith)

-- bytes alone end the segment
record Plain (at end : ℕ) (ms g : List ℕ) : Type 0 where
  pub same : ms ≡ g
  pub ends : at + length ms ≡ end

plain : {M : List ℕ → List ℕ → Type 0} {at end : ℕ} {ms g : List ℕ} → AreBytes ms → Continues M at end ms g
    → Plain at end ms g
plain o (to_the_end s q e) = record { same = refl; ends = e }
plain o (with_more {ls = ls} s q e m) = no_cut s ls o

-- the place isn't behind the end
no_further : {M : List ℕ → List ℕ → Type 0} {at end : ℕ} {ms g : List ℕ} → Continues M at end ms g → at ≤ end
no_further (to_the_end s o e) = omega arith
no_further (with_more s o e m) = omega arith

record Split (M : List ℕ → List ℕ → Type 0) (at end : ℕ) (p q g : List ℕ) : Type 0 where
  pub rest : List ℕ
  pub whole : g ≡ p ++ rest
  pub continues : Continues M (at + length p) end q rest

cons_inj : {x y : ℕ} {l k : List ℕ} → x ∷ l ≡ y ∷ k → (x ≡ y) × (l ≡ k)
cons_inj e = (cc, cc)

-- bytes at the front stand in the segment
split_end : {M : List ℕ → List ℕ → Type 0} {at end : ℕ} (p q s : List ℕ) → p ++ q ≡ s → AreBytes s → at + length s ≡ end
    → Split M at end p q s
split_end p q s e o l = record {
  rest = q;
  whole = sym e;
  continues = to_the_end q
      (bytes_rest p q (subst AreBytes (sym e) o)) (omega (arith, ap length e, length-append p q));
}

record Later (p q s x : List ℕ) : Type 0 where
  pub tail : List ℕ
  pub prefix : s ≡ p ++ tail
  pub back : q ≡ tail ++ (cut ∷ x)

later : (p q s x : List ℕ) → AreBytes p → p ++ q ≡ s ++ (cut ∷ x) → Later p q s x
later [] q s x o e = record { tail = s; prefix = refl; back = e }
later (a ∷ p) q [] x o e = absurd (let h = (cons_inj e).0 in let l = o.0 in omega arith)
later (a ∷ p) q (b ∷ s) x o e =
    let h = cons_inj e in
    let r = later p q s x o.1 h.1 in
    record { tail = r.tail; prefix = two (sym h.0) r.prefix; back = r.back }
  where
    two : {x y : ℕ} {l k : List ℕ} → x ≡ y → l ≡ k → x ∷ l ≡ y ∷ k
    two e f = cc

split : {M : List ℕ → List ℕ → Type 0} {at end : ℕ} {ms g : List ℕ} (p q : List ℕ) → AreBytes p → p ++ q ≡ ms
    → Continues M at end ms g → Split M at end p q g
split p q o e (to_the_end s r l) = split_end p q s e r l
split {M = M} {at = at} {end = end} p q o e (with_more {ls = ls} {f = f} s r l m) =
    let k = later p q s ls o e in
    record {
      rest = k.tail ++ f;
      whole = ap (λ (x : List ℕ). x ++ f) k.prefix ∙ append_assoc p k.tail f;
      continues = subst (λ q. Continues M (at + length p) end q (k.tail ++ f)) (sym k.back)
          (with_more k.tail (bytes_rest p k.tail (subst AreBytes k.prefix r))
          (omega (arith, ap length k.prefix, length-append p k.tail)) m);
    }

record Cut (M : List ℕ → List ℕ → Type 0) (at end : ℕ) (b q g : List ℕ) : Type 0 where
  pub behind : List ℕ
  pub whole : g ≡ b ++ behind
  pub more : M q behind
  pub ends : at + length b ≡ end

at_cut : {M : List ℕ → List ℕ → Type 0} {at end : ℕ} {ms g : List ℕ} (b q : List ℕ) → AreBytes b → b ++ (cut ∷ q) ≡ ms
    → Continues M at end ms g → Cut M at end b q g
at_cut b q o e (to_the_end s r l) = no_cut b q (subst AreBytes (sym e) r)
at_cut {M = M} {at = at} {end = end} b q o e (with_more {ls = ls} {f = f} s r l m) =
    let k = later b (cut ∷ q) s ls o e in
    by k.tail k.prefix k.back
  where
    by : (t : List ℕ) → s ≡ b ++ t → cut ∷ q ≡ t ++ (cut ∷ ls) → Cut M at end b q (s ++ f)
    by [] h j = record {
      behind = f;
      whole = ap (λ (x : List ℕ). x ++ f) (h ∙ append_nil b);
      more = subst (λ x. M x f) (sym (cons_inj j).1) m;
      ends = omega (arith, ap length h, length-append b []);
    }
    by (x ∷ t) h j = absurd (let c = (cons_inj j).0 in let l = (bytes_rest b (x ∷ t) (subst AreBytes h r)).0 in
        omega arith)

-- the next segment, from its count on
record Opened (L : Bounds) (left : ℕ) (levels : List Level) (from : ℕ) (q f : List ℕ) : Type 0 where
  pub count : List ℕ
  pub rest : List ℕ
  pub end : ℕ
  pub left' : ℕ
  pub whole : f ≡ count ++ rest
  pub counts : IsNextCount L from left levels count end left'
  pub keeps : Keeps levels left left'
  pub continues : Continues (More L left' levels end) (from + length count) end q rest

opened : {L : Bounds} {left from : ℕ} {q f : List ℕ} (levels : List Level) → More L left levels from q f
    → Room levels (from + length f) → Opened L left levels from q f
opened {L = L} {left = left} {from = from} [] (last_counted {c = c} s o u l k) r =
    record {
      count = c;
      rest = s;
      end = from + length c + length s;
      left' = left - length s;
      whole = refl;
      counts = of_item u l refl (omega (arith, length-append c s)) refl;
      keeps = tt;
      continues =
          to_the_end s o (omega arith);
    }
opened {L = L} {left = left} {from = from} [] (next_counted {c = c} {ls = ls} {f = f} s o u l k n cs) r =
    record {
      count = c;
      rest = s ++ f;
      end = from + length c + length s;
      left' = left - length s;
      whole = refl;
      counts = of_item u l refl (omega (arith, length-append c s)) refl;
      keeps = tt;
      continues = with_more s o (omega arith) (subst (λ n. AreCounted L (left - length s) n ls f)
          (omega (arith, length-append c s)) cs);
    }
opened {left = left} {from = from} (around ∷ levels) (last_segment {c = c} s o u) r =
    record {
      count = c;
      rest = s;
      end = from + length c + length s;
      left' = left;
      whole = refl;
      counts = within u refl (omega (arith, length-append c s));
      keeps = refl;
      continues =
          to_the_end s o (omega arith);
    }
opened {left = left} {from = from} (around ∷ levels) (next_segment {c = c} {f = f} s o u m) r =
    record {
      count = c;
      rest = s ++ f;
      end = from + length c + length s;
      left' = left;
      whole = refl;
      counts = within u refl (omega (arith, length-append c (s ++ f), length-append s f));
      keeps = refl;
      continues =
          with_more s o (omega arith) m;
    }

-- the definitions are read
record Defined (base : Table) (L : Bounds) (T : Table) (offset : ℕ) (V : Table) (lv : Level) (levels : List Level)
    (d left : ℕ) (q b : List ℕ) : Type 0 where
  pub read : List ℕ
  pub rest : List ℕ
  pub end : ℕ
  pub left' : ℕ
  pub stands : Stands base L T offset read V (record lv { end = end } ∷ levels) (in_filling d) left'
  pub continues : Continues (More L left' levels end) (offset + length read) end q rest
  pub keeps : Keeps levels left left'
  pub whole : read ++ rest ≡ b

keeps_all : (levels : List Level) (a b c : ℕ) → Keeps levels a b → Keeps levels b c → Keeps levels a c
keeps_all [] a b c p q = tt
keeps_all (around ∷ levels) a b c p q = p ∙ q

keeps_none : (levels : List Level) (a : ℕ) → Keeps levels a a
keeps_none [] a = tt
keeps_none (around ∷ levels) a = refl

room_as : (levels : List Level) {m n : ℕ} → m ≡ n → Room levels m → Room levels n
room_as [] e r = tt
room_as (around ∷ levels) e r = omega arith

defined : {base : Table} {L : Bounds} {T : Table} {offset : ℕ} {U V : Table} {ds : Definitions} {lv : Level}
    {levels : List Level} {d left : ℕ} {z e g ms : List ℕ} (q : List ℕ)
    → AreDefined base L U ds e V → Stands base L T offset z U (lv ∷ levels) (in_filling d) left → e ++ q ≡ ms
    → Continues (More L left levels lv.end) (offset + length z) lv.end ms g
    → Room levels (offset + length (z ++ g)) → Defined base L T offset V lv levels d left q (z ++ g)
defined {L = L} {offset = offset} {lv = lv} {levels = levels} {left = left} {z = z} {g = g} q none_defined p f c r =
    record {
      read = z;
      rest = g;
      end = _;
      left' = left;
      stands = p;
      continues = subst (λ l. Continues (More L left levels lv.end) (offset + length z) lv.end l g) (sym f) c;
      keeps =
          keeps_none levels left;
      whole = refl;
    }
defined {base = base} {L = L} {T = T} {offset = offset} {lv = lv} {levels = levels} {d = d} {left = left} {z = z}
    {g = g} q (one_defined {U = U} {V = V} {b = b} {c = e'} ob def ds) p f c r =
    let k = at_cut b (e' ++ q) ob (sym (append_assoc b (cut ∷ e') q) ∙ f) c in
    let o = opened levels k.more (room_as levels (let n = k.ends in
    omega (arith, ap length k.whole, length-append z g, length-append b k.behind)) r) in
    let read = z ++ (b ++ o.count) in
    let all : read ++ o.rest ≡ z ++ g = regrouped z b o.count o.rest ∙ ap (λ (l : List ℕ). z ++ (b ++ l)) (sym o.whole)
    ∙ ap (λ (l : List ℕ). z ++ l) (sym k.whole) in
    let stands = behind_definition p def (let n = k.ends in omega (arith, length-append z b)) o.counts in
    let next = defined q ds stands refl (at_place (let n = k.ends in
    omega (arith, length-append z (b ++ o.count), length-append b o.count)) o.continues)
    (room_as levels (ap (λ (l : List ℕ). offset + length l) (sym all)) r) in
    record {
      read = next.read;
      rest = next.rest;
      end = next.end;
      left' = next.left';
      stands = next.stands;
      continues = next.continues;
      keeps = keeps_all levels left o.left' next.left' o.keeps next.keeps;
      whole =
          next.whole ∙ all;
    }
  where
    regrouped : (z b c g : List ℕ) → (z ++ (b ++ c)) ++ g ≡ z ++ (b ++ (c ++ g))
    regrouped z b c g = simp append_assoc

    at_place : {M : List ℕ → List ℕ → Type 0} {at from end : ℕ} {ms g : List ℕ} → at ≡ from → Continues M at end ms g
        → Continues M from end ms g
    at_place {M = M} {end = end} {ms = ms} {g = g} e c = subst (λ n. Continues M n end ms g) e c

abbrev level : Table → TypeId → ℕ → List ℕ → ℕ → Level
level T t limit done end = record { table = T; type = t; limit = limit; done = done; end = end }

-- the level is read to its end
record LevelStands (base : Table) (L : Bounds) (T : Table) (offset : ℕ) (S : Table) (t : TypeId) (limit : ℕ)
    (levels : List Level) (left : ℕ) (v : Tree) (X : Table) (b : List ℕ) : Type 0 where
  pub before : List ℕ
  pub rest : List ℕ
  pub done : List ℕ
  pub end : ℕ
  pub left' : ℕ
  pub stands : Stands base L T offset before X (level S t limit done end ∷ levels) in_value left'
  pub spelled : SpellsTop S t v (done ++ rest)
  pub ends : offset + length (before ++ rest) ≡ end
  pub keeps : Keeps levels left left'
  pub whole : before ++ rest ≡ b

at_place : {M : List ℕ → List ℕ → Type 0} {at from end : ℕ} {ms g : List ℕ} → at ≡ from → Continues M at end ms g
    → Continues M from end ms g
at_place {M = M} {end = end} {ms = ms} {g = g} e c = subst (λ n. Continues M n end ms g) e c

le_then : {a b c : ℕ} → a ≤ b → b ≤ c → a ≤ c
le_then p q = omega arith

place_is : (offset : ℕ) (z p : List ℕ) → (offset + length z) + length p ≡ offset + length (z ++ p)
place_is offset z p = omega (arith, length-append z p)

fit_in : (offset end : ℕ) (z p : List ℕ) → (offset + length z) + length p ≤ end → offset + length (z ++ p) ≤ end
fit_in offset end z p l = omega (arith, length-append z p)

typed_fit : (offset end m : ℕ) (z n c g f : List ℕ) → f ≡ c ++ g → m ≤ length g
    → (offset + length z) + length (n ++ f) ≤ end → offset + length (z ++ (n ++ c)) + m ≤ end
typed_fit offset end m z n c g f e l k = omega (
  arith,
  ap length e,
  length-append z (n ++ c),
  length-append n c,
  length-append n f,
  length-append c g,
)

from_is : (offset : ℕ) (z n c : List ℕ) → (offset + length (z ++ n)) + length c ≡ offset + length (z ++ (n ++ c))
from_is offset z n c = omega (arith, length-append z (n ++ c), length-append n c, length-append z n)

room_in : (offset end : ℕ) (z n c g f : List ℕ) → f ≡ c ++ g → (offset + length z) + length (n ++ f) ≤ end
    → offset + length ((z ++ (n ++ c)) ++ g) ≤ end
room_in offset end z n c g f e k = omega (
  arith,
  ap length e,
  length-append (z ++ (n ++ c)) g,
  length-append z (n ++ c),
  length-append n c,
  length-append n f,
  length-append c g,
)

moved : (offset : ℕ) (a b c : List ℕ) → c ≡ a ++ b → (offset + length a) + length b ≡ offset + length c
moved offset a b c e = omega (arith, ap length e, length-append a b)

-- the segments of an inner value, from the first count on
record Inner (from : ℕ) (ls f : List ℕ) : Type 0 where
  pub announced : ℕ
  pub count : List ℕ
  pub rest : List ℕ
  pub whole : f ≡ count ++ rest
  pub counts : IsUnsigned announced count
  pub fits : announced ≤ length rest
  pub continues : Continues AreSegments (from + length count) (from + length count + announced) ls rest

inner : {ls f : List ℕ} (from : ℕ) → AreSegments ls f → Inner from ls f
inner from (last_segment {c = c} s o u) = record {
  announced = length s;
  count = c;
  rest = s;
  whole = refl;
  counts = u;
  fits = omega arith;
  continues = to_the_end s o (omega arith);
}
inner from (next_segment {c = c} {f = f} s o u m) = record {
  announced = length s;
  count = c;
  rest = s ++ f;
  whole = refl;
  counts = u;
  fits = omega (arith, length-append s f);
  continues = with_more s o (omega arith) m;
}

more_as : (L : Bounds) {left left' end at : ℕ} {ms g : List ℕ} (levels : List Level) → left ≡ left'
    → Continues (More L left levels end) at end ms g → Continues (More L left' levels end) at end ms g
more_as L {end = end} {at = at} {ms = ms} {g = g} levels e c =
    subst (λ n. Continues (More L n levels end) at end ms g) e c

letters_apart : (c a s e n f m : List ℕ) → (c ++ (a ++ s)) ++ (e ++ (n ++ (f ++ m))) ≡ c ++
    ((a ++ (s ++ (e ++ (n ++ f)))) ++ m)
letters_apart c a s e n f m = simp append_assoc

complete : {base : Table} {L : Bounds} {T : Table} {offset : ℕ} {S : Table} {t : TypeId} {limit : ℕ} {U : Table}
    {done left_ : List ℕ} {fs : Fillings} {ms : List ℕ} {X : Table} → Fills base L S t limit U done left_ fs ms X
    → {left end : ℕ} {now : List ℕ} {levels : List Level} {v : Tree} {z g : List ℕ}
    → Stands base L T offset z U (level S t limit now end ∷ levels) in_value left → SpellsTop S t v (done ++ left_)
    → now ≡ done → depth v ≤ limit
    → Continues (More L left levels end) (offset + length z) end ms g → Room levels (offset + length (z ++ g))
    → LevelStands base L T offset S t limit levels left v X (z ++ g)
complete {S = T₀} {t = t} (as_it_stands {left = rest} o) {left = left} {end = end} {now = now} {levels = levels} {v = v}
    {z = z} {g = g} p sp q de c r =
    let k = plain o c in
    record {
      before = z;
      rest = rest;
      done = now;
      end = end;
      left' = left;
      stands = p;
      spelled = subst (λ b. SpellsTop T₀ t v (b ++ rest)) (sym q) sp;
      ends =
          (let e = k.ends in omega (arith, length-append z rest));
      keeps = keeps_none levels left;
      whole =
          ap (λ (l : List ℕ). z ++ l) k.same;
    }
complete {base = base} {L = L} {T = T} {offset = offset} {S = T₀} {t = t} {limit = limit} {done = done}
    (next_filled {V = V} {W = W} {X = X} {u = u} {d = d} {left = rest} {s = s} {a = a} {e = e} {n = n} {f = f} {ls = ls}
    {ms = m} {fs = fs} c oc ex some os count ds may sg (with_fillings {v = w} {b = b} sp' de' fl') seg fl)
    {left = left} {end = end} {now = now} {levels = levels} {v = v} {z = z} {g = g} p sp q de k r =
    let name = c ++ (a ++ s) in
    let on = bytes-append c (a ++ s) oc (bytes-append a s (unsigned_bytes count) os) in
    let first = split name (e ++ (n ++ (f ++ m))) on (letters_apart c a s e n f m) k in
    let low = expects_top_within (0 ∷ rest) [] sp ex (append_assoc done c (0 ∷ rest)
    ∙ sym (append_nil (done ++ (c ++ (0 ∷ rest))))) in
    let ex' = subst (λ b. ExpectsTop T₀ t (b ++ c) (a_number nil) d) (sym q) ex in
    let shallow = subst (λ b. IsShallow T₀ t limit (b ++ c)) (sym q)
    (shallow_before (done ++ c) (0 ∷ rest) (subst (IsShallow T₀ t limit) (sym (append_assoc done c (0 ∷ rest)))
    (within_shallow sp de))) in
    let named = behind_name c s p ex' (le_then low de) shallow some count
    (fit_in offset end z name (no_further first.continues)) in
    let one : (z ++ name) ++ first.rest ≡ z ++ g = append_assoc z name first.rest
    ∙ ap (λ (l : List ℕ). z ++ l) (sym first.whole) in
    let defs = defined (n ++ (f ++ m)) ds named refl (at_place (place_is offset z name) first.continues)
    (room_as levels (ap (λ (l : List ℕ). offset + length l) (sym one)) r) in
    let of = segments_bytes seg in
    let number = n ++ f in
    let second = split number m (bytes-append n f (unsigned_bytes (signed_unsigned sg).1) of)
    (append_assoc n f m) defs.continues in
    let inside = inner (offset + length (defs.read ++ n)) seg in
    let after = no_further second.continues in
    let typed = at_inner defs.stands may sg inside.counts refl
    (typed_fit offset defs.end inside.announced defs.read n inside.count inside.rest f inside.whole inside.fits
    after) in
    let within = complete fl' typed sp' refl de' (segment (from_is offset defs.read n inside.count)
    (ap (λ (k : ℕ). k + inside.announced) (from_is offset defs.read n inside.count)) inside.continues)
    (room_in offset defs.end defs.read n inside.count inside.rest f inside.whole after) in
    let ended = behind_inner within.rest within.stands within.spelled de' within.ends in
    let read : within.before ++ within.rest ≡ defs.read ++ number = within.whole
    ∙ regrouped defs.read n inside.count inside.rest ∙ ap (λ (l : List ℕ). defs.read ++ (n ++ l))
    (sym inside.whole) in
    let all : (within.before ++ within.rest) ++ second.rest ≡ z ++ g =
    ap (λ (l : List ℕ). l ++ second.rest) read ∙ append_assoc defs.read number second.rest
    ∙ ap (λ (l : List ℕ). defs.read ++ l) (sym second.whole) ∙ defs.whole ∙ one in
    let last = complete fl ended (subst (λ b. SpellsTop T₀ t v b) (behind_nil done c rest) sp)
    (ap (λ (b : List ℕ). (b ++ c) ++ 0 ∷ []) q ∙ append_assoc done c (0 ∷ [])) de
    (more_as L levels within.keeps (at_place (moved offset defs.read number (within.before ++ within.rest) read)
    second.continues))
    (room_as levels (ap (λ (l : List ℕ). offset + length l) (sym all)) r) in
    record {
      before = last.before;
      rest = last.rest;
      done = last.done;
      end = last.end;
      left' = last.left';
      stands = last.stands;
      spelled = last.spelled;
      ends = last.ends;
      keeps = keeps_all levels left within.left' last.left' (keeps_all levels left defs.left' within.left' defs.keeps
          (keeps_by levels within.keeps)) last.keeps;
      whole = last.whole ∙ all;
    }
  where
    regrouped : (z n c g : List ℕ) → (z ++ (n ++ c)) ++ g ≡ z ++ (n ++ (c ++ g))
    regrouped z n c g = simp append_assoc

    behind_nil : (done c rest : List ℕ) → done ++ (c ++ (0 ∷ rest)) ≡ (done ++ (c ++ 0 ∷ [])) ++ rest
    behind_nil done c rest = simp append_assoc

    segment : {M : List ℕ → List ℕ → Type 0} {at from end to : ℕ} {ms g : List ℕ} → at ≡ from → end ≡ to
        → Continues M at end ms g → Continues M from to ms g
    segment {M = M} {from = from} {end = end} {ms = ms} {g = g} e f c =
        subst (λ n. Continues M from n ms g) f (at_place {M = M} {end = end} {ms = ms} {g = g} e c)

    keeps_by : (levels : List Level) {a b : ℕ} → a ≡ b → Keeps levels a b
    keeps_by [] e = tt
    keeps_by (around ∷ levels) e = e

pub stands_so : {base : Table} {L : Bounds} {T U : Table} {offset : ℕ} {t : TypeId} {w : Filled} {b : List ℕ}
    → IsFilledItem base L T offset (putting t w) b U → IsWholeItem base L T offset b U
stands_so {base = base} {L = L} {T = T} {U = U} {offset = offset} {t = t} {b = bytes}
    (of_value {a = a} {ls = ls} may sg (with_fillings {v = v} {b = b} sp de fl) cs) =
    by (opened {left = L.item} {from = offset} [] cs tt)
  where
    by : Opened L L.item [] offset (a ++ ls) bytes → IsWholeItem base L T offset bytes U
    by o = of_count o.counts
      where
        of_count : IsNextCount L offset L.item [] o.count o.end o.left' → IsWholeItem base L T offset bytes U
        of_count (of_item {m = m} u l e r q) =
            let first = split a ls (unsigned_bytes (signed_unsigned sg).1) refl o.continues in
            let start = at_value u l e r sg (let n = no_further first.continues in omega arith) may q in
            let all : (o.count ++ a) ++ first.rest ≡ bytes = append_assoc o.count a first.rest
            ∙ ap (λ (l : List ℕ). o.count ++ l) (sym first.whole) ∙ sym o.whole in
            let k = complete fl start sp refl de (at_place (omega (arith, length-append o.count a)) first.continues) tt
            in
            record {
              before = k.before;
              rest = k.rest;
              level = _;
              left = k.left';
              value = v;
              stands = k.stands;
              spelled = k.spelled;
              not_deep = de;
              ends = k.ends;
              whole = sym (k.whole ∙ all);
            }
