-- Bytes that stand as the item of a value to their end are the item of the value that they say: of the fillings of each
-- open value that were whole, and those that follow.
use Rattle.std.proofs.Common.{◌≡◌, ℕ, pos, ◌+◌, ◌-◌, ◌<◌, ◌≤◌, List, [], ◌∷◌, ◌++◌, length}
use Rattle.std.proofs.Common.{arith, refl, sym, ap, ◌∙◌, subst}
use Rattle.std.proofs.Common.{append_assoc, length-append}
use Rattle.gob_num.specs.Unsigned.{IsUnsigned, AreBytes}
use Rattle.gob_num.specs.Signed.{IsSigned}
use Rattle.gob_num.proofs.PublicLaws.{bytes_rest, bytes_prefix, bytes-append, unsigned_bytes}
use Rattle.gob_types.specs.declared.id.TypeId.{TypeId}
use Rattle.gob_types.specs.Table.{Table}
use Rattle.gob_value.specs.Tree.{Tree, depth}
use Rattle.gob_value.specs.Top.{SpellsTop}
use Rattle.gob_read.specs.Expected.{a_number, nil}
use Rattle.gob_read.specs.Expects.{ExpectsTop}
use Rattle.gob_stream.specs.Bounds.{Bounds}
use Rattle.gob_stream.specs.Body.{MayPut}
use Rattle.gob_filled.specs.Definition.{Defines}
use Rattle.gob_filled.specs.Filled.{cut, Definitions, no_definitions, definition, Filled, filled, Fillings, no_filling}
use Rattle.gob_filled.specs.Filled.{filling, AreSegments}
use Rattle.gob_filled.specs.Filled.{last_segment, next_segment, AreDefined, none_defined, one_defined, SpellsFilled}
use Rattle.gob_filled.specs.Filled.{with_fillings, Fills, as_it_stands, next_filled}
use Rattle.gob_filled.specs.Opens.{Open, nothing_said, and_filling, and_definition, named, defined, held_in, opens}
use Rattle.gob_filled.specs.Stream.{putting, IsFilledItem, of_value, AreCounted, last_counted, next_counted}
use Rattle.gob_filled.specs.Standing.{Level, new_level, Next, in_value, in_filling, IsNextCount, IsWholeItem}
use Rattle.gob_filled.specs.Standing.{of_item, within, Stands, at_value}
use Rattle.gob_filled.specs.Standing.{behind_name, behind_definition, at_inner, behind_inner}

abbrev appended : Fillings → Fillings → Fillings
appended no_filling gs = gs
appended (filling p s ds u w fs) gs = filling p s ds u w (appended fs gs)

appended_none : (fs : Fillings) → appended fs no_filling ≡ fs
appended_none no_filling = refl
appended_none (filling p s ds u w fs) = ap (λ gs. filling p s ds u w gs) (appended_none fs)

appended_one : (fs : Fillings) (p : ℕ) (s : List ℕ) (ds : Definitions) (u : TypeId) (w : Filled) (gs : Fillings)
    → appended fs (filling p s ds u w gs) ≡ appended (and_filling fs p s ds u w) gs
appended_one no_filling p s ds u w gs = refl
appended_one (filling q r es t v fs) p s ds u w gs = ap (λ hs. filling q r es t v hs) (appended_one fs p s ds u w gs)

abbrev both : Definitions → Definitions → Definitions
both no_definitions es = es
both (definition id v ds) es = definition id v (both ds es)

both_none : (ds : Definitions) → both ds no_definitions ≡ ds
both_none no_definitions = refl
both_none (definition id v ds) = ap (λ es. definition id v es) (both_none ds)

both_one : (ds : Definitions) (id : TypeId) (v : Tree) (es : Definitions)
    → both ds (definition id v es) ≡ both (and_definition ds id v) es
both_one no_definitions id v es = refl
both_one (definition i u ds) id v es = ap (λ fs. definition i u fs) (both_one ds id v es)

-- from this place on, in a segment that ends there, the letters are these bytes; what `More` says holds of the segments
-- behind it
pub data Continues (More : List ℕ → List ℕ → Type 0) (at end : ℕ) : List ℕ → List ℕ → Type 0 where
  to_the_end : (s : List ℕ) → AreBytes s → at + length s ≡ end → Continues More at end s s
  with_more : {ls f : List ℕ} (s : List ℕ) → AreBytes s → at + length s ≡ end → More ls f
      → Continues More at end (s ++ (cut ∷ ls)) (s ++ f)

-- the segments behind one that ends there: of the item, or within the level around
abbrev pub More : Bounds → ℕ → List Level → ℕ → List ℕ → List ℕ → Type 0
More L left [] end ls f = AreCounted L left end ls f
More L left (around ∷ levels) end ls f = AreSegments ls f

-- the bytes go on to the end of the level's value, which has these fillings more
record LevelEnds (base : Table) (L : Bounds) (More : List ℕ → List ℕ → Type 0) (U : Table) (lv : Level) (at : ℕ)
    (g : List ℕ) (X : Table) (value : Tree) (fillings : Fillings) : Type 0 where
  pub rest : List ℕ
  pub letters : List ℕ
  pub spelled : SpellsTop lv.table lv.type value (lv.done ++ rest)
  pub not_deep : depth value ≤ lv.limit
  pub fills : Fills base L lv.table lv.type lv.limit U lv.done rest fillings letters X
  pub continues : Continues More at lv.end letters g

-- from behind the name of what fills a nil of this depth: definitions, a type, its value, and what goes on behind it
record FillingEnds (base : Table) (L : Bounds) (More : List ℕ → List ℕ → Type 0) (U : Table) (lv : Level) (d at : ℕ)
    (g : List ℕ) (X : Table) (defs : Definitions) (type : TypeId) (inner : Filled) (value : Tree)
    (fillings : Fillings) : Type 0 where
  pub table : Table
  pub behind : Table
  pub e : List ℕ
  pub n : List ℕ
  pub ls : List ℕ
  pub f : List ℕ
  pub defined_ : AreDefined base L U defs e table
  pub may : MayPut table type
  pub names : IsSigned (pos type.0) n
  pub spells : SpellsFilled base L table type (lv.limit - d) inner ls behind
  pub segments : AreSegments ls f
  pub rest : List ℕ
  pub letters : List ℕ
  pub spelled : SpellsTop lv.table lv.type value (lv.done ++ (0 ∷ rest))
  pub not_deep : depth value ≤ lv.limit
  pub fills : Fills base L lv.table lv.type lv.limit behind (lv.done ++ 0 ∷ []) rest fillings letters X
  pub continues : Continues More at lv.end (e ++ (n ++ (f ++ letters))) g

abbrev filled_nil : Level → Level
filled_nil lv = record { table = lv.table; type = lv.type; limit = lv.limit; done = lv.done ++ 0 ∷ []; end = lv.end }

-- where the innermost value has ended behind the bytes z, those around it need but end too
abbrev Then : (base : Table) (L : Bounds) (T : Table) (offset : ℕ) → List ℕ → Table → List Level → List Open → ℕ
    → TypeId → Filled → Type 0
Then base L T offset z X [] os left u w = IsFilledItem base L T offset (putting u w) z X
Then base L T offset z X (around ∷ levels) [] left u w = Unit {0}
Then base L T offset z X (around ∷ levels) (o ∷ os) left u w = (g : List ℕ) (Y : Table) (v : Tree) (fs : Fillings)
    → LevelEnds base L (More L left levels around.end) X (filled_nil around) (offset + length z) g Y v fs
    → Then base L T offset (z ++ g) Y levels os left around.type
    (filled v (appended o.fillings (filling (length around.done) o.name o.definitions u w fs)))

abbrev Goes : (base : Table) (L : Bounds) (T : Table) (offset : ℕ) → List ℕ → Table → Level → List Level → Next
    → List Open → ℕ → Type 0
Goes base L T offset z U lv levels next [] left = Unit {0}
Goes base L T offset z U lv levels in_value (o ∷ os) left = (g : List ℕ) (X : Table) (v : Tree) (fs : Fillings)
    → LevelEnds base L (More L left levels lv.end) U lv (offset + length z) g X v fs
    → Then base L T offset (z ++ g) X levels os left lv.type (filled v (appended o.fillings fs))
Goes base L T offset z U lv levels (in_filling d) (o ∷ os) left = (g : List ℕ) (X : Table) (ds : Definitions)
    (u : TypeId) (w : Filled) (v : Tree) (fs : Fillings)
    → FillingEnds base L (More L left levels lv.end) U lv d (offset + length z) g X ds u w v fs
    → Then base L T offset (z ++ g) X levels os left lv.type
    (filled v (appended o.fillings (filling (length lv.done) o.name (both o.definitions ds) u w fs)))

-- bytes before what continues
before : {More : List ℕ → List ℕ → Type 0} {at from end : ℕ} {ms g : List ℕ} (p : List ℕ) → AreBytes p
    → from ≡ at + length p → Continues More from end ms g → Continues More at end (p ++ ms) (p ++ g)
before p o e (to_the_end s q k) = to_the_end (p ++ s) (bytes-append p s o q) (omega (arith, length-append p s))
before {More = More} {at = at} {end = end} p o e (with_more {ls = ls} {f = f} s q k m) =
    subst (λ l. Continues More at end l (p ++ (s ++ f))) (append_assoc p s (cut ∷ ls))
    (subst (λ l. Continues More at end ((p ++ s) ++ (cut ∷ ls)) l) (append_assoc p s f)
    (with_more (p ++ s) (bytes-append p s o q) (omega (arith, length-append p s)) m))

-- what continues in a segment from its start on, behind its count
starts : {at m end : ℕ} {c ms g : List ℕ} → IsUnsigned m c → end ≡ at + m → Continues AreSegments at end ms g
    → AreSegments ms (c ++ g)
starts {c = c} u e (to_the_end s o k) = last_segment s o (subst (λ n. IsUnsigned n c) (omega arith) u)
starts {c = c} u e (with_more s o k m) = next_segment s o (subst (λ n. IsUnsigned n c) (omega arith) u) m

starts_item : {L : Bounds} {at m end most left offset : ℕ} {c ms g : List ℕ} → IsUnsigned m c → m ≤ most
    → at ≡ offset + length c → end ≡ at + m → end ≤ L.stream → left ≡ most - m
    → Continues (AreCounted L left end) at end ms g → AreCounted L most offset ms (c ++ g)
starts_item {c = c} u l a e r k (to_the_end s o n) = last_counted s o (subst (λ n. IsUnsigned n c) (omega arith) u)
    (omega arith) (omega (arith, length-append c s))
starts_item {L = L} {end = end} {most = most} {left = left} {c = c} u l a e r k (with_more {ls = ls} {f = f} s o n m) =
    next_counted s o (subst (λ n. IsUnsigned n c) (omega arith) u) (omega arith) (omega (arith, length-append c s))
    (omega (arith, length-append c s))
    (subst (λ k. AreCounted L k end ls f) (omega arith) m)

pub segments_bytes : {ls f : List ℕ} → AreSegments ls f → AreBytes f
segments_bytes (last_segment {c = c} s o u) = bytes-append c s (unsigned_bytes u) o
segments_bytes (next_segment {c = c} {f = f} s o u m) = bytes-append c (s ++ f) (unsigned_bytes u)
    (bytes-append s f o (segments_bytes m))

continued_bytes : {at end : ℕ} {ms g : List ℕ} → Continues AreSegments at end ms g → AreBytes g
continued_bytes (to_the_end s o k) = o
continued_bytes (with_more {f = f} s o k m) = bytes-append s f o (segments_bytes m)

continues_as : {More : List ℕ → List ℕ → Type 0} {at end : ℕ} {ls ms g : List ℕ} → ls ≡ ms → Continues More at end ls g
    → Continues More at end ms g
continues_as {More = More} {at = at} {end = end} {g = g} e p = subst (λ l. Continues More at end l g) e p

spread : (c a s e n f m : List ℕ) → (c ++ (a ++ s)) ++ (e ++ (n ++ (f ++ m))) ≡ c ++
    ((a ++ (s ++ (e ++ (n ++ f)))) ++ m)
spread c a s e n f m = simp append_assoc

behind_cut : (b e n f m : List ℕ) → b ++ (cut ∷ (e ++ (n ++ (f ++ m)))) ≡ (b ++ (cut ∷ e)) ++ (n ++ (f ++ m))
behind_cut b e n f m = sym (append_assoc b (cut ∷ e) (n ++ (f ++ m)))

-- what follows the next count, from the count on
counted_more : {L : Bounds} {offset left left' end at : ℕ} {c ms g : List ℕ} (levels : List Level)
    → IsNextCount L offset left levels c end left' → at ≡ offset + length c
    → Continues (More L left' levels end) at end ms g → More L left levels offset ms (c ++ g)
counted_more [] (of_item u l e s k) a p = starts_item u l a (omega arith) s k p
counted_more (around ∷ levels) (within u e l) a p = starts u (omega arith) p

-- behind bytes that are read, and of the same value
then_as : (base : Table) (L : Bounds) (T X : Table) (offset left : ℕ) {y z : List ℕ} (levels : List Level)
    (os : List Open) (u : TypeId) {v w : Filled} → y ≡ z → v ≡ w → Then base L T offset y X levels os left u v
    → Then base L T offset z X levels os left u w
then_as base L T X offset left {z = z} levels os u {v = v} e f p =
    subst (λ w. Then base L T offset z X levels os left u w) f
    (subst (λ z. Then base L T offset z X levels os left u v) e p)

then_left : (base : Table) {L : Bounds} (T X : Table) {at left left' end : ℕ} (offset : ℕ) {c : List ℕ} (z : List ℕ)
    {levels : List Level} (os : List Open) (u : TypeId) (w : Filled) → IsNextCount L at left levels c end left'
    → Then base L T offset z X levels os left u w → Then base L T offset z X levels os left' u w
then_left base T X offset z os u w (of_item k l e s m) p = p
then_left base T X offset z os u w (within k e l) p = p

name_goes : (base : Table) (L : Bounds) (T : Table) (offset : ℕ) (z : List ℕ) {a : List ℕ} (U : Table) (left : ℕ)
    {d : ℕ}
    (lv : Level) (levels : List Level) (os : List Open) (c s : List ℕ) → AreBytes (z ++ (c ++ (a ++ s)))
    → ExpectsTop lv.table lv.type (lv.done ++ c) (a_number nil) d → 0 < length s → IsUnsigned (length s) a
    → Goes base L T offset z U lv levels in_value os left
    → Goes base L T offset (z ++ (c ++ (a ++ s))) U (record lv { done = lv.done ++ c }) levels (in_filling d)
    (named s os) left
name_goes base L T offset z U left lv levels [] c s o ex some u p = tt
name_goes base L T offset z {a = a} U left lv levels (q ∷ os) c s o ex some u p = λ g X ds t w v fs h.
    let all = bytes_rest z (c ++ (a ++ s)) o in
    let oc = bytes_prefix c (a ++ s) all in
    let bs = bytes_rest a s (bytes_rest c (a ++ s) all) in
    then_as base L T X offset left levels os lv.type (sym (append_assoc z (c ++ (a ++ s)) g)) refl
    (p ((c ++ (a ++ s)) ++ g) X v (filling (length (lv.done ++ c)) s ds t w fs) (record {
      rest = c ++ (0 ∷ h.rest);
      letters = c ++ ((a ++ (s ++ (h.e ++ (h.n ++ h.f)))) ++ h.letters);
      spelled = subst (λ b. SpellsTop lv.table lv.type v b) (append_assoc lv.done c (0 ∷ h.rest)) h.spelled;
      not_deep = h.not_deep;
      fills = next_filled c oc ex some bs u h.defined_ h.may h.names h.spells h.segments
          (subst (λ b. Fills base L lv.table lv.type lv.limit h.behind b h.rest fs h.letters X)
          (append_assoc lv.done c (0 ∷ [])) h.fills);
      continues = continues_as (spread c a s h.e h.n h.f h.letters)
          (before (c ++ (a ++ s)) all (omega (arith, length-append z (c ++ (a ++ s)))) h.continues);
    }))

definition_goes : {base : Table} {L : Bounds} (T : Table) (offset : ℕ) (z : List ℕ) {b c : List ℕ} {U V : Table}
    {left left' : ℕ} (d : ℕ) {end : ℕ} (lv : Level) {levels : List Level} {id : TypeId} {v : Tree} (os : List Open)
    → AreBytes (z ++ (b ++ c)) → Defines base L U id v b V → offset + length (z ++ b) ≡ lv.end
    → IsNextCount L lv.end left levels c end left'
    → Goes base L T offset z U lv levels (in_filling d) os left
    → Goes base L T offset (z ++ (b ++ c)) V (record lv { end = end }) levels (in_filling d) (defined id v os) left'
definition_goes T offset z d lv [] o def_ ends k p = tt
definition_goes {base = base} {L = L} T offset z {b = b} {c = c} {left = left} d lv {levels = levels} {id = id}
    {v = v} (q ∷ os) o def_ ends k p = λ g X ds t w y fs h.
    let all = bytes_rest z (b ++ c) o in
    let ob = bytes_prefix b c all in
    then_left base T X offset _ os lv.type _ k (then_as base L T X offset left levels os lv.type
    (ap (λ (l : List ℕ). z ++ l) (sym (append_assoc b c g)) ∙ sym (append_assoc z (b ++ c) g))
    (ap (λ es. filled y (appended q.fillings (filling (length lv.done) q.name es t w fs)))
    (both_one q.definitions id v ds))
    (p (b ++ (c ++ g)) X (definition id v ds) t w y fs (record {
      table = h.table;
      behind = h.behind;
      e = b ++ (cut ∷ h.e);
      n = h.n;
      ls = h.ls;
      f = h.f;
      defined_ = one_defined ob def_ h.defined_;
      may = h.may;
      names = h.names;
      spells = h.spells;
      segments = h.segments;
      rest = h.rest;
      letters = h.letters;
      spelled = h.spelled;
      not_deep = h.not_deep;
      fills = h.fills;
      continues = continues_as (behind_cut b h.e h.n h.f h.letters) (with_more b ob (omega (arith, length-append z b))
          (counted_more levels k (let at = ends in omega (
            arith,
            length-append z (b ++ c),
            length-append z b,
            length-append b c,
          )) h.continues));
    })))

inner_goes : {base : Table} {L : Bounds} (T : Table) (offset : ℕ) (z : List ℕ) {n c : List ℕ} {U : Table}
    (left d : ℕ) {m end : ℕ} (lv : Level) (levels : List Level) {u : TypeId} (os : List Open)
    → AreBytes (z ++ (n ++ c)) → MayPut U u → IsSigned (pos u.0) n → IsUnsigned m c
    → end ≡ offset + length (z ++ (n ++ c)) + m
    → Goes base L T offset z U lv levels (in_filling d) os left
    → Goes base L T offset (z ++ (n ++ c)) U (new_level U u (lv.limit - d) end) (lv ∷ levels) in_value
    (nothing_said ∷ os) left
inner_goes T offset z left d lv levels [] o may sg k e p = λ g X v fs h. tt
inner_goes {base = base} {L = L} T offset z {n = n} {c = c} left d lv levels {u = u} (q ∷ os) o may sg k e p = λ g X v
    fs h. λ g' Y v' fs' h'.
    let all = bytes_rest z (n ++ c) o in
    let og = continued_bytes h.continues in
    let f : AreSegments h.letters (c ++ g) = starts k e h.continues in
    let read = bytes-append n (c ++ g) (bytes_prefix n c all) (bytes-append c g (bytes_rest n c all) og) in
    then_as base L T Y offset left levels os lv.type (regrouped z n c g g')
    (ap (λ es. filled v' (appended q.fillings (filling (length lv.done) q.name es u (filled v fs) fs')))
    (both_none q.definitions))
    (p ((n ++ (c ++ g)) ++ g') Y no_definitions u (filled v fs) v' fs' (record {
      table = _;
      behind = X;
      e = [];
      n = n;
      ls = h.letters;
      f = c ++ g;
      defined_ = none_defined;
      may = may;
      names = sg;
      spells = with_fillings h.spelled h.not_deep h.fills;
      segments = f;
      rest = h'.rest;
      letters = h'.letters;
      spelled = subst (λ b. SpellsTop lv.table lv.type v' b) (append_assoc lv.done (0 ∷ []) h'.rest) h'.spelled;
      not_deep = h'.not_deep;
      fills = h'.fills;
      continues = continues_as (append_assoc n (c ++ g) h'.letters)
          (before (n ++ (c ++ g)) read (omega (
            arith,
            length-append (z ++ (n ++ c)) g,
            length-append z (n ++ c),
            length-append n c,
            length-append n (c ++ g),
            length-append c g,
          )) h'.continues);
    }))
  where
    regrouped : (z n c g h : List ℕ) → z ++ ((n ++ (c ++ g)) ++ h) ≡ ((z ++ (n ++ c)) ++ g) ++ h
    regrouped z n c g h = simp append_assoc

behind_goes : (base : Table) (L : Bounds) (T : Table) (offset : ℕ) (z : List ℕ) (U : Table) (left : ℕ)
    (lv around : Level) (levels : List Level) {v : Tree} (os : List Open) (b : List ℕ) → AreBytes (z ++ b)
    → SpellsTop lv.table lv.type v (lv.done ++ b) → depth v ≤ lv.limit → offset + length (z ++ b) ≡ lv.end
    → Goes base L T offset z U lv (around ∷ levels) in_value os left
    → Goes base L T offset (z ++ b) U (filled_nil around) levels in_value
    (held_in (length around.done) lv.type v os) left
behind_goes base L T offset z U left lv around levels [] b o sp de ends p = tt
behind_goes base L T offset z U left lv around levels (q ∷ []) b o sp de ends p = tt
behind_goes base L T offset z U left lv around levels {v = v} (q ∷ (r ∷ os)) b o sp de ends p = λ g X v' fs' h.
    then_as base L T X offset left levels os around.type refl
    (ap (λ fs. filled v' (appended r.fillings (filling (length around.done) r.name r.definitions lv.type (filled v fs)
    fs'))) (appended_none q.fillings)
    ∙ ap (λ gs. filled v' gs)
    (appended_one r.fillings (length around.done) r.name r.definitions lv.type (filled v q.fillings) fs'))
    (p b _ v no_filling (record {
      rest = b;
      letters = b;
      spelled = sp;
      not_deep = de;
      fills = as_it_stands (bytes_rest z b o);
      continues = to_the_end b (bytes_rest z b o) (omega (arith, length-append z b));
    }) g X v' fs' h)

standing : {base : Table} {L : Bounds} {T : Table} {offset : ℕ} {z : List ℕ} {U : Table} {left : ℕ} {lv : Level}
    {levels : List Level} {next : Next} → AreBytes z
    → (p : Stands base L T offset z U (lv ∷ levels) next left)
    → Goes base L T offset z U lv levels next (opens p) left
standing {base = base} {L = L} {T = T} {offset = offset} o (at_value {t = t} {m = m} {end = end} {c = c}
    {a = a} u l e s sg short may k) = λ g X v fs h.
    subst (λ z. IsFilledItem base L T offset (putting t (filled v fs)) z X) (sym (append_assoc c a g))
    (of_value may sg (with_fillings h.spelled h.not_deep h.fills)
    (starts_item {at = offset + length c} u l refl e s k (before a (bytes_rest c a o)
    (omega (arith, length-append c a)) h.continues)))
standing {base = base} {L = L} {T = T} {offset = offset} {U = U} {left = left} o (behind_name {z = z} {a = a} {lv = lv}
    {levels = levels} c s p ex dl sh some u fit) =
    name_goes base L T offset z U left lv levels (opens p) c s o ex some u
    (standing (bytes_prefix z (c ++ (a ++ s)) o) p)
standing {T = T} {offset = offset} o (behind_definition {z = z} {b = b} {c = c} {lv = lv} {d = d} p def_ ends k) =
    definition_goes T offset z d lv (opens p) o def_ ends k (standing (bytes_prefix z (b ++ c) o) p)
standing {T = T} {offset = offset} {left = left} o (at_inner {z = z} {n = n} {c = c} {lv = lv} {levels = levels} {d = d}
    p
    may sg k e fit) =
    inner_goes T offset z left d lv levels (opens p) o may sg k e (standing (bytes_prefix z (n ++ c) o) p)
standing {base = base} {L = L} {T = T} {offset = offset} {U = U} {left = left} o (behind_inner {z = z} {lv = lv}
    {around = around} {levels = levels} b p sp de ends) =
    behind_goes base L T offset z U left lv around levels (opens p) b o sp de ends (standing (bytes_prefix z b o) p)

-- bytes that stand to their end are the item of what they say
pub stands_as_item : {base : Table} {L : Bounds} {T : Table} {offset : ℕ} {z : List ℕ} {U : Table} {left : ℕ}
    {lv : Level} {v : Tree} {q : Open} {os : List Open} (rest : List ℕ) → AreBytes (z ++ rest)
    → (p : Stands base L T offset z U (lv ∷ []) in_value left) → opens p ≡ q ∷ os
    → SpellsTop lv.table lv.type v (lv.done ++ rest) → depth v ≤ lv.limit → offset + length (z ++ rest) ≡ lv.end
    → IsFilledItem base L T offset (putting lv.type (filled v q.fillings)) (z ++ rest) U
stands_as_item {base = base} {L = L} {T = T} {offset = offset} {z = z} {U = U} {left = left} {lv = lv} {v = v}
    {q = q} {os = os} rest o p said sp de ends =
    let or = bytes_rest z rest o in
    let goes : Goes base L T offset z U lv [] in_value (q ∷ os) left =
    subst (λ os. Goes base L T offset z U lv [] in_value os left) said (standing (bytes_prefix z rest o) p) in
    subst (λ fs. IsFilledItem base L T offset (putting lv.type (filled v fs)) (z ++ rest) U) (appended_none q.fillings)
    (goes rest U v no_filling (record {
      rest = rest;
      letters = rest;
      spelled = sp;
      not_deep = de;
      fills = as_it_stands or;
      continues = to_the_end rest or (omega (arith, length-append z rest));
    }))

-- ---- whole items
named_many : (s : List ℕ) (os : List Open) → length (named s os) ≡ length os
named_many s [] = refl
named_many s (o ∷ os) = refl

defined_many : (id : TypeId) (v : Tree) (os : List Open) → length (defined id v os) ≡ length os
defined_many id v [] = refl
defined_many id v (o ∷ os) = refl

held_many : (place : ℕ) (u : TypeId) (v : Tree) (os : List Open) (n : ℕ) → length os ≡ n + 2
    → length (held_in place u v os) ≡ n + 1
held_many place u v [] n e = absurd (omega (arith, e))
held_many place u v (o ∷ []) n e = absurd (omega (arith, e))
held_many place u v (o ∷ (p ∷ os)) n e = omega (arith, e)

-- something is said of each open value
opens_many : {base : Table} {L : Bounds} {T : Table} {offset : ℕ} {z : List ℕ} {U : Table} {levels : List Level}
    {next : Next} {left : ℕ} (p : Stands base L T offset z U levels next left) → length (opens p) ≡ length levels
opens_many (at_value u l e s sg short may k) = refl
opens_many (behind_name c s p ex dl sh some u fit) = named_many s (opens p) ∙ opens_many p
opens_many (behind_definition {id = id} {v = v} p def e k) = defined_many id v (opens p) ∙ opens_many p
opens_many (at_inner p may sg u e l) = let many = opens_many p in omega (arith, many)
opens_many (behind_inner {lv = lv} {around = around} {levels = levels} {v = v} b p sp de e) =
    let many = opens_many p in
    let held = held_many (length around.done) lv.type v (opens p) (length levels) (omega (arith, many)) in
    omega (arith, held)

item_read : {base : Table} {L : Bounds} {T U : Table} {offset : ℕ} {b : List ℕ}
    (k : IsWholeItem base L T offset b U) (os : List Open) → AreBytes (k.before ++ k.rest) → opens k.stands ≡ os
    → length os ≡ 1
    → (t : TypeId) × (w : Filled) × IsFilledItem base L T offset (putting t w) (k.before ++ k.rest) U
item_read k [] o said one = absurd (omega (arith, one))
item_read k (q ∷ os) o said one = (
  k.level.type,
  filled k.value q.fillings,
  stands_as_item k.rest o k.stands said k.spelled k.not_deep k.ends,
)

pub read_so : {base : Table} {L : Bounds} {T U : Table} {offset : ℕ} {b : List ℕ} → AreBytes b
    → IsWholeItem base L T offset b U
    → (t : TypeId) × (w : Filled) × IsFilledItem base L T offset (putting t w) b U
read_so {base = base} {L = L} {T = T} {U = U} {offset = offset} o k =
    let item = item_read k (opens k.stands) (subst AreBytes k.whole o) refl (opens_many k.stands) in (
      item.0,
      item.1,
      subst (λ z. IsFilledItem base L T offset (putting item.0 item.1) z U) (sym k.whole) item.2,
    )
