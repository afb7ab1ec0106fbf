-- A value that is whole with its segment fills the nil of the one around it, and the last one is that of the item.
use Rattle.std.proofs.Common.{◌≡◌, ℕ, ◌+◌, ◌≤◌, List, [], ◌∷◌, ◌++◌, length, Ok, Err, Bool, true, false, IsTrue, arith}
use Rattle.std.proofs.Common.{refl, sym, ap, ◌∙◌, subst}
use Rattle.gob_num.specs.Unsigned.{AreBytes}
use Rattle.gob_types.specs.Base.{base_table}
use Rattle.gob_types.specs.Defined.{Defined, types}
use Rattle.gob_types.specs.Table.{Table, Extends}
use Rattle.gob_types.proofs.PublicLaws.{extends_keeps}
use Rattle.gob_value.specs.Tree.{Tree, depth}
use Rattle.gob_value.specs.Top.{SpellsTop}
use Rattle.gob_value.proofs.PublicLaws.{top_on}
use Rattle.gob_read.specs.Expected.{a_number, nil}
use Rattle.gob_read.specs.Expects.{ExpectsTop}
use Rattle.gob_read.specs.Viable.{IsShallow}
use Rattle.gob_read.specs.Calls.Builders.{skip_building}
use Rattle.gob_read.specs.Calls.UnderWay.{HasReadBody}
use Rattle.gob_read.proofs.PublicLaws.{append_nil}
use Rattle.gob_stream.specs.declared.fault.Fault.{Fault}
use Rattle.gob_stream.specs.Bounds.{Bounds}
use Rattle.gob_filled.specs.Filled as spelled
use Rattle.gob_filled.specs.Filled.{filled}
use Rattle.gob_filled.specs.Standing.{Level, in_value, Stands, behind_inner}
use Rattle.gob_filled.specs.Stream.{putting, IsFilledItem}
use Rattle.gob_go.specs.Meaning.{IsFilled, is_filled, AreFillings, no_fillings, filling_then, definitions_of}
use Rattle.gob_filled.specs.Opens.{Open, opens, held_in, and_filling}
use Rattle.gob_go.specs.declared.filled.Filling.{Filling, out-Filling}
use Rattle.gob_go.specs.declared.filled.Filled.{out-Filled}
use Rattle.gob_go.specs.declared.level.Level as declared
use Rattle.gob_go.specs.declared.levels.Levels.{Levels}
use Rattle.gob_go.specs.Machine.HasRead.{PutIsWhole}
use Rattle.gob_go.specs.Machine.Levels.{LevelAtNil, FillingsAre, HeldIs, AreOuter, none_outer, outer_then}
use Rattle.gob_go.specs.Machine.Parts.{Holds}
use Rattle.gob_go.specs.Machine.Skeleton.{SkeletonIs}
use Rattle.gob_go.specs.declared.levels.Goes.TheVariants as goes
use Rattle.gob_go.specs.Machine.Stages.{ValueIsWhole, value_whole, ArePopped, FillingSteps, filling_goes_on}
use Rattle.gob_go.specs.Machine.Stages.{filling_ends, filling_refused, no_memory_for_filling, GoesSteps}
use Rattle.gob_go.specs.Machine.Stages.{value_goes_on, goes_to_end, goes_refused, no_memory_there}
use Rattle.gob_go.proofs.NestedLaws.{levels_nest}
use Rattle.gob_go.proofs.NilSteps.{FillsNil}
use Rattle.gob_go.proofs.SkeletonLaws.{skeleton_as, skeleton_kept}
use Rattle.gob_filled.proofs.Sound.{stands_as_item}

-- ---- the last of a list

no_last : {A : Type 0} (xs : List A) (a : A) → xs ++ a ∷ [] ≡ [] → ⊥
no_last [] a e = cc
no_last (x ∷ xs) a e = cc

one_last : {A : Type 0} (xs ys : List A) (a b : A) → xs ++ a ∷ [] ≡ ys ++ b ∷ [] → (xs ≡ ys) × (a ≡ b)
one_last [] [] a b e = (refl, cc)
one_last [] (y ∷ ys) a b e = let t : [] ≡ ys ++ b ∷ [] = cc in absurd (no_last ys b (sym t))
one_last (x ∷ xs) [] a b e = let t : xs ++ a ∷ [] ≡ [] = cc in absurd (no_last xs a t)
one_last (x ∷ xs) (y ∷ ys) a b e =
    let h : x ≡ y = cc in let t : xs ++ a ∷ [] ≡ ys ++ b ∷ [] = cc in
    let r = one_last xs ys a b t in let same : xs ≡ ys = r.0 in (cc, r.1)

-- the innermost of the outer levels
data LastOuter (keep : Bool) (U : Table) (rest : List declared.Level) (l : declared.Level) : List Level → List Open
    → Type 0 where
  last : {lv : Level} {levels : List Level} {o : Open} {os : List Open} {d : ℕ} → AreOuter keep U rest levels os
      → LevelAtNil keep U l lv [] d → FillingsAre keep U l o → HeldIs l.held o
      → LastOuter keep U rest l (lv ∷ levels) (o ∷ os)

last_outer : {keep : Bool} {U : Table} {items : List declared.Level} {levels : List Level} {os : List Open}
    (rest : List declared.Level) (l : declared.Level) → AreOuter keep U items levels os → items ≡ rest ++ l ∷ []
    → LastOuter keep U rest l levels os
last_outer rest l none_outer e = absurd (no_last rest l (sym e))
last_outer {keep = keep} {U = U} rest l (outer_then {l = m} {outer = outer} {lv = lv} {levels = levels} {o = o}
    {os = os} q n f h) e =
    let r = one_last outer rest m l e in
    subst (λ l. LastOuter keep U rest l (lv ∷ levels) (o ∷ os)) r.1
    (subst (λ r. LastOuter keep U r m (lv ∷ levels) (o ∷ os)) r.0 (last q n f h))

-- ---- one filling more

with_filling : {U : Table} {all : List Filling} {fs : spelled.Fillings} {w : spelled.Filled} (kept : Filling)
    → AreFillings U all fs → IsFilled U (out-Filling kept).id (out-Filling kept).value w
    → AreFillings U (all ++ kept ∷ []) (and_filling fs (out-Filling kept).place (out-Filling kept).name.items
    (definitions_of (out-Filling kept).definitions.items) (out-Filling kept).id w)
with_filling kept no_fillings i = filling_then i no_fillings
with_filling kept (filling_then j f) i = filling_then j (with_filling kept f i)

held_filling : {keep : Bool} {U : Table} {l l' value : declared.Level} {o : Open} {v : Tree} (lv inner : Level)
    (held : Open)
    (b : List ℕ) → Holds keep value l l' → SkeletonIs keep l.skeleton (lv.done ++ []) → FillingsAre keep U l o
    → HeldIs l.held o
    → SpellsTop U inner.type v (inner.done ++ b) → value.id ≡ inner.type
    → SkeletonIs keep value.skeleton (inner.done ++ b) → FillingsAre keep U value held
    → IsTrue keep → AreFillings U l'.fillings.items
    (and_filling o.fillings (length lv.done) o.name o.definitions inner.type
    (filled v held.fillings))
held_filling {U = U} {l = l} {l' = l'} {value = value} {o = o} {v = v} lv inner held b h s f n sp i k g on =
    let q = h.kept on in let kept = q.filling in
    let id : (out-Filling kept).id ≡ inner.type = q.id_held ∙ i in
    let place : (out-Filling kept).place ≡ length lv.done = q.place ∙ s.length_is ∙ ap length (append_nil lv.done) in
    let spells : SpellsTop U (out-Filling kept).id v (out-Filled (out-Filling kept).value).skeleton.items =
    rw (id, q.skeleton_held, skeleton_kept k on) sp in
    let inside : AreFillings U (out-Filled (out-Filling kept).value).fillings.items held.fillings =
    rw q.fillings_held (g on) in
    let all = with_filling kept (f on) (is_filled spells inside) in
    rw q.fillings (rw id at (rw place at (rw (q.name, n.name) at (rw (q.definitions, n.definitions) at all))))

-- ---- the nil of the level around

-- what is whole fills the nil at hand of the level around
fills_last : {keep : Bool} {L : Bounds} {T : Table} {offset : ℕ} {U : Table} (all levels : Levels)
    {outer after : declared.Level}
    {z : List ℕ} {lv : Level} {around : List Level} {left : ℕ} {v : Tree} {o : Open} {os : List Open} (b : List ℕ)
    → LastOuter keep U levels.outer.items outer around os → Holds keep all.innermost outer after → levels.left ≡ left
    → (p : Stands base_table L T offset z U (lv ∷ around) in_value left) → opens p ≡ o ∷ os
    → SpellsTop lv.table lv.type v (lv.done ++ b) → depth v ≤ lv.limit → offset + length (z ++ b) ≡ lv.end
    → Extends lv.table U → all.innermost.id ≡ lv.type → SkeletonIs keep all.innermost.skeleton (lv.done ++ b)
    → FillingsAre keep U all.innermost o
    → FillsNil keep L T offset U after levels.outer.items levels.left (z ++ b)
fills_last {U = U} all levels {outer = outer} {after = after} {z = z} {lv = lv} {left = left} {v = v} {o = o} b
    (last {lv = around} {levels = others} {o = q} {os = os} {d = d} outer_are n f h) held kept p said sp de ends grown
    id
    sk inside =
    record {
      before = z ++ b;
      c = [];
      spelled = around.done;
      lv = record around { done = around.done ++ 0 ∷ [] };
      around = others;
      o = _;
      os = os;
      left = left;
      nil_depth = d;
      announced = n.announced;
      whole = sym (append_nil (z ++ b));
      stands = behind_inner b p sp de ends;
      said = ap (held_in (length around.done) lv.type v) said;
      ends = append_nil (around.done ++ 0 ∷ []);
      id = held.id ∙ n.is.id;
      depth_is = held.depth ∙ n.is.depth;
      end = held.end ∙ n.is.end;
      skeleton = rw held.skeleton (skeleton_as n.is.skeleton (append_nil around.done));
      ready = n.is.ready;
      grown = n.is.grown;
      reads = rw held.reader (subst (λ y. HasReadBody skip_building U around.type around.limit n.announced outer.reader
          y)
          (append_nil around.done) n.is.reads);
      clear = rw held.reader n.is.clear;
      at_nil = rw held.reader n.at_nil;
      expects = subst (λ y. ExpectsTop around.table around.type y (a_number nil) d) (append_nil around.done) n.expects;
      not_deep = n.not_deep;
      shallow = subst (λ y. IsShallow around.table around.type around.limit y) (append_nil around.done) n.shallow;
      fillings = held_filling around lv o b held n.is.skeleton f h (top_on (extends_keeps grown) sp) id sk inside;
      outer_are = outer_are;
      left_is = kept;
      within = let l = (levels_nest p).0.ends in omega arith;
    }

pub fills_outer : {keep : Bool} {L : Bounds} {T : Table} {offset : ℕ} {U : Table} {all levels : Levels}
    {outer after : declared.Level}
    {z : List ℕ} → ArePopped all levels outer → ValueIsWhole keep L T offset U all z
    → Holds keep levels.innermost outer after
    → FillsNil keep L T offset U after levels.outer.items levels.left z
fills_outer {keep = keep} {U = U} {all = all} {levels = levels} {outer = outer} {after = after} k
    (value_whole b p said sp de ends ready grown id sk others) held =
    fills_last all levels b (last_outer levels.outer.items outer others.outer k.items)
    (subst (λ l. Holds keep l outer after) k.innermost held) (k.left ∙ others.left_is) p said sp de ends grown id sk
    others.fillings

-- ---- the last value

ends_item : {keep : Bool} {L : Bounds} {T : Table} {offset : ℕ} {U : Table} {levels : Levels}
    {items : List declared.Level}
    {z : List ℕ} {lv : Level} {around : List Level} {left : ℕ} {v : Tree} {o : Open} {os : List Open} (b : List ℕ)
    → AreBytes (z ++ b) → AreOuter keep U items around os → items ≡ []
    → (p : Stands base_table L T offset z U (lv ∷ around) in_value left) → opens p ≡ o ∷ os
    → SpellsTop lv.table lv.type v (lv.done ++ b) → depth v ≤ lv.limit → offset + length (z ++ b) ≡ lv.end
    → Extends lv.table U → levels.innermost.id ≡ lv.type → SkeletonIs keep levels.innermost.skeleton (lv.done ++ b)
    → FillingsAre keep U levels.innermost o → PutIsWhole keep L T offset U levels (z ++ b)
ends_item {L = L} {T = T} {offset = offset} {U = U} {levels = levels} {z = z} {lv = lv} {v = v} {o = o} b bytes
    none_outer e p said sp de ends grown id sk inside =
    record {
      value = filled v o.fillings;
      item = rw id (stands_as_item b bytes p said sp de ends);
      tree = v;
      fillings = o.fillings;
      value_is = refl;
      spelled = λ on. rw (id, skeleton_kept sk on) (top_on (extends_keeps grown) sp);
      filled = inside;
    }
ends_item b bytes (outer_then {l = l} {outer = outer} q n f h) e p said sp de ends grown id sk inside =
    absurd (no_last outer l e)

pub put_whole : {keep : Bool} {L : Bounds} {T : Table} {offset : ℕ} {U : Table} {levels : Levels} {z : List ℕ}
    → ValueIsWhole keep L T offset U levels z → AreBytes z → levels.outer.items ≡ []
    → PutIsWhole keep L T offset U levels z
put_whole {levels = levels} (value_whole b p said sp de ends ready grown id sk others) bytes e =
    ends_item {levels = levels} b bytes others.outer e p said sp de ends grown id sk others.fillings

pub as_held : {keep : Bool} {value other l m l' : declared.Level} → Holds keep value l l' → value ≡ other → l ≡ m
    → Holds keep other m l'
as_held {keep = keep} {value = value} {m = m} {l' = l'} h e f =
    subst (λ v. Holds keep v m l') e (subst (λ l. Holds keep value l l') f h)

-- ---- what ending answers

pub end_stops : {keep : Bool} {L : Bounds} {T : Table} {offset : ℕ} {d : Defined} {z : List ℕ} {levels : Levels}
    (f : Fault)
    → FillingSteps keep L T offset d z levels (Err f) → GoesSteps keep L T offset d z levels (Err f)
end_stops f (filling_refused r) = goes_refused r
end_stops f no_memory_for_filling = no_memory_there

pub end_on : {keep : Bool} {L : Bounds} {T : Table} {offset : ℕ} {d : Defined} {z : List ℕ} {levels : Levels}
    (whole : Bool)
    → whole ≡ false → FillingSteps keep L T offset d z levels (Ok whole)
    → GoesSteps keep L T offset d z levels (Ok goes.On)
end_on whole e (filling_goes_on h) = value_goes_on h
end_on whole e (filling_ends h) = cc

pub end_whole : {keep : Bool} {L : Bounds} {T : Table} {offset : ℕ} {d : Defined} {z : List ℕ} {levels : Levels}
    (whole : Bool)
    → whole ≡ true → FillingSteps keep L T offset d z levels (Ok whole)
    → ValueIsWhole keep L T offset (types d) levels z
end_whole whole e (filling_goes_on h) = cc
end_whole whole e (filling_ends h) = h

none_left : {A : Type 0} (xs : List A) → length xs ≡ 0 → xs ≡ []
none_left [] e = refl
none_left (x ∷ xs) e = absurd (omega arith)

pub end_item : {keep : Bool} {L : Bounds} {T : Table} {offset : ℕ} {d : Defined} {z : List ℕ} (levels levels' : Levels)
    → ValueIsWhole keep L T offset (types d) levels z → AreBytes z → length levels.outer.items ≡ 0
    → levels.innermost ≡ levels'.innermost → GoesSteps keep L T offset d z levels' (Ok goes.ToEnd)
end_item {L = L} {T = T} {offset = offset} {d = d} {z = z} levels levels' h o e f =
    let w = put_whole h o (none_left levels.outer.items e) in
    goes_to_end (record {
      value = w.value;
      item = subst (λ (l : declared.Level). IsFilledItem base_table L T offset (putting l.id w.value) z (types d)) f
          w.item;
      tree = w.tree;
      fillings = w.fillings;
      value_is = w.value_is;
      spelled = λ on. subst (λ (l : declared.Level). SpellsTop (types d) l.id w.tree l.skeleton.bytes.items) f
          (w.spelled on);
      filled = λ on. subst (λ (l : declared.Level). AreFillings (types d) l.fillings.items w.fillings) f
          (w.filled on);
    })
