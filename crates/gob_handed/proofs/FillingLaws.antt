-- What fills nils is put filling by filling.
use Rattle.std.proofs.Common.{◌≡◌, ◌∙◌, ℕ, ◌+◌, ◌-◌, List, [], ◌∷◌, ◌++◌, length, map, set, drop}
use Rattle.std.proofs.Common.{Some, arith, sym, ap, subst}
use Rattle.std.specs.Prelude.{slice_get}
use Rattle.std.proofs.lemmas.Option.{get_or_from_slice_get, slice_get_within}
use Rattle.gob_types.specs.declared.id.TypeId.{TypeId}
use Rattle.gob_types.specs.Table.{Table}
use Rattle.gob_value.specs.Tree.{Tree}
use Rattle.gob_value.specs.Top.{SpellsTop}
use Rattle.gob_tape.specs.Flat.{Flat}
use Rattle.gob_tape.specs.FlatNodes.{flat}
use Rattle.gob_tape.specs.Meaning.{Means}
use Rattle.gob_tape.specs.declared.flat.FlatNode.{FlatNode}
use Rattle.gob_filled.specs.Filled.{Fillings, no_filling, filling}
use Rattle.gob_filled.specs.Filled as spelled
use Rattle.gob_go.specs.Meaning.{IsFilled, is_filled, AreFillings, no_fillings, filling_then}
use Rattle.gob_go.specs.declared.filled.Filled.{Filled, out-Filled}
use Rattle.gob_go.specs.declared.filled.Filling.{Filling, out-Filling}
use Rattle.gob_json_writer.specs.Gaps.{AreGaps, gap_before}
use Rattle.gob_handed.specs.ValueNodes.{PutsValue, puts_value, PutsFillings, puts_none, puts_filling, PutsHeld}
use Rattle.gob_handed.specs.ValueNodes.{puts_held, behind, text_node, held_node}
use Rattle.gob_handed.specs.Machine.Putting.{HoldsNil}
use Rattle.gob_go.proofs.IdLaws.{item_left}

-- so many nodes were gone past, these fillings with their gaps are left, and with what they put it is what all put
pub record AreLeft (T : Table) (t : TypeId) (b : List ℕ) (first next : ℕ) (rest : List Filling) (gaps : List ℕ)
    (all : Fillings) (ns : List FlatNode) (bs : List ℕ) (ms : List FlatNode) (cs : List ℕ) : Type 0 where
  pub number : ℕ
  pub next_is : next ≡ first + number
  pub gaps_left : AreGaps T t b number rest gaps
  pub left : Fillings
  pub are : AreFillings T rest left
  pub so : (ns' : List FlatNode) (bs' : List ℕ) → PutsFillings T t b first left ms cs ns' bs'
      → PutsFillings T t b first all ns bs ns' bs'

pub all_left : {T : Table} {t : TypeId} {b : List ℕ} {first : ℕ} {fillings : List Filling} {gaps : List ℕ}
    {fs : Fillings} (ns : List FlatNode) (bs : List ℕ) → AreGaps T t b 0 fillings gaps → AreFillings T fillings fs
    → AreLeft T t b first first fillings gaps fs ns bs ns bs
all_left {fs = fs} ns bs g a = record {
  number = 0;
  next_is = omega arith;
  gaps_left = g;
  left = fs;
  are = a;
  so = λ ns' bs' p. p;
}

-- one more is put
pub one_put : {T : Table} {t : TypeId} {b : List ℕ} {first next nil : ℕ} {f : Filling} {rest : List Filling} {gap : ℕ}
    {gaps : List ℕ} {all : Fillings} {ns ms ks : List FlatNode} {bs cs ds : List ℕ}
    → AreLeft T t b first next (f ∷ rest) (gap ∷ gaps) all ns bs ms cs → nil ≡ next + gap
    → ((w : spelled.Filled) → IsFilled T (out-Filling f).id (out-Filling f).value w
    → PutsHeld T nil (out-Filling f).name.items (out-Filling f).id w ms cs ks ds)
    → AreLeft T t b first (nil + 1) rest gaps all ns bs ks ds
one_put {T = T} {t = t} {b = b} {first = first} {next = next} {nil = nil} {f = f} {rest = rest} {gap = gap}
    {gaps = gaps} {all = all} {ns = ns} {ms = ms} {ks = ks} {bs = bs} {cs = cs} {ds = ds} l e put =
    by l.gaps_left l.are l.so
  where
    by : {left : Fillings} → AreGaps T t b l.number (f ∷ rest) (gap ∷ gaps) → AreFillings T (f ∷ rest) left
        → ((ns' : List FlatNode) (bs' : List ℕ) → PutsFillings T t b first left ms cs ns' bs'
        → PutsFillings T t b first all ns bs ns' bs') → AreLeft T t b first (nil + 1) rest gaps all ns bs ks ds
    by (gap_before h gs) (filling_then {w = w} {fs = fs} m a) so =
        let same : nil ≡ first + (l.number + gap) = omega (arith, l.next_is, e) in record {
          number = l.number + gap + 1;
          next_is = omega (arith, same);
          gaps_left = gs;
          left = fs;
          are = a;
          so = λ ns' bs' p. so ns' bs' (puts_filling h (subst (λ n. PutsHeld T n (out-Filling f).name.items
              (out-Filling f).id w ms cs ks ds) same (put w m)) p);
        }

-- none is left
pub all_put : {T : Table} {t : TypeId} {b : List ℕ} {first next : ℕ} {gaps : List ℕ} {all : Fillings}
    {ns ms : List FlatNode} {bs cs : List ℕ} → AreLeft T t b first next [] gaps all ns bs ms cs
    → PutsFillings T t b first all ns bs ms cs
all_put {T = T} {t = t} {b = b} {first = first} {all = all} {ns = ns} {ms = ms} {bs = bs} {cs = cs} l = by l.are l.so
  where
    by : {left : Fillings} → AreFillings T [] left → ((ns' : List FlatNode) (bs' : List ℕ)
        → PutsFillings T t b first left ms cs ns' bs' → PutsFillings T t b first all ns bs ns' bs')
        → PutsFillings T t b first all ns bs ms cs
    by no_fillings so = so ms cs puts_none

-- what is left from one on, which a list has there
pub got_left : {X : Type 0} (xs : List X) (i : ℕ) (x : X) → slice_get xs i ≡ Some x → drop i xs ≡ x ∷ drop (i + 1) xs
got_left xs i x e = item_left xs i x (sym (get_or_from_slice_get xs i x x e)) (slice_get_within xs i x e)

-- ---- a value
pub value_put : {T : Table} {t : TypeId} {kept : Filled} {w : spelled.Filled} {m : Flat} {gaps : List ℕ} {first : ℕ}
    {ns ms ns' : List FlatNode} {bs cs bs' : List ℕ}
    → ((v : Tree) → SpellsTop T t v (out-Filled kept).skeleton.items → Means m v)
    → AreGaps T t (out-Filled kept).skeleton.items 0 (out-Filled kept).fillings.items gaps → first ≡ length ns
    → ms ≡ ns ++ map (behind (length bs)) (map flat m.nodes) → cs ≡ bs ++ m.pool
    → ((t : TypeId) (b : List ℕ) (fs : Fillings) → AreGaps T t b 0 (out-Filled kept).fillings.items gaps
    → AreFillings T (out-Filled kept).fillings.items fs → PutsFillings T t b first fs ms cs ns' bs')
    → IsFilled T t kept w → PutsValue T t w ns bs ns' bs'
value_put {T = T} {t = t} {kept = kept} {m = m} {first = first} {ns = ns} {ms = ms} {ns' = ns'} {bs = bs} {cs = cs}
    {bs' = bs'} means g is e f fills (is_filled {v = v} {fs = fs} s a) =
    let b = (out-Filled kept).skeleton.items in
    let own = ns ++ map (behind (length bs)) (map flat m.nodes) in
    let put : PutsFillings T t b first fs ms cs ns' bs' = fills t b fs g a in
    let pool : PutsFillings T t b first fs ms (bs ++ m.pool) ns' bs' =
    subst (λ l. PutsFillings T t b first fs ms l ns' bs') f put in
    let nodes : PutsFillings T t b first fs own (bs ++ m.pool) ns' bs' =
    subst (λ l. PutsFillings T t b first fs l (bs ++ m.pool) ns' bs') e pool in
    puts_value s (means v s) (subst (λ k. PutsFillings T t b k fs own (bs ++ m.pool) ns' bs') is nodes)

pub held_put : {T : Table} {nil : ℕ} {name : List ℕ} {u : TypeId} {w : spelled.Filled} {ns ms ks ns' : List FlatNode}
    {bs cs ds bs' : List ℕ} → HoldsNil nil u ns ms → cs ≡ bs → ks ≡ ms ++ text_node (length cs) name ∷ []
    → ds ≡ cs ++ name → PutsValue T u w ks ds ns' bs' → PutsHeld T nil name u w ns bs ns' bs'
held_put {T = T} {nil = nil} {name = name} {u = u} {w = w} {ns = ns} {ms = ms} {ks = ks} {ns' = ns'} {bs = bs} {cs = cs}
    {ds = ds} {bs' = bs'} h e f g put =
    let made : ks ≡ set ns nil (held_node (length ns - nil) u h.node) ++ text_node (length bs) name ∷ [] =
    f ∙ ap (λ l. l ++ text_node (length cs) name ∷ []) h.set_to
    ∙ ap (λ l. set ns nil (held_node (length ns - nil) u h.node) ++ text_node (length l) name ∷ []) e in
    puts_held h.was h.is_nil (subst (λ l. PutsValue T u w l (bs ++ name) ns' bs') made
    (subst (λ l. PutsValue T u w ks l ns' bs') (g ∙ ap (λ l. l ++ name) e) put))
