-- What is put one behind another.
use Rattle.std.proofs.Common.{◌≡◌, ℕ, ◌+◌, ◌-◌, ◌<◌, ◌≤◌, take, get_or, subst, set, ap₂, drop, refl, suc, min}
use Rattle.std.proofs.Common.{List, [], ◌∷◌, ◌++◌, length, append_assoc, arith, sym, ap, ◌∙◌}
use Rattle.std.proofs.lemmas.List.{length-append, append-nil, length-take, take_more, take_more_set, take-take}
use Rattle.std.proofs.lemmas.List.{take-append-drop, drop_more, get_or-drop}
use Rattle.gob_tape.specs.declared.flat.FlatNode.{FlatNode}
use Rattle.gob_types.specs.declared.kind.Field.{Field}
use Rattle.gob_types.specs.Table.{Table}
use Rattle.gob_handed.specs.declared.head.Head.{Head}
use Rattle.gob_handed.specs.Handed.{AreHanded, one_more, handout_head, handout_nodes, handout_bytes}
use Rattle.gob_handed.specs.declared.handout.Handout.{Handout}
use Rattle.gob_handed.specs.declared.room.RoomTaken.{RoomTaken}
use Rattle.gob_handed.specs.Puts.{PutsNodes, PutsBytes}
use Rattle.gob_handed.specs.Definition.{name_node, id_number, field_nodes, field_names}

-- ---- one behind another
pub nodes_on : {a b c : RoomTaken} {o n m xs ys : List FlatNode} → PutsNodes a b o n xs → PutsNodes b c n m ys
    → PutsNodes a c o m (xs ++ ys)
nodes_on {xs = xs} {ys = ys} p q = record {
  prefix = q.prefix ∙ ap (λ l. l ++ ys) p.prefix ∙ append_assoc _ xs ys;
  end = omega (arith, length-append xs ys, p.end, q.end);
  room = q.room;
}

pub bytes_on : {a b c : RoomTaken} {o n m xs ys : List ℕ} → PutsBytes a b o n xs → PutsBytes b c n m ys
    → PutsBytes a c o m (xs ++ ys)
bytes_on {xs = xs} {ys = ys} p q = record {
  prefix = q.prefix ∙ ap (λ l. l ++ ys) p.prefix ∙ append_assoc _ xs ys;
  end = omega (arith, length-append xs ys, p.end, q.end);
  room = q.room;
}

-- where nothing is put
pub no_nodes : (a b : RoomTaken) (ns : List FlatNode) → a.nodes ≤ length ns → b.nodes ≡ a.nodes → PutsNodes a b ns ns []
no_nodes a b ns le same = record {
  prefix = ap (λ n. take n ns) same ∙ sym (append-nil _);
  end = omega arith;
  room = omega arith;
}

pub no_bytes : (a b : RoomTaken) (bs : List ℕ) → a.bytes ≤ length bs → b.bytes ≡ a.bytes → PutsBytes a b bs bs []
no_bytes a b bs le same = record {
  prefix = ap (λ n. take n bs) same ∙ sym (append-nil _);
  end = omega arith;
  room = omega arith;
}

-- what stands before both places is kept
pub kept_on : {X : Type 0} (a b : ℕ) (o m n : List X) → a ≤ b → take a m ≡ take a o → take b n ≡ take b m
    → take a n ≡ take a o
kept_on a b o m n le before here =
    sym (take-take a b n le) ∙ ap (λ l. take a l) here ∙ take-take a b m le ∙ before

pub kept_nodes_on : (a b : RoomTaken) (o m n ns : List FlatNode) → PutsNodes a b o m ns
    → take a.nodes m ≡ take a.nodes o → take b.nodes n ≡ take b.nodes m → take a.nodes n ≡ take a.nodes o
kept_nodes_on a b o m n ns puts = kept_on a.nodes b.nodes o m n (omega (arith, puts.end))

pub kept_bytes_on : (a b : RoomTaken) (o m n bs : List ℕ) → PutsBytes a b o m bs
    → take a.bytes m ≡ take a.bytes o → take b.bytes n ≡ take b.bytes m → take a.bytes n ≡ take a.bytes o
kept_bytes_on a b o m n bs puts = kept_on a.bytes b.bytes o m n (omega (arith, puts.end))

-- ---- fields
-- one more field
pub field_nodes-more : (start : ℕ) (fs : List Field) (f : Field) → field_nodes start (fs ++ f ∷ [])
    ≡ field_nodes start fs ++ name_node 14 (id_number f.id) (start + length (field_names fs)) f.name ∷ []
field_nodes-more start [] f = ap (λ n. name_node 14 (id_number f.id) n f.name ∷ []) (omega arith)
field_nodes-more start (g ∷ fs) f =
    let next = start + length g.name in
    ap (λ l. name_node 14 (id_number g.id) start g.name ∷ l) (field_nodes-more next fs f
    ∙ ap (λ n. field_nodes next fs ++ name_node 14 (id_number f.id) n f.name ∷ [])
    (omega (arith, length-append g.name (field_names fs))))

pub field_names-more : (fs : List Field) (f : Field) → field_names (fs ++ f ∷ []) ≡ field_names fs ++ f.name
field_names-more [] f = append-nil f.name
field_names-more (g ∷ fs) f =
    ap (λ l. g.name ++ l) (field_names-more fs f) ∙ sym (append_assoc g.name (field_names fs) f.name)

pub field_names-append : (xs ys : List Field) → field_names (xs ++ ys) ≡ field_names xs ++ field_names ys
field_names-append [] ys = refl
field_names-append (x ∷ xs) ys =
    ap (λ l. x.name ++ l) (field_names-append xs ys) ∙ sym (append_assoc x.name (field_names xs) (field_names ys))

-- one more field, whose name is this
pub field_step : (from at to : RoomTaken) (base : ℕ) (o n m : List FlatNode) (p q r : List ℕ) (fs : List Field) (i : ℕ)
    (f : Field) (name : List ℕ) → i < length fs → f ≡ get_or fs i f → name ≡ f.name → base ≤ from.bytes
    → PutsNodes from at o n (field_nodes (from.bytes - base) (take i fs))
    × PutsBytes from at p q (field_names (take i fs))
    → PutsNodes at to n m (name_node 14 (id_number f.id) (at.bytes - base) name ∷ []) → PutsBytes at to q r name
    → PutsNodes from to o m (field_nodes (from.bytes - base) (take (i + 1) fs))
    × PutsBytes from to p r (field_names (take (i + 1) fs))
field_step from at to base o n m p q r fs i f name lt is named le before ns bs =
    let s = from.bytes - base in
    let prefix = field_nodes s (take i fs) in
    let more : take (i + 1) fs ≡ take i fs ++ f ∷ [] = take_more fs i f lt ∙ ap (λ x. take i fs ++ x ∷ []) (sym is) in
    let start : s + length (field_names (take i fs)) ≡ at.bytes - base = omega (arith, before.1.end) in
    let nodes : field_nodes s (take (i + 1) fs) ≡ prefix ++ name_node 14 (id_number f.id) (at.bytes - base) name ∷ [] =
    ap (λ l. field_nodes s l) more ∙ field_nodes-more s (take i fs) f
    ∙ ap (λ k. prefix ++ name_node 14 (id_number f.id) k f.name ∷ []) start
    ∙ ap (λ l. prefix ++ name_node 14 (id_number f.id) (at.bytes - base) l ∷ []) (sym named) in
    let bytes : field_names (take (i + 1) fs) ≡ field_names (take i fs) ++ name =
    ap field_names more ∙ field_names-more (take i fs) f ∙ ap (λ l. field_names (take i fs) ++ l) (sym named) in (
      subst (λ l. PutsNodes from to o m l) (sym nodes) (nodes_on before.0 ns),
      subst (λ l. PutsBytes from to p r l) (sym bytes) (bytes_on before.1 bs),
    )

-- how many nodes they have
pub field_nodes_long : (start : ℕ) (fs : List Field) → length (field_nodes start fs) ≡ length fs
field_nodes_long start [] = refl
field_nodes_long start (f ∷ fs) = ap suc (field_nodes_long (start + length f.name) fs)

-- the names up to one are no longer than all
pub names_within : (fs : List Field) (i : ℕ) (f : Field) → i < length fs → f ≡ get_or fs i f
    → length (field_names (take i fs)) + length f.name ≤ length (field_names fs)
names_within fs i f lt is =
    let later = drop (i + 1) fs in
    let parts : fs ≡ take i fs ++ f ∷ later =
    sym (take-append-drop i fs) ∙ ap (λ l. take i fs ++ l) (drop_more fs i f lt ∙ ap (λ x. x ∷ later) (sym is)) in
    let names : field_names fs ≡ field_names (take i fs) ++ (f.name ++ field_names later) =
    ap field_names parts ∙ field_names-append (take i fs) (f ∷ later) in
    let long : length (field_names fs)
    ≡ length (field_names (take i fs)) + (length f.name + length (field_names later)) =
    ap (λ l. length l) names ∙ length-append _ _
    ∙ ap (λ n. length (field_names (take i fs)) + n) (length-append f.name _) in
    omega (arith, long)

-- there is room for one more field, where there is for all
pub room_step : (from at : RoomTaken) (base : ℕ) (o n : List FlatNode) (p q : List ℕ) (fs : List Field) (i : ℕ)
    (f : Field) (name : List ℕ) → i < length fs → f ≡ get_or fs i f → name ≡ f.name
    → PutsNodes from at o n (field_nodes (from.bytes - base) (take i fs))
    × PutsBytes from at p q (field_names (take i fs))
    → length n ≡ length o → length q ≡ length p
    → from.nodes + length fs ≤ length o → from.bytes + length (field_names fs) ≤ length p
    → (at.nodes + 1 ≤ length n) × (at.bytes + length name ≤ length q)
room_step from at base o n p q fs i f name lt is named before ln lq ns bs =
    let many : length (field_nodes (from.bytes - base) (take i fs)) ≡ i =
    field_nodes_long (from.bytes - base) (take i fs) ∙ omega (arith, length-take i fs, lt) in
    let long : length name ≡ length f.name = ap (λ l. length l) named in (
      omega (arith, before.0.end, many, ln, ns, lt),
      omega (arith, before.1.end, names_within fs i f lt is, long, lq, bs),
    )

-- the lengths of names, up to the greatest number
pub names_step : (fs : List Field) (i : ℕ) (f : Field) (b m : ℕ) → i < length fs → f ≡ get_or fs i f
    → b ≡ min (length (field_names (take i fs))) m
    → min (b + length f.name) m ≡ min (length (field_names (take (i + 1) fs))) m
names_step fs i f b m lt is before =
    let more : take (i + 1) fs ≡ take i fs ++ f ∷ [] = take_more fs i f lt ∙ ap (λ x. take i fs ++ x ∷ []) (sym is) in
    let long : length (field_names (take (i + 1) fs)) ≡ length (field_names (take i fs)) + length f.name =
    ap (λ l. length (field_names l)) more ∙ ap (λ l. length l) (field_names-more (take i fs) f)
    ∙ length-append (field_names (take i fs)) f.name in
    omega (arith, before, long)

-- ---- handouts
-- lists that are the same from there on have the same there
pub same_at : {X : Type 0} (xs ys : List X) (i : ℕ) (d : X) → drop i xs ≡ drop i ys → get_or xs i d ≡ get_or ys i d
same_at xs ys i d e =
    ap (λ n. get_or xs n d) (omega arith) ∙ sym (get_or-drop i xs 0 d) ∙ ap (λ l. get_or l 0 d) e ∙ get_or-drop i ys 0 d
    ∙ ap (λ n. get_or ys n d) (omega arith)

-- one more
pub hand_step : (T : Table) (handouts : List Handout) (i : ℕ) (handout : Handout) (heads : List Head) (head : Head)
    (at to : RoomTaken) (nodes nodes' : List FlatNode) (pool pool' : List ℕ)
    → i < length handouts → i < length heads → handout ≡ get_or handouts i handout
    → AreHanded T (take i handouts) (take i heads) (take at.nodes nodes) (take at.bytes pool)
    × ((at.nodes ≤ length nodes) × (at.bytes ≤ length pool))
    → PutsNodes at to nodes nodes' (handout_nodes T handout) → PutsBytes at to pool pool' (handout_bytes T handout)
    → head ≡ handout_head T handout at.nodes at.bytes
    → AreHanded T (take (i + 1) handouts) (take (i + 1) (set heads i head)) (take to.nodes nodes') (take to.bytes pool')
    × ((to.nodes ≤ length nodes') × (to.bytes ≤ length pool'))
hand_step T handouts i handout heads head at to nodes nodes' pool pool' lt lt' is before ns bs made =
    let so : take (i + 1) handouts ≡ take i handouts ++ handout ∷ [] =
    take_more handouts i handout lt ∙ ap (λ x. take i handouts ++ x ∷ []) (sym is) in
    let n : length (take at.nodes nodes) ≡ at.nodes = omega (arith, length-take at.nodes nodes, before.1.0) in
    let b : length (take at.bytes pool) ≡ at.bytes = omega (arith, length-take at.bytes pool, before.1.1) in
    let now = take i heads
    ++ handout_head T handout (length (take at.nodes nodes)) (length (take at.bytes pool)) ∷ [] in
    let hs : take (i + 1) (set heads i head) ≡ now =
    take_more_set heads i head lt'
    ∙ ap (λ h. take i heads ++ h ∷ []) (made ∙ ap₂ (λ x y. handout_head T handout x y) (sym n) (sym b)) in
    let is' = take i handouts ++ handout ∷ [] in
    let ns' = take at.nodes nodes ++ handout_nodes T handout in (
      subst (λ l. AreHanded T l (take (i + 1) (set heads i head)) (take to.nodes nodes') (take to.bytes pool')) (sym so)
          (subst (λ l. AreHanded T is' l (take to.nodes nodes') (take to.bytes pool')) (sym hs)
          (subst (λ l. AreHanded T is' now l (take to.bytes pool')) (sym ns.prefix)
          (subst (λ l. AreHanded T is' now ns' l) (sym bs.prefix) (one_more handout before.0)))),
      (ns.room, bs.room),
    )

-- what functions that put something cite
pub ruleset putting = (nodes_on, bytes_on, no_nodes, no_bytes, kept_nodes_on, kept_bytes_on, field_nodes_long)
