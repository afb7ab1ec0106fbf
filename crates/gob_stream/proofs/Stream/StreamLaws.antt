-- What follows from the definition of a stream: its bytes tell its items.
use Rattle.std.proofs.Common.{◌≡◌, ◌≢◌, ℕ, ℤ, pos, ◌+◌, ◌-◌, ◌<◌, ◌≤◌, List, [], ◌∷◌, ◌++◌, length, arith, refl, sym}
use Rattle.std.proofs.Common.{ap, ◌∙◌, subst, append_assoc, length-append, ◌⊎◌, inl, inr}
use Rattle.std.proofs.lemmas.List.{append-nil}
use Rattle.gob_num.proofs.PublicLaws.{append_split, unsigned_prefix, unsigned_length, signed_prefix}
use Rattle.gob_types.specs.declared.id.TypeId.{TypeId}
use Rattle.gob_types.specs.declared.kind.Field.{Field}
use Rattle.gob_types.specs.declared.kind.Kind.{Kind}
use Rattle.gob_types.specs.declared.kind.Shape.{Shape}
use Rattle.gob_types.specs.Base.{id}
use Rattle.gob_types.specs.Table.{Table}
use Rattle.gob_value.specs.Tree.{Tree}
use Rattle.gob_value.specs.Top.{SpellsTop}
use Rattle.gob_value.specs.Description.{SaidField, SaidKind, Said, RefersTo, GivesFields, no_more as no_more_fields}
use Rattle.gob_value.specs.Description.{and_field, GivesKind, gives_array, gives_slice, gives_struct, gives_map}
use Rattle.gob_value.specs.Description.{gives_opaque, Describes}
use Rattle.gob_stream.specs.Bounds.{Bounds}
use Rattle.gob_stream.specs.Item.{StreamItem, defines}
use Rattle.gob_stream.specs.Body.{Body, definition, value}
use Rattle.gob_stream.specs.Stream.{IsItem, counted, AreItems, no_more, and_then, Stream}
use Rattle.gob_stream.specs.Outcome.{BeginsWithStream, LongestStream, LongestButLast}
use Rattle.gob_types.proofs.PublicLaws.{some_injective}
use Rattle.gob_value.proofs.PublicLaws.{same_spelling, same_top}
use Rattle.gob_stream.specs.Laws.{ItemsGoOn, AtLeast}

-- ---- a description gives one shape
pub same_id : {t u : TypeId} → t.0 ≡ u.0 → t ≡ u
same_id e = ap (λ n. id n) e

referred : {i : ℤ} {t u : TypeId} → RefersTo i t → RefersTo i u → t ≡ u
referred {t = t} {u = u} p q = let e : pos t.0 ≡ pos u.0 = sym p.number
    ∙ q.number in same_id (let n : t.0 ≡ u.0 = cc in n)

same_field : {f g : Field} → f.name ≡ g.name → f.id ≡ g.id → f ≡ g
same_field {f = f} {g = g} n i =
    let make : List ℕ → TypeId → Field = λ n i. record { name = n; id = i } in
    ap (λ n. make n f.id) n ∙ ap (λ i. make g.name i) i

same_shape : {s r : Shape} → s.name ≡ r.name → s.kind ≡ r.kind → s ≡ r
same_shape {s = s} {r = r} n k =
    let make : List ℕ → Kind → Shape = λ n k. record { name = n; kind = k } in
    ap (λ n. make n s.kind) n ∙ ap (λ k. make r.name k) k

given_fields : {fs : List SaidField} {gs hs : List Field} → GivesFields fs gs → GivesFields fs hs → gs ≡ hs
given_fields no_more_fields no_more_fields = refl
given_fields (and_field n p ps) (and_field m q qs) =
    let one = same_field (sym n ∙ m) (referred p q) in let rest = given_fields ps qs in cc

given_kind : {k : SaidKind} {a b : Kind} → GivesKind k a → GivesKind k b → a ≡ b
given_kind (gives_array {n = m} p l) (gives_array {n = n} q r) =
    let e = referred p q in let pe : pos m ≡ pos n = sym l ∙ r in let ne : m ≡ n = cc in cc
given_kind (gives_slice p) (gives_slice q) = let e = referred p q in cc
given_kind (gives_struct ps) (gives_struct qs) = let e = given_fields ps qs in cc
given_kind (gives_map p r) (gives_map q s) = let e = referred p q in let f = referred r s in cc
given_kind gives_opaque gives_opaque = refl

described : {t : TypeId} {v : Tree} {s r : Shape} → Describes t v s → Describes t v r → s ≡ r
described {r = r} p q =
    let one = some_injective (sym p.says ∙ q.says) in
    let same_kind = subst (λ (w : Said). GivesKind w.kind r.kind) (sym one) q.kind in
    same_shape (p.name ∙ ap (λ (w : Said). w.name) one ∙ sym q.name) (given_kind p.kind same_kind)

-- ---- a body tells its item, and the types behind it
pub record OneItem (i j : StreamItem) (U V : Table) : Type 0 where
  pub item : i ≡ j
  pub table : U ≡ V

same_definition : (T : Table) {t u : TypeId} {v w : Tree} {s r : Shape} → t ≡ u → v ≡ w → Describes t v s
    → Describes u w r → OneItem (defines t v) (defines u w) (T ++ (t, s) ∷ []) (T ++ (u, r) ∷ [])
same_definition T {t = t} {u = u} {v = v} {w = w} {s = s} {r = r} e f p q =
    let p' = subst (λ v. Describes u v s) f (subst (λ t. Describes t v s) e p) in
    let one = described p' q in
    let entry : ◌≡◌ {A = TypeId × Shape} (t, s) (u, r) = ap (λ t. (t, s)) e ∙ ap (λ s. (u, s)) one in
    record { item = cc; table = ap (λ x. T ++ x ∷ []) entry }

pub body_tells : {base : Table} {L : Bounds} {T U V : Table} {i j : StreamItem} {d e : List ℕ} → Body base L T i d U
    → Body base L T j e V → d ≡ e → OneItem i j U V
body_tells {T = T} (definition {id = t} {n = m} {a = a} {b = b} p l s x n q)
    (definition {id = u} {n = k} {a = c} {b = d} p' l' s' x' n' q') h =
    let first = signed_prefix b d n n' h in
    let numbers : m ≡ k = let z = first.value in cc in
    let ids : t.0 ≡ u.0 = omega arith in
    same_definition T (same_id ids) (same_spelling [] [] q q' (ap (λ l. l ++ []) first.rest)).value s s'
body_tells (definition {b = b} p l s x n q) (value {b = d} p' l' n' q') h =
    absurd (let z = (signed_prefix b d n n' h).value in cc)
body_tells (value {b = b} p l n q) (definition {b = d} p' l' s' x' n' q') h =
    absurd (let z = (signed_prefix b d n n' h).value in cc)
body_tells {T = T} (value {t = t} {b = b} p l n q) (value {t = u} {v = w} {b = d} p' l' n' q') h =
    let first = signed_prefix b d n n' h in
    let ids : t ≡ u = let z = first.value in same_id (let n : t.0 ≡ u.0 = cc in n) in
    let second = (same_top [] [] q (subst (λ t. SpellsTop T t w d) (sym ids) q') (ap (λ l. l ++ []) first.rest)).value
    in
    record { item = cc; table = refl }

-- ---- an item tells where it ends
pub record OneCounted (i j : StreamItem) (U V : Table) (b c x y : List ℕ) : Type 0 where
  pub item : i ≡ j
  pub table : U ≡ V
  pub bytes : b ≡ c
  pub rest : x ≡ y

regroup : (b p x c q y : List ℕ) → (b ++ p) ++ x ≡ (c ++ q) ++ y → b ++ (p ++ x) ≡ c ++ (q ++ y)
regroup b p x c q y e = sym (append_assoc b p x) ∙ e ∙ append_assoc c q y

pub counted_prefix : {base : Table} {L : Bounds} {T U V : Table} {offset : ℕ} {i j : StreamItem} {b c : List ℕ}
    (x y : List ℕ)
    → IsItem base L T offset i b U → IsItem base L T offset j c V → b ++ x ≡ c ++ y → OneCounted i j U V b c x y
counted_prefix x y (counted {c = b} {d = d} p l s q) (counted {c = c} {d = e} p' l' s' q') h =
    let counts = unsigned_prefix (d ++ x) (e ++ y) p p' (regroup b d x c e y h) in
    let parts = append_split d e x y counts.value counts.rest in
    let bodies = body_tells q q' parts.0 in
    let eb : b ≡ c = counts.bytes in let ed : d ≡ e = parts.0 in
    record { item = bodies.item; table = bodies.table; bytes = cc; rest = parts.1 }

pub counted_some : {base : Table} {L : Bounds} {T U : Table} {offset : ℕ} {i : StreamItem} {b : List ℕ}
    → IsItem base L T offset i b U → 0 < length b
counted_some (counted {c = c} {d = d} p l s q) = omega (arith, (unsigned_length p).0, length-append c d)

-- ---- streams
-- a stream and more items behind it
pub items_behind : {base : Table} {L : Bounds} {T U V : Table} {offset next : ℕ} {items more : List StreamItem}
    {b c : List ℕ}
    → AreItems base L T offset items b U → next ≡ offset + length b → AreItems base L U next more c V
    → AreItems base L T offset (items ++ more) (b ++ c) V
items_behind {base = base} {L = L} {T = T} {V = V} {next = next} {more = more} {c = c} (no_more {offset = offset}) e r =
    let here : next ≡ offset = omega arith in
    subst (λ n. AreItems base L T n more c V) here r
items_behind {base = base} {L = L} {T = T} {V = V} {offset = offset} {more = more} {c = c}
    (and_then {i = j} {items = items} {b = a} {c = b} p e r) f q =
    subst (λ c. AreItems base L T offset (j ∷ items ++ more) c V) (sym (append_assoc a b c))
    (and_then p e (items_behind r (omega (arith, length-append a b)) q))

-- items stand within the limit for the stream
pub items_within : {base : Table} {L : Bounds} {T U : Table} {offset : ℕ} {items : List StreamItem} {b : List ℕ}
    → AreItems base L T offset items b U
    → length b ≤ L.stream - offset
items_within no_more = omega arith
items_within (and_then {b = b} {c = c} (counted u l m p) e r) = let rest = items_within r in
    omega (arith, length-append b c)

-- no items are no bytes
pub no_items_empty : {base : Table} {L : Bounds} {T U : Table} {offset : ℕ} {items : List StreamItem} {b : List ℕ}
    → AreItems base L T offset items b U
    → length items ≡ 0 → length b ≡ 0
no_items_empty no_more e = refl
no_items_empty (and_then p f r) e = absurd (omega arith)

-- and one item
pub one_item : {base : Table} {L : Bounds} {T U : Table} {offset : ℕ} {i : StreamItem} {b : List ℕ}
    → IsItem base L T offset i b U
    → AreItems base L T offset (i ∷ []) b U
one_item {base = base} {L = L} {T = T} {U = U} {offset = offset} {i = i} {b = b} p =
    subst (λ c. AreItems base L T offset (i ∷ []) c U) (append-nil b) (and_then p refl no_more)

pub one_more : {base : Table} {L : Bounds} {T U V : Table} {offset next : ℕ} {i : StreamItem} {items : List StreamItem}
    {b c : List ℕ}
    → AreItems base L T offset items b U → next ≡ offset + length b → IsItem base L U next i c V
    → AreItems base L T offset (items ++ i ∷ []) (b ++ c) V
one_more r e p = items_behind r e (one_item p)

-- no item begins these bytes
abbrev pub NoNext : Table → Bounds → Table → ℕ → List ℕ → Type 0
NoNext base L T offset bytes = (i : StreamItem) (U : Table) (b y : List ℕ) → IsItem base L T offset i b U → bytes ≡ b
    ++ y → ⊥

-- an item that begins these bytes is all of them
abbrev pub LastNext : Table → Bounds → Table → ℕ → List ℕ → Type 0
LastNext base L T offset bytes = (i : StreamItem) (U : Table) (b y : List ℕ) → IsItem base L T offset i b U → bytes ≡ b
    ++ y → length y ≡ 0

-- at most so many items begin these bytes
abbrev pub AtMost : Table → Bounds → Table → ℕ → ℕ → List ℕ → Type 0
AtMost base L T offset most bytes = (items : List StreamItem) (U : Table) (b y : List ℕ)
    → AreItems base L T offset items b U → bytes ≡ b ++ y → length items ≤ most

none_at_most : {base : Table} {L : Bounds} {T : Table} {offset : ℕ} {bytes : List ℕ} → NoNext base L T offset bytes
    → AtMost base L T offset 0 bytes
none_at_most n items U b y no_more e = omega arith
none_at_most n items U b y (and_then {i = i} {b = c} {c = d} q f s) e =
    absurd (n i _ c (d ++ y) q (e ∙ append_assoc c d y))

one_at_most : {base : Table} {L : Bounds} {T : Table} {offset : ℕ} {bytes : List ℕ} → LastNext base L T offset bytes
    → AtMost base L T offset 1 bytes
one_at_most n items U b y no_more e = omega arith
one_at_most n items U b y (and_then q f no_more) e = omega arith
one_at_most n items U b y (and_then {i = i} {b = c} q f (and_then {b = d} {c = x} p g s)) e =
    let last = n i _ c ((d ++ x) ++ y) q (e ∙ append_assoc c (d ++ x) y) in
    let some = counted_some p in
    omega (arith, length-append (d ++ x) y, length-append d x)

-- with no more items than that behind a stream, no stream begins the whole that is longer by more
longer_from : {base : Table} {L : Bounds} {T U V : Table} {offset end most : ℕ} {items others : List StreamItem}
    {b c : List ℕ} (rest y : List ℕ)
    → AreItems base L T offset items b U → end ≡ offset + length b → AtMost base L U end most rest
    → AreItems base L T offset others c V → b ++ rest ≡ c ++ y → length others ≤ length items + most
longer_from {base = base} {L = L} {T = T} {V = V} {others = others} {c = c} rest y (no_more {offset = offset}) e n q h =
    let few = n others V c y (subst (λ n. AreItems base L T n others c V) (here_is offset _ e) q) h in omega arith
  where
    here_is : (offset end : ℕ) → end ≡ offset + 0 → offset ≡ end
    here_is offset end e = omega arith
longer_from rest y (and_then p e r) k n no_more h = omega arith
longer_from {base = base} {L = L} {V = V} rest y (and_then {U = U} {next = m} {b = a} {c = b} p e r) k n
    (and_then {U = W} {next = n'} {items = others} {b = c} {c = d} q f s) h =
    let one = counted_prefix (b ++ rest) (d ++ y) p q (regroup a b rest c d y h) in
    let lengths : length a ≡ length c = ap length one.bytes in
    let offsets : n' ≡ m = omega arith in
    let s' = subst (λ (U : Table). AreItems base L U m others d V) (sym one.table)
    (subst (λ n. AreItems base L W n others d V) offsets s) in
    let shorter = longer_from rest y r (omega (arith, length-append a b)) n s' one.rest in
    omega arith

pub gives_items : {base : Table} {L : Bounds} {T : Table} {items : List StreamItem} {b : List ℕ} (rest : List ℕ)
    → Stream base L items b T → NoNext base L T (length b) rest → LongestStream base L (b ++ rest) items
gives_items {T = T} {b = b} rest p n = record {
  begins = record { prefix = b; rest = rest; table = T; stream = p; whole = refl };
  longest = λ others q. let few = longer_from rest q.rest p (omega arith) (none_at_most n) q.stream q.whole in
      omega arith;
}

pub gives_but_last : {base : Table} {L : Bounds} {T : Table} {items : List StreamItem} {b : List ℕ} (rest : List ℕ)
    → Stream base L items b T → LastNext base L T (length b) rest → LongestButLast base L (b ++ rest) items
gives_but_last {T = T} {b = b} rest p n = record {
  begins = record { prefix = b; rest = rest; table = T; stream = p; whole = refl };
  but_last = λ others q. longer_from rest q.rest p (omega arith) (one_at_most n) q.stream q.whole;
}

-- all items that bytes give, and those before the last
pub but_none : {base : Table} {L : Bounds} {bytes : List ℕ} {items : List StreamItem} → LongestStream base L bytes items
    → LongestButLast base L bytes items
but_none g = record { begins = g.begins; but_last = λ others q. let l = g.longest others q in omega arith }

pub before_last : {base : Table} {L : Bounds} {bytes : List ℕ} {items : List StreamItem} (i : StreamItem)
    → BeginsWithStream base L bytes items → LongestStream base L bytes (items ++ i ∷ [])
    → LongestButLast base L bytes items
before_last {items = items} i b g = record {
  begins = b;
  but_last = λ others q. let l = g.longest others q in
      omega (arith, length-append items (i ∷ []));
}

-- a longer stream has more items
pub more_items : {base : Table} {L : Bounds} {T U V : Table} {offset : ℕ} {items others : List StreamItem}
    {b c : List ℕ} (x : List ℕ)
    → AreItems base L T offset items b U → AreItems base L T offset others c V → b ++ x ≡ c → x ≢ []
    → length items < length others
more_items x no_more no_more h n = absurd (n h)
more_items x no_more (and_then q f s) h n = omega arith
more_items x (and_then {b = a} {c = b} p e r) no_more h n = let some = counted_some p in
    omega (arith, ap length h, length-append (a ++ b) x, length-append a b)
more_items {base = base} {L = L} {V = V} x (and_then {U = U} {next = m} {b = a} {c = b} p e r)
    (and_then {U = W} {next = n'} {items = others} {b = c} {c = d} q f s) h n =
    let one = counted_prefix (b ++ x) d p q (sym (append_assoc a b x) ∙ h) in
    let lengths : length a ≡ length c = ap length one.bytes in
    let offsets : n' ≡ m = omega arith in
    let s' = subst (λ (U : Table). AreItems base L U m others d V) (sym one.table)
    (subst (λ n. AreItems base L W n others d V) offsets s) in
    let more = more_items x r s' one.rest n in
    omega arith

-- ---- the laws of streams, by going along both of them
-- ---- one reading
pub one_reading : {base : Table} {L : Bounds} {T U V : Table} {offset : ℕ} {items others : List StreamItem}
    {b c : List ℕ}
    → AreItems base L T offset items b U → AreItems base L T offset others c V → b ≡ c → (items ≡ others) × (U ≡ V)
one_reading no_more no_more e = (refl, refl)
one_reading no_more (and_then {b = b} {c = c} q f s) e =
    absurd (let some = counted_some q in omega (arith, ap length e, length-append b c))
one_reading (and_then {b = b} {c = c} p e r) no_more h =
    absurd (let some = counted_some p in omega (arith, ap length h, length-append b c))
one_reading {base = base} {L = L} {V = V} (and_then {U = U} {next = m} {i = i} {items = items} {b = a} {c = b} p e r)
    (and_then {U = W} {next = n} {i = j} {items = others} {b = c} {c = d} q f s) h =
    let one = counted_prefix b d p q h in
    let lengths : length a ≡ length c = ap length one.bytes in
    let offsets : n ≡ m = omega arith in
    let s' = subst (λ (U : Table). AreItems base L U m others d V) (sym one.table)
    (subst (λ n. AreItems base L W n others d V) offsets s) in
    let rest = one_reading r s' one.rest in
    let ei : i ≡ j = one.item in let es : items ≡ others = rest.0 in
    (cc, rest.1)

-- ---- one begins the other
goes_on_more : {i : StreamItem} {items others : List StreamItem} → ItemsGoOn items others ⊎ ItemsGoOn others items
    → ItemsGoOn (i ∷ items) (i ∷ others) ⊎ ItemsGoOn (i ∷ others) (i ∷ items)
goes_on_more {i = i} (inl g) = inl (record { more = g.more; whole = ap (λ l. i ∷ l) g.whole })
goes_on_more {i = i} (inr g) = inr (record { more = g.more; whole = ap (λ l. i ∷ l) g.whole })

begin_from : {base : Table} {L : Bounds} {T U V : Table} {offset : ℕ} {items others : List StreamItem} {b c : List ℕ}
    (x y : List ℕ)
    → AreItems base L T offset items b U → AreItems base L T offset others c V → b ++ x ≡ c ++ y
    → ItemsGoOn items others ⊎ ItemsGoOn others items
begin_from {others = others} x y no_more q e = inl (record { more = others; whole = refl })
begin_from {items = items} x y p no_more e = inr (record { more = items; whole = refl })
begin_from {base = base} {L = L} {V = V} x y (and_then {U = U} {next = m} {i = i} {items = items} {b = a} {c = b} p e r)
    (and_then {U = W} {next = n} {i = j} {items = others} {b = c} {c = d} q f s) h =
    let one = counted_prefix (b ++ x) (d ++ y) p q (regroup a b x c d y h) in
    let lengths : length a ≡ length c = ap length one.bytes in
    let offsets : n ≡ m = omega arith in
    let s' = subst (λ (U : Table). AreItems base L U m others d V) (sym one.table)
    (subst (λ n. AreItems base L W n others d V) offsets s) in
    subst (λ j. ItemsGoOn (i ∷ items) (j ∷ others) ⊎ ItemsGoOn (j ∷ others) (i ∷ items)) one.item
    (goes_on_more (begin_from x y r s' one.rest))

pub begin_one_another : (base : Table) (L : Bounds) (bytes : List ℕ) (items others : List StreamItem)
    → BeginsWithStream base L bytes items → BeginsWithStream base L bytes others → ItemsGoOn items others
    ⊎ ItemsGoOn others items
begin_one_another base L bytes items others p q = begin_from p.rest q.rest p.stream q.stream (sym p.whole ∙ q.whole)

-- what isn't longer is all
pub all_of : {items others : List StreamItem} → ItemsGoOn items others → length others ≤ length items → items ≡ others
all_of {items = items} {others = others} g l =
    sym (g.whole ∙ ap (λ m. items ++ m) (none g.more (omega (arith, ap length g.whole, length-append items g.more)))
    ∙ append-nil items)
  where
    none : (m : List StreamItem) → length m ≡ 0 → m ≡ []
    none [] e = refl
    none (i ∷ m) e = absurd (omega arith)

pub give_one_list : (base : Table) (L : Bounds) (bytes : List ℕ) (items others : List StreamItem)
    → LongestStream base L bytes items → LongestStream base L bytes others → items ≡ others
give_one_list base L bytes items others p q =
    elim (begin_one_another base L bytes items others p.begins q.begins) [
      | inl g ↦ all_of g (p.longest others q.begins)
      | inr g ↦ sym (all_of g (q.longest items p.begins))
    ]

-- ---- wider limits
wider_body : {base : Table} {L M : Bounds} {T U : Table} {i : StreamItem} {d : List ℕ} → AtLeast L M
    → Body base L T i d U → Body base M T i d U
wider_body w (definition p l s n x q) = definition (record {
  own = p.own;
  new = p.new;
  room = let r = p.room in let t =
      w.types in omega arith;
}) (let t = w.depth in omega arith) s n x q
wider_body w (value p l x q) = value p (let t = w.depth in omega arith) x q

pub wider_counted : {base : Table} {L M : Bounds} {T U : Table} {offset : ℕ} {i : StreamItem} {b : List ℕ} → AtLeast L M
    → IsItem base L T offset i b U → IsItem base M T offset i b U
wider_counted w (counted p l s q) = counted p (let t = w.item in omega arith) (let t = w.stream in omega arith)
    (wider_body w q)

pub wider : {base : Table} {L M : Bounds} {T U : Table} {offset : ℕ} {items : List StreamItem} {b : List ℕ}
    → AtLeast L M → AreItems base L T offset items b U → AreItems base M T offset items b U
wider w no_more = no_more
wider w (and_then q e r) = and_then (wider_counted w q) e (wider w r)
