-- Streams of items: how tables grow, where items end, and which list of items is the longest that bytes give.
use Rattle.std.proofs.Common.{◌≡◌, ℕ, ◌+◌, ◌≤◌, List, [], ◌∷◌, ◌++◌, length, arith, refl, sym, ap, ◌∙◌}
use Rattle.std.proofs.Common.{subst, append_assoc, length-append}
use Rattle.std.proofs.lemmas.List.{append-nil}
use Rattle.gob_num.specs.Unsigned.{IsUnsignedPrefix}
use Rattle.gob_num.proofs.PublicLaws.{regroup, unsigned_length}
use Rattle.gob_types.specs.declared.id.TypeId.{TypeId}
use Rattle.gob_types.specs.Base.{base_table, wire_type}
use Rattle.gob_types.specs.Table.{Table}
use Rattle.gob_types.proofs.PublicLaws.{Keeps, shape_of-append}
use Rattle.gob_value.specs.Top.{HasStructs}
use Rattle.gob_value.specs.Tree.{Tree}
use Rattle.gob_read.proofs.Grammar.Prefixes.{same_end}
use Rattle.gob_stream.specs.Bounds.{Bounds}
use Rattle.gob_stream.proofs.Stream.OutcomeLaws.{base_wire}
use Rattle.gob_filled.specs.Definition.{Defines, defines}
use Rattle.gob_filled.specs.Outcome.{BeginsFilled}
use Rattle.gob_filled.specs.Standing.{Level, Next, Stands, at_value, behind_name, behind_definition, at_inner}
use Rattle.gob_filled.specs.Standing.{behind_inner}
use Rattle.gob_filled.specs.Stream.{FilledItem, IsFilledItem, of_definition, of_value, AreCounted, last_counted}
use Rattle.gob_filled.specs.Stream.{next_counted, AreFilledItems, no_more, and_then, FilledStream}
use Rattle.gob_filled.proofs.Complete.{stands_so}
use Rattle.gob_filled.proofs.Items.{one_filled_item}

-- what has begun of a number is no more than one
pub prefix_few : {q : List ℕ} → IsUnsignedPrefix q → length q ≤ 9
prefix_few {q = q} f = let n = (unsigned_length f.spelled).1 in omega (arith, length-append q f.rest)

-- ---- how tables grow
pub record Grown (T U : Table) : Type 0 where
  pub more : Table
  pub grown : U ≡ T ++ more

pub same_grown : {T U : Table} → U ≡ T → Grown T U
same_grown {T = T} e = record { more = []; grown = e ∙ sym (append-nil T) }

pub grown_on : {T U V : Table} → Grown T U → Grown U V → Grown T V
grown_on {T = T} g h = record {
  more = g.more ++ h.more;
  grown = h.grown ∙ ap (λ (T : Table). T ++ h.more) g.grown ∙ append_assoc T g.more h.more;
}

pub grown_keeps : {T U : Table} → Grown T U → Keeps T U
grown_keeps {T = T} g = subst (λ (U : Table). Keeps T U) (sym g.grown)
    (record { shape = λ t s e. shape_of-append T g.more t s e })

pub defines_grown : {L : Bounds} {T U : Table} {id : TypeId} {v : Tree} {b : List ℕ}
    → Defines base_table L T id v b U → Grown T U
defines_grown (defines may de ds i sg sp) = record { more = _; grown = refl }

pub stands_grown : {L : Bounds} {T : Table} {offset : ℕ} {z : List ℕ} {U : Table} {levels : List Level} {next : Next}
    {left : ℕ} → Stands base_table L T offset z U levels next left → Grown T U
stands_grown (at_value u l e s sg short may k) = same_grown refl
stands_grown (behind_name c s p ex dl sh some u fit) = stands_grown p
stands_grown (behind_definition p def_ e k) = grown_on (stands_grown p) (defines_grown def_)
stands_grown (at_inner p may sg u e l) = stands_grown p
stands_grown (behind_inner b p sp de e) = stands_grown p

pub item_grown : {L : Bounds} {T U : Table} {offset : ℕ} {i : FilledItem} {b : List ℕ}
    → IsFilledItem base_table L T offset i b U → Grown T U
item_grown (of_definition n l s d) = defines_grown d
item_grown (of_value may sg k cs) = stands_grown (stands_so (of_value may sg k cs)).stands

pub items_grown : {L : Bounds} {T U : Table} {offset : ℕ} {items : List FilledItem} {b : List ℕ}
    → AreFilledItems base_table L T offset items b U → Grown T U
items_grown no_more = same_grown refl
items_grown (and_then i n is) = grown_on (item_grown i) (items_grown is)

-- descriptions stay structs
pub wire_of : {T : Table} → Grown base_table T → HasStructs T wire_type
wire_of g = record {
  shape = base_wire.shape;
  found = (grown_keeps g).shape wire_type base_wire.shape base_wire.there;
  struct = base_wire.struct;
}

-- ---- where items end
counted_ends : {L : Bounds} {most offset : ℕ} {ls f : List ℕ} → AreCounted L most offset ls f
    → offset + length f ≤ L.stream
counted_ends (last_counted s o u l k) = k
counted_ends (next_counted {c = c} {f = f} s o u l k n m) = let e = counted_ends m in
    omega (arith, length-append c (s ++ f), length-append s f, length-append c s)

pub item_ends : {L : Bounds} {T U : Table} {offset : ℕ} {i : FilledItem} {b : List ℕ}
    → IsFilledItem base_table L T offset i b U → offset + length b ≤ L.stream
item_ends (of_definition n l s d) = s
item_ends (of_value may sg k cs) = counted_ends cs

pub items_end : {L : Bounds} {T U : Table} {offset : ℕ} {items : List FilledItem} {b : List ℕ}
    → AreFilledItems base_table L T offset items b U → offset ≤ L.stream → offset + length b ≤ L.stream
items_end no_more l = omega arith
items_end (and_then {b = b} {c = c} i n is) l = let e = item_ends i in let f = items_end is (omega arith) in
    omega (arith, length-append b c)

-- ---- lists of items
pub one_more : {L : Bounds} {T U V : Table} {offset next : ℕ} {items : List FilledItem} {i : FilledItem} {b c : List ℕ}
    → AreFilledItems base_table L T offset items b U → next ≡ offset + length b → IsFilledItem base_table L U next i c V
    → AreFilledItems base_table L T offset (items ++ i ∷ []) (b ++ c) V
one_more {L = L} {V = V} {next = next} {i = i} {c = c} (no_more {T = T} {offset = offset}) e h =
    subst (λ b. AreFilledItems base_table L T offset (i ∷ []) b V) (append-nil c)
    (and_then (subst (λ n. IsFilledItem base_table L T n i c V) (omega arith) h) refl no_more)
one_more {L = L} {T = T} {V = V} {offset = offset} {items = items} {i = i} {c = d} (and_then {i = j} {items = js}
    {b = b} {c = c} k n is) e h =
    subst (λ l. AreFilledItems base_table L T offset (j ∷ (js ++ i ∷ [])) l V) (sym (append_assoc b c d))
    (and_then k n (one_more is (omega (arith, length-append b c)) h))

-- the last item, and those before it
pub record Last (L : Bounds) (T : Table) (offset : ℕ) (items : List FilledItem) (i : FilledItem) (b : List ℕ)
    (V : Table) : Type 0 where
  pub before : List ℕ
  pub bytes : List ℕ
  pub table : Table
  pub items_are : AreFilledItems base_table L T offset items before table
  pub item : IsFilledItem base_table L table (offset + length before) i bytes V
  pub whole : b ≡ before ++ bytes

pub last_of : {L : Bounds} {T V : Table} {offset : ℕ} {i : FilledItem} {b : List ℕ} (items : List FilledItem)
    → AreFilledItems base_table L T offset (items ++ i ∷ []) b V → Last L T offset items i b V
last_of {L = L} {T = T} {offset = offset} {i = i} [] (and_then {U = U} {b = b} k n no_more) = record {
  before = [];
  bytes = b;
  table = T;
  items_are = no_more;
  item = subst (λ n. IsFilledItem base_table L T n i b U) (omega arith) k;
  whole = append-nil b;
}
last_of {L = L} {V = V} {offset = offset} {i = i} (j ∷ items) (and_then {next = next} {b = b} {c = c} k n is) =
    let l = last_of items is in
    record {
      before = b ++ l.before;
      bytes = l.bytes;
      table = l.table;
      items_are = and_then k n l.items_are;
      item = subst (λ n. IsFilledItem base_table L l.table n i l.bytes V) (omega (arith, length-append b l.before))
          l.item;
      whole = ap (λ (c : List ℕ). b ++ c) l.whole ∙ sym (append_assoc b l.before l.bytes);
    }

-- equal items are equal bytes, and lead to one table
pub record OneReading (b c x y : List ℕ) (U V : Table) : Type 0 where
  pub bytes : b ≡ c
  pub rest : x ≡ y
  pub table : U ≡ V

pub one_reading : {L : Bounds} {T U V : Table} {offset : ℕ} {items : List FilledItem} {b c : List ℕ} (x y : List ℕ)
    → AreFilledItems base_table L T offset items b U → AreFilledItems base_table L T offset items c V
    → b ++ x ≡ c ++ y → OneReading b c x y U V
one_reading x y no_more no_more e = record { bytes = refl; rest = e; table = refl }
one_reading {L = L} {V = V} {offset = offset} x y (and_then {next = next} {items = items} {b = b} {c = p} i k is)
    (and_then {U = U} {next = next'} {b = c} {c = q} j k' js) e =
    let grouped = regroup b p x c q y e in
    let one = one_filled_item (p ++ x) (q ++ y) i j grouped in
    let eb : b ≡ c = one.1 in
    let places : next' ≡ next = k' ∙ ap (λ (b : List ℕ). offset + length b) (sym eb) ∙ sym k in
    let rest = one_reading x y is (subst (λ T. AreFilledItems base_table L T next items q V) (sym one.2)
    (subst (λ n. AreFilledItems base_table L U n items q V) places js))
    (same_end b (p ++ x) (q ++ y) (grouped ∙ ap (λ (b : List ℕ). b ++ (q ++ y)) (sym eb))) in
    record { bytes = both eb rest.bytes; rest = rest.rest; table = rest.table }
  where
    both : {a b c d : List ℕ} → a ≡ c → b ≡ d → a ++ b ≡ c ++ d
    both e f = cc

-- no item begins the bytes
abbrev pub NoNext : Bounds → Table → ℕ → List ℕ → Type 0
NoNext L T offset z = (i : FilledItem) (U : Table) (b x : List ℕ) → IsFilledItem base_table L T offset i b U
    → z ≡ b ++ x → ⊥

-- where none begins those behind the items, no list is longer
no_longer : {L : Bounds} {T U V : Table} {offset : ℕ} {items others : List FilledItem} {b c : List ℕ} (x y : List ℕ)
    → AreFilledItems base_table L T offset items b U → NoNext L U (offset + length b) x
    → AreFilledItems base_table L T offset others c V → b ++ x ≡ c ++ y → length others ≤ length items
no_longer x y no_more n no_more e = omega arith
no_longer {L = L} x y (no_more {T = T}) n (and_then {U = U} {offset = offset} {i = i} {b = b} {c = c} k m is) e =
    absurd (n i U b (c ++ y) (subst (λ n. IsFilledItem base_table L T n i b U) (omega arith) k)
    (e ∙ append_assoc b c y))
no_longer x y (and_then i k is) n no_more e = omega arith
no_longer {L = L} {U = M} {V = V} {offset = offset} x y
    (and_then {U = W} {next = next} {items = items} {b = b} {c = p} i k is) n
    (and_then {U = U} {next = next'} {items = others} {b = c} {c = q} j k' js) e =
    let grouped = regroup b p x c q y e in
    let one = one_filled_item (p ++ x) (q ++ y) i j grouped in
    let eb : b ≡ c = one.1 in
    let places : next' ≡ next = k' ∙ ap (λ (b : List ℕ). offset + length b) (sym eb) ∙ sym k in
    let l = no_longer x y is (λ i U d w h. n i U d w (subst (λ n. IsFilledItem base_table L M n i d U)
    (omega (arith, length-append b p)) h))
    (subst (λ T. AreFilledItems base_table L T next others q V) (sym one.2)
    (subst (λ n. AreFilledItems base_table L U n others q V) places js))
    (same_end b (p ++ x) (q ++ y) (grouped ∙ ap (λ (b : List ℕ). b ++ (q ++ y)) (sym eb))) in
    omega arith

pub longest : {L : Bounds} {T : Table} {items : List FilledItem} {f bytes : List ℕ} (z : List ℕ)
    → FilledStream base_table L items f T → bytes ≡ f ++ z → NoNext L T (length f) z → (others : List FilledItem)
    → BeginsFilled base_table L bytes others → length others ≤ length items
longest {L = L} {T = T} {f = f} z s e n others b =
    no_longer z b.rest s (λ i U d x h. n i U d x (subst (λ n. IsFilledItem base_table L T n i d U) (omega arith) h))
    b.stream (sym e ∙ b.whole)
