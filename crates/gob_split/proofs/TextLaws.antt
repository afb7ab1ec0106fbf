-- The text of an item is that of what comes of it, wherever the item stands.
use Rattle.std.proofs.Common.{◌≡◌, ◌∙◌, ℕ, ◌+◌, ◌^◌, ◌<◌, ◌≤◌, List, [], ◌∷◌, ◌++◌, length, take, arith, refl}
use Rattle.std.proofs.Common.{sym, ap, subst, length-append, None, IsSome}
use Rattle.std.proofs.Math.ListN.{drop_of_length-le}
use Rattle.std.proofs.lemmas.List.{append-nil, take_all}
use Rattle.gob_num.specs.Spelled.{IsSpelled}
use Rattle.gob_types.specs.Base.{base_table}
use Rattle.gob_types.specs.Table.{Table}
use Rattle.gob_types.specs.declared.id.TypeId.{TypeId}
use Rattle.gob_value.specs.View.{view}
use Rattle.gob_value.specs.declared.value.Value.{Value}
use Rattle.gob_stream.specs.Bounds.{Bounds, greatest_depth}
use Rattle.gob_filled.specs.Filled.{as_it_stands, AreDefined, Filled, filled, Fillings, filling, Fills, next_filled}
use Rattle.gob_filled.specs.Filled.{no_definitions, no_filling, none_defined, SpellsFilled, with_fillings}
use Rattle.gob_filled.specs.Stream.{FilledItem, defining, putting, IsFilledItem, of_value, AreFilledItems, no_more}
use Rattle.gob_filled.specs.Stream.{and_then}
use Rattle.gob_go.specs.Meaning.{ItemMeans, ItemsMean, mean_more, mean_none, means_definition, means_value}
use Rattle.gob_go.specs.declared.filled.Filled.{Filled as Kept}
use Rattle.gob_go.specs.declared.item.GoItem.{GoItem}
use Rattle.gob_go.specs.declared.item.GoItem.TheVariants as item
use Rattle.gob_go.proofs.ItemsLaws.{grown_keeps, item_grown, items_grown, last_of}
use Rattle.gob_go_writer.specs.Hoisting.{fillings_without, hoisted, inner_items, IsHoisted, without_definitions}
use Rattle.gob_go_writer.specs.Item.{IsGrown, IsItemOf}
use Rattle.gob_go_writer.proofs.HoistedLaws.{item_bytes}
use Rattle.gob_tool.specs.Machine.FormsGo.{AreItemsOf, no_items, item_then}
use Rattle.gob_split.proofs.CutterLaws.{text_whole}
use Rattle.gob_split.specs.Machine.Items.{IsApart, IsMadeOf, IsShort, IsShortText, text_in}
use Rattle.gob_split.specs.Text.{IsTextOf}
use Rattle.gob_split.specs.declared.item_text.ItemText.{ItemText}

pub one_item : {M : Bounds} {T U : Table} {offset : ℕ} {i : FilledItem} {b : List ℕ}
    → IsFilledItem base_table M T offset i b U → AreFilledItems base_table M T offset (i ∷ []) b U
one_item {M = M} {T = T} {U = U} {offset = offset} {i = i} {b = b} k =
    subst (λ (z : List ℕ). AreFilledItems base_table M T offset (i ∷ []) z U) (append-nil b) (and_then k refl no_more)

-- ---- a value without definitions leaves the types as they are
none_behind : {L : Bounds} {T U : Table} {e : List ℕ} → AreDefined base_table L T no_definitions e U → T ≡ U
none_behind none_defined = refl

mutual
  same_behind : {L : Bounds} {T U : Table} {t : TypeId} {limit : ℕ} {ls : List ℕ} (w : Filled)
      → SpellsFilled base_table L T t limit (without_definitions w) ls U → T ≡ U
  same_behind (filled v fs) (with_fillings sp de fl) = same_filled fs fl

  same_filled : {L : Bounds} {T U X : Table} {t : TypeId} {limit : ℕ} {done left ls : List ℕ} (fs : Fillings)
      → Fills base_table L T t limit U done left (fillings_without fs) ls X → U ≡ X
  same_filled no_filling (as_it_stands o) = refl
  same_filled (filling place s ds u w fs) (next_filled c oc ex some os n defs may i vs g fl) =
      none_behind defs ∙ same_behind w vs ∙ same_filled fs fl

pub same_item : {L : Bounds} {T U : Table} {t : TypeId} {offset : ℕ} {b : List ℕ} (w : Filled)
    → IsFilledItem base_table L T offset (putting t (without_definitions w)) b U → T ≡ U
same_item w (of_value may sg sp cs) = same_behind w sp

-- ---- what is kept of items stands for them
item_there : {M : Bounds} {now T U : Table} {offset : ℕ} {i : FilledItem} {bytes : List ℕ} {kept : GoItem}
    → IsFilledItem base_table M T offset i bytes U → ItemMeans now kept i → IsGrown U now
    → M.depth ≤ greatest_depth → IsItemOf now kept bytes
item_there {M = M} {T = T} {U = U} {offset = offset} {i = i} is m g s = record {
  limits = M;
  before = T;
  behind = U;
  offset = offset;
  item = i;
  means = m;
  is = is;
  grown = g;
  shallow = s;
}

items_there : {M : Bounds} {now T U : Table} {offset : ℕ} {items : List FilledItem} {bytes : List ℕ}
    {kept : List GoItem} → AreFilledItems base_table M T offset items bytes U → ItemsMean now kept items
    → IsGrown U now → M.depth ≤ greatest_depth → AreItemsOf now kept bytes
items_there no_more mean_none g s = no_items
items_there (and_then p n ps) (mean_more m ms) g s =
    item_then (item_there p m (λ t r e. g t r ((grown_keeps (items_grown ps)).shape t r e)) s)
    (items_there ps ms g s)

-- limits that allow just these bytes
abbrev just : Bounds → List ℕ → Bounds
just L bytes = record L { item = length bytes; stream = length bytes }

pub record LastMeans (T : Table) (init : List GoItem) (last : GoItem) (items : List FilledItem) (i : FilledItem) :
    Type 0 where
  pub before : ItemsMean T init items
  pub value : ItemMeans T last i

same_length : {T : Table} {all : List GoItem} {items : List FilledItem} → ItemsMean T all items
    → length all ≡ length items
same_length mean_none = refl
same_length (mean_more m ms) = let l = same_length ms in omega arith

last_means : {T : Table} {last : GoItem} {i : FilledItem} (init : List GoItem) (items : List FilledItem)
    → ItemsMean T (init ++ last ∷ []) (items ++ i ∷ []) → LastMeans T init last items i
last_means [] [] (mean_more m ms) = record { before = mean_none; value = m }
last_means {i = i} [] (j ∷ items) (mean_more m ms) =
    absurd (omega (arith, same_length ms, length-append items (i ∷ [])))
last_means {last = last} (g ∷ init) [] (mean_more m ms) =
    absurd (omega (arith, same_length ms, length-append init (last ∷ [])))
last_means (g ∷ init) (j ∷ items) (mean_more m ms) =
    let l = last_means init items ms in
    record { before = mean_more m l.before; value = l.value }

-- ---- the bytes of what comes of an item
one_of : {M : Bounds} {T U : Table} {offset : ℕ} {i : FilledItem} {b : List ℕ}
    → AreFilledItems base_table M T offset (i ∷ []) b U → IsFilledItem base_table M T offset i b U
one_of {M = M} {T = T} {U = U} {offset = offset} {i = i} (and_then {b = b} k n no_more) =
    subst (λ (z : List ℕ). IsFilledItem base_table M T offset i z U) (sym (append-nil b)) k

-- a definition alone
pub defined_text : {T : Table} {kept : GoItem} {id : TypeId} {described : Value} {x : ItemText}
    → kept ≡ item.Define id described → IsShortText T kept x.bytes.items → x.definitions ≡ length x.bytes.items
    → IsMadeOf T kept x
defined_text {T = T} {kept = kept} {id = id} {described = described} {x = x} e h all = record {
  within = omega (arith, all);
  is = λ i m. by i (subst (λ k. ItemMeans T k i) e m) m;
}
  where
    by : (i : FilledItem) → ItemMeans T (item.Define id described) i → ItemMeans T kept i → IsTextOf T i (text_in x)
    by i means_definition m = λ L before at bytes shallow is M offset d t size room.
        let few = subst (λ (b : List ℕ). length b < 2 ^ 60) (h.is bytes (item_there is m
        (λ t s e. e) shallow)) h.short in
        let b = item_bytes few is in
        let there = one_of (b.are (just L b.bytes) 0 refl refl (omega arith) (omega arith)) in
        let same = h.is b.bytes (item_there there m (λ t s e. e) shallow) in
        let whole = ap length (text_whole x) in
        let long = ap length same in
        let front : take x.definitions x.bytes.items ≡ b.bytes =
        take_all x.definitions x.bytes.items (omega (arith, all)) ∙ same in
        record {
          definitions_are = subst (λ (z : List ℕ).
              AreFilledItems base_table M before offset (defining id (view described) ∷ []) z T)
              (sym front) (b.are M offset d t (omega (arith, size, whole, long)) (omega (arith, room, whole, long)));
          value_is = subst (λ (z : List ℕ).
              AreFilledItems base_table M T (offset + length (take x.definitions x.bytes.items)) [] z T)
              (sym (drop_of_length-le x.bytes.items (omega (arith, all)))) no_more;
        }

-- ---- definitions and the value behind them
-- the last of the items that come of a value
record Last (L : Bounds) (T now : Table) (offset : ℕ) (init : List GoItem) (last : GoItem) (w : Filled) (id : TypeId)
    (bytes : List ℕ) : Type 0 where
  front : List ℕ
  rest : List ℕ
  table : Table
  front_are : AreFilledItems base_table L T offset (inner_items w) front table
  rest_is : IsFilledItem base_table L table (offset + length front) (putting id (without_definitions w)) rest now
  whole : bytes ≡ front ++ rest
  same : table ≡ now
  front_kept : AreItemsOf now init front
  rest_kept : IsItemOf now last rest

last_there : {L : Bounds} {T now : Table} {offset : ℕ} {init : List GoItem} {last : GoItem} {id : TypeId}
    {bytes : List ℕ} (w : Filled) → L.depth ≤ greatest_depth
    → LastMeans now init last (inner_items w) (putting id (without_definitions w))
    → AreFilledItems base_table L T offset (hoisted (putting id w)) bytes now
    → Last L T now offset init last w id bytes
last_there w shallow m are =
    let l = last_of (inner_items w) are in
    record {
      front = l.before;
      rest = l.bytes;
      table = l.table;
      front_are = l.items_are;
      rest_is = l.item;
      whole = l.whole;
      same = same_item w l.item;
      front_kept = items_there l.items_are m.before (λ t s e. (grown_keeps (item_grown l.item)).shape t s e) shallow;
      rest_kept = item_there l.item m.value (λ t s e. e) shallow;
    }

hoisted_means : {T : Table} {kept last : GoItem} {init made : List GoItem} {id : TypeId} {w : Filled}
    → IsHoisted kept [] made → made ≡ init ++ last ∷ [] → ItemMeans T kept (putting id w)
    → LastMeans T init last (inner_items w) (putting id (without_definitions w))
hoisted_means {T = T} {init = init} {id = id} {w = w} h ends m =
    last_means init (inner_items w)
    (subst (λ (l : List GoItem). ItemsMean T l (hoisted (putting id w))) (sym h.appended ∙ ends)
    (h.mean T (putting id w) m))

-- something comes of each item
pub some_made : {T : Table} {kept : GoItem} {made : List GoItem} → IsSpelled (IsItemOf T kept) → IsHoisted kept [] made
    → 0 < length made
some_made {T = T} g h =
    let a = g.spelled in
    let size = same_length (h.mean T a.item a.means) in
    let all = ap length h.appended in
    let some = some_hoisted a.item in
    omega (arith, size, all, some)
  where
    some_hoisted : (i : FilledItem) → 0 < length (hoisted i)
    some_hoisted (defining id v) = omega arith
    some_hoisted (putting t w) =
        omega (arith, length-append (inner_items w) (putting t (without_definitions w) ∷ []))

pub no_none : (A : Type 0) → IsSome {T = A} None → ⊥
no_none A h = cc

-- they can be written
pub record Spelled (T : Table) (init : List GoItem) (last : GoItem) : Type 0 where
  pub definitions : IsSpelled (AreItemsOf T init)
  pub value : IsSpelled (IsItemOf T last)

pub apart_spelled : {T : Table} {id : TypeId} {value : Kept} {init made : List GoItem} {last : GoItem}
    → IsSpelled (IsItemOf T (item.Put id value)) → IsShort T (item.Put id value)
    → IsHoisted (item.Put id value) [] made → made ≡ init ++ last ∷ [] → Spelled T init last
apart_spelled {T = T} {id = id} {value = value} {init = init} {made = made} {last = last} g few h ends =
    by g.spelled.item g.spelled.means g.spelled.is
  where
    by : (i : FilledItem) → ItemMeans T (item.Put id value) i
        → IsFilledItem base_table g.spelled.limits g.spelled.before g.spelled.offset i g.bytes g.spelled.behind
        → Spelled T init last
    by i (means_value {w = w} m) is =
        let a = g.spelled in
        let b = item_bytes (few g.bytes a) is in
        let lm = hoisted_means h ends (means_value {w = w} m) in
        let l = last_of (inner_items w) (b.are (just a.limits b.bytes) 0 refl refl (omega arith) (omega arith)) in
        record {
          definitions = record {
            bytes = l.before;
            spelled = items_there l.items_are lm.before
                (λ t s e. a.grown t s ((grown_keeps (item_grown l.item)).shape t s e)) a.shallow;
          };
          value = record { bytes = l.bytes; spelled = item_there l.item lm.value a.grown a.shallow };
        }

pub apart_text : {T : Table} {id : TypeId} {value : Kept} {init made : List GoItem} {last : GoItem} {x : ItemText}
    → IsShort T (item.Put id value) → IsHoisted (item.Put id value) [] made → made ≡ init ++ last ∷ []
    → IsApart T init last x → IsMadeOf T (item.Put id value) x
apart_text {T = T} {id = id} {value = value} {x = x} short h ends a = record {
  within = a.within;
  is = λ i m. by i m;
}
  where
    by : (i : FilledItem) → ItemMeans T (item.Put id value) i → IsTextOf T i (text_in x)
    by i (means_value {w = w} m) = λ L before at bytes shallow is M offset d t size room.
        let few = short bytes (item_there is (means_value m) (λ t s e. e) shallow) in
        let b = item_bytes few is in
        let lm = hoisted_means h ends (means_value {w = w} m) in
        let one = last_there w shallow lm (b.are (just L b.bytes) 0 refl refl (omega arith) (omega arith)) in
        let long = ap length (one.whole ∙ ap (λ (z : List ℕ). z ++ one.rest) (sym (a.definitions_are _ one.front_kept))
        ∙ ap (λ (z : List ℕ). (text_in x).definitions ++ z) (sym (a.value_is _ one.rest_kept))) in
        let l = last_there w (omega (arith, d)) lm (b.are M offset d t (omega (arith, size, long))
        (omega (arith, room, long))) in
        let front = a.definitions_are _ l.front_kept in
        let rest = a.value_is _ l.rest_kept in
        record {
          definitions_are = subst (λ (z : List ℕ). AreFilledItems base_table M before offset (inner_items w) z T)
              (sym front)
              (subst (λ (U : Table). AreFilledItems base_table M before offset (inner_items w) l.front U) l.same
              l.front_are);
          value_is = subst (λ (z : List ℕ). AreFilledItems base_table M T (offset + length z)
              (putting id (without_definitions w) ∷ []) (text_in x).value T) (sym front)
              (subst (λ (z : List ℕ). AreFilledItems base_table M T (offset + length l.front)
              (putting id (without_definitions w) ∷ []) z T) (sym rest) (one_item (subst (λ (U : Table).
              IsFilledItem base_table M U (offset + length l.front) (putting id (without_definitions w)) l.rest T)
              l.same l.rest_is)));
        }
