-- Items of values that stand whole one behind another at the front of a piece, and define nothing.
use Rattle.std.proofs.Common.{Bool}
use Rattle.std.proofs.Common.{◌≡◌, ℕ, suc, ◌+◌, ◌-◌, ◌≤◌, List, [], ◌∷◌, ◌++◌, length, take, drop, min, arith}
use Rattle.std.proofs.Common.{refl, sym, ap, ◌∙◌, subst, length-append, length-drop}
use Rattle.std.proofs.Math.Seq.{take-add}
use Rattle.std.proofs.lemmas.List.{append-nil, length-take-le, take-append-drop}
use Rattle.gob_num.specs.Unsigned.{AreBytes}
use Rattle.gob_num.proofs.PlaceLaws.{all_taken}
use Rattle.gob_num.proofs.PublicLaws.{bytes_prefix, bytes_rest}
use Rattle.gob_types.specs.Base.{base_table}
use Rattle.gob_types.specs.Defined.{types}
use Rattle.gob_types.specs.Table.{Table}
use Rattle.gob_types.specs.declared.id.TypeId.{TypeId}
use Rattle.gob_stream.specs.Bounds.{Bounds, within_trees}
use Rattle.gob_stream.specs.Item.{StreamItem}
use Rattle.gob_stream.specs.Stream.{AreItems, no_more, and_then}
use Rattle.gob_stream.specs.Whole.{AreItemsBetween, HasBody}
use Rattle.gob_stream.proofs.Reader.WholeSteps.{items_at_0}
use Rattle.gob_filled.specs.Filled.{SpellsFilled}
use Rattle.gob_filled.specs.OutcomeLaws.{unfilled_item}
use Rattle.gob_filled.specs.Stream.{FilledItem, AreFilledItems, IsFilledItem, putting, of_value, last_counted}
use Rattle.gob_filled.specs.Stream as filled
use Rattle.gob_filled.proofs.Contained.{item_stays}
use Rattle.gob_stream.specs.Stepping.{in_format, in_grammar, IsToldNextBy}
use Rattle.gob_go.specs.GoStepping.{stepping_of}
use Rattle.gob_go.specs.Calls.Session.{AreNext, HasItemsNext, ReadsAllSo, ReadsItemsSo}
use Rattle.gob_go.specs.declared.item.GoItem.{GoItem}
use Rattle.gob_go.specs.Machine.SessionState.{SessionState}
use Rattle.gob_go.specs.Whole.{AreFilledBefore, IsFilledWhole}
use Rattle.gob_go.proofs.SessionAnswers.{few_items}
use Rattle.gob_go.proofs.WholeSteps.{filled_within, more_behind}

-- ---- items of the format are items of the profile
abbrev unfilled_items : List StreamItem → List FilledItem
unfilled_items [] = []
unfilled_items (i ∷ is) = unfilled_item i ∷ unfilled_items is

unfilled_count : (is : List StreamItem) → length (unfilled_items is) ≡ length is
unfilled_count [] = refl
unfilled_count (i ∷ is) = ap suc (unfilled_count is)

items_stay : {L : Bounds} {T U : Table} {offset : ℕ} {is : List StreamItem} {z : List ℕ} → AreBytes z
    → AreItems base_table L T offset is z U → AreFilledItems base_table L T offset (unfilled_items is) z U
items_stay o no_more = filled.no_more
items_stay o (and_then {b = b} {c = c} p e r) =
    filled.and_then (item_stays (bytes_prefix b c o) p) e (items_stay (bytes_rest b c o) r)

-- no items are no bytes
filled_empty : {L : Bounds} {T U : Table} {offset : ℕ} {items : List FilledItem} {b : List ℕ}
    → AreFilledItems base_table L T offset items b U → length items ≡ 0 → length b ≡ 0
filled_empty filled.no_more e = refl
filled_empty (filled.and_then p e r) n = absurd (omega arith)

pub one_filled : {L : Bounds} {T U : Table} {offset : ℕ} {i : FilledItem} {b : List ℕ}
    → IsFilledItem base_table L T offset i b U → AreFilledItems base_table L T offset (i ∷ []) b U
one_filled {L = L} {T = T} {U = U} {offset = offset} {i = i} {b = b} p =
    subst (λ b. AreFilledItems base_table L T offset (i ∷ []) b U) (append-nil b)
    (filled.and_then p refl filled.no_more)

-- an item that the session is told to go past
pub told_item : (keep : Bool) (means : Table → GoItem → FilledItem → Type 0) {s : SessionState} {i : FilledItem}
    {z : List ℕ} → AreBytes z → IsToldNextBy (stepping_of keep means) s i z → AreNext s (i ∷ []) z
told_item keep means o (in_format p) = one_filled (item_stays o p)
told_item keep means o (in_grammar p) = one_filled p

-- ---- items that stand one behind another at the front of a piece
module _ {L : Bounds} {T : Table} {offset : ℕ} {piece : List ℕ} where
  pub none_before : AreFilledBefore L T offset 0 piece 0
  none_before = record { items = []; counted = refl; inside = omega arith; are = filled.no_more }

  pub more_before : {n m a b : ℕ} → AreFilledBefore L T offset n piece a
      → AreFilledBefore L T (offset + a) m (take (length piece - a) (drop a piece)) b
      → AreFilledBefore L T offset (n + m) piece (a + b)
  more_before {m = m} {a = a} {b = b} f h =
      let g = subst (λ z. AreFilledBefore L T (offset + a) m z b) (all_taken piece a) h in
      let size = length-take-le a piece f.inside in
      record {
        items = f.items ++ g.items;
        counted = omega (arith, f.counted, g.counted, length-append f.items g.items);
        inside = omega (arith, f.inside, g.inside, length-drop a piece);
        are = subst (λ z. AreFilledItems base_table L T offset (f.items ++ g.items) z T) (sym (take-add a b piece))
            (more_behind f.are (omega (arith, size)) g.are);
      }

  -- where they end, and how many there are at most
  pub before_within : {n a : ℕ} → AreFilledBefore L T offset n piece a → a ≤ L.stream - offset
  before_within {a = a} f = let few = filled_within f.are in omega (arith, length-take-le a piece f.inside)

  pub before_few : {n a : ℕ} → AreFilledBefore L T offset n piece a → n ≤ a
  before_few {a = a} f = omega (arith, f.counted, few_items f.are, length-take-le a piece f.inside)

-- items in which no interface holds anything
pub unfilled_before : {L : Bounds} {T : Table} {offset count used : ℕ} (piece : List ℕ) → AreBytes piece
    → AreItemsBetween L T offset count piece 0 used → AreFilledBefore L T offset count piece used
unfilled_before {used = used} piece o b = record {
  items = unfilled_items b.items;
  counted = b.counted ∙ sym (unfilled_count b.items);
  inside = b.inside;
  are = items_stay (bytes_prefix (take used piece) (drop used piece)
      (subst AreBytes (sym (take-append-drop used piece)) o)) (items_at_0 b);
}

-- the bytes of the rest of a piece
pub bytes_behind : (piece : List ℕ) (at : ℕ) → AreBytes piece → AreBytes (take (length piece - at) (drop at piece))
bytes_behind piece at o =
    let all = subst AreBytes (sym (take-append-drop at piece)) o in
    subst AreBytes (sym (all_taken piece at)) (bytes_rest (take at piece) (drop at piece) all)

-- an item that was looked into
pub filled_before : {L : Bounds} {T : Table} {offset d used : ℕ} {id : TypeId} {body : List ℕ} (piece : List ℕ)
    → AreBytes piece → d ≡ min L.depth 1000 → HasBody L T offset id body used piece → IsFilledWhole T id d body
    → AreFilledBefore (within_trees L) T offset 1 piece used
filled_before {L = L} {T = T} {offset = offset} {used = used} {id = id} {body = body} piece o e b w =
    let all : AreBytes (b.count ++ (b.number ++ body)) =
    subst AreBytes b.whole (bytes_prefix (take used piece) (drop used piece)
    (subst AreBytes (sym (take-append-drop used piece)) o)) in
    record {
      items = putting id w.value ∷ [];
      counted = refl;
      inside = b.within;
      are = subst (λ z. AreFilledItems base_table (within_trees L) T offset (putting id w.value ∷ []) z T) (sym b.whole)
          (one_filled (of_value b.may b.names
          (subst (λ l. SpellsFilled base_table (within_trees L) T id l w.value body T) e
          (w.spelled base_table (within_trees L)))
          (last_counted (b.number ++ body) (bytes_rest b.count (b.number ++ body) all) b.counts b.item b.stream)));
    }

pub prefix_items : (s : SessionState) {count used : ℕ} (piece : List ℕ)
    → AreFilledBefore (within_trees s.limits) (types s.types) s.taken count piece used
    → HasItemsNext s (take used piece)
prefix_items s piece b = (b.items, b.are)

pub passes_items : {keep : Bool} {s s' : SessionState} {count used : ℕ} (piece : List ℕ)
    → AreFilledBefore (within_trees s.limits) (types s.types) s.taken count piece used
    → ReadsAllSo keep s s' (take used piece) → ReadsItemsSo keep s s' count used piece
passes_items {used = used} piece b f =
    record {
      given = b.items;
      counted = b.counted;
      within = b.inside;
      none = λ e. omega (
        arith,
        filled_empty b.are (sym b.counted ∙ e),
        length-take-le used piece b.inside,
      );
      passed = λ items bytes a. f items bytes b.items a b.are;
    }
