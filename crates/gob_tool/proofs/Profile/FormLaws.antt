-- The tidy forms of items, in the places of the items; and their bytes.
use Rattle.std.proofs.Common.{◌≡◌, ◌∙◌, ℕ, ◌+◌, ◌^◌, ◌<◌, ◌≤◌, List, [], ◌∷◌, ◌++◌, length, drop, arith, refl, sym, ap}
use Rattle.std.proofs.Common.{subst, append_assoc, append-nil, length-append, Bool, true, false, Some, get_or}
use Rattle.gob_num.specs.Spelled.{IsSpelled}
use Rattle.gob_num.specs.Unsigned.{AreBytes}
use Rattle.gob_num.proofs.PublicLaws.{bytes-append, bytes_rest, signed_unsigned, unsigned_bytes}
use Rattle.gob_types.specs.Base.{base_table}
use Rattle.gob_types.specs.Table.{Table, shape_of}
use Rattle.gob_types.specs.declared.id.TypeId.{TypeId}
use Rattle.gob_types.proofs.PublicLaws.{some_injective}
use Rattle.gob_value.specs.Tidy.{Tidies}
use Rattle.gob_value.specs.Top.{IsStruct, SpellsTop, at_once, tagged}
use Rattle.gob_value.specs.Tree.{Tree}
use Rattle.gob_value.proofs.PublicLaws.{spelled_no_longer}
use Rattle.gob_tidy.specs.TidiedWhole.{TidiesWhole}
use Rattle.gob_stream.specs.Bounds.{Bounds, greatest_depth, within_trees}
use Rattle.gob_filled.specs.Filled.{cut, filled, no_filling, as_it_stands, with_fillings}
use Rattle.gob_filled.specs.Stream.{FilledItem, putting, IsFilledItem, of_value, AreCounted, last_counted, next_counted}
use Rattle.gob_filled.specs.Stream.{AreFilledItems, no_more, and_then}
use Rattle.gob_filled.proofs.Strict.{contained}
use Rattle.gob_go.specs.Calls.Reader.{session_of}
use Rattle.gob_go.specs.Calls.Session.{limits_of, taken_of, types_of}
use Rattle.gob_go.specs.GoStepping.{go_stepping}
use Rattle.gob_go.specs.Meaning.{AreFillings, ItemMeans, ItemsMean, is_filled, mean_none, mean_more, means_value}
use Rattle.gob_go.specs.Meaning.{no_fillings}
use Rattle.gob_go.specs.declared.filled.Filled.{Filled, out-Filled}
use Rattle.gob_go.specs.declared.filled.Filling.{Filling}
use Rattle.gob_go.specs.declared.item.GoItem.{GoItem}
use Rattle.gob_go.specs.declared.item.GoItem.TheVariants as item
use Rattle.gob_go.specs.Calls.Reader.{GoReader}
use Rattle.gob_go.proofs.SessionAnswers.{table_between}
use Rattle.gob_go.proofs.ItemsLaws.{grown_keeps, items_grown, last_of}
use Rattle.gob_go_writer.specs.TidyItem.{BecomesTidy, tidies_filled, tidies_none, tidies_value}
use Rattle.gob_go_writer.specs.Machine.Tidied.{TidiesClosely, tidies_closely, none_left}
use Rattle.gob_go_writer.proofs.AgainLaws.{value_fits}
use Rattle.gob_go_writer.specs.Hoisting.{hoisted, IsHoisted}
use Rattle.gob_go_writer.specs.Item.{IsGrown, IsItemOf}
use Rattle.gob_go_writer.proofs.HoistedLaws.{item_bytes}
use Rattle.gob_go.proofs.IdLaws.{item_left}
use Rattle.gob_tool.specs.Machine.FormsGo.{AreItemsOf, no_items, item_then, IsFormOf, IsHoistedText, IsShortItem}
use Rattle.gob_tool.specs.Machine.FormsGo.{IsTidyText, IsWholeForm}
use Rattle.gob_tool.specs.RewritingGo.{AreAnywhere, IsRewritten}
use Rattle.gob_tool.specs.TextsGo.{IsWholeText}
use Rattle.gob_tool.proofs.Profile.TextLaws.{whole_text}
use Rattle.gob_tool.specs.Texts.{IsGiven}

-- ---- an item that was given is one of a stream
pub item_of : {T : Table} {kept : GoItem} → IsGiven go_stepping T kept → IsSpelled (IsItemOf T kept)
item_of {T = T} {kept = kept} given =
    let last = last_of given.items given.read.stream in
    let here = table_between given.read given.between in
    record {
      bytes = last.bytes;
      spelled = record {
        limits = within_trees (limits_of given.session);
        before = last.table;
        behind = given.read.table;
        offset = 0 + length last.before;
        item = given.item;
        means = given.means;
        is = last.item;
        grown = λ t s e. subst (λ (U : Table). shape_of U t ≡ Some s) (here ∙ given.types) e;
        shallow = omega arith;
      };
    }

-- ---- the tidy form of an item
pub tidy_given : {T : Table} {old new : GoItem} → IsSpelled (IsItemOf T old) → BecomesTidy T old new
    → IsSpelled (IsItemOf T new)
tidy_given g becomes =
    let a = g.spelled in
    let t = becomes a.item a.means in
    let f = t.fits a.limits a.before a.behind a.offset a.offset g.bytes a.is a.grown (omega arith) in
    record {
      bytes = f.bytes;
      spelled = record {
        limits = a.limits;
        before = a.before;
        behind = a.behind;
        offset = a.offset;
        item = t.form;
        means = t.means;
        is = f.is;
        grown = a.grown;
        shallow = a.shallow;
      };
    }

-- what is kept of the item is one that stands there, and leads to the types that are known
stands_so : {T before : Table} {kept : GoItem} {i : FilledItem} {bytes : List ℕ} (L : Bounds) (offset : ℕ)
    → L.depth ≤ greatest_depth → ItemMeans T kept i → IsFilledItem base_table L before offset i bytes T
    → IsItemOf T kept bytes
stands_so {T = T} {before = before} {i = i} L offset shallow m is = record {
  limits = L;
  before = before;
  behind = T;
  offset = offset;
  item = i;
  means = m;
  is = is;
  grown = λ t s e. e;
  shallow = shallow;
}

pub tidied_text : {T : Table} {old new : GoItem} {text : List ℕ} (i : FilledItem) → IsTidyText T old new text
    → ItemMeans T old i → IsRewritten false T i text
tidied_text {T = T} i x m =
    let t = x.becomes i m in
    record {
      form = t.form;
      tidies = t.tidies;
      stands = λ L before offset lower bytes shallow is low.
          let f = t.fits L before T offset lower bytes is (λ t s e. e) low in
          let e = x.written f.bytes (stands_so L lower shallow t.means f.is) in (
            subst (λ (b : List ℕ). IsFilledItem base_table L before lower t.form b T) (sym e) f.is,
            subst (λ (b : List ℕ). length b ≤ length bytes) (sym e) f.shorter,
          );
    }

-- ---- the items that come of it
pub short_given : {T : Table} {old new : GoItem} {text : List ℕ} → IsSpelled (IsItemOf T old)
    → IsTidyText T old new text → length text < 2 ^ 60 → IsSpelled (IsShortItem T new)
short_given o x few =
    let g = tidy_given o x.becomes in
    record {
      bytes = g.bytes;
      spelled = record {
        is = g.spelled;
        short = subst (λ (b : List ℕ). length b < 2 ^ 60) (x.written g.bytes g.spelled) few;
      };
    }

pub hoisted_text : {T : Table} {old new : GoItem} {short text : List ℕ} (i : FilledItem) → IsTidyText T old new short
    → length short < 2 ^ 60 → IsHoistedText T new text → ItemMeans T old i → IsRewritten true T i text
hoisted_text {T = T} i x few h m =
    let t = x.becomes i m in
    record {
      form = t.form;
      tidies = t.tidies;
      stands = λ L before offset bytes shallow is.
          let f = t.fits L before T offset offset bytes is (λ t s e. e) (omega arith) in
          let e = x.written f.bytes (stands_so L offset shallow t.means f.is) in
          h t.form t.means L before offset f.bytes shallow f.is (subst (λ (b : List ℕ). length b < 2 ^ 60) e few);
    }

items_of : {M : Bounds} {now T U : Table} {offset : ℕ} {items : List FilledItem} {bytes : List ℕ} {kept : List GoItem}
    → AreFilledItems base_table M T offset items bytes U → ItemsMean now kept items → IsGrown U now
    → M.depth ≤ greatest_depth → AreItemsOf now kept bytes
items_of no_more mean_none g s = no_items
items_of {M = M} (and_then {T = T} {U = U} {offset = offset} {i = i} p n ps) (mean_more m ms) g s =
    item_then (record {
      limits = M;
      before = T;
      behind = U;
      offset = offset;
      item = i;
      means = m;
      is = p;
      grown = λ t r e. g t r ((grown_keeps (items_grown ps)).shape t r e);
      shallow = s;
    }) (items_of ps ms g s)

-- limits that allow just these bytes
abbrev just : Bounds → List ℕ → Bounds
just L bytes = record L { item = length bytes; stream = length bytes }

pub hoisted_given : {T : Table} {kept : GoItem} {made : List GoItem} → IsHoisted kept [] made
    → IsSpelled (IsShortItem T kept) → IsSpelled (AreItemsOf T made)
hoisted_given {T = T} h g =
    let a = g.spelled.is in
    let b = item_bytes g.spelled.short a.is in
    record {
      bytes = b.bytes;
      spelled = subst (λ (l : List GoItem). AreItemsOf T l b.bytes) (sym h.appended)
          (items_of (b.are (just a.limits b.bytes) 0 refl refl (omega arith) (omega arith)) (h.mean T a.item a.means)
          a.grown a.shallow);
    }

pub hoisted_written : {T : Table} {kept : GoItem} {made : List GoItem} {text : List ℕ} → IsHoisted kept [] made
    → ((bytes : List ℕ) → AreItemsOf T made bytes → text ≡ bytes) → IsHoistedText T kept text
hoisted_written {T = T} h written = λ i m L before offset bytes shallow is few.
    let b = item_bytes few is in
    let e = written b.bytes (subst (λ (l : List GoItem). AreItemsOf T l b.bytes) (sym h.appended)
    (items_of (b.are (just L b.bytes) 0 refl refl (omega arith) (omega arith)) (h.mean T i m) (λ t s e. e) shallow)) in
    subst (λ (z : List ℕ). AreAnywhere L before (hoisted i) z T) (sym e) b.are

-- ---- items one behind another
-- so many of the bytes of items are written, and the others are those of the items that are left
pub record IsWritten (T : Table) (left : List GoItem) (bytes old new : List ℕ) : Type 0 where
  pub front : List ℕ
  pub rest : List ℕ
  pub whole : bytes ≡ front ++ rest
  pub left_are : AreItemsOf T left rest
  pub made : new ≡ old ++ front

pub none_written : {T : Table} {items : List GoItem} {bytes : List ℕ} (old : List ℕ) → AreItemsOf T items bytes
    → IsWritten T items bytes old old
none_written {bytes = bytes} old a =
    record { front = []; rest = bytes; whole = refl; left_are = a; made = sym (append-nil old) }

pub record FirstOf (T : Table) (first : GoItem) (others : List GoItem) (bytes : List ℕ) : Type 0 where
  pub front : List ℕ
  pub rest : List ℕ
  pub whole : bytes ≡ front ++ rest
  pub is : IsItemOf T first front
  pub others_are : AreItemsOf T others rest

pub first_of : {T : Table} {bytes : List ℕ} (items : List GoItem) (i : ℕ) (x : GoItem) → x ≡ get_or items i x
    → i < length items → AreItemsOf T (drop i items) bytes → FirstOf T x (drop (i + 1) items) bytes
first_of {T = T} {bytes = bytes} items i x is l a =
    by (subst (λ (l : List GoItem). AreItemsOf T l bytes) (item_left items i x is l) a)
  where
    by : {others : List GoItem} {bytes : List ℕ} → AreItemsOf T (x ∷ others) bytes → FirstOf T x others bytes
    by (item_then {b = b} {c = c} p ps) =
        record { front = b; rest = c; whole = refl; is = p; others_are = ps }

pub one_written : {T : Table} {items left : List GoItem} {x : GoItem} {bytes mid new : List ℕ} (old : List ℕ)
    (w : IsWritten T items bytes old mid) (f : FirstOf T x left w.rest) → new ≡ mid ++ f.front
    → IsWritten T left bytes old new
one_written old w f e = record {
  front = w.front ++ f.front;
  rest = f.rest;
  whole = w.whole ∙ ap (λ (l : List ℕ). w.front ++ l) f.whole ∙ sym (append_assoc w.front f.front f.rest);
  left_are = f.others_are;
  made = e ∙ ap (λ (l : List ℕ). l ++ f.front) w.made ∙ append_assoc old w.front f.front;
}

pub all_written : {T : Table} {left : List GoItem} {bytes old new : List ℕ} → left ≡ []
    → IsWritten T left bytes old new → new ≡ old ++ bytes
all_written {T = T} {old = old} none w =
    let e = nothing (subst (λ (l : List GoItem). AreItemsOf T l w.rest) none w.left_are) in
    w.made ∙ ap (λ (l : List ℕ). old ++ l)
    (sym (w.whole ∙ ap (λ (l : List ℕ). w.front ++ l) e ∙ append-nil w.front))
  where
    nothing : {bytes : List ℕ} → AreItemsOf T [] bytes → bytes ≡ []
    nothing no_items = refl

-- ---- a value that waits as a whole
top_no_longer : {T : Table} {t : TypeId} {v w : Tree} {b c : List ℕ} → Tidies T t v w → SpellsTop T t v b
    → SpellsTop T t w c → length c ≤ length b
top_no_longer ti (at_once e s p) (at_once f r q) = spelled_no_longer ti p q
top_no_longer ti (tagged e s p) (tagged f r q) = let l = spelled_no_longer ti p q in omega arith
top_no_longer ti (at_once e s p) (tagged f r q) =
    absurd (r (subst (λ s. IsStruct s.kind) (some_injective (sym e ∙ f)) s))
top_no_longer ti (tagged e s p) (at_once f r q) =
    absurd (s (subst (λ s. IsStruct s.kind) (some_injective (sym f ∙ e)) r))

closely : {T : Table} {id : TypeId} {limit : ℕ} {b c : List ℕ} (w : TidiesWhole T id limit b c) → AreBytes c
    → TidiesClosely T id (filled w.value no_filling) (filled w.form no_filling)
closely w o =
    let l = top_no_longer w.tidies w.spelled w.form_spelled in
    tidies_closely w.spelled w.form_spelled o w.tidies (none_left (omega arith) (omega arith))

pub unfilled_means : {T : Table} {id : TypeId} {kept : Filled} {v : Tree} {bytes : List ℕ}
    → (out-Filled kept).skeleton.items ≡ bytes → (out-Filled kept).fillings.items ≡ [] → SpellsTop T id v bytes
    → ItemMeans T (item.Put id kept) (putting id (filled v no_filling))
unfilled_means {T = T} {id = id} {v = v} e f sp =
    means_value (is_filled (subst (λ (b : List ℕ). SpellsTop T id v b) (sym e) sp)
    (subst (λ (l : List Filling). AreFillings T l no_filling) (sym f) no_fillings))

whole_filled : {r : GoReader} {used : ℕ} {kept : GoItem} (w : IsWholeForm r used kept)
    → IsFilledItem base_table (within_trees (limits_of (session_of r))) (types_of (session_of r))
    (taken_of (session_of r)) (putting w.id (filled w.is.whole.value no_filling))
    (w.next.count ++ (w.next.number ++ w.body)) (types_of (session_of r))
whole_filled w =
    let n = w.next in
    let o = bytes-append n.number w.body (unsigned_bytes (signed_unsigned n.names).1) w.is.body_bytes in
    of_value n.may n.names (contained w.is.whole.spelled w.is.body_bytes w.is.whole.within)
    (last_counted (n.number ++ w.body) o n.counts n.item n.stream)

pub form_given : {r : GoReader} {used : ℕ} {kept : GoItem} → IsWholeForm r used kept
    → IsSpelled (IsItemOf (types_of (session_of r)) kept)
form_given {r = r} w =
    let s = session_of r in
    let f = value_fits {lower = taken_of s} (closely w.is.whole w.is.skeleton_bytes) (whole_filled w) (λ t s e. e)
    (omega arith) in
    record {
      bytes = f.bytes;
      spelled = stands_so (within_trees (limits_of s)) (taken_of s) (omega arith) w.is.means f.is;
    }

-- bytes without a cut are one segment, also at another offset, and under other limits
counted_there : {L : Bounds} (M : Bounds) {most offset : ℕ} (more at : ℕ) {ls f : List ℕ}
    → AreCounted L most offset ls f → AreBytes ls → length f ≤ more → at + length f ≤ M.stream
    → AreCounted M more at ls f
counted_there M more at (last_counted {c = c} s o u l k) b few end =
    last_counted s o u (omega (arith, length-append c s)) end
counted_there M more at (next_counted {ls = ls} s o u l k n cs) b few end =
    absurd (let l = (bytes_rest s (cut ∷ ls) b).0 in omega arith)

value_there : {L : Bounds} {T U : Table} {t : TypeId} {v : Tree} {bytes : List ℕ} {offset : ℕ} (M : Bounds) (at : ℕ)
    → M.depth ≡ L.depth → length bytes ≤ M.item → at + length bytes ≤ M.stream
    → IsFilledItem base_table L T offset (putting t (filled v no_filling)) bytes U
    → IsFilledItem base_table M T at (putting t (filled v no_filling)) bytes U
value_there M at d few end (of_value {a = a} may sg (with_fillings {ls = ls} sp de (as_it_stands o)) cs) =
    of_value may sg (with_fillings sp (omega arith) (as_it_stands o))
    (counted_there M M.item at cs (bytes-append a ls (unsigned_bytes (signed_unsigned sg).1) o) few end)

value_anywhere : {L : Bounds} {T U : Table} {t : TypeId} {v : Tree} {bytes : List ℕ} {offset : ℕ}
    → IsFilledItem base_table L T offset (putting t (filled v no_filling)) bytes U
    → AreAnywhere L T (putting t (filled v no_filling) ∷ []) bytes U
value_anywhere {T = T} {U = U} {t = t} {v = v} {bytes = bytes} is = λ M at d ts l s.
    subst (λ (b : List ℕ). AreFilledItems base_table M T at (putting t (filled v no_filling) ∷ []) b U)
    (append-nil bytes) (and_then (value_there M at d l s is) refl no_more)

module _ {T : Table} {id : TypeId} {limit : ℕ} {body text : List ℕ} {kept : GoItem} (f : IsFormOf T id limit body kept)
    (written : (bytes : List ℕ) → IsItemOf T kept bytes → text ≡ bytes) where
  form_rewritten : (hoist : Bool) → IsRewritten hoist T (putting id (filled f.whole.value no_filling)) text
  form_rewritten false =
      let close = closely f.whole f.skeleton_bytes in
      let form = putting id (filled f.whole.form no_filling) in
      record {
        form = form;
        tidies = tidies_value (tidies_filled f.whole.spelled f.whole.form_spelled f.whole.tidies tidies_none);
        stands = λ L before offset lower bytes shallow is low.
            let a = value_fits close is (λ t s e. e) low in
            let e = written a.bytes (stands_so L lower shallow f.means a.is) in (
              subst (λ (b : List ℕ). IsFilledItem base_table L before lower form b T) (sym e) a.is,
              subst (λ (b : List ℕ). length b ≤ length bytes) (sym e) a.shorter,
            );
      }
  form_rewritten true =
      let close = closely f.whole f.skeleton_bytes in
      let form = putting id (filled f.whole.form no_filling) in
      record {
        form = form;
        tidies = tidies_value (tidies_filled f.whole.spelled f.whole.form_spelled f.whole.tidies tidies_none);
        stands = λ L before offset bytes shallow is.
            let a = value_fits {lower = offset} close is (λ t s e. e) (omega arith) in
            let e = written a.bytes (stands_so L offset shallow f.means a.is) in
            subst (λ (b : List ℕ). AreAnywhere L before (form ∷ []) b T) (sym e) (value_anywhere a.is);
      }

pub whole_rewritten : {r : GoReader} {used : ℕ} {kept : GoItem} {text : List ℕ} (w : IsWholeForm r used kept)
    → ((bytes : List ℕ) → IsItemOf (types_of (session_of r)) kept bytes → text ≡ bytes) → (hoist : Bool)
    → IsWholeText (IsRewritten hoist) r used text
whole_rewritten w written hoist =
    whole_text (IsRewritten hoist) w.between w.next
    (record { value = w.is.whole.value; spelled = w.is.whole.spelled; within = w.is.whole.within })
    (form_rewritten w.is written hoist)
