-- The tidy forms of the items of a stream of the format, and their bytes, are those of the format.
use Rattle.std.proofs.Common.{◌≡◌, ◌∙◌, ℕ, negsuc, List, [], ◌∷◌, ◌++◌, length, false, map, arith, refl, sym, ap, subst}
use Rattle.std.proofs.Common.{append_assoc, append-nil}
use Rattle.gob_num.specs.Signed.{IsSigned}
use Rattle.gob_num.specs.Unsigned.{AreBytes, IsUnsigned}
use Rattle.gob_num.proofs.PublicLaws.{bytes-append, bytes_rest, signed_unique, signed_unsigned, unsigned_bytes}
use Rattle.gob_num.proofs.PublicLaws.{unsigned_unique}
use Rattle.gob_types.specs.Base.{base_table}
use Rattle.gob_types.specs.declared.kind.Shape.{Shape}
use Rattle.gob_types.specs.Table.{Table}
use Rattle.gob_types.proofs.PublicLaws.{Keeps}
use Rattle.gob_value.specs.Tree.{Tree}
use Rattle.gob_value.specs.Tidy.{Tidies}
use Rattle.gob_value.proofs.LooseLaws.{strict_is_loose}
use Rattle.gob_value.proofs.PublicLaws.{one_spelling, one_tidy, one_top}
use Rattle.gob_stream.specs.Body.{definition, value}
use Rattle.gob_stream.specs.Bounds.{Bounds}
use Rattle.gob_stream.specs.Item.{StreamItem, defines, puts}
use Rattle.gob_stream.specs.Stream.{IsItem, counted, AreItems, no_more, and_then, Stream}
use Rattle.gob_filled.specs.Definition as filled
use Rattle.gob_filled.specs.Filled.{cut, as_it_stands, with_fillings}
use Rattle.gob_filled.specs.OutcomeLaws.{unfilled_item}
use Rattle.gob_filled.specs.Stream as filled_stream
use Rattle.gob_filled.specs.Stream.{FilledItem, IsFilledItem, of_definition, of_value, AreCounted, last_counted}
use Rattle.gob_filled.specs.Stream.{next_counted, AreFilledItems}
use Rattle.gob_filled.proofs.Prefix.{one_loosely}
use Rattle.gob_go_writer.specs.TidyItem.{TidiesItem, tidies_definition, tidies_filled, tidies_none, tidies_value}
use Rattle.gob_tool.specs.Rewriting.{AreItemsTidied, no_item, and_item, HasTidyStream, content, content_type}
use Rattle.gob_tool.specs.Rewriting.{with_content}
use Rattle.gob_tool.proofs.LinesStay.{stream_keeps}
use Rattle.gob_tool.proofs.TidyStays.{tidies_on}
use Rattle.gob_tool.specs.RewritingGo.{AreTidied, none_tidied, then_tidied, OfTidyStream}

-- ---- the bytes of an item, and the types behind it

record OneText (b c : List ℕ) (U V : Table) : Type 0 where
  bytes : b ≡ c
  table : U ≡ V

-- letters without a cut are one segment
record OneSegment (ls f : List ℕ) : Type 0 where
  count : List ℕ
  counts : IsUnsigned (length ls) count
  whole : f ≡ count ++ ls

one_segment : {L : Bounds} {most offset : ℕ} {ls f : List ℕ} → AreCounted L most offset ls f → AreBytes ls
    → OneSegment ls f
one_segment (last_counted {c = c} s o u l k) b = record { count = c; counts = u; whole = refl }
one_segment (next_counted {ls = ls} s o u l k n cs) b =
    absurd (let l = (bytes_rest s (cut ∷ ls) b).0 in omega arith)

both_alike : {a b c d : List ℕ} → a ≡ c → b ≡ d → a ++ b ≡ c ++ d
both_alike e f = cc

counted_alike : {c d b e : List ℕ} → IsUnsigned (length b) c → IsUnsigned (length e) d → b ≡ e → c ++ b ≡ d ++ e
counted_alike {d = d} p q same =
    both_alike (unsigned_unique p (subst (λ (l : List ℕ). IsUnsigned (length l) d) (sym same) q)) same

item_once : {L M : Bounds} {T U V : Table} {offset at : ℕ} {b c : List ℕ} (i : StreamItem)
    → IsItem base_table L T offset i b U → IsFilledItem base_table M T at (unfilled_item i) c V → OneText b c U V
item_once {T = T} (defines id v) (counted u l e (definition {n = k} {a = a} may deep describes above sg sp))
    (of_definition u' l' e' (filled.defines {n = m} {a = a'} may' deep' loosely above' sg' sp')) =
    let number : m ≡ k = omega arith in
    let first : a ≡ a' = signed_unique sg (subst (λ n. IsSigned (negsuc n) a') number sg') in
    record {
      bytes = counted_alike u u' (both_alike first (one_spelling sp sp'));
      table = ap (λ (s : Shape). T ++ (id, s) ∷ []) (one_loosely (strict_is_loose describes) loosely refl);
    }
item_once (puts t v) (counted u l e (value {a = a} may deep sg sp))
    (of_value {a = a'} may' sg' (with_fillings {ls = ls} sp' deep' (as_it_stands o)) cs) =
    let first : a ≡ a' = signed_unique sg sg' in
    let one = one_segment cs (bytes-append a' ls (unsigned_bytes (signed_unsigned sg').1) o) in
    record {
      bytes = counted_alike u one.counts (both_alike first (one_top sp sp')) ∙ sym one.whole;
      table = refl;
    }

stream_once : {L M : Bounds} {T U V : Table} {offset at : ℕ} {b c : List ℕ} (items : List StreamItem)
    → AreItems base_table L T offset items b U → AreFilledItems base_table M T at (map unfilled_item items) c V
    → OneText b c U V
stream_once [] no_more filled_stream.no_more = record { bytes = refl; table = refl }
stream_once {M = M} {V = V} (i ∷ items) (and_then p n ps) (filled_stream.and_then {next = at} {c = c} q m qs) =
    let one = item_once i p q in
    let rest = stream_once items ps
    (subst (λ T. AreFilledItems base_table M T at (map unfilled_item items) c V) (sym one.table) qs) in
    record { bytes = both_alike one.bytes rest.bytes; table = rest.table }

-- ---- the first items of a stream

record FrontOf (L : Bounds) (T : Table) (offset : ℕ) (items : List StreamItem) (V : Table) : Type 0 where
  bytes : List ℕ
  table : Table
  are : AreItems base_table L T offset items bytes table
  keeps : Keeps table V

front_of : {L : Bounds} {T V : Table} {offset : ℕ} {b : List ℕ} (items more : List StreamItem)
    → AreItems base_table L T offset (items ++ more) b V → FrontOf L T offset items V
front_of {T = T} [] more ps = record { bytes = []; table = T; are = no_more; keeps = stream_keeps ps }
front_of (i ∷ items) more (and_then {b = b} p n ps) =
    let r = front_of items more ps in
    record { bytes = b ++ r.bytes; table = r.table; are = and_then p n r.are; keeps = r.keeps }

-- ---- lists of items

no_more_items : {A : Type 0} {f : FilledItem} {fs : List FilledItem} → f ∷ fs ≡ [] → A
no_more_items e = cc

cons_once : {f g : FilledItem} {fs gs : List FilledItem} → f ∷ fs ≡ g ∷ gs → (f ≡ g) × (fs ≡ gs)
cons_once e = (cc, cc)

cons_alike : {A : Type 0} {x y : A} {l k : List A} → x ≡ y → l ≡ k → x ∷ l ≡ y ∷ k
cons_alike e f = cc

one_more_alike : {f g : FilledItem} {fs gs : List FilledItem} → fs ≡ gs → f ≡ g → fs ++ f ∷ [] ≡ gs ++ g ∷ []
one_more_alike e f = cc

unfilled_more : (items : List StreamItem) (i : StreamItem)
    → map unfilled_item (items ++ i ∷ []) ≡ map unfilled_item items ++ unfilled_item i ∷ []
unfilled_more [] i = refl
unfilled_more (j ∷ items) i = ap (λ (fs : List FilledItem). unfilled_item j ∷ fs) (unfilled_more items i)

-- the last of the items, and those before it
record LastOf (fs : List FilledItem) (f : FilledItem) (items : List StreamItem) : Type 0 where
  before : List StreamItem
  last : StreamItem
  whole : items ≡ before ++ last ∷ []
  before_are : fs ≡ map unfilled_item before
  last_is : f ≡ unfilled_item last

last_of : (fs : List FilledItem) (f : FilledItem) (items : List StreamItem)
    → fs ++ f ∷ [] ≡ map unfilled_item items → LastOf fs f items
last_of [] f [] e = no_more_items e
last_of [] f (i ∷ []) e =
    record { before = []; last = i; whole = refl; before_are = refl; last_is = (cons_once e).0 }
last_of [] f (i ∷ (j ∷ items)) e = no_more_items (sym (cons_once e).1)
last_of (g ∷ fs) f [] e = no_more_items e
last_of (g ∷ fs) f (i ∷ items) e =
    let h = cons_once e in
    let r = last_of fs f items h.1 in
    record {
      before = i ∷ r.before;
      last = r.last;
      whole = ap (λ (l : List StreamItem). i ∷ l) r.whole;
      before_are = cons_alike h.0 r.before_are;
      last_is = r.last_is;
    }

-- ---- the tidy forms

record StrictForm (T : Table) (i : StreamItem) (form : FilledItem) : Type 0 where
  tidy : Tree
  tidies : Tidies T (content_type i) (content i) tidy
  is : form ≡ unfilled_item (with_content i tidy)

strict_form : {T : Table} {form : FilledItem} (i : StreamItem) → TidiesItem T (unfilled_item i) form
    → StrictForm T i form
strict_form (defines id v) (tidies_definition {w = w} ti) = record { tidy = w; tidies = ti; is = refl }
strict_form (puts id v) (tidies_value (tidies_filled {w = w} sb sc ti tidies_none)) =
    record { tidy = w; tidies = ti; is = refl }

-- the last of the items in their tidy form, and those before it
record LastTidied (T : Table) (items : List StreamItem) (i : StreamItem) (others : List StreamItem) : Type 0 where
  before : List StreamItem
  tidy : Tree
  whole : others ≡ before ++ with_content i tidy ∷ []
  tidied : AreItemsTidied T items before
  tidies : Tidies T (content_type i) (content i) tidy

last_tidied : {T : Table} {others : List StreamItem} (items : List StreamItem) (i : StreamItem)
    → AreItemsTidied T (items ++ i ∷ []) others → LastTidied T items i others
last_tidied [] i (and_item {v = v} p no_item) =
    record { before = []; tidy = v; whole = refl; tidied = no_item; tidies = p }
last_tidied (j ∷ items) i (and_item {v = v} p ps) =
    let r = last_tidied items i ps in
    record {
      before = with_content j v ∷ r.before;
      tidy = r.tidy;
      whole = ap (λ (l : List StreamItem). with_content j v ∷ l) r.whole;
      tidied = and_item p r.tidied;
      tidies = r.tidies;
    }

strict_forms : {L M : Bounds} {T : Table} {bytes all : List ℕ} {fs forms : List FilledItem} {others : List StreamItem}
    → AreTidied M bytes fs forms → (items more : List StreamItem) → fs ≡ map unfilled_item items
    → AreItemsTidied T items others → Stream base_table L (items ++ more) all T → forms ≡ map unfilled_item others
strict_forms none_tidied [] more e no_item s = refl
strict_forms none_tidied (i ∷ items) more e t s = no_more_items (sym e)
strict_forms {L = L} {M = M} {T = T} {all = all} {others = others} (then_tidied {items = fs} f form ts b ti) items more
    e t s =
    let l = last_of fs f items e in
    let here = l.before ++ l.last ∷ [] in
    let whole = subst (λ (is : List StreamItem). Stream base_table L (is ++ more) all T) l.whole s in
    let front = front_of here more whole in
    let there = subst (λ (fs : List FilledItem). AreFilledItems base_table M base_table 0 fs b.prefix b.table)
    (e ∙ ap (map unfilled_item) l.whole) b.stream in
    let keep = subst (λ (U : Table). Keeps U T) (stream_once here front.are there).table front.keeps in
    let one = strict_form l.last (subst (λ (f : FilledItem). TidiesItem b.table f form) l.last_is ti) in
    let due = last_tidied l.before l.last (subst (λ (is : List StreamItem). AreItemsTidied T is others) l.whole t) in
    let rest = strict_forms ts l.before (l.last ∷ more) l.before_are due.tidied
    (subst (λ (is : List StreamItem). Stream base_table L is all T) (append_assoc l.before (l.last ∷ []) more) whole) in
    one_more_alike rest (one.is ∙ ap (λ (v : Tree). unfilled_item (with_content l.last v))
    (one_tidy (tidies_on keep one.tidies) due.tidies))
    ∙ sym (unfilled_more due.before (with_content l.last due.tidy)) ∙ ap (map unfilled_item) (sym due.whole)

-- ---- both texts

pub one_text : {L M : Bounds} {T : Table} {items : List StreamItem} {bytes : List ℕ} {P Q : List ℕ → Type 0}
    → Stream base_table L items bytes T → (s : HasTidyStream L T items P)
    → (g : OfTidyStream false M bytes Q (map unfilled_item items)) → s.bytes ≡ g.text
one_text {L = L} {M = M} {T = T} {items = items} {bytes = bytes} stream s g =
    let same = strict_forms g.tidied items [] refl s.tidied
    (subst (λ (is : List StreamItem). Stream base_table L is bytes T) (sym (append-nil items)) stream) in
    (stream_once s.tidy s.stream (subst
    (λ (fs : List FilledItem). AreFilledItems base_table M base_table 0 fs g.text g.begins.table) same g.stream)).bytes
