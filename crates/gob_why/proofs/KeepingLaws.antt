-- What is kept of a stream goes on from item to item.
use Rattle.std.proofs.Common.{◌≡◌, ℕ, ◌+◌, ◌-◌, ◌<◌, ◌≤◌, ◌^◌, arith, List, [], ◌∷◌, ◌++◌, length, take}
use Rattle.std.proofs.Common.{Option, None, Some, Result, Ok, Err, ◌∙◌, ap, sym, subst, refl, length-append}
use Rattle.std.proofs.Common.{append_assoc, append-nil, IfSome, OnOk, true}
use Rattle.std.specs.Result.{IsErrAnd}
use Rattle.gob_num.specs.declared.memory.Memory.{Memory}
use Rattle.gob_types.specs.Base.{base_table}
use Rattle.gob_types.specs.Table.{Table}
use Rattle.gob_stream.specs.Bounds.{Bounds, AreLimits, deepest, greatest_depth, within_trees}
use Rattle.gob_stream.specs.Item.{puts}
use Rattle.gob_stream.specs.declared.fault.Fault.{Fault}
use Rattle.gob_stream.specs.declared.fault.Fault.TheVariants as reading
use Rattle.gob_stream.proofs.PublicLaws.{whole_item}
use Rattle.gob_filled.specs.OutcomeLaws.{unfilled_item}
use Rattle.gob_filled.specs.Stream.{FilledItem, AreFilledItems, FilledStream, no_more}
use Rattle.gob_go.specs.Calls.Session.{HasItemNext, HasRead, IsBetweenItems, ReadsOn, StepAnswers, limits_of, types_of}
use Rattle.gob_go.specs.Machine.SessionState.{SessionState}
use Rattle.gob_go.specs.Machine.Stages.{AdvancesOver, over_some, over_item}
use Rattle.gob_go.specs.Reading.{RefusesBehind, ShowsRefusal}
use Rattle.gob_go.specs.declared.item.GoItem.{GoItem}
use Rattle.gob_go.proofs.FinishSteps.{count_begins_here}
use Rattle.gob_go.proofs.SessionAnswers.{table_between}
use Rattle.gob_go.proofs.ItemsLaws.{one_reading}
use Rattle.gob_go.proofs.SessionAnswers.{few_items, read_within}
use Rattle.gob_tool.specs.Machine.Counting.{given_count}
use Rattle.gob_explain.specs.Items.{ShowsFirst, ShowsItem}
use Rattle.gob_why.specs.Explain.{AreExplained, IsChosen, IsItemText, no_item, item_behind, explained_so, left_out}
use Rattle.gob_why.specs.Machine.Keeping.{BeginsKept, EndsItem, ExplainsEnd, GoesOn, HasKept, HasReadKept}
use Rattle.gob_why.specs.Machine.Keeping.{KeepsNext, KeepsOn}
use Rattle.gob_why.specs.Machine.Reading.{HasValueNext}
use Rattle.gob_why.specs.declared.explained.Explained.{Explained}

-- ---- the first bytes
record IsStart (T U : Table) (b : List ℕ) : Type 0 where
  table : U ≡ T
  none : b ≡ []

starts_so : {base : Table} {L : Bounds} {T U : Table} {offset : ℕ} {b : List ℕ}
    → AreFilledItems base L T offset [] b U → IsStart T U b
starts_so no_more = record { table = refl; none = refl }

pub kept_first : (which : Option Explained) (s : SessionState) (items : ℕ) (item : List ℕ) (begin : ℕ)
    (lines : List ℕ) → HasRead s [] [] → items ≡ 0 → item ≡ [] → begin ≡ 0 → lines ≡ []
    → HasReadKept which s items [] item begin lines
kept_first which s items item begin lines gave n i b l =
    let start = starts_so gave.stream in
    let L = within_trees (limits_of s) in
    let first : AreExplained which L [] [] gave.table lines =
    subst (λ (t : List ℕ). AreExplained which L [] [] gave.table t) (sym l)
    (subst (λ (T : Table). AreExplained which L [] [] T []) (sym start.table) no_item) in
    record {
      given = [];
      items_are = n;
      gave = gave;
      kept = record {
        prefix = [];
        whole = sym i;
        begins = b;
        stream = subst (λ (p : List ℕ). FilledStream base_table L [] p gave.table) start.none gave.stream;
        explained = first;
      };
    }

-- ---- how many items there are at most
pub items_end : {which : Option Explained} {s : SessionState} {items : ℕ} {bytes item : List ℕ} {begin : ℕ}
    {text : List ℕ} → HasReadKept which s items bytes item begin text → items ≤ (limits_of s).stream + 9
items_end {bytes = bytes} {item = item} h =
    let k = h.kept in
    let few = few_items k.stream in
    let bound = read_within h.gave in
    omega (arith, h.items_are, ap length k.whole, length-append k.prefix item)

pub items_fit : {which : Option Explained} {s : SessionState} {items : ℕ} {bytes item : List ℕ} {begin : ℕ}
    {text : List ℕ} → HasReadKept which s items bytes item begin text → AreLimits deepest (limits_of s)
    → items < 2 ^ 64
items_fit h l = let end = items_end h in omega (arith, l.stream)

pub some_fit : {which : Option Explained} {s : SessionState} {items items' : ℕ} {bytes piece item : List ℕ} {begin : ℕ}
    {text : List ℕ} {used : ℕ} → KeepsOn which s items items' bytes piece item begin text used
    → AreLimits deepest (limits_of s) → items' < 2 ^ 64
some_fit on l = items_fit on.has l

-- ---- under other limits and types that are the same
pub kept_as : {which : Option Explained} {L M : Bounds} {T U : Table} {given : List FilledItem} {bytes item : List ℕ}
    {begin : ℕ} {text : List ℕ} → L ≡ M → T ≡ U → HasKept which L T given bytes item begin text
    → HasKept which M U given bytes item begin text
kept_as {which = which} {L = L} {M = M} {T = T} {given = given} {bytes = bytes} {item = item} {begin = begin}
    {text = text} e f h =
    subst (λ (U : Table). HasKept which M U given bytes item begin text) f
    (subst (λ (M : Bounds). HasKept which M T given bytes item begin text) e h)

bounds_as : (s s' : SessionState) → limits_of s' ≡ limits_of s
    → within_trees (limits_of s) ≡ within_trees (limits_of s')
bounds_as s s' same = ap (λ (L : Bounds). within_trees L) (sym same)

-- ---- bytes of the item under way
kept_more : (which : Option Explained) (s s' : SessionState) (items : ℕ) (bytes more item : List ℕ) (begin : ℕ)
    (text : List ℕ) → limits_of s' ≡ limits_of s → (h : HasReadKept which s items bytes item begin text)
    → HasRead s' h.given (bytes ++ more)
    → HasReadKept which s' items (bytes ++ more) (item ++ more) begin text
kept_more which s s' items bytes more item begin text same h gave =
    let k = h.kept in
    let at = subst (λ (N : Bounds). FilledStream base_table N h.given k.prefix h.gave.table) (bounds_as s s' same)
    k.stream in
    let whole : bytes ++ more ≡ k.prefix ++ (item ++ more) =
    ap (λ (l : List ℕ). l ++ more) k.whole ∙ append_assoc k.prefix item more in
    let one = one_reading (item ++ more) gave.under_way at gave.stream (sym whole ∙ gave.whole) in
    let moved = kept_as (bounds_as s s' same) one.table k in
    record {
      given = h.given;
      items_are = h.items_are;
      gave = gave;
      kept = record {
        prefix = moved.prefix;
        whole = ap (λ (l : List ℕ). l ++ more) moved.whole ∙ append_assoc moved.prefix item more;
        begins = moved.begins;
        stream = moved.stream;
        explained = moved.explained;
      };
    }

-- ---- the end of an item
kept_item : (which : Option Explained) (s s' : SessionState) (items items' : ℕ) (i : FilledItem)
    (bytes more item : List ℕ) (begin : ℕ) (text item' : List ℕ) (begin' : ℕ) (line : List ℕ)
    → limits_of s' ≡ limits_of s → AreLimits deepest (limits_of s) → items' ≡ items + 1
    → (h : HasReadKept which s items bytes item begin text)
    → HasRead s' (h.given ++ i ∷ []) (bytes ++ more) → IsBetweenItems s'
    → EndsItem which (types_of s') item begin more item' begin' (Ok tt) line
    → HasReadKept which s' items' (bytes ++ more) item' begin' (text ++ line)
kept_item which s s' items items' i bytes more item begin text item' begin' line same limits n h gave between f =
    let k = h.kept in
    let M = within_trees (limits_of s') in
    let none : gave.under_way ≡ [] = count_begins_here gave between refl in
    let table : gave.table ≡ types_of s' = table_between gave between in
    let whole : bytes ++ more ≡ k.prefix ++ (item ++ more) =
    ap (λ (l : List ℕ). l ++ more) k.whole ∙ append_assoc k.prefix item more in
    let all : gave.prefix ≡ k.prefix ++ (item ++ more) =
    sym (append-nil gave.prefix) ∙ ap (λ (l : List ℕ). gave.prefix ++ l) (sym none) ∙ sym gave.whole ∙ whole in
    let stream = subst (λ (p : List ℕ). FilledStream base_table M (h.given ++ i ∷ []) p gave.table) all gave.stream in
    let before = subst (λ (N : Bounds). AreExplained which N h.given k.prefix h.gave.table text)
    (bounds_as s s' same) k.explained in
    let bound = read_within gave in
    let stream_is = ap (λ (L : Bounds). L.stream) same in
    let limit = limits.stream in
    let size = length-append k.prefix (item ++ more) in
    let length_is : length (bytes ++ more) ≡ length (k.prefix ++ (item ++ more)) = ap length whole in
    let e = f (omega (arith, bound, limit, stream_is, length_is, size)) in
    let there = subst (λ (n : ℕ). IsItemText which (types_of s') n (item ++ more) line) k.begins e.2 in
    let shown = subst (λ (T : Table). IsItemText which T (length k.prefix) (item ++ more) line) (sym table) there in
    record {
      given = h.given ++ i ∷ [];
      items_are = omega (arith, n, h.items_are, length-append h.given (i ∷ []));
      gave = gave;
      kept = record {
        prefix = k.prefix ++ (item ++ more);
        whole = whole ∙ sym (append-nil (k.prefix ++ (item ++ more)))
            ∙ ap (λ (l : List ℕ). (k.prefix ++ (item ++ more)) ++ l) (sym e.0);
        begins = omega (arith, e.1, k.begins, bound, limit, stream_is, length_is, size);
        stream = stream;
        explained = item_behind i before stream shown;
      };
    }

-- ---- its text
pub explains_chosen : (which : Option Explained) (T : Table) (begin : ℕ) (bytes : List ℕ) (size begin' : ℕ)
    (bytes' : List ℕ) (place : ℕ) (text : List ℕ) → IsChosen which begin size → begin' ≡ begin → bytes' ≡ bytes
    → ShowsFirst T begin' bytes' place text → ExplainsEnd which T begin bytes size (Ok tt) text
explains_chosen which T begin bytes size begin' bytes' place text chosen is_begin is_bytes h = λ is_size.
    explained_so (subst (λ (n : ℕ). IsChosen which begin n) is_size chosen)
    (subst (λ (n : ℕ). ShowsItem T n bytes text) is_begin
    (subst (λ (b : List ℕ). ShowsItem T begin' b text) is_bytes h.shows))

pub explains_none : (which : Option Explained) (T : Table) (begin : ℕ) (bytes : List ℕ) (size : ℕ)
    → ¬ IsChosen which begin size → ExplainsEnd which T begin bytes size (Ok tt) []
explains_none which T begin bytes size other = λ is_size.
    left_out (λ h. other (subst (λ (n : ℕ). IsChosen which begin n) (sym is_size) h))

-- without memory there is none
pub no_end : (which : Option Explained) (T : Table) (begin : ℕ) (bytes : List ℕ) (size : ℕ) (e : Memory)
    (r : Result (Unit {0}) Memory) → IsErrAnd r (λ x. x ≡ e) → ExplainsEnd which T begin bytes size r []
no_end which T begin bytes size e (Ok u) is = absurd is
no_end which T begin bytes size e (Err f) is = refl

pub lost_end : (which : Option Explained) (T : Table) (item : List ℕ) (begin : ℕ) (more item' : List ℕ) (begin' : ℕ)
    (text : List ℕ) (e : Memory) (r : Result (Unit {0}) Memory) → IsErrAnd r (λ x. x ≡ e) → text ≡ []
    → EndsItem which T item begin more item' begin' r text
lost_end which T item begin more item' begin' text e (Ok u) is none = absurd is
lost_end which T item begin more item' begin' text e (Err f) is none = none

-- bytes of the item under way, or its end
keeps_none : (which : Option Explained) (T : Table) (item : List ℕ) (begin : ℕ) (more item' : List ℕ) (begin' : ℕ)
    (r : Result (Unit {0}) Memory) → OnOk r (item' ≡ item ++ more) → begin' ≡ begin
    → GoesOn which T None item begin more item' begin' r []
keeps_none which T item begin more item' begin' (Ok u) i b = (i, b, refl)
keeps_none which T item begin more item' begin' (Err e) i b = refl

pub keeps_on : (which : Option Explained) (T : Table) (o : Option GoItem) (item : List ℕ) (begin : ℕ)
    (more item' : List ℕ) (begin' : ℕ) (r : Result (Unit {0}) Memory) → o ≡ None → OnOk r (item' ≡ item ++ more)
    → begin' ≡ begin → GoesOn which T o item begin more item' begin' r []
keeps_on which T o item begin more item' begin' r is i b =
    subst (λ (o : Option GoItem). GoesOn which T o item begin more item' begin' r []) (sym is)
    (keeps_none which T item begin more item' begin' r i b)

pub ends_on : (which : Option Explained) (T : Table) (o : Option GoItem) (i : GoItem) (item : List ℕ) (begin : ℕ)
    (more item' : List ℕ) (begin' : ℕ) (r : Result (Unit {0}) Memory) (text : List ℕ) → o ≡ Some i
    → EndsItem which T item begin more item' begin' r text → GoesOn which T o item begin more item' begin' r text
ends_on which T o i item begin more item' begin' r text is h =
    subst (λ (o : Option GoItem). GoesOn which T o item begin more item' begin' r text) (sym is) h

-- without memory nothing was given
pub nothing_given : (which : Option Explained) (T : Table) (o : Option GoItem) (item : List ℕ) (begin : ℕ)
    (more item' : List ℕ) (begin' : ℕ) (e : Memory) (text : List ℕ)
    → GoesOn which T o item begin more item' begin' (Err e) text → text ≡ []
nothing_given which T None item begin more item' begin' e text h = h
nothing_given which T (Some i) item begin more item' begin' e text h = h

-- ---- a step
-- more of the item under way, as it is kept then, or the end of one
pub kept_step : (which : Option Explained) (s s' : SessionState) (items items' : ℕ) (bytes piece item : List ℕ)
    (begin : ℕ) (text item' : List ℕ) (begin' : ℕ) (line : List ℕ) (used : ℕ) (o : Option GoItem)
    → limits_of s' ≡ limits_of s → AreLimits deepest (limits_of s) → 0 < length piece → items' ≡ items + given_count o
    → (h : HasReadKept which s items bytes item begin text) → IfSome o (λ _. IsBetweenItems s')
    → GoesOn which (types_of s') o item begin (take used piece) item' begin' (Ok tt) line
    → AdvancesOver true s' h.given bytes piece used o
    → KeepsNext which s' items items' bytes piece item' begin' (text ++ line) (Ok used)
kept_step which s s' items items' bytes piece item begin text item' begin' line used o same limits some n h b on
    (over_some l w a) =
    let still : items' ≡ items = omega arith in
    let k = kept_more which s s' items bytes (take used piece) item begin text same h a in
    let same_text : text ++ line ≡ text = ap (λ (l : List ℕ). text ++ l) on.2 ∙ append-nil text in
    record {
      within = w;
      nearer = omega (arith, l some);
      has = subst (λ (m : ℕ). HasReadKept which s' m (bytes ++ take used piece) item' begin' (text ++ line))
          (sym still)
          (subst (λ (t : List ℕ). HasReadKept which s' items (bytes ++ take used piece) item' begin' t)
          (sym same_text)
          (subst (λ (m : ℕ). HasReadKept which s' items (bytes ++ take used piece) item' m text) (sym on.1)
          (subst (λ (z : List ℕ). HasReadKept which s' items (bytes ++ take used piece) z begin text) (sym on.0) k)));
    }
kept_step which s s' items items' bytes piece item begin text item' begin' line used o same limits some n h b ends
    (over_item {i = i} l w m a) = record {
      within = w;
      nearer = omega arith;
      has = kept_item which s s' items items' i bytes (take used piece) item begin text item' begin' line same limits n
          h a b ends;
    }

-- as many items are whole with it as were given
pub step_fits : {which : Option Explained} {s s' : SessionState} {items items' : ℕ} {bytes piece item : List ℕ}
    {begin : ℕ} {text : List ℕ} {used : ℕ} {o : Option GoItem} → limits_of s' ≡ limits_of s
    → AreLimits deepest (limits_of s) → items' ≡ items + given_count o
    → (h : HasReadKept which s items bytes item begin text) → AdvancesOver true s' h.given bytes piece used o
    → items' < 2 ^ 64
step_fits same limits n h (over_some l w a) = let fit = items_fit h limits in omega arith
step_fits {bytes = bytes} {piece = piece} {used = used} same limits n h (over_item {i = i} l w m a) =
    let few = few_items a.stream in
    let bound = read_within a in
    let stream_is = ap (λ (L : Bounds). L.stream) same in
    omega (
      arith,
      n,
      limits.stream,
      stream_is,
      h.items_are,
      length-append h.given (i ∷ []),
      ap length a.whole,
      length-append a.prefix a.under_way,
    )

-- ---- a value that stands whole
pub item_next : {s : SessionState} {used : ℕ} {piece : List ℕ} → HasValueNext s used piece
    → HasItemNext s (take used piece)
item_next v = (puts v.id v.whole.value, whole_item greatest_depth refl v.next v.whole)

pub passes_kept : (which : Option Explained) (s s' : SessionState) (items items' : ℕ) (bytes piece item : List ℕ)
    (begin : ℕ) (text item' : List ℕ) (begin' : ℕ) (line : List ℕ) {used : ℕ} → HasValueNext s used piece
    → limits_of s' ≡ limits_of s → AreLimits deepest (limits_of s) → items' ≡ items + 1
    → HasReadKept which s items bytes item begin text → ReadsOn s s' (take used piece) → IsBetweenItems s'
    → EndsItem which (types_of s') item begin (take used piece) item' begin' (Ok tt) line
    → KeepsNext which s' items items' bytes piece item' begin' (text ++ line) (Ok used)
passes_kept which s s' items items' bytes piece item begin text item' begin' line {used = used} v same limits n h on b
    e =
    let i = puts v.id v.whole.value in
    let gave = on h.given bytes i h.gave (whole_item greatest_depth refl v.next v.whole) in
    record {
      within = v.next.within;
      nearer = omega (arith, n);
      has = kept_item which s s' items items' (unfilled_item i) bytes (take used piece) item begin text item' begin'
          line same limits n h gave b e;
    }

-- one item more
pub value_fits : {which : Option Explained} {s s' : SessionState} {items : ℕ} {bytes piece item : List ℕ} {begin : ℕ}
    {text : List ℕ} {used : ℕ} → HasValueNext s used piece → limits_of s' ≡ limits_of s
    → AreLimits deepest (limits_of s) → HasReadKept which s items bytes item begin text
    → ReadsOn s s' (take used piece) → items + 1 < 2 ^ 64
value_fits {bytes = bytes} {piece = piece} {used = used} v same limits h on =
    let i = puts v.id v.whole.value in
    let a = on h.given bytes i h.gave (whole_item greatest_depth refl v.next v.whole) in
    let few = few_items a.stream in
    let bound = read_within a in
    let stream_is = ap (λ (L : Bounds). L.stream) same in
    omega (
      arith,
      limits.stream,
      stream_is,
      h.items_are,
      length-append h.given (unfilled_item i ∷ []),
      ap length a.whole,
      length-append a.prefix a.under_way,
    )

-- ---- what stops it
pub keeps_at : (which : Option Explained) (s : SessionState) (items items' : ℕ) (bytes piece item : List ℕ) (begin : ℕ)
    (text : List ℕ) (r : Result ℕ Fault) (e : Fault) → IsErrAnd r (λ x. x ≡ e)
    → KeepsNext which s items items' bytes piece item begin text (Err e)
    → KeepsNext which s items items' bytes piece item begin text r
keeps_at which s items items' bytes piece item begin text (Ok n) e is h = absurd is
keeps_at which s items items' bytes piece item begin text (Err f) e is h =
    subst (λ e. KeepsNext which s items items' bytes piece item begin text (Err e)) (sym is) h

pub begins_kept : (which : Option Explained) (L M : Bounds) (T : Table) (given : List FilledItem)
    (bytes more item : List ℕ) (begin : ℕ) (text text' : List ℕ) → L ≡ M → text' ≡ text
    → HasKept which L T given bytes item begin text → BeginsKept which M (bytes ++ more) text'
begins_kept which L M T given bytes more item begin text text' e f h =
    let k = kept_as {U = T} e refl h in
    record {
      given = given;
      prefix = k.prefix;
      rest = item ++ more;
      table = T;
      whole = ap (λ (l : List ℕ). l ++ more) k.whole ∙ append_assoc k.prefix item more;
      stream = k.stream;
      explained = subst (λ (t : List ℕ). AreExplained which M given k.prefix T t) (sym f) k.explained;
    }

pub no_memory_next : (which : Option Explained) (s s' : SessionState) (items items' : ℕ)
    (bytes piece item item' : List ℕ) (begin begin' : ℕ) (text line : List ℕ) → limits_of s' ≡ limits_of s
    → line ≡ [] → HasReadKept which s items bytes item begin text
    → KeepsNext which s' items items' bytes piece item' begin' (text ++ line) (Err reading.Memory)
no_memory_next which s s' items items' bytes piece item item' begin begin' text line same none h =
    let b = begins_kept which (within_trees (limits_of s)) (within_trees (limits_of s')) h.gave.table h.given
    bytes [] item begin text (text ++ line) (bounds_as s s' same)
    (ap (λ (t : List ℕ). text ++ t) none ∙ append-nil text) h.kept in
    subst (λ (z : List ℕ). BeginsKept which (within_trees (limits_of s')) z (text ++ line)) (append-nil bytes) b

pub step_stops_kept : (which : Option Explained) (s s' : SessionState) (items items' : ℕ) (bytes piece item : List ℕ)
    (begin : ℕ) (text : List ℕ) (e : Fault) → limits_of s' ≡ limits_of s
    → (h : HasReadKept which s items bytes item begin text) → StepAnswers s s' h.given bytes piece (Err e)
    → KeepsNext which s' items items' bytes piece item begin (text ++ []) (Err e)
step_stops_kept which s s' items items' bytes piece item begin text (reading.Refused R) same h f = record {
  given = h.given;
  shown = subst (λ (L : Bounds). ShowsRefusal L (bytes ++ piece) h.given R) (bounds_as s s' same) f.0;
  types = subst (λ (L : Bounds). RefusesBehind L (bytes ++ piece) h.given R (types_of s')) (bounds_as s s' same) f.1;
  table = h.gave.table;
  kept = subst (λ (t : List ℕ). HasKept which (within_trees (limits_of s')) h.gave.table h.given bytes item begin t)
      (sym (append-nil text)) (kept_as (bounds_as s s' same) refl h.kept);
}
step_stops_kept which s s' items items' bytes piece item begin text reading.Read same h f = absurd f
step_stops_kept which s s' items items' bytes piece item begin text reading.Memory same h f =
    no_memory_next which s s' items items' bytes piece item item begin begin text [] same refl h
step_stops_kept which s s' items items' bytes piece item begin text reading.Failed same h f = absurd f

-- ---- the items that some bytes begin with
pub kept_begins : {which : Option Explained} {L : Bounds} {T : Table} {given : List FilledItem} {bytes item : List ℕ}
    {begin : ℕ} {text : List ℕ} → HasKept which L T given bytes item begin text → BeginsKept which L bytes text
kept_begins {T = T} {given = given} {item = item} k = record {
  given = given;
  prefix = k.prefix;
  rest = item;
  table = T;
  whole = k.whole;
  stream = k.stream;
  explained = k.explained;
}

pub begins_longer : {which : Option Explained} {L : Bounds} {bytes text : List ℕ} (more : List ℕ)
    → BeginsKept which L bytes text → BeginsKept which L (bytes ++ more) text
begins_longer more b = record {
  given = b.given;
  prefix = b.prefix;
  rest = b.rest ++ more;
  table = b.table;
  whole = ap (λ (l : List ℕ). l ++ more) b.whole ∙ append_assoc b.prefix b.rest more;
  stream = b.stream;
  explained = b.explained;
}

pub next_begins : (which : Option Explained) (s : SessionState) (items items' : ℕ) (bytes piece item : List ℕ)
    (begin : ℕ) (text : List ℕ) (e : Fault) → KeepsNext which s items items' bytes piece item begin text (Err e)
    → BeginsKept which (within_trees (limits_of s)) bytes text
next_begins which s items items' bytes piece item begin text (reading.Refused R) n = kept_begins n.kept
next_begins which s items items' bytes piece item begin text reading.Read n = absurd n
next_begins which s items items' bytes piece item begin text reading.Memory n = n
next_begins which s items items' bytes piece item begin text reading.Failed n = absurd n
