-- How a run ends that prints parts while their item is read.
use Rattle.std.proofs.Common.{◌≡◌, ℕ, ◌+◌, ◌-◌, ◌<◌, ◌≤◌, Bool, true, false, List, [], ◌∷◌, ◌++◌, length, drop, Option}
use Rattle.std.proofs.Common.{Some, None, Result, Ok, Err, arith, refl, sym, ap, ◌∙◌, subst, append_assoc, append-nil}
use Rattle.std.proofs.Common.{length-append}
use Rattle.std.proofs.lemmas.List.{drop-append-le}
use Rattle.std.proofs.KnownBytes.{Appends-kept, Appends-nil, Appends-trans}
use Rattle.std.specs.Io.KnownBytes.{Appends, Keeps}
use Rattle.gob_types.specs.Table.{Table}
use Rattle.gob_types.specs.declared.id.TypeId.{TypeId}
use Rattle.gob_value.specs.Tree.{Tree}
use Rattle.gob_stream.specs.Bounds.{Bounds, within_trees}
use Rattle.gob_stream.specs.Calls.ReaderOf.{EndsWithIn, HasReadBy, StopsBy, StopsIn, types_behind, waits_in}
use Rattle.gob_stream.specs.Calls.Writing.{SentPrefix}
use Rattle.gob_stream.specs.Grammar.{BeginsIn}
use Rattle.gob_stream.specs.Whole.{HasBegun}
use Rattle.gob_stream.specs.declared.fault.Fault.{Fault}
use Rattle.gob_stream.specs.declared.fault.Fault.TheVariants as reading
use Rattle.gob_stream.specs.declared.reader_of.ReaderOf.{ReaderOf}
use Rattle.gob_filled.specs.Outcome.{profile}
use Rattle.gob_filled.specs.Stream.{FilledItem}
use Rattle.gob_go.specs.Calls.Reader.{session_of}
use Rattle.gob_go.specs.Calls.Session.{IsBetweenItems, limits_of, taken_of, types_of}
use Rattle.gob_go.specs.GoStepping.{nothing_meant, passing_stepping}
use Rattle.gob_go.specs.Machine.SessionState.{SessionState}
use Rattle.gob_go.specs.declared.item.GoItem.{GoItem}
use Rattle.gob_go.proofs.ItemsLaws.{one_reading}
use Rattle.gob_go.proofs.SessionAnswers.{stands}
use Rattle.gob_tool.specs.Answering.{AppendsPrefix, BeginsOutcome, RunAnswersIn}
use Rattle.gob_tool.specs.Fault.{reading_fault}
use Rattle.gob_tool.specs.Texts.{HaveTexts, OfTexts, texts_then}
use Rattle.gob_tool.specs.declared.fault.ToolFault.{ToolFault}
use Rattle.gob_tool.specs.declared.fault.ToolFault.TheVariants as fault
use Rattle.gob_tool.proofs.TextLaws.{no_memory, shown_stops}
use Rattle.gob_plain.specs.declared.style.Style.{Style}
use Rattle.gob_views.specs.Each.{BeginsWithParts, IsBegunText, OfLines, nothing_begun}
use Rattle.gob_views.specs.Machine.PartLines.{HasParts, PrintsEach, SaysLines}
use Rattle.gob_views.specs.Machine.PartStream.{HasBegunParts, HasPrinted, IsBare, IsUnfilledLine, MakesParts}
use Rattle.gob_views.specs.Machine.PartStream.{PartsBegin, PrintsOn, PrintsRest, PrintsWhole, StopsPrinting, StopsSo}
use Rattle.gob_views.specs.Values.{IsChosen, IsPlainLine, IsStyleOf}
use Rattle.gob_words.specs.Words.{text_of}
use Rattle.gob_views.specs.declared.body_lines.PartTypes.{PartTypes}
use Rattle.gob_views.specs.declared.body_lines.PartsAhead.{PartsAhead}
use Rattle.gob_views.specs.declared.part_stream.BegunParts.{BegunParts}
use Rattle.gob_views.specs.declared.value_line.ValueLines.{ValueLines}
use Rattle.gob_views.proofs.BareLaws.{BareItem}
use Rattle.gob_views.proofs.PartStreamLaws.{Front, begun_text, dropped, first_printed, front, item_so, known_behind}
use Rattle.gob_views.proofs.PartStreamLaws.{printed_on, same_types, whole_printed}

abbrev Reader : Type 0
Reader = ReaderOf SessionState GoItem

abbrev bounds : Reader → Bounds
bounds r = within_trees (limits_of (session_of r))

-- what is behind the bytes that a reader has taken
abbrev pub behind : Reader → List ℕ → List ℕ
behind r bytes = drop (taken_of (session_of r)) bytes

under : {T : Table} {given : List FilledItem} {bytes z : List ℕ} {L M : Bounds} → L ≡ M → Front L T given bytes z
    → Front M T given bytes z
under {T = T} {given = given} {bytes = bytes} {z = z} same f = subst (λ (L : Bounds). Front L T given bytes z) same f

-- ---- the lines of the items before, and of the first parts
module _ {lines : ValueLines} {L : Bounds} {T : Table} {given : List FilledItem} {bytes z text : List ℕ}
    (f : Front L T given bytes z) (begun : IsBegunText lines L T z text) where
  lines_begun : IsBegunText lines L f.begins.table f.begins.rest text
  lines_begun = subst (λ (T : Table). IsBegunText lines L T f.begins.rest text) (sym f.table_is)
      (subst (λ (z : List ℕ). IsBegunText lines L T z text) (sym f.rest_is) begun)

  pub lines_out : (start old out : Option (List ℕ))
      → OfTexts profile (IsPlainLine lines) L bytes (Appends start old) given → Appends old out text
      → OfLines lines L bytes (Appends start out) given
  lines_out start old out o a = record {
    begins = f.begins;
    text = o.text;
    texts = o.texts;
    begun = text;
    begun_is = lines_begun;
    holds = Appends-trans start old out o.text text o.holds a;
  }

  pub lines_cut : (start old mid new : Option (List ℕ)) (all made : List ℕ)
      → OfTexts profile (IsPlainLine lines) L bytes (Appends start old) given → Appends old mid all
      → text ≡ all ++ made → SentPrefix made mid new
      → BeginsOutcome profile L bytes (λ T items. OfLines lines L bytes (AppendsPrefix start new) items)
  lines_cut start old mid new all made o a is cut = record {
    items = given;
    begins = f.begins;
    holds = record {
      begins = f.begins;
      text = o.text;
      texts = o.texts;
      begun = text;
      begun_is = lines_begun;
      holds = record {
        prefix = o.text ++ (all ++ cut.prefix);
        rest = cut.rest;
        whole = ap (λ (l : List ℕ). o.text ++ l) (is ∙ ap (λ (l : List ℕ). all ++ l) cut.whole
            ∙ sym (append_assoc all cut.prefix cut.rest)) ∙ sym (append_assoc o.text (all ++ cut.prefix) cut.rest);
        out = Appends-trans start old new o.text (all ++ cut.prefix) o.holds
            (Appends-trans old mid new all cut.prefix a cut.out);
      };
    };
  }

  pub lines_unflushed : (start old mid new : Option (List ℕ))
      → OfTexts profile (IsPlainLine lines) L bytes (Appends start old) given → Appends old mid text → Keeps mid new
      → BeginsOutcome profile L bytes (λ T items. OfLines lines L bytes (AppendsPrefix start new) items)
  lines_unflushed start old mid new o a kept =
      record {
        items = given;
        begins = f.begins;
        holds = record {
          begins = f.begins;
          text = o.text;
          texts = o.texts;
          begun = text;
          begun_is = lines_begun;
          holds = record {
            prefix = o.text ++ text;
            rest = [];
            whole = sym (append-nil (o.text ++ text));
            out = Appends-trans start old new o.text text o.holds (Appends-kept old mid new text a kept);
          };
        };
      }

-- the lines of one item more
pub lines_cut_whole : {lines : ValueLines} {L : Bounds} {U : Table} {given : List FilledItem} {i : FilledItem}
    {bytes y : List ℕ} (all made full : List ℕ) (start old mid new : Option (List ℕ))
    → Front L U (given ++ i ∷ []) bytes y → IsUnfilledLine lines U i full
    → OfTexts profile (IsPlainLine lines) L bytes (Appends start old) given → Appends old mid all → full ≡ all ++ made
    → SentPrefix made mid new
    → BeginsOutcome profile L bytes (λ T items. OfLines lines L bytes (AppendsPrefix start new) items)
lines_cut_whole {lines = lines} {L = L} {U = U} {given = given} {i = i} all made full start old mid new f line o a is
    cut =
    let said = subst (λ (T : Table). IsPlainLine lines T i full) (sym f.table_is)
    (subst (λ (i : FilledItem). IsPlainLine lines U i full) (sym line.is) line.line) in
    record {
      items = given ++ i ∷ [];
      begins = f.begins;
      holds = record {
        begins = f.begins;
        text = o.text ++ full;
        texts = texts_then i full o.texts f.begins said;
        begun = [];
        begun_is = nothing_begun;
        holds = record {
          prefix = o.text ++ (all ++ cut.prefix);
          rest = cut.rest;
          whole = append-nil (o.text ++ full)
              ∙ ap (λ (l : List ℕ). o.text ++ l) (is ∙ ap (λ (l : List ℕ). all ++ l) cut.whole
              ∙ sym (append_assoc all cut.prefix cut.rest)) ∙ sym (append_assoc o.text (all ++ cut.prefix) cut.rest);
          out = Appends-trans start old new o.text (all ++ cut.prefix) o.holds
              (Appends-trans old mid new all cut.prefix a cut.out);
        };
      };
    }

-- ---- from step to step

-- so far, of an item that has begun where the first reader stood
pub record Stands (lines : ValueLines) (style : Style) (begun : BegunParts) (r s : Reader) (read now : Option (List ℕ))
    (given : List FilledItem) (ahead : PartsAhead) (kept text : List ℕ) : Type 0 where
  pub has : HasReadBy passing_stepping s read now given
  pub printed : (bytes : List ℕ) → read ≡ Some bytes → HasPrinted lines style (bounds r) (types_of (session_of r)) begun
      (behind r bytes) ahead kept (behind s bytes) text

-- where the item has begun
pub record Begun (lines : ValueLines) (style : Style) (begun : BegunParts) (r : Reader) : Type 0 where
  pub between : IsBetweenItems (session_of r)
  pub parts : (bytes : List ℕ) (given : List FilledItem) (read now : Option (List ℕ))
      → HasReadBy passing_stepping r read now given → read ≡ Some bytes
      → HasBegunParts lines (bounds r) (types_of (session_of r)) begun (behind r bytes)
  pub styled : IsStyleOf lines style

module _ {lines : ValueLines} {style : Style} {begun : BegunParts} {r : Reader} (s : Reader)
    (b : Begun lines style begun r) (limits : limits_of (session_of s) ≡ limits_of (session_of r)) where
  same_bounds : bounds s ≡ bounds r
  same_bounds = ap (λ (L : Bounds). within_trees L) limits

  front_of : {read now : Option (List ℕ)} {given : List FilledItem} (bytes : List ℕ)
      → HasReadBy passing_stepping r read now given → read ≡ Some bytes
      → Front (bounds r) (types_of (session_of r)) given bytes (behind r bytes)
  front_of bytes h known = front bytes h.gave b.between (known_behind bytes h known).all

  -- a fault of the reader
  pub stops : {read now : Option (List ℕ)} (next : Option (List ℕ)) {given : List FilledItem} {ahead : PartsAhead}
      {kept text : List ℕ} (old out : Option (List ℕ)) (T : Table) (e : Fault) → HasReadBy passing_stepping r read now
      given
      → ((bytes : List ℕ) → read ≡ Some bytes → HasPrinted lines style (bounds r) (types_of (session_of r)) begun
      (behind r bytes) ahead kept (behind s bytes) text)
      → Appends old out text → StopsBy passing_stepping (session_of s) T read next given e
      → StopsPrinting passing_stepping lines r read next given old out (reading_fault e)
  stops next {given = given} old out T e h printed a stop = λ bytes known start o.
      let L = bounds r in
      let p = b.parts bytes given _ _ h known in
      let all = lines_out (front_of bytes h known) (begun_text p b.styled (printed bytes known)) start old out
      o a in
      shown_stops profile L T given bytes next (λ T items. OfLines lines L bytes (Appends start out) items)
      (λ T items. OfLines lines L bytes (AppendsPrefix start out) items) e
      (subst (λ (M : Bounds). StopsIn profile M T given bytes next e) same_bounds
      (stop bytes known)) all

-- ---- from step to step
says_behind : (lines : ValueLines) (style : Style) (T : Table) (t : TypeId) (v : Tree) (old new : List ℕ)
    (text : List ℕ) → SaysLines lines style T t v old new
    → SaysLines lines style T t v (text ++ old) (text ++ new)
says_behind lines style T t v old new text s = (
  s.0,
  s.1,
  record {
    made = ap (λ (l : List ℕ). text ++ l) s.2.made ∙ sym (append_assoc text old _);
    read = s.2.read;
  },
)

rest_behind : (lines : ValueLines) (style : Style) (T : Table) (t : TypeId) (ahead : PartsAhead)
    (kept old new : List ℕ) (text : List ℕ) → PrintsRest true lines style T t ahead kept old new
    → PrintsRest true lines style T t ahead kept (text ++ old) (text ++ new)
rest_behind lines style T t ahead kept old new text p = (
  λ none. ap (λ (l : List ℕ). text ++ l) (p.0 none),
  λ some v f. says_behind lines style T t v old new text
      (p.1 some v f),
)

module _ {lines : ValueLines} {style : Style} {begun : BegunParts} {r : Reader} (s q : Reader)
    (b : Begun lines style begun r) (limits : limits_of (session_of q) ≡ limits_of (session_of r)) where
  own_front : {read now : Option (List ℕ)} {given : List FilledItem} (bytes : List ℕ)
      → HasReadBy passing_stepping r read now given → read ≡ Some bytes
      → Front (bounds q) (types_of (session_of r)) given bytes (behind r bytes)
  own_front bytes h known =
      under (sym (ap (λ (L : Bounds). within_trees L) limits)) (front bytes h.gave b.between (known_behind bytes h
      known).all)

  module _ {read now next : Option (List ℕ)} {given : List FilledItem} {old : PartsAhead} (new : PartsAhead)
      {kept : List ℕ} (grown kept' : List ℕ) {text : List ℕ} (made : List ℕ) (h : HasReadBy passing_stepping r read now
      given) (bytes : List ℕ) (known : read ≡ Some bytes)
      (p : HasPrinted lines style (bounds r) (types_of (session_of r)) begun (behind r bytes) old kept (behind s bytes)
      text) where
    -- the types stay
    pub types_stay : HasReadBy passing_stepping q read next given
        → types_of (session_of q) ≡ types_of (session_of r)
    types_stay g =
        let parts = b.parts bytes given read now h known in
        same_types (own_front bytes h known) parts.bare p.begins.announces p.begins.names g.gave (behind q bytes) _
        (known_behind bytes g known).all p.begins.whole

    -- more was printed
    pub goes_further : HasReadBy passing_stepping q read next given
        → kept ++ behind s bytes ≡ grown ++ behind q bytes
        → (PrintsEach lines style → HasParts (types_of (session_of q)) begun.id old.parts
        → PrintsWhole false lines style (types_of (session_of q)) begun.id begun.depth old new grown kept' [] made)
        → HasPrinted lines style (bounds r) (types_of (session_of r)) begun (behind r bytes) new kept' (behind q bytes)
        (text ++ made)
    goes_further g same prints =
        let parts = b.parts bytes given read now h known in
        let t = types_stay g in
        let w = subst (λ (T : Table). HasParts T begun.id old.parts → PrintsWhole false lines style T begun.id
        begun.depth old new grown kept' [] made) t (prints (parts.each, b.styled.pairs ∙ parts.each))
        (subst (λ (q : PartTypes). HasParts (types_of (session_of r)) begun.id q) (sym p.parts_are) p.begins.type_is) in
        subst (λ (l : List ℕ). HasPrinted lines style (bounds r) (types_of (session_of r)) begun (behind r bytes) new
        kept' (behind q bytes) (text ++ l)) (sym w.rest) (printed_on p same w.some)

    -- the item is whole
    pub ends_item : {i : FilledItem} → HasReadBy passing_stepping q read next (given ++ i ∷ [])
        → IsBetweenItems (session_of q) → kept ++ behind s bytes ≡ grown ++ behind q bytes
        → (PrintsEach lines style → HasParts (types_of (session_of q)) begun.id old.parts
        → PrintsWhole true lines style (types_of (session_of q)) begun.id begun.depth old new grown kept' [] made)
        → IsUnfilledLine lines (types_of (session_of q)) i (text ++ made)
    ends_item {i = i} g between same prints =
        let parts = b.parts bytes given read now h known in
        let f = own_front bytes h known in
        let all = (known_behind bytes g known).all in
        let first = item_so f parts.bare p.begins.announces p.begins.names p.begins.may g.gave between (behind q bytes)
        all p.begins.whole in
        let w = subst (λ (T : Table). HasParts T begun.id old.parts → PrintsWhole true lines style T begun.id
        begun.depth old new grown kept' [] made) first.1.table (prints (parts.each, b.styled.pairs ∙ parts.each))
        (subst (λ (q : PartTypes). HasParts (types_of (session_of r)) begun.id q) (sym p.parts_are) p.begins.type_is) in
        let n = printed_on p same w.some in
        let item = item_so f parts.bare n.begins.announces n.begins.names n.begins.may g.gave between (behind q bytes)
        all n.begins.whole in
        let L = ap (λ (L : Bounds). within_trees L) limits in
        whole_printed parts b.styled n
        (subst (λ (L : Bounds). BareItem L (types_of (session_of r)) (types_of (session_of q)) begun.id i n.begins.item
        n.begins.number item.0 (0 ∷ (n.begins.counted ++ (n.spelled ++ drop new.begin (kept' ++ behind q bytes))))
        (behind q bytes)) L item.1)
        (rest_behind lines style (types_of (session_of r)) begun.id new kept' w.made made text w.rest)

-- the input doesn't end within an item
pub no_end : {L : Bounds} {T U : Table} {given : List FilledItem} {bytes z : List ℕ} {count : ℕ} {now : Option (List ℕ)}
    → Front L T given bytes z → 0 < length z → EndsWithIn profile L U count given bytes now → ⊥
no_end {bytes = bytes} f some e =
    let b = f.begins in
    let one = one_reading [] b.rest e.stream b.stream (append-nil bytes ∙ b.whole) in
    omega (arith, some, ap length (one.rest ∙ f.rest_is))

module _ {lines : ValueLines} {style : Style} {begun : BegunParts} {r : Reader} (s : Reader)
    (b : Begun lines style begun r) (limits : limits_of (session_of s) ≡ limits_of (session_of r)) where
  pub not_ended : {read now : Option (List ℕ)} (next : Option (List ℕ)) {given : List FilledItem} {U : Table}
      {count : ℕ} (bytes : List ℕ) → HasReadBy passing_stepping r read now given → read ≡ Some bytes
      → EndsWithIn profile (bounds s) U count given bytes next → ⊥
  not_ended {read = read} {now = now} next {given = given} {U = U} {count = count} bytes h known e =
      let g = (b.parts bytes given read now h known).begins in
      let tail = 0 ∷ (g.counted ++ drop begun.parts.begin (behind r bytes)) in
      no_end (front bytes h.gave b.between (known_behind bytes h known).all)
      (omega (
        arith,
        ap length g.whole,
        length-append g.item (g.number ++ tail),
        length-append g.number tail,
      ))
      (subst (λ (L : Bounds). EndsWithIn profile L U count given bytes next)
      (ap (λ (L : Bounds). within_trees L) limits) e)

-- no byte was taken
pub still : {lines : ValueLines} {style : Style} {begun : BegunParts} (r s q : Reader)
    {read : Option (List ℕ)} {ahead : PartsAhead} {kept text : List ℕ}
    → taken_of (session_of q) ≡ taken_of (session_of s)
    → ((bytes : List ℕ) → read ≡ Some bytes → HasPrinted lines style (bounds r) (types_of (session_of r)) begun
    (behind r bytes) ahead kept (behind s bytes) text)
    → (bytes : List ℕ) → read ≡ Some bytes → HasPrinted lines style (bounds r) (types_of (session_of r)) begun
    (behind r bytes) ahead kept (behind q bytes) text
still {lines = lines} {style = style} {begun = begun} r s q {ahead = ahead} {kept = kept} {text = text} same
    printed bytes known =
    subst (λ (n : ℕ). HasPrinted lines style (bounds r) (types_of (session_of r)) begun (behind r bytes) ahead kept
    (drop n bytes) text) (sym same) (printed bytes known)

-- no memory was had before the first step
pub no_first : {lines : ValueLines} {r : Reader} {read now : Option (List ℕ)} {given : List FilledItem}
    (out : Option (List ℕ)) → IsBetweenItems (session_of r) → HasReadBy passing_stepping r read now given
    → StopsPrinting passing_stepping lines r read now given out out fault.Memory
no_first {lines = lines} {r = r} {now = now} {given = given} out between h = λ bytes known start o.
    let L = bounds r in
    let f = front bytes h.gave between (known_behind bytes h known).all in
    shown_stops profile L (types_behind passing_stepping h) given bytes now
    (λ T items. OfLines lines L bytes (Appends start out) items)
    (λ T items. OfLines lines L bytes (AppendsPrefix start out) items) reading.Memory
    (no_memory passing_stepping (stands false nothing_meant (session_of r)).gives h bytes known)
    (lines_out f nothing_begun start out out o (Appends-nil out))

-- ---- the loop
pub begun_at : {lines : ValueLines} {style : Style} {begun : BegunParts} {r : Reader} → IsBetweenItems (session_of r)
    → ((left : List ℕ) → HasBegunParts lines (bounds r) (types_of (session_of r)) begun (waits_in r ++ left))
    → IsStyleOf lines style → Begun lines style begun r
begun_at {lines = lines} {begun = begun} {r = r} between parts styled = record {
  between = between;
  parts = λ bytes given read now h known.
      let k = known_behind bytes h known in
      subst (λ (z : List ℕ). HasBegunParts lines (bounds r) (types_of (session_of r)) begun z) (sym k.behind)
      (parts k.left);
  styled = styled;
}

pub stands_first : {lines : ValueLines} {style : Style} {begun : BegunParts} {r : Reader}
    {read now : Option (List ℕ)} {given : List FilledItem} → Begun lines style begun r
    → HasReadBy passing_stepping r read now given → Stands lines style begun r r read now given begun.parts [] []
stands_first b h =
    record { has = h; printed = λ bytes known. first_printed (b.parts bytes _ _ _ h known) }

more_is : {i : FilledItem} {more : List FilledItem} {r : Reader} {read now : Option (List ℕ)}
    (given : List FilledItem) → more ≡ i ∷ [] → HasReadBy passing_stepping r read now (given ++ more)
    → HasReadBy passing_stepping r read now (given ++ i ∷ [])
more_is {r = r} {read = read} {now = now} given e h =
    subst (λ (l : List FilledItem). HasReadBy passing_stepping r read now (given ++ l)) e h

none_is : {more : List FilledItem} {r : Reader} {read now : Option (List ℕ)} {given : List FilledItem}
    → more ≡ [] → HasReadBy passing_stepping r read now (given ++ more) → HasReadBy passing_stepping r read now given
none_is {r = r} {read = read} {now = now} {given = given} e h =
    subst (λ (l : List FilledItem). HasReadBy passing_stepping r read now l)
    (ap (λ (l : List FilledItem). given ++ l) e ∙ append-nil given) h

module _ {lines : ValueLines} {style : Style} {begun : BegunParts} {r : Reader} (s q : Reader)
    (b : Begun lines style begun r) (limits : limits_of (session_of q) ≡ limits_of (session_of r))
    {read now next : Option (List ℕ)} {given : List FilledItem} {old new : PartsAhead} {kept kept' text made : List ℕ}
    (h : HasReadBy passing_stepping r read now given)
    (printed : (bytes : List ℕ) → read ≡ Some bytes → HasPrinted lines style (bounds r) (types_of (session_of r)) begun
    (behind r bytes) old kept (behind s bytes) text) where
  pub stands_next : MakesParts lines style begun s q read next given old new kept kept' [] made false
      → Stands lines style begun r q read next given new kept' (text ++ made)
  stands_next m =
      let g = none_is m.takes.is_more m.takes.after in
      record {
        has = g;
        printed = λ bytes known.
            goes_further s q b limits new {kept = kept} m.grown kept' made h bytes known (printed bytes known) g
            (m.takes.bytes bytes known) m.prints;
      }

  pub item_done : (start out : Option (List ℕ))
      → (m : MakesParts lines style begun s q read next given old new kept kept' [] made true)
      → IsBetweenItems (session_of q) → taken_of (session_of r) ≤ taken_of (session_of s)
      → Appends start out (text ++ made) → PrintsOn passing_stepping lines r q read next given start out
  item_done start end m between up out =
      let onward = m.takes.onward in
      let g = more_is given m.takes.is_more.1 m.takes.after in (
        text ++ made,
        record {
          item = m.takes.is_more.0;
          after = g;
          onward = omega (arith, onward, up);
          line = λ bytes known.
              ends_item s q b limits new {kept = kept} m.grown kept' made h bytes known (printed bytes known) g between
              (m.takes.bytes bytes known) m.prints;
        },
        out,
      )

  pub cut_step : (start mid out : Option (List ℕ)) (is_whole : Bool)
      → MakesParts lines style begun s q read next given old new kept kept' [] made is_whole
      → (is_whole ≡ true → IsBetweenItems (session_of q)) → Appends start mid text → SentPrefix made mid out
      → StopsPrinting passing_stepping lines r read next given start out fault.Write
  cut_step old_out mid out false m between a cut = λ bytes known start o.
      let p = (stands_next m).printed bytes known in
      lines_cut (front bytes h.gave b.between (known_behind bytes h known).all)
      (begun_text (b.parts bytes given read now h known) b.styled p) start old_out mid out text made
      o a refl cut
  cut_step old_out mid out true m between a cut = λ bytes known start o.
      let g = more_is given m.takes.is_more.1 m.takes.after in
      let line = ends_item s q b limits new {kept = kept} m.grown kept' made h bytes known (printed bytes known) g
      (between refl) (m.takes.bytes bytes known) m.prints in
      lines_cut_whole text made (text ++ made) start old_out mid out (under (ap (λ (L : Bounds). within_trees L)
      limits) (front bytes g.gave (between refl) (known_behind bytes g known).all)) line o a refl cut

module _ {lines : ValueLines} {style : Style} {begun : BegunParts} {r : Reader} (s : Reader)
    (b : Begun lines style begun r) {read now : Option (List ℕ)} (next : Option (List ℕ)) {given : List FilledItem}
    {ahead : PartsAhead} {kept text : List ℕ} (h : HasReadBy passing_stepping r read now given)
    (printed : (bytes : List ℕ) → read ≡ Some bytes → HasPrinted lines style (bounds r) (types_of (session_of r)) begun
    (behind r bytes) ahead kept (behind s bytes) text) where
  pub unflushed : (start mid out : Option (List ℕ)) → Appends start mid text → Keeps mid out
      → StopsPrinting passing_stepping lines r read next given start out fault.Write
  unflushed old_out mid out a k = λ bytes known start o.
      lines_unflushed (front bytes h.gave b.between (known_behind bytes h known).all)
      (begun_text (b.parts bytes given read now h known) b.styled (printed bytes known)) start old_out mid out
      o a k

-- ---- a fault of a step
pub stops_so : {lines : ValueLines} {style : Style} {begun : BegunParts} {r : Reader} (s : Reader)
    (b : Begun lines style begun r) → limits_of (session_of s) ≡ limits_of (session_of r)
    → {read now : Option (List ℕ)} (next : Option (List ℕ)) {given : List FilledItem} {ahead : PartsAhead}
    {kept text : List ℕ} (old out : Option (List ℕ)) (f : ToolFault) → HasReadBy passing_stepping r read now given
    → ((bytes : List ℕ) → read ≡ Some bytes → HasPrinted lines style (bounds r) (types_of (session_of r)) begun
    (behind r bytes) ahead kept (behind s bytes) text) → Appends old out text → StopsSo s read next given f
    → StopsPrinting passing_stepping lines r read next given old out f
stops_so {lines = lines} {r = r} s b limits {read = read} next {given = given} old out f h printed a x =
    subst (λ (f : ToolFault). StopsPrinting passing_stepping lines r read next given old out f) (sym x.is)
    (stops s b limits next old out x.table x.fault h printed a x.stops)

-- ---- an item that has begun
pub has_begun : {lines : ValueLines} {L : Bounds} {T : Table} {offset head size : ℕ} (id : TypeId) (depth : ℕ)
    (piece : List ℕ) (ahead : PartsAhead) → HasBegun L T offset id head size piece → PartsBegin T id head piece ahead
    → lines.each ≡ true → IsChosen (text_of lines.only) T id → IsBare T id → depth + 1 ≡ (within_trees L).depth
    → (behind : List ℕ)
    → HasBegunParts lines (within_trees L) T (record { id = id; depth = depth; parts = ahead }) (piece ++ behind)
has_begun {head = head} id depth piece ahead h p each chosen bare deep behind =
    let inside = p.inside in
    let left = drop ahead.begin piece in
    let tail = 0 ∷ (p.counted ++ left) in
    let before : head ≡ length (h.count ++ h.number) = h.before ∙ sym (length-append h.count h.number) in
    let rest : h.rest ≡ tail =
    sym (dropped head piece (h.count ++ h.number) h.rest before
    (h.whole ∙ sym (append_assoc h.count h.number h.rest))) ∙ p.whole in
    record {
      begins = record {
        announced = h.announced;
        item = h.count;
        number = h.number;
        counted = p.counted;
        announces = h.counts;
        within = h.item;
        names = h.names;
        may = h.may;
        type_is = p.type_is;
        counts = p.counts;
        whole = ap (λ (l : List ℕ). l ++ behind)
            (h.whole ∙ ap (λ (l : List ℕ). h.count ++ (h.number ++ l)) rest)
            ∙ append_assoc h.count (h.number ++ tail) behind
            ∙ ap (λ (l : List ℕ). h.count ++ l) (append_assoc h.number tail behind)
            ∙ ap (λ (l : List ℕ). h.count ++ (h.number ++ (0 ∷ l))) (append_assoc p.counted left behind
            ∙ ap (λ (l : List ℕ). p.counted ++ l) (sym (drop-append-le ahead.begin piece behind inside)));
      };
      inside = omega (arith, inside, length-append piece behind);
      each = each;
      chosen = chosen;
      bare = bare;
      deep = deep;
    }
