-- How the run goes on, and how it ends.
use Rattle.std.proofs.Common.{◌≡◌, ◌∙◌, ℕ, List, [], ◌∷◌, ◌++◌, Option, Some, None, Result, Ok, Err, sym}
use Rattle.std.proofs.Common.{subst}
use Rattle.std.proofs.lemmas.List.{append-nil}
use Rattle.gob_types.specs.Table.{Table}
use Rattle.gob_stream.specs.Bounds.{Bounds, within_trees}
use Rattle.gob_stream.specs.Calls.ReaderOf.{StopsBy, StopsIn}
use Rattle.gob_stream.specs.Stepping.{GivesAllBy, StandsBy}
use Rattle.gob_stream.specs.declared.fault.Fault.{Fault}
use Rattle.gob_stream.specs.declared.fault.Fault.TheVariants as reading
use Rattle.gob_filled.specs.Outcome.{profile}
use Rattle.gob_filled.specs.Stream.{FilledItem}
use Rattle.gob_go.specs.Calls.Reader.{EndsWith, GoReader, HasReadFrom, session_of}
use Rattle.gob_go.specs.Calls.Session.{limits_of}
use Rattle.gob_go.specs.GoStepping.{go_stepping}
use Rattle.gob_go.specs.Machine.SessionState.{SessionState}
use Rattle.gob_tool.specs.Answering.{BeginsOutcome}
use Rattle.gob_tool.specs.Ending.{EndsRun, ends_so, flush_fails}
use Rattle.gob_tool.specs.Fault.{reading_fault}
use Rattle.gob_tool.specs.declared.fault.ToolFault.{ToolFault}
use Rattle.gob_tool.specs.declared.fault.ToolFault.TheVariants as fault
use Rattle.gob_tool.proofs.TextLaws.{begun, ended_begins, runs_as, shown_stops, shown_whole}
use Rattle.gob_split.proofs.NextLaws.{memory_stops}
use Rattle.gob_split.specs.Machine.Cutting.{HasPut, HasPutSome, IsCutting, PutsText}
use Rattle.gob_split.specs.Machine.Items.{TakesText, text_in}
use Rattle.gob_split.specs.Machine.Splitting.{HasSplit, SplitsSo}
use Rattle.gob_split.specs.Running.{IsWritten, OfParts, SplitAnswers}
use Rattle.gob_split.specs.Split.{all_parts, cut_between, no_parts, StreamPart}
use Rattle.gob_split.specs.Text.{HaveTexts, IsTextOf, no_texts, Text, texts_then}
use Rattle.gob_split.specs.declared.cutter.Cutter.{Cutter}
use Rattle.gob_split.specs.declared.item_text.ItemText.{ItemText}
use Rattle.gob_split.specs.declared.part_size.PartSize.{PartSize}

-- ---- from item to item
pub of_parts : {how : PartSize} {r : GoReader} {c : Cutter} {bytes : List ℕ} {given : List FilledItem}
    {Are : List (List ℕ) → Type 0} → HasSplit how r c bytes given Are
    → OfParts how (within_trees (limits_of (session_of r))) bytes Are given
of_parts h =
    record { texts = h.texts; are = h.are; full = h.full; last = h.last; split = h.cutting.split; holds = h.holds }

pub texts_under : {L M : Bounds} {bytes : List ℕ} {items : List FilledItem} {texts : List Text} → L ≡ M
    → HaveTexts (within_trees L) bytes items texts → HaveTexts (within_trees M) bytes items texts
texts_under {bytes = bytes} {items = items} {texts = texts} same h =
    subst (λ (L : Bounds). HaveTexts (within_trees L) bytes items texts) same h

-- the texts of the items that were taken
pub texts_more : {L : Bounds} {r r' : GoReader} {read now : Option (List ℕ)} {given : List FilledItem} {x : ItemText}
    {texts : List Text} → StandsBy go_stepping (session_of r') → limits_of (session_of r') ≡ L
    → (t : TakesText r r' read now given x) → (bytes : List ℕ) → read ≡ Some bytes
    → HaveTexts (within_trees L) bytes given texts
    → HaveTexts (within_trees (limits_of (session_of r'))) bytes (given ++ t.item ∷ []) (texts ++ text_in x ∷ [])
texts_more {r' = r'} {given = given} {x = x} stands same t bytes known h =
    let b = begun go_stepping stands.gives bytes t.after known in
    let there = stands.settled (given ++ t.item ∷ []) t.after.taken t.after.gave t.between in
    texts_then t.item (text_in x) (texts_under (sym same) h) b.0
    (subst (λ (T : Table). IsTextOf T t.item (text_in x)) (sym (b.1 ∙ there)) t.text)

module _ {how : PartSize} {r r' : GoReader} {c : Cutter} {read now next : Option (List ℕ)}
    {Old Mid : List (List ℕ) → Type 0} (s : SplitsSo how r c read now Old Mid)
    (stands : StandsBy go_stepping (session_of r'))
    (same : limits_of (session_of r') ≡ limits_of (session_of r)) where
  -- nothing was put
  pub split_still : HasReadFrom r' read next s.given → SplitsSo how r' c read next Old Mid
  split_still h = record {
    given = s.given;
    has = h;
    stands = stands;
    out = λ bytes before known old.
        let o = s.out bytes before known old in
        record {
          texts = o.texts;
          are = texts_under (sym same) o.are;
          full = o.full;
          last = o.last;
          cutting = o.cutting;
          holds = o.holds;
        };
  }

  pub split_turn : {q : GoReader} {c' : Cutter} {New : List (List ℕ) → Type 0} {x : ItemText}
      → TakesText q r' read next s.given x
      → ((texts : List Text) (full : List (List ℕ)) (last : Option StreamPart) (before : List (List ℕ))
      → IsCutting how c texts full last → Mid (before ++ all_parts full last)
      → HasPut how c' (texts ++ text_in x ∷ []) (λ made. New (before ++ made)))
      → SplitsSo how r' c' read next Old New
  split_turn {x = x} t put = record {
    given = s.given ++ t.item ∷ [];
    has = t.after;
    stands = stands;
    out = λ bytes before known old.
        let o = s.out bytes before known old in
        let p = put o.texts o.full o.last before o.cutting o.holds in
        record {
          texts = o.texts ++ text_in x ∷ [];
          are = texts_more stands same t bytes known o.are;
          full = p.full;
          last = Some p.part;
          cutting = p.cutting;
          holds = p.out;
        };
  }

  -- a part wasn't written
  pub split_cut : (New : List (List ℕ) → Type 0) {q : GoReader} {x : ItemText} → TakesText q r' read next s.given x
      → (bytes : List ℕ) (before : List (List ℕ)) → read ≡ Some bytes
      → Old before
      → ((texts : List Text) (full : List (List ℕ)) (last : Option StreamPart)
      → IsCutting how c texts full last → Mid (before ++ all_parts full last)
      → HasPutSome how (texts ++ text_in x ∷ []) (λ made. New (before ++ made)))
      → BeginsOutcome profile (within_trees (limits_of (session_of r'))) bytes (λ T items.
      OfParts how (within_trees (limits_of (session_of r'))) bytes (IsWritten (λ made. New (before ++ made))) items)
  split_cut New {x = x} t bytes before known old put =
      let o = s.out bytes before known old in
      let p = put o.texts o.full o.last o.cutting o.holds in
      record {
        items = s.given ++ t.item ∷ [];
        begins = (begun go_stepping stands.gives bytes t.after known).0;
        holds = record {
          texts = o.texts ++ text_in x ∷ [];
          are = texts_more stands same t bytes known o.are;
          full = p.full;
          last = Some p.part;
          split = p.split;
          holds = record { written = p.written; cut = p.cut; holds = p.out };
        };
      }

  -- a text wasn't put
  pub split_unput : (New : List (List ℕ) → Type 0) (c' : Cutter) {q : GoReader} {x : ItemText} (f : ToolFault)
      → TakesText q r' read next s.given x → session_of q ≡ session_of r
      → HasReadFrom q read next s.given → (bytes : List ℕ) (before : List (List ℕ)) → read ≡ Some bytes → Old before
      → ((texts : List Text) (full : List (List ℕ)) (last : Option StreamPart)
      → IsCutting how c texts full last → Mid (before ++ all_parts full last)
      → PutsText how c' texts full last (text_in x) (λ made. New (before ++ made)) (Err f))
      → SplitAnswers how (within_trees (limits_of (session_of r))) bytes next (λ made. New (before ++ made)) (Err f)
  split_unput New c' fault.Memory t at h bytes before known old put =
      let o = s.out bytes before known old in
      let L = within_trees (limits_of (session_of r)) in
      let m = memory_stops (subst (λ z. GivesAllBy go_stepping z) (sym at) s.stands.gives) h in
      shown_stops profile L m.table s.given bytes next
      (λ T items. OfParts how L bytes (λ made. New (before ++ made)) items)
      (λ T items. OfParts how L bytes (IsWritten (λ made. New (before ++ made))) items) reading.Memory
      (subst (λ z. StopsBy go_stepping z m.table read next s.given reading.Memory) at m.stops bytes known)
      (record {
        texts = o.texts;
        are = o.are;
        full = o.full;
        last = o.last;
        split = o.cutting.split;
        holds = put o.texts o.full o.last o.cutting o.holds;
      })
  split_unput New c' fault.Write t at h bytes before known old put =
      subst (λ (L : Bounds). BeginsOutcome profile (within_trees L) bytes
      (λ T items. OfParts how (within_trees L) bytes (IsWritten (λ made. New (before ++ made))) items)) same
      (split_cut New t bytes before known old put)
  split_unput New c' fault.Read t at h bytes before known old put =
      let o = s.out bytes before known old in
      absurd (put o.texts o.full o.last o.cutting o.holds)
  split_unput New c' (fault.Refused R) t at h bytes before known old put =
      let o = s.out bytes before known old in
      absurd (put o.texts o.full o.last o.cutting o.holds)
  split_unput New c' (fault.Wanted R) t at h bytes before known old put =
      let o = s.out bytes before known old in
      absurd (put o.texts o.full o.last o.cutting o.holds)
  split_unput New c' fault.NoWantedType t at h bytes before known old put =
      let o = s.out bytes before known old in
      absurd (put o.texts o.full o.last o.cutting o.holds)
  split_unput New c' (fault.Clash path why) t at h bytes before known old put =
      let o = s.out bytes before known old in
      absurd (put o.texts o.full o.last o.cutting o.holds)
  split_unput New c' (fault.LeftOut path number) t at h bytes before known old put =
      let o = s.out bytes before known old in
      absurd (put o.texts o.full o.last o.cutting o.holds)

-- nothing was given yet
pub split_first : {how : PartSize} {r : GoReader} {c : Cutter} (read : Option (List ℕ))
    (Old : List (List ℕ) → Type 0) → StandsBy go_stepping (session_of r) → HasReadFrom r read read []
    → IsCutting how c [] [] None → SplitsSo how r c read read Old Old
split_first read Old stands has cutting = record {
  given = [];
  has = has;
  stands = stands;
  out = λ bytes before known old. record {
    texts = [];
    are = no_texts;
    full = [];
    last = None;
    cutting = cutting;
    holds = subst Old (sym (append-nil before)) old;
  };
}

pub none_split : (how : PartSize) (L : Bounds) (bytes : List ℕ) (Are : List (List ℕ) → Type 0)
    (before : List (List ℕ)) → Are before → OfParts how L bytes (λ made. Are (before ++ made)) []
none_split how L bytes Are before out = record {
  texts = [];
  are = no_texts;
  full = [];
  last = None;
  split = no_parts;
  holds = subst Are (sym (append-nil before)) out;
}

-- a read stopped it
pub split_stops : {how : PartSize} {r : GoReader} {c : Cutter} {read now : Option (List ℕ)}
    {Old New : List (List ℕ)
    → Type 0} (s : SplitsSo how r c read now Old New) (L : Bounds) (q : SessionState) (T : Table)
    (next : Option (List ℕ)) (e : Fault) → limits_of q ≡ L → limits_of (session_of r) ≡ L
    → StopsBy go_stepping q T read next s.given e → (bytes : List ℕ) (before : List (List ℕ)) → read ≡ Some bytes
    → Old before
    → SplitAnswers how (within_trees L) bytes next (λ made. New (before ++ made)) (Err (reading_fault e))
split_stops {how = how} {New = New} s L q T next e at same stops bytes before known old =
    let o = of_parts (s.out bytes before known old) in
    let M = within_trees L in
    shown_stops profile M T s.given bytes next (λ T items. OfParts how M bytes (λ made. New (before ++ made)) items)
    (λ T items. OfParts how M bytes (IsWritten (λ made. New (before ++ made))) items) e
    (subst (λ (L : Bounds). StopsIn profile (within_trees L) T s.given bytes next e) at (stops bytes known))
    (subst (λ (L : Bounds). OfParts how (within_trees L) bytes (λ made. New (before ++ made)) s.given) same o)

pub split_whole : {how : PartSize} {r : GoReader} {c : Cutter} {read now : Option (List ℕ)}
    {Old New : List (List ℕ) → Type 0} (s : SplitsSo how r c read now Old New) (L : Bounds) {T : Table} {taken : ℕ}
    {next : Option (List ℕ)} → limits_of (session_of r) ≡ L → (bytes : List ℕ)
    → EndsWith (within_trees (limits_of (session_of r))) T taken s.given bytes next
    → (before : List (List ℕ)) → read ≡ Some bytes → Old before
    → SplitAnswers how (within_trees L) bytes next (λ made. New (before ++ made)) (Ok tt)
split_whole {how = how} {r = r} {New = New} s L {next = next} same bytes e before known old =
    subst (λ (L : Bounds). SplitAnswers how (within_trees L) bytes next (λ made. New (before ++ made)) (Ok tt)) same
    (shown_whole profile (λ T items. OfParts how (within_trees (limits_of (session_of r))) bytes
    (λ made. New (before ++ made)) items) e (of_parts (s.out bytes before known old)))

pub reading_unwritten : (e : Fault) → reading_fault e ≡ fault.Write → ⊥
reading_unwritten (reading.Refused R) is = cc
reading_unwritten reading.Read is = cc
reading_unwritten reading.Memory is = cc
reading_unwritten reading.Failed is = cc

-- ---- the end
parts_as : {how : PartSize} {L : Bounds} {bytes : List ℕ} {P Q : List (List ℕ) → Type 0}
    → ((parts : List (List ℕ)) → P parts → Q parts) → (T : Table) (items : List FilledItem)
    → OfParts how L bytes P items → OfParts how L bytes Q items
parts_as f T items o =
    record { texts = o.texts; are = o.are; full = o.full; last = o.last; split = o.split; holds = f _ o.holds }

pub split_ended : (how : PartSize) (L : Bounds) (bytes : List ℕ) (now : Option (List ℕ))
    (Mid New : List (List ℕ) → Type 0) (answer result : Result (Unit {0}) ToolFault)
    → ((parts : List (List ℕ)) → Mid parts → New parts) → EndsRun answer result
    → SplitAnswers how L bytes now Mid answer → SplitAnswers how L bytes now New result
split_ended how L bytes now Mid New answer result same (ends_so e) h =
    subst (λ r. SplitAnswers how L bytes now New r) (sym e)
    (runs_as profile L bytes now (λ T items. OfParts how L bytes Mid items) (λ T items. OfParts how L bytes New items)
    (λ T items. OfParts how L bytes (IsWritten Mid) items) (λ T items. OfParts how L bytes (IsWritten New) items) answer
    h (parts_as same)
    (parts_as (λ parts w. record { written = w.written; cut = w.cut; holds = same w.written w.holds })))
split_ended how L bytes now Mid New answer result same (flush_fails o e) h =
    subst (λ r. SplitAnswers how L bytes now New r) (sym e)
    (ended_begins profile (subst (λ r. SplitAnswers how L bytes now Mid r) o h)
    (parts_as (λ parts m.
    record { written = parts; cut = cut_between [] (sym (append-nil parts)); holds = same parts m })))
