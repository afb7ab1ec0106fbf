-- Each part is a stream.
use Rattle.std.proofs.Common.{◌≡◌, ◌∙◌, ℕ, ◌+◌, ◌≤◌, List, [], ◌∷◌, ◌++◌, length, arith, refl}
use Rattle.std.proofs.Common.{sym, ap, subst, append_assoc, length-append, Option, Some, None}
use Rattle.std.proofs.lemmas.List.{append-nil}
use Rattle.gob_types.specs.Base.{base_table}
use Rattle.gob_types.specs.Table.{Table}
use Rattle.gob_stream.specs.Bounds.{Bounds, greatest_depth}
use Rattle.gob_filled.specs.Stream.{FilledItem, FilledStream, no_more}
use Rattle.gob_go.proofs.ItemsLaws.{last_of, one_reading}
use Rattle.gob_go.proofs.WholeSteps.{more_behind}
use Rattle.gob_split.proofs.CutterLaws.{definitions_more}
use Rattle.gob_split.specs.Laws.{apart, AreNoLonger, AreStreamsOf, definitions_among, no_streams, size_of}
use Rattle.gob_split.specs.Laws.{streams_then}
use Rattle.gob_split.specs.Split.{all_parts, definitions_of, IsSplit, no_parts, StreamPart, part_then, stays}
use Rattle.gob_split.specs.Split.{Turns, turns}
use Rattle.gob_split.specs.Split.{with_text}
use Rattle.gob_split.specs.Text.{definitions_in, HaveTexts, IsTextOf, no_texts, StandsApart, Text, text_bytes}
use Rattle.gob_split.specs.Text.{texts_then, value_in}
use Rattle.gob_split.specs.declared.part_size.PartSize.{PartSize}

-- ---- lists that end with a text
no_end : (texts : List Text) (t : Text) → texts ++ t ∷ [] ≡ [] → ⊥
no_end [] t e = cc
no_end (u ∷ texts) t e = cc

one_end : (texts others : List Text) (t u : Text) → texts ++ t ∷ [] ≡ others ++ u ∷ []
    → (texts ≡ others) × (t ≡ u)
one_end [] [] t u e = (refl, cc)
one_end [] (v ∷ others) t u e = absurd (no_end others u (sym (rest_of e)))
  where
    rest_of : {a b : Text} {l k : List Text} → a ∷ l ≡ b ∷ k → l ≡ k
    rest_of e = cc
one_end (v ∷ texts) [] t u e = absurd (no_end texts t (rest_of e))
  where
    rest_of : {a b : Text} {l k : List Text} → a ∷ l ≡ b ∷ k → l ≡ k
    rest_of e = cc
one_end (v ∷ texts) (w ∷ others) t u e =
    let one = one_end texts others t u (rest_of e) in (both (first_of e) one.0, one.1)
  where
    rest_of : {a b : Text} {l k : List Text} → a ∷ l ≡ b ∷ k → l ≡ k
    rest_of e = cc

    first_of : {a b : Text} {l k : List Text} → a ∷ l ≡ b ∷ k → a ≡ b
    first_of e = cc

    both : {a b : Text} {l k : List Text} → a ≡ b → l ≡ k → a ∷ l ≡ b ∷ k
    both e f = cc

-- ---- how a split ends
split_none : {how : PartSize} {all : List Text} {full : List (List ℕ)} {last : Option StreamPart}
    → IsSplit how all full last → all ≡ [] → (full ≡ []) × (last ≡ None)
split_none no_parts e = (refl, refl)
split_none (part_then {texts = texts} t s turn) e = absurd (no_end texts t e)

record SplitLast (how : PartSize) (texts : List Text) (t : Text) (full : List (List ℕ)) (last : Option StreamPart)
    : Type 0 where
  full_before : List (List ℕ)
  last_before : Option StreamPart
  part : StreamPart
  split : IsSplit how texts full_before last_before
  turn : Turns how (definitions_of texts) full_before last_before full part
  last_is : last ≡ Some (with_text part t)

split_last : {how : PartSize} {all : List Text} {full : List (List ℕ)} {last : Option StreamPart} (texts : List Text)
    (t : Text) → IsSplit how all full last → all ≡ texts ++ t ∷ [] → SplitLast how texts t full last
split_last texts t no_parts e = absurd (no_end texts t (sym e))
split_last {how = how} texts t (part_then {texts = us} {full = full} {full' = full'} {last = last} {p = p} u s turn) e =
    let one = one_end us texts u t e in
    record {
      full_before = full;
      last_before = last;
      part = p;
      split = subst (λ (l : List Text). IsSplit how l full last) one.0 s;
      turn = subst (λ (l : List Text). Turns how (definitions_of l) full last full' p) one.0 turn;
      last_is = ap (λ (t : Text). Some (with_text p t)) one.1;
    }

-- ---- one text more
longer_front : (most : ℕ) (texts : List Text) (t : Text) → AreNoLonger most (texts ++ t ∷ [])
    → AreNoLonger most texts × (length (text_bytes t) ≤ most)
longer_front most [] t l = (tt, l.0)
longer_front most (u ∷ texts) t l = let rest = longer_front most texts t l.1 in ((l.0, rest.0), rest.1)

size_more : (texts : List Text) (t : Text) → size_of (texts ++ t ∷ []) ≡ size_of texts + length (text_bytes t)
size_more [] t = omega arith
size_more (u ∷ texts) t = omega (arith, size_more texts t)

definitions_few : (texts : List Text) → length (definitions_of texts) ≤ size_of texts
definitions_few [] = omega arith
definitions_few (t ∷ texts) =
    omega (
      arith,
      definitions_few texts,
      length-append t.definitions (definitions_of texts),
      length-append t.definitions t.value,
    )

pub among_more : (items : List FilledItem) (i : FilledItem)
    → definitions_among (items ++ i ∷ []) ≡ definitions_among items ++ definitions_in i
among_more [] i = append-nil (definitions_in i)
among_more (j ∷ items) i =
    ap (λ (l : List FilledItem). definitions_in j ++ l) (among_more items i)
    ∙ sym (append_assoc (definitions_in j) (definitions_among items) (definitions_in i))

apart_more : (items : List FilledItem) (i : FilledItem)
    → apart (items ++ i ∷ []) ≡ apart items ++ (definitions_in i ++ value_in i)
apart_more [] i = append-nil (definitions_in i ++ value_in i)
apart_more (j ∷ items) i =
    ap (λ (l : List FilledItem). (definitions_in j ++ value_in j) ++ l) (apart_more items i)
    ∙ sym (append_assoc (definitions_in j ++ value_in j) (apart items) (definitions_in i ++ value_in i))

-- ---- the parts so far: the last one may get more
data HasGrown (M : Bounds) (size : ℕ) (T : Table) : List FilledItem → List (List ℕ) → Option StreamPart → Type 0 where
  not_begun : HasGrown M size T [] [] None
  begun : {before : List FilledItem} {full : List (List ℕ)} {p : StreamPart} (own : List FilledItem)
      → AreStreamsOf M before full → FilledStream base_table M (definitions_among before ++ apart own) p.bytes T
      → length p.bytes ≤ size → HasGrown M size T (before ++ own) full (Some p)

grown_streams : {M : Bounds} {size : ℕ} {T : Table} {items : List FilledItem} {full : List (List ℕ)}
    {last : Option StreamPart} → HasGrown M size T items full last → AreStreamsOf M items (all_parts full last)
grown_streams not_begun = no_streams
grown_streams (begun own s f l) = streams_then own s f

-- an item that stands apart wherever there is room
abbrev StandsFree : Bounds → Table → Table → FilledItem → Text → Type 0
StandsFree M T U i t = (offset : ℕ) → offset + length (text_bytes t) ≤ M.stream → StandsApart M T U offset i t

module _ {M : Bounds} {T U : Table} {i : FilledItem} {t : Text} (free : StandsFree M T U i t) where
  -- behind a stream
  stream_then : {items : List FilledItem} {b : List ℕ} → FilledStream base_table M items b T
      → length b + length (text_bytes t) ≤ M.stream
      → FilledStream base_table M (items ++ (definitions_in i ++ value_in i)) (b ++ text_bytes t) U
  stream_then {b = b} s room =
      let a = free (length b) room in
      more_behind s (omega arith) (more_behind a.definitions_are refl a.value_is)

  defined_then : {items : List FilledItem} {b : List ℕ} → FilledStream base_table M items b T
      → length b + length (text_bytes t) ≤ M.stream
      → FilledStream base_table M (items ++ definitions_in i) (b ++ t.definitions) U
  defined_then {b = b} s room = more_behind s (omega arith) (free (length b) room).definitions_are

  -- the part gets more
  part_stays : (before own : List FilledItem) (p : StreamPart)
      → FilledStream base_table M (definitions_among before ++ apart own) p.bytes T
      → length p.bytes + length (text_bytes t) ≤ M.stream
      → FilledStream base_table M (definitions_among before ++ apart (own ++ i ∷ [])) (with_text p t).bytes U
  part_stays before own p s room =
      subst (λ (l : List FilledItem). FilledStream base_table M l (with_text p t).bytes U)
      (append_assoc (definitions_among before) (apart own) (definitions_in i ++ value_in i)
      ∙ ap (λ (l : List FilledItem). definitions_among before ++ l) (sym (apart_more own i))) (stream_then s room)

  grown_then : {how : PartSize} {size : ℕ} {items : List FilledItem} {full full' : List (List ℕ)}
      {last : Option StreamPart} {p : StreamPart} (defining : List ℕ) → HasGrown M size T items full last
      → Turns how defining full last full' p → FilledStream base_table M (definitions_among items) defining T
      → length defining ≤ size → size + length (text_bytes t) ≤ M.stream
      → HasGrown M (size + length (text_bytes t)) U (items ++ i ∷ []) full' (Some (with_text p t))
  grown_then {items = items} defining g (turns done) d few room =
      begun (i ∷ []) (grown_streams g)
      (subst (λ (l : List FilledItem). FilledStream base_table M (definitions_among items ++ l)
      (defining ++ text_bytes t) U) (sym (append-nil (definitions_in i ++ value_in i)))
      (stream_then d (omega (arith, few, room))))
      (omega (arith, few, length-append defining (text_bytes t)))
  grown_then {size = size} {full = full} {p = p} defining (begun {before = before} own s f l) (stays has_room) d few
      room =
      subst (λ (items : List FilledItem). HasGrown M (size + length (text_bytes t)) U items full
      (Some (with_text p t))) (sym (append_assoc before own (i ∷ [])))
      (begun (own ++ i ∷ []) s (part_stays before own p f (omega (arith, l, room)))
      (omega (arith, l, length-append p.bytes (text_bytes t))))

-- ---- all of them
record AreGrown (M : Bounds) (items : List FilledItem) (texts : List Text) (full : List (List ℕ))
    (last : Option StreamPart) (T : Table) : Type 0 where
  defined : FilledStream base_table M (definitions_among items) (definitions_of texts) T
  parts : HasGrown M (size_of texts) T items full last

all_grown : {how : PartSize} {L M : Bounds} {bytes front : List ℕ} {items : List FilledItem} {texts : List Text}
    {full : List (List ℕ)} {last : Option StreamPart} {T : Table} (rest : List ℕ) → L.depth ≤ greatest_depth
    → M.depth ≡ L.depth → M.types ≡ L.types → HaveTexts L bytes items texts → AreNoLonger M.item texts
    → size_of texts ≤ M.stream → IsSplit how texts full last → FilledStream base_table L items front T
    → bytes ≡ front ++ rest → AreGrown M items texts full last T
all_grown {M = M} {last = last} rest depth same types no_texts longer size split no_more whole =
    let none = split_none split refl in
    record {
      defined = no_more;
      parts = subst (λ full. HasGrown M 0 base_table [] full last) (sym none.0)
          (subst (λ last. HasGrown M 0 base_table [] [] last) (sym none.1) not_begun);
    }
all_grown {L = L} {M = M} {front = front} {full = full} {last = last} {T = T} rest depth same types
    (texts_then {items = items} {texts = texts} i t h b is) longer size split stream whole =
    let l = last_of items stream in
    let s = split_last texts t split refl in
    let short = longer_front M.item texts t longer in
    let sizes = size_more texts t in
    let table = (one_reading b.rest rest b.stream stream (sym b.whole ∙ whole)).table in
    let text : IsTextOf T i t = subst (λ T. IsTextOf T i t) table is in
    let free : StandsFree M l.table T i t = λ offset room.
    text L l.table (0 + length l.before) l.bytes depth l.item M offset same types short.1 room in
    let before : AreGrown M items texts s.full_before s.last_before l.table =
    all_grown {front = l.before} {full = s.full_before} {last = s.last_before} {T = l.table} (l.bytes ++ rest)
    depth same types h short.0 (omega (arith, size, sizes)) s.split l.items_are
    (whole ∙ ap (λ (f : List ℕ). f ++ rest) l.whole ∙ append_assoc l.before l.bytes rest) in
    let few = definitions_few texts in
    record {
      defined = subst (λ (l : List FilledItem). FilledStream base_table M l (definitions_of (texts ++ t ∷ [])) T)
          (sym (among_more items i))
          (subst (λ (b : List ℕ). FilledStream base_table M (definitions_among items ++ definitions_in i) b T)
          (sym (definitions_more texts t)) (defined_then free before.defined (omega (arith, size, sizes, few))));
      parts = subst (λ n. HasGrown M n T (items ++ i ∷ []) full last) (sym sizes)
          (subst (λ last. HasGrown M (size_of texts + length (text_bytes t)) T (items ++ i ∷ []) full last)
          (sym s.last_is) (grown_then free (definitions_of texts) before.parts s.turn before.defined few
          (omega (arith, size, sizes))));
    }

pub parts_are_streams : {how : PartSize} {L M : Bounds} {bytes : List ℕ} {items : List FilledItem}
    {texts : List Text} {full : List (List ℕ)} {last : Option StreamPart} → L.depth ≤ greatest_depth → M.depth ≡ L.depth
    → M.types ≡ L.types → HaveTexts L bytes items texts → AreNoLonger M.item texts → size_of texts ≤ M.stream
    → IsSplit how texts full last → AreStreamsOf M items (all_parts full last)
parts_are_streams {L = L} {bytes = bytes} depth same types no_texts longer size split =
    grown_streams (all_grown {L = L} bytes depth same types no_texts longer size split no_more refl).parts
parts_are_streams depth same types (texts_then i t h b is) longer size split =
    grown_streams (all_grown b.rest depth same types (texts_then i t h b is) longer size split b.stream b.whole).parts
