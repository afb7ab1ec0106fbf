-- Items of values that stand whole at the front of a piece.
use Rattle.std.proofs.Common.{◌≡◌, ℕ, pos, ◌+◌, ◌-◌, ◌<◌, ◌≤◌, List, [], ◌∷◌, ◌++◌, length, take, drop, min, arith}
use Rattle.std.proofs.Common.{refl, Option, Some, IfSome}
use Rattle.std.proofs.Common.{sym, ap, ◌∙◌, subst, append_assoc, length-append, length-drop}
use Rattle.std.proofs.Math.Seq.{take-add, take-take}
use Rattle.std.proofs.lemmas.List.{length-take, length-take-le, take-append-drop, append-nil, drop-drop}
use Rattle.gob_num.specs.Unsigned.{IsUnsigned}
use Rattle.gob_num.specs.Place.{IsUnsignedAt}
use Rattle.gob_num.specs.Signed.{IsSigned}
use Rattle.gob_num.proofs.PublicLaws.{begins_prefix}
use Rattle.gob_num.proofs.PublicLaws.{unsigned_prefix}
use Rattle.gob_types.specs.declared.id.TypeId.{TypeId}
use Rattle.gob_types.specs.declared.kind.Kind.{Kind}
use Rattle.gob_types.specs.Table.{Table}
use Rattle.gob_types.specs.Base.{base_table}
use Rattle.gob_types.specs.Defined.{types}
use Rattle.gob_read.specs.Building.{Building}
use Rattle.gob_stream.specs.declared.count.CountStage.{CountStage}
use Rattle.gob_stream.specs.declared.stage.Stage.TheVariants as stage
use Rattle.gob_stream.specs.Machine.Stages.{count_at}
use Rattle.gob_stream.specs.Machine.SessionState.{SessionState}
use Rattle.gob_stream.specs.Bounds.{Bounds, no_deeper}
use Rattle.gob_stream.specs.Item.{StreamItem, puts}
use Rattle.gob_stream.specs.Body.{MayPut, value}
use Rattle.gob_stream.specs.Stream.{IsItem, AreItems, no_more, counted}
use Rattle.gob_stream.specs.Machine.HasRead.{StageHasRead, in_count, HasRead, IsUsable, has_failed}
use Rattle.gob_stream.specs.Machine.HasRead.{stands_after}
use Rattle.gob_value.specs.Whole.{IsWhole, IsWholeBetween}
use Rattle.gob_stream.specs.Whole.{HasBody, HasBegun, HasCount, HasItem, HasItems, NamesTypeAt}
use Rattle.gob_stream.specs.Whole.{IsOpenKind, AllowsIn, IsValueBetween, AreItemsBetween}
use Rattle.gob_stream.specs.Machine.Between.{IsBetween, ReadsItems}
use Rattle.gob_stream.specs.Outcome.{LongestStream}
use Rattle.gob_stream.proofs.Stream.StreamLaws.{NoNext, gives_items, items_behind, no_items_empty, one_item}
use Rattle.gob_stream.proofs.Reader.UnderWayLaws.{count_begins_here, none_expects_count}
use Rattle.gob_stream.specs.Calls.Session.{ReadsAll}

-- what is said of an answer that is there
pub given : {A : Type 0} (P : A → Type 0) {r : Option A} {x : A} → r ≡ Some x → IfSome r P → P x
given P e p = subst (λ r. IfSome r P) e p

-- the number of a type that stands there, from that number
pub type_at : {n : ℕ} {id : TypeId} {piece : List ℕ} {at end : ℕ} → IsUnsignedAt n piece at end
    → ((bytes : List ℕ) → IsUnsigned n bytes → IsSigned (pos id.0) bytes) → NamesTypeAt id piece at end
type_at p named = record { order = p.order; inside = p.inside; names = named _ p.spelled }

pub has_body : (L : Bounds) (T : Table) (offset : ℕ) (id : TypeId) (piece : List ℕ) (head count end : ℕ)
    → HasCount L offset count head piece → count ≤ length piece - head → NamesTypeAt id piece head end
    → end ≤ head + count → MayPut T id
    → HasBody L T offset id (take (head + count - end) (drop end piece)) (head + count) piece
has_body L T offset id piece head count end a enough named within may =
    let inside = a.within in
    let order = named.order in
    let number = take (end - head) (drop head piece) in
    let body = take (head + count - end) (drop end piece) in
    let parts : end - head + (head + count - end) ≡ count = omega arith in
    let behind : drop (end - head) (drop head piece) ≡ drop end piece =
    drop-drop (end - head) head piece ∙ ap (λ i. drop i piece) (omega arith) in
    let both : number ++ body ≡ take count (drop head piece) =
    ap (λ r. number ++ take (head + count - end) r) (sym behind)
    ∙ sym (take-add (end - head) (head + count - end) (drop head piece)) ∙ ap (λ n. take n (drop head piece)) parts in
    let size : length (number ++ body) ≡ count =
    ap length both ∙ length-take-le count (drop head piece) (omega (arith, length-drop head piece)) in
    let first : length (take head piece) ≡ head = length-take-le head piece inside in
    let all : length (take head piece ++ (number ++ body)) ≡ head + count =
    length-append (take head piece) (number ++ body) ∙ omega arith in
    record {
      count = take head piece;
      number = number;
      counts = subst (λ n. IsUnsigned n (take head piece)) (sym size) a.counts;
      item = omega (arith, a.item);
      stream = omega (arith, a.stream);
      names = named.names;
      may = may;
      within = omega arith;
      whole = take-add head count piece ∙ ap (λ y. take head piece ++ y) (sym both);
    }

-- the count that stands at the front
pub has_count : (L : Bounds) (offset count used room : ℕ) (piece : List ℕ) → IsUnsignedAt count piece 0 used
    → count ≤ L.item → room ≡ L.stream - offset → used + count ≤ room → HasCount L offset count used piece
has_count L offset count used room piece p item is_room fits =
    let order = p.order in
    record {
      counts = subst (λ n. IsUnsigned count (take n piece)) (omega arith) p.spelled;
      within = p.inside;
      item = item;
      stream = omega arith;
    }

-- an item has begun where its count and its type number are there and a byte is missing
pub has_begun : (L : Bounds) (T : Table) (offset : ℕ) (id : TypeId) (piece : List ℕ) (used count end : ℕ)
    → HasCount L offset count used piece → length piece - used < count → NamesTypeAt id piece used end → MayPut T id
    → HasBegun L T offset id end (used + count) piece
has_begun L T offset id piece used count end a few named may =
    let inner = a.within in
    let order = named.order in
    let inside = named.inside in
    let first : length (take used piece) ≡ used = length-take-le used piece inner in
    let second : length (take (end - used) (drop used piece)) ≡ end - used =
    length-take-le (end - used) (drop used piece) (omega (arith, length-drop used piece)) in
    record {
      announced = count;
      count = take used piece;
      number = take (end - used) (drop used piece);
      rest = drop (end - used) (drop used piece);
      counts = a.counts;
      names = named.names;
      whole = sym (take-append-drop used piece)
          ∙ ap (λ y. take used piece ++ y) (sym (take-append-drop (end - used) (drop used piece)));
      before = omega arith;
      all = omega arith;
      item = a.item;
      stream = omega (arith, a.stream);
      may = may;
      short = omega arith;
    }

-- a body that is a whole value is that of an item
pub whole_item : {L : Bounds} {T : Table} {offset : ℕ} {id : TypeId} {body : List ℕ} {used : ℕ} {piece : List ℕ}
    {d : ℕ} (most : ℕ) → d ≡ min L.depth most → HasBody L T offset id body used piece → (w : IsWhole T id d body)
    → IsItem base_table (no_deeper most L) T offset (puts id w.value) (take used piece) T
whole_item {L = L} {T = T} {offset = offset} {id = id} most e b w =
    let shallow = w.within in
    subst (λ z. IsItem base_table (no_deeper most L) T offset (puts id w.value) z T) (sym b.whole)
    (counted b.counts b.item b.stream (value b.may (omega arith) b.names w.spelled))

-- ---- between two items
pub between_at : {X O : Type 0} {s : SessionState X O} {at : CountStage} → s.stage ≡ stage.Count at → at.begin ≡ s.taken
    → IsBetween s
between_at {at = at} e b = record { number = at.number; stage = e ∙ ap (λ n. count_at n at.number) b }

-- ---- items that stand whole one behind another
between_add : (piece : List ℕ) (a b c : ℕ) → a ≤ b → b ≤ c
    → take (c - a) (drop a piece) ≡ take (b - a) (drop a piece) ++ take (c - b) (drop b piece)
between_add piece a b c l m =
    let parts : c - a ≡ b - a + (c - b) = omega arith in
    let behind : drop (b - a) (drop a piece) ≡ drop b piece =
    drop-drop (b - a) a piece ∙ ap (λ i. drop i piece) (omega arith) in
    ap (λ n. take n (drop a piece)) parts ∙ take-add (b - a) (c - b) (drop a piece)
    ∙ ap (λ r. take (b - a) (drop a piece) ++ take (c - b) r) behind

between_length : (piece : List ℕ) (a b : ℕ) → a ≤ b → b ≤ length piece → length (take (b - a) (drop a piece)) ≡ b - a
between_length piece a b l m = length-take-le (b - a) (drop a piece) (omega (arith, length-drop a piece))

-- a count, the number of a type and a value of it are an item
pub value_between : {L : Bounds} {T : Table} {offset item count number limit : ℕ} {id : TypeId} {k : Kind}
    {piece : List ℕ}
    {at head begin end : ℕ} → IsUnsignedAt count piece at head → count ≤ item → end ≡ head + count
    → IsUnsignedAt number piece head begin → ((bytes : List ℕ) → IsUnsigned number bytes → IsSigned (pos id.0) bytes)
    → IsOpenKind T id k → IsWholeBetween T k limit piece begin end → AllowsIn L item limit offset piece
    → IsValueBetween L T offset id piece at end
value_between {L = L} {T = T} {offset = offset} {count = count} {id = id} {piece = piece} {at = at} {head = head}
    {begin = begin} {end = end} p few last q named o w a =
    let whole = w.whole id o.shape o.known o.is in
    let number = take (begin - head) (drop head piece) in
    let body = take (end - begin) (drop begin piece) in
    let first = take (head - at) (drop at piece) in
    let shallow = whole.within in
    let up = p.order in
    let on = q.order in
    let order = w.order in
    let inside = w.inside in
    let long : length (number ++ body) ≡ count =
    ap length (sym (between_add piece head begin end (omega arith) order)) ∙ between_length piece head end (omega arith)
    inside ∙ omega arith in
    let all : take (end - at) (drop at piece) ≡ first ++ (number ++ body) =
    between_add piece at head end (omega arith) (omega arith)
    ∙ ap (λ r. first ++ r) (between_add piece head begin end (omega arith) order) in
    let size : length (first ++ (number ++ body)) ≡ end - at =
    ap length (sym all) ∙ between_length piece at end (omega arith) inside in
    let item_fits = a.item_is in
    let deep_enough = a.depth_is in
    let stream_fits = a.stream_is in
    record {
      value = whole.value;
      order = omega arith;
      inside = inside;
      item = subst (λ z. IsItem base_table L T (offset + at) (puts id whole.value) z T) (sym all)
          (counted (subst (λ n. IsUnsigned n first) (sym long) p.spelled) (omega arith) (omega arith)
          (value o.may (omega arith) (named number q.spelled) whole.spelled));
    }

module _ {L : Bounds} {T : Table} {offset : ℕ} {piece : List ℕ} where
  pub no_items : (at : ℕ) → at ≤ length piece → AreItemsBetween L T offset 0 piece at at
  no_items at inside =
      let same : at - at ≡ 0 = omega arith in
      let none : take (at - at) (drop at piece) ≡ [] = ap (λ n. take n (drop at piece)) same in
      record {
        items = [];
        counted = refl;
        order = omega arith;
        inside = inside;
        are = subst (λ z. AreItems base_table L T (offset + at) [] z T) (sym none) no_more;
      }

  pub items_more : {n m at mid end : ℕ} → AreItemsBetween L T offset n piece at mid
      → AreItemsBetween L T offset m piece mid end → AreItemsBetween L T offset (n + m) piece at end
  items_more {at = at} {mid = mid} {end = end} a b =
      let first = a.order in
      let second = b.order in
      let long = between_length piece at mid a.order a.inside in
      record {
        items = a.items ++ b.items;
        counted = omega (arith, a.counted, b.counted, length-append a.items b.items);
        order = omega arith;
        inside = b.inside;
        are = subst (λ z. AreItems base_table L T (offset + at) (a.items ++ b.items) z T)
            (sym (between_add piece at mid end a.order b.order))
            (items_behind a.are (omega (arith, long)) b.are);
      }

  pub item_more : {n at mid end : ℕ} {id : TypeId} → AreItemsBetween L T offset n piece at mid
      → IsValueBetween L T offset id piece mid end → AreItemsBetween L T offset (n + 1) piece at end
  item_more {id = id} a v =
      let order = v.order in
      items_more a (record {
        items = puts id v.value ∷ [];
        counted = refl;
        order = omega arith;
        inside = v.inside;
        are = one_item v.item;
      })

pub items_at_0 : {L : Bounds} {T : Table} {offset count used : ℕ} {piece : List ℕ}
    → (b : AreItemsBetween L T offset count piece 0 used) → AreItems base_table L T offset b.items (take used piece) T
items_at_0 {L = L} {T = T} {offset = offset} {used = used} {piece = piece} b =
    let here : offset + 0 ≡ offset = omega arith in
    let all : used - 0 ≡ used = omega arith in
    subst (λ n. AreItems base_table L T n b.items (take used piece) T) here
    (subst (λ n. AreItems base_table L T (offset + 0) b.items (take n piece) T) all b.are)

-- what a look at the front of a piece finds under the limits that are left
pub found_items : (L : Bounds) {T : Table} (offset most : ℕ) (piece : List ℕ) (near : ℕ)
    {count used limit item : ℕ}
    → ((M : Bounds) (begin : ℕ) → AllowsIn M item limit begin (take near piece)
    → AreItemsBetween M T begin count (take near piece) 0 used)
    → item ≡ L.item → limit ≡ min L.depth most → near ≤ L.stream - offset
    → AreItemsBetween (no_deeper most L) T offset count piece 0 used
found_items L {T = T} offset most piece near {used = used} are items depths room =
    let short = length-take near piece in
    let found = are (no_deeper most L) offset (record {
      item_is = omega (arith, items);
      depth_is = omega (arith, depths);
      stream_is = omega (arith, room, short);
    }) in
    let inside = found.inside in
    let same : take (used - 0) (take near piece) ≡ take (used - 0) piece =
    take-take (used - 0) near piece (omega (arith, inside, short)) in
    record {
      items = found.items;
      counted = found.counted;
      order = found.order;
      inside = omega (arith, inside, short);
      are = subst (λ z. AreItems base_table (no_deeper most L) T (offset + 0) found.items z T) same found.are;
    }

-- ---- going past items
module _ {X O : Type 0} {most : ℕ} {building : Building X O most} where
  pub passed : {s s' : SessionState X O} {at : CountStage} {used : ℕ} → IsBetween s
      → s.stage ≡ stage.Count at
      → s' ≡ record s { taken = s.taken + used; stage = stage.Count (record at { begin = s.taken + used }) }
      → ReadsAll building s s' used
  passed {s =
      s} {s' = s'} {at = at} {used = used} between is e items bytes given z a there size =
      let none : a.under_way ≡ [] = count_begins_here a between.stage refl in
      let same : stage.Count at ≡ count_at s.taken [] = sym is ∙ none_expects_count a none in
      let first : at ≡ record { begin = s.taken; number = [] } = cc in
      let empty : at.number ≡ [] = ap (λ (at : CountStage). at.number) first in
      let prefix : bytes ≡ a.prefix = a.whole ∙ ap (λ y. a.prefix ++ y) none ∙ append-nil a.prefix in
      let here : s.taken ≡ length a.prefix = a.taken ∙ ap length prefix in
      let long : length (a.prefix ++ z) ≡ s.taken + used = omega (arith, length-append a.prefix z) in
      rw e (record {
        prefix = a.prefix ++ z;
        under_way = [];
        whole = ap (λ y. y ++ z) prefix ∙ sym (append-nil (a.prefix ++ z));
        stream = items_behind a.stream (omega arith) there;
        stage =
            subst (λ n. StageHasRead building (no_deeper most s.limits) (types s.types) (length (a.prefix ++ z))
            (count_at (s.taken + used) n) []) (sym empty)
            (subst (λ n. StageHasRead building (no_deeper most s.limits) (types s.types) (length (a.prefix ++ z))
            (count_at n []) []) long (in_count (begins_prefix {bytes = []} tt)));
        taken = sym (ap (λ y. length (y ++ z)) prefix ∙ long);
        room = a.room;
      })

  -- past items that were found to stand at the front of a piece
  pub passes_items : {s s' : SessionState X O} {count used : ℕ} (piece : List ℕ)
      → AreItemsBetween (no_deeper most s.limits) (types s.types) s.taken count piece 0 used
      → ReadsAll building s s' used → ReadsItems building s s' count used piece
  passes_items {used = used} piece b f =
      let size = length-take-le used piece b.inside in
      record {
        given = b.items;
        counted = b.counted;
        within = b.inside;
        none = λ e. omega (arith, no_items_empty (items_at_0 b) (sym b.counted ∙ e), size);
        passed = λ items bytes a. f items bytes b.items (take used piece) a (items_at_0 b) size;
      }

  -- and nothing is passed where nothing is found
  pub passes_none : {s : SessionState X O} {piece : List ℕ} → ReadsItems building s s 0 0 piece
  passes_none {s = s} = record {
    given = [];
    counted = refl;
    within = omega arith;
    none = λ e. refl;
    passed =
        λ items bytes a. subst (λ z. HasRead building s z (bytes ++ []))
        (sym (append-nil items))
        (subst (λ z. HasRead building s items z) (sym (append-nil bytes)) a);
  }

  -- what stood after some bytes is behind items, so it stands after some
  pub usable_behind : {s s' : SessionState X O} {used : ℕ} → IsBetween s
      → HasItems (no_deeper most s.limits) (types s.types) s.taken used → ReadsAll building s s' used
      → IsUsable building s → IsUsable building s'
  usable_behind {s =
      s} b h f (has_failed e) = let n : stage.Failed ≡ count_at s.taken b.number = sym e ∙ b.stage in cc
  usable_behind b h f (stands_after {items =
      items} {bytes = bytes} a) = stands_after (f items bytes h.items h.bytes a h.are h.size)

-- an item alone
pub only_item : {L : Bounds} {T : Table} {offset used : ℕ} → HasItem L T offset used → HasItems L T offset used
only_item h = record { items = h.item ∷ []; bytes = h.bytes; are = one_item h.counted; size = h.size }

-- those at the front of a piece
pub prefix_items : {L : Bounds} {T : Table} {offset count used : ℕ} {piece : List ℕ}
    → AreItemsBetween L T offset count piece 0 used → HasItems L T offset used
prefix_items {used = used} {piece = piece} b =
    record { items = b.items; bytes = take used piece; are = items_at_0 b; size = length-take-le used piece b.inside }

-- ---- an item that has begun
-- it isn't whole there
begun_no_next : {L M : Bounds} {T U : Table} {offset begin head size : ℕ} {id : TypeId} {piece : List ℕ}
    → HasBegun L T begin id head size piece → NoNext base_table M U offset piece
begun_no_next h i V b y (counted {c = c} {d = d} counts item stream body) e =
    let same = unsigned_prefix (h.number ++ h.rest) (d ++ y) h.counts counts (sym h.whole ∙ e ∙ append_assoc c d y) in
    let value = same.value in
    let few = h.short in
    let all = h.all in
    omega (arith, ap length h.whole, length-append h.count (h.number ++ h.rest), ap length same.rest, length-append d y)

-- so bytes that end with it give the items before it
pub begun_gives : {X O : Type 0} {most head size : ℕ} {building : Building X O most} {s : SessionState X O}
    {id : TypeId} {items : List StreamItem} {bytes piece : List ℕ}
    → HasRead building s items bytes → IsBetween s
    → HasBegun s.limits (types s.types) s.taken id head size piece
    → LongestStream base_table (no_deeper most s.limits) (bytes ++ piece) items
begun_gives {most = most} {s = s} {items = items} {piece = piece} a between h =
    let none : a.under_way ≡ [] = count_begins_here a between.stage refl in
    let prefix = a.whole ∙ ap (λ y. a.prefix ++ y) none ∙ append-nil a.prefix in
    subst (λ b. LongestStream base_table (no_deeper most s.limits) (b ++ piece) items) (sym prefix)
    (gives_items piece a.stream (begun_no_next h))
