-- Streams that are joined, one by one.
use Rattle.std.proofs.Common.{◌≡◌, ℕ, ◌+◌, ◌-◌, ◌^◌, ◌<◌, ◌≤◌, List, [], ◌∷◌, ◌++◌, length, drop, take, arith, refl}
use Rattle.std.proofs.Common.{sym, ap, ◌∙◌, subst, append_assoc, length-append, length-drop, Option, None, Some, IfSome}
use Rattle.std.proofs.Common.{true}
use Rattle.std.proofs.lemmas.List.{append-nil, drop-drop}
use Rattle.std.proofs.Math.Seq.{take-append_seam}
use Rattle.gob_types.specs.Base.{base_table}
use Rattle.gob_types.specs.Table.{Table}
use Rattle.gob_stream.specs.Bounds.{Bounds, within_trees}
use Rattle.gob_stream.specs.Calls.Ends.{writer_of}
use Rattle.gob_filled.specs.Stream.{FilledItem, FilledStream, and_then, no_more}
use Rattle.gob_go_writer.specs.Calls.Writer.{HasPut, limits_of, types_of}
use Rattle.gob_join.specs.Joining.{JoinsWhole}
use Rattle.gob_salvage.specs.declared.gap.Gap.{Gap}
use Rattle.gob_salvage.specs.declared.keeping.Kept.{Kept}
use Rattle.gob_salvage.specs.declared.later.Later.{Later}
use Rattle.gob_salvage.specs.declared.streams.Joined.{Joined}
use Rattle.gob_salvage.specs.Joined.{AreTold, BeginsWithAll, BreaksInto, HasJoined, IsFurtherOn, Reaches}
use Rattle.gob_salvage.specs.Keeping.{IsKeptOf}
use Rattle.gob_salvage.specs.Salvage.{IsSalvage, IsSalvageBehind, Salvages}
use Rattle.gob_salvage.specs.Breaks.{Breaks, BreaksAt}
use Rattle.gob_salvage.specs.Streams.{AreJoined, AreKeptFrom, IsSalvaged, last, moved, none_joined}
use Rattle.gob_salvage.specs.Streams.{of_one, of_several, one_joined, then_another}
use Rattle.gob_salvage.specs.Laws.{IsAStream, KeepsFront, before_all, in_the_first}
use Rattle.gob_salvage.proofs.SalvageLaws.{item_some, kept_front, kept_stream, kept_whole}

-- what is kept of the streams up to one more, at the place
abbrev ReachesAt : (L : Bounds) (bytes : List ℕ) (place : ℕ) (front : List ℕ) (streams : List (List ℕ)) → List Gap
    → Type 0
ReachesAt L bytes place front streams gaps = (place ≤ length bytes)
    × (length front + length (drop place bytes) ≤ L.stream)
    × ((more : List (List ℕ)) (told : List Gap) → AreKeptFrom L bytes place front more told
    → AreKeptFrom L bytes 0 [] (streams ++ more) (gaps ++ told))

-- where what is kept is that of the streams up to one more, it is so up to the next
reaches_on : {L : Bounds} {bytes out front : List ℕ} {count place : ℕ} (streams : List (List ℕ)) (gaps : List Gap)
    {own told : List Gap} (later next : Option Later) → length bytes < 2 ^ 64
    → ReachesAt L bytes place front streams gaps
    → (k : IsSalvageBehind L front (drop place bytes) count out own)
    → IfSome later (λ l. BreaksAt L k.table l.at l.front.items own (drop place bytes))
    → (later ≡ None → told ≡ own)
    → IfSome later (λ _. (before : List Gap) (g : Gap) → own ≡ before ++ g ∷ [] → told ≡ before)
    → (later ≡ None → next ≡ None) → IfSome later (λ l. place + l.at < 2 ^ 64 → IsFurtherOn place l next)
    → Reaches L bytes next (streams ++ out ∷ []) (gaps ++ moved place told)
reaches_on {L = L} {bytes = bytes} {out = out} {place = place} streams gaps {told = told} None next small on s breaks
    all but_last none some =
    subst (λ (n : Option Later). Reaches L bytes n (streams ++ out ∷ []) (gaps ++ moved place told)) (sym (none refl))
    (subst (λ (g : List Gap). AreKeptFrom L bytes 0 [] (streams ++ out ∷ []) (gaps ++ moved place g)) (sym (all refl))
    (on.2 (out ∷ []) (moved place _) (last s)))
reaches_on {L = L} {bytes = bytes} {out = out} {front = front} {place = place} streams gaps {told = told} (Some l) next
    small on s breaks all but_last none some =
    let within = on.0 in
    let inside = breaks.inside in
    let here : place + l.at ≤ length bytes = omega (arith, length-drop place bytes) in
    let is : told ≡ breaks.before = but_last breaks.before breaks.gap breaks.gaps_are in
    let next_is = some (omega arith) in
    let rest : drop next_is.later.at bytes ≡ drop l.at (drop place bytes) =
    ap (λ n. drop n bytes) (next_is.at ∙ (omega arith)) ∙ sym (drop-drop l.at place bytes) in
    subst (λ (n : Option Later). Reaches L bytes n (streams ++ out ∷ []) (gaps ++ moved place told))
    (sym next_is.is) (
      (let at = next_is.at in omega arith),
      (let room = breaks.anew.room in omega (arith, ap length rest, ap length next_is.front)),
      λ more others a.
          subst (λ (zs : List (List ℕ)). AreKeptFrom L bytes 0 [] zs ((gaps ++ moved place told) ++ others))
          (sym (append_assoc streams (out ∷ []) more))
          (subst (λ (g : List Gap). AreKeptFrom L bytes 0 [] (streams ++ out ∷ more) g)
          (sym (append_assoc gaps (moved place told) others))
          (on.2 (out ∷ more) (moved place told ++ others)
          (subst (λ (g : List Gap). AreKeptFrom L bytes place front (out ∷ more) (moved place g ++ others)) (sym is)
          (then_another s breaks
          (subst (λ (f : List ℕ). AreKeptFrom L bytes (place + l.at) f more others) next_is.front
          (subst (λ n. AreKeptFrom L bytes n next_is.later.front.items more others) next_is.at a)))))),
    )

-- nothing is joined yet
only_base : {L : Bounds} {b : List ℕ} {T : Table} → FilledStream base_table L [] b T → T ≡ base_table
only_base no_more = refl

pub none_yet : {L : Bounds} {j : Joined} (bytes : List ℕ) → HasPut j.writer [] []
    → within_trees (limits_of j.writer) ≡ L
    → (writer_of j.output).items ≡ [] → j.gaps.items ≡ [] → BeginsWithAll j.next → length bytes ≤ L.stream
    → length bytes < 2 ^ 64 → HasJoined L bytes j
none_yet {L = L} {j = j} bytes put limits empty gaps next room small = record {
  streams = [];
  items = [];
  put = subst (λ (o : List ℕ). HasPut j.writer [] o) (sym empty) put;
  limits = limits;
  joined = subst (λ (o : List ℕ). AreJoined L [] [] o (types_of j.writer)) (sym empty)
      (subst (λ (T : Table). AreJoined L [] [] [] T) (sym (only_base put.whole.stream)) none_joined);
  reaches = subst (λ (n : Option Later). Reaches L bytes n [] j.gaps.items) (sym next.is) (
    (let at = next.at in omega arith),
    (let at = next.at in omega (arith, length-drop next.first.at bytes, ap length next.front)),
    λ more told a. subst (λ (g : List Gap). AreKeptFrom L bytes 0 [] more (g ++ told)) (sym gaps)
        (subst (λ (f : List ℕ). AreKeptFrom L bytes 0 f more told) next.front
        (subst (λ n. AreKeptFrom L bytes n next.first.front.items more told) next.at a)),
  );
  small = small;
}

pub first_next : {first : Later} → first.front.items ≡ [] → first.at ≡ 0 → BeginsWithAll (Some first)
first_next {first = first} empty at = record { first = first; is = refl; at = at; front = empty }

-- one stream more is
pub joined_on : {L : Bounds} {j j' : Joined} {k : Kept} {begin : Later} {place : ℕ} {told : List Gap}
    {now : Option (List ℕ)}
    (bytes : List ℕ) → (h : HasJoined L bytes j) → j.next ≡ Some begin → begin.at ≡ place
    → IsKeptOf L begin.front.items (drop place bytes) k
    → JoinsWhole L k.kept.bytes.items now j'.writer h.items (writer_of j.output).items
    (Some (writer_of j.output).items) (Some (writer_of j'.output).items)
    → limits_of j'.writer ≡ limits_of j.writer → AreTold k told → j'.gaps.items ≡ j.gaps.items ++ moved place told
    → (k.later ≡ None → j'.next ≡ None)
    → IfSome k.later (λ l. place + l.at < 2 ^ 64 → IsFurtherOn place l j'.next)
    → HasJoined L bytes j'
joined_on {L = L} {j = j} {j' = j'} {k = k} {begin = begin} {told = told} bytes h at here kept w limits t gaps none
    some =
    let out = (writer_of j.output).items in
    let r = w.joins in
    let sent : (writer_of j'.output).items ≡ out ++ r.more = r.sent in
    let same : within_trees (limits_of j'.writer) ≡ L = ap (λ M. within_trees M) limits ∙ h.limits in
    let stream = subst (λ (M : Bounds). FilledStream base_table M (h.items ++ r.items) (out ++ r.more)
    (types_of j'.writer)) same r.put.whole.stream in
    record {
      streams = h.streams ++ k.kept.bytes.items ∷ [];
      items = h.items ++ r.items;
      put = subst (λ (o : List ℕ). HasPut j'.writer (h.items ++ r.items) o) (sym sent) r.put;
      limits = same;
      joined = subst (λ (o : List ℕ). AreJoined L (h.streams ++ k.kept.bytes.items ∷ []) (h.items ++ r.items) o
          (types_of j'.writer)) (sym sent) (one_joined r.items r.more h.joined w.stream stream r.renaming r.values);
      reaches = subst (λ (g : List Gap). Reaches L bytes j'.next (h.streams ++ k.kept.bytes.items ∷ []) g) (sym gaps)
          (reaches_on h.streams j.gaps.items k.later j'.next h.small
          (subst (λ n. ReachesAt L bytes n begin.front.items h.streams j.gaps.items) here
          (subst (λ (n : Option Later). Reaches L bytes n h.streams j.gaps.items) at h.reaches)) kept.salvage kept.later
          t.all t.but_last none some);
      small = h.small;
    }

-- all are: so many items there are
pub all_joined : {L : Bounds} {j : Joined} {count : ℕ} {out : List ℕ} {gaps : List Gap} (bytes : List ℕ)
    → (h : HasJoined L bytes j) → j.next ≡ None → Breaks L bytes
    → IsSalvage L (writer_of j.output).items count out gaps
    → IsSalvaged L bytes count (writer_of j.output).items j.gaps.items
all_joined {L = L} {j = j} bytes h none breaks s =
    let stream = subst (λ (M : Bounds). FilledStream base_table M h.items (writer_of j.output).items
    (types_of j.writer)) h.limits h.put.whole.stream in
    let all = kept_whole stream s.salvages refl in
    of_several breaks (subst (λ (n : Option Later). Reaches L bytes n h.streams j.gaps.items) none h.reaches) h.joined
    (s.counted ∙ ap (λ (i : List FilledItem). length i) all.0)

-- with nothing in front what is kept is that of the bytes alone
nothing_defined : {L : Bounds} {items : List FilledItem} {b : List ℕ} {T : Table} → FilledStream base_table L items b T
    → b ≡ [] → (items ≡ []) × (T ≡ base_table)
nothing_defined no_more e = (refl, refl)
nothing_defined (and_then {b = b} {c = c} i n is) e =
    absurd (let some = item_some i in omega (arith, ap length e, length-append b c))

pub behind_nothing : {L : Bounds} {bytes out : List ℕ} {count : ℕ} {gaps : List Gap}
    → (k : IsSalvageBehind L [] bytes count out gaps) → IsSalvage L bytes count out gaps
behind_nothing {L = L} {bytes = bytes} {out = out} {gaps = gaps} k =
    let none = nothing_defined k.first.stream refl in
    let s = k.salvages in record {
      items = k.items;
      table = k.table;
      salvages = subst (λ (o : List ℕ). Salvages L base_table [] true 0 0 bytes k.items o gaps k.table) (sym s.out_is)
          (subst (λ (i : List FilledItem). Salvages L base_table [] true 0 0 bytes i s.rest gaps k.table)
          (sym (s.items_are ∙ ap (λ (i : List FilledItem). i ++ s.more) none.0))
          (subst (λ (T : Table). Salvages L T [] true 0 0 bytes s.more s.rest gaps k.table) none.1
          (subst (λ (i : List FilledItem). Salvages L k.first.types i true 0 0 bytes s.more s.rest gaps k.table) none.0
          s.salvages)));
      counted = k.counted;
      repeated = k.repeated;
    }

-- the bytes break there
pub breaks_of : {L : Bounds} {bytes : List ℕ} (k : Kept) → BreaksInto L bytes k → Breaks L bytes
unfolding behind_nothing
breaks_of {L = L} {bytes = bytes} k b = by_case k.later b.some b.kept.later
  where
    by_case : (later : Option Later) → ¬ (later ≡ None)
        → IfSome later (λ l. BreaksAt L b.kept.salvage.table l.at l.front.items k.kept.gaps.items bytes)
        → Breaks L bytes
    by_case None some at = absurd (some refl)
    by_case (Some l) some at = record {
      count = k.kept.items;
      out = k.kept.bytes.items;
      gaps = k.kept.gaps.items;
      salvage = behind_nothing b.kept.salvage;
      begin = l.at;
      front = l.front.items;
      at = at;
    }

-- but for the last gap
pub told_but_last : (gaps told before : List Gap) (g : Gap) (n : ℕ) → n ≡ length gaps → gaps ≡ before ++ g ∷ []
    → told ≡ take (n - 1) gaps → told ≡ before
told_but_last gaps told before g n size are is =
    let one : n - 1 ≡ length before = omega (arith, ap length are, length-append before (g ∷ [])) in
    rw (is, one, are) (take-append_seam before (g ∷ []))

-- ---- laws
joined_stream : {L : Bounds} {streams : List (List ℕ)} {items : List FilledItem} {bytes : List ℕ} {T : Table}
    → AreJoined L streams items bytes T → FilledStream base_table L items bytes T
joined_stream none_joined = no_more
joined_stream (one_joined more b j given stream renaming values) = stream

pub salvaged_stream : {L : Bounds} {bytes out : List ℕ} {count : ℕ} {gaps : List Gap}
    → IsSalvaged L bytes count out gaps → IsAStream L out count
salvaged_stream (of_one s) = record {
  items = s.items;
  table = s.table;
  stream = kept_stream s.salvages;
  counted = s.counted;
}
salvaged_stream (of_several {items = items} {T = T} breaks kept joined counted) = record {
  items = items;
  table = T;
  stream = joined_stream joined;
  counted = counted;
}

pub salvaged_whole : {L : Bounds} {bytes out : List ℕ} {items : List FilledItem} {count : ℕ} {gaps : List Gap}
    {T : Table} → FilledStream base_table L items bytes T → IsSalvaged L bytes count out gaps
    → (count ≡ length items) × (out ≡ bytes) × (gaps ≡ [])
salvaged_whole a (of_one s) =
    let all = kept_whole a s.salvages refl in
    (s.counted ∙ ap (λ (i : List FilledItem). length i) all.0, all.1, all.2)
salvaged_whole a (of_several breaks kept joined counted) =
    let none = (kept_whole a breaks.salvage.salvages refl).2 in
    let at = breaks.at in
    absurd (omega (arith, ap length none, ap length at.gaps_are, length-append at.before (at.gap ∷ [])))

-- what is kept of the front of the first stream
first_front : {L : Bounds} {T U : Table} {front : List ℕ} (z : List ℕ) {out : List ℕ} {items joined : List FilledItem}
    {streams : List (List ℕ)} {gaps : List Gap} → FilledStream base_table L items front T
    → AreKeptFrom L (front ++ z) 0 [] streams gaps → AreJoined L streams joined out U
    → KeepsFront L front (front ++ z) out gaps
first_front {L = L} {U = U} {front = front} z {out = out} {joined = joined} a
    (last {out = first} {gaps = own} s) j =
    let k = kept_front z a (behind_nothing s).salvages refl in
    let whole : first ∷ [] ≡ (front ++ k.rest) ∷ [] = ap (λ (l : List ℕ). l ∷ []) k.bytes_are in
    in_the_first k.rest []
    (subst (λ (zs : List (List ℕ)). AreKeptFrom L (front ++ z) 0 [] zs (moved 0 own)) whole (last s))
    (subst (λ (zs : List (List ℕ)). AreJoined L zs joined out U) whole j)
first_front {L = L} {U = U} {front = front} z {out = out} {joined = joined} a
    (then_another {out = first} {told = told} {streams = more} s b others) j =
    let k = kept_front z a (behind_nothing s).salvages refl in
    let whole : first ∷ more ≡ (front ++ k.rest) ∷ more = ap (λ (l : List ℕ). l ∷ more) k.bytes_are in
    in_the_first k.rest more
    (subst (λ (zs : List (List ℕ)). AreKeptFrom L (front ++ z) 0 [] zs (moved 0 b.before ++ told)) whole
    (then_another s b others))
    (subst (λ (zs : List (List ℕ)). AreJoined L zs joined out U) whole j)

pub salvaged_front : {L : Bounds} {T : Table} {front out : List ℕ} {items : List FilledItem} {count : ℕ}
    {gaps : List Gap} (z : List ℕ) → FilledStream base_table L items front T
    → IsSalvaged L (front ++ z) count out gaps → KeepsFront L front (front ++ z) out gaps
salvaged_front z a (of_one s) = let k = kept_front z a s.salvages refl in before_all k.rest k.bytes_are
salvaged_front z a (of_several breaks kept joined counted) = first_front z a kept joined
