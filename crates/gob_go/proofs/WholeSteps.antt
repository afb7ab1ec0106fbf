-- Items of the format that stand whole at the front of a piece, between two items.
use Rattle.std.proofs.Common.{Bool}
use Rattle.std.proofs.Common.{◌≡◌, ℕ, ◌+◌, ◌-◌, ◌<◌, ◌≤◌, ◌^◌, List, [], ◌∷◌, ◌++◌, length, arith}
use Rattle.std.proofs.Common.{refl, sym, ap, ◌∙◌, subst, append_assoc, length-append}
use Rattle.std.proofs.lemmas.List.{append-nil}
use Rattle.gob_num.specs.Unsigned.{AreBytes}
use Rattle.gob_num.proofs.PublicLaws.{begins_prefix, bytes-append}
use Rattle.gob_types.specs.Base.{base_table}
use Rattle.gob_types.specs.Defined.{types}
use Rattle.gob_types.specs.Table.{Table}
use Rattle.gob_types.specs.declared.id.TypeId.{TypeId}
use Rattle.gob_stream.specs.Bounds.{Bounds, within_trees}
use Rattle.gob_stream.specs.Whole.{HasBegun}
use Rattle.gob_filled.specs.Stream.{FilledItem, AreFilledItems, FilledStream, IsFilledItem}
use Rattle.gob_filled.specs.Stream as filled
use Rattle.gob_go.specs.Calls.Session.{HasItemsNext, ReadsAllSo, ReadsItemsSo}
use Rattle.gob_go.specs.Machine.HasRead.{StageHasRead, in_count, in_type_number, in_definition, in_put, StandsAfter}
use Rattle.gob_go.specs.Machine.HasRead.{IsUsable, has_failed, stands_after, no_end}
use Rattle.gob_go.specs.Machine.SessionState.{SessionState}
use Rattle.gob_go.specs.Machine.Stages.{count_at}
use Rattle.gob_go.specs.declared.count.ItemCount.{ItemCount}
use Rattle.gob_go.specs.declared.stage.Stage.{Stage}
use Rattle.gob_go.specs.declared.stage.Stage.TheVariants as stage
use Rattle.gob_go.proofs.FinishSteps.{count_begins_here, nothing_expects}
use Rattle.gob_go.proofs.FeedSteps.{between_table}
use Rattle.gob_go.proofs.ItemsLaws.{NoNext, item_ends, items_end}
use Rattle.gob_go.proofs.SessionSteps.{usable}
use Rattle.gob_go.proofs.UnderWayLaws.{fewer_no_item}

-- ---- between two items
-- the count that is expected has no byte yet
count_is_new : {keep : Bool} {L : Bounds} {T U : Table} {offset : ℕ} {expects : Stage} {y : List ℕ} {at : ItemCount}
    → StageHasRead keep L T offset U expects y → expects ≡ stage.Count at → y ≡ [] → expects ≡ count_at offset
count_is_new {offset = offset} (in_count {number = number} q g n) e none =
    let make : ℕ → ℕ → List ℕ → Stage =
    λ b e q. stage.Count (record { number = record { rest = record { begin = b; end = e }; number = q } }) in
    ap (λ b. make b number.rest.end number.number) n.begins ∙ ap (λ e. make offset e number.number) n.ends
    ∙ ap (λ q. make offset no_end q) (n.bytes ∙ none)
count_is_new (in_type_number a g k n) e none = absurd (cc)
count_is_new (in_definition a y g k d) e none = absurd (cc)
count_is_new (in_put p) e none = absurd (cc)

pub between_at : {s : SessionState} {at : ItemCount} → IsUsable s → s.stage ≡ stage.Count at
    → at.number.rest.begin ≡ s.taken → s.stage ≡ count_at s.taken
between_at {at = at} (has_failed f) e b = absurd (let n : stage.Failed ≡ stage.Count at = sym f ∙ e in cc)
between_at {s = s} (stands_after a) e b =
    let none = count_begins_here a e b in
    let here : length a.prefix ≡ s.taken =
    omega (arith, a.taken, ap length a.whole, length-append a.prefix a.under_way, ap length none) in
    count_is_new a.stage e none ∙ ap (λ n. count_at n) here

-- where no byte was taken, the types are those of the stream
pub types_between : {keep : Bool} {L : Bounds} {T U : Table} {offset : ℕ} {expects : Stage} {y : List ℕ}
    → StageHasRead keep L T offset U expects y → y ≡ [] → U ≡ T
types_between h none = let k = nothing_expects h none in between_table h (count_is_new h k.is none)

-- ---- items of the profile
pub more_behind : {L : Bounds} {T U V : Table} {offset next : ℕ} {items more : List FilledItem} {b c : List ℕ}
    → AreFilledItems base_table L T offset items b U → next ≡ offset + length b
    → AreFilledItems base_table L U next more c V → AreFilledItems base_table L T offset (items ++ more) (b ++ c) V
more_behind {L = L} {T = T} {V = V} {next = next} {more = more} {c = c} (filled.no_more {offset = offset}) e r =
    let here : next ≡ offset = omega arith in
    subst (λ n. AreFilledItems base_table L T n more c V) here r
more_behind {L = L} {T = T} {V = V} {offset = offset} {more = more} {c = c}
    (filled.and_then {i = j} {items = items} {b = a} {c = b} p e r) f q =
    subst (λ c. AreFilledItems base_table L T offset (j ∷ (items ++ more)) c V) (sym (append_assoc a b c))
    (filled.and_then p e (more_behind r (omega (arith, length-append a b)) q))

-- they end within the limit for the stream
pub filled_within : {L : Bounds} {T U : Table} {offset : ℕ} {items : List FilledItem} {b : List ℕ}
    → AreFilledItems base_table L T offset items b U → length b ≤ L.stream - offset
filled_within filled.no_more = omega arith
filled_within (filled.and_then {b = b} {c = c} p e r) =
    let one = item_ends p in
    let others = filled_within r in
    omega (arith, length-append b c)

-- ---- going past them
pub passed : {keep : Bool} {s s' : SessionState} {z : List ℕ} {now : Stage} → s.stage ≡ count_at s.taken
    → s.limits.stream < 2 ^ 63
    → AreBytes z → now ≡ count_at (s.taken + length z) → s' ≡ record s { taken = s.taken + length z; stage = now }
    → ReadsAllSo keep s s' z
passed {keep = keep} {s = s} {z = z} {now = now} between most o new e items bytes is a there =
    let none : a.under_way ≡ [] = count_begins_here a between refl in
    let table : types s.types ≡ a.table = between_table a.stage between in
    let prefix : bytes ≡ a.prefix = a.whole ∙ ap (λ y. a.prefix ++ y) none ∙ append-nil a.prefix in
    let here : s.taken ≡ length a.prefix = a.taken ∙ ap length prefix in
    let long : length (a.prefix ++ z) ≡ s.taken + length z = omega (arith, length-append a.prefix z) in
    let ends = items_end a.stream (omega arith) in
    let few = filled_within there in
    let behind : StageHasRead keep (within_trees s.limits) (types s.types) (length (a.prefix ++ z)) (types s.types)
    (count_at (length (a.prefix ++ z))) [] = in_count [] refl (record {
      begins = refl;
      ends = refl;
      bytes = refl;
      prefix = begins_prefix {bytes = []} tt;
      room = omega arith;
    }) in
    rw e (record {
      prefix = a.prefix ++ z;
      under_way = [];
      table = types s.types;
      whole = ap (λ y. y ++ z) prefix ∙ sym (append-nil (a.prefix ++ z));
      are_bytes = bytes-append bytes z a.are_bytes o;
      stream = more_behind (subst (λ (T : Table). FilledStream base_table (within_trees s.limits) items a.prefix T)
          (sym table) a.stream) (omega arith) there;
      stage = subst (λ st. StageHasRead keep (within_trees s.limits) (types s.types) (length (a.prefix ++ z))
          (types s.types)
          st []) (sym (new ∙ ap (λ n. count_at n) (sym long))) behind;
      taken = sym (ap (λ y. length (y ++ z)) prefix ∙ long);
      room = a.room;
      kept = a.kept;
    })

-- what stood after some bytes is behind items, so it stands after some
pub usable_behind : {s s' : SessionState} {z : List ℕ} → s.stage ≡ count_at s.taken → HasItemsNext s z
    → ((keep : Bool) → ReadsAllSo keep s s' z) → IsUsable s → IsUsable s'
usable_behind {s = s} between h f (has_failed e) =
    absurd (let n : stage.Failed ≡ count_at s.taken = sym e ∙ between in cc)
usable_behind {s = s} between h f (stands_after {items = items} {bytes = bytes} a) =
    usable (f s.keeps items bytes h.0 a h.1)

-- nothing is passed where nothing is found
pub passes_none : {keep : Bool} {s : SessionState} {piece : List ℕ} → ReadsItemsSo keep s s 0 0 piece
passes_none {keep = keep} {s = s} = record {
  given = [];
  counted = refl;
  within = omega arith;
  none = λ e. refl;
  passed =
      λ items bytes a. subst (λ z. StandsAfter keep s z (bytes ++ []))
      (sym (append-nil items))
      (subst (λ z. StandsAfter keep s items z) (sym (append-nil bytes)) a);
}

-- ---- the first segment of an item that has begun
-- no item is whole there
pub begun_no_next : {L M : Bounds} {T U : Table} {offset begin head size : ℕ} {id : TypeId} {piece : List ℕ}
    → HasBegun L T begin id head size piece → NoNext M U offset piece
begun_no_next h i V b y k e =
    let few = h.short in
    let all = h.all in
    fewer_no_item (h.number ++ h.rest) y h.counts
    (omega (arith, ap length h.whole, length-append h.count (h.number ++ h.rest))) k (sym h.whole ∙ e)
