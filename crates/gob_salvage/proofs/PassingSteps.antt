-- What passing values comes to, where some stand next or none.
use Rattle.std.proofs.Common.{◌≡◌, ℕ, ◌+◌, ◌≤◌, List, [], ◌∷◌, ◌++◌, length, take}
use Rattle.std.proofs.Common.{arith, refl, sym, ap, ◌∙◌, subst, append_assoc, length-append}
use Rattle.std.proofs.lemmas.List.{append-nil, length-take-le}
use Rattle.gob_types.specs.Base.{base_table}
use Rattle.gob_types.specs.Table.{Table}
use Rattle.gob_stream.specs.Bounds.{Bounds, within_trees}
use Rattle.gob_filled.specs.Stream.{FilledItem, FilledStream, AreFilledItems, no_more, and_then}
use Rattle.gob_go.specs.Calls.Session.{HasRead, IsBetweenItems, ReadsItems, limits_of, types_of}
use Rattle.gob_go.specs.Machine.SessionState.{SessionState}
use Rattle.gob_stream.proofs.Reader.FeedingSteps.{rest_of}
use Rattle.gob_go.proofs.FinishSteps.{nothing_expects}
use Rattle.gob_go.proofs.SessionSteps.{usable}
use Rattle.gob_go.proofs.ItemsLaws.{one_reading}
use Rattle.gob_go.proofs.WholeSteps.{between_at}
use Rattle.gob_salvage.specs.Taking.{HasReadAll}
use Rattle.gob_salvage.proofs.SalvageLaws.{item_some}
use Rattle.gob_salvage.proofs.TakingSteps.{between_stream, further}

-- ---- values that are passed
items_few : {L : Bounds} {T U : Table} {offset : ℕ} {items : List FilledItem} {b : List ℕ}
    → AreFilledItems base_table L T offset items b U → length items ≤ length b
items_few no_more = omega arith
items_few (and_then {b = b} {c = c} i n is) = let some = item_some i in let l = items_few is in
    omega (arith, length-append b c)

-- the first ones of a list of items, and the others
record Split (L : Bounds) (T : Table) (offset : ℕ) (xs ys : List FilledItem) (b : List ℕ) (V : Table) : Type 0 where
  first : List ℕ
  second : List ℕ
  table : Table
  are : AreFilledItems base_table L T offset xs first table
  others : AreFilledItems base_table L table (offset + length first) ys second V
  whole : b ≡ first ++ second

split_of : {L : Bounds} {T V : Table} {offset : ℕ} {ys : List FilledItem} {b : List ℕ} (xs : List FilledItem)
    → AreFilledItems base_table L T offset (xs ++ ys) b V → Split L T offset xs ys b V
split_of {L = L} {T = T} {V = V} {ys = ys} {b = b} [] h = record {
  first = [];
  second = b;
  table = T;
  are = no_more;
  others = subst (λ n. AreFilledItems base_table L T n ys b V) (omega arith) h;
  whole = refl;
}
split_of {L = L} {V = V} {ys = ys} (x ∷ xs) (and_then {b = b} {c = c} i n is) =
    let r = split_of xs is in
    record {
      first = b ++ r.first;
      second = r.second;
      table = r.table;
      are = and_then i n r.are;
      others = subst (λ n. AreFilledItems base_table L r.table n ys r.second V) (omega (arith, length-append b r.first))
          r.others;
      whole = ap (λ (l : List ℕ). b ++ l) r.whole ∙ sym (append_assoc b r.first r.second);
    }

-- the items that were passed continue what was read
pub passed_items : {s s' : SessionState} {count used : ℕ} {items : List FilledItem} {out piece : List ℕ}
    → (a : HasRead s items out) → IsBetweenItems s → (p : ReadsItems s s' count used piece) → IsBetweenItems s'
    → limits_of s' ≡ limits_of s
    → AreFilledItems base_table (within_trees (limits_of s)) (types_of s) (length out) p.given (take used piece)
    (types_of s')
passed_items {s = s} {s' = s'} {used = used} {items = items} {out = out} {piece = piece} a between p between' limits =
    let L = within_trees (limits_of s) in
    let b = take used piece in
    let old = between_stream a between in
    let new = subst (λ (M : Bounds). FilledStream base_table (within_trees M) (items ++ p.given) (out ++ b)
    (types_of s')) limits (between_stream (p.passed items out a) between') in
    let r = split_of items new in
    let one = one_reading b r.second old r.are r.whole in
    subst (λ (c : List ℕ). AreFilledItems base_table L (types_of s) (length out) p.given c (types_of s')) (sym one.rest)
    (subst (λ (c : List ℕ). AreFilledItems base_table L (types_of s) (length c) p.given r.second (types_of s'))
    (sym one.bytes)
    (subst (λ (T : Table). AreFilledItems base_table L T (length r.first) p.given r.second (types_of s'))
    (sym one.table)
    (subst (λ n. AreFilledItems base_table L r.table n p.given r.second (types_of s')) (omega arith) r.others)))

-- they have bytes
pub passed_some : {s s' : SessionState} {count used : ℕ} {items : List FilledItem} {out piece : List ℕ}
    → (a : HasRead s items out) → IsBetweenItems s → (p : ReadsItems s s' count used piece) → IsBetweenItems s'
    → limits_of s' ≡ limits_of s → count ≤ used
passed_some {used = used} {piece = piece} a between p between' limits =
    let l = items_few (passed_items a between p between' limits) in
    omega (arith, p.counted, length-take-le used piece p.within)

pub reads_some : {s s' : SessionState} {count used : ℕ} {kept piece : List ℕ} → HasReadAll s kept
    → ReadsItems s s' count used piece → IsBetweenItems s' → limits_of s' ≡ limits_of s → count ≤ used
reads_some h p between limits = passed_some h.has h.between p between limits

pub read_passed : {s s' : SessionState} {count : ℕ} (kept : List ℕ) (at used : ℕ) → HasReadAll s (take at kept)
    → ReadsItems s s' count used (rest_of kept at) → IsBetweenItems s' → HasReadAll s' (take (at + used) kept)
read_passed {s' = s'} kept at used h p between = record {
  items = h.items ++ p.given;
  has = subst (λ (b : List ℕ). HasRead s' (h.items ++ p.given) b) (further [] kept at used)
      (p.passed h.items (take at kept) h.has);
  between = between;
}

-- ---- where no value is passed
no_items : (l : List FilledItem) → length l ≡ 0 → l ≡ []
no_items [] e = refl
no_items (x ∷ l) e = absurd (omega arith)

pub none_passed : {s s' : SessionState} {count used : ℕ} {items : List FilledItem} {out : List ℕ} (piece : List ℕ)
    → ReadsItems s s' count used piece → count ≡ 0 → HasRead s items out → HasRead s' items out
none_passed {s' = s'} {used = used} {items = items} {out = out} piece p e a =
    let none : p.given ≡ [] = no_items p.given (sym p.counted ∙ e) in
    subst (λ (i : List FilledItem). HasRead s' i out) (ap (λ (g : List FilledItem). items ++ g) none ∙ append-nil items)
    (subst (λ (b : List ℕ). HasRead s' (items ++ p.given) b)
    (ap (λ n. out ++ take n piece) (p.none e) ∙ append-nil out) (p.passed items out a))

pub between_still : {s s' : SessionState} {items : List FilledItem} {out : List ℕ} → (a : HasRead s items out)
    → IsBetweenItems s → HasRead s' items out → limits_of s' ≡ limits_of s → IsBetweenItems s'
between_still {s = s} {items = items} {out = out} a between b limits =
    let old = between_stream a between in
    let new = subst (λ (M : Bounds). FilledStream base_table (within_trees M) items b.prefix b.table) limits b.stream in
    let none = (one_reading b.under_way [] new old (sym b.whole ∙ sym (append-nil out))).rest in
    let k = nothing_expects b.stage none in
    between_at (usable b) k.is (k.begins_at ∙ omega (
      arith,
      b.taken,
      ap length b.whole,
      length-append b.prefix b.under_way,
      ap length none,
    ))

pub still_read : {s s' : SessionState} {count used : ℕ} {kept : List ℕ} (piece : List ℕ) → HasReadAll s kept
    → ReadsItems s s' count used piece → count ≡ 0 → limits_of s' ≡ limits_of s → HasReadAll s' kept
still_read piece h p e limits =
    let b = none_passed piece p e h.has in
    record { items = h.items; has = b; between = between_still h.has h.between b limits }
