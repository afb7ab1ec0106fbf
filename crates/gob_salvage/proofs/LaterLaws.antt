-- Another stream that is found behind a front.
use Rattle.std.proofs.Common.{◌≡◌, ◌⊎◌, inl, inr, ℕ, ◌+◌, ◌<◌, ◌≤◌, List, [], ◌∷◌, ◌++◌, length, take, drop, arith}
use Rattle.std.proofs.Common.{refl, sym, ap, ◌∙◌, subst, append_assoc, length-append, length-drop, Bool, true, Contains}
use Rattle.std.proofs.lemmas.List.{append-nil, take_rest}
use Rattle.gob_types.specs.declared.id.TypeId.{TypeId}
use Rattle.gob_types.specs.Base.{base_table}
use Rattle.gob_types.specs.Defined.{types}
use Rattle.gob_types.specs.Table.{Table, IsDefined}
use Rattle.gob_read.proofs.Grammar.Prefixes.{same_end}
use Rattle.gob_stream.specs.Bounds.{Bounds, within_trees}
use Rattle.gob_stream.proofs.Reader.FeedingSteps.{rest_of}
use Rattle.gob_filled.specs.Stream.{FilledItem, IsFilledItem, AreFilledItems, FilledStream, no_more, and_then}
use Rattle.gob_filled.proofs.Items.{one_filled_item}
use Rattle.gob_go.specs.Calls.Session.{HasRead, IsBetweenItems, limits_of, types_of}
use Rattle.gob_go.specs.Machine.SessionState.{SessionState}
use Rattle.gob_go.proofs.ItemsLaws.{grown_keeps, items_grown}
use Rattle.gob_salvage.specs.Breaks.{BeginsBehind}
use Rattle.gob_salvage.specs.Fronts.{AreDefined, IsWithout, StandsBehind}
use Rattle.gob_salvage.specs.Taking.{HasReadAll, ReadsOne}
use Rattle.gob_salvage.proofs.SalvageLaws.{item_some}
use Rattle.gob_salvage.proofs.TakingSteps.{between_stream, further}

-- ---- what a session has read behind a front
pub reads_front : {s : SessionState} {front : List ℕ} (piece : List ℕ) → HasReadAll s front
    → HasReadAll s (front ++ take 0 piece)
reads_front {s = s} {front = front} piece h = subst (λ (b : List ℕ). HasReadAll s b) (sym (append-nil front)) h

pub reads_behind : {s s' : SessionState} (front piece : List ℕ) (at used : ℕ) → HasReadAll s (front ++ take at piece)
    → ReadsOne s s' (take used (rest_of piece at)) → IsBetweenItems s' → HasReadAll s' (front ++ take (at + used) piece)
reads_behind {s' = s'} front piece at used h f between =
    let m = f h.items (front ++ take at piece) h.has in
    record {
      items = h.items ++ m.item ∷ [];
      has = subst (λ (b : List ℕ). HasRead s' (h.items ++ m.item ∷ []) b) (further front piece at used) m.after;
      between = between;
    }

pub stands_there : {s : SessionState} {L : Bounds} (front piece ids : List ℕ) {at : ℕ}
    → HasReadAll s (front ++ take at piece) → within_trees (limits_of s) ≡ L → at ≤ length piece → 0 < at
    → AreDefined (types_of s) ids → length front + length piece ≤ L.stream → StandsBehind L front piece ids
stands_there {s = s} front piece ids {at = at} h limits within some defined room = record {
  all = h.items;
  behind = types_of s;
  end = at;
  within = within;
  some = some;
  stream = subst (λ (M : Bounds). FilledStream base_table M h.items (front ++ take at piece) (types_of s)) limits
      (between_stream h.has h.between);
  defined = defined;
  room = room;
}

-- ---- items behind a stream
record Behind (L : Bounds) (U : Table) (items others : List FilledItem) (z : List ℕ) (V : Table) : Type 0 where
  more : List FilledItem
  next : ℕ
  items_are : others ≡ items ++ more
  are : AreFilledItems base_table L U next more z V

behind_front : {L : Bounds} {T U V : Table} {kept : ℕ} {front bytes : List ℕ} {items others : List FilledItem}
    (z : List ℕ) → AreFilledItems base_table L T kept items front U → AreFilledItems base_table L T kept others bytes V
    → bytes ≡ front ++ z → Behind L U items others z V
behind_front {L = L} {T = T} {V = V} {kept = kept} {others = others} z no_more a e = record {
  more = others;
  next = kept;
  items_are = refl;
  are = subst (λ (b : List ℕ). AreFilledItems base_table L T kept others b V) e a;
}
behind_front z (and_then {b = b} {c = c} i k is) no_more e =
    let some = item_some i in
    absurd (omega (arith, ap length e, length-append (b ++ c) z, length-append b c))
behind_front {L = L} {kept = kept} z (and_then {U = W} {next = next} {i = i} {items = items} {b = b} {c = c} h k is)
    (and_then {U = X} {V = V} {next = next'} {i = j} {items = others} {b = d} {c = y} g n js) e =
    let grouped : b ++ (c ++ z) ≡ d ++ y = sym (e ∙ append_assoc b c z) in
    let one = one_filled_item (c ++ z) y h g grouped in
    let eb : b ≡ d = one.1 in
    let places : next' ≡ next = n ∙ ap (λ (b : List ℕ). kept + length b) (sym eb) ∙ sym k in
    let r = behind_front z is (subst (λ T. AreFilledItems base_table L T next others y V) (sym one.2)
    (subst (λ n. AreFilledItems base_table L X n others y V) places js))
    (sym (same_end b (c ++ z) y (grouped ∙ ap (λ (b : List ℕ). b ++ y) (sym eb)))) in
    record {
      more = r.more;
      next = r.next;
      items_are = let a : i ≡ j = one.0 in let f = r.items_are in cc;
      are = r.are;
    }

pub begins_behind : {L : Bounds} {T : Table} {ids front piece : List ℕ} → (w : IsWithout L T ids front)
    → StandsBehind L front piece ids → BeginsBehind L T front piece
begins_behind {L = L} {T = T} {ids = ids} {front = front} {piece = piece} w s =
    let b = behind_front (take s.end piece) w.first.stream s.stream refl in
    record {
      first = w.first;
      in_force = w.in_force;
      items = b.more;
      end = s.end;
      some = s.some;
      within = s.within;
      behind = s.behind;
      stream = subst (λ (i : List FilledItem). FilledStream base_table L i (front ++ take s.end piece) s.behind)
          b.items_are s.stream;
      all = λ id is. by_case id b (w.but id is);
      room = s.room;
    }
  where
    by_case : (id : TypeId) → Behind L w.first.types w.first.items s.all (take s.end piece) s.behind
        → IsDefined w.first.types id ⊎ Contains ids id.0 → IsDefined s.behind id
    by_case id b (inl is) = (is.0, (grown_keeps (items_grown b.are)).shape id is.0 is.1)
    by_case id b (inr c) = s.defined id c
