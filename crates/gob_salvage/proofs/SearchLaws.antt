-- What shows that items go on, one after another.
use Rattle.std.proofs.Common.{◌≡◌, ℕ, Bool, true, false, ◌+◌, ◌-◌, ◌<◌, ◌≤◌, List, [], ◌∷◌, ◌++◌, length, drop, take}
use Rattle.std.proofs.Common.{min}
use Rattle.std.proofs.Common.{Option, None, Some, IfSome, Result, Ok, Err}
use Rattle.std.specs.Prelude.{IfOk}
use Rattle.std.proofs.Common.{arith, refl, sym, ap, ◌∙◌, subst, length-append, length-drop, inl, inr}
use Rattle.std.proofs.lemmas.List.{take_rest}
use Rattle.gob_num.specs.Unsigned.{AreBytes}
use Rattle.gob_num.specs.declared.memory.Memory.{Memory}
use Rattle.gob_types.specs.declared.id.TypeId.{TypeId}
use Rattle.gob_types.specs.Base.{base_table}
use Rattle.gob_types.specs.Table.{Table}
use Rattle.gob_stream.specs.Bounds.{Bounds, within_trees}
use Rattle.gob_filled.specs.Stream.{FilledItem, putting, IsFilledItem, FilledStream}
use Rattle.gob_go.specs.Calls.Session.{HasRead, IsBetweenItems, limits_of, types_of}
use Rattle.gob_go.specs.Machine.SessionState.{SessionState}
use Rattle.gob_go.specs.Whole.{IsFilledWhole}
use Rattle.gob_stream.specs.Whole.{HasBody}
use Rattle.gob_stream.proofs.Reader.FeedingSteps.{rest_of}
use Rattle.gob_salvage.specs.Evidence.{AllDefine, BeginsAnew, GoOn, HasValue, by_values, by_frames, IsEnough, IsFrame}
use Rattle.gob_salvage.specs.Evidence as ends
use Rattle.gob_salvage.specs.Evidence.{ReachesEnd, so_many, up_to_the_end, StandsUpTo, a_value, another}
use Rattle.gob_salvage.specs.Searching.{BeginsStream, HasReadSome, HasSpent, Suffices, ValueStands}
use Rattle.gob_salvage.specs.Searching.{IsNextPlace, at_the_end, by_its_count, by_evidence}
use Rattle.gob_salvage.specs.Taking.{HasReadAll, ReadsOne}
use Rattle.gob_salvage.specs.declared.search.Search.{Search}
use Rattle.gob_salvage.specs.declared.search.Row.{Row}
use Rattle.gob_salvage.specs.declared.search.There.{There}
use Rattle.gob_salvage.specs.declared.search.There.TheVariants as what
use Rattle.gob_salvage.proofs.EvidenceLaws.{frame_moved, one_frame, value_stands}
use Rattle.gob_salvage.proofs.TakingSteps.{between_stream, further, new_between}

pub not_spent : {s : Search} → HasSpent s s
not_spent = record { limits = refl; types = refl }

pub spent_on : {r s t : Search} → HasSpent r s → HasSpent s t → HasSpent r t
spent_on a b = record { limits = b.limits ∙ a.limits; types = b.types ∙ a.types }

-- ---- rows
pub row_value : {L : Bounds} {T : Table} {kept : List FilledItem} {bytes : List ℕ} {values others at end v o : ℕ}
    → StandsUpTo L T kept bytes values others at → ValueStands L T kept (drop at bytes) → IsFrame bytes at end
    → v ≡ values + 1 → o ≡ others → StandsUpTo L T kept bytes v o end
row_value {L = L} {T = T} {kept = kept} {bytes = bytes} {values = values} {others = others} {at = at} {end = end}
    {o = o} s v f p q =
    let same : v.end ≡ end - at = one_frame v.frame (frame_moved f) in
    let order = f.counts.order in let ends = f.ends in
    subst (λ n. StandsUpTo L T kept bytes n o end) (sym p)
    (subst (λ n. StandsUpTo L T kept bytes (values + 1) n end) (sym q)
    (a_value s (omega arith) f.inside v.known
    (subst (λ n. IsFilledItem base_table L T 0 (putting v.id v.value) (take n (drop at bytes)) T) same v.item)))

pub row_other : {L : Bounds} {T : Table} {kept : List FilledItem} {bytes : List ℕ} {values others at end v o : ℕ}
    → StandsUpTo L T kept bytes values others at → IsFrame bytes at end → v ≡ values → o ≡ others + 1
    → StandsUpTo L T kept bytes v o end
row_other {L = L} {T = T} {kept = kept} {bytes = bytes} {values = values} {others = others} {end = end} {o = o} s f p q
    =
    subst (λ n. StandsUpTo L T kept bytes n o end) (sym p)
    (subst (λ n. StandsUpTo L T kept bytes values n end) (sym q) (another s f))

-- ---- enough
pub enough_of : {many few count end : ℕ} {is_last : Bool} {bytes : List ℕ} → Suffices many few count is_last
    → (is_last ≡ true → ReachesEnd bytes end) → IsEnough many few bytes count end
enough_of (inl l) r = so_many l
enough_of (inr h) r = up_to_the_end h.1 (r h.0)

pub anew_of : {L : Bounds} {many count end : ℕ} {is_last : Bool} {piece : List ℕ} → BeginsStream L piece count end
    → Suffices many 2 count is_last → (is_last ≡ true → ReachesEnd piece end) → BeginsAnew L many piece
anew_of {many = many} {end = end} {piece = piece} b s r = record {
  items = b.items;
  end = end;
  table = b.table;
  inside = b.inside;
  stream = b.stream;
  enough = subst (λ n. IsEnough many 2 piece n end) b.counted (enough_of s r);
}

-- ---- items that were read
pub begins_so : {L : Bounds} {s : SessionState} {piece : List ℕ} {count end : ℕ} (h : HasReadAll s (take end piece))
    → count ≡ length h.items → end ≤ length piece → within_trees (limits_of s) ≡ L → BeginsStream L piece count end
begins_so {L = L} {s = s} {piece = piece} {end = end} h counted inside limits = record {
  items = h.items;
  table = types_of s;
  counted = counted;
  inside = inside;
  stream = subst (λ (M : Bounds). FilledStream base_table M h.items (take end piece) (types_of s)) limits
      (between_stream h.has h.between);
}

pub read_none : {s : SessionState} (piece : List ℕ) → HasRead s [] [] → HasReadSome s piece 0 0
read_none piece a = record {
  read = record { items = []; has = a; between = new_between a };
  counted = refl;
  inside = omega arith;
}

pub read_one : {s s' : SessionState} {count end used : ℕ} (piece : List ℕ) → HasReadSome s piece count end
    → ReadsOne s s' (take used (rest_of piece end)) → IsBetweenItems s' → used ≤ length (rest_of piece end)
    → HasReadSome s' piece (count + 1) (end + used)
read_one {s' = s'} {end = end} {used = used} piece h one between few =
    let m = one h.read.items (take end piece) h.read.has in
    let inside = h.inside in
    let counted = h.counted in
    record {
      read = record {
        items = h.read.items ++ m.item ∷ [];
        has = subst (λ (b : List ℕ). HasRead s' (h.read.items ++ m.item ∷ []) b) (further [] piece end used) m.after;
        between = between;
      };
      counted = omega (arith, length-append h.read.items (m.item ∷ []));
      inside = omega (arith, ap length (take_rest piece end), length-drop end piece);
    }

-- ---- longer rows
pub and_stands : {L : Bounds} {T : Table} {kept : List FilledItem} {bytes : List ℕ} {values others at end : ℕ}
    (t : There)
    (r : Option Row) → IfSome r (λ m. m.end ≡ end) → IfSome r (λ m. m.values + m.others ≡ values + others + 1)
    → (t ≡ what.Value → IfSome r (λ m. m.others ≡ others)) → (t ≡ what.Other → IfSome r (λ m. m.values ≡ values))
    → (t ≡ what.Nothing → r ≡ None) → (t ≡ what.Value → ValueStands L T kept (drop at bytes))
    → StandsUpTo L T kept bytes values others at → IsFrame bytes at end
    → IfSome r (λ m. StandsUpTo L T kept bytes m.values m.others m.end)
and_stands t None ends count value other none stands s f = tt
and_stands {bytes = bytes} {at = at} what.Value (Some m) ends count value other none stands s f =
    let same = value refl in
    row_value s (stands refl) (subst (λ n. IsFrame bytes at n) (sym ends) f) (omega arith) same
and_stands {bytes = bytes} {at = at} what.Other (Some m) ends count value other none stands s f =
    let same = other refl in
    row_other s (subst (λ n. IsFrame bytes at n) (sym ends) f) same (omega arith)
and_stands what.Nothing (Some m) ends count value other none stands s f = absurd (let e = none refl in cc)

pub value_so : {L : Bounds} {T : Table} {d used : ℕ} {id : TypeId} {body : List ℕ} (kept : List FilledItem)
    (piece : List ℕ) (r : Result There Memory) → AreBytes piece → d ≡ min L.depth 1000
    → HasBody L T 0 id body used piece → IfOk r (λ t. t ≡ what.Value → HasValue kept id.0)
    → IfOk r (λ t. t ≡ what.Value → IsFilledWhole T id d body)
    → IfOk r (λ t. t ≡ what.Value → ValueStands (within_trees L) T kept piece)
value_so kept piece (Ok t) o e b known whole = λ is. value_stands piece o e b (whole is) (known is)
value_so kept piece (Err m) o e b known whole = tt

pub go_on_so : {L : Bounds} {T : Table} {kept : List FilledItem} {bytes : List ℕ} {values others end : ℕ} {last : Bool}
    (first : Bool) → (first ≡ true → AllDefine kept) → StandsUpTo L T kept bytes values others end
    → (first ≡ true → Suffices 32 2 (values + others) last) → (first ≡ false → others ≤ 16)
    → (first ≡ false → Suffices 3 1 values last) → (last ≡ true → ReachesEnd bytes end) → GoOn L T kept bytes
go_on_so true none s enough few later ends = by_frames (none refl) s (enough_of (enough refl) ends)
go_on_so false none s enough few later ends = by_values s (few refl) (enough_of (later refl) ends)

pub counted_there : {L : Bounds} {T : Table} {kept : List FilledItem} {bytes : List ℕ} {at next : ℕ}
    → IsFrame bytes at next → ReachesEnd bytes next → IsNextPlace L T kept bytes at next
counted_there f (ends.at_the_end e) = at_the_end e
counted_there f (ends.at_a_line_feed e) = by_its_count f e
