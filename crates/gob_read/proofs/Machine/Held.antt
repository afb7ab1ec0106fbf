-- What a reader holds is what is held of the bytes so far: its builder was told of each part that has begun, but for
-- the one whose first number is under way.
use Rattle.std.proofs.Common.{◌≡◌, ℕ, ◌+◌, ◌<◌, ◌≤◌, ◌⊎◌, inl, inr, List, [], ◌∷◌, ◌++◌, length, arith, refl, sym, ap}
use Rattle.std.proofs.Common.{◌∙◌, subst, append_assoc, length-append}
use Rattle.gob_num.specs.Unsigned.{IsUnsigned, BeginsNumber}
use Rattle.gob_num.proofs.PublicLaws.{begins_prefix}
use Rattle.gob_types.specs.declared.id.TypeId.{TypeId}
use Rattle.gob_types.specs.declared.kind.Field.{Field}
use Rattle.gob_types.specs.declared.kind.Kind.{Kind}
use Rattle.gob_types.specs.declared.kind.Kind.TheVariants as kind
use Rattle.gob_types.specs.Table.{Table, IsDefined}
use Rattle.gob_types.specs.Ready.{IsReady}
use Rattle.gob_types.proofs.PublicLaws.{ready_defined}
use Rattle.gob_value.specs.Tree.{Trees, Fields, tree_count}
use Rattle.gob_value.specs.Top.{IsStruct}
use Rattle.gob_read.specs.declared.builder.Stores.{Stores}
use Rattle.gob_read.specs.declared.builder.Stores.TheVariants.{PartsAndRaw, Parts, Nothing}
use Rattle.gob_read.specs.declared.event.GroupKind.TheVariants as group
use Rattle.gob_read.specs.declared.event.RawKind.{RawKind}
use Rattle.gob_read.specs.Event.{Event, raw_start, enter, field}
use Rattle.gob_read.specs.Weight.{parts_told, raw_told, parts_of_all, raw_of_all}
use Rattle.gob_read.specs.Held.{WholeFields, no_whole_field, whole_field, PartsBefore, before_element}
use Rattle.gob_read.specs.Held.{before_array_element, before_key, before_value, before_field, EndsInItself, not_begun}
use Rattle.gob_read.specs.Held.{in_first_number, in_imaginary_part, in_bytes, in_text, in_opaque, in_delta, PartialPart}
use Rattle.gob_read.specs.Held.{in_itself, in_part, PartialBody, in_struct, in_tag, behind_tag, held_of, counted_of}
use Rattle.gob_read.specs.Held.{IsHeld}
use Rattle.gob_read.specs.Machine.Kinds.{HasKind, IsRawKind, is_bytes, is_text, is_opaque, IsList, is_slice, is_array}
use Rattle.gob_read.specs.Machine.OpenPath.{EachTold, FieldsTold, no_field_told, field_told, OpenPath, in_list, at_key}
use Rattle.gob_read.specs.Machine.OpenPath.{at_value, in_field, OpenStruct, open_struct, AtNext, at_tag, at_part}
use Rattle.gob_read.specs.Machine.OpenPath.{at_second, at_delta, at_raw}
use Rattle.gob_read.specs.Machine.OpenPath as within
use Rattle.gob_read.specs.Calls.Reader.{HasReadSoFar, nothing_taken, taken_so_far}
use Rattle.gob_read.specs.Machine.Running.{IsUnderWayAt, begun_parts}
use Rattle.gob_read.specs.declared.frame.Frame.{Frame}
use Rattle.gob_read.specs.declared.next.Next.{Next}
use Rattle.gob_read.specs.declared.next.Next.TheVariants.{Top, Number, Raw}
use Rattle.gob_read.specs.declared.next.NextNumber.TheVariants.{Tag, Part, Second, Delta}
use Rattle.gob_read.specs.declared.run.Run.{Run}
use Rattle.gob_read.proofs.Events.CountLaws.{parts_told-append, raw_told-append, raw_counts, tells_counts, each_counts}
use Rattle.gob_read.proofs.Events.CountLaws.{pairs_counts, fields_counts}
use Rattle.gob_read.proofs.Grammar.HeldLaws.{nothing_yet, body_few, held_most}
use Rattle.gob_read.proofs.Machine.Moves.{each_spells, each_tells, pairs_spell, pairs_tell, fields_tell}
use Rattle.gob_read.proofs.Machine.Places.{no_top, part_defined}
use Rattle.gob_read.proofs.Machine.Runs.{size}

body_as : {T : Table} {t : TypeId} {z y : List ℕ} {m n w v : ℕ} → z ≡ y → m ≡ n → w ≡ v → PartialBody T t z m w
    → PartialBody T t y n v
body_as {T = T} {t = t} {z = z} {y = y} {m = m} {n = n} {w = w} {v = v} e f g d =
    subst (λ z. PartialBody T t z n v) e (subst (λ m. PartialBody T t z m v) f (subst (λ w. PartialBody T t z m w) g d))

whole_of : {T : Table} {types : List Field} {start next : ℕ} {fs : Fields} {b : List ℕ} {us : List Event}
    → FieldsTold T types start next fs b us → WholeFields T types start next fs b
whole_of no_field_told = no_whole_field
whole_of (field_told l g n s t r) = whole_field l g n s (whole_of r)

part_inside : {T : Table} {t u : TypeId} {k : Kind} {q z : List ℕ} {m n w v : ℕ} → HasKind T t k
    → PartsBefore T k q u m w → PartialPart T u z n v → PartialPart T t (q ++ z) (m + n) (w + v)
part_inside {T = T} {u = u} {q = q} {m = m} {w = w} h b d =
    in_part h.there (subst (λ k. PartsBefore T k q u m w) (sym h.kind) b) d

part_itself : {T : Table} {t : TypeId} {k : Kind} {z : List ℕ} {m w : ℕ} → HasKind T t k → EndsInItself T k z m w
    → PartialPart T t z m w
part_itself {T = T} {z = z} {m = m} {w = w} h d = in_itself h.there (subst (λ k. EndsInItself T k z m w) (sym h.kind) d)

list_before : {T : Table} {k : Kind} {n : ℕ} {e : TypeId} {vs : Trees} {c b : List ℕ} {us : List Event} (left : ℕ)
    → IsList k n e → IsUnsigned n c → EachTold T e vs b us → tree_count vs + left + 1 ≡ n
    → PartsBefore T k (c ++ b) e (parts_of_all vs + 1) (raw_of_all vs)
list_before left is_slice n r m = before_element n (each_spells r) (omega arith)
list_before left is_array n r m = before_array_element n (each_spells r) (omega arith)

-- the open parts, and what came of the innermost part in them
within_holds : {T : Table} {t u : TypeId} {fs : List Frame} {p a : List ℕ} {us : List Event} {m w : ℕ}
    → OpenPath T t fs p us u → PartialPart T u a m w → PartialBody T t (p ++ a) (parts_told us + m) (raw_told us + w)
within_holds (within.at_once e i) d = body_as refl (omega arith) (omega arith) (in_struct e i d)
within_holds (within.behind_tag e i) d = body_as refl (omega arith) (omega arith) (behind_tag e i d)
within_holds {a = a} (in_list {p = p} {c = c} {b = b} {us = us} {ws = ws} {left = left} w h l n r m) d =
    let k = each_counts (each_tells r) in
    body_as (sym (append_assoc p (c ++ b) a)) (omega (arith, parts_told-append us (enter group.Many ∷ ws), k.parts))
    (omega (arith, raw_told-append us (enter group.Many ∷ ws), k.raw))
    (within_holds w (part_inside h (list_before left l n r m) d))
within_holds {a = a} (at_key {p = p} {c = c} {b = b} {us = us} {ws = ws} w h n r m) d =
    let k = pairs_counts (pairs_tell r) in
    body_as (sym (append_assoc p (c ++ b) a)) (omega (arith, parts_told-append us (enter group.Pairs ∷ ws), k.parts))
    (omega (arith, raw_told-append us (enter group.Pairs ∷ ws), k.raw))
    (within_holds w (part_inside h (before_key n (pairs_spell r) (omega arith)) d))
within_holds {a = z} (at_value {p = p} {c = c} {b = b} {a = a} {us = us} {ws = ws} {xs = xs} w h n r m s t) d =
    let k = pairs_counts (pairs_tell r) in
    let j = tells_counts t in
    body_as (sym (append_assoc p (c ++ (b ++ a)) z))
    (omega (arith, parts_told-append us (enter group.Pairs ∷ (ws ++ xs)), parts_told-append ws xs, k.parts, j.parts))
    (omega (arith, raw_told-append us (enter group.Pairs ∷ (ws ++ xs)), raw_told-append ws xs, k.raw, j.raw))
    (within_holds w (part_inside h (before_value n (pairs_spell r) (omega arith) s) d))
within_holds {a = z} (in_field {p = p} {a = a} {b = b} {us = us} {ws = ws} {f = f} w h r l m g n) d =
    let k = fields_counts (fields_tell r) in
    body_as (sym (append_assoc p (a ++ b) z))
    (omega (
      arith,
      parts_told-append us (enter group.Fields ∷ (ws ++ field f ∷ [])),
      parts_told-append ws (field f ∷ []),
      k.parts,
    ))
    (omega (
      arith,
      raw_told-append us (enter group.Fields ∷ (ws ++ field f ∷ [])),
      raw_told-append ws (field f ∷ []),
      k.raw,
    ))
    (within_holds w (part_inside h (before_field (whole_of r) l g n) d))

first_holds : {T : Table} {u : TypeId} (t : TypeId) (r : List ℕ) → IsDefined T u → BeginsNumber r
    → PartialPart T u r (begun_parts (Number (Part t)) r) 0
first_holds t [] d f = in_itself d.1 not_begun
first_holds t (b ∷ r) d f = in_itself d.1 (in_first_number (begins_prefix f))

raw_holds : {T : Table} {k : Kind} {x : RawKind} {n : ℕ} {c : List ℕ} (r : List ℕ) → IsRawKind k x → IsUnsigned n c
    → length r < n → EndsInItself T k (c ++ r) 1 (length r)
raw_holds r is_bytes n l = in_bytes r n l
raw_holds r is_text n l = in_text r n l
raw_holds r is_opaque n l = in_opaque r n l

-- where a reader stands, so many parts and raw bytes came
at_holds : {T : Table} {t : TypeId} {fs : List Frame} {p r : List ℕ} {us : List Event} (number : List ℕ) (a : Next)
    → IsReady T t → AtNext T t fs a p r us → IsUnderWayAt a number r
    → PartialBody T t (p ++ r) (parts_told us + begun_parts a r) (raw_told us)
at_holds number (Top u) d a n = absurd (no_top a)
at_holds number (Number (Tag u)) d (at_tag e i) n = body_as refl (omega arith) refl (in_tag e i (begins_prefix n.1))
at_holds {r = r} number (Number (Part u)) d (at_part w) n = body_as refl refl (omega arith)
    (within_holds w (first_holds u r (part_defined d w) n.1))
at_holds {r = r} number (Number (Second q)) d (at_second {p = p} {c = c} w h i) n = body_as (sym (append_assoc p c r))
    refl (omega arith) (within_holds w (part_itself h (in_imaginary_part i (begins_prefix n.1))))
at_holds {r = r} number (Number Delta) d (at_delta (open_struct {p = p} {a = a} {us = us} {ws = ws} w h q) l) n =
    let k = fields_counts (fields_tell q) in
    body_as (sym (append_assoc p a r)) (omega (arith, parts_told-append us (enter group.Fields ∷ ws), k.parts))
    (omega (arith, raw_told-append us (enter group.Fields ∷ ws), k.raw))
    (within_holds w (part_itself h (in_delta l (whole_of q) (begins_prefix n.1))))
at_holds {r = r} number (Raw left) d (at_raw {p = p} {c = c} {us = us} {ws = ws} {raw = raw} w h i m t e l) n =
    let k = raw_counts t in
    body_as (sym (append_assoc p c r)) (omega (arith, parts_told-append us (raw_start raw ∷ ws), k.parts))
    (omega (arith, raw_told-append us (raw_start raw ∷ ws), k.raw))
    (within_holds w (part_itself h (raw_holds r i m (omega arith))))

struct_or_not : (k : Kind) → IsStruct k ⊎ ¬ IsStruct k
struct_or_not (kind.Struct types) = inl tt
struct_or_not (kind.Basic b) = inr (λ x. x)
struct_or_not (kind.Array e n) = inr (λ x. x)
struct_or_not (kind.Slice e) = inr (λ x. x)
struct_or_not (kind.Map k e) = inr (λ x. x)
struct_or_not (kind.Opaque m) = inr (λ x. x)

new_holds : {T : Table} {t : TypeId} → IsReady T t → PartialBody T t [] 0 0
new_holds r =
    let d = ready_defined r in
    elim (struct_or_not d.0.kind) [
      | inl i ↦ in_struct d.1 i (in_itself d.1 not_begun)
      | inr i ↦ in_tag d.1 i nothing_yet
    ]

held_more : (stores : Stores) (m n w : ℕ) → held_of stores (m + n) w ≡ held_of stores m w + counted_of stores n
held_more PartsAndRaw m n w = omega arith
held_more Parts m n w = refl
held_more Nothing m n w = refl

none_counted : (stores : Stores) → counted_of stores 0 ≡ 0
none_counted PartsAndRaw = refl
none_counted Parts = refl
none_counted Nothing = refl

pub held_is : {T : Table} {t : TypeId} {X O : Type 0} {received : X → List Event → Type 0} {run : Run X O} {z : List ℕ}
    {count held : ℕ} (stores : Stores) (said : ℕ)
    → ((us : List Event) → received run.state.builder us → said ≡ held_of stores (parts_told us) (raw_told us))
    → ((r : List ℕ) → run.taken ≡ run.start + length r → count ≡ counted_of stores (begun_parts run.state.expected r))
    → (said + count ≤ run.taken → held ≡ said + count) → HasReadSoFar T t received run z → IsHeld T t stores z held
held_is {count = count} {held = held} stores said s i e (nothing_taken n) =
    let f : said ≡ held_of stores 0 0 = s [] n.told in
    let most = held_most stores 0 0 in
    let a = n.start_is in let l = n.taken_is in
    let c : count ≡ 0 = i [] (omega arith) ∙ ap (λ a. counted_of stores (begun_parts a [])) n.expected
    ∙ none_counted stores in
    let k = e (omega arith) in
    record { parts = 0; raws = 0; partial = new_holds n.ready; held_is = omega arith }
held_is {T = T} {t = t} {run = run} {z = z} {count = count} {held = held} stores said s i e (taken_so_far h) =
    let us = h.placed.us in
    let begun = begun_parts run.state.expected h.under_way in
    let f = s us h.placed.told in
    let came = at_holds run.number run.state.expected h.ready h.placed.at h.number_is in
    let few = body_few came in
    let n = size h.before h.under_way h.whole in
    let j = h.start_is in let l = h.taken_is in
    let c = i h.under_way (omega arith) in
    let most = held_most stores (parts_told us + begun) (raw_told us) in
    let more = held_more stores (parts_told us) begun (raw_told us) in
    let k = e (omega (arith, length-append h.before h.under_way)) in
    record {
      parts = parts_told us + begun;
      raws = raw_told us;
      partial = subst (λ z. PartialBody T t z (parts_told us + begun) (raw_told us)) (sym h.whole) came;
      held_is = omega arith;
    }
