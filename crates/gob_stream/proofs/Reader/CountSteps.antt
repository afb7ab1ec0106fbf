-- Taking the bytes of a count and of a type number.
use Rattle.std.proofs.Common.{◌≡◌, ℕ, ◌+◌, ◌<◌, ◌≤◌, List, [], ◌++◌, length, take, drop, None, arith, sym, ap, ◌∙◌}
use Rattle.std.proofs.Common.{subst, append_assoc, length-append}
use Rattle.std.proofs.lemmas.List.{take-append-drop, length-take}
use Rattle.gob_num.specs.Unsigned.{IsUnsigned, IsUnsignedPrefix, IsBadHead, IsNotMinimal}
use Rattle.gob_types.specs.declared.reason.Reason.TheVariants as reason
use Rattle.gob_stream.specs.declared.fault.Refusal.{Refusal}
use Rattle.gob_stream.specs.declared.stage.Extent.{Extent}
use Rattle.gob_stream.specs.Machine.Stages.{count_at, type_number_in}
use Rattle.gob_stream.specs.Bounds.{Bounds}
use Rattle.gob_stream.specs.Refusing.{refuses, RefusesCount, item_too_long, stream_too_long}
use Rattle.gob_stream.specs.Refusing as refusing
use Rattle.gob_stream.specs.Machine.ReadParts.{CountGoesOn, more_of_count, whole_count, IsCountRefused, count_refused}
use Rattle.gob_stream.specs.Machine.ReadParts.{empty_body, CountJudged, above_item, above_stream, no_body}

-- ---- a count that is whole
pub judged_item : {L : Bounds} {begin end count : ℕ} {R : Refusal} → R ≡ refuses begin end reason.ItemTooLong
    → L.item < count → CountJudged L begin end count R
judged_item {L = L} {begin = begin} {end = end} {count = count} e l = subst (λ R. CountJudged L begin end count R)
    (sym e) (above_item l)

pub judged_stream : {L : Bounds} {begin end count : ℕ} {R : Refusal} → R ≡ refuses begin end reason.StreamTooLong
    → count ≤ L.item → L.stream < end + count → CountJudged L begin end count R
judged_stream {L = L} {begin = begin} {end = end} {count = count} e l k = subst (λ R. CountJudged L begin end count R)
    (sym e) (above_stream l k)

pub judged_empty : {L : Bounds} {begin end count : ℕ} {R : Refusal} → R ≡ refuses end end reason.Short → count ≡ 0
    → end ≤ L.stream → CountJudged L begin end count R
judged_empty {L = L} {begin = begin} {end = end} {count = count} e l k = subst (λ R. CountJudged L begin end count R)
    (sym e) (no_body l k)

-- ---- the piece behind what was taken of it
pub cut : (number piece : List ℕ) (used : ℕ) → number ++ piece ≡ (number ++ take used piece) ++ drop used piece
cut number piece used = ap (λ p. number ++ p) (sym (take-append-drop used piece))
    ∙ sym (append_assoc number (take used piece) (drop used piece))

pub cut_length : (number piece : List ℕ) (used : ℕ) → used ≤ length piece → length (number ++ take used piece) ≡ length
    number + used
cut_length number piece used l = omega (arith, length-append number (take used piece), length-take used piece)

at_end : {L : Bounds} {begin end m : ℕ} {c z : List ℕ} {R : Refusal} (r : List ℕ) → z ≡ c ++ r → IsUnsigned m c
    → begin + length c ≡ end → CountJudged L begin end m R → IsCountRefused L begin z R
at_end {L = L} {begin = begin} {z = z} r e u n (above_item l) =
    count_refused (subst (λ s. RefusesCount L begin z (refuses begin s reason.ItemTooLong)) n (item_too_long r e u l))
at_end {L = L} {begin = begin} {z = z} r e u n (above_stream l k) =
    count_refused (subst (λ s. RefusesCount L begin z (refuses begin s reason.StreamTooLong)) n
    (stream_too_long r e u l (omega arith)))
at_end {L = L} {begin = begin} {c = c} {z = z} r e u n (no_body l k) =
    subst (λ s. IsCountRefused L begin z (refuses s s reason.Short)) n (empty_body r e (subst (λ m. IsUnsigned m c) l u)
    (omega arith))

pub count_at_end : {L : Bounds} {begin taken m used : ℕ} {R : Refusal} (number piece : List ℕ) → used ≤ length piece
    → taken ≡ begin + length number → IsUnsigned m (number ++ take used piece)
    → CountJudged L begin (taken + used) m R → IsCountRefused L begin (number ++ piece) R
count_at_end {used = used} number piece l t u j =
    at_end (drop used piece) (cut number piece used) u (let n = cut_length number piece used l in omega arith) j

pub count_whole : {L : Bounds} {begin taken m used : ℕ} {now : List ℕ} {body : Extent} (number piece : List ℕ)
    → used ≤ length piece → taken ≡ begin + length number → IsUnsigned m (number ++ take used piece) → now ≡ []
    → (0 < m) × (m ≤ L.item) × (taken + used + m ≤ L.stream) × (body.begin ≡ taken + used)
    × (body.end ≡ taken + used + m)
    → {X O : Type 0} → CountGoesOn {X = X} {O = O} L begin number piece
    (record { used = used; stage = type_number_in body now; item = None })
count_whole {L = L} {begin = begin} {m = m} {used = used} {body = body} number piece l t u e j {X = X} {O = O} =
    let n = cut_length number piece used l in
    subst (λ now. CountGoesOn {X = X} {O = O} L begin number piece
    (record { used = used; stage = type_number_in body now; item = None })) (sym e)
    (whole_count l (record { count = u; item = j.1; stream = omega arith; begin = omega arith; end = omega arith }) j.0)

pub count_more : {L : Bounds} {begin : ℕ} {now : List ℕ} (number piece : List ℕ) → IsUnsignedPrefix (number ++ piece)
    → now ≡ number ++ piece
    → {X O : Type 0} → CountGoesOn {X = X} {O = O} L begin number piece
    (record { used = length piece; stage = count_at begin now; item = None })
count_more {L = L} {begin = begin} number piece h e {X = X} {O = O} =
    subst (λ now. CountGoesOn {X = X} {O = O} L begin number piece
    (record { used = length piece; stage = count_at begin now; item = None })) (sym e) (more_of_count h)

pub count_bad : {L : Bounds} {begin : ℕ} {z : List ℕ} {R : Refusal} → IsBadHead z
    → R ≡ refuses begin (begin + 1) reason.BadHead → IsCountRefused L begin z R
count_bad {L = L} {begin = begin} {z = z} h e = subst (λ R. IsCountRefused L begin z R) (sym e)
    (count_refused (refusing.RefusesCount.bad_head h))

pub count_padded : {L : Bounds} {begin : ℕ} {z : List ℕ} {R : Refusal} → IsNotMinimal z
    → R ≡ refuses begin (begin + 2) reason.NotMinimal → IsCountRefused L begin z R
count_padded {L = L} {begin = begin} {z = z} h e = subst (λ R. IsCountRefused L begin z R) (sym e)
    (count_refused (refusing.RefusesCount.not_minimal h))
