-- Where a reader stands in the item of a value no step leads on over the bytes that are there, and they are no refusal.
use Rattle.std.proofs.Common.{◌≡◌, ℕ, pos, negsuc, ◌+◌, ◌-◌, ◌<◌, ◌≤◌, List, [], ◌∷◌, ◌++◌, length, arith, refl}
use Rattle.std.proofs.Common.{sym, ap, ◌∙◌, subst, append_assoc, length-append, length-take}
use Rattle.std.proofs.lemmas.List.{take_all}
use Rattle.gob_num.specs.Unsigned.{IsUnsigned, IsUnsignedPrefix}
use Rattle.gob_num.specs.Signed.{IsSigned}
use Rattle.gob_num.proofs.PublicLaws.{unsigned_prefix, signed_prefix, signed_unsigned, prefix_not_bad_head}
use Rattle.gob_num.proofs.PublicLaws.{prefix_not_padded}
use Rattle.gob_types.specs.declared.id.TypeId.{TypeId}
use Rattle.gob_types.specs.declared.reason.Reason.TheVariants as reason
use Rattle.gob_types.specs.Table.{Table}
use Rattle.gob_types.specs.Base.{base_table, wire_type}
use Rattle.gob_value.specs.Tree.{Tree}
use Rattle.gob_read.specs.Expected.{a_number, nil, within_number}
use Rattle.gob_read.specs.Expects.{ExpectsTop}
use Rattle.gob_read.specs.Viable.{IsShallow, IsViable}
use Rattle.gob_read.specs.Refusal as body
use Rattle.gob_read.specs.Refusal.{Refused}
use Rattle.gob_read.proofs.PublicLaws.{nothing_yet, seen_within, prefix_not_number, not_allowed_first, given_once}
use Rattle.gob_read.proofs.PublicLaws.{append_nil}
use Rattle.gob_read.proofs.Grammar.Compare.{unmet_once}
use Rattle.gob_read.proofs.Grammar.Firsts.{not_allowed_not_met}
use Rattle.gob_stream.specs.declared.fault.Refusal.{Refusal}
use Rattle.gob_stream.specs.Bounds.{Bounds}
use Rattle.gob_stream.specs.Body.{MayDefine, MayPut}
use Rattle.gob_stream.specs.Refusing as counts
use Rattle.gob_stream.specs.Refusing.{RefusesCount, item_too_long, stream_too_long, RefusesBody, refused_id}
use Rattle.gob_stream.specs.Refusing.{refused_type, refused_value, refused_description, described_wrongly}
use Rattle.gob_stream.proofs.PublicLaws.{same_id}
use Rattle.gob_stream.proofs.Stream.RefusalLaws.{id_met}
use Rattle.gob_stream.proofs.Stream.RefusingLaws.{is_whole, whole, one_start, RefusesDefinition, by_id, by_first}
use Rattle.gob_stream.proofs.Stream.RefusingLaws.{by_description, RefusesFrom, from_definition, from_value, started}
use Rattle.gob_filled.specs.Definition.{Defines, defines}
use Rattle.gob_filled.specs.Standing.{Level, in_value, in_filling, of_item, within}
use Rattle.gob_filled.specs.Outcome as outcome
use Rattle.gob_filled.specs.Outcome.{RefusesInner, too_long, RefusesNextCount, RefusesAt, in_skeleton, short_name}
use Rattle.gob_filled.specs.Outcome.{as_in_an_item, inner_count, next_count}
use Rattle.gob_filled.proofs.Prefix.{unmet, further, same_definition, not_defined}
use Rattle.gob_filled.proofs.Final as final
use Rattle.gob_filled.proofs.OneWay.{State, state, Step, by_name, by_definition, by_type, by_end}
use Rattle.gob_go.specs.Machine.HasRead.{end_around}

-- ---- numbers that have begun
pub count_begun : {L : Bounds} {at : ℕ} {q : List ℕ} {R : Refusal} → IsUnsignedPrefix q → RefusesCount L at q R → ⊥
count_begun f (counts.RefusesCount.bad_head h) = prefix_not_bad_head f h
count_begun f (counts.RefusesCount.not_minimal h) = prefix_not_padded f h
count_begun f (item_too_long r e u l) = prefix_not_number r f u e
count_begun f (stream_too_long r e u l k) = prefix_not_number r f u e

inner_begun : {at end : ℕ} {q : List ℕ} {R : Refusal} → IsUnsignedPrefix q → at + length q < end
    → RefusesInner at end q R → ⊥
inner_begun f l (outcome.RefusesInner.bad_head h) = prefix_not_bad_head f h
inner_begun f l (outcome.RefusesInner.not_minimal h) = prefix_not_padded f h
inner_begun f l (outcome.RefusesInner.short e h) = omega arith
inner_begun f l (too_long r e u k) = prefix_not_number r f u e

next_begun : (L : Bounds) (left at : ℕ) {q : List ℕ} (R : Refusal) (levels : List Level) → IsUnsignedPrefix q
    → at + length q < end_around levels → RefusesNextCount L left at levels q R → ⊥
next_begun L left at R [] f l h = count_begun f h
next_begun L left at {q = q} R (around ∷ levels) f l h =
    inner_begun f l (subst (λ q. RefusesInner at around.end q R) (take_all (around.end - at) q (omega arith)) h)

pub number_begun : {base : Table} {L : Bounds} {T : Table} {offset m : ℕ} {y : List ℕ} {R : Refusal}
    → IsUnsignedPrefix y → length y < m → RefusesBody base L T offset m y R → ⊥
number_begun f l (counts.RefusesBody.bad_head h) = prefix_not_bad_head f h
number_begun f l (counts.RefusesBody.not_minimal h) = prefix_not_padded f h
number_begun f l (counts.RefusesBody.short n h) = omega arith
number_begun f l (refused_id z e n s q) = prefix_not_number z f (signed_unsigned s).1 e
number_begun f l (refused_type z e s q) = prefix_not_number z f (signed_unsigned s).1 e
number_begun f l (refused_value z e s p q) = prefix_not_number z f (signed_unsigned s).1 e
number_begun f l (refused_description z e n s p q) = prefix_not_number z f (signed_unsigned s).1 e
number_begun f l (described_wrongly {z = z} e k n s p q d v) = prefix_not_number z f (signed_unsigned s).1 e

-- ---- values and descriptions that have begun
not_viable : {T : Table} {t : TypeId} {limit announced : ℕ} {z : List ℕ} {S : body.Refusal}
    → IsViable T t limit announced z → Refused T t limit announced z S → ⊥
not_viable {T = T} {t = t} {limit = limit} {announced = announced} {z = z} {S = S} i h =
    let n = nothing_yet [] i (subst (λ z. Refused T t limit announced z S) (sym (append_nil z)) h) in
    let s = seen_within h in omega arith

definition_begun : {base : Table} {L : Bounds} {T : Table} {offset m : ℕ} {id : TypeId} {a z : List ℕ} {R : Refusal}
    → RefusesDefinition base L T offset m id a z R → MayDefine base L T id
    → IsViable T wire_type L.depth (m - length a) z → ⊥
definition_begun (by_id p) q i = id_met p q
definition_begun (by_first p f) q i = not_viable i f.refused
definition_begun (by_description n p s d k) q i = let room = i.room in omega arith

from_definition_begun : {base : Table} {L : Bounds} {T : Table} {offset m n : ℕ} {t : TypeId} {a z : List ℕ}
    {R : Refusal} → RefusesFrom base L T offset m (whole (negsuc n) a z) R → t.0 ≡ n + 1
    → MayDefine base L T t → IsViable T wire_type L.depth (m - length a) z → ⊥
from_definition_begun {base = base} {L = L} {T = T} {offset = offset} {m = m} {t = t} {a = a} {z = z} {R = R}
    (from_definition {id = u} e p) f q i =
    definition_begun (subst (λ t. RefusesDefinition base L T offset m t a z R)
    (same_id (let l : u.0 ≡ t.0 = omega arith in l)) p) q i
from_definition_begun (from_value e p) f q i = cc

pub description_begun : {base : Table} {L : Bounds} {T : Table} {offset m n : ℕ} {id : TypeId} {a z : List ℕ}
    {R : Refusal} → id.0 ≡ n + 1 → IsSigned (negsuc n) a → MayDefine base L T id
    → IsViable T wire_type L.depth (m - length a) z → RefusesBody base L T offset m (a ++ z) R → ⊥
description_begun {base = base} {L = L} {T = T} {offset = offset} {m = m} {R = R} n s q i p =
    let h = started p in from_definition_begun (subst (λ r. RefusesFrom base L T offset m r R)
    (one_start h.starts (is_whole refl s)) h.refuses) n q i

-- ---- lists
apart : (c a s x : List ℕ) → (c ++ (a ++ s)) ++ x ≡ c ++ (a ++ (s ++ x))
apart c a s x = simp append_assoc

behind_number : (n y c x : List ℕ) → ((n ++ y) ++ c) ++ x ≡ n ++ ((y ++ c) ++ x)
behind_number n y c x = simp append_assoc

pub pos_negsuc : {m n : ℕ} {A : Type 0} → pos m ≡ negsuc n → A
pos_negsuc e = cc

-- ---- within a skeleton
pub skeleton_step : {L : Bounds} {offset left announced : ℕ} {z c p : List ℕ} {U : Table} {lv : Level}
    {around : List Level} {S : State} (x : List ℕ) → IsViable lv.table lv.type lv.limit announced (lv.done ++ c)
    → offset + length (z ++ c) < lv.end → Step base_table L offset (state z U (lv ∷ around) in_value left) p S
    → p ++ x ≡ c → ⊥
skeleton_step {c = c} {lv = lv} x i room (by_name {a = a} c' s ex dl sh some u fit) e =
    not_viable i (not_allowed_first (s ++ x) ex dl sh (ap (λ (l : List ℕ). lv.done ++ l) (sym e ∙ apart c' a s x)
    ∙ sym (further lv.done c' (a ++ (s ++ x)))) u (λ e. omega arith)).refused
skeleton_step {z = z} {c = c} x i room (by_end b sp de ends) e =
    omega (arith, ap length e, length-append b x, length-append z b, length-append z c)

pub skeleton_refusal : {L : Bounds} {at left : ℕ} {c : List ℕ} {U : Table} {lv : Level} {around : List Level}
    {R : Refusal} → IsViable lv.table lv.type lv.limit (length lv.done + (lv.end - at)) (lv.done ++ c)
    → RefusesAt base_table L at U c (lv ∷ around) in_value left R → ⊥
skeleton_refusal {at = at} {c = c} {lv = lv} i (in_skeleton {S = S} h k pl se re) =
    let room = i.room in
    let few : length c < lv.end - at = omega (arith, length-append lv.done c) in
    not_viable i (subst (λ c. Refused lv.table lv.type lv.limit (length lv.done + (lv.end - at)) (lv.done ++ c) S)
    (take_all (lv.end - at) c (omega arith)) h.refused)
skeleton_refusal {at = at} {c = c} {lv = lv} i (short_name c' r ex dl sh eq u full few) =
    let room = i.room in omega (arith, length-take (lv.end - at) c, length-append lv.done c)

-- ---- within the number of an interface
pub nil_viable : (at : ℕ) {d : ℕ} (c : List ℕ) {a : List ℕ} (lv : Level) → ExpectsTop lv.table lv.type (lv.done ++ c)
    (a_number nil) d
    → d ≤ lv.limit → IsShallow lv.table lv.type lv.limit (lv.done ++ c) → IsUnsignedPrefix a
    → at + length (c ++ a) < lv.end
    → IsViable lv.table lv.type lv.limit (length lv.done + (lv.end - at)) (lv.done ++ (c ++ a))
nil_viable at {d = d} c {a = a} lv ex dl sh f room = record {
  before = lv.done ++ c;
  under_way = a;
  expected = a_number nil;
  depth = d;
  expects = ex;
  whole = sym (further lv.done c a);
  within = within_number f;
  not_deep = dl;
  shallow = sh;
  room = omega (arith, length-append lv.done (c ++ a));
}

-- ---- within a name
pub name_step : {L : Bounds} {offset left n d : ℕ} {z a p : List ℕ} {U : Table} {lv : Level}
    {around : List Level} {S : State} (c s x : List ℕ) → ExpectsTop lv.table lv.type (lv.done ++ c) (a_number nil) d
    → IsUnsigned n a → length s < n → offset + length (z ++ (c ++ (a ++ s))) < lv.end
    → Step base_table L offset (state z U (lv ∷ around) in_value left) p S → p ++ x ≡ c ++ (a ++ s) → ⊥
name_step {a = a} {lv = lv} c s x ex u few room (by_name {a = a'} c' s' ex' dl sh some u' fit) e =
    let one = unmet_once (a ++ s) (a' ++ (s' ++ x)) ex ex' (further lv.done c (a ++ s)
    ∙ ap (λ (l : List ℕ). lv.done ++ l) (sym e ∙ apart c' a' s' x) ∙ sym (further lv.done c' (a' ++ (s' ++ x))))
    (not_allowed_not_met s u (λ e. omega arith)) (unmet s' (s' ++ x) some u') in
    let name = unsigned_prefix s (s' ++ x) u u' one.rest in
    let v = name.value in omega (arith, ap length name.rest, length-append s' x)
name_step {z = z} {a = a} c s x ex u few room (by_end b sp de ends) e =
    omega (arith, ap length e, length-append b x, length-append z b, length-append z (c ++ (a ++ s)))

is_interface : {S R : body.Refusal} → S ≡ R → R.reason ≡ reason.InterfaceValue → S.reason ≡ reason.InterfaceValue
is_interface e f = ap (λ (R : body.Refusal). R.reason) e ∙ f

pub name_refusal : {L : Bounds} {at left n d : ℕ} {a : List ℕ} {U : Table} {lv : Level} {around : List Level}
    {R : Refusal} (c s : List ℕ) → ExpectsTop lv.table lv.type (lv.done ++ c) (a_number nil) d → d ≤ lv.limit
    → IsShallow lv.table lv.type lv.limit (lv.done ++ c) → IsUnsigned n a → 0 < n
    → length (c ++ (a ++ s)) < lv.end - at
    → RefusesAt base_table L at U (c ++ (a ++ s)) (lv ∷ around) in_value left R → ⊥
name_refusal {at = at} {a = a} {lv = lv} c s ex dl sh u some room (in_skeleton h k pl se re) =
    k (is_interface (given_once h (not_allowed_first s ex dl sh (ap (λ (l : List ℕ). lv.done ++ l)
    (take_all (lv.end - at) (c ++ (a ++ s)) (omega arith)) ∙ sym (further lv.done c (a ++ s))) u (λ e. omega arith)))
    refl)
name_refusal {at = at} {a = a} {lv = lv} c s ex dl sh u some room (short_name c' r ex' dl' sh' eq u' full few)
    = omega (arith, length-take (lv.end - at) (c ++ (a ++ s)))

-- ---- within the number behind a name
pub held_number_step : {L : Bounds} {offset left d : ℕ} {z a p : List ℕ} {U : Table} {lv : Level}
    {around : List Level} {S : State} (x : List ℕ) → IsUnsignedPrefix a
    → Step base_table L offset (state z U (lv ∷ around) (in_filling d) left) p S → p ++ x ≡ a → ⊥
held_number_step x f (by_definition {c = c} (defines {a = n} {b = y} may de ds i sg sp) ends k) e =
    prefix_not_number ((y ++ c) ++ x) f (signed_unsigned sg).1 (sym e ∙ behind_number n y c x)
held_number_step x f (by_type {n = n} {c = c} may sg u ends l) e =
    prefix_not_number (c ++ x) f (signed_unsigned sg).1 (sym e ∙ append_assoc n c x)

pub held_number_refusal : {L : Bounds} {at left d : ℕ} {a : List ℕ} {U : Table} {lv : Level} {around : List Level}
    {R : Refusal} → IsUnsignedPrefix a → length a < lv.end - at
    → RefusesAt base_table L at U a (lv ∷ around) (in_filling d) left R → ⊥
held_number_refusal {L = L} {at = at} {a = a} {U = U} {lv = lv} {R = R} f l (as_in_an_item h ns) =
    number_begun f l (subst (λ q. RefusesBody base_table L U at (lv.end - at) q R)
    (take_all (lv.end - at) a (omega arith)) h)
held_number_refusal {at = at} {a = a} {lv = lv} f l (inner_count {q = q} eq sg may r) =
    prefix_not_number q f (signed_unsigned sg).1 (sym (take_all (lv.end - at) a (omega arith)) ∙ eq)
held_number_refusal f l (next_count q eq (defines {a = n} {b = y} may de ds i sg sp) ends r) =
    prefix_not_number (y ++ q) f (signed_unsigned sg).1 (eq ∙ append_assoc n y q)

-- ---- within a description there
pub held_description_step : {L : Bounds} {offset left d n : ℕ} {z a p : List ℕ} {U : Table} {lv : Level}
    {around : List Level} {S : State} (y x : List ℕ) → IsSigned (negsuc n) a
    → offset + length (z ++ (a ++ y)) < lv.end
    → Step base_table L offset (state z U (lv ∷ around) (in_filling d) left) p S → p ++ x ≡ a ++ y → ⊥
held_description_step {z = z} {a = a} y x s room (by_definition {b = b} {c = c} def ends k) e =
    omega (
      arith,
      ap length e,
      length-append (b ++ c) x,
      length-append b c,
      length-append z b,
      length-append z (a ++ y),
    )
held_description_step y x s room (by_type {n = n} {c = c} may sg u ends l) e =
    pos_negsuc (signed_prefix (c ++ x) y sg s (sym (append_assoc n c x) ∙ e)).value

pub held_description_refusal : {L : Bounds} {at left d n : ℕ} {id : TypeId} {a y : List ℕ} {U : Table} {lv : Level}
    {around : List Level} {R : Refusal} → id.0 ≡ n + 1 → IsSigned (negsuc n) a → MayDefine base_table L U id
    → IsViable U wire_type L.depth (lv.end - at - length a) y
    → RefusesAt base_table L at U (a ++ y) (lv ∷ around) (in_filling d) left R → ⊥
held_description_refusal {L = L} {at = at} {a = a} {y = y} {U = U} {lv = lv} {R = R} i s may w (as_in_an_item h ns) =
    let room = w.room in
    description_begun i s may w (subst (λ q. RefusesBody base_table L U at (lv.end - at) q R)
    (take_all (lv.end - at) (a ++ y) (omega (arith, length-append a y))) h)
held_description_refusal {at = at} {a = a} {y = y} {lv = lv} i s may w (inner_count {q = q} eq sg may' r) =
    let room = w.room in
    pos_negsuc (signed_prefix q y sg s (sym eq
    ∙ take_all (lv.end - at) (a ++ y) (omega (arith, length-append a y)))).value
held_description_refusal {a = a} {y = y} i s may w (next_count {b = b} q eq def ends r) =
    let room = w.room in omega (arith, ap length eq, length-append a y, length-append b q)

-- ---- within the count behind a definition
pub next_count_step : {L : Bounds} {offset left d : ℕ} {z b q p : List ℕ} {U V : Table} {lv : Level}
    {around : List Level} {id : TypeId} {v : Tree} {S : State} (x : List ℕ) → Defines base_table L U id v b V
    → IsUnsignedPrefix q
    → Step base_table L offset (state z U (lv ∷ around) (in_filling d) left) p S → p ++ x ≡ b ++ q → ⊥
next_count_step {q = q} x def f (by_definition {b = b'} {c = c} def' ends (of_item u l e s k)) g =
    prefix_not_number x f u (same_definition q (c ++ x) def def' (sym g ∙ append_assoc b' c x)).rest
next_count_step {q = q} x def f (by_definition {b = b'} {c = c} def' ends (within u e l)) g =
    prefix_not_number x f u (same_definition q (c ++ x) def def' (sym g ∙ append_assoc b' c x)).rest
next_count_step {q = q} x def f (by_type {n = n} {c = c} may sg u ends l) g =
    not_defined (c ++ x) q def sg (sym (append_assoc n c x) ∙ g)

pub next_count_refusal : {L : Bounds} {at left d : ℕ} {b q : List ℕ} {U V : Table} {lv : Level}
    {around : List Level} {id : TypeId} {v : Tree} {R : Refusal} → Defines base_table L U id v b V
    → at + length b ≡ lv.end → IsUnsignedPrefix q → lv.end + length q < end_around around
    → RefusesAt base_table L at U (b ++ q) (lv ∷ around) (in_filling d) left R → ⊥
next_count_refusal {L = L} {at = at} {b = b} {q = q} {U = U} {V = V} {lv = lv} {id = id} {v = v} def ends f l
    (as_in_an_item h ns) =
    let there = final.whole b q (b ++ q) (lv.end - at) refl (omega arith) in
    ns.no_definition id v V (ap length there ∙ omega arith)
    (subst (λ y. Defines base_table L U id v y V) (sym there) def)
next_count_refusal {at = at} {b = b} {q = q} {lv = lv} def ends f l (inner_count {q = q'} eq sg may r) =
    not_defined q' [] def sg (sym eq ∙ final.whole b q (b ++ q) (lv.end - at) refl (omega arith) ∙ sym (append_nil b))
next_count_refusal {L = L} {left = left} {q = q} {lv = lv} {around = around} {R = R} def ends f l
    (next_count q' eq def' ends' r) =
    next_begun L left lv.end R around f l (subst (λ q. RefusesNextCount L left lv.end around q R)
    (sym (same_definition q q' def def' eq).rest) r)

-- ---- within the count behind the concrete type
pub inner_count_step : {L : Bounds} {offset left d : ℕ} {z n q p : List ℕ} {U : Table} {lv : Level}
    {around : List Level} {u : TypeId} {S : State} (x : List ℕ) → IsSigned (pos u.0) n → IsUnsignedPrefix q
    → Step base_table L offset (state z U (lv ∷ around) (in_filling d) left) p S → p ++ x ≡ n ++ q → ⊥
inner_count_step {q = q} x sg f (by_definition {b = b} {c = c} def ends k) e =
    not_defined q (c ++ x) def sg (sym e ∙ append_assoc b c x)
inner_count_step {q = q} x sg f (by_type {n = n} {c = c} may sg' u ends l) e =
    prefix_not_number x f u (signed_prefix q (c ++ x) sg sg' (sym e ∙ append_assoc n c x)).rest

pub inner_count_refusal : {L : Bounds} {at left d : ℕ} {n q : List ℕ} {U : Table} {lv : Level} {around : List Level}
    {u : TypeId} {R : Refusal} → MayPut U u → IsSigned (pos u.0) n → IsUnsignedPrefix q
    → at + length n + length q < lv.end
    → RefusesAt base_table L at U (n ++ q) (lv ∷ around) (in_filling d) left R → ⊥
inner_count_refusal {at = at} {n = n} {q = q} {lv = lv} {u = u} may sg f l (as_in_an_item h ns) =
    ns.no_type u n q (take_all (lv.end - at) (n ++ q) (omega (arith, length-append n q))) sg may
inner_count_refusal {at = at} {n = n} {q = q} {lv = lv} {R = R} may sg f l
    (inner_count {n = n'} {q = q'} eq sg' may' r) =
    let there = take_all (lv.end - at) (n ++ q) (omega (arith, length-append n q)) in
    let number = signed_prefix q q' sg sg' (sym there ∙ eq) in
    inner_begun f l (subst (λ q. RefusesInner (at + length n) lv.end q R) (sym number.rest)
    (subst (λ (n : List ℕ). RefusesInner (at + length n) lv.end q' R) (sym number.bytes) r))
inner_count_refusal {q = q} may sg f l (next_count q' eq def ends r) = not_defined q q' def sg eq
