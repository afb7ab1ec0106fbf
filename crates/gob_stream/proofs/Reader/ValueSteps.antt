-- What becomes of an item where a piece of its value or its description is taken.
use Rattle.std.proofs.Common.{◌≡◌, ◌≢◌, ℕ, zero, suc, pos, ◌+◌, ◌-◌, ◌≤◌, List, [], ◌∷◌, ◌++◌, length, take, Result}
use Rattle.std.proofs.Common.{Err, arith, refl, sym, ap, ◌∙◌, subst, append_assoc, length-append}
use Rattle.std.proofs.lemmas.List.{append-nil}
use Rattle.gob_types.specs.declared.reason.Reason.{Reason}
use Rattle.gob_stream.specs.WriterRefusal.{RefusesType, private_type, undefined, bottomless}
use Rattle.gob_num.specs.Unsigned.{IsUnsigned}
use Rattle.gob_num.specs.Signed.{IsSigned}
use Rattle.gob_types.specs.declared.id.TypeId.{TypeId}
use Rattle.gob_types.specs.declared.reason.Reason.TheVariants as reason
use Rattle.gob_types.specs.Base.{base_table}
use Rattle.gob_types.specs.Table.{Table}
use Rattle.gob_types.specs.Defined.{Defined, types}
use Rattle.gob_read.specs.Building.{Building}
use Rattle.gob_read.specs.Refusal as body
use Rattle.gob_read.specs.Refusal.{Refused, extra, too_deep, short_of, bad_head_at, not_minimal_at, not_allowed}
use Rattle.gob_read.specs.Expected.{Allowed, any, tag, truth_value, array_count, delta, nil, reason_of}
use Rattle.gob_read.specs.First.{IsFirst}
use Rattle.gob_read.proofs.PublicLaws.{take_whole}
use Rattle.gob_stream.specs.declared.fault.Fault.{Fault}
use Rattle.gob_stream.specs.declared.stage.Extent.{Extent}
use Rattle.gob_stream.specs.declared.stage.Stage.{Stage}
use Rattle.gob_stream.specs.declared.stage.Stepped.{Stepped}
use Rattle.gob_stream.specs.Bounds.{Bounds}
use Rattle.gob_types.specs.declared.denial.Denial.{Denial}
use Rattle.gob_types.specs.declared.denial.Denial.TheVariants as denial
use Rattle.gob_types.specs.Denial.{IsDenial}
use Rattle.gob_stream.specs.Machine.Denial.{fault_at}
use Rattle.gob_stream.specs.Item.{StreamItem, puts, means_value}
use Rattle.gob_stream.specs.Body.{value, MayPut}
use Rattle.gob_stream.specs.Stream.{IsItem, counted}
use Rattle.gob_stream.specs.Refusing.{behind, refuses, RefusesBody, refused_value}
use Rattle.gob_stream.specs.Outcome.{RefusesNext, refused_body}
use Rattle.gob_stream.specs.Machine.HasRead.{StageHasRead, in_value, IsCount, IsRest, size}
use Rattle.gob_stream.specs.Machine.ReadParts.{ReadsValueIn, value_goes_on, value_ends, value_refused}
use Rattle.gob_stream.specs.Machine.ReadParts.{no_memory_for_value, StepsOn, goes_on, gives, refuses_it, no_memory}

-- ---- lists
pub three : (c a y p : List ℕ) → (c ++ (a ++ y)) ++ p ≡ c ++ (a ++ (y ++ p))
three c a y p = append_assoc c (a ++ y) p ∙ ap (λ l. c ++ l) (append_assoc a y p)

pub take_over : (a x : List ℕ) (m : ℕ) → length a ≤ m → take m (a ++ x) ≡ a ++ take (m - length a) x
take_over [] x m l = ap (λ n. take n x) (let e : m ≡ m - 0 = omega arith in e)
take_over (b ∷ a) x zero l = absurd (omega arith)
take_over (b ∷ a) x (suc m) l =
    let e : m - length a ≡ suc m - length (b ∷ a) = omega arith in
    ap (λ r. b ∷ r) (take_over a x m (omega arith) ∙ ap (λ n. a ++ take n x) e)

-- what is there of a body whose rest has the bytes y and then the piece
pub body_there : (a y piece : List ℕ) (m n : ℕ) → length a ≤ m → n ≡ m - length a → length y ≤ n
    → take m (a ++ (y ++ piece)) ≡ a ++ (y ++ take (n - length y) piece)
body_there a y piece m n l e k =
    take_over a (y ++ piece) m l ∙ ap (λ r. a ++ r) (ap (λ n. take n (y ++ piece)) (sym e) ∙ take_over y piece n k)

-- ---- the reasons of bodies
reason_shown : (a : Allowed) → reason_of a ≢ reason.Ended
reason_shown any e = cc
reason_shown tag e = cc
reason_shown truth_value e = cc
reason_shown (array_count n) e = cc
reason_shown (delta n) e = cc
reason_shown nil e = cc

pub refused_shown : {T : Table} {t : TypeId} {limit announced : ℕ} {z : List ℕ} {R : body.Refusal}
    → Refused T t limit announced z R → R.reason ≢ reason.Ended
refused_shown (extra r s e l) f = cc
refused_shown (too_deep r a e l) f = cc
refused_shown (short_of r a e n h) f = cc
refused_shown (bad_head_at r a e h) f = cc
refused_shown (not_minimal_at r a e h) f = cc
refused_shown (not_allowed r {a = k} a e u h) f = absurd (reason_shown k f)

-- ---- where the rest of a body lies
pub record Lies (L : Bounds) (offset m : ℕ) (c a : List ℕ) (rest : Extent) : Type 0 where
  pub within : length a ≤ m
  pub size_is : size rest ≡ m - length a
  pub begins : rest.begin ≡ offset + length c + length a
  pub ends : rest.end ≡ offset + length c + m

pub lies : {L : Bounds} {offset m : ℕ} {c a : List ℕ} {body rest : Extent} → IsCount L offset m c body
    → IsRest body a rest → Lies L offset m c a rest
lies k r =
    let b = k.begin in let e = k.end in let rb = r.begin in let re = r.end in let w = r.within in
    record { within = omega arith; size_is = omega arith; begins = omega arith; ends = omega arith }

pub stands_as : {X O : Type 0} {most : ℕ} {building : Building X O most} {L : Bounds} {T : Table} {offset : ℕ}
    {st : Stage X O} {z w : List ℕ} → w ≡ z → StageHasRead building L T offset st z
    → StageHasRead building L T offset st w
stands_as {building = building} {L = L} {T = T} {offset = offset} {st = st} e h =
    subst (λ z. StageHasRead building L T offset st z) (sym e) h

pub counted_as : {L : Bounds} {T U : Table} {offset : ℕ} {i : StreamItem} {z w : List ℕ} → w ≡ z
    → IsItem base_table L T offset i z U → IsItem base_table L T offset i w U
counted_as {L = L} {T = T} {U = U} {offset = offset} {i = i} e h = subst (λ z. IsItem base_table L T offset i z U)
    (sym e) h

-- ---- values
pub value_steps : {X O : Type 0} {most : ℕ} {building : Building X O most} {L : Bounds} {d : Defined} {offset m : ℕ}
    {t : TypeId} {body rest : Extent} {result : Result (Stepped X O) Fault} (c a y piece : List ℕ)
    → IsCount L offset m c body → IsSigned (pos t.0) a → IsRest body a rest → MayPut (types d) t → length y ≤ size rest
    → ReadsValueIn building (types d) t L.depth rest y piece result
    → StepsOn building L d offset (c ++ (a ++ y)) piece d result
value_steps {L = L} {d = d} {offset = offset} c a y piece k s r p w (value_goes_on b) =
    let there : (c ++ (a ++ y)) ++ take (length piece) piece ≡ c ++ (a ++ (y ++ piece)) = ap (λ l. (c ++ (a ++ y))
    ++ l) (take_whole piece (length piece) (omega arith)) ∙ three c a y piece in
    goes_on refl (omega arith) (stands_as there (in_value k s r p b))
value_steps {L = L} {d = d} {offset = offset} {m = m} {t = t} {rest = rest} c a y piece k s r p w
    (value_ends {used = used} l made) =
    let lie = lies k r in
    let all = made.all in let z1 = lie.size_is in let z2 = lie.within in let z3 = lie.ends in let z4 = k.stream in
    let long : length (a ++ (y ++ take used piece)) ≡ m = omega (arith, length-append a (y ++ take used piece)) in
    let whole : length (c ++ (a ++ (y ++ take used piece))) ≡ length c + m =
    omega (arith, length-append c (a ++ (y ++ take used piece))) in
    let item : IsItem base_table L (types d) offset (puts t made.value) (c ++ (a ++ (y ++ take used piece))) (types d) =
    counted (subst (λ n. IsUnsigned n c) (sym long) k.count) (let i = k.item in omega arith) (omega arith)
    (value p made.not_deep s made.spelled) in
    let there = three c a y (take used piece) in
    let n = ap length there in
    gives refl l (counted_as there item) (means_value made.meant) (omega arith)
value_steps {L = L} {d = d} {offset = offset} {m = m} {t = t} {rest = rest} c a y piece k s r p w
    (value_refused {R = R} f) =
    let lie = lies k r in
    let there = body_there a y piece m (size rest) lie.within lie.size_is w in
    let first = subst (λ n. IsFirst (types d) t L.depth n (y ++ take (size rest - length y) piece) R) lie.size_is f in
    let refused : RefusesBody base_table L (types d) (offset + length c) m (take m (a ++ (y ++ piece)))
    (behind (offset + length c + length a) R) = refused_value (y ++ take (size rest - length y) piece) there s p
    first in
    refuses_it refl
    (subst (λ n. RefusesNext base_table L (types d) offset ((c ++ (a ++ y)) ++ piece) (behind n R)) (sym lie.begins)
    (refused_body (a ++ (y ++ piece)) (three c a y piece) k.count k.item k.stream refused))
    (refused_shown f.refused)
value_steps c a y piece k s r p w no_memory_for_value = no_memory refl

-- ---- what is denied at the type number
pub denied_steps : {X O : Type 0} {most : ℕ} {building : Building X O most} {L : Bounds} {d : Defined} {offset m : ℕ}
    {body rest : Extent} (Refuses : Reason → Type 0) (why : Denial) (c a piece : List ℕ)
    → IsCount L offset m c body → IsRest body a rest → IsDenial Refuses why
    → ((r : Reason) → Refuses r → r ≢ reason.Ended)
    → ((r : Reason) (y z : List ℕ) → Refuses r → y ≡ a ++ z → RefusesBody base_table L (types d) (offset + length c) m y
    (refuses (offset + length c) (offset + length c + length a) r))
    → StepsOn building L d offset (c ++ a) piece d
    (Err (fault_at body.begin rest.begin why))
denied_steps {L = L} {d = d} {offset = offset} {m = m} Refuses (denial.Refused w) c a piece k r q shown refused =
    let lie = lies k r in
    let next : RefusesNext base_table L (types d) offset ((c ++ a) ++ piece)
    (refuses (offset + length c) (offset + length c + length a) w) =
    refused_body (a ++ piece) (append_assoc c a piece) k.count k.item k.stream
    (refused w _ _ q (take_over a piece m lie.within)) in
    rw (k.begin, lie.begins) (refuses_it refl next (shown w q))
denied_steps Refuses denial.Memory c a piece k r q shown refused = no_memory refl

-- ---- a value begins
pub type_shown : {T : Table} {t : TypeId} {r : Reason} → RefusesType T t r → r ≢ reason.Ended
type_shown (private_type p) e = cc
type_shown (undefined p q n l) e = cc
type_shown (bottomless p q r n l) e = cc

pub value_begins : {X O : Type 0} {most : ℕ} {building : Building X O most} {L : Bounds} {d : Defined} {offset m : ℕ}
    {t : TypeId} {body rest : Extent} {result : Result (Stepped X O) Fault} (c a piece : List ℕ)
    → IsCount L offset m c body → IsSigned (pos t.0) a → IsRest body a rest → MayPut (types d) t
    → ReadsValueIn building (types d) t L.depth rest [] piece result
    → StepsOn building L d offset (c ++ a) piece d result
value_begins {building = building} {L = L} {d = d} {offset = offset} {result = result} c a piece k s r p q =
    subst (λ l. StepsOn building L d offset (c ++ l) piece d result) (append-nil a)
    (value_steps c a [] piece k s r p (omega arith) q)
