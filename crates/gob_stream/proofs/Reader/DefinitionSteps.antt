-- What becomes of an item where a piece of its description is taken.
use Rattle.std.proofs.Common.{◌≡◌, ◌≢◌, ℕ, negsuc, ◌+◌, ◌-◌, ◌≤◌, min, List, [], ◌∷◌, ◌++◌, length, take, Result, arith}
use Rattle.std.proofs.Common.{sym, ap, ◌∙◌, subst, length-append}
use Rattle.std.proofs.lemmas.List.{length-take, append-nil}
use Rattle.gob_num.specs.Unsigned.{IsUnsigned}
use Rattle.gob_num.specs.Signed.{IsSigned}
use Rattle.gob_types.specs.declared.id.TypeId.{TypeId}
use Rattle.gob_types.specs.declared.reason.Reason.{Reason}
use Rattle.gob_types.specs.declared.reason.Reason.TheVariants as reason
use Rattle.gob_types.specs.Base.{base_table, wire_type}
use Rattle.gob_types.specs.Table.{Table}
use Rattle.gob_types.specs.Defined.{Defined, types}
use Rattle.gob_value.specs.Tree.{Tree, depth}
use Rattle.gob_value.specs.View.{view}
use Rattle.gob_value.specs.Spelling.{Spells}
use Rattle.gob_value.specs.Description.{Misdescribes, kind_count, wrong_id, bad_reference, bad_length}
use Rattle.gob_value.specs.declared.value.Value.{Value}
use Rattle.gob_read.specs.Building.{Building}
use Rattle.gob_read.specs.First.{IsFirst}
use Rattle.gob_read.specs.Calls.Reader.{IsMade}
use Rattle.gob_read.proofs.PublicLaws.{take_whole}
use Rattle.gob_stream.specs.declared.fault.Fault.{Fault}
use Rattle.gob_stream.specs.declared.stage.Extent.{Extent}
use Rattle.gob_stream.specs.declared.stage.Stepped.{Stepped}
use Rattle.gob_stream.specs.Bounds.{Bounds, greatest_depth}
use Rattle.gob_stream.specs.Item.{defines, means_definition}
use Rattle.gob_stream.specs.Body.{definition, MayDefine}
use Rattle.gob_stream.specs.Stream.{IsItem, counted}
use Rattle.gob_stream.specs.WriterRefusal.{RefusesId, reserved, defined_twice, too_many}
use Rattle.gob_stream.specs.Refusing.{behind, refuses, RefusesBody, refused_description, described_wrongly}
use Rattle.gob_stream.specs.Outcome.{RefusesNext, refused_body}
use Rattle.gob_stream.specs.Machine.HasRead.{in_description, IsCount, IsRest, size}
use Rattle.gob_stream.specs.Machine.ReadParts.{HasWireType, IsView, ReadsDescription, description_goes_on}
use Rattle.gob_stream.specs.Machine.ReadParts.{description_ends, description_refused, describes_nothing}
use Rattle.gob_stream.specs.Machine.ReadParts.{no_memory_for_description, StepsOn, goes_on, gives, refuses_it}
use Rattle.gob_stream.specs.Machine.ReadParts.{no_memory}
use Rattle.gob_stream.proofs.Reader.ValueSteps.{three, body_there, refused_shown, lies, stands_as, counted_as}
use Rattle.gob_stream.proofs.Reader.DescriptionSteps.{wire_spelled}
use Rattle.gob_stream.proofs.Stream.DescriptionDepth.{description_first}

description_shown : {id : TypeId} {v : Tree} {r : Reason} → Misdescribes id v r → r ≢ reason.Ended
description_shown (kind_count p) e = cc
description_shown (wrong_id p q) e = cc
description_shown (bad_reference p q b) e = cc
description_shown (bad_length p q n b) e = cc

-- the description that was read, as the value that the program has
made_spelled : {T : Table} {limit announced : ℕ} {d : Value} {z : List ℕ} → HasWireType T
    → IsMade T wire_type limit announced IsView d z → Spells T wire_type (view d) z
made_spelled w made = subst (λ v. Spells _ wire_type v _) (sym made.meant) (wire_spelled w made.spelled)

made_depth : {T : Table} {limit announced : ℕ} {d : Value} {z : List ℕ} → IsMade T wire_type (min limit greatest_depth)
    announced IsView d z → depth (view d) ≤ limit
made_depth {limit = limit} {d = d} made =
    let deep : depth (view d) ≤ min limit greatest_depth = subst (λ v. depth v ≤ min limit greatest_depth)
    (sym made.meant) made.not_deep in omega (arith, deep)

pub description_steps : {X O : Type 0} {most : ℕ} {building : Building X O most} {L : Bounds} {d d' : Defined}
    {offset m n : ℕ} {id : TypeId} {body rest : Extent} {result : Result (Stepped X O) Fault} (c a y piece : List ℕ)
    → IsCount L offset m c body → id.0 ≡ n + 1 → IsSigned (negsuc n) a → IsRest body a rest
    → MayDefine base_table L (types d) id → HasWireType (types d) → length y ≤ size rest
    → ReadsDescription d id (min L.depth greatest_depth) rest y piece d' result
    → StepsOn building L d offset (c ++ (a ++ y)) piece d' result
description_steps c a y piece k n s r p h w (description_goes_on e b) =
    let there : (c ++ (a ++ y)) ++ take (length piece) piece ≡ c ++ (a ++ (y ++ piece)) = ap (λ l. (c ++ (a ++ y))
    ++ l) (take_whole piece (length piece) (omega arith)) ∙ three c a y piece in
    goes_on e (omega arith) (stands_as there (in_description k n s r p b))
description_steps {L = L} {d = d} {d' = d'} {offset = offset} {m = m} {id = id} {rest = rest} c a y piece k n s r p h w
    (description_ends {described = described} {used = used} there given) =
    let lie = lies k r in
    let made = there.made in let within = there.within in
    let all = made.all in let z1 = lie.size_is in let z2 = lie.within in let z3 = lie.ends in let z4 = k.stream in
    let long : length (a ++ (y ++ take used piece)) ≡ m = omega (arith, length-append a (y ++ take used piece)) in
    let whole : length (c ++ (a ++ (y ++ take used piece))) ≡ length c + m =
    omega (arith, length-append c (a ++ (y ++ take used piece))) in
    let item : IsItem base_table L (types d) offset (defines id (view described)) (c ++ (a ++ (y ++ take used piece)))
    (types d ++ (id, given.shape) ∷ []) =
    counted (subst (λ n. IsUnsigned n c) (sym long) k.count) (let i = k.item in omega arith) (omega arith)
    (definition p (made_depth made) given.describes n s (made_spelled h made)) in
    let split = three c a y (take used piece) in
    let l = ap length split in
    let item' : IsItem base_table L (types d) offset (defines id (view described)) (c ++ (a ++ (y ++ take used piece)))
    (types d') =
    subst (λ (U : Table). IsItem base_table L (types d) offset (defines id (view described)) (c
    ++ (a ++ (y ++ take used piece))) U) (sym given.behind) item in
    gives given.most within (counted_as split item') means_definition (omega arith)
description_steps {L = L} {d = d} {offset = offset} {m = m} {rest = rest} c a y piece k n s r p h w
    (description_refused {R = R} e f) =
    let lie = lies k r in
    let there = body_there a y piece m (size rest) lie.within lie.size_is w in
    let first = subst (λ n. IsFirst (types d) wire_type L.depth n (y ++ take (size rest - length y) piece) R)
    lie.size_is (description_first L.depth h f) in
    let refused : RefusesBody base_table L (types d) (offset + length c) m (take m (a ++ (y ++ piece)))
    (behind (offset + length c + length a) R) = refused_description (y ++ take (size rest - length y) piece) there n
    s p first in
    refuses_it e
    (subst (λ n. RefusesNext base_table L (types d) offset ((c ++ (a ++ y)) ++ piece) (behind n R)) (sym lie.begins)
    (refused_body (a ++ (y ++ piece)) (three c a y piece) k.count k.item k.stream refused))
    (refused_shown f.refused)
description_steps {L = L} {d = d} {offset = offset} {m = m} {rest = rest} c a y piece k n s r p h w
    (describes_nothing {described = described} {used = used} {r = why} e read x) =
    let lie = lies k r in
    let made = read.made in let within = read.within in
    let all = made.all in
    let count : size rest - length y ≡ used = omega (arith, length-append y (take used piece), length-take used piece)
    in
    let there = body_there a y piece m (size rest) lie.within lie.size_is w
    ∙ ap (λ n. a ++ (y ++ take n piece)) count in
    let z1 = lie.size_is in let z2 = lie.within in
    let long : length (take m (a ++ (y ++ piece))) ≡ m =
    omega (arith, ap length there, length-append a (y ++ take used piece)) in
    let refused : RefusesBody base_table L (types d) (offset + length c) m (take m (a ++ (y ++ piece)))
    (refuses (offset + length c + length a) (offset + length c + m) why) =
    described_wrongly there long n s p (made_spelled h made) (made_depth made) x in
    let next : RefusesNext base_table L (types d) offset ((c ++ (a ++ y)) ++ piece)
    (refuses (offset + length c + length a) (offset + length c + m) why) =
    refused_body (a ++ (y ++ piece)) (three c a y piece) k.count k.item k.stream refused in
    let placed = subst (λ n. RefusesNext base_table L (types d) offset ((c ++ (a ++ y)) ++ piece)
    (refuses n (offset + length c + m) why)) (sym lie.begins) next in
    refuses_it e (subst (λ n. RefusesNext base_table L (types d) offset ((c ++ (a ++ y)) ++ piece)
    (refuses rest.begin n why)) (sym lie.ends) placed) (description_shown x)
description_steps c a y piece k n s r p h w (no_memory_for_description e) = no_memory e

-- ---- a description begins
pub id_shown : {L : Bounds} {T : Table} {id : TypeId} {r : Reason} → RefusesId base_table L T id r → r ≢ reason.Ended
id_shown (reserved n) e = cc
id_shown (defined_twice o n) e = cc
id_shown (too_many o n r) e = cc

pub description_begins : {X O : Type 0} {most : ℕ} {building : Building X O most} {L : Bounds} {d d' : Defined}
    {offset m n limit : ℕ} {id : TypeId} {body rest : Extent} {result : Result (Stepped X O) Fault} (c a piece : List ℕ)
    → IsCount L offset m c body → id.0 ≡ n + 1 → IsSigned (negsuc n) a → IsRest body a rest
    → MayDefine base_table L (types d) id → HasWireType (types d) → limit ≡ min L.depth greatest_depth
    → ReadsDescription d id limit rest [] piece d' result
    → StepsOn building L d offset (c ++ a) piece d' result
description_begins {building = building} {L = L} {d = d} {d' = d'} {offset = offset} {id = id} {rest = rest}
    {result = result} c a piece k n s r p h e q =
    let q' = subst (λ limit. ReadsDescription d id limit rest [] piece d' result) e q in
    subst (λ l. StepsOn building L d offset (c ++ l) piece d' result) (append-nil a)
    (description_steps c a [] piece k n s r p h (omega arith) q')
