-- Taking the bytes of a type number, and those of what follows it.
use Rattle.std.proofs.Common.{Bool}
use Rattle.std.proofs.Common.{◌≡◌, ℕ, pos, negsuc, ◌+◌, ◌-◌, ◌≤◌, List, [], ◌++◌, length}
use Rattle.std.proofs.Common.{take, drop, None, Result, Ok, Err, arith, refl, sym, ap, ◌∙◌, subst, append_assoc}
use Rattle.std.proofs.Common.{length-append, length-drop, ℤ, ◌<ℤ◌, ◌≤ℤ◌, unsigned_abs}
use Rattle.std.proofs.lemmas.List.{length-take}
use Rattle.gob_num.specs.Unsigned.{IsUnsigned, AreBytes}
use Rattle.gob_num.specs.Signed.{IsSigned}
use Rattle.gob_num.proofs.PublicLaws.{bytes-append, bytes_rest, unsigned_bytes, signed_unsigned}
use Rattle.gob_types.specs.declared.denial.Denial.{Denial}
use Rattle.gob_types.specs.declared.denial.Denial.TheVariants as denial
use Rattle.gob_types.specs.declared.id.TypeId.{TypeId}
use Rattle.gob_types.specs.Base.{base_table, wire_type}
use Rattle.gob_types.specs.Denial.{IsDenial}
use Rattle.gob_types.specs.Table.{Table}
use Rattle.gob_types.specs.Defined.{Defined, types, Admits}
use Rattle.gob_read.specs.Calls.Builders.{tree_building}
use Rattle.gob_read.specs.Calls.UnderWay.{HasReadBody}
use Rattle.gob_read.proofs.PublicLaws.{take_whole, take_and_drop, append_nil}
use Rattle.gob_stream.specs.declared.fault.Fault.{Fault}
use Rattle.gob_stream.specs.declared.fault.Fault.TheVariants as fault
use Rattle.gob_stream.specs.declared.stage.Extent.{Extent}
use Rattle.gob_stream.specs.Bounds.{Bounds}
use Rattle.gob_stream.specs.Body.{MayDefine}
use Rattle.gob_stream.specs.Refusing.{refuses, RefusesBody, refused_id, refused_type}
use Rattle.gob_stream.specs.WriterRefusal.{RefusesType}
use Rattle.gob_stream.specs.Machine.Denial.{fault_at}
use Rattle.gob_stream.specs.Machine.HasRead.{IsCount, size}
use Rattle.gob_stream.specs.Machine.ReadParts.{IsBodyUnderWay, HasWireType}
use Rattle.gob_stream.proofs.Reader.NumberSteps.{further_on, all_there, signed_as, negative_of, not_negative_of}
use Rattle.gob_stream.proofs.Reader.DefinitionSteps.{id_shown}
use Rattle.gob_stream.proofs.Reader.ValueSteps.{take_over, type_shown}
use Rattle.gob_filled.specs.Stream.{IsFilledItem}
use Rattle.gob_go.specs.Reading.{RefusesWith, HasTypesWithin, as_before}
use Rattle.gob_go.specs.declared.description.Described.{Described}
use Rattle.gob_go.specs.declared.description.Described.TheVariants as described
use Rattle.gob_go.specs.declared.description.DescriptionStage.{DescriptionStage}
use Rattle.gob_go.specs.declared.number.NumberStage.{NumberStage}
use Rattle.gob_go.specs.declared.number.NumberTaken.TheVariants as taken
use Rattle.gob_go.specs.declared.stage.Stage.TheVariants as stage
use Rattle.gob_go.specs.declared.stage.Stepped.{Stepped}
use Rattle.gob_go.specs.Machine.HasRead.{StageHasRead, in_type_number}
use Rattle.gob_go.specs.Machine.Parts.{NumberAnswers, NumberIsWhole, BeginsDescription}
use Rattle.gob_go.specs.Machine.Parts.{used_of_described}
use Rattle.gob_go.specs.Machine.Stages.{IsWithinItem, StepsOn, goes_on, gives, refuses_it, no_memory, Sign, positive}
use Rattle.gob_go.specs.Machine.Stages.{negative, IsNumberOf, of_definition, of_value, IsAtBody, BodySteps}
use Rattle.gob_go.specs.Machine.Stages.{behind_described}
use Rattle.gob_go.proofs.NumberStages.{AtNumber, at_number, number_goes_on, number_is_whole, NumberFault}
use Rattle.gob_go.proofs.NumberStages.{number_fault, fault_of_number}
use Rattle.gob_go.proofs.Refusals.{body_numbered, nothing_numbered, number_shown, nothing_identified, nothing_typed}
use Rattle.gob_go.proofs.DefinitionSteps.{Describing, body_refused, definition_steps, definition_fails, ends_at}
use Rattle.gob_go.proofs.DefinitionSteps.{ReadsSomewhere}

-- ---- a step further behind the first bytes of a piece

pub steps_further : {keep : Bool} {L : Bounds} {d d' : Defined} {T : Table} {offset : ℕ} {stepped : Stepped}
    (z piece : List ℕ)
    (used : ℕ) → used ≤ length piece
    → StepsOn keep L T offset d (z ++ take used piece) (drop used piece) d' (Ok stepped)
    → StepsOn keep L T offset d z piece d'
    (Ok (record { used = used + stepped.used; stage = stepped.stage; item = stepped.item }))
steps_further {keep = keep} {L = L} {T = T} {offset = offset} z piece used l
    (goes_on {expects = st} {d' = d'} {used = more} e k s) =
    goes_on e (omega (arith, length-drop used piece))
    (subst (λ z. StageHasRead keep L T offset (types d') st z) (sym (further_on z piece used more)) s)
steps_further {L = L} {T = T} {offset = offset} z piece used l (gives {i = i} {d' = d'} {used = more} e k q w n) =
    let same = ap length (further_on z piece used more) in
    gives e (omega (arith, length-drop used piece))
    (subst (λ z. IsFilledItem base_table L T offset i z (types d')) (sym (further_on z piece used more)) q) w
    (omega arith)

pub steps_stop : {keep : Bool} {L : Bounds} {d d' : Defined} {T : Table} {offset : ℕ} {f : Fault} (z piece : List ℕ)
    (used : ℕ)
    → StepsOn keep L T offset d (z ++ take used piece) (drop used piece) d' (Err f)
    → StepsOn keep L T offset d z piece d' (Err f)
steps_stop {L = L} {T = T} {offset = offset} z piece used (refuses_it {R = R} {d' = d'} r) =
    refuses_it (subst (λ l. RefusesWith L T offset l R (types d')) (sym (all_there z piece used)) r)
steps_stop {L = L} {T = T} {offset = offset} z piece used (no_memory {d' = d'} h) =
    no_memory (subst (λ l. HasTypesWithin L T offset l (types d')) (sym (all_there z piece used)) h)

pub steps_few : {keep : Bool} {L : Bounds} {d d' : Defined} {T : Table} {offset : ℕ} {z piece : List ℕ}
    {stepped : Stepped}
    → StepsOn keep L T offset d z piece d' (Ok stepped) → stepped.used ≤ length piece
steps_few (goes_on e k s) = k
steps_few (gives e k q w n) = k

-- ---- the type number of a body

pub type_at_number : {keep : Bool} {L : Bounds} {d : Defined} {at : ℕ} {number : NumberStage}
    → IsWithinItem keep L d at (stage.TypeNumber (record { number = number })) → AtNumber number at
type_at_number {keep = keep} w = from w.in_item w.taken_is
  where
    from : {L : Bounds} {T U : Table} {offset at : ℕ} {number : NumberStage} {z : List ℕ}
        → StageHasRead keep L T offset U (stage.TypeNumber (record { number = number })) z → at ≡ offset + length z
        → AtNumber number at
    from (in_type_number {c = c} a same k n) t = let b = k.begin in at_number n (omega (arith, length-append c a))

-- it ends where the stream may end, at the latest
pub type_bounded : {keep : Bool} {L : Bounds} {d : Defined} {at : ℕ} {number : NumberStage}
    → IsWithinItem keep L d at (stage.TypeNumber (record { number = number })) → number.rest.end ≤ L.stream
type_bounded {keep = keep} w = end_of w.in_item
  where
    end_of : {L : Bounds} {T U : Table} {offset : ℕ} {number : NumberStage} {z : List ℕ}
        → StageHasRead keep L T offset U (stage.TypeNumber (record { number = number })) z → number.rest.end ≤ L.stream
    end_of (in_type_number a same k n) =
        let b = k.begin in let e = k.end in let s = k.stream in let ends = n.ends in omega arith

pub type_more : {keep : Bool} {L : Bounds} {d : Defined} {T : Table} {offset : ℕ} {old new : NumberStage} {z : List ℕ}
    (piece : List ℕ) → StageHasRead keep L T offset (types d) (stage.TypeNumber (record { number = old })) z
    → NumberAnswers old new piece (Ok taken.More) → new.rest ≡ old.rest
    → StepsOn keep L T offset d z piece d
    (Ok (record { used = length piece; stage = stage.TypeNumber (record { number = new }); item = None }))
type_more {keep = keep} {L = L} {d = d} {T = T} {offset = offset} {new = new} piece
    (in_type_number {c = c} a same k n) h r =
    let there : c ++ (a ++ piece) ≡ (c ++ a) ++ take (length piece) piece =
    sym (ap (λ p. (c ++ a) ++ p) (take_whole piece (length piece) (omega arith)) ∙ append_assoc c a piece) in
    goes_on refl (omega arith)
    (subst (λ z. StageHasRead keep L T offset (types d) (stage.TypeNumber (record { number = new })) z) there
    (in_type_number (a ++ piece) same k (number_goes_on piece n h r)))

pub type_stops : {keep : Bool} {L : Bounds} {d : Defined} {T : Table} {offset : ℕ} {old : NumberStage} {z : List ℕ}
    (piece : List ℕ) (new : NumberStage) (f : Fault)
    → StageHasRead keep L T offset (types d) (stage.TypeNumber (record { number = old })) z
    → NumberAnswers old new piece (Err f) → StepsOn keep L T offset d z piece d (Err f)
type_stops {keep = keep} {L = L} {d = d} {T = T} {offset = offset} piece new f
    (in_type_number {c = c} {body = body} a same k n) h =
    refused_by (fault_of_number piece new f n h)
  where
    refused_by : {f : Fault} → NumberFault body.begin body.end (a ++ piece) f
        → StepsOn keep L T offset d (c ++ a) piece d (Err f)
    refused_by (number_fault r) = refuses_it (body_refused (a ++ piece) k same (append_assoc c a piece)
        (body_numbered r)
        (nothing_numbered r) (number_shown r))

-- a body, by an extent with equal ends
counted_in : {L : Bounds} {offset m : ℕ} {c : List ℕ} {body other : Extent} → IsCount L offset m c body
    → other.begin ≡ body.begin → other.end ≡ body.end → IsCount L offset m c other
counted_in k b e =
    let kb = k.begin in let ke = k.end in
    record { count = k.count; item = k.item; stream = k.stream; begin = omega arith; end = omega arith }

pub type_whole : {keep : Bool} {L : Bounds} {d : Defined} {at behind whole used : ℕ} {old : NumberStage}
    (new : NumberStage) (piece : List ℕ) → IsWithinItem keep L d at (stage.TypeNumber (record { number = old }))
    → NumberIsWhole old piece whole used → new.rest ≡ old.rest → behind ≡ at + used
    → IsAtBody L d behind new.rest (IsUnsigned whole)
type_whole {keep = keep} {L = L} {d = d} {at = at} {behind = behind} {whole = whole} {used = used} {old = old} new
    piece w h r b = from w.in_item w.taken_is
  where
    from : {T : Table} {offset : ℕ} {z : List ℕ}
        → StageHasRead keep L T offset (types d) (stage.TypeNumber (record { number = old })) z → at ≡ offset + length z
        → IsAtBody L d behind new.rest (IsUnsigned whole)
    from {offset = offset} (in_type_number {m = m} {c = c} {body = body} a same k n) t =
        let w' = number_is_whole n h in let l = w'.within in let room = w'.room in let kb = k.begin in
        let nb = n.begins in let ne = n.ends in
        let rb = ap (λ (x : Extent). x.begin) r in let re = ap (λ (x : Extent). x.end) r in
        record {
          offset = offset;
          size = m;
          count = c;
          number = a ++ take used piece;
          counted = counted_in k (rb ∙ nb) (re ∙ ne);
          numbered = w'.spelled;
          taken_is = omega (
            arith,
            length-append c a,
            length-append a (take used piece),
            length-take used piece,
          );
          within = omega (arith, length-append c a);
          known = w.known;
        }

bytes_as : {z y : List ℕ} → z ≡ y → AreBytes z → AreBytes y
bytes_as e o = subst AreBytes e o

type_behind : {keep : Bool} {L : Bounds} {d d' : Defined} {T : Table} {offset at behind whole used : ℕ}
    {old : NumberStage}
    {z : List ℕ} {result : Result Stepped Fault} (new : NumberStage) (piece rest : List ℕ)
    → rest ≡ drop used piece → StageHasRead keep L T offset (types d) (stage.TypeNumber (record { number = old })) z
    → AreBytes (z ++ piece) → NumberIsWhole old piece whole used → new.rest ≡ old.rest → AtNumber old at
    → behind ≡ at + used → BodySteps keep L d d' behind new.rest (IsUnsigned whole) rest result
    → StepsOn keep L T offset d (z ++ take used piece) (drop used piece) d' result
type_behind {keep = keep} {L = L} {d = d} {d' = d'} {T = T} {offset = offset} {used = used} {result = result} new
    piece rest e
    (in_type_number {m = m} {c = c} {body = body} a same k n) o h r t b steps =
    let w = number_is_whole n h in let l = w.within in let room = w.room in
    let rb = ap (λ (x : Extent). x.begin) r in let re = ap (λ (x : Extent). x.end) r in
    let nb = n.begins in let ne = n.ends in let ti = t.taken_is in let len = ap length n.bytes in
    let there : c ++ (a ++ take used piece) ≡ (c ++ a) ++ take used piece = sym (append_assoc c a (take used piece)) in
    let all : (c ++ a) ++ piece ≡ (c ++ (a ++ take used piece)) ++ rest =
    all_there (c ++ a) piece used ∙ ap (λ l. l ++ drop used piece) (sym there)
    ∙ ap (λ l. (c ++ (a ++ take used piece)) ++ l) (sym e) in
    let on = steps.each offset m c (a ++ take used piece) (counted_in k (rb ∙ nb) (re ∙ ne)) w.spelled
    (omega (arith, length-append a (take used piece), length-take used piece))
    (omega arith) (bytes_as all o) in
    subst (λ p. StepsOn keep L T offset d ((c ++ a) ++ take used piece) p d' result) e
    (subst (λ y. StepsOn keep L T offset d y rest d' result) there
    (subst (λ T. StepsOn keep L T offset d (c ++ (a ++ take used piece)) rest d' result) same on))

pub type_further : {keep : Bool} {L : Bounds} {d d' : Defined} {T : Table} {offset at behind whole used : ℕ}
    {old : NumberStage}
    {z : List ℕ} {stepped : Stepped} (new : NumberStage) (piece rest : List ℕ)
    → rest ≡ drop used piece → StageHasRead keep L T offset (types d) (stage.TypeNumber (record { number = old })) z
    → AreBytes (z ++ piece) → NumberIsWhole old piece whole used → new.rest ≡ old.rest → AtNumber old at
    → behind ≡ at + used → BodySteps keep L d d' behind new.rest (IsUnsigned whole) rest (Ok stepped)
    → StepsOn keep L T offset d z piece d'
    (Ok (record { used = used + stepped.used; stage = stepped.stage; item = stepped.item }))
type_further {used = used} {z = z} new piece rest e s o h r t b steps =
    steps_further z piece used h.within (type_behind new piece rest e s o h r t b steps)

pub type_ends : {keep : Bool} {L : Bounds} {d d' : Defined} {T : Table} {offset at behind whole used : ℕ}
    {old : NumberStage}
    {z : List ℕ} {f : Fault} (new : NumberStage) (piece rest : List ℕ)
    → rest ≡ drop used piece → StageHasRead keep L T offset (types d) (stage.TypeNumber (record { number = old })) z
    → AreBytes (z ++ piece) → NumberIsWhole old piece whole used → new.rest ≡ old.rest → AtNumber old at
    → behind ≡ at + used → BodySteps keep L d d' behind new.rest (IsUnsigned whole) rest (Err f)
    → StepsOn keep L T offset d z piece d' (Err f)
type_ends {used = used} {z = z} new piece rest e s o h r t b steps =
    steps_stop z piece used (type_behind new piece rest e s o h r t b steps)

-- ---- a definition begins

within_body : {L : Bounds} {offset m taken : ℕ} {c : List ℕ} {body : Extent} (a : List ℕ) → IsCount L offset m c body
    → taken ≡ body.begin + length a → taken ≤ body.end → length a ≤ body.end - body.begin
within_body a k t l = let e = k.end in omega arith

pub definition_denied : {keep : Bool} {L : Bounds} {d : Defined} {offset m begin : ℕ} {c a : List ℕ} {body : Extent}
    {id : TypeId}
    (piece : List ℕ) (f : Fault) → IsCount L offset m c body → IsNumberOf negative id a
    → begin ≡ body.begin + length a → begin ≤ body.end → BeginsDescription L d body.begin begin body.end id (Err f)
    → StepsOn keep L (types d) offset d (c ++ a) piece d (Err f)
definition_denied {L = L} {d = d} {begin = begin} {c = c} {a = a} {body = body} piece (fault.Refused R) k
    (of_definition {id = id} i s) t l q =
    let there = take_over a piece (body.end - body.begin) (within_body a k t l) in
    let body' : RefusesBody base_table L (types d) body.begin (body.end - body.begin)
    (take (body.end - body.begin) (a ++ piece)) (refuses body.begin begin q.0) =
    rw t (refused_id (take (body.end - body.begin - length a) piece) there i s q.1) in
    rw q.2 (refuses_it (body_refused (a ++ piece) k refl (append_assoc c a piece) body'
    (nothing_identified (take (body.end - body.begin - length a) piece) there i s q.1) (id_shown q.1)))
definition_denied piece fault.Memory k n t l q = no_memory (as_before refl)
definition_denied piece fault.Read k n t l q = absurd q
definition_denied piece fault.Failed k n t l q = absurd q

-- a description that has just begun, and will end there
pub record Begun (L : Bounds) (d : Defined) (begin end : ℕ) (id : TypeId) (stage : DescriptionStage) : Type 0 where
  pub may : MayDefine base_table L (types d) id
  pub admits : Admits d id
  pub id_is : stage.id ≡ id
  pub rest_is : stage.rest ≡ record { begin = begin; end = end }
  pub read : HasReadBody tree_building (types d) wire_type L.depth (end - begin) stage.reader []

pub begun : {L : Bounds} {d : Defined} {begin end : ℕ} {id : TypeId} {stage : DescriptionStage} (place : ℕ)
    → BeginsDescription L d place begin end id (Ok stage) → Begun L d begin end id stage
begun place b = record { may = b.0; admits = b.1; id_is = b.2; rest_is = b.3; read = b.4 }

pub begun_read : {L : Bounds} {d : Defined} {begin end : ℕ} {id : TypeId} {stage : DescriptionStage}
    → Begun L d begin end id stage
    → HasReadBody tree_building (types d) wire_type L.depth (size stage.rest) stage.reader []
begun_read {L = L} {d = d} {stage = stage} b =
    subst (λ (r : Extent). HasReadBody tree_building (types d) wire_type L.depth (size r) stage.reader [])
    (sym b.rest_is) b.read

pub begun_under_way : {L : Bounds} {d : Defined} {begin end : ℕ} {id : TypeId} {stage : DescriptionStage}
    → begin ≤ end → Begun L d begin end id stage
    → IsBodyUnderWay (types d) wire_type stage.rest tree_building stage.reader
begun_under_way {L = L} l b = record {
  limit = L.depth;
  bytes = [];
  after = begun_read b;
  order = rw b.rest_is l;
}

pub begun_admitted : {L : Bounds} {d : Defined} {begin end : ℕ} {id : TypeId} {stage : DescriptionStage}
    → Begun L d begin end id stage → Admits d stage.id
begun_admitted {d = d} b = subst (Admits d) (sym b.id_is) b.admits

pub begun_describing : {L : Bounds} {d : Defined} {at begin end : ℕ} {id : TypeId} {a : List ℕ}
    {stage : DescriptionStage} → IsNumberOf negative id a → at ≡ begin + length a → at ≤ end
    → Begun L d at end id stage → Describing L (types d) stage.id stage.rest begin end a
begun_describing {L = L} {d = d} (of_definition {id = id} {n = n} i s) t l b = record {
  size_is = n;
  id_is = ap (λ (id : TypeId). id.0) b.id_is ∙ i;
  number = s;
  begins = ap (λ (r : Extent). r.begin) b.rest_is ∙ t;
  ends = ap (λ (r : Extent). r.end) b.rest_is;
  order = omega arith;
  may = subst (λ id. MayDefine base_table L (types d) id) (sym b.id_is) b.may;
}

pub definition_begins : {keep : Bool} {L : Bounds} {d d' : Defined} {offset m : ℕ} {c a : List ℕ} {body : Extent}
    {id : TypeId}
    {said : Described} (at : ℕ) (stage : DescriptionStage) (piece : List ℕ) → IsCount L offset m c body
    → IsNumberOf negative id a → at ≡ body.begin + length a → at ≤ body.end → HasWireType (types d)
    → Begun L d at body.end id stage → ReadsSomewhere d stage piece d' (Ok said)
    → StepsOn keep L (types d) offset d (c ++ a) piece d' (Ok (behind_described at (length piece) said))
definition_begins {keep = keep} {L = L} {d = d} {d' = d'} {offset = offset} {c = c} {a = a} {body = body} {id = id}
    {said = said} at
    stage piece k n t l w b g =
    let h = begun_describing n t l b in
    let reads = g L.depth [] (begun_read b) in
    subst (λ l. StepsOn keep L (types d) offset d (c ++ l) piece d' (Ok (behind_described at (length piece) said)))
    (append_nil a)
    (definition_steps at piece k refl w h (ends_at at piece h (omega (arith, length-append a [])) reads) reads)

pub definition_begins_wrong : {keep : Bool} {L : Bounds} {d d' : Defined} {offset m at : ℕ} {c a : List ℕ}
    {body : Extent}
    {id : TypeId} {f : Fault} (stage : DescriptionStage) (piece : List ℕ) → IsCount L offset m c body
    → IsNumberOf negative id a → at ≡ body.begin + length a → at ≤ body.end → HasWireType (types d)
    → Begun L d at body.end id stage → ReadsSomewhere d stage piece d' (Err f)
    → StepsOn keep L (types d) offset d (c ++ a) piece d' (Err f)
definition_begins_wrong {keep = keep} {L = L} {d = d} {d' = d'} {offset = offset} {c = c} {a = a} {id = id} {f = f}
    stage piece k n t
    l
    w b g =
    let h = begun_describing n t l b in
    let reads = g L.depth [] (begun_read b) in
    subst (λ l. StepsOn keep L (types d) offset d (c ++ l) piece d' (Err f)) (append_nil a)
    (definition_fails piece k refl w h (omega arith) reads)

pub begun_fits : {L : Bounds} {d d' : Defined} {at end : ℕ} {a : List ℕ} {id : TypeId} {stage : DescriptionStage}
    (begin : ℕ) (said : Described) (piece : List ℕ) → IsNumberOf negative id a → at ≡ begin + length a
    → at ≤ end → Begun L d at end id stage → ReadsSomewhere d stage piece d' (Ok said)
    → at + used_of_described said ≤ end
begun_fits begin (described.More on) piece n t l b g = omega arith
begun_fits {L = L} {at = at} {a = a} {stage = stage} begin (described.Whole definition used) piece n t l b g =
    let h = begun_describing {begin = begin} n t l b in
    let e : at + used ≡ stage.rest.end = ends_at at piece h (omega (arith, length-append a []))
    (g L.depth [] (begun_read b)) in
    let end = h.ends in
    omega arith

-- ---- a type whose values may not come

pub type_denied : {keep : Bool} {L : Bounds} {d : Defined} {offset m at : ℕ} {c a : List ℕ} {body : Extent}
    {id : TypeId}
    (piece : List ℕ) (why : Denial) → IsCount L offset m c body → IsNumberOf positive id a
    → at ≡ body.begin + length a → at ≤ body.end → IsDenial (RefusesType (types d) id) why
    → StepsOn keep L (types d) offset d (c ++ a) piece d (Err (fault_at body.begin at why))
type_denied {L = L} {d = d} {c = c} {a = a} {body = body} piece (denial.Refused r) k (of_value s) t l q =
    let there = take_over a piece (body.end - body.begin) (within_body a k t l) in
    rw t (refuses_it (body_refused (a ++ piece) k refl (append_assoc c a piece)
    (refused_type (take (body.end - body.begin - length a) piece) there s q)
    (nothing_typed (take (body.end - body.begin - length a) piece) there s q) (type_shown q)))
type_denied piece denial.Memory k n t l q = no_memory (as_before refl)

-- ---- what the number says

pub negative_number : {number : ℕ} {i : ℤ} {id : TypeId} → ((a : List ℕ) → IsUnsigned number a → IsSigned i a)
    → i <ℤ pos 0 → id.0 ≡ unsigned_abs i → (a : List ℕ) → IsUnsigned number a → IsNumberOf negative id a
negative_number {i = i} {id = id} s l e a u =
    let f = negative_of i id.0 l e in of_definition {n = f.0} f.2 (signed_as {j = negsuc f.0} f.1 (s a u))

pub positive_number : {number : ℕ} {i : ℤ} {id : TypeId} → ((a : List ℕ) → IsUnsigned number a → IsSigned i a)
    → pos 0 ≤ℤ i → id.0 ≡ unsigned_abs i → (a : List ℕ) → IsUnsigned number a → IsNumberOf positive id a
positive_number {i = i} {id = id} s l e a u =
    of_value (signed_as {j = pos id.0} (not_negative_of i id.0 l e) (s a u))

pub body_named : {keep : Bool} {L : Bounds} {d d' : Defined} {taken : ℕ} {body : Extent} {id : TypeId} {number : ℕ}
    {sign : Sign}
    {piece : List ℕ} {result : Result Stepped Fault} → ((x : List ℕ) → IsUnsigned number x → IsNumberOf sign id x)
    → BodySteps keep L d d' taken body (IsNumberOf sign id) piece result
    → BodySteps keep L d d' taken body (IsUnsigned number) piece result
body_named named steps =
    record { each = λ offset size c a k u t l o. steps.each offset size c a k (named a u) t l o }

pub at_named : {L : Bounds} {d : Defined} {taken : ℕ} {body : Extent} {id : TypeId} {number : ℕ} {sign : Sign}
    → ((x : List ℕ) → IsUnsigned number x → IsNumberOf sign id x) → IsAtBody L d taken body (IsUnsigned number)
    → IsAtBody L d taken body (IsNumberOf sign id)
at_named named h = record {
  offset = h.offset;
  size = h.size;
  count = h.count;
  number = h.number;
  counted = h.counted;
  numbered = named h.number h.numbered;
  taken_is = h.taken_is;
  within = h.within;
  known = h.known;
}

-- ---- what was read so far is bytes

pub front_bytes : {L : Bounds} {offset m n : ℕ} {c a : List ℕ} {body : Extent} (piece : List ℕ)
    → IsCount L offset m c body → IsUnsigned n a → AreBytes piece → AreBytes ((c ++ a) ++ piece)
front_bytes {c = c} {a = a} piece k u o =
    bytes-append (c ++ a) piece (bytes-append c a (unsigned_bytes k.count) (unsigned_bytes u)) o

pub rest_bytes : (piece : List ℕ) (used : ℕ) → AreBytes piece → AreBytes (drop used piece)
rest_bytes piece used o = bytes_rest (take used piece) (drop used piece)
    (bytes_as (sym (take_and_drop piece used)) o)

pub body_few : {keep : Bool} {L : Bounds} {d d' : Defined} {at number : ℕ} {body : Extent} {rest : List ℕ}
    {stepped : Stepped}
    (piece : List ℕ) (used : ℕ) → rest ≡ drop used piece → used ≤ length piece → AreBytes piece
    → IsAtBody L d at body (IsUnsigned number) → BodySteps keep L d d' at body (IsUnsigned number) rest (Ok stepped)
    → used + stepped.used ≤ length piece
body_few {rest = rest} piece used e l o h steps =
    let few = steps_few (steps.each h.offset h.size h.count h.number h.counted h.numbered h.taken_is h.within
    (front_bytes rest h.counted h.numbered (bytes_as (sym e) (rest_bytes piece used o)))) in
    omega (arith, ap length e, length-drop used piece)

pub put_bytes : {L : Bounds} {d : Defined} {at : ℕ} {body : Extent} {id : TypeId} (piece : List ℕ)
    (h : IsAtBody L d at body (IsNumberOf positive id)) → AreBytes piece → AreBytes ((h.count ++ h.number) ++ piece)
put_bytes piece h o = from h.numbered
  where
    from : {id : TypeId} {a : List ℕ} → IsNumberOf positive id a → AreBytes ((h.count ++ a) ++ piece)
    from (of_value s) = let u = signed_unsigned s in front_bytes piece h.counted u.1 o
