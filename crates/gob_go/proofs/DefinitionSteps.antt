-- What becomes of an item, or of what fills a nil, where a piece of a description is taken.
use Rattle.std.proofs.Common.{Bool}
use Rattle.std.proofs.Common.{◌≡◌, ◌≢◌, ℕ, negsuc, ◌+◌, ◌-◌, ◌<◌, ◌≤◌, List, ◌∷◌, ◌++◌, length}
use Rattle.std.proofs.Common.{take, Result, Ok, Err, arith, refl, sym, ap, ◌∙◌, subst, length-append}
use Rattle.std.proofs.lemmas.List.{length-take}
use Rattle.gob_num.specs.Unsigned.{IsUnsigned}
use Rattle.gob_num.specs.Signed.{IsSigned}
use Rattle.gob_types.specs.declared.id.TypeId.{TypeId}
use Rattle.gob_types.specs.declared.reason.Reason.{Reason}
use Rattle.gob_types.specs.declared.reason.Reason.TheVariants as reason
use Rattle.gob_types.specs.Base.{base_table, wire_type}
use Rattle.gob_types.specs.Table.{Table}
use Rattle.gob_types.specs.Defined.{Defined, types, Admits}
use Rattle.gob_value.specs.Tree.{Tree, depth}
use Rattle.gob_value.specs.View.{view}
use Rattle.gob_value.specs.Spelling.{Spells}
use Rattle.gob_value.specs.Description.{Misdescribes, kind_count, wrong_id, bad_reference, bad_length}
use Rattle.gob_value.specs.declared.value.Value.{Value}
use Rattle.gob_read.specs.Calls.Builders.{tree_building}
use Rattle.gob_read.specs.Calls.Reader.{IsMade, ReaderHasRead}
use Rattle.gob_read.specs.Calls.UnderWay.{under_way}
use Rattle.gob_read.specs.First.{IsFirst}
use Rattle.gob_read.specs.declared.reader.BodyReader.{BodyReader}
use Rattle.gob_read.specs.declared.tree_builder.TreeBuilder.{TreeBuilder}
use Rattle.gob_read.proofs.PublicLaws.{take_whole}
use Rattle.gob_stream.specs.declared.fault.Fault.{Fault}
use Rattle.gob_stream.specs.declared.fault.Fault.TheVariants as fault
use Rattle.gob_stream.specs.declared.fault.Refusal.{Refusal}
use Rattle.gob_stream.specs.declared.stage.Extent.{Extent}
use Rattle.gob_stream.specs.Bounds.{Bounds}
use Rattle.gob_stream.specs.Body.{MayDefine}
use Rattle.gob_stream.specs.Refusing.{RefusesBody, refused_description, described_wrongly}
use Rattle.gob_stream.specs.Machine.HasRead.{IsCount, BodyHasRead, size}
use Rattle.gob_stream.specs.Machine.ReadParts.{HasWireType, IsView, IsDescribed, IsBodyUnderWay, AreTypes}
use Rattle.gob_stream.proofs.Reader.ValueSteps.{body_there, refused_shown, three}
use Rattle.gob_stream.proofs.Reader.DescriptionSteps.{wire_spelled}
use Rattle.gob_filled.specs.Definition.{Defines, defines}
use Rattle.gob_filled.specs.Outcome.{NothingStands, refused_body, refused_value, as_in_an_item}
use Rattle.gob_filled.specs.Standing.{Level, in_filling, Stands}
use Rattle.gob_filled.specs.Stream.{IsFilledItem, of_definition, defining}
use Rattle.gob_go.specs.Meaning.{means_definition}
use Rattle.gob_go.specs.Reading.{RefusesWith, as_before}
use Rattle.gob_go.specs.declared.description.Described.{Described}
use Rattle.gob_go.specs.declared.description.Described.TheVariants as described
use Rattle.gob_go.specs.declared.description.DescriptionStage.{DescriptionStage}
use Rattle.gob_go.specs.declared.stage.Stage.TheVariants as stage
use Rattle.gob_go.specs.Machine.HasRead.{DescriptionIs, StageHasRead, in_definition}
use Rattle.gob_go.specs.Machine.Parts.{DefinesLoosely, ReadsDescription, description_goes_on}
use Rattle.gob_go.specs.Machine.Parts.{description_ends, description_refused, describes_nothing}
use Rattle.gob_go.specs.Machine.Parts.{no_memory_for_description, used_of_described}
use Rattle.gob_go.specs.Machine.Stages.{IsWithinItem, StepsOn, goes_on, gives, refuses_it, no_memory, behind_described}
use Rattle.gob_go.proofs.Refusals.{nothing_described, nothing_readable}

-- ---- behind the number of the type

-- what is known of a description behind its type number a, which stands at the offset in a segment that ends there
pub record Describing (L : Bounds) (U : Table) (id : TypeId) (rest : Extent) (begin end : ℕ) (a : List ℕ) : Type 0 where
  pub size_is : ℕ
  pub id_is : id.0 ≡ size_is + 1
  pub number : IsSigned (negsuc size_is) a
  pub begins : rest.begin ≡ begin + length a
  pub ends : rest.end ≡ end
  pub order : begin + length a ≤ end
  pub may : MayDefine base_table L U id

pub describing : {L : Bounds} {U : Table} {stage : DescriptionStage} {begin end : ℕ} {a y : List ℕ}
    → DescriptionIs L U stage begin end a y → Describing L U stage.id stage.rest begin end a
describing h = record {
  size_is = h.size;
  id_is = h.id_is;
  number = h.number;
  begins = h.begins;
  ends = h.ends;
  order = h.order;
  may = h.may;
}

pub describes_on : {L : Bounds} {U : Table} {id : TypeId} {rest : Extent} {reader : BodyReader TreeBuilder Value}
    {begin end : ℕ} {a y : List ℕ} → Describing L U id rest begin end a
    → BodyHasRead U wire_type L.depth rest tree_building reader y
    → DescriptionIs L U (record { id = id; rest = rest; reader = reader }) begin end a y
describes_on h b = record {
  size = h.size_is;
  id_is = h.id_is;
  number = h.number;
  begins = h.begins;
  ends = h.ends;
  order = h.order;
  may = h.may;
  read = b;
}

-- ---- a description that is whole

made_spelled : {T : Table} {limit announced : ℕ} {d : Value} {z : List ℕ} → HasWireType T
    → IsMade T wire_type limit announced IsView d z → Spells T wire_type (view d) z
made_spelled w made = subst (λ v. Spells _ wire_type v _) (sym made.meant) (wire_spelled w made.spelled)

made_depth : {T : Table} {limit announced : ℕ} {d : Value} {z : List ℕ}
    → IsMade T wire_type limit announced IsView d z → depth (view d) ≤ limit
made_depth {limit = limit} made = subst (λ v. depth v ≤ limit) (sym made.meant) made.not_deep

pub record WholeDefinition (L : Bounds) (d d' : Defined) (id : TypeId) (v : Tree) (begin end : ℕ) (b : List ℕ) : Type
    0 where
  pub defined : Defines base_table L (types d) id v b (types d')
  pub all : begin + length b ≡ end
  pub most : d'.most ≡ d.most

pub whole_definition : {L : Bounds} {d d' : Defined} {id : TypeId} {rest : Extent} {begin end used : ℕ}
    {a y piece : List ℕ} {kept : Value} → HasWireType (types d) → Describing L (types d) id rest begin end a
    → IsDescribed (types d) L.depth rest y piece kept used → DefinesLoosely id (view kept) d d'
    → WholeDefinition L d d' id (view kept) begin end (a ++ (y ++ take used piece))
whole_definition {L = L} {d = d} {id = id} {rest = rest} {used = used} {a = a} {y = y} {piece = piece} {kept = kept} w h
    there given =
    let made = there.made in let all = made.all in let b = h.begins in let e = h.ends in let o = h.order in
    record {
      defined = subst (λ U. Defines base_table L (types d) id (view kept) (a ++ (y ++ take used piece)) U)
          (sym given.behind)
          (defines h.may (made_depth made) given.describes h.id_is h.number (made_spelled w made));
      all = omega (arith, length-append a (y ++ take used piece));
      most = given.most;
    }

-- ---- a description that is refused

pub data DescriptionFault (L : Bounds) (d d' : Defined) (begin end : ℕ) (w : List ℕ) : Fault → Type 0 where
  refused_there : {R : Refusal} → d' ≡ d
      → RefusesBody base_table L (types d) begin (end - begin) (take (end - begin) w) R
      → NothingStands base_table L (types d) (end - begin) (take (end - begin) w) → R.reason ≢ reason.Ended
      → DescriptionFault L d d' begin end w (fault.Refused R)
  without_memory : d' ≡ d → DescriptionFault L d d' begin end w fault.Memory

wrong_shown : {id : TypeId} {v : Tree} {r : Reason} → Misdescribes id v r → r ≢ reason.Ended
wrong_shown (kind_count p) e = cc
wrong_shown (wrong_id p q) e = cc
wrong_shown (bad_reference p q b) e = cc
wrong_shown (bad_length p q n b) e = cc

pub description_fault : {L : Bounds} {d d' : Defined} {id : TypeId} {rest : Extent} {begin end : ℕ} {a y : List ℕ}
    {f : Fault} (piece : List ℕ) → HasWireType (types d) → Describing L (types d) id rest begin end a
    → length y ≤ size rest → ReadsDescription d id L.depth rest y piece d' (Err f)
    → DescriptionFault L d d' begin end (a ++ (y ++ piece)) f
description_fault {L = L} {d = d} {d' = d'} {id = id} {rest = rest} {begin = begin} {end = end} {a = a} {y = y} piece w
    h l
    (description_refused {R = R} e first) =
    let b = h.begins in let n = h.ends in let o = h.order in
    let within : length a ≤ end - begin = omega arith in
    let size_is : size rest ≡ end - begin - length a = omega arith in
    let there = body_there a y piece (end - begin) (size rest) within size_is l in
    let first : IsFirst (types d) wire_type L.depth (end - begin - length a)
    (y ++ take (size rest - length y) piece) R =
    subst (λ n. IsFirst (types d) wire_type L.depth n (y ++ take (size rest - length y) piece) R) size_is first in
    rw h.begins (refused_there e
    (refused_description (y ++ take (size rest - length y) piece) there h.id_is h.number h.may first)
    (nothing_readable (y ++ take (size rest - length y) piece) w there h.id_is h.number h.may first)
    (refused_shown first.refused))
description_fault {L = L} {d = d} {d' = d'} {id = id} {rest = rest} {begin = begin} {end = end} {a = a} {y = y} piece w
    h l
    (describes_nothing {kept = kept} {used = used} {r = why} e read x) =
    let b = h.begins in let n = h.ends in let o = h.order in
    let made = read.made in let all = made.all in let within' = read.within in
    let within : length a ≤ end - begin = omega arith in
    let size_is : size rest ≡ end - begin - length a = omega arith in
    let count : size rest - length y ≡ used =
    omega (arith, length-append y (take used piece), length-take used piece) in
    let there = body_there a y piece (end - begin) (size rest) within size_is l
    ∙ ap (λ n. a ++ (y ++ take n piece)) count in
    let long : length (take (end - begin) (a ++ (y ++ piece))) ≡ end - begin =
    omega (arith, ap length there, length-append a (y ++ take used piece)) in
    let ends : rest.end ≡ begin + (end - begin) = omega arith in
    rw (h.begins, ends) (refused_there e
    (described_wrongly there long h.id_is h.number h.may (made_spelled w made) (made_depth made) x.strictly)
    (nothing_described there h.id_is h.number (made_spelled w made) x.none)
    (wrong_shown x.strictly))
description_fault piece w h l (no_memory_for_description e) = without_memory e

-- ---- what that is in an item

pub body_refused : {L : Bounds} {T U : Table} {offset m : ℕ} {body : Extent} {R : Refusal} {c y : List ℕ} (w : List ℕ)
    → IsCount L offset m c body → U ≡ T → y ≡ c ++ w
    → RefusesBody base_table L U body.begin (body.end - body.begin) (take (body.end - body.begin) w) R
    → NothingStands base_table L U (body.end - body.begin) (take (body.end - body.begin) w) → R.reason ≢ reason.Ended
    → RefusesWith L T offset y R U
body_refused {L = L} {T = T} {U = U} {offset = offset} {m = m} {body = body} {R = R} {c = c} w k same e b n shown =
    let begin = k.begin in let end = k.end in
    let size_is : body.end - body.begin ≡ m = omega arith in
    let b1 = subst (λ n. RefusesBody base_table L U body.begin n (take n w) R) size_is b in
    let b2 = subst (λ n. RefusesBody base_table L U n m (take m w) R) k.begin b1 in
    let b3 = subst (λ U. RefusesBody base_table L U (offset + length c) m (take m w) R) same b2 in
    let n1 = subst (λ m. NothingStands base_table L U m (take m w)) size_is n in
    let n2 = subst (λ U. NothingStands base_table L U m (take m w)) same n1 in
    record { refuses = refused_body w e k.count k.item k.stream b3 n2; table = same; shown = shown }

-- and behind a name
pub held_refused : {L : Bounds} {T U : Table} {offset left depth : ℕ} {lv : Level} {around : List Level} {R : Refusal}
    {z y : List ℕ} (w : List ℕ) → Stands base_table L T offset z U (lv ∷ around) (in_filling depth) left → y ≡ z ++ w
    → RefusesBody base_table L U (offset + length z) (lv.end - (offset + length z))
    (take (lv.end - (offset + length z)) w) R
    → NothingStands base_table L U (lv.end - (offset + length z)) (take (lv.end - (offset + length z)) w)
    → R.reason ≢ reason.Ended → RefusesWith L T offset y R U
held_refused w p e b n shown = record { refuses = refused_value e p (as_in_an_item b n); table = refl; shown = shown }

-- ---- a definition in an item of its own

definition_stops : {keep : Bool} {L : Bounds} {d d' : Defined} {T : Table} {offset m : ℕ} {body : Extent} {f : Fault}
    {c z piece w : List ℕ} → IsCount L offset m c body → types d ≡ T → z ++ piece ≡ c ++ w
    → DescriptionFault L d d' body.begin body.end w f → StepsOn keep L T offset d z piece d' (Err f)
definition_stops {L = L} {d = d} {T = T} {offset = offset} {z = z} {piece = piece} {w = w} k same e
    (refused_there {R = R} s b n shown) =
    refuses_it (subst (λ (d : Defined). RefusesWith L T offset (z ++ piece) R (types d)) (sym s)
    (body_refused w k same e b n shown))
definition_stops k same e (without_memory s) = no_memory (as_before (ap types s ∙ same))

-- so many bytes were taken with a description that is whole as its segment has
abbrev pub EndsAt : (taken : ℕ) → Extent → Described → Type 0
EndsAt taken rest (described.More description) = Unit {0}
EndsAt taken rest (described.Whole definition used) = taken + used ≡ rest.end

pub definition_steps : {keep : Bool} {L : Bounds} {d d' : Defined} {T : Table} {offset m : ℕ} {id : TypeId}
    {body rest : Extent}
    {said : Described} {c a y : List ℕ} (taken : ℕ) (piece : List ℕ) → IsCount L offset m c body → types d ≡ T
    → HasWireType (types d) → Describing L (types d) id rest body.begin body.end a
    → EndsAt taken rest said → ReadsDescription d id L.depth rest y piece d' (Ok said)
    → StepsOn keep L T offset d (c ++ (a ++ y)) piece d' (Ok (behind_described taken (length piece) said))
definition_steps {keep = keep} {L = L} {d = d} {d' = d'} {T = T} {offset = offset} {id = id} {rest = rest} {c = c}
    {a = a} {y = y}
    taken piece k
    same w h at (description_goes_on {reader = reader} s b) =
    let st = stage.Definition (record { description = record { id = id; rest = rest; reader = reader } }) in
    let now : StageHasRead keep L T offset (types d) st (c ++ (a ++ (y ++ piece))) =
    in_definition a (y ++ piece) same k (describes_on h b) in
    let there : c ++ (a ++ (y ++ piece)) ≡ (c ++ (a ++ y)) ++ take (length piece) piece =
    sym (ap (λ l. (c ++ (a ++ y)) ++ l) (take_whole piece (length piece) (omega arith)) ∙ three c a y piece) in
    goes_on (ap (λ (d : Defined). d.most) s) (omega arith)
    (subst (λ (d : Defined). StageHasRead keep L T offset (types d) st ((c ++ (a ++ y)) ++ take (length piece) piece))
    (sym s)
    (subst (λ z. StageHasRead keep L T offset (types d) st z) there now))
definition_steps {L = L} {d = d} {d' = d'} {T = T} {offset = offset} {m = m} {id = id} {rest = rest} {c = c} {a = a}
    {y = y} taken piece k
    same w h at (description_ends {kept = kept} {used = used} there given) =
    let whole = whole_definition w h there given in
    let all = whole.all in let begin = k.begin in let end = k.end in let stream = k.stream in let item = k.item in
    let ends = h.ends in
    let long : length (a ++ (y ++ take used piece)) ≡ m = omega arith in
    let split = three c a y (take used piece) in
    let size_is : length ((c ++ (a ++ y)) ++ take used piece) ≡ length c + m =
    omega (arith, ap length split, length-append c (a ++ (y ++ take used piece))) in
    let defined : Defines base_table L T id (view kept) (a ++ (y ++ take used piece)) (types d') =
    subst (λ T. Defines base_table L T id (view kept) (a ++ (y ++ take used piece)) (types d')) same whole.defined in
    let item' : IsFilledItem base_table L T offset (defining id (view kept)) (c ++ (a ++ (y ++ take used piece)))
    (types d') =
    of_definition (subst (λ n. IsUnsigned n c) (sym long) k.count) (omega arith)
    (omega (arith, length-append c (a ++ (y ++ take used piece)))) defined in
    gives whole.most there.within (subst (λ z. IsFilledItem base_table L T offset (defining id (view kept)) z
    (types d'))
    (sym split) item') (λ on. means_definition) (omega arith)

pub definition_fails : {keep : Bool} {L : Bounds} {d d' : Defined} {T : Table} {offset m : ℕ} {id : TypeId}
    {body rest : Extent}
    {f : Fault} {c a y : List ℕ} (piece : List ℕ) → IsCount L offset m c body → types d ≡ T → HasWireType (types d)
    → Describing L (types d) id rest body.begin body.end a → length y ≤ size rest
    → ReadsDescription d id L.depth rest y piece d' (Err f) → StepsOn keep L T offset d (c ++ (a ++ y)) piece d' (Err f)
definition_fails {c = c} {a = a} {y = y} piece k same w h l r =
    definition_stops k same (three c a y piece) (description_fault piece w h l r)

-- ---- where a reader stands in a definition

pub admitted : {L : Bounds} {d : Defined} {id : TypeId} → AreTypes L d → MayDefine base_table L (types d) id
    → Admits d id
admitted {d = d} known may =
    let most = known.most in let room = may.room in
    let grown = ap length known.base.grown in
    record { own = may.own; new = may.new; room = omega (arith, length-append base_table known.base.more) }

pub description_under_way : {L : Bounds} {U : Table} {description : DescriptionStage} {begin end : ℕ} {a y : List ℕ}
    → DescriptionIs L U description begin end a y
    → IsBodyUnderWay U wire_type description.rest tree_building description.reader
description_under_way {L = L} {y = y} h =
    let b = h.begins in let e = h.ends in let o = h.order in
    record { limit = L.depth; bytes = y; after = h.read.after; order = omega arith }

pub record ReadyToTake (L : Bounds) (d : Defined) (description : DescriptionStage) : Type 0 where
  pub has_read : IsBodyUnderWay (types d) wire_type description.rest tree_building description.reader
  pub admits : Admits d description.id

pub definition_ready : {keep : Bool} {L : Bounds} {d : Defined} {at : ℕ} {description : DescriptionStage}
    → IsWithinItem keep L d at (stage.Definition (record { description = description })) → ReadyToTake L d description
definition_ready {keep = keep} w = ready w.known w.in_item
  where
    ready : {L : Bounds} {d : Defined} {T : Table} {offset : ℕ} {description : DescriptionStage} {z : List ℕ}
        → AreTypes L d → StageHasRead keep L T offset (types d)
        (stage.Definition (record { description = description })) z
        → ReadyToTake L d description
    ready known (in_definition a y same k h) =
        record { has_read = description_under_way h; admits = admitted known h.may }

-- what reading the description answers, wherever it stood
abbrev pub ReadsSomewhere : (d : Defined) (description : DescriptionStage) (piece : List ℕ) (d' : Defined)
    → Result Described Fault → Type 0
ReadsSomewhere d description piece d' result = (limit : ℕ) (z : List ℕ)
    → ReaderHasRead (types d) wire_type limit (size description.rest) tree_building.received
    (under_way description.reader) z
    → ReadsDescription d description.id limit description.rest z piece d' result

room_left : {L : Bounds} {U : Table} {description : DescriptionStage} {begin end : ℕ} {a y : List ℕ}
    → DescriptionIs L U description begin end a y → length y < size description.rest
room_left h = h.read.viable.room

pub definition_failed : {keep : Bool} {L : Bounds} {d d' : Defined} {T : Table} {offset : ℕ} {z : List ℕ} {f : Fault}
    (description : DescriptionStage) (piece : List ℕ) → HasWireType (types d)
    → StageHasRead keep L T offset (types d) (stage.Definition (record { description = description })) z
    → ReadsSomewhere d description piece d' (Err f) → StepsOn keep L T offset d z piece d' (Err f)
definition_failed {L = L} description piece w (in_definition a y same k h) g =
    let r = room_left h in
    definition_fails piece k same w (describing h) (omega arith) (g L.depth y h.read.after)

pub definition_went : {keep : Bool} {L : Bounds} {d d' : Defined} {T : Table} {offset : ℕ} {z : List ℕ}
    {said : Described}
    (taken : ℕ) (description : DescriptionStage) (piece : List ℕ) → HasWireType (types d)
    → EndsAt taken description.rest said
    → StageHasRead keep L T offset (types d) (stage.Definition (record { description = description })) z
    → ReadsSomewhere d description piece d' (Ok said)
    → StepsOn keep L T offset d z piece d' (Ok (behind_described taken (length piece) said))
definition_went {L = L} taken description piece w at (in_definition a y same k h) g =
    definition_steps taken piece k same w (describing h) at (g L.depth y h.read.after)

pub ends_at : {L : Bounds} {d d' : Defined} {id : TypeId} {rest : Extent} {begin end : ℕ} {said : Described}
    {a y : List ℕ}
    (taken : ℕ) (piece : List ℕ) → Describing L (types d) id rest begin end a → taken ≡ begin + length (a ++ y)
    → ReadsDescription d id L.depth rest y piece d' (Ok said) → EndsAt taken rest said
ends_at taken piece h at (description_goes_on s b) = tt
ends_at {a = a} {y = y} taken piece h at (description_ends {used = used} there given) =
    let all = there.made.all in let within = there.within in let b = h.begins in let e = h.ends in let o = h.order in
    omega (
      arith,
      length-append a y,
      length-append y (take used piece),
      length-take used piece,
    )

pub definition_ends : {keep : Bool} {L : Bounds} {d d' : Defined} {T : Table} {offset taken : ℕ} {z : List ℕ}
    {said : Described}
    (description : DescriptionStage) (piece : List ℕ) → taken ≡ offset + length z
    → StageHasRead keep L T offset (types d) (stage.Definition (record { description = description })) z
    → ReadsSomewhere d description piece d' (Ok said) → EndsAt taken description.rest said
definition_ends {L = L} {taken = taken} description piece at (in_definition {c = c} a y same k h) g =
    let b = k.begin in
    ends_at taken piece (describing h) (omega (arith, length-append c (a ++ y))) (g L.depth y h.read.after)

-- the item ends where the stream may end, at the latest
pub definition_fits : {keep : Bool} {L : Bounds} {d d' : Defined} {T : Table} {offset taken : ℕ} {z : List ℕ}
    {said : Described}
    (description : DescriptionStage) (piece : List ℕ) → HasWireType (types d) → taken ≡ offset + length z
    → StageHasRead keep L T offset (types d) (stage.Definition (record { description = description })) z
    → ReadsSomewhere d description piece d' (Ok said) → taken + used_of_described said ≤ L.stream
definition_fits {L = L} {d = d} {d' = d'} {offset = offset} {taken = taken} {said = said} description piece w at
    (in_definition {m = m} {c = c} {body = body} a y same k h) g = fits (describing h) (room_left h)
    (g L.depth y h.read.after)
  where
    fits : {id : TypeId} {rest : Extent} {said : Described} → Describing L (types d) id rest body.begin body.end a
        → length y < size rest → ReadsDescription d id L.depth rest y piece d' (Ok said)
        → taken + used_of_described said ≤ L.stream
    fits h l (description_goes_on s b) =
        let b = k.begin in let e = k.end in let st = k.stream in let hb = h.begins in let he = h.ends in
        omega (arith, length-append c (a ++ y), length-append a y)
    fits h l (description_ends {used = used} there given) =
        let b = k.begin in let e = k.end in let st = k.stream in
        let whole = whole_definition w h there given in let all = whole.all in let n = there.within in
        omega (
          arith,
          length-append c (a ++ y),
          length-append a y,
          length-append a (y ++ take used piece),
          length-append y (take used piece),
          length-take used piece,
        )

pub definition_some : {keep : Bool} {L : Bounds} {d d' : Defined} {T : Table} {offset : ℕ} {z : List ℕ}
    {said : Described}
    (taken : ℕ) (description : DescriptionStage) (piece : List ℕ)
    → StageHasRead keep L T offset (types d) (stage.Definition (record { description = description })) z
    → ReadsSomewhere d description piece d' (Ok said) → 0 < length piece
    → 0 < (behind_described taken (length piece) said).used
definition_some {L = L} {d = d} {d' = d'} {said = said} taken description piece (in_definition a y same k h) g =
    some (room_left h) (g L.depth y h.read.after)
  where
    some : {id : TypeId} {rest : Extent} {said : Described} → length y < size rest
        → ReadsDescription d id L.depth rest y piece d' (Ok said) → 0 < length piece
        → 0 < (behind_described taken (length piece) said).used
    some l (description_goes_on s b) n = n
    some l (description_ends {used = used} there given) n =
        let all = there.made.all in omega (arith, length-append y (take used piece), length-take used piece)
