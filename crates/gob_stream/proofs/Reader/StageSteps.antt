-- What is known of a reader by what it expects, and what becomes of it where a piece is taken.
use Rattle.std.proofs.Common.{◌≡◌, ◌≢◌, ℕ, pos, negsuc, ◌+◌, ◌-◌, ◌<◌, ◌≤◌, min, List, [], ◌++◌, length, take, Result}
use Rattle.std.proofs.Common.{Ok, Err, IfOk, arith, refl, sym, ap, subst, length-append}
use Rattle.std.proofs.lemmas.List.{append-nil, length-take}
use Rattle.gob_num.specs.Unsigned.{IsUnsignedPrefix}
use Rattle.gob_num.specs.Signed.{IsSigned}
use Rattle.gob_num.proofs.PublicLaws.{begins_prefix}
use Rattle.gob_types.specs.declared.id.TypeId.{TypeId}
use Rattle.gob_types.specs.declared.reason.Reason.TheVariants as reason
use Rattle.gob_types.specs.Base.{base_table, wire_type}
use Rattle.gob_types.specs.Defined.{Defined, types}
use Rattle.gob_types.specs.Table.{Table}
use Rattle.gob_value.specs.Tree.{Tree}
use Rattle.gob_read.specs.Building.{Building}
use Rattle.gob_read.specs.Calls.Builders.{tree_building}
use Rattle.gob_read.specs.Viable.{IsViable}
use Rattle.gob_read.specs.Calls.Reader.{ReaderHasRead, IsMade}
use Rattle.gob_read.proofs.PublicLaws.{take_whole}
use Rattle.gob_stream.specs.declared.fault.Refusal.{Refusal}
use Rattle.gob_stream.specs.declared.fault.Fault.{Fault}
use Rattle.gob_stream.specs.declared.fault.Fault.TheVariants as fault
use Rattle.gob_stream.specs.declared.stage.Stage.{Stage}
use Rattle.gob_stream.specs.declared.stage.Stage.TheVariants as stage
use Rattle.gob_stream.specs.declared.stage.Extent.{Extent}
use Rattle.gob_stream.specs.declared.count.CountStage.{CountStage}
use Rattle.gob_stream.specs.declared.type_number.TypeNumberStage.{TypeNumberStage}
use Rattle.gob_stream.specs.declared.body.ValueStage.{ValueStage}
use Rattle.gob_stream.specs.declared.body.DescriptionStage.{DescriptionStage}
use Rattle.gob_stream.specs.declared.stage.Stepped.{Stepped}
use Rattle.gob_stream.specs.Bounds.{Bounds, greatest_depth}
use Rattle.gob_stream.specs.Body.{MayDefine, MayPut}
use Rattle.gob_stream.specs.Refusing.{refuses, RefusesCount, item_too_long, stream_too_long, short}
use Rattle.gob_stream.specs.Refusing as refusing
use Rattle.gob_stream.specs.Outcome.{RefusesNext, refused_count, refused_body}
use Rattle.gob_stream.specs.Machine.HasRead.{StageHasRead, in_count, in_type_number, in_value, in_description}
use Rattle.gob_stream.specs.Machine.HasRead.{IsCount, IsRest, BodyHasRead, size}
use Rattle.gob_stream.specs.Machine.ReadParts.{CountGoesOn, more_of_count, whole_count, IsCountRefused, count_refused}
use Rattle.gob_stream.specs.Machine.ReadParts.{empty_body, CountAnswers, AreTypes, IsWithinItem, HasWireType}
use Rattle.gob_stream.specs.Machine.ReadParts.{ReadsValueIn, value_goes_on, value_ends, value_refused}
use Rattle.gob_stream.specs.Machine.ReadParts.{no_memory_for_value, ReadsDescription, description_goes_on}
use Rattle.gob_stream.specs.Machine.ReadParts.{description_ends, description_refused, describes_nothing}
use Rattle.gob_stream.specs.Machine.ReadParts.{no_memory_for_description, StepsOn, goes_on, refuses_it, StageTakesOn}
use Rattle.gob_stream.specs.Machine.ReadParts.{StageAnswers}
use Rattle.gob_stream.proofs.Reader.ValueSteps.{stands_as, lies, value_steps}
use Rattle.gob_stream.proofs.Reader.DefinitionSteps.{description_steps}
use Rattle.gob_stream.proofs.Reader.NumberSteps.{number_taken}

-- ---- what is known by what is expected
pub record CountParts (offset : ℕ) (at : CountStage) (z : List ℕ) : Type 0 where
  pub begins : offset ≡ at.begin
  pub bytes : z ≡ at.number
  pub prefix : IsUnsignedPrefix at.number

pub record NumberParts (L : Bounds) (offset : ℕ) (at : TypeNumberStage) (z : List ℕ) : Type 0 where
  pub m : ℕ
  pub c : List ℕ
  pub count : IsCount L offset m c at.body
  pub prefix : IsUnsignedPrefix at.number
  pub room : length at.number < m
  pub whole : z ≡ c ++ at.number

pub record ValueParts {X O : Type 0} {most : ℕ} (building : Building X O most) (L : Bounds) (T : Table) (offset : ℕ)
    (at : ValueStage X O) (z : List ℕ) : Type 0 where
  pub m : ℕ
  pub c : List ℕ
  pub a : List ℕ
  pub y : List ℕ
  pub body : Extent
  pub count : IsCount L offset m c body
  pub number : IsSigned (pos at.id.0) a
  pub rest_is : IsRest body a at.rest
  pub may : MayPut T at.id
  pub behind : BodyHasRead T at.id L.depth at.rest building at.reader y
  pub whole : z ≡ c ++ (a ++ y)

pub record DescriptionParts (L : Bounds) (T : Table) (offset : ℕ) (at : DescriptionStage) (z : List ℕ) : Type 0 where
  pub m : ℕ
  pub n : ℕ
  pub c : List ℕ
  pub a : List ℕ
  pub y : List ℕ
  pub body : Extent
  pub count : IsCount L offset m c body
  pub below : at.id.0 ≡ n + 1
  pub number : IsSigned (negsuc n) a
  pub rest_is : IsRest body a at.rest
  pub may : MayDefine base_table L T at.id
  pub behind : BodyHasRead T wire_type (min L.depth greatest_depth) at.rest tree_building at.reader y
  pub whole : z ≡ c ++ (a ++ y)

abbrev pub PartsOf : {X O : Type 0} {most : ℕ} (building : Building X O most) (L : Bounds) (T : Table) (offset : ℕ)
    → Stage X O → List ℕ → Type 0
PartsOf building L T offset (stage.Count at) z = CountParts offset at z
PartsOf building L T offset (stage.TypeNumber at) z = NumberParts L offset at z
PartsOf building L T offset (stage.Value at) z = ValueParts building L T offset at z
PartsOf building L T offset (stage.Description at) z = DescriptionParts L T offset at z
PartsOf building L T offset stage.Failed z = ⊥

parts_of : {X O : Type 0} {most : ℕ} {building : Building X O most} {L : Bounds} {T : Table} {offset : ℕ}
    {expects : Stage X O} {z : List ℕ} → StageHasRead building L T offset expects z
    → PartsOf building L T offset expects z
parts_of (in_count f) = record { begins = refl; bytes = refl; prefix = f }
parts_of (in_type_number k f l) = record { m = _; c = _; count = k; prefix = f; room = l; whole = refl }
parts_of (in_value k s r p b) = record {
  m = _;
  c = _;
  a = _;
  y = _;
  body = _;
  count = k;
  number = s;
  rest_is = r;
  may =
      p;
  behind = b;
  whole = refl;
}
parts_of (in_description k n s r p b) = record {
  m = _;
  n = _;
  c = _;
  a = _;
  y = _;
  body = _;
  count = k;
  below = n;
  number = s;
  rest_is = r;
  may = p;
  behind = b;
  whole = refl;
}

pub parts : {X O : Type 0} {most : ℕ} {building : Building X O most} {L : Bounds} {T : Table} {offset : ℕ}
    {expects now : Stage X O} {z : List ℕ} → expects ≡ now → StageHasRead building L T offset expects z
    → PartsOf building L T offset now z
parts {building = building} {L = L} {T = T} {offset = offset} {z = z} e s =
    subst (λ expects. PartsOf building L T offset expects z) e (parts_of s)

-- ---- what is known of a reader within an item
-- some bytes of an item were taken, with which it expects this, and so many bytes of the stream
pub record UnderWay {X O : Type 0} {most : ℕ} (building : Building X O most) (L : Bounds) (d : Defined) (taken : ℕ)
    (expects : Stage X O) : Type 0 where
  pub offset : ℕ
  pub bytes : List ℕ
  pub parts : PartsOf building L (types d) offset expects bytes
  pub taken_is : taken ≡ offset + length bytes
  pub within : offset ≤ L.stream
  pub known : AreTypes L d

pub under_way : {X O : Type 0} {most : ℕ} {building : Building X O most} {L : Bounds} {d : Defined} {taken : ℕ}
    {expects now : Stage X O} → expects ≡ now → IsWithinItem building L d taken expects
    → UnderWay building L d taken now
under_way e w = record {
  offset = w.offset;
  bytes = w.bytes;
  parts = parts e w.in_item;
  taken_is = w.taken_is;
  within =
      w.within;
  known = w.known;
}

-- ---- a count
no_bytes : IsUnsignedPrefix []
no_bytes = begins_prefix {bytes = []} tt

-- limits of items and streams alike
pub record SameRoom (L M : Bounds) : Type 0 where
  pub item : L.item ≡ M.item
  pub stream : L.stream ≡ M.stream

same_count : {L M : Bounds} {offset m : ℕ} {c : List ℕ} {body : Extent} → SameRoom L M → IsCount L offset m c body
    → IsCount M offset m c body
same_count w k = let i = w.item in let s = w.stream in let j = k.item in let l = k.stream in
    record { count = k.count; item = omega arith; stream = omega arith; begin = k.begin; end = k.end }

same_refusal : {L M : Bounds} {offset : ℕ} {z : List ℕ} {R : Refusal} → SameRoom L M → RefusesCount L offset z R
    → RefusesCount M offset z R
same_refusal w (refusing.RefusesCount.bad_head h) = refusing.RefusesCount.bad_head h
same_refusal w (refusing.RefusesCount.not_minimal h) = refusing.RefusesCount.not_minimal h
same_refusal w (item_too_long r e u l) = let i = w.item in item_too_long r e u (omega arith)
same_refusal w (stream_too_long r e u l k) = let i = w.item in let s = w.stream in stream_too_long r e u (omega arith)
    (omega arith)

count_shown : {L : Bounds} {offset : ℕ} {z : List ℕ} {R : Refusal} → RefusesCount L offset z R → R.reason ≢ reason.Ended
count_shown (refusing.RefusesCount.bad_head h) e = cc
count_shown (refusing.RefusesCount.not_minimal h) e = cc
count_shown (item_too_long r e u l) f = cc
count_shown (stream_too_long r e u l k) f = cc

-- ---- how much of a piece is taken
-- bytes that stand don't end the body, so more of them are taken, and all of a piece that isn't longer than the rest
ended_some : {T : Table} {t : TypeId} {limit announced : ℕ} {O : Type 0} {means : O → Tree → Type 0} {out : O}
    {y : List ℕ} {used : ℕ} (piece : List ℕ) → IsViable T t limit announced y → used ≤ length piece
    → IsMade T t limit announced means out (y ++ take used piece) → announced ≡ length y + used
ended_some {announced = announced} {y = y} {used = used} piece i k made =
    let all : length (y ++ take used piece) ≡ announced = made.all in
    omega (arith, length-append y (take used piece), length-take used piece)

-- what is left of the body, by how much of the stream was taken
rest_left : {L : Bounds} {offset m taken : ℕ} {c a z : List ℕ} {body rest : Extent} (y : List ℕ)
    → IsCount L offset m c body → IsRest body a rest → z ≡ c ++ (a ++ y) → taken ≡ offset + length z
    → rest.end - taken ≡ size rest - length y
rest_left {c = c} {a = a} y k r e t =
    let lie = lies k r in let b = lie.begins in let f = lie.ends in
    omega (arith, ap length e, length-append c (a ++ y), length-append a y)

count_some : {X O : Type 0} {L : Bounds} {begin : ℕ} {number piece : List ℕ} {stepped : Stepped X O}
    → IsUnsignedPrefix number → 0 < length piece → CountGoesOn L begin number piece stepped → (0 < stepped.used)
    × (stepped.used ≤ length piece)
count_some f l (more_of_count g) = (l, omega arith)
count_some {piece = piece} f l (whole_count {used = used} w k p) = (number_taken piece used f k.count, w)

value_some : {X O : Type 0} {most : ℕ} {building : Building X O most} {T : Table} {t : TypeId} {limit : ℕ}
    {rest : Extent} {y piece : List ℕ} {result : Result (Stepped X O) Fault} → IsViable T t limit (size rest) y
    → 0 < length piece
    → ReadsValueIn building T t limit rest y piece result → IfOk result (λ stepped. 0 < stepped.used)
value_some i l (value_goes_on b) = l
value_some {piece = piece} i l (value_ends k made) = let n = ended_some piece i k made in let room = i.room in
    omega arith
value_some i l (value_refused f) = tt
value_some i l no_memory_for_value = tt

value_all : {X O : Type 0} {most : ℕ} {building : Building X O most} {T : Table} {t : TypeId} {limit : ℕ}
    {rest : Extent} {y piece : List ℕ} {result : Result (Stepped X O) Fault} → IsViable T t limit (size rest) y
    → length piece ≤ size rest - length y → ReadsValueIn building T t limit rest y piece result
    → IfOk result (λ stepped. stepped.used ≡ length piece)
value_all i l (value_goes_on b) = refl
value_all {piece = piece} i l (value_ends k made) = let n = ended_some piece i k made in omega arith
value_all i l (value_refused f) = tt
value_all i l no_memory_for_value = tt

description_some : {X O : Type 0} {d d' : Defined} {id : TypeId} {limit : ℕ} {rest : Extent} {y piece : List ℕ}
    {result : Result (Stepped X O) Fault}
    → IsViable (types d) wire_type limit (size rest) y → 0 < length piece
    → ReadsDescription {X = X} {O = O} d id limit rest y piece d' result
    → IfOk result (λ stepped. 0 < stepped.used)
description_some i l (description_goes_on e b) = l
description_some {piece = piece} i l (description_ends there given) = let n = ended_some piece i there.within there.made
    in let room = i.room in omega arith
description_some i l (description_refused e f) = tt
description_some i l (describes_nothing e there x) = tt
description_some i l (no_memory_for_description e) = tt

description_all : {X O : Type 0} {d d' : Defined} {id : TypeId} {limit : ℕ} {rest : Extent} {y piece : List ℕ}
    {result : Result (Stepped X O) Fault}
    → IsViable (types d) wire_type limit (size rest) y
    → length piece ≤ size rest - length y → ReadsDescription {X = X} {O = O} d id limit rest y piece d' result
    → IfOk result (λ stepped. stepped.used ≡ length piece)
description_all i l (description_goes_on e b) = refl
description_all {piece = piece} i l (description_ends there given) = let n = ended_some piece i there.within there.made
    in let k = there.within in omega arith
description_all i l (description_refused e f) = tt
description_all i l (describes_nothing e there x) = tt
description_all i l (no_memory_for_description e) = tt

-- ---- what a step answers
module _ {X O : Type 0} {most : ℕ} {building : Building X O most} where
  -- told by what was expected
  answers_by : {L : Bounds} {d d' : Defined} {taken : ℕ} {expects now : Stage X O} {piece : List ℕ}
      {result : Result (Stepped X O) Fault} → expects ≡ now
      → StageAnswers building L d taken now piece d' result → StageAnswers building L d taken
      expects piece d' result
  answers_by {L = L} {d = d} {d' = d'} {taken = taken} {piece = piece} {result = result} e s =
      subst (λ expects. StageAnswers building L d taken expects piece d' result) (sym e) s

  -- a count
  count_here : {L M : Bounds} {begin : ℕ} {d : Defined} {number piece : List ℕ} {stepped : Stepped X O} → SameRoom L M
      → CountGoesOn L begin number piece stepped
      → StepsOn building M d begin number piece d (Ok stepped)
  count_here {number = number} {piece = piece} w (more_of_count f) =
      goes_on refl (omega arith) (stands_as (ap (λ l. number ++ l) (take_whole piece (length piece) (omega arith)))
      (in_count f))
  count_here {number = number} {piece = piece} w (whole_count {used = used} l k p) =
      goes_on refl l (stands_as (sym (append-nil (number ++ take used piece))) (in_type_number (same_count w k) no_bytes
      p))

  count_stops : {L M : Bounds} {begin : ℕ} {d : Defined} {number piece : List ℕ} {R : Refusal} → SameRoom L M
      → IsCountRefused L begin (number ++ piece) R
      → StepsOn building M d begin number piece d (Err (fault.Refused R))
  count_stops w (count_refused q) = refuses_it refl (refused_count (same_refusal w q)) (count_shown q)
  count_stops {M = M} {begin = begin} {d = d} {number = number} {piece = piece} w (empty_body {c = c} r e u l) =
      let s = w.stream in
      let none : begin + length c + 0 ≡ begin + length c = omega arith in
      let next : RefusesNext base_table M (types d) begin (number ++ piece)
      (refuses (begin + length c + 0) (begin + length c + 0) reason.Short) =
      refused_body r e u (omega arith) (omega arith) (short refl no_bytes) in
      refuses_it refl (subst (λ n. RefusesNext base_table M (types d) begin (number ++ piece)
      (refuses n n reason.Short)) none next) (λ e. cc)

  there : {L : Bounds} {d : Defined} {offset : ℕ} {at : CountStage} {z piece : List ℕ}
      {result : Result (Stepped X O) Fault} → CountParts offset at z
      → StepsOn building L d at.begin at.number piece d result
      → StepsOn building L d offset z piece d result
  there p s = rw (p.begins, p.bytes) s

  count_takes : {L M : Bounds} {offset : ℕ} {d : Defined} {at : CountStage} {z piece : List ℕ}
      {result : Result (Stepped X O) Fault} → SameRoom L M → 0 < length piece
      → CountAnswers L at.begin at.number piece result → CountParts offset at z
      → StageTakesOn building M d offset z piece 1 d result
  count_takes {result = Ok stepped} w l s p = let n = count_some p.prefix l s in
      record { steps = there p (count_here w s); some = n.0; whole = λ few. omega arith }
  count_takes {result = Err (fault.Refused R)} w l s p = record {
    steps = there p (count_stops w s);
    some = tt;
    whole =
        λ few. tt;
  }
  count_takes {result = Err fault.Read} w l s p = absurd s
  count_takes {result = Err fault.Memory} w l s p = absurd s
  count_takes {result = Err fault.Failed} w l s p = absurd s

  pub count_answers : {L M : Bounds} {d : Defined} {taken : ℕ} {expects : Stage X O} {at : CountStage} {piece : List ℕ}
      {result : Result (Stepped X O) Fault} → expects ≡ stage.Count at
      → SameRoom L M → 0 < length piece → CountAnswers L at.begin at.number piece result
      → StageAnswers building M d taken expects piece d result
  count_answers e w l s = answers_by e (record { each = λ offset z t. count_takes w l s (parts refl t) })

  -- a type number
  number_takes : {L : Bounds} {d d' : Defined} {offset : ℕ} {at : TypeNumberStage} {z piece : List ℕ}
      {result : Result (Stepped X O) Fault}
      → ((offset m : ℕ) (c : List ℕ) → IsCount L offset m c at.body → StageTakesOn building L d offset (c
      ++ at.number) piece 1 d' result) → NumberParts L offset at z → StageTakesOn building L d offset z
      piece 1 d' result
  number_takes {offset = offset} r p = rw p.whole (r offset p.m p.c p.count)

  pub number_answers : {L : Bounds} {d d' : Defined} {taken : ℕ} {expects : Stage X O} {at : TypeNumberStage}
      {piece : List ℕ} {result : Result (Stepped X O) Fault} → expects ≡ stage.TypeNumber at
      → ((offset m : ℕ) (c : List ℕ) → IsCount L offset m c at.body → StageTakesOn building L d offset (c
      ++ at.number) piece 1 d' result) → StageAnswers building L d taken expects piece d' result
  number_answers e r = answers_by e (record { each = λ offset z t. number_takes r (parts refl t) })

  -- a value
  value_taken : {L : Bounds} {d : Defined} {offset : ℕ} {at : ValueStage X O} {z piece : List ℕ}
      {result : Result (Stepped X O) Fault}
      → ((limit : ℕ) (y : List ℕ) → ReaderHasRead (types d) at.id limit (size at.rest) building.received at.reader.run y
      → ReadsValueIn building (types d) at.id limit at.rest y piece result)
      → ValueParts building L (types d) offset at z
      → StepsOn building L d offset z piece d result
  value_taken {L = L} {piece = piece} r p =
      rw p.whole (value_steps p.c p.a p.y piece p.count p.number p.rest_is p.may (let room = p.behind.viable.room in
      omega arith) (r L.depth p.y p.behind.after))

  -- a description
  description_taken : {L : Bounds} {d d' : Defined} {offset : ℕ} {at : DescriptionStage} {z piece : List ℕ}
      {result : Result (Stepped X O) Fault}
      → HasWireType (types d) → ((limit : ℕ) (y : List ℕ) → ReaderHasRead (types d) wire_type limit
      (size at.rest) tree_building.received at.reader.run y → ReadsDescription d at.id limit at.rest y piece d' result)
      → DescriptionParts L (types d) offset at z
      → StepsOn building L d offset z piece d' result
  description_taken {L = L} {piece = piece} h r p =
      rw p.whole (description_steps p.c p.a p.y piece p.count p.below p.number p.rest_is p.may h (let room =
      p.behind.viable.room in omega arith) (r (min L.depth greatest_depth) p.y p.behind.after))

  -- all of what is left, where the piece isn't longer
  value_takes : {L : Bounds} {d : Defined} {offset taken : ℕ} {at : ValueStage X O} {z piece : List ℕ}
      {result : Result (Stepped X O) Fault}
      → UnderWay building L d taken (stage.Value at) → 0 < length piece
      → ((limit : ℕ) (y : List ℕ) → ReaderHasRead (types d) at.id limit (size at.rest) building.received at.reader.run y
      → ReadsValueIn building (types d) at.id limit at.rest y piece result)
      → ValueParts building L (types d) offset at z → StageTakesOn building L d offset z piece
      (at.rest.end - taken) d result
  value_takes {L = L} {taken = taken} {at = at} w l r p =
      let q = w.parts in
      let read = r L.depth q.y q.behind.after in
      record {
        steps = value_taken r p;
        some = value_some q.behind.viable l read;
        whole = λ few. value_all q.behind.viable (let n = rest_left q.y q.count q.rest_is q.whole w.taken_is in
            omega arith) read;
      }

  description_takes : {L : Bounds} {d d' : Defined} {offset taken : ℕ} {at : DescriptionStage} {z piece : List ℕ}
      {result : Result (Stepped X O) Fault}
      → UnderWay building L d taken (stage.Description at) → 0 < length piece
      → ((limit : ℕ) (y : List ℕ) → ReaderHasRead (types d) wire_type limit (size at.rest) tree_building.received
      at.reader.run y
      → ReadsDescription d at.id limit at.rest y piece d' result)
      → DescriptionParts L (types d) offset at z → StageTakesOn building L d offset z piece
      (at.rest.end - taken) d' result
  description_takes {L = L} {taken = taken} {at = at} w l r p =
      let q = w.parts in
      let read = r (min L.depth greatest_depth) q.y q.behind.after in
      record {
        steps = description_taken w.known.base r p;
        some = description_some q.behind.viable l read;
        whole = λ few. description_all q.behind.viable (let n = rest_left q.y q.count q.rest_is q.whole w.taken_is in
            omega arith) read;
      }

  pub value_answers : {L : Bounds} {d : Defined} {taken : ℕ} {expects : Stage X O} {at : ValueStage X O}
      {piece : List ℕ} {result : Result (Stepped X O) Fault} → expects ≡ stage.Value at
      → UnderWay building L d taken (stage.Value at) → 0 < length piece
      → ((limit : ℕ) (y : List ℕ) → ReaderHasRead (types d) at.id limit (size at.rest) building.received at.reader.run y
      → ReadsValueIn building (types d) at.id limit at.rest y piece result)
      → StageAnswers building L d taken expects piece d result
  value_answers e w l r = answers_by e (record { each = λ offset z t. value_takes w l r (parts refl t) })

  pub description_answers : {L : Bounds} {d d' : Defined} {taken : ℕ} {expects : Stage X O} {at : DescriptionStage}
      {piece : List ℕ} {result : Result (Stepped X O) Fault} → expects ≡ stage.Description at
      → UnderWay building L d taken (stage.Description at) → 0 < length piece
      → ((limit : ℕ) (y : List ℕ) → ReaderHasRead (types d) wire_type limit (size at.rest) tree_building.received
      at.reader.run y
      → ReadsDescription d at.id limit at.rest y piece d' result) → StageAnswers building L d taken
      expects piece d' result
  description_answers e w l r = answers_by e (record { each = λ offset z t. description_takes w l r (parts refl t) })
