-- A definition behind a name begins, and goes on or ends with the first bytes behind its number.
use Rattle.std.proofs.Common.{Bool}
use Rattle.std.proofs.Common.{◌≡◌, ℕ, ◌+◌, ◌-◌, ◌<◌, ◌≤◌, List, [], ◌++◌, length, take, Result, Ok, Err}
use Rattle.std.proofs.Common.{arith, sym, subst, append_assoc, length-append}
use Rattle.gob_types.specs.declared.id.TypeId.{TypeId}
use Rattle.gob_types.specs.Table.{Table}
use Rattle.gob_types.specs.Defined.{Defined, types}
use Rattle.gob_read.proofs.PublicLaws.{append_nil}
use Rattle.gob_stream.specs.declared.fault.Fault.{Fault}
use Rattle.gob_stream.specs.declared.fault.Fault.TheVariants as fault
use Rattle.gob_stream.specs.declared.stage.Extent.{Extent}
use Rattle.gob_stream.specs.Bounds.{Bounds, greatest_stream}
use Rattle.gob_stream.specs.Refusing.{refuses, refused_id}
use Rattle.gob_stream.specs.Machine.ReadParts.{HasWireType}
use Rattle.gob_stream.proofs.Reader.DefinitionSteps.{id_shown}
use Rattle.gob_stream.proofs.Reader.ValueSteps.{take_over}
use Rattle.gob_go.specs.Reading.{within_value}
use Rattle.gob_go.specs.declared.description.Described.{Described}
use Rattle.gob_go.specs.declared.description.DescriptionStage.{DescriptionStage}
use Rattle.gob_go.specs.declared.levels.Levels.{Levels}
use Rattle.gob_go.specs.declared.part.PartTaken.{PartTaken}
use Rattle.gob_go.specs.Machine.HasRead.{no_end}
use Rattle.gob_go.specs.Machine.Held.{AwaitsType, awaits_type, IsBehindNumber, HeldNumberSteps}
use Rattle.gob_go.specs.Machine.Parts.{BeginsDescription, HeldBehind}
use Rattle.gob_go.specs.Machine.Parts.{used_of_described}
use Rattle.gob_go.specs.Machine.Stages.{PartSteps, part_refused, no_memory_for_part, negative, IsNumberOf}
use Rattle.gob_go.specs.Machine.Stages.{of_definition}
use Rattle.gob_go.proofs.DefinitionSteps.{Describing, description_fault, ends_at, held_refused, ReadsSomewhere}
use Rattle.gob_go.proofs.HeldDefinitionSteps.{held_description_goes, held_count_fails, held_stopped, FitsAround}
use Rattle.gob_go.proofs.HeldDefinitionSteps.{ends_around}
use Rattle.gob_go.proofs.NextCountSteps.{same_end, open_ends}
use Rattle.gob_go.proofs.Refusals.{nothing_identified}
use Rattle.gob_go.proofs.TypeNumberSteps.{Begun, begun_read, begun_describing, begun_fits}

-- ---- a definition begins

definition_denied : {keep : Bool} {L : Bounds} {d : Defined} {T : Table} {offset at : ℕ} {levels : Levels}
    {rest : Extent}
    {id : TypeId} {z a : List ℕ} (levels' : Levels) (piece : List ℕ) (f : Fault)
    → AwaitsType keep L T offset (types d) levels rest z → IsNumberOf negative id a → at ≡ rest.begin + length a
    → at ≤ rest.end → BeginsDescription L d rest.begin at rest.end id (Err f)
    → PartSteps keep L T offset d (z ++ a) piece levels' d (Err f)
definition_denied {keep = keep} {L = L} {d = d} {T = T} {offset = offset} {at = at} {rest = rest} {a = a} levels' piece
    (fault.Refused R) (awaits_type {z = z} {lv = lv} p said nil others held b e) (of_definition i s) t l q =
    let room = lv.end - (offset + length z) in
    let there = take_over a piece room (omega arith) in
    let more = take (room - length a) piece in
    let refused : PartSteps keep L T offset d (z ++ a) piece levels' d
    (Err (fault.Refused (refuses rest.begin at q.0))) =
    rw (t, b) (part_refused (held_refused (a ++ piece) p (append_assoc z a piece) (refused_id more there i s q.1)
    (nothing_identified more there i s q.1) (id_shown q.1))) in
    subst (λ R. PartSteps keep L T offset d (z ++ a) piece levels' d (Err (fault.Refused R))) (sym q.2) refused
definition_denied {a = a} levels' piece fault.Memory (awaits_type {z = z} p said nil others held b e) n t l q =
    no_memory_for_part (within_value (a ++ piece) p (append_assoc z a piece))
definition_denied levels' piece fault.Read w n t l q = absurd q
definition_denied levels' piece fault.Failed w n t l q = absurd q

pub held_denied : {keep : Bool} {L : Bounds} {d : Defined} {at : ℕ} {levels : Levels} {rest : Extent} {id : TypeId}
    (levels' : Levels) (piece : List ℕ) (f : Fault) → BeginsDescription L d rest.begin at rest.end id (Err f)
    → HeldNumberSteps keep L d d at levels levels' rest (IsNumberOf negative id) piece (Err f)
held_denied levels' piece f q =
    record { each = λ T offset z a w n t l. definition_denied levels' piece f w n t l q }

-- what is known of it where its number stands behind a name
describing_there : {L : Bounds} {d : Defined} {at begin end place last : ℕ} {id : TypeId} {a : List ℕ}
    {stage : DescriptionStage} → place ≡ begin → last ≡ end → IsNumberOf negative id a → at ≡ place + length a
    → at ≤ last → Begun L d at last id stage → Describing L (types d) stage.id stage.rest begin end a
describing_there {L = L} {d = d} {at = at} {begin = begin} {end = end} {id = id} {stage = stage} b e n t l g =
    begun_describing {begin = begin} {end = end} n (omega arith) (omega arith)
    (subst (λ last. Begun L d at last id stage) e g)

definition_fails : {keep : Bool} {L : Bounds} {d d' : Defined} {T : Table} {offset at : ℕ} {levels : Levels}
    {rest : Extent}
    {id : TypeId} {z a : List ℕ} {f : Fault} (levels' : Levels) (stage : DescriptionStage) (piece : List ℕ)
    → AwaitsType keep L T offset (types d) levels rest z → IsNumberOf negative id a → at ≡ rest.begin + length a
    → at ≤ rest.end → HasWireType (types d) → Begun L d at rest.end id stage → ReadsSomewhere d stage piece d' (Err f)
    → PartSteps keep L T offset d (z ++ a) piece levels' d' (Err f)
definition_fails {L = L} {a = a} levels' stage piece (awaits_type {z = z} p said nil others held b e) n t l w g reads =
    held_stopped levels' (a ++ piece) p (append_assoc z a piece)
    (description_fault {y = []} piece w (describing_there b e n t l g) (omega arith) (reads L.depth [] (begun_read g)))

pub held_begins_wrong : {keep : Bool} {L : Bounds} {d d' : Defined} {at : ℕ} {levels : Levels} {rest : Extent}
    {id : TypeId}
    {f : Fault} (levels' : Levels) (stage : DescriptionStage) (piece : List ℕ) → HasWireType (types d)
    → Begun L d at rest.end id stage → ReadsSomewhere d stage piece d' (Err f)
    → HeldNumberSteps keep L d d' at levels levels' rest (IsNumberOf negative id) piece (Err f)
held_begins_wrong levels' stage piece w g reads =
    record { each = λ T offset z a s n t l. definition_fails levels' stage piece s n t l w g reads }

definition_goes : {keep : Bool} {L : Bounds} {d d' : Defined} {T : Table} {offset at : ℕ} {levels levels' : Levels}
    {rest : Extent}
    {id : TypeId} {z a : List ℕ} (said : Described) (stage : DescriptionStage) (piece : List ℕ)
    (result : Result PartTaken Fault) → AwaitsType keep L T offset (types d) levels rest z → IsNumberOf negative id a
    → at ≡ rest.begin + length a → at ≤ rest.end → HasWireType (types d) → at + used_of_described said < no_end
    → Begun L d at rest.end id stage → ReadsSomewhere d stage piece d' (Ok said)
    → HeldBehind levels levels' at (length piece) said result
    → PartSteps keep L T offset d (z ++ a) piece levels' d' result
definition_goes {keep = keep} {L = L} {d = d} {d' = d'} {T = T} {offset = offset} {at = at} {levels' = levels'}
    {a = a} said stage
    piece (Ok more) (awaits_type {z = z} p opened nil others held b e) n t l w fits g reads k =
    let h = describing_there b e n t l g in
    let there = reads L.depth [] (begun_read g) in
    let ends = ends_at at piece h (omega (arith, length-append a [])) there in
    subst (λ a. PartSteps keep L T offset d (z ++ a) piece levels' d' (Ok more)) (append_nil a)
    (held_description_goes at said piece w p opened nil others held h ends there k)
definition_goes {keep = keep} {L = L} {d = d} {d' = d'} {T = T} {offset = offset} {at = at} {levels' = levels'}
    {a = a} said stage
    piece (Err f) (awaits_type {z = z} p opened nil others held b e) n t l w fits g reads k =
    let h = describing_there b e n t l g in
    let there = reads L.depth [] (begun_read g) in
    let ends = ends_at at piece h (omega (arith, length-append a [])) there in
    subst (λ a. PartSteps keep L T offset d (z ++ a) piece levels' d' (Err f)) (append_nil a)
    (held_count_fails at said piece f w fits p others h ends there k)

pub held_begins : {keep : Bool} {L : Bounds} {d d' : Defined} {levels levels' : Levels} {rest : Extent}
    {id : TypeId} (at : ℕ)
    (said : Described) (stage : DescriptionStage) (piece : List ℕ) (result : Result PartTaken Fault)
    → HasWireType (types d) → at + used_of_described said < no_end → Begun L d at rest.end id stage
    → ReadsSomewhere d stage piece d' (Ok said) → HeldBehind levels levels' at (length piece) said result
    → HeldNumberSteps keep L d d' at levels levels' rest (IsNumberOf negative id) piece result
held_begins at said stage piece result w fits g reads k =
    record { each = λ T offset z a s n t l. definition_goes said stage piece result s n t l w fits g reads k }

-- it ends within its segment, and that within the one around it
pub held_begun_fits : {keep : Bool} {L : Bounds} {d d' : Defined} {at : ℕ} {levels : Levels} {rest : Extent}
    {id : TypeId}
    (said : Described) (stage : DescriptionStage) (piece : List ℕ) → L.stream ≤ greatest_stream
    → IsBehindNumber keep L d at levels rest (IsNumberOf negative id) → Begun L d at rest.end id stage
    → ReadsSomewhere d stage piece d' (Ok said) → FitsAround levels (at + used_of_described said)
held_begun_fits {keep = keep} {L = L} {d = d} {at = at} {levels = levels} {rest = rest} said stage piece most w g
    reads =
    from (begun_fits rest.begin said piece w.numbered w.taken_is w.within g reads) w.awaits
  where
    from : {T : Table} {offset : ℕ} {z : List ℕ} → at + used_of_described said ≤ rest.end
        → AwaitsType keep L T offset (types d) levels rest z → FitsAround levels (at + used_of_described said)
    from few (awaits_type {around = around} p opened nil others held b e) =
        let stream = open_ends p in let within = ends_around around most p in let same = same_end others.outer in
        record { fits = omega (arith, most, few); order = omega (arith, few) }
