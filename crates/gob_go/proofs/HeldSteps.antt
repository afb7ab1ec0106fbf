-- What stands behind a name: definitions, and the concrete type.
use Rattle.std.proofs.Common.{Bool}
use Rattle.std.proofs.Common.{◌≡◌, ◌≢◌, ℕ, ◌+◌, ◌-◌, ◌≤◌, List, [], ◌∷◌, ◌++◌, length, take, drop, Some, Result}
use Rattle.std.proofs.Common.{Ok, Err, arith, refl, sym, ap, ◌∙◌, subst, append_assoc, length-append, length-drop}
use Rattle.std.proofs.lemmas.List.{length-take}
use Rattle.gob_num.specs.Unsigned.{IsUnsigned}
use Rattle.gob_num.proofs.PublicLaws.{begins_prefix}
use Rattle.gob_types.specs.declared.id.TypeId.{TypeId}
use Rattle.gob_types.specs.declared.reason.Reason.TheVariants as reason
use Rattle.gob_types.specs.Base.{base_table}
use Rattle.gob_types.specs.Table.{Table}
use Rattle.gob_types.specs.Defined.{Defined, types}
use Rattle.gob_read.proofs.PublicLaws.{take_whole, append_nil}
use Rattle.gob_stream.specs.declared.fault.Fault.{Fault}
use Rattle.gob_stream.specs.declared.fault.Fault.TheVariants as fault
use Rattle.gob_stream.specs.declared.fault.Refusal.{Refusal}
use Rattle.gob_stream.specs.declared.stage.Extent.{Extent}
use Rattle.gob_stream.specs.Bounds.{Bounds}
use Rattle.gob_stream.specs.Refusing.{refused_type}
use Rattle.gob_stream.proofs.Reader.ValueSteps.{take_over, type_shown}
use Rattle.gob_filled.specs.Outcome.{refused_value, inner_count}
use Rattle.gob_filled.specs.Outcome as outcome
use Rattle.gob_filled.specs.Standing.{Level, in_filling, Stands}
use Rattle.gob_go.specs.Reading.{within_value}
use Rattle.gob_go.specs.declared.inner_count.InnerCount.{InnerCount}
use Rattle.gob_go.specs.declared.levels.Levels.{Levels}
use Rattle.gob_go.specs.declared.number.NumberStage.{NumberStage}
use Rattle.gob_go.specs.declared.number.NumberTaken.TheVariants as taken
use Rattle.gob_go.specs.declared.part.PutPart.TheVariants as part
use Rattle.gob_go.specs.declared.part.PartTaken.{PartTaken}
use Rattle.gob_go.specs.Machine.HasRead.{PartHasRead, in_held_number, in_inner_count, NumberIs}
use Rattle.gob_go.specs.Machine.Held.{AwaitsType, awaits_type, IsBehindNumber, HeldNumberSteps}
use Rattle.gob_go.specs.Machine.Parts.{NumberAnswers, NumberIsWhole, ConcreteType, ConcreteRefused, type_refused}
use Rattle.gob_go.specs.Machine.Parts.{nothing_behind}
use Rattle.gob_go.specs.Machine.Stages.{IsInPut, PartSteps, part_goes_on, item_ends, part_refused, no_memory_for_part}
use Rattle.gob_go.specs.Machine.Stages.{Sign, positive, IsNumberOf, of_value}
use Rattle.gob_go.proofs.NumberStages.{AtNumber, at_number, number_goes_on, number_begins, number_is_whole}
use Rattle.gob_go.proofs.NumberStages.{NumberFault, number_fault, fault_of_number}
use Rattle.gob_go.proofs.Refusals.{body_numbered, nothing_numbered, number_shown, nothing_typed}
use Rattle.gob_go.proofs.DefinitionSteps.{held_refused}
use Rattle.gob_go.proofs.NextCountSteps.{open_ends}
use Rattle.gob_go.proofs.PutSteps.{part_behind, part_stopped_behind}

-- ---- the number

pub held_at_number : {keep : Bool} {L : Bounds} {d : Defined} {at : ℕ} {levels : Levels} {number : NumberStage}
    → IsInPut keep L d at levels (part.TypeNumber (record { number = number })) → AtNumber number at
held_at_number {keep = keep} w = from w.has_read w.taken_is
  where
    from : {L : Bounds} {T U : Table} {offset at : ℕ} {levels : Levels} {number : NumberStage} {z : List ℕ}
        → PartHasRead keep L T offset U levels (part.TypeNumber (record { number = number })) z → at ≡ offset + length z
        → AtNumber number at
    from (in_held_number {z = z} a p said nil others held n) t = at_number n (omega (arith, length-append z a))

-- it ends where the stream may end, at the latest
pub held_bounded : {keep : Bool} {L : Bounds} {d : Defined} {at : ℕ} {levels : Levels} {number : NumberStage}
    → IsInPut keep L d at levels (part.TypeNumber (record { number = number })) → number.rest.end ≤ L.stream
held_bounded {keep = keep} w = end_of w.has_read
  where
    end_of : {L : Bounds} {T U : Table} {offset : ℕ} {levels : Levels} {number : NumberStage} {z : List ℕ}
        → PartHasRead keep L T offset U levels (part.TypeNumber (record { number = number })) z
        → number.rest.end ≤ L.stream
    end_of (in_held_number a p said nil others held n) = let ends = n.ends in let within = open_ends p in omega arith

pub held_more : {keep : Bool} {L : Bounds} {d : Defined} {T : Table} {offset : ℕ} {levels : Levels}
    {old new : NumberStage}
    {z : List ℕ}
    (piece : List ℕ) → PartHasRead keep L T offset (types d) levels (part.TypeNumber (record { number = old })) z
    → NumberAnswers old new piece (Ok taken.More) → new.rest ≡ old.rest
    → PartSteps keep L T offset d z piece levels d
    (Ok (record { used = length piece; next = Some (part.TypeNumber (record { number = new })) }))
held_more {keep = keep} {L = L} {d = d} {T = T} {offset = offset} {levels = levels} {new = new} piece
    (in_held_number {z = z} a p said nil others held n) h r =
    let there : z ++ (a ++ piece) ≡ (z ++ a) ++ take (length piece) piece =
    sym (ap (λ p. (z ++ a) ++ p) (take_whole piece (length piece) (omega arith)) ∙ append_assoc z a piece) in
    part_goes_on refl (omega arith)
    (subst (λ z. PartHasRead keep L T offset (types d) levels (part.TypeNumber (record { number = new })) z) there
    (in_held_number (a ++ piece) p said nil others held (number_goes_on piece n h r)))

pub held_stops : {keep : Bool} {L : Bounds} {d : Defined} {T : Table} {offset : ℕ} {levels : Levels}
    {old : NumberStage} {z : List ℕ}
    (levels' : Levels) (piece : List ℕ) (new : NumberStage) (f : Fault)
    → PartHasRead keep L T offset (types d) levels (part.TypeNumber (record { number = old })) z
    → NumberAnswers old new piece (Err f) → PartSteps keep L T offset d z piece levels' d (Err f)
held_stops {keep = keep} {L = L} {d = d} {T = T} {offset = offset} levels' piece new f
    (in_held_number {z = z} {lv = lv} a p said nil others held n) h = refused_by (fault_of_number piece new f n h)
  where
    refused_by : {f : Fault} → NumberFault (offset + length z) lv.end (a ++ piece) f
        → PartSteps keep L T offset d (z ++ a) piece levels' d (Err f)
    refused_by (number_fault r) = part_refused (held_refused (a ++ piece) p (append_assoc z a piece) (body_numbered r)
        (nothing_numbered r) (number_shown r))

-- ---- behind a whole number

-- the reader stands behind the number, wherever it stood within it
pub held_whole : {keep : Bool} {L : Bounds} {d : Defined} {at behind whole used : ℕ} {levels : Levels}
    {old : NumberStage}
    (new : NumberStage) (piece : List ℕ) → IsInPut keep L d at levels (part.TypeNumber (record { number = old }))
    → NumberIsWhole old piece whole used → new.rest ≡ old.rest → behind ≡ at + used
    → IsBehindNumber keep L d behind levels new.rest (IsUnsigned whole)
held_whole {keep = keep} {L = L} {d = d} {at = at} {behind = behind} {whole = whole} {used = used} {levels = levels}
    {old = old} new
    piece w h r b = from w.has_read w.taken_is
  where
    from : {T : Table} {offset : ℕ} {z : List ℕ}
        → PartHasRead keep L T offset (types d) levels (part.TypeNumber (record { number = old })) z
        → at ≡ offset + length z → IsBehindNumber keep L d behind levels new.rest (IsUnsigned whole)
    from {T = T} {offset = offset} (in_held_number {z = z} a p said nil others held n) t =
        let w' = number_is_whole n h in let l = w'.within in let room = w'.room in
        let nb = n.begins in let ne = n.ends in
        let rb = ap (λ (x : Extent). x.begin) r in let re = ap (λ (x : Extent). x.end) r in
        record {
          table = T;
          offset = offset;
          bytes = z;
          number = a ++ take used piece;
          awaits = awaits_type p said nil others held (rb ∙ nb) (re ∙ ne);
          numbered = w'.spelled;
          taken_is = omega (
            arith,
            length-append z a,
            length-append a (take used piece),
            length-take used piece,
          );
          within = omega (arith, length-append z a);
          known = w.known;
        }

held_behind : {keep : Bool} {L : Bounds} {d d' : Defined} {T : Table} {offset at behind whole used : ℕ}
    {levels levels' : Levels}
    {old : NumberStage} {z : List ℕ} {result : Result PartTaken Fault} (new : NumberStage) (piece rest : List ℕ)
    → rest ≡ drop used piece
    → PartHasRead keep L T offset (types d) levels (part.TypeNumber (record { number = old })) z
    → NumberIsWhole old piece whole used → new.rest ≡ old.rest → AtNumber old at → behind ≡ at + used
    → HeldNumberSteps keep L d d' behind levels levels' new.rest (IsUnsigned whole) rest result
    → PartSteps keep L T offset d (z ++ take used piece) (drop used piece) levels' d' result
held_behind {keep = keep} {L = L} {d = d} {d' = d'} {T = T} {offset = offset} {used = used} {levels' = levels'}
    {result = result} new
    piece rest e (in_held_number {z = z} a p said nil others held n) h r t b steps =
    let w = number_is_whole n h in let l = w.within in let room = w.room in
    let rb = ap (λ (x : Extent). x.begin) r in let re = ap (λ (x : Extent). x.end) r in
    let nb = n.begins in let ne = n.ends in let ti = t.taken_is in let len = ap length n.bytes in
    let on = steps.each T offset z (a ++ take used piece) (awaits_type p said nil others held (rb ∙ nb) (re ∙ ne))
    w.spelled (omega (arith, length-append a (take used piece), length-take used piece)) (omega arith) in
    subst (λ x. PartSteps keep L T offset d ((z ++ a) ++ take used piece) x levels' d' result) e
    (subst (λ y. PartSteps keep L T offset d y rest levels' d' result) (sym (append_assoc z a (take used piece))) on)

pub held_further : {keep : Bool} {L : Bounds} {d d' : Defined} {T : Table} {offset at behind whole used : ℕ}
    {levels levels' : Levels}
    {old : NumberStage} {z : List ℕ} {more : PartTaken} (new : NumberStage) (piece rest : List ℕ)
    → rest ≡ drop used piece
    → PartHasRead keep L T offset (types d) levels (part.TypeNumber (record { number = old })) z
    → NumberIsWhole old piece whole used → new.rest ≡ old.rest → AtNumber old at → behind ≡ at + used
    → HeldNumberSteps keep L d d' behind levels levels' new.rest (IsUnsigned whole) rest (Ok more)
    → PartSteps keep L T offset d z piece levels' d' (Ok (record { used = used + more.used; next = more.next }))
held_further {used = used} {more = more} new piece rest e s h r t b steps =
    part_behind used more (held_behind new piece rest e s h r t b steps) h.within

pub held_stopped_behind : {keep : Bool} {L : Bounds} {d d' : Defined} {T : Table} {offset at behind whole used : ℕ}
    {levels levels' : Levels} {old : NumberStage} {z : List ℕ} (new : NumberStage) (piece rest : List ℕ) (f : Fault)
    → rest ≡ drop used piece
    → PartHasRead keep L T offset (types d) levels (part.TypeNumber (record { number = old })) z
    → NumberIsWhole old piece whole used → new.rest ≡ old.rest → AtNumber old at → behind ≡ at + used
    → HeldNumberSteps keep L d d' behind levels levels' new.rest (IsUnsigned whole) rest (Err f)
    → PartSteps keep L T offset d z piece levels' d' (Err f)
held_stopped_behind {used = used} new piece rest f e s h r t b steps =
    part_stopped_behind used f (held_behind new piece rest e s h r t b steps)

few_taken : {keep : Bool} {L : Bounds} {T : Table} {offset : ℕ} {d d' : Defined} {z piece : List ℕ} {levels : Levels}
    {more : PartTaken} → PartSteps keep L T offset d z piece levels d' (Ok more) → more.used ≤ length piece
few_taken (part_goes_on e l h) = l
few_taken (item_ends e l h) = l

-- no more is taken than the piece has
pub held_few : {keep : Bool} {L : Bounds} {d d' : Defined} {at number : ℕ} {levels levels' : Levels} {extent : Extent}
    {rest : List ℕ} {more : PartTaken} (piece : List ℕ) (used : ℕ) → rest ≡ drop used piece → used ≤ length piece
    → IsBehindNumber keep L d at levels extent (IsUnsigned number)
    → HeldNumberSteps keep L d d' at levels levels' extent (IsUnsigned number) rest (Ok more)
    → used + more.used ≤ length piece
held_few piece used e l h steps =
    let few = few_taken (steps.each h.table h.offset h.bytes h.number h.awaits h.numbered h.taken_is h.within) in
    omega (arith, ap length e, length-drop used piece)

-- ---- what the number says

pub steps_named : {keep : Bool} {L : Bounds} {d d' : Defined} {at number : ℕ} {levels levels' : Levels} {rest : Extent}
    {id : TypeId} {sign : Sign} {piece : List ℕ} {result : Result PartTaken Fault}
    → ((x : List ℕ) → IsUnsigned number x → IsNumberOf sign id x)
    → HeldNumberSteps keep L d d' at levels levels' rest (IsNumberOf sign id) piece result
    → HeldNumberSteps keep L d d' at levels levels' rest (IsUnsigned number) piece result
steps_named named steps =
    record { each = λ T offset z a w u t l. steps.each T offset z a w (named a u) t l }

pub number_named : {keep : Bool} {L : Bounds} {d : Defined} {at number : ℕ} {levels : Levels} {rest : Extent}
    {id : TypeId}
    {sign : Sign} → ((x : List ℕ) → IsUnsigned number x → IsNumberOf sign id x)
    → IsBehindNumber keep L d at levels rest (IsUnsigned number)
    → IsBehindNumber keep L d at levels rest (IsNumberOf sign id)
number_named named h = record {
  table = h.table;
  offset = h.offset;
  bytes = h.bytes;
  number = h.number;
  awaits = h.awaits;
  numbered = named h.number h.numbered;
  taken_is = h.taken_is;
  within = h.within;
  known = h.known;
}

-- ---- the concrete type, or none

short_shown : reason.Short ≢ reason.Ended
short_shown e = cc

concrete_refused : {keep : Bool} {L : Bounds} {d : Defined} {T : Table} {offset at begin end left depth : ℕ}
    {lv : Level}
    {around : List Level} {id : TypeId} {z a : List ℕ} {R : Refusal} (levels' : Levels) (piece : List ℕ)
    → Stands base_table L T offset z (types d) (lv ∷ around) (in_filling depth) left → IsNumberOf positive id a
    → begin ≡ offset + length z → end ≡ lv.end → at ≡ begin + length a → at ≤ end
    → ConcreteRefused (types d) begin at end id R → PartSteps keep L T offset d (z ++ a) piece levels' d
    (Err (fault.Refused R))
concrete_refused {offset = offset} {lv = lv} {z = z} {a = a} levels' piece p (of_value s) b e t l (type_refused r) =
    let size = lv.end - (offset + length z) in
    let there = take_over a piece size (omega arith) in
    let rest = take (size - length a) piece in
    rw (t, b) (part_refused (held_refused (a ++ piece) p (append_assoc z a piece) (refused_type rest there s r)
    (nothing_typed rest there s r) (type_shown r)))
concrete_refused {offset = offset} {lv = lv} {z = z} {a = a} levels' piece p (of_value s) b e t l
    (nothing_behind may same) =
    let none : lv.end - (offset + length z) - length a ≡ 0 = omega arith in
    let there : take (lv.end - (offset + length z)) (a ++ piece) ≡ a ++ [] =
    take_over a piece (lv.end - (offset + length z)) (omega arith) ∙ ap (λ n. a ++ take n piece) none in
    rw e (part_refused (record {
      refuses = refused_value (append_assoc z a piece) p
          (inner_count there s may (outcome.RefusesInner.short (omega arith) (begins_prefix {bytes = []} tt)));
      table = refl;
      shown = short_shown;
    }))

concrete_fails : {keep : Bool} {L : Bounds} {d : Defined} {T : Table} {offset at : ℕ} {levels : Levels}
    {rest : Extent} {id : TypeId}
    {z a : List ℕ} (levels' : Levels) (piece : List ℕ) (f : Fault) → AwaitsType keep L T offset (types d) levels rest z
    → IsNumberOf positive id a → at ≡ rest.begin + length a → at ≤ rest.end
    → ConcreteType (types d) rest.begin at rest.end id (Err f)
    → PartSteps keep L T offset d (z ++ a) piece levels' d (Err f)
concrete_fails levels' piece (fault.Refused R) (awaits_type p said nil others held b e) n t l q =
    concrete_refused levels' piece p n b e t l q
concrete_fails {a = a} levels' piece fault.Memory (awaits_type {z = z} p said nil others held b e) n t l q =
    no_memory_for_part (within_value (a ++ piece) p (append_assoc z a piece))
concrete_fails levels' piece fault.Read w n t l q = absurd q
concrete_fails levels' piece fault.Failed w n t l q = absurd q

pub concrete_stops : {keep : Bool} {L : Bounds} {d : Defined} {at : ℕ} {levels : Levels} {rest : Extent} {id : TypeId}
    (levels' : Levels) (piece : List ℕ) (f : Fault) → ConcreteType (types d) rest.begin at rest.end id (Err f)
    → HeldNumberSteps keep L d d at levels levels' rest (IsNumberOf positive id) piece (Err f)
concrete_stops levels' piece f q =
    record { each = λ T offset z a w n t l. concrete_fails levels' piece f w n t l q }

abbrev numbered_as : ℕ → ℕ → NumberStage
numbered_as begin end = record { rest = record { begin = begin; end = end }; number = [] }

numbered_from : {a b m n : ℕ} → a ≡ b → m ≡ n → numbered_as a m ≡ numbered_as b n
numbered_from e f = cc

concrete_counted : {keep : Bool} {L : Bounds} {d : Defined} {T : Table} {offset at : ℕ} {levels : Levels}
    {rest : Extent}
    {id : TypeId} {z a : List ℕ} (piece : List ℕ) (count : InnerCount)
    → AwaitsType keep L T offset (types d) levels rest z
    → IsNumberOf positive id a → at ≡ rest.begin + length a → ConcreteType (types d) rest.begin at rest.end id
    (Ok count)
    → PartSteps keep L T offset d (z ++ a) piece levels d
    (Ok (record { used = 0; next = Some (part.InnerCount count) }))
concrete_counted {keep = keep} {L = L} {d = d} {T = T} {offset = offset} {at = at} {levels = levels} {id = id}
    {a = a} piece count
    (awaits_type {z = z} {lv = lv} p said nil others held b e) (of_value s) t q =
    let more = q.1 in
    let place : at ≡ offset + length (z ++ a) = omega (arith, length-append z a) in
    let number : NumberIs count.number (offset + length (z ++ a)) lv.end [] =
    number_begins (ap (λ (i : InnerCount). i.number) q.2 ∙ numbered_from place e) (omega arith) in
    let there : z ++ (a ++ []) ≡ (z ++ a) ++ [] = ap (λ l. z ++ l) (append_nil a) ∙ sym (append_nil (z ++ a)) in
    let same : record { id = id; number = count.number } ≡ count =
    ap (λ (i : TypeId). record { id = i; number = count.number }) (sym (ap (λ (i : InnerCount). i.id) q.2)) in
    part_goes_on refl (omega arith)
    (subst (λ i. PartHasRead keep L T offset (types d) levels (part.InnerCount i) ((z ++ a) ++ [])) same
    (subst (λ z. PartHasRead keep L T offset (types d) levels
    (part.InnerCount (record { id = id; number = count.number })) z) there
    (in_inner_count [] p said q.0 s nil others held number)))

pub concrete_stands : {keep : Bool} {L : Bounds} {d : Defined} {at : ℕ} {levels : Levels} {rest : Extent} {id : TypeId}
    (piece : List ℕ) (count : InnerCount) → ConcreteType (types d) rest.begin at rest.end id (Ok count)
    → HeldNumberSteps keep L d d at levels levels rest (IsNumberOf positive id) piece
    (Ok (record { used = 0; next = Some (part.InnerCount count) }))
concrete_stands piece count q =
    record { each = λ T offset z a w n t l. concrete_counted piece count w n t q }
