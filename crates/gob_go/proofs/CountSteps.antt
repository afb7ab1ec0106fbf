-- Taking the bytes of the count of an item.
use Rattle.std.proofs.Common.{Bool}
use Rattle.std.proofs.Common.{◌≡◌, ℕ, ◌+◌, ◌<◌, ◌≤◌, List, [], ◌++◌, length}
use Rattle.std.proofs.Common.{take, drop, None, Ok, Err, arith, refl, sym, ap, subst, length-append}
use Rattle.gob_num.specs.Unsigned.{IsUnsigned}
use Rattle.gob_num.proofs.PublicLaws.{begins_prefix, unsigned_length}
use Rattle.gob_types.specs.declared.reason.Reason.TheVariants as reason
use Rattle.gob_types.specs.Base.{base_table}
use Rattle.gob_types.specs.Defined.{Defined, types}
use Rattle.gob_types.specs.Table.{Table}
use Rattle.gob_read.proofs.PublicLaws.{take_whole, append_nil}
use Rattle.gob_stream.specs.declared.fault.Fault.{Fault}
use Rattle.gob_stream.specs.declared.fault.Fault.TheVariants as fault
use Rattle.gob_stream.specs.declared.fault.Refusal.{Refusal}
use Rattle.gob_stream.specs.declared.stage.Extent.{Extent}
use Rattle.gob_stream.specs.Bounds.{Bounds}
use Rattle.gob_stream.specs.Refusing.{refuses, RefusesBody}
use Rattle.gob_stream.specs.Refusing as refusing
use Rattle.gob_stream.specs.Machine.HasRead.{IsCount}
use Rattle.gob_stream.specs.Machine.ReadParts.{CountJudged, above_item, above_stream, no_body}
use Rattle.gob_stream.proofs.Reader.CountSteps.{cut, cut_length}
use Rattle.gob_filled.specs.Outcome.{refused_count, refused_body}
use Rattle.gob_go.specs.declared.number.NumberStage.{NumberStage}
use Rattle.gob_go.specs.declared.number.NumberTaken.TheVariants as taken
use Rattle.gob_go.specs.declared.stage.Stage.TheVariants as stage
use Rattle.gob_go.specs.Machine.HasRead.{StageHasRead, in_count, in_type_number, no_end}
use Rattle.gob_go.specs.Machine.Parts.{NumberAnswers, NumberIsWhole}
use Rattle.gob_go.specs.Machine.Stages.{IsWithinItem, StepsOn, goes_on, refuses_it}
use Rattle.gob_go.proofs.NumberStages.{AtNumber, at_number, number_begins, number_goes_on, number_is_whole}
use Rattle.gob_go.proofs.NumberStages.{NumberFault, number_fault, fault_of_number}
use Rattle.gob_go.specs.Reading.{RefusesWith}
use Rattle.gob_go.proofs.Refusals.{NoNumber, count_numbered, number_shown, nothing_there}

pub count_at_number : {keep : Bool} {L : Bounds} {d : Defined} {at : ℕ} {number : NumberStage}
    → IsWithinItem keep L d at (stage.Count (record { number = number })) → AtNumber number at
count_at_number {keep = keep} w = from w.in_item w.taken_is
  where
    from : {L : Bounds} {T U : Table} {offset at : ℕ} {number : NumberStage} {z : List ℕ}
        → StageHasRead keep L T offset U (stage.Count (record { number = number })) z → at ≡ offset + length z
        → AtNumber number at
    from (in_count q e n) t = at_number n t

pub count_bounded : {keep : Bool} {L : Bounds} {d : Defined} {at : ℕ} {number : NumberStage}
    → IsWithinItem keep L d at (stage.Count (record { number = number })) → number.rest.end ≡ no_end
count_bounded {keep = keep} w = end_of w.in_item
  where
    end_of : {L : Bounds} {T U : Table} {offset : ℕ} {number : NumberStage} {z : List ℕ}
        → StageHasRead keep L T offset U (stage.Count (record { number = number })) z → number.rest.end ≡ no_end
    end_of (in_count q e n) = n.ends

pub count_begins : {keep : Bool} {L : Bounds} {T U : Table} {offset : ℕ} {number : NumberStage} {z : List ℕ}
    → StageHasRead keep L T offset U (stage.Count (record { number = number })) z
    → (number.rest.begin ≡ offset) × (number.rest.begin + length number.number ≡ offset + length z)
count_begins (in_count q e n) = let b = n.begins in let l = ap length n.bytes in (n.begins, omega arith)

-- an item begins at the latest where the stream may end
pub count_within : {keep : Bool} {L : Bounds} {d : Defined} {T U : Table} {at offset : ℕ} {number : NumberStage}
    {z : List ℕ}
    → IsWithinItem keep L d at (stage.Count (record { number = number }))
    → StageHasRead keep L T offset U (stage.Count (record { number = number })) z → offset ≤ L.stream
count_within {keep = keep} w h = let a = begin_of w.in_item in let b = begin_of h in let l = w.within in omega arith
  where
    begin_of : {L : Bounds} {T U : Table} {offset : ℕ} {number : NumberStage} {z : List ℕ}
        → StageHasRead keep L T offset U (stage.Count (record { number = number })) z → number.rest.begin ≡ offset
    begin_of (in_count q e n) = n.begins

pub count_more : {keep : Bool} {L : Bounds} {d : Defined} {T : Table} {offset : ℕ} {old new : NumberStage}
    {z piece : List ℕ}
    → StageHasRead keep L T offset (types d) (stage.Count (record { number = old })) z
    → NumberAnswers old new piece (Ok taken.More) → new.rest ≡ old.rest
    → StepsOn keep L T offset d z piece d
    (Ok (record { used = length piece; stage = stage.Count (record { number = new }); item = None }))
count_more {keep = keep} {L = L} {d = d} {T = T} {offset = offset} {new = new} {piece = piece} (in_count q e n) h r =
    goes_on refl (omega arith)
    (subst (λ p. StageHasRead keep L T offset (types d) (stage.Count (record { number = new })) (q ++ p))
    (sym (take_whole piece (length piece) (omega arith))) (in_count (q ++ piece) e (number_goes_on piece n h r)))

pub count_stops : {keep : Bool} {L : Bounds} {d : Defined} {T : Table} {offset : ℕ} {old : NumberStage}
    {z piece : List ℕ}
    (new : NumberStage) (f : Fault)
    → offset + 9 < no_end → StageHasRead keep L T offset (types d) (stage.Count (record { number = old })) z
    → NumberAnswers old new piece (Err f) → StepsOn keep L T offset d z piece d (Err f)
count_stops {keep = keep} {L = L} {d = d} {T = T} {offset = offset} {piece = piece} new f l (in_count q e n) h =
    refused_by (fault_of_number piece new f n h)
  where
    refused_by : {f : Fault} → NumberFault offset no_end (q ++ piece) f → StepsOn keep L T offset d q piece d (Err f)
    refused_by (number_fault r) =
        refuses_it (record { refuses = refused_count (count_numbered _ l r); table = e; shown = number_shown r })

-- behind a whole count the body begins
pub count_whole : {keep : Bool} {L : Bounds} {d : Defined} {T : Table} {offset m used end : ℕ} {old first : NumberStage}
    {body : Extent}
    {z piece : List ℕ}
    → StageHasRead keep L T offset (types d) (stage.Count (record { number = old })) z → NumberIsWhole old piece m used
    → end ≡ offset + length z + used
    → (0 < m) × (m ≤ L.item) × (end + m ≤ L.stream) × (body.begin ≡ end) × (body.end ≡ end + m)
    → first ≡ record { rest = body; number = [] }
    → StepsOn keep L T offset d z piece d
    (Ok (record { used = used; stage = stage.TypeNumber (record { number = first }); item = None }))
count_whole {keep = keep} {L = L} {d = d} {T = T} {offset = offset} {m = m} {used = used} {first = first} {body = body}
    {piece = piece} (in_count q e n) h f j b =
    let w = number_is_whole n h in
    let all = cut_length q piece used w.within in
    let count : IsCount L offset m (q ++ take used piece) body = record {
      count = w.spelled;
      item = j.1;
      stream = omega arith;
      begin = omega arith;
      end = omega arith;
    } in
    goes_on refl w.within
    (subst (λ z. StageHasRead keep L T offset (types d) (stage.TypeNumber (record { number = first })) z)
    (append_nil (q ++ take used piece))
    (in_type_number [] e count (number_begins b (omega arith))))

-- what is judged stands on the limits of items and of the stream alone
pub judged_so : {L : Bounds} {begin end m : ℕ} {R : Refusal} (K : Bounds) → K.item ≡ L.item → K.stream ≡ L.stream
    → CountJudged K begin end m R → CountJudged L begin end m R
judged_so K i s (above_item l) = above_item (omega arith)
judged_so K i s (above_stream l k) = above_stream (omega arith) (omega arith)
judged_so K i s (no_body z l) = no_body z (omega arith)

-- a count of more than there may be, or of none
pub count_judged : {keep : Bool} {L : Bounds} {d : Defined} {T : Table} {offset m used begin end : ℕ}
    {old : NumberStage}
    {R : Refusal}
    {z piece : List ℕ}
    → StageHasRead keep L T offset (types d) (stage.Count (record { number = old })) z → NumberIsWhole old piece m used
    → begin ≡ offset → end ≡ offset + length z + used → CountJudged L begin end m R
    → StepsOn keep L T offset d z piece d (Err (fault.Refused R))
count_judged {L = L} {d = d} {T = T} {offset = offset} {m = m} {used = used} {end = end} {R = R} {piece = piece}
    (in_count q e n) h b f j =
    let w = number_is_whole n h in
    let all = cut_length q piece used w.within in
    let there : CountJudged L offset (offset + length (q ++ take used piece)) m R =
    let same : end ≡ offset + length (q ++ take used piece) = omega arith in
    subst (λ end. CountJudged L offset end m R) same (subst (λ begin. CountJudged L begin end m R) b j) in
    refuses_it (counted (drop used piece) w.spelled (cut q piece used) e there)
  where
    nothing : NoNumber []
    nothing n c x u f = let l = ap length f in absurd (omega (arith, unsigned_length u, length-append c x))

    counted : {m : ℕ} {c y : List ℕ} {S : Refusal} {U : Table} (r : List ℕ) → IsUnsigned m c → y ≡ c ++ r → U ≡ T
        → CountJudged L offset (offset + length c) m S → RefusesWith L T offset y S U
    counted r u s e (above_item l) =
        record { refuses = refused_count (refusing.item_too_long r s u l); table = e; shown = λ f. cc }
    counted r u s e (above_stream l k) =
        record {
          refuses = refused_count (refusing.stream_too_long r s u l (omega arith));
          table = e;
          shown = λ f. cc;
        }
    counted {c = c} r u s e (no_body z l) =
        let none = subst (λ m. IsUnsigned m c) z u in
        let same : offset + length c + 0 ≡ offset + length c = omega arith in
        let body : RefusesBody base_table L T (offset + length c) 0 [] (refuses (offset + length c) (offset + length c)
        reason.Short) = subst (λ n. RefusesBody base_table L T (offset + length c) 0 [] (refuses n n reason.Short))
        same (refusing.RefusesBody.short refl (begins_prefix {bytes = []} tt)) in
        record {
          refuses = refused_body r s none (omega arith) (omega arith) body (nothing_there nothing);
          table = e;
          shown = λ f. cc;
        }
