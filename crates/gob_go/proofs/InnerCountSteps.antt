-- Taking the bytes of the count behind a concrete type, where the value that is held begins.
use Rattle.std.proofs.Common.{Bool}
use Rattle.std.proofs.Common.{◌≡◌, ◌≢◌, ℕ, pos, ◌+◌, ◌-◌, ◌≤◌, List, [], ◌∷◌, ◌++◌, length, take, drop, Some}
use Rattle.std.proofs.Common.{Result, Ok, Err, arith, refl, sym, ap, ◌∙◌, subst, append_assoc, length-append}
use Rattle.std.proofs.lemmas.List.{length-take}
use Rattle.gob_num.specs.Unsigned.{AreBytes}
use Rattle.gob_num.specs.Signed.{IsSigned}
use Rattle.gob_num.proofs.PublicLaws.{bytes-append}
use Rattle.gob_types.specs.declared.id.TypeId.{TypeId}
use Rattle.gob_types.specs.declared.reason.Reason.TheVariants as reason
use Rattle.gob_types.specs.Base.{base_table}
use Rattle.gob_types.specs.Defined.{Defined, types}
use Rattle.gob_types.specs.Table.{Table}
use Rattle.gob_types.proofs.PublicLaws.{extends_keeps}
use Rattle.gob_read.proofs.Grammar.Stay.{expects_top_on}
use Rattle.gob_read.proofs.PublicLaws.{append_nil, take_whole}
use Rattle.gob_stream.specs.declared.fault.Fault.{Fault}
use Rattle.gob_stream.specs.declared.fault.Fault.TheVariants as fault
use Rattle.gob_stream.specs.declared.fault.Refusal.{Refusal}
use Rattle.gob_stream.specs.declared.stage.Extent.{Extent}
use Rattle.gob_stream.specs.Bounds.{Bounds}
use Rattle.gob_stream.specs.Body.{MayPut}
use Rattle.gob_stream.specs.Refusing.{refuses}
use Rattle.gob_stream.proofs.Reader.ValueSteps.{take_over}
use Rattle.gob_filled.specs.Outcome.{RefusesInner, refused_value, inner_count}
use Rattle.gob_filled.specs.Outcome as outcome
use Rattle.gob_filled.specs.Standing.{Level, new_level, in_value, in_filling, Stands, at_inner}
use Rattle.gob_go.specs.Meaning.{AreFillings, no_fillings}
use Rattle.gob_filled.specs.Opens.{Open, nothing_said}
use Rattle.gob_go.specs.Reading.{RefusesWith, HasTypesWithin, within_value}
use Rattle.gob_go.specs.declared.level.Level as declared
use Rattle.gob_go.specs.declared.levels.Levels.{Levels}
use Rattle.gob_go.specs.declared.number.NumberStage.{NumberStage}
use Rattle.gob_go.specs.declared.number.NumberTaken.TheVariants as taken
use Rattle.gob_go.specs.declared.part.PutPart.TheVariants as part
use Rattle.gob_go.specs.declared.part.PartTaken.{PartTaken}
use Rattle.gob_go.specs.Machine.HasRead.{PartHasRead, in_inner_count, OthersAre}
use Rattle.gob_go.specs.Machine.Levels.{LevelAtNil, AreOuter, outer_then, HeldIs}
use Rattle.gob_go.specs.Machine.Parts.{NumberAnswers, NumberIsWhole, LiesWithin, NilIsShallow, Opens, LevelIsNew}
use Rattle.gob_go.specs.Machine.Stages.{IsInPut, IsInValue, ValueHasRead, in_value_at, ValueAnswers, PartSteps}
use Rattle.gob_go.specs.Machine.Stages.{part_goes_on, part_refused}
use Rattle.gob_go.proofs.BeginPutSteps.{level_begins, part_few}
use Rattle.gob_go.proofs.GrownLaws.{extends_itself}
use Rattle.gob_go.proofs.NameSteps.{bytes_taken}
use Rattle.gob_go.proofs.NestedLaws.{levels_nest, within_stream}
use Rattle.gob_go.proofs.NumberStages.{AtNumber, at_number, number_goes_on, number_is_whole, NumberFault, number_fault}
use Rattle.gob_go.proofs.NumberStages.{fault_of_number}
use Rattle.gob_go.proofs.PutSteps.{all_taken, part_behind, part_stopped_behind}
use Rattle.gob_go.proofs.Refusals.{inner_numbered, number_shown}
use Rattle.gob_go.proofs.ValueSteps.{bytes_on}

-- ---- where it stands

pub inner_at_number : {keep : Bool} {L : Bounds} {d : Defined} {at : ℕ} {levels : Levels} {id : TypeId}
    {number : NumberStage}
    → IsInPut keep L d at levels (part.InnerCount (record { id = id; number = number })) → AtNumber number at
inner_at_number {keep = keep} w = from w.has_read w.taken_is
  where
    from : {L : Bounds} {T U : Table} {offset at : ℕ} {levels : Levels} {id : TypeId} {number : NumberStage}
        {z : List ℕ}
        → PartHasRead keep L T offset U levels (part.InnerCount (record { id = id; number = number })) z
        → at ≡ offset + length z → AtNumber number at
    from (in_inner_count {z = z} {n = b} q p said may sg nil others held n) t =
        at_number n (omega (arith, length-append z (b ++ q), length-append z b, length-append b q))

-- it ends where the stream may end, at the latest
pub inner_bounded : {keep : Bool} {L : Bounds} {d : Defined} {at : ℕ} {levels : Levels} {id : TypeId}
    {number : NumberStage}
    → IsInPut keep L d at levels (part.InnerCount (record { id = id; number = number })) → number.rest.end ≤ L.stream
inner_bounded {keep = keep} w = from w.has_read
  where
    from : {L : Bounds} {T U : Table} {offset : ℕ} {levels : Levels} {id : TypeId} {number : NumberStage} {z : List ℕ}
        → PartHasRead keep L T offset U levels (part.InnerCount (record { id = id; number = number })) z
        → number.rest.end ≤ L.stream
    from {L = L} (in_inner_count {lv = lv} {around = around} q p said may sg nil others held n) =
        let most = within_stream L around lv _ (levels_nest p) in let ends = n.ends in omega arith

grouped : (z b q x : List ℕ) → (z ++ (b ++ q)) ++ x ≡ z ++ (b ++ (q ++ x))
grouped z b q x = simp append_assoc

-- ---- the count

pub inner_more : {keep : Bool} {L : Bounds} {d : Defined} {T : Table} {offset : ℕ} {levels : Levels} {id : TypeId}
    {old new : NumberStage} {z : List ℕ} (piece : List ℕ)
    → PartHasRead keep L T offset (types d) levels (part.InnerCount (record { id = id; number = old })) z
    → NumberAnswers old new piece (Ok taken.More) → new.rest ≡ old.rest
    → PartSteps keep L T offset d z piece levels d
    (Ok (record { used = length piece; next = Some (part.InnerCount (record { id = id; number = new })) }))
inner_more {keep = keep} {L = L} {d = d} {T = T} {offset = offset} {levels = levels} {id = id} {new = new} piece
    (in_inner_count {z = z} {n = b} q p said may sg nil others held n) h r =
    let there : z ++ (b ++ (q ++ piece)) ≡ (z ++ (b ++ q)) ++ take (length piece) piece =
    sym (ap (λ p. (z ++ (b ++ q)) ++ p) (take_whole piece (length piece) (omega arith)) ∙ grouped z b q piece) in
    part_goes_on refl (omega arith)
    (subst (λ z. PartHasRead keep L T offset (types d) levels (part.InnerCount (record { id = id; number = new }))
    z) there
    (in_inner_count (q ++ piece) p said may sg nil others held (number_goes_on piece n h r)))

-- what is there of the segment is the number of the type, and what is there of it behind that
counted_there : {L : Bounds} {T U : Table} {offset left depth : ℕ} {z b : List ℕ} {lv : Level} {around : List Level}
    {u : TypeId} {R : Refusal} (q : List ℕ) → Stands base_table L T offset z U (lv ∷ around) (in_filling depth) left
    → IsSigned (pos u.0) b → MayPut U u → offset + length (z ++ b) ≤ lv.end
    → RefusesInner (offset + length (z ++ b)) lv.end (take (lv.end - (offset + length (z ++ b))) q) R
    → R.reason ≢ reason.Ended → RefusesWith L T offset (z ++ (b ++ q)) R U
counted_there {offset = offset} {z = z} {b = b} {lv = lv} {R = R} q p sg may l r shown =
    let begin : offset + length (z ++ b) ≡ offset + length z + length b = omega (arith, length-append z b) in
    let room : lv.end - (offset + length (z ++ b)) ≡ lv.end - (offset + length z) - length b =
    omega (arith, length-append z b) in
    record {
      refuses = refused_value refl p (inner_count
          (take_over b q (lv.end - (offset + length z)) (omega (arith, length-append z b))
          ∙ ap (λ n. b ++ take n q) (sym room)) sg may
          (subst (λ n. RefusesInner n lv.end (take (lv.end - (offset + length (z ++ b))) q) R) begin r));
      table = refl;
      shown = shown;
    }

pub inner_stops : {keep : Bool} {L : Bounds} {d : Defined} {T : Table} {offset : ℕ} {levels : Levels} {id : TypeId}
    {old : NumberStage} {z : List ℕ} (levels' : Levels) (piece : List ℕ) (new : NumberStage) (f : Fault)
    → PartHasRead keep L T offset (types d) levels (part.InnerCount (record { id = id; number = old })) z
    → NumberAnswers old new piece (Err f) → PartSteps keep L T offset d z piece levels' d (Err f)
inner_stops {keep = keep} {L = L} {d = d} {T = T} {offset = offset} levels' piece new f
    (in_inner_count {z = z} {n = b} {lv = lv} q p said may sg nil others held n) h =
    refused_by (fault_of_number piece new f n h)
  where
    refused_by : {f : Fault} → NumberFault (offset + length (z ++ b)) lv.end (q ++ piece) f
        → PartSteps keep L T offset d (z ++ (b ++ q)) piece levels' d (Err f)
    refused_by (number_fault {R = R} r) =
        part_refused (subst (λ y. RefusesWith L T offset y R (types d)) (sym (grouped z b q piece))
        (counted_there (q ++ piece) p sg may (let room = n.room in omega arith) (inner_numbered r) (number_shown r)))

-- the types stay those at hand
pub inner_types : {keep : Bool} {L : Bounds} {T : Table} {offset : ℕ} {U : Table} {levels : Levels} {id : TypeId}
    {number : NumberStage} {z : List ℕ} (piece : List ℕ)
    → PartHasRead keep L T offset U levels (part.InnerCount (record { id = id; number = number })) z
    → HasTypesWithin L T offset (z ++ piece) U
inner_types piece (in_inner_count {z = z} {n = b} q p said may sg nil others held n) =
    within_value ((b ++ q) ++ piece) p (append_assoc z (b ++ q) piece)

-- there is no room for the value
pub inner_judged : {keep : Bool} {L : Bounds} {d : Defined} {T : Table} {offset at behind count used : ℕ}
    {levels : Levels}
    {id : TypeId} {old : NumberStage} {z : List ℕ} (levels' : Levels) (new : NumberStage) (piece : List ℕ) (f : Fault)
    → AtNumber old at
    → PartHasRead keep L T offset (types d) levels (part.InnerCount (record { id = id; number = old })) z
    → NumberIsWhole old piece count used → new.rest ≡ old.rest → behind ≡ at + used
    → LiesWithin behind new.rest.end new.rest.begin count (Err f)
    → PartSteps keep L T offset d z piece levels' d (Err f)
inner_judged {L = L} {d = d} {T = T} {offset = offset} {behind = behind} {count = count} {used = used} levels' new piece
    (fault.Refused R) at (in_inner_count {z = z} {n = b} {lv = lv} q p said may sg nil others held n) h r bh lies =
    let w = number_is_whole n h in
    let x = take used piece in
    let begins : new.rest.begin ≡ offset + length (z ++ b) = ap (λ (x : Extent). x.begin) r ∙ n.begins in
    let ends : new.rest.end ≡ lv.end = ap (λ (x : Extent). x.end) r ∙ n.ends in
    let taken = at.taken_is in let begin = n.begins in let within = w.within in let room = w.room in
    let place : behind ≡ offset + length (z ++ b) + length (q ++ x) =
    omega (arith, ap length n.bytes, length-append q x, length-take used piece) in
    let long = lies.0 in
    let rest = take (lv.end - (offset + length (z ++ b)) - length (q ++ x)) (drop used piece) in
    let there : take (lv.end - (offset + length (z ++ b))) ((q ++ x) ++ drop used piece) ≡ (q ++ x) ++ rest =
    take_over (q ++ x) (drop used piece) (lv.end - (offset + length (z ++ b)))
    (omega (arith, length-append q x, length-take used piece)) in
    let refused = counted_there {R = refuses (offset + length (z ++ b))
    (offset + length (z ++ b) + length (q ++ x)) reason.ItemTooLong} ((q ++ x) ++ drop used piece) p sg may
    (omega arith) (outcome.RefusesInner.too_long rest there w.spelled (omega arith)) (λ e. cc) in
    rw (lies.1, begins, place) (part_refused (subst (λ y. RefusesWith L T offset y (refuses (offset + length (z ++ b))
    (offset + length (z ++ b) + length (q ++ x)) reason.ItemTooLong) (types d)) (regrouped z b q piece) refused))
  where
    regrouped : (z b q piece : List ℕ) → z ++ (b ++ ((q ++ take used piece) ++ drop used piece))
        ≡ (z ++ (b ++ q)) ++ piece
    regrouped z b q piece = ap (λ l. z ++ (b ++ l)) (all_taken q piece used) ∙ sym (grouped z b q piece)
inner_judged levels' new piece fault.Read at s h r bh lies = absurd lies
inner_judged levels' new piece fault.Memory at s h r bh lies = absurd lies
inner_judged levels' new piece fault.Failed at s h r bh lies = absurd lies

-- ---- the value that is held begins

nil_is_shallow : {keep : Bool} {U : Table} {l : declared.Level} {lv : Level} {d : ℕ} → LevelAtNil keep U l lv [] d
    → NilIsShallow l
nil_is_shallow {U = U} {lv = lv} {d = d} h = record {
  table = U;
  type = lv.type;
  limit = lv.limit;
  announced = h.announced;
  bytes = lv.done ++ [];
  depth = d;
  at_nil = h.at_nil;
  clear = h.is.clear;
  read = h.is.reads;
  expects = expects_top_on (extends_keeps h.is.grown) h.expects;
  not_deep = let l = h.not_deep in let e = h.is.depth in omega arith;
}

pub inner_shallow : {keep : Bool} {L : Bounds} {d : Defined} {at : ℕ} {levels : Levels} {id : TypeId}
    {number : NumberStage}
    → IsInPut keep L d at levels (part.InnerCount (record { id = id; number = number })) → NilIsShallow levels.innermost
inner_shallow {keep = keep} w = from w.has_read
  where
    from : {L : Bounds} {T U : Table} {offset : ℕ} {levels : Levels} {id : TypeId} {number : NumberStage} {z : List ℕ}
        → PartHasRead keep L T offset U levels (part.InnerCount (record { id = id; number = number })) z
        → NilIsShallow levels.innermost
    from (in_inner_count q p said may sg nil others held n) = nil_is_shallow nil

-- what was the innermost value is the last of the outer ones
opened : {keep : Bool} {U : Table} {old new : Levels} {lv : Level} {around : List Level} {o : Open} {os : List Open}
    {left limit end announced d : ℕ} {id : TypeId} → OthersAre keep U old around o os left
    → LevelAtNil keep U old.innermost lv [] d → HeldIs old.innermost.held o
    → new.outer.items ≡ old.outer.items ++ old.innermost ∷ [] → new.left ≡ old.left
    → LevelIsNew id limit end announced new.innermost → OthersAre keep U new (lv ∷ around) nothing_said (o ∷ os) left
opened {keep = keep} {U = U} {lv = lv} {around = around} {o = o} {os = os} others nil held outer left new = record {
  fillings = λ on. subst (λ fs. AreFillings U fs nothing_said.fillings) (sym new.fillings) no_fillings;
  outer = subst (λ ls. AreOuter keep U ls (lv ∷ around) (o ∷ os)) (sym outer)
      (outer_then others.outer nil others.fillings held);
  left_is = left ∙ others.left_is;
}

-- the count is whole, and the value opens
pub record HeldOpens (L : Bounds) (at behind used : ℕ) (old new : Levels) (id : TypeId) (number : NumberStage)
    (piece : List ℕ) : Type 0 where
  pub count : ℕ
  pub end : ℕ
  pub deep : L.depth ≤ 65536
  pub at_number : AtNumber number at
  pub whole : NumberIsWhole number piece count used
  pub behind_is : behind ≡ at + used
  pub end_is : end ≡ behind + count
  pub fits : end ≤ number.rest.end
  pub opening : Opens old new id end (end - behind)

pub held_opens : {keep : Bool} {L : Bounds} {d : Defined} {at behind count used : ℕ} {old new : Levels} {id : TypeId}
    {number : NumberStage} {piece : List ℕ} (after : NumberStage) → L.depth ≤ 65536
    → IsInPut keep L d at old (part.InnerCount (record { id = id; number = number }))
    → NumberIsWhole number piece count used → after.rest ≡ number.rest → behind ≡ at + used
    → behind + count ≤ after.rest.end → Opens old new id (behind + count) (behind + count - behind)
    → HeldOpens L at behind used old new id number piece
held_opens after deep w h r b fits opening = record {
  count = _;
  end = _;
  deep = deep;
  at_number = inner_at_number w;
  whole = h;
  behind_is = b;
  end_is = refl;
  fits = let ends = ap (λ (x : Extent). x.end) r in omega arith;
  opening = opening;
}

pub value_held : {keep : Bool} {L : Bounds} {T : Table} {offset at behind used : ℕ} {old new : Levels} {id : TypeId}
    {number : NumberStage} {z piece : List ℕ} (d : Defined) → HeldOpens L at behind used old new id number piece
    → PartHasRead keep L T offset (types d) old (part.InnerCount (record { id = id; number = number })) z
    → ValueHasRead keep L T offset (types d) new (z ++ take used piece)
value_held {keep = keep} {L = L} {T = T} {offset = offset} {behind = behind} {used = used} {old = old} {new = new}
    {id = id}
    {piece = piece} d held (in_inner_count {z = z} {n = b} {lv = lv} {around = around} {left = left} {d = depth} q p
    said may sg nil others front n) =
    let w = number_is_whole n held.whole in
    let x = take used piece in
    let U = types d in
    let taken = held.at_number.taken_is in let begin = n.begins in let within = w.within in
    let ends = n.ends in let fits = held.fits in let behind_is = held.behind_is in let end_is = held.end_is in
    let opening = held.opening in
    let limit : opening.limit ≡ lv.limit - depth =
    opening.depth U lv.type lv.limit nil.announced (lv.done ++ []) depth nil.at_nil nil.is.clear nil.is.reads
    (expects_top_on (extends_keeps nil.is.grown) nil.expects) ∙ ap (λ k. k - depth) nil.is.depth in
    let inner : LevelIsNew id (lv.limit - depth) held.end (held.end - behind) new.innermost =
    subst (λ k. LevelIsNew id k held.end (held.end - behind) new.innermost) limit opening.inner in
    let deep = held.deep in let most = (levels_nest p).0.limit in
    let here : behind ≡ offset + length (z ++ (b ++ (q ++ x))) = omega (
      arith,
      ap length n.bytes,
      length-append z b,
      length-append z (b ++ (q ++ x)),
      length-append b (q ++ x),
      length-append q x,
      length-take used piece,
    ) in
    let now : Stands base_table L T offset (z ++ (b ++ (q ++ x))) U
    (new_level U id (lv.limit - depth) held.end ∷ (lv ∷ around)) in_value left =
    at_inner p may sg w.spelled (omega arith) (omega arith) in
    let all : (z ++ (b ++ (q ++ x))) ++ [] ≡ (z ++ (b ++ q)) ++ x =
    append_nil (z ++ (b ++ (q ++ x))) ∙ sym (grouped z b q x) in
    subst (λ y. ValueHasRead keep L T offset U new y) all
    (in_value_at [] now (ap (λ os. nothing_said ∷ os) said)
    (level_begins (omega arith) may (extends_itself d) inner
    (omega (arith, length-append (z ++ (b ++ (q ++ x))) [])))
    (opened others nil front opening.outer opening.left inner))

pub held_in_value : {keep : Bool} {L : Bounds} {d : Defined} {at behind used : ℕ} {old new : Levels} {id : TypeId}
    {number : NumberStage} {piece : List ℕ} → HeldOpens L at behind used old new id number piece
    → IsInPut keep L d at old (part.InnerCount (record { id = id; number = number })) → AreBytes piece
    → IsInValue keep L d behind new
held_in_value {d = d} {used = used} {piece = piece} held w o =
    let within = held.whole.within in let taken = w.taken_is in let behind_is = held.behind_is in
    record {
      table = w.table;
      offset = w.offset;
      bytes = w.bytes ++ take used piece;
      are_bytes = bytes_taken w.bytes piece used (bytes-append w.bytes piece w.are_bytes o);
      has_read = value_held d held w.has_read;
      taken_is = omega (arith, length-append w.bytes (take used piece), length-take used piece);
      within = w.within;
      known = w.known;
    }

-- ---- what that answers

behind_count : {keep : Bool} {L : Bounds} {T : Table} {offset at behind used : ℕ} {d : Defined}
    {old new last : Levels} {id : TypeId}
    {number : NumberStage} {z piece : List ℕ} {result : Result PartTaken Fault} (rest : List ℕ)
    → rest ≡ drop used piece → HeldOpens L at behind used old new id number piece
    → ValueAnswers keep L d new last rest result
    → PartHasRead keep L T offset (types d) old (part.InnerCount (record { id = id; number = number })) z
    → AreBytes (z ++ piece) → PartSteps keep L T offset d (z ++ take used piece) (drop used piece) last d result
behind_count {keep = keep} {L = L} {T = T} {offset = offset} {used = used} {d = d} {last = last} {z = z} {piece = piece}
    {result = result} rest e held v h o =
    subst (λ rest. PartSteps keep L T offset d (z ++ take used piece) rest last d result) e
    (v.each T offset (z ++ take used piece) (value_held d held h) (bytes_on z piece used e o))

pub held_goes : {keep : Bool} {L : Bounds} {T : Table} {offset at behind used : ℕ} {d : Defined}
    {old new last : Levels} {id : TypeId}
    {number : NumberStage} {z piece : List ℕ} (taken : PartTaken) (rest : List ℕ) → rest ≡ drop used piece
    → HeldOpens L at behind used old new id number piece → ValueAnswers keep L d new last rest (Ok taken)
    → PartHasRead keep L T offset (types d) old (part.InnerCount (record { id = id; number = number })) z
    → AreBytes (z ++ piece)
    → PartSteps keep L T offset d z piece last d (Ok (record { used = used + taken.used; next = taken.next }))
held_goes {used = used} taken rest e held v h o =
    part_behind used taken (behind_count rest e held v h o) held.whole.within

pub held_fails : {keep : Bool} {L : Bounds} {T : Table} {offset at behind used : ℕ} {d : Defined}
    {old new last : Levels}
    {id : TypeId} {number : NumberStage} {z piece : List ℕ} (f : Fault) (rest : List ℕ) → rest ≡ drop used piece
    → HeldOpens L at behind used old new id number piece → ValueAnswers keep L d new last rest (Err f)
    → PartHasRead keep L T offset (types d) old (part.InnerCount (record { id = id; number = number })) z
    → AreBytes (z ++ piece) → PartSteps keep L T offset d z piece last d (Err f)
held_fails {used = used} f rest e held v h o = part_stopped_behind used f (behind_count rest e held v h o)

-- no more is taken than there is
pub held_few : {keep : Bool} {L : Bounds} {at behind used : ℕ} {d : Defined} {old new last : Levels} {id : TypeId}
    {number : NumberStage} {piece : List ℕ} (taken : PartTaken) (rest : List ℕ) → rest ≡ drop used piece
    → HeldOpens L at behind used old new id number piece → ValueAnswers keep L d new last rest (Ok taken)
    → IsInPut keep L d at old (part.InnerCount (record { id = id; number = number })) → AreBytes piece
    → used + taken.used ≤ length piece
held_few {piece = piece} taken rest e held v w o =
    part_few (held_goes taken rest e held v w.has_read (bytes-append w.bytes piece w.are_bytes o))
