-- The number of an interface, and the name behind it.
use Rattle.std.proofs.Common.{Bool}
use Rattle.std.proofs.Common.{◌≡◌, ℕ, ◌+◌, ◌-◌, ◌^◌, ◌<◌, ◌≤◌, min, inl, inr, List, [], ◌∷◌, ◌++◌, length, take}
use Rattle.std.proofs.Common.{drop, Some, Ok, Err, arith, refl, sym, ap, ◌∙◌, subst, append_assoc, length-append}
use Rattle.std.proofs.lemmas.Bool.{cases_lt}
use Rattle.std.proofs.lemmas.List.{length-take}
use Rattle.std.proofs.Math.Seq.{take-append_seam}
use Rattle.gob_num.specs.Unsigned as unsigned
use Rattle.gob_num.specs.Unsigned.{IsUnsigned, IsUnsignedPrefix, IsBadHead, IsNotMinimal}
use Rattle.gob_num.specs.Unsigned.{AreBytes}
use Rattle.gob_num.proofs.PublicLaws.{unsigned_unique, unsigned_length, bytes_prefix, begins_prefix}
use Rattle.gob_types.specs.declared.reason.Reason.TheVariants as reason
use Rattle.gob_types.specs.Base.{base_table}
use Rattle.gob_types.specs.Defined.{Defined, types}
use Rattle.gob_types.specs.Table.{Table}
use Rattle.gob_read.specs.Expected.{within_number, a_number, nil}
use Rattle.gob_read.specs.Expects.{ExpectsTop}
use Rattle.gob_read.specs.Viable.{IsShallow}
use Rattle.gob_read.specs.Calls.Builders.{skip_building}
use Rattle.gob_read.specs.Calls.UnderWay.{HasReadBody}
use Rattle.gob_read.proofs.PublicLaws.{append_nil, take_whole, bad_head_first, not_minimal_first, short_first}
use Rattle.gob_stream.specs.declared.fault.Fault.{Fault}
use Rattle.gob_stream.specs.declared.fault.Fault.TheVariants as fault
use Rattle.gob_stream.specs.declared.fault.Refusal.{Refusal}
use Rattle.gob_stream.specs.Bounds.{Bounds}
use Rattle.gob_stream.specs.Refusing.{refuses, RefusesBody}
use Rattle.gob_stream.specs.Refusing as refusing
use Rattle.gob_filled.specs.Outcome.{NothingStands, refused_value, short_name}
use Rattle.gob_filled.specs.Standing.{Level, in_value, in_filling, Stands, behind_name}
use Rattle.gob_go.specs.Meaning.{definitions_of}
use Rattle.gob_filled.specs.Opens.{Open, opens, named}
use Rattle.gob_go.specs.Reading.{RefusesWith, HasTypesWithin, within_value}
use Rattle.gob_go.specs.declared.level.HeldFront.{HeldFront}
use Rattle.gob_go.specs.declared.level.Level as declared
use Rattle.gob_go.specs.declared.levels.Levels.{Levels}
use Rattle.gob_go.specs.declared.number.NumberStage.{NumberStage}
use Rattle.gob_go.specs.declared.number.NumberTaken.TheVariants as taken
use Rattle.gob_go.specs.declared.part.PutPart.TheVariants as part
use Rattle.gob_go.specs.Machine.HasRead.{PartHasRead, in_name_length, in_name, in_held_number, OthersAre}
use Rattle.gob_go.specs.Machine.Levels.{LevelAtNil, HeldIs}
use Rattle.gob_go.specs.Machine.Parts.{NumberAnswers, NumberIsWhole, RefusesNumber, bad_head, not_minimal, short}
use Rattle.gob_go.specs.Machine.Parts.{GoesOn}
use Rattle.gob_go.specs.Machine.Stages.{NilByteRead, nil_byte, PartSteps, part_goes_on, part_refused}
use Rattle.gob_go.specs.Machine.Stages.{IsInPut}
use Rattle.gob_go.proofs.DefinitionSteps.{held_refused}
use Rattle.gob_go.proofs.NestedLaws.{levels_nest, within_stream}
use Rattle.gob_go.proofs.NilSteps.{refuses_in_skeleton}
use Rattle.gob_go.proofs.SkeletonLaws.{skeleton_as}
use Rattle.gob_go.proofs.PlaceLaws.{same_place}
use Rattle.gob_go.proofs.PutSteps.{all_taken}
use Rattle.gob_go.proofs.NumberStages.{AtNumber, at_number, number_goes_on, number_is_whole, number_begins, NumberFault}
use Rattle.gob_go.proofs.NumberStages.{number_fault, fault_of_number}
use Rattle.gob_go.proofs.Refusals.{NoNumber, nothing_there}

-- ---- where it stands

pub length_at : {keep : Bool} {L : Bounds} {T : Table} {offset at : ℕ} {U : Table} {levels : Levels} {z : List ℕ}
    {number : NumberStage} → PartHasRead keep L T offset U levels (part.NameLength (record { number = number })) z
    → at ≡ offset + length z
    → AtNumber number at
length_at (in_name_length {z = z} c a p said h k n place) e =
    at_number n (omega (arith, length-append z (c ++ a), length-append z c, length-append c a))

pub length_ends : {keep : Bool} {L : Bounds} {T : Table} {offset : ℕ} {U : Table} {levels : Levels} {z : List ℕ}
    {number : NumberStage} → PartHasRead keep L T offset U levels (part.NameLength (record { number = number })) z
    → number.rest.end ≡ levels.innermost.end
length_ends (in_name_length c a p said h k n place) = n.ends ∙ sym h.is.end

grouped : (z c a x : List ℕ) → z ++ (c ++ (a ++ x)) ≡ (z ++ (c ++ a)) ++ x
grouped z c a x = simp append_assoc

-- ---- the number

pub length_more : {keep : Bool} {L : Bounds} {T : Table} {offset : ℕ} {d : Defined} {levels : Levels} {z piece : List ℕ}
    {number new : NumberStage}
    → PartHasRead keep L T offset (types d) levels (part.NameLength (record { number = number })) z
    → NumberAnswers number new piece (Ok taken.More) → new.rest ≡ number.rest
    → PartSteps keep L T offset d z piece levels d
    (Ok (record { used = length piece; next = Some (part.NameLength (record { number = new })) }))
length_more {keep = keep} {L = L} {T = T} {offset = offset} {d = d} {levels = levels} {piece = piece} {new = new}
    (in_name_length {z = z} c a p said h k n place) r e =
    let all : take (length piece) piece ≡ piece = take_whole piece (length piece) (omega arith) in
    part_goes_on refl (omega arith)
    (subst (λ y. PartHasRead keep L T offset (types d) levels (part.NameLength (record { number = new })) y)
    (grouped z c a piece ∙ ap (λ (x : List ℕ). (z ++ (c ++ a)) ++ x) (sym all))
    (in_name_length c (a ++ piece) p said h k (number_goes_on piece n r e) place))

-- the interface is nil
pub length_nil : {keep : Bool} {L : Bounds} {T : Table} {offset used : ℕ} {U : Table} {levels : Levels}
    {z piece : List ℕ}
    {number : NumberStage} → PartHasRead keep L T offset U levels (part.NameLength (record { number = number })) z
    → NumberIsWhole number piece 0 used → NilByteRead keep L T offset U levels (z ++ take used piece)
length_nil {keep = keep} {L = L} {T = T} {offset = offset} {used = used} {U = U} {levels = levels} {piece = piece}
    (in_name_length {z = z} c a p said h k n place) r =
    let w = number_is_whole n r in
    let zero : a ++ take used piece ≡ 0 ∷ [] = unsigned_unique w.spelled (unsigned.IsUnsigned.short (omega arith)) in
    let room = w.room in let within = w.within in
    subst (λ y. NilByteRead keep L T offset U levels y)
    (ap (λ (x : List ℕ). z ++ (c ++ x)) (sym zero) ∙ grouped z c a (take used piece))
    (nil_byte c p said h k (omega (
      arith,
      ap length zero,
      length-append z (c ++ 0 ∷ []),
      length-append c (0 ∷ []),
      length-append z c,
      length-append a (take used piece),
      length-take used piece,
    )))

-- a level of which only what stands in front of the nil at hand has changed
pub record HeldChanges (levels levels' : Levels) : Type 0 where
  pub id : levels'.innermost.id ≡ levels.innermost.id
  pub depth : levels'.innermost.depth ≡ levels.innermost.depth
  pub reader : levels'.innermost.reader ≡ levels.innermost.reader
  pub skeleton : levels'.innermost.skeleton ≡ levels.innermost.skeleton
  pub fillings : levels'.innermost.fillings ≡ levels.innermost.fillings
  pub end : levels'.innermost.end ≡ levels.innermost.end
  pub outer : levels'.outer ≡ levels.outer
  pub left : levels'.left ≡ levels.left

abbrev pub with_held : Levels → HeldFront → Levels
with_held levels held = record {
  innermost = record levels.innermost { held = held };
  outer = levels.outer;
  left = levels.left;
}

pub held_changes : (levels : Levels) (held : HeldFront) → HeldChanges levels (with_held levels held)
held_changes levels held = record {
  id = refl;
  depth = refl;
  reader = refl;
  skeleton = refl;
  fillings = refl;
  end = refl;
  outer = refl;
  left = refl;
}

abbrev at_nil_on : {keep : Bool} {U : Table} {levels levels' : Levels} {lv : Level} {c : List ℕ} {d : ℕ}
    → HeldChanges levels levels'
    → LevelAtNil keep U levels.innermost lv c d → LevelAtNil keep U levels'.innermost lv c d
at_nil_on e h = record {
  announced = h.announced;
  is = record {
    id = e.id ∙ h.is.id;
    depth = e.depth ∙ h.is.depth;
    end = e.end ∙ h.is.end;
    skeleton = rw e.skeleton h.is.skeleton;
    ready = h.is.ready;
    grown = h.is.grown;
    reads = rw e.reader h.is.reads;
    clear = rw e.reader h.is.clear;
  };
  at_nil = rw e.reader h.at_nil;
  expects = h.expects;
  not_deep = h.not_deep;
  shallow = h.shallow;
}

others_stay : {keep : Bool} {U : Table} {levels levels' : Levels} {around : List Level} {o : Open} {os : List Open}
    {left : ℕ}
    → HeldChanges levels levels' → OthersAre keep U levels around o os left → OthersAre keep U levels' around o os left
others_stay e k =
    record { fillings = rw e.fillings k.fillings; outer = rw e.outer k.outer; left_is = e.left ∙ k.left_is }

-- or a name follows
pub length_name : {keep : Bool} {L : Bounds} {T : Table} {offset at used left : ℕ} {d : Defined}
    {levels levels' : Levels}
    {z piece : List ℕ} {number : NumberStage}
    → PartHasRead keep L T offset (types d) levels (part.NameLength (record { number = number })) z
    → NumberIsWhole number piece left used → (left ≡ 0 → ⊥) → left < 2 ^ 64 → at ≡ offset + length z
    → at + used < levels.innermost.end → HeldChanges levels levels' → levels'.innermost.held.name.items ≡ []
    → levels'.innermost.held.definitions.items ≡ []
    → PartSteps keep L T offset d z piece levels' d
    (Ok (record { used = used; next = Some (part.Name (record { left = left })) }))
length_name {keep = keep} {L = L} {T = T} {offset = offset} {used = used} {left = left} {d = d} {levels' = levels'}
    {piece = piece}
    (in_name_length {z = z} c a p said h k n place) r some fits e room change empty none =
    let w = number_is_whole n r in
    let x = take used piece in
    let within = w.within in let ends = h.is.end in
    part_goes_on refl w.within
    (subst (λ y. PartHasRead keep L T offset (types d) levels' (part.Name (record { left = left })) y)
    (ap (λ (y : List ℕ). z ++ (c ++ y)) (append_nil (a ++ x)) ∙ grouped z c a x)
    (in_name c (a ++ x) [] p said (at_nil_on change h) (others_stay change k) place w.spelled (omega arith)
    (omega arith) fits empty none
    (omega (
      arith,
      length-append z (c ++ ((a ++ x) ++ [])),
      length-append c ((a ++ x) ++ []),
      ap length (append_nil (a ++ x)),
      length-append a x,
      length-append z (c ++ a),
      length-append c a,
      length-take used piece,
    ))))

-- ---- the segment ends within the name

name_ends : {keep : Bool} {L : Bounds} {T : Table} {offset left n d : ℕ} {U : Table} {lv : Level} {around : List Level}
    {l : declared.Level} {z c a : List ℕ} (r y : List ℕ) → Stands base_table L T offset z U (lv ∷ around) in_value left
    → LevelAtNil keep U l lv c d → IsUnsigned n a → length r < n → offset + length (z ++ (c ++ (a ++ r))) ≡ lv.end
    → RefusesWith L T offset ((z ++ (c ++ (a ++ r))) ++ y) (refuses lv.end lv.end reason.Short) U
name_ends {offset = offset} {lv = lv} {z = z} {c = c} {a = a} r y p h u few e =
    let b : List ℕ = c ++ (a ++ r) in
    let room : lv.end - (offset + length z) ≡ length b = omega (arith, length-append z b) in
    let there : take (lv.end - (offset + length z)) (b ++ y) ≡ b =
    ap (λ (k : ℕ). take k (b ++ y)) room ∙ take-append_seam b y in
    record {
      refuses = refused_value (append_assoc z b y) p
          (short_name c r h.expects h.not_deep h.shallow there u (ap length there ∙ sym room) few);
      table = refl;
      shown = λ e. cc;
    }

pub length_short : {keep : Bool} {L : Bounds} {T : Table} {offset at used left : ℕ} {d : Defined}
    {levels levels' : Levels}
    {z piece : List ℕ} {number : NumberStage} (f : Fault)
    → PartHasRead keep L T offset (types d) levels (part.NameLength (record { number = number })) z
    → NumberIsWhole number piece left used → (left ≡ 0 → ⊥) → at ≡ offset + length z
    → GoesOn (at + used) levels.innermost.end (Err f) → PartSteps keep L T offset d z piece levels' d (Err f)
length_short {L = L} {T = T} {offset = offset} {used = used} {left = left} {d = d} {piece = piece} (fault.Refused R)
    (in_name_length {z = z} {lv = lv} c a p said h k n place) r some e g =
    let w = number_is_whole n r in
    let x = take used piece in
    let y = drop used piece in
    let within = w.within in let ends = h.is.end in let there = g.0 in
    let same : R ≡ refuses lv.end lv.end reason.Short =
    g.1 ∙ ap (λ (k : ℕ). refuses k k reason.Short) ends in
    let refused = name_ends [] y p h w.spelled (omega arith) (omega (
      arith,
      length-append z (c ++ ((a ++ x) ++ [])),
      length-append c ((a ++ x) ++ []),
      ap length (append_nil (a ++ x)),
      length-append a x,
      length-append z (c ++ a),
      length-append c a,
      length-take used piece,
    )) in
    part_refused (rw same (subst (λ b. RefusesWith L T offset b (refuses lv.end lv.end reason.Short) (types d))
    (ap (λ (b : List ℕ). (z ++ (c ++ b)) ++ y) (append_nil (a ++ x)) ∙ ap (λ (b : List ℕ). b ++ y) (grouped z c a x)
    ∙ all_taken (z ++ (c ++ a)) piece used) refused))
length_short fault.Read h r some e g = absurd g
length_short fault.Memory h r some e g = absurd g
length_short fault.Failed h r some e g = absurd g

-- ---- the number is refused

number_refused : {keep : Bool} {L : Bounds} {T : Table} {offset left d : ℕ} {U : Table} {lv : Level}
    {around : List Level}
    {l : declared.Level} {z : List ℕ} (c w : List ℕ) {R : Refusal}
    → Stands base_table L T offset z U (lv ∷ around) in_value left → (h : LevelAtNil keep U l lv c d)
    → offset + length (z ++ c) + h.announced ≡ length (lv.done ++ c) + lv.end → offset + length (z ++ c) ≤ lv.end
    → RefusesNumber (offset + length (z ++ c)) lv.end (take (lv.end - (offset + length (z ++ c))) w) R
    → RefusesWith L T offset ((z ++ c) ++ w) R U
number_refused {offset = offset} {lv = lv} {z = z} c w p h place l (bad_head b) =
    let room : lv.end - (offset + length (z ++ c)) ≡ h.announced - length (lv.done ++ c) = omega arith in
    refuses_in_skeleton c w p place l (bad_head_first (take (h.announced - length (lv.done ++ c)) w) h.expects
    h.not_deep h.shallow refl (subst (λ k. IsBadHead (take k w)) room b)) (λ e. cc) (omega arith) (omega arith) refl
number_refused {offset = offset} {lv = lv} {z = z} c w p h place l (not_minimal b) =
    let room : lv.end - (offset + length (z ++ c)) ≡ h.announced - length (lv.done ++ c) = omega arith in
    refuses_in_skeleton c w p place l (not_minimal_first (take (h.announced - length (lv.done ++ c)) w) h.expects
    h.not_deep h.shallow refl (subst (λ k. IsNotMinimal (take k w)) room b)) (λ e. cc) (omega arith) (omega arith) refl
number_refused {offset = offset} {lv = lv} {z = z} c w p h place l (short b q) =
    let room : lv.end - (offset + length (z ++ c)) ≡ h.announced - length (lv.done ++ c) = omega arith in
    let r : List ℕ = take (h.announced - length (lv.done ++ c)) w in
    let size : length (take (lv.end - (offset + length (z ++ c))) w) ≡ length r =
    ap (λ (k : ℕ). length (take k w)) room in
    refuses_in_skeleton c w p place l (short_first r h.expects h.not_deep h.shallow refl
    (omega (arith, length-append (lv.done ++ c) r))
    (within_number (subst (λ k. IsUnsignedPrefix (take k w)) room q))) (λ e. cc) (omega arith) (omega arith) refl

regroup : (z c a x : List ℕ) → (z ++ c) ++ (a ++ x) ≡ (z ++ (c ++ a)) ++ x
regroup z c a x = simp append_assoc

pub length_stops : {keep : Bool} {L : Bounds} {T : Table} {offset : ℕ} {d : Defined} {z piece : List ℕ}
    {number : NumberStage}
    (levels levels' : Levels) (new : NumberStage) (f : Fault)
    → PartHasRead keep L T offset (types d) levels (part.NameLength (record { number = number })) z
    → NumberAnswers number new piece (Err f) → PartSteps keep L T offset d z piece levels' d (Err f)
length_stops {keep = keep} {L = L} {T = T} {offset = offset} {d = d} {piece = piece} levels levels' new f
    (in_name_length {z = z} {lv = lv} c a p said h k n place) r =
    refused_there c a p h place (omega (arith, n.room)) (fault_of_number piece new f n r)
  where
    refused_there : {left e : ℕ} {lv : Level} {around : List Level} {z : List ℕ} {f : Fault} (c a : List ℕ)
        → Stands base_table L T offset z (types d) (lv ∷ around) in_value left
        → (h : LevelAtNil keep (types d) levels.innermost lv c e)
        → offset + length (z ++ c) + h.announced ≡ length (lv.done ++ c) + lv.end → offset + length (z ++ c) ≤ lv.end
        → NumberFault (offset + length (z ++ c)) lv.end (a ++ piece) f
        → PartSteps keep L T offset d (z ++ (c ++ a)) piece levels' d (Err f)
    refused_there {z = z} c a p h place l (number_fault {R = R} q) =
        part_refused (subst (λ y. RefusesWith L T offset y R (types d)) (regroup z c a piece)
        (number_refused c (a ++ piece) p h place l q))

pub length_bounded : {keep : Bool} {L : Bounds} {T : Table} {offset : ℕ} {U : Table} {levels : Levels} {z : List ℕ}
    {number : NumberStage} → PartHasRead keep L T offset U levels (part.NameLength (record { number = number })) z
    → number.rest.end ≤ L.stream
length_bounded {L = L} (in_name_length {lv = lv} {around = around} c a p said h k n place) =
    let w = within_stream L around lv _ (levels_nest p) in let e = n.ends in omega arith

pub whole_as : {number : NumberStage} {piece : List ℕ} {n m used : ℕ} → NumberIsWhole number piece n used → n ≡ m
    → NumberIsWhole number piece m used
whole_as {number = number} {piece = piece} {used = used} h e = subst (λ n. NumberIsWhole number piece n used) e h

-- the types stay those at hand
pub length_types : {keep : Bool} {L : Bounds} {T : Table} {offset : ℕ} {U : Table} {levels : Levels} {z : List ℕ}
    {number : NumberStage} (piece : List ℕ)
    → PartHasRead keep L T offset U levels (part.NameLength (record { number = number })) z
    → HasTypesWithin L T offset (z ++ piece) U
length_types piece (in_name_length {z = z} c a p said h k n place) =
    within_value ((c ++ a) ++ piece) p (append_assoc z (c ++ a) piece)

pub length_place : {keep : Bool} {L : Bounds} {T : Table} {offset at : ℕ} {U : Table} {levels : Levels} {z : List ℕ}
    {number : NumberStage} → AtNumber number at
    → PartHasRead keep L T offset U levels (part.NameLength (record { number = number })) z → at ≡ offset + length z
length_place at (in_name_length {z = z} c a p said h k n place) =
    let t = at.taken_is in let b = n.begins in
    omega (arith, ap length n.bytes, length-append z (c ++ a), length-append z c, length-append c a)

pub length_behind : {at used : ℕ} (place : ℕ) (z piece : List ℕ) → at ≡ place + length z → used ≤ length piece
    → at + used ≡ place + length (z ++ take used piece)
length_behind {used = used} place z piece e l = omega (arith, length-append z (take used piece), length-take used piece)

pub bytes_taken : (z piece : List ℕ) (used : ℕ) → AreBytes (z ++ piece) → AreBytes (z ++ take used piece)
bytes_taken z piece used o =
    bytes_prefix (z ++ take used piece) (drop used piece) (subst AreBytes (sym (all_taken z piece used)) o)

-- ---- the name

-- so many bytes of it are to come, behind so many of the stream
pub record AtName (L : Bounds) (levels : Levels) (at left : ℕ) : Type 0 where
  pub some : 0 < left
  pub room : at < levels.innermost.end
  pub ends : levels.innermost.end ≤ L.stream

pub name_at : {keep : Bool} {L : Bounds} {d : Defined} {at left : ℕ} {levels : Levels}
    → IsInPut keep L d at levels (part.Name (record { left = left })) → AtName L levels at left
name_at {keep = keep} {L = L} {d = d} {at = at} {left = left} {levels = levels} w = from w.has_read w.taken_is
  where
    from : {T : Table} {offset : ℕ} {z : List ℕ}
        → PartHasRead keep L T offset (types d) levels (part.Name (record { left = left })) z → at ≡ offset + length z
        → AtName L levels at left
    from (in_name {lv = lv} {around = around} c a s p said h k place u size some fits name none room) e =
        let ends = h.is.end in let most = within_stream L around lv _ (levels_nest p) in
        record { some = some; room = omega arith; ends = omega arith }

-- the bytes that were taken of the stream are those before
pub name_place : {keep : Bool} {L : Bounds} {d : Defined} {T : Table} {offset at left : ℕ} {levels : Levels}
    {z : List ℕ}
    → IsInPut keep L d at levels (part.Name (record { left = left }))
    → PartHasRead keep L T offset (types d) levels (part.Name (record { left = left })) z → at ≡ offset + length z
name_place w h = w.taken_is ∙ same_place w.has_read h

-- of which so many bytes of the piece are
pub record NameTakes (levels : Levels) (at left used : ℕ) (piece : List ℕ) : Type 0 where
  pub within : used ≤ length piece
  pub few : used ≤ left
  pub room : at + used ≤ levels.innermost.end
  pub all : used < left → used < length piece → at + used ≡ levels.innermost.end
  pub some : 0 < length piece → 0 < used

pub name_takes : {L : Bounds} {levels : Levels} {at left used room : ℕ} (piece : List ℕ) → AtName L levels at left
    → room ≡ min (levels.innermost.end - at) (length piece) → used ≡ min left room
    → NameTakes levels at left used piece
name_takes piece n r u =
    let some = n.some in let more = n.room in
    record {
      within = omega arith;
      few = omega arith;
      room = omega arith;
      all = λ l k. omega arith;
      some = λ l. omega arith;
    }

-- a level of which only so much more of the name came
pub record NameChanges (levels levels' : Levels) (more : List ℕ) : Type 0 where
  pub others : HeldChanges levels levels'
  pub name : levels'.innermost.held.name.items ≡ levels.innermost.held.name.items ++ more
  pub definitions : levels'.innermost.held.definitions.items ≡ levels.innermost.held.definitions.items

pub name_changes : {more : List ℕ} (levels : Levels) (held : HeldFront)
    → held.name.items ≡ levels.innermost.held.name.items ++ more
    → held.definitions.items ≡ levels.innermost.held.definitions.items
    → NameChanges levels (with_held levels held) more
name_changes levels held e f = record { others = held_changes levels held; name = e; definitions = f }

spread : (z c a s x : List ℕ) → z ++ (c ++ (a ++ (s ++ x))) ≡ (z ++ (c ++ (a ++ s))) ++ x
spread z c a s x = simp append_assoc

spread_length : (z c a s x : List ℕ)
    → length (z ++ (c ++ (a ++ (s ++ x)))) ≡ length (z ++ (c ++ (a ++ s))) + length x
spread_length z c a s x = ap length (spread z c a s x) ∙ length-append (z ++ (c ++ (a ++ s))) x

-- more of it is to come
pub name_more : {keep : Bool} {L : Bounds} {T : Table} {offset at used left : ℕ} {d : Defined} {levels levels' : Levels}
    {z piece : List ℕ} → PartHasRead keep L T offset (types d) levels (part.Name (record { left = left })) z
    → NameTakes levels at left used piece → at ≡ offset + length z → NameChanges levels levels' (take used piece)
    → at + used < levels'.innermost.end → 0 < left - used
    → PartSteps keep L T offset d z piece levels' d
    (Ok (record { used = used; next = Some (part.Name (record { left = left - used })) }))
name_more {keep = keep} {L = L} {T = T} {offset = offset} {used = used} {left = left} {d = d} {levels' = levels'}
    {piece = piece}
    (in_name {z = z} c a s p said h k place u size some fits name none room) t e change on to_come =
    let x = take used piece in let within = t.within in
    let ends = change.others.end in let end = h.is.end in
    part_goes_on refl t.within
    (subst (λ y. PartHasRead keep L T offset (types d) levels' (part.Name (record { left = left - used })) y)
    (spread z c a s x)
    (in_name c a (s ++ x) p said (at_nil_on change.others h) (others_stay change.others k) place u
    (omega (arith, length-append s x, length-take used piece)) to_come fits
    (change.name ∙ ap (λ (y : List ℕ). y ++ x) name) (change.definitions ∙ none)
    (omega (arith, spread_length z c a s x, length-take used piece))))

-- the name is whole
record NameIsWhole (keep : Bool) (L : Bounds) (T : Table) (offset : ℕ) (U : Table) (levels : Levels) (z : List ℕ) :
    Type 0 where
  pub level : Level
  pub around : List Level
  pub left : ℕ
  pub nil_depth : ℕ
  pub innermost : Open
  pub outer : List Open
  pub stands : Stands base_table L T offset z U (level ∷ around) (in_filling nil_depth) left
  pub said : opens stands ≡ innermost ∷ outer
  pub at_nil : LevelAtNil keep U levels.innermost level [] nil_depth
  pub others : OthersAre keep U levels around innermost outer left
  pub held : HeldIs levels.innermost.held innermost
  pub ends : levels.innermost.end ≡ level.end

-- a level with what leads up to the nil at hand is one before that nil
up_to_nil : {keep : Bool} {U : Table} {l : declared.Level} {lv : Level} {c : List ℕ} {d : ℕ}
    → LevelAtNil keep U l lv c d
    → LevelAtNil keep U l (record lv { done = lv.done ++ c }) [] d
up_to_nil {U = U} {l = l} {lv = lv} {c = c} {d = d} h =
    let same : lv.done ++ c ≡ (lv.done ++ c) ++ [] = sym (append_nil (lv.done ++ c)) in
    record {
      announced = h.announced;
      is = record {
        id = h.is.id;
        depth = h.is.depth;
        end = h.is.end;
        skeleton = skeleton_as h.is.skeleton same;
        ready = h.is.ready;
        grown = h.is.grown;
        reads = subst (λ y. HasReadBody skip_building U lv.type lv.limit h.announced l.reader y) same h.is.reads;
        clear = h.is.clear;
      };
      at_nil = h.at_nil;
      expects = subst (λ y. ExpectsTop lv.table lv.type y (a_number nil) d) same h.expects;
      not_deep = h.not_deep;
      shallow = subst (λ y. IsShallow lv.table lv.type lv.limit y) same h.shallow;
    }

name_is_whole : {keep : Bool} {L : Bounds} {T : Table} {offset at used left : ℕ} {U : Table} {levels levels' : Levels}
    {z piece : List ℕ} → PartHasRead keep L T offset U levels (part.Name (record { left = left })) z
    → NameTakes levels at left used piece → at ≡ offset + length z → NameChanges levels levels' (take used piece)
    → left - used ≡ 0 → NameIsWhole keep L T offset U levels' (z ++ take used piece)
name_is_whole {keep = keep} {L = L} {T = T} {offset = offset} {used = used} {left = left} {U = U}
    {levels' = levels'} {piece = piece}
    (in_name {z = z} {lv = lv} {n = n} c a s p said h k place u size some fits name none room) t e change whole =
    let x = take used piece in
    let within = t.within in let few = t.few in let fit = t.room in let end = h.is.end in
    let long : n ≡ length (s ++ x) = omega (arith, length-append s x, length-take used piece) in
    let stays = others_stay change.others k in
    subst (λ y. NameIsWhole keep L T offset U levels' y) (spread z c a s x) (record {
      level = record lv { done = lv.done ++ c };
      around = _;
      left = _;
      nil_depth = _;
      innermost = _;
      outer = _;
      stands = behind_name c (s ++ x) p h.expects h.not_deep h.shallow (omega arith)
          (subst (λ n. IsUnsigned n a) long u)
          (omega (arith, spread_length z c a s x, length-take used piece));
      said = ap (named (s ++ x)) said;
      at_nil = up_to_nil (at_nil_on change.others h);
      others = record { fillings = stays.fillings; outer = stays.outer; left_is = stays.left_is };
      held = record {
        name = change.name ∙ ap (λ (y : List ℕ). y ++ x) name;
        definitions = ap definitions_of (change.definitions ∙ none);
      };
      ends = change.others.end ∙ end;
    })

abbrev numbered : (begin end : ℕ) → NumberStage
numbered begin end = record { rest = record { begin = begin; end = end }; number = [] }

numbered_from : {a b m n : ℕ} → a ≡ b → m ≡ n → numbered a m ≡ numbered b n
numbered_from e f = cc

-- and the number behind it comes next
pub name_whole : {keep : Bool} {L : Bounds} {T : Table} {offset at behind used left : ℕ} {d : Defined}
    {levels levels' : Levels}
    {z piece : List ℕ} {number : NumberStage}
    → PartHasRead keep L T offset (types d) levels (part.Name (record { left = left })) z
    → NameTakes levels at left used piece → at ≡ offset + length z → NameChanges levels levels' (take used piece)
    → left - used ≡ 0 → behind ≡ at + used → behind < levels'.innermost.end
    → number ≡ record { rest = record { begin = behind; end = levels'.innermost.end }; number = [] }
    → PartSteps keep L T offset d z piece levels' d
    (Ok (record { used = used; next = Some (part.TypeNumber (record { number = number })) }))
name_whole {keep = keep} {L = L} {T = T} {offset = offset} {behind = behind} {used = used} {d = d}
    {levels' = levels'} {z = z}
    {piece = piece} {number = number} h t e change whole b on n =
    let w = name_is_whole h t e change whole in
    let within = t.within in let ends = w.ends in
    let here : behind ≡ offset + length (z ++ take used piece) =
    omega (arith, length-append z (take used piece), length-take used piece) in
    part_goes_on refl t.within
    (subst (λ y. PartHasRead keep L T offset (types d) levels' (part.TypeNumber (record { number = number })) y)
    (append_nil (z ++ take used piece))
    (in_held_number [] w.stands w.said w.at_nil w.others w.held
    (number_begins (n ∙ numbered_from here w.ends) (omega arith))))

-- nothing stands in an empty segment
pub no_number : NoNumber []
no_number n c x u f = let l = ap length f in absurd (omega (arith, unsigned_length u, length-append c x))

pub nothing_in : {L : Bounds} {T : Table} (at : ℕ) → RefusesBody base_table L T at 0 [] (refuses at at reason.Short)
nothing_in {L = L} {T = T} at =
    let zero : at + 0 ≡ at = omega arith in
    subst (λ n. RefusesBody base_table L T at 0 [] (refuses n n reason.Short)) zero
    (refusing.RefusesBody.short refl (begins_prefix {bytes = []} tt))

-- the segment ends with the name
whole_ends : {keep : Bool} {L : Bounds} {T : Table} {offset : ℕ} {U : Table} {levels : Levels} {z : List ℕ} (y : List ℕ)
    → (w : NameIsWhole keep L T offset U levels z) → offset + length z ≡ levels.innermost.end
    → RefusesWith L T offset (z ++ y) (refuses levels.innermost.end levels.innermost.end reason.Short) U
whole_ends {L = L} {T = T} {offset = offset} {U = U} {z = z} y w e =
    let ends = w.ends in
    let left : w.level.end - (offset + length z) ≡ 0 = omega arith in
    let refused : RefusesBody base_table L U (offset + length z) (w.level.end - (offset + length z))
    (take (w.level.end - (offset + length z)) y) (refuses (offset + length z) (offset + length z) reason.Short) =
    rw left (nothing_in (offset + length z)) in
    let nothing : NothingStands base_table L U (w.level.end - (offset + length z))
    (take (w.level.end - (offset + length z)) y) = rw left (nothing_there no_number) in
    subst (λ n. RefusesWith L T offset (z ++ y) (refuses n n reason.Short) U) e
    (held_refused y w.stands refl refused nothing (λ e. cc))

-- or within it
part_ends : {keep : Bool} {L : Bounds} {T : Table} {offset at used left : ℕ} {U : Table} {levels : Levels} {z : List ℕ}
    (piece : List ℕ) → PartHasRead keep L T offset U levels (part.Name (record { left = left })) z
    → NameTakes levels at left used piece → at ≡ offset + length z → at + used ≡ levels.innermost.end
    → 0 < left - used
    → RefusesWith L T offset ((z ++ take used piece) ++ drop used piece)
    (refuses levels.innermost.end levels.innermost.end reason.Short) U
part_ends {L = L} {T = T} {offset = offset} {used = used} {U = U} {levels = levels} piece
    (in_name {z = z} {lv = lv} c a s p said h k place u size some fits name none room) t e ends to_come =
    let x = take used piece in let within = t.within in let end = h.is.end in
    let short = name_ends (s ++ x) (drop used piece) p h u (omega (arith, length-append s x, length-take used piece))
    (omega (arith, spread_length z c a s x, length-take used piece)) in
    subst (λ n. RefusesWith L T offset (((z ++ (c ++ (a ++ s))) ++ x) ++ drop used piece) (refuses n n reason.Short) U)
    (sym end)
    (subst (λ y. RefusesWith L T offset (y ++ drop used piece) (refuses lv.end lv.end reason.Short) U)
    (spread z c a s x) short)

pub name_short : {keep : Bool} {L : Bounds} {T : Table} {offset at behind used left : ℕ} {d : Defined}
    {levels levels' : Levels}
    {z piece : List ℕ} (f : Fault)
    → PartHasRead keep L T offset (types d) levels (part.Name (record { left = left })) z
    → NameTakes levels at left used piece → at ≡ offset + length z → NameChanges levels levels' (take used piece)
    → behind ≡ at + used → GoesOn behind levels'.innermost.end (Err f)
    → PartSteps keep L T offset d z piece levels' d (Err f)
name_short {L = L} {T = T} {offset = offset} {behind = behind} {used = used} {left = left} {d = d} {levels = levels}
    {levels' = levels'} {z = z} {piece = piece} (fault.Refused R) h t e change b g =
    let ends = change.others.end in let stops = g.0 in let within = t.within in
    let here : behind ≡ offset + length (z ++ take used piece) =
    omega (arith, length-append z (take used piece), length-take used piece) in
    let refused : RefusesWith L T offset ((z ++ take used piece) ++ drop used piece)
    (refuses levels'.innermost.end levels'.innermost.end reason.Short) (types d) =
    elim (cases_lt 0 (left - used)) [
      | inl more ↦ subst (λ n. RefusesWith L T offset ((z ++ take used piece) ++ drop used piece)
          (refuses n n reason.Short) (types d)) (sym ends) (part_ends piece h t e (omega arith) more)
      | inr none ↦ whole_ends (drop used piece) (name_is_whole h t e change (omega arith)) (omega arith)
    ] in
    part_refused (rw g.1 (subst (λ y. RefusesWith L T offset y
    (refuses levels'.innermost.end levels'.innermost.end reason.Short) (types d)) (all_taken z piece used) refused))
name_short fault.Read h t e change b g = absurd g
name_short fault.Memory h t e change b g = absurd g
name_short fault.Failed h t e change b g = absurd g

-- the types stay those at hand
pub name_types : {keep : Bool} {L : Bounds} {T : Table} {offset left : ℕ} {U : Table} {levels : Levels} {z : List ℕ}
    (piece : List ℕ)
    → PartHasRead keep L T offset U levels (part.Name (record { left = left })) z
    → HasTypesWithin L T offset (z ++ piece) U
name_types piece (in_name {z = z} c a s p said h k place u size some fits name none room) =
    within_value ((c ++ (a ++ s)) ++ piece) p (append_assoc z (c ++ (a ++ s)) piece)
