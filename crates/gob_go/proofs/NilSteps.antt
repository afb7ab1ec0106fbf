-- The nil at hand of a value is read, or what fills it: more of the value follows, or it is whole.
use Rattle.std.proofs.Common.{◌≡◌, ◌≢◌, ℕ, ◌+◌, ◌-◌, ◌<◌, ◌≤◌, List, [], ◌∷◌, ◌++◌, length, take, Result, Ok, Err, Bool}
use Rattle.std.proofs.Common.{true, false, arith}
use Rattle.std.proofs.Common.{refl, sym, ap, ◌∙◌, subst, append_assoc, length-append}
use Rattle.std.proofs.lemmas.List.{take-append-le}
use Rattle.std.proofs.Math.Seq.{take-append-add}
use Rattle.gob_types.specs.declared.id.TypeId.{TypeId}
use Rattle.gob_types.specs.declared.reason.Reason.TheVariants as reason
use Rattle.gob_types.specs.Base.{base_table}
use Rattle.gob_types.specs.Defined.{Defined, types}
use Rattle.gob_types.specs.Ready.{IsReady}
use Rattle.gob_types.specs.Table.{Table, Extends}
use Rattle.gob_types.proofs.PublicLaws.{extends_keeps}
use Rattle.gob_value.specs.Top.{SpellsTop}
use Rattle.gob_value.proofs.PublicLaws.{top_back}
use Rattle.gob_read.specs.Expected.{a_number, nil}
use Rattle.gob_read.specs.Expects.{ExpectsTop}
use Rattle.gob_read.specs.First.{IsFirst}
use Rattle.gob_read.specs.Refusal as body
use Rattle.gob_read.specs.Viable.{IsShallow, IsViable}
use Rattle.gob_read.specs.Calls.Builders.{skip_building}
use Rattle.gob_read.specs.Calls.UnderWay.{under_way, HasReadBody, FitsTable}
use Rattle.gob_read.specs.Calls.UpToNil.{NoNilBegun, IsBeforeNil}
use Rattle.gob_read.proofs.Grammar.Stay.{stood_back, first_back}
use Rattle.gob_read.proofs.PublicLaws.{seen_within, shown_stays}
use Rattle.gob_stream.specs.declared.fault.Fault.{Fault}
use Rattle.gob_stream.specs.declared.fault.Fault.TheVariants as fault
use Rattle.gob_stream.specs.declared.fault.Refusal.{Refusal}
use Rattle.gob_stream.specs.Bounds.{Bounds}
use Rattle.gob_stream.proofs.Reader.BodySteps.{within_body}
use Rattle.gob_filled.specs.Outcome.{refused_value}
use Rattle.gob_filled.specs.Outcome as outcome
use Rattle.gob_filled.specs.Standing.{Level, in_value, Stands}
use Rattle.gob_filled.specs.Opens.{Open, opens}
use Rattle.gob_go.specs.Reading.{RefusesWith}
use Rattle.gob_go.specs.declared.level.Level as declared
use Rattle.gob_go.specs.declared.levels.Levels.{Levels}
use Rattle.gob_go.specs.declared.part.PutPart.TheVariants as part
use Rattle.gob_go.specs.Machine.HasRead.{PartHasRead, in_skeleton, OthersAre}
use Rattle.gob_go.specs.Machine.Levels.{FillingsAre, AreOuter}
use Rattle.gob_go.specs.Machine.Parts.{FillAnswers}
use Rattle.gob_go.specs.Machine.Skeleton.{SkeletonIs}
use Rattle.gob_go.specs.Machine.Stages.{NilByteRead, nil_byte, ValueIsWhole, value_whole, FillingSteps}
use Rattle.gob_go.specs.Machine.Stages.{filling_goes_on}
use Rattle.gob_go.specs.Machine.Stages.{filling_ends, filling_refused, no_memory_for_filling}
use Rattle.gob_go.proofs.NestedLaws.{levels_nest}
use Rattle.gob_go.proofs.NilLaws.{no_interface, never_ended}
use Rattle.gob_go.proofs.ReaderLaws.{fits, read_once}
use Rattle.gob_go.proofs.SkeletonLaws.{skeleton_as, skeleton_on}

-- ---- what is refused within the innermost skeleton

pub refuses_in_skeleton : {L : Bounds} {T : Table} {offset : ℕ} {U : Table} {lv : Level} {around : List Level}
    {left announced : ℕ} {before : List ℕ} {S : body.Refusal} {R : Refusal} (c w : List ℕ)
    → Stands base_table L T offset before U (lv ∷ around) in_value left
    → offset + length (before ++ c) + announced ≡ length (lv.done ++ c) + lv.end
    → offset + length (before ++ c) ≤ lv.end
    → IsFirst lv.table lv.type lv.limit announced ((lv.done ++ c) ++ take (announced - length (lv.done ++ c)) w) S
    → S.reason ≢ reason.InterfaceValue
    → length (lv.done ++ c) + R.place ≡ offset + length (before ++ c) + S.place
    → length (lv.done ++ c) + R.seen ≡ offset + length (before ++ c) + S.seen → R.reason ≡ S.reason
    → RefusesWith L T offset ((before ++ c) ++ w) R U
refuses_in_skeleton {offset = offset} {lv = lv} {announced = announced} {before = before} {S = S} c w p r l first n pl
    se
    re =
    let done = length-append lv.done c in
    let at = length-append before c in
    let left = announced - length (lv.done ++ c) in
    let room : lv.end - (offset + length before) ≡ length c + left = omega arith in
    let size : announced ≡ length lv.done + (lv.end - (offset + length before)) = omega arith in
    let there : (lv.done ++ c) ++ take left w ≡ lv.done ++ take (lv.end - (offset + length before)) (c ++ w) =
    append_assoc lv.done c (take left w)
    ∙ ap (λ (l : List ℕ). lv.done ++ l)
    (sym (ap (λ (k : ℕ). take k (c ++ w)) room ∙ take-append-add c w left)) in
    record {
      refuses = refused_value (append_assoc before c w) p (outcome.in_skeleton
          (subst (λ k. IsFirst lv.table lv.type lv.limit k
          (lv.done ++ take (lv.end - (offset + length before)) (c ++ w))
          S) size (subst (λ y. IsFirst lv.table lv.type lv.limit announced y S) there first)) n (omega arith)
          (omega arith) re);
      table = refl;
      shown = λ e. never_ended first.refused (sym re ∙ e);
    }

-- ---- the nil is read

-- the bytes end with the nil of the program's level, or with what fills it
pub record FillsNil (keep : Bool) (L : Bounds) (T : Table) (offset : ℕ) (U : Table) (l : declared.Level)
    (outer : List declared.Level) (kept : ℕ) (z : List ℕ) : Type 0 where
  pub before : List ℕ
  pub c : List ℕ
  pub spelled : List ℕ
  pub lv : Level
  pub around : List Level
  pub o : Open
  pub os : List Open
  pub left : ℕ
  pub nil_depth : ℕ
  pub announced : ℕ
  pub whole : z ≡ before ++ c
  pub stands : Stands base_table L T offset before U (lv ∷ around) in_value left
  pub said : opens stands ≡ o ∷ os
  pub ends : lv.done ++ c ≡ spelled ++ 0 ∷ []
  pub id : l.id ≡ lv.type
  pub depth_is : l.depth ≡ lv.limit
  pub end : l.end ≡ lv.end
  pub skeleton : SkeletonIs keep l.skeleton spelled
  pub ready : IsReady lv.table lv.type
  pub grown : Extends lv.table U
  pub reads : HasReadBody skip_building U lv.type lv.limit announced l.reader spelled
  pub clear : NoNilBegun U l.reader
  pub at_nil : IsBeforeNil U l.reader
  pub expects : ExpectsTop lv.table lv.type spelled (a_number nil) nil_depth
  pub not_deep : nil_depth ≤ lv.limit
  pub shallow : IsShallow lv.table lv.type lv.limit spelled
  pub fillings : FillingsAre keep U l o
  pub outer_are : AreOuter keep U outer around os
  pub left_is : kept ≡ left
  pub within : offset + length z ≤ lv.end

pub nil_order : {keep : Bool} {L : Bounds} {T : Table} {offset kept : ℕ} {U : Table} {l : declared.Level}
    {outer : List declared.Level} {z : List ℕ} → FillsNil keep L T offset U l outer kept z
    → l.skeleton.length < offset + length z
nil_order h =
    let n = (levels_nest h.stands).0.done in
    omega (
      arith,
      ap length h.whole,
      length-append h.before h.c,
      ap length h.ends,
      length-append h.lv.done h.c,
      length-append h.spelled (0 ∷ []),
      h.skeleton.length_is,
    )

pub nil_fits : {keep : Bool} {L : Bounds} {T : Table} {offset kept : ℕ} {U : Table} {l : declared.Level}
    {outer : List declared.Level} {z : List ℕ} → FillsNil keep L T offset U l outer kept z
    → FitsTable skip_building U l.reader
nil_fits {U = U} {l = l} h =
    fits U h.lv.type h.lv.limit h.announced h.spelled skip_building.received (under_way l.reader) h.reads

pub nil_read : {keep : Bool} {L : Bounds} {T : Table} {offset kept : ℕ} {U : Table} {l : declared.Level}
    {outer : List declared.Level} {z : List ℕ} → FillsNil keep L T offset U l outer kept z
    → (t : TypeId) (limit announced : ℕ) (y : List ℕ) → HasReadBody skip_building U t limit announced l.reader y
    → length y ≡ l.skeleton.length
nil_read {U = U} {l = l} h t limit announced y k =
    read_once U U t h.lv.type limit h.lv.limit announced h.announced y h.spelled skip_building.received
    (under_way l.reader) k h.reads
    ∙ sym h.skeleton.length_is

others : {keep : Bool} {L : Bounds} {T : Table} {offset kept : ℕ} {U : Table} {l : declared.Level}
    {outer : List declared.Level} {z : List ℕ} (levels : Levels) (h : FillsNil keep L T offset U l outer kept z)
    → levels.innermost.fillings ≡ l.fillings → levels.outer.items ≡ outer → levels.left ≡ kept
    → OthersAre keep U levels h.around h.o h.os h.left
others levels h k e f = record {
  fillings = rw k h.fillings;
  outer = rw e h.outer_are;
  left_is = f ∙ h.left_is;
}

-- the value goes on
pub nil_goes_on : {keep : Bool} {L : Bounds} {T : Table} {offset kept at : ℕ} {U : Table} {l : declared.Level}
    {outer : List declared.Level} {z : List ℕ} (levels : Levels) → FillsNil keep L T offset U l outer kept z
    → at ≡ offset + length z → FillAnswers keep U at l levels.innermost (Ok false) → levels.outer.items ≡ outer
    → levels.left ≡ kept → PartHasRead keep L T offset U levels part.Value z
nil_goes_on {keep = keep} {L = L} {T = T} {offset = offset} {at = at} {U = U} {l = l} levels h a r e f =
    let g = r.3 h.lv.type h.lv.limit h.announced h.spelled h.reads in
    let n : ℕ = length h.spelled + (l.end - at + 1) in
    let w = h.within in let d = h.end in
    subst (λ z. PartHasRead keep L T offset U levels part.Value z) (sym h.whole)
    (in_skeleton h.c h.stands h.said (record {
      announced = n;
      is = record {
        id = r.0.id ∙ h.id;
        depth = r.0.depth ∙ h.depth_is;
        end = r.0.end ∙ h.end;
        skeleton = skeleton_as (skeleton_on h.skeleton r.2) (sym h.ends);
        ready = h.ready;
        grown = h.grown;
        reads = subst (λ y. HasReadBody skip_building U h.lv.type h.lv.limit n levels.innermost.reader y) (sym h.ends)
            g.after;
        clear = r.1;
      };
      viable = stood_back (extends_keeps h.grown) h.ready
          (subst (λ y. IsViable U h.lv.type h.lv.limit n y) (sym h.ends) g.viable);
      rest = omega (arith, ap length h.whole, ap length h.ends, length-append h.spelled (0 ∷ []));
    }) (others levels h r.0.fillings e f))

-- or is whole
pub nil_is_whole : {keep : Bool} {L : Bounds} {T : Table} {offset kept at : ℕ} {U : Table} {l : declared.Level}
    {outer : List declared.Level} {z : List ℕ} (levels : Levels) → FillsNil keep L T offset U l outer kept z
    → at ≡ offset + length z → FillAnswers keep U at l levels.innermost (Ok true) → levels.outer.items ≡ outer
    → levels.left ≡ kept → ValueIsWhole keep L T offset U levels z
nil_is_whole {keep = keep} {L = L} {T = T} {offset = offset} {at = at} {U = U} {l = l} levels h a r e f =
    let g = r.3 h.lv.type h.lv.limit h.announced h.spelled h.reads in
    let w = h.within in let d = h.end in
    let v = g.made.value in
    let all = g.made.all in
    subst (λ z. ValueIsWhole keep L T offset U levels z) (sym h.whole)
    (value_whole h.c h.stands h.said
    (top_back (extends_keeps h.grown) h.ready (subst (λ y. SpellsTop U h.lv.type v y) (sym h.ends) g.made.spelled))
    g.made.not_deep
    (omega (arith, ap length h.whole, length-append h.spelled (0 ∷ []))) h.ready h.grown (r.0.id ∙ h.id)
    (skeleton_as (skeleton_on h.skeleton r.2) (sym h.ends)) (others levels h r.0.fillings e f))

-- or refused
pub nil_refused : {keep : Bool} {L : Bounds} {T : Table} {offset kept at : ℕ} {U : Table} {l : declared.Level}
    {outer : List declared.Level} {z : List ℕ} {R : Refusal} → FillsNil keep L T offset U l outer kept z
    → at ≡ offset + length z → FillAnswers keep U at l l (Err (fault.Refused R)) → (w : List ℕ)
    → RefusesWith L T offset (z ++ w) R U
nil_refused {L = L} {T = T} {offset = offset} {at = at} {U = U} {l = l} {R = R} h a r w =
    let k = r h.lv.type h.lv.limit h.announced h.spelled h.reads in
    let first = first_back (extends_keeps h.grown) h.ready k.is in
    let n : ℕ = length h.spelled + (l.end - at + 1) in
    let s : List ℕ = h.spelled ++ 0 ∷ [] in
    let inside = h.within in let d = h.end in let pl = k.place in let se = k.seen in
    let sk = h.skeleton.length_is in
    let size : length s ≡ length h.spelled + 1 = length-append h.spelled (0 ∷ []) in
    let there = seen_within first.refused in
    let fewer : length s ≤ n = omega arith in
    let stays = shown_stays (s ++ take (n - length s) w) first fewer (within_body s w n fewer)
    (take-append-le k.first.seen s (take (n - length s) w) there) in
    subst (λ z. RefusesWith L T offset (z ++ w) R U) (sym h.whole)
    (refuses_in_skeleton h.c w h.stands (omega (arith, ap length h.whole, ap length h.ends))
    (omega (arith, ap length h.whole))
    (subst (λ y. IsFirst h.lv.table h.lv.type h.lv.limit n (y ++ take (n - length y) w) k.first) (sym h.ends) stays)
    (no_interface h.expects h.not_deep h.shallow (omega arith) first.refused)
    (omega (arith, ap length h.whole, ap length h.ends)) (omega (arith, ap length h.whole, ap length h.ends))
    k.reason_is)

-- ---- where it comes from

-- the byte of a nil
pub of_nil_byte : {keep : Bool} {L : Bounds} {T : Table} {offset : ℕ} {U : Table} {levels : Levels} {z : List ℕ}
    → NilByteRead keep L T offset U levels z
    → FillsNil keep L T offset U levels.innermost levels.outer.items levels.left z
of_nil_byte (nil_byte {z = z} {lv = lv} {around = around} {left = left} {d = d} {o = o} {os = os} c p said h k l) =
    record {
      before = z;
      c = c ++ 0 ∷ [];
      spelled = lv.done ++ c;
      lv = lv;
      around = around;
      o = o;
      os = os;
      left = left;
      nil_depth = d;
      announced = h.announced;
      whole = refl;
      stands = p;
      said = said;
      ends = sym (append_assoc lv.done c (0 ∷ []));
      id = h.is.id;
      depth_is = h.is.depth;
      end = h.is.end;
      skeleton = h.is.skeleton;
      ready = h.is.ready;
      grown = h.is.grown;
      reads = h.is.reads;
      clear = h.is.clear;
      at_nil = h.at_nil;
      expects = h.expects;
      not_deep = h.not_deep;
      shallow = h.shallow;
      fillings = k.fillings;
      outer_are = k.outer;
      left_is = k.left_is;
      within = l;
    }

pub nil_before : {keep : Bool} {L : Bounds} {T : Table} {offset kept at : ℕ} {U : Table} {l : declared.Level}
    {outer : List declared.Level} {z : List ℕ} → FillsNil keep L T offset U l outer kept z → at ≡ offset + length z
    → l.skeleton.length < at
nil_before h e = let n = nil_order h in omega arith

pub nil_ends : {keep : Bool} {L : Bounds} {T : Table} {offset kept at : ℕ} {U : Table} {l : declared.Level}
    {outer : List declared.Level} {z : List ℕ} → FillsNil keep L T offset U l outer kept z → at ≡ offset + length z
    → at ≤ l.end
nil_ends h e = let w = h.within in let d = h.end in omega arith

-- what filling it answers
pub filling_steps : {keep : Bool} {L : Bounds} {T : Table} {offset kept at : ℕ} {d : Defined} {l : declared.Level}
    {outer : List declared.Level} {z : List ℕ} (levels : Levels) (result : Result Bool Fault)
    → FillsNil keep L T offset (types d) l outer kept z → at ≡ offset + length z
    → FillAnswers keep (types d) at l levels.innermost result → levels.outer.items ≡ outer → levels.left ≡ kept
    → FillingSteps keep L T offset d z levels result
filling_steps levels (Ok false) h a r e f = filling_goes_on (nil_goes_on levels h a r e f)
filling_steps levels (Ok true) h a r e f = filling_ends (nil_is_whole levels h a r e f)
filling_steps levels (Err (fault.Refused R)) h a r e f = filling_refused (nil_refused h a r)
filling_steps levels (Err fault.Memory) h a r e f = no_memory_for_filling
filling_steps levels (Err fault.Read) h a r e f = absurd r
filling_steps levels (Err fault.Failed) h a r e f = absurd r
