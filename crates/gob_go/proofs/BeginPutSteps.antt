-- A value in an item of its own begins.
use Rattle.std.proofs.Common.{Bool}
use Rattle.std.proofs.Common.{◌≡◌, ℕ, ◌+◌, ◌-◌, ◌≤◌, min, List, [], ◌∷◌, ◌++◌, length, Ok, arith, refl, sym}
use Rattle.std.proofs.Common.{subst, length-append}
use Rattle.gob_num.specs.Unsigned.{AreBytes}
use Rattle.gob_types.specs.declared.id.TypeId.{TypeId}
use Rattle.gob_types.specs.Base.{base_table}
use Rattle.gob_types.specs.Table.{Table, Extends}
use Rattle.gob_types.specs.Defined.{Defined, types}
use Rattle.gob_read.specs.Calls.Builders.{skip_building}
use Rattle.gob_read.specs.Calls.UnderWay.{HasReadBody}
use Rattle.gob_read.proofs.Machine.NilsStay.{reader_begins}
use Rattle.gob_read.proofs.PublicLaws.{append_nil}
use Rattle.gob_stream.specs.declared.stage.Extent.{Extent}
use Rattle.gob_stream.specs.Bounds.{Bounds}
use Rattle.gob_stream.specs.Body.{MayPut}
use Rattle.gob_stream.specs.Machine.HasRead.{IsCount}
use Rattle.gob_filled.specs.Standing.{new_level, Stands}
use Rattle.gob_filled.specs.Standing as standing
use Rattle.gob_go.specs.Meaning.{AreFillings, no_fillings}
use Rattle.gob_filled.specs.Opens.{nothing_said}
use Rattle.gob_go.specs.declared.level.Level.{Level}
use Rattle.gob_go.specs.declared.levels.Levels.{Levels}
use Rattle.gob_go.specs.declared.part.PartTaken.{PartTaken}
use Rattle.gob_go.specs.Machine.HasRead.{OthersAre}
use Rattle.gob_go.specs.Machine.Levels.{LevelUnderWay, begins, AreOuter, none_outer}
use Rattle.gob_go.specs.Machine.Parts.{LevelIsNew}
use Rattle.gob_go.specs.Machine.Stages.{IsAtBody, positive, IsNumberOf, of_value, IsInValue, ValueHasRead, in_value_at}
use Rattle.gob_go.specs.Machine.Stages.{PartSteps, part_goes_on, item_ends}
use Rattle.gob_go.proofs.GrownLaws.{extends_itself}
use Rattle.gob_go.proofs.SkeletonLaws.{skeleton_begins}
use Rattle.gob_go.proofs.TypeNumberSteps.{put_bytes}

-- a level that has taken nothing stands at the start of its value
pub level_begins : {keep : Bool} {U : Table} {l : Level} {id : TypeId} {limit end announced at : ℕ} → limit ≤ 65536
    → MayPut U id
    → Extends U U → LevelIsNew id limit end announced l → at + announced ≡ end
    → LevelUnderWay keep U l (new_level U id limit end) [] at
level_begins {keep = keep} {U = U} {l = l} {id = id} {limit = limit} {announced = announced} deep may grown h e =
    let same : min limit 65536 ≡ limit = omega arith in
    let read : HasReadBody skip_building U id limit announced l.reader [] =
    subst (λ n. HasReadBody skip_building U id n announced l.reader []) same (h.read U may.ready) in
    record {
      announced = announced;
      is = record {
        id = h.id_is;
        depth = h.depth_is;
        end = h.end_is;
        skeleton = skeleton_begins keep h.skeleton_length h.skeleton_bytes;
        ready = may.ready;
        grown = grown;
        reads = read;
        clear = reader_begins U id limit announced skip_building.received l.reader.run read;
      };
      stood = begins;
      rest = omega arith;
    }

pub value_begins : {keep : Bool} {L : Bounds} {offset m at left : ℕ} {c a : List ℕ} {body : Extent} {id : TypeId}
    {levels : Levels}
    (d : Defined) → L.depth ≤ 65536 → IsCount L offset m c body → IsNumberOf positive id a
    → at ≡ body.begin + length a → at ≤ body.end → MayPut (types d) id
    → LevelIsNew id L.depth body.end (body.end - at) levels.innermost → levels.outer.items ≡ [] → levels.left ≡ left
    → left ≡ L.item - (body.end - body.begin) → ValueHasRead keep L (types d) offset (types d) levels (c ++ a)
value_begins {keep = keep} {L = L} {offset = offset} {m = m} {at = at} {left = left} {c = c} {a = a} {body = body}
    {levels = levels}
    d deep k (of_value {t = id} s) t l may new outer e f =
    let kb = k.begin in let ke = k.end in let ki = k.item in let ks = k.stream in
    let p : Stands base_table L (types d) offset (c ++ a) (types d) (new_level (types d) id L.depth body.end ∷ [])
    standing.in_value left =
    standing.at_value k.count k.item (omega arith) (omega arith) s (omega arith) may (omega arith) in
    let place : offset + length ((c ++ a) ++ []) ≡ at = omega (arith, length-append c a, length-append (c ++ a) []) in
    let others : OthersAre keep (types d) levels [] nothing_said [] left = record {
      fillings = λ on. subst (λ fs. AreFillings (types d) fs nothing_said.fillings) (sym new.fillings) no_fillings;
      outer = subst (λ ls. AreOuter keep (types d) ls [] []) (sym outer) none_outer;
      left_is = e;
    } in
    subst (λ z. ValueHasRead keep L (types d) offset (types d) levels z) (append_nil (c ++ a))
    (in_value_at [] p refl (level_begins deep may (extends_itself d) new (omega arith)) others)

pub part_few : {keep : Bool} {L : Bounds} {T : Table} {offset : ℕ} {d d' : Defined} {z piece : List ℕ} {levels : Levels}
    {taken : PartTaken} → PartSteps keep L T offset d z piece levels d' (Ok taken) → taken.used ≤ length piece
part_few (part_goes_on e l h) = l
part_few (item_ends e l h) = l

pub is_in_value : {keep : Bool} {L : Bounds} {d : Defined} {at left : ℕ} {body : Extent} {id : TypeId} {levels : Levels}
    → L.depth ≤ 65536 → IsAtBody L d at body (IsNumberOf positive id) → MayPut (types d) id
    → LevelIsNew id L.depth body.end (body.end - at) levels.innermost → levels.outer.items ≡ [] → levels.left ≡ left
    → left ≡ L.item - (body.end - body.begin) → IsInValue keep L d at levels
is_in_value {d = d} deep h may new outer e f =
    let kb = h.counted.begin in let ks = h.counted.stream in let t = h.taken_is in
    record {
      table = types d;
      offset = h.offset;
      bytes = h.count ++ h.number;
      are_bytes = subst AreBytes (append_nil (h.count ++ h.number)) (put_bytes [] h tt);
      has_read = value_begins d deep h.counted h.numbered h.taken_is h.within may new outer e f;
      taken_is = omega (arith, length-append h.count h.number);
      within = omega arith;
      known = h.known;
    }
