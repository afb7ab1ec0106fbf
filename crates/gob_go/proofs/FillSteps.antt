-- A level is told of the byte of a nil.
use Rattle.std.proofs.Common.{◌≡◌, ℕ, ◌+◌, ◌-◌, ◌^◌, ◌<◌, ◌≤◌, List, [], ◌∷◌, ◌++◌, length, take, None}
use Rattle.std.proofs.Common.{Result, Ok, Err, IfOk, is_ok, Bool, true, arith, refl, sym, subst}
use Rattle.gob_types.specs.declared.id.TypeId.{TypeId}
use Rattle.gob_types.specs.Table.{Table}
use Rattle.gob_read.specs.First.{IsFirst}
use Rattle.gob_read.specs.Calls.Builders.{skip_building}
use Rattle.gob_read.specs.Calls.Reader.{ReaderRefusesBody, Stops}
use Rattle.gob_read.specs.Calls.UnderWay.{under_way, HasReadBody, FitsTable}
use Rattle.gob_read.specs.Calls.UpToNil.{IsBeforeNil}
use Rattle.gob_read.specs.declared.reader.BodyReader.{BodyReader}
use Rattle.gob_read.specs.declared.skip_builder.SkipBuilder.{SkipBuilder}
use Rattle.gob_read.specs.declared.stop.Stop.{Stop}
use Rattle.gob_read.specs.declared.stop.Stop.TheVariants as stop
use Rattle.gob_read.proofs.PublicLaws.{take_whole}
use Rattle.gob_stream.specs.declared.fault.Fault.{Fault}
use Rattle.gob_stream.specs.Machine.ReadParts.{StopsWithin, fault_behind}
use Rattle.gob_go.specs.declared.level.Level.{Level}
use Rattle.gob_go.specs.Machine.Parts.{FillAnswers}
use Rattle.gob_go.specs.declared.skeleton.Skeleton.{Skeleton}
use Rattle.gob_go.specs.Machine.Skeleton.{SkeletonGrows}
use Rattle.gob_go.proofs.ReaderLaws.{IsReading, reading, fits, reads_on, read_once, announced_once, stops_in_level}
use Rattle.gob_go.proofs.ReaderLaws.{at_nil_open}

abbrev pub Reader : Type 0
Reader = BodyReader SkipBuilder (Unit {0})

-- a reader before a nil, of which so much is read, and for which so many bytes are left
pub record IsToldOfNil (T : Table) (old new : Reader) (done left : ℕ) : Type 0 where
  pub usable : FitsTable skip_building T old
  pub stands : under_way old ≡ None → ⊥
  pub read : (t : TypeId) (limit announced : ℕ) (z : List ℕ) → HasReadBody skip_building T t limit announced old z
      → length z ≡ done
  pub few : done + left < 2 ^ 64
  pub some : 0 < left
  pub announces : (t : TypeId) (limit announced : ℕ) (z : List ℕ) → length z + left < 2 ^ 64
      → HasReadBody skip_building T t limit announced old z
      → HasReadBody skip_building T t limit (length z + left) new z

pub is_told : {T : Table} {old new : Reader} {done at end : ℕ} → FitsTable skip_building T old → IsBeforeNil T old
    → ((t : TypeId) (limit announced : ℕ) (z : List ℕ) → HasReadBody skip_building T t limit announced old z
    → length z ≡ done)
    → done < at → at ≤ end → end < 2 ^ 64
    → ((t : TypeId) (limit announced : ℕ) (z : List ℕ) → length z + (end - at + 1) < 2 ^ 64
    → HasReadBody skip_building T t limit announced old z
    → HasReadBody skip_building T t limit (length z + (end - at + 1)) new z)
    → IsToldOfNil T old new done (end - at + 1)
is_told {T = T} {old = old} u n r d k f a = record {
  usable = u;
  stands = at_nil_open T (under_way old) n;
  read = r;
  few = omega arith;
  some = omega arith;
  announces = a;
}

told : {T : Table} {old new : Reader} {done left : ℕ} → (h : IsToldOfNil T old new done left)
    → IsReading T skip_building.received (under_way old)
told {T = T} {old = old} h = reading T skip_building.received (under_way old) h.usable h.stands

pub told_after : {T : Table} {old new : Reader} {done left : ℕ} (t : TypeId) (limit announced : ℕ) (z : List ℕ)
    → IsToldOfNil T old new done left → HasReadBody skip_building T t limit announced old z
    → HasReadBody skip_building T t limit (length z + left) new z
told_after t limit announced z h k =
    let n = h.read t limit announced z k in let few = h.few in h.announces t limit announced z (omega arith) k

pub told_fits : {T : Table} {old new : Reader} {done left : ℕ} → IsToldOfNil T old new done left
    → FitsTable skip_building T new
told_fits {T = T} {new = new} {left = left} h =
    let i = told h in
    fits T i.type i.limit (length i.bytes + left) i.bytes skip_building.received (under_way new)
    (told_after i.type i.limit i.announced i.bytes h i.after)

told_open : {T : Table} {old new : Reader} {done left : ℕ} → IsToldOfNil T old new done left → under_way new ≡ None → ⊥
told_open {T = T} {new = new} {left = left} h e =
    let i = told h in
    reads_on T i.type i.limit (length i.bytes + left) i.bytes skip_building.received (under_way new)
    (told_after i.type i.limit i.announced i.bytes h i.after) e

told_length : {T : Table} {old new : Reader} {done left : ℕ} (t : TypeId) (limit announced : ℕ) (z : List ℕ)
    → IsToldOfNil T old new done left → HasReadBody skip_building T t limit announced new z → announced ≡ done + left
told_length {T = T} {new = new} {left = left} t limit announced z h k =
    let i = told h in
    let n = h.read i.type i.limit i.announced i.bytes i.after in
    let e = announced_once T T t i.type limit i.limit announced (length i.bytes + left) z i.bytes skip_building.received
    (under_way new) k (told_after i.type i.limit i.announced i.bytes h i.after) in
    omega arith

pub told_room : {T : Table} {old new : Reader} {done left : ℕ} (t : TypeId) (limit announced : ℕ) (z : List ℕ)
    → IsToldOfNil T old new done left → HasReadBody skip_building T t limit announced new z → length z < announced
told_room {T = T} {new = new} {left = left} t limit announced z h k =
    let i = told h in
    let n = h.read i.type i.limit i.announced i.bytes i.after in
    let e = told_length t limit announced z h k in
    let s = h.some in
    let same = read_once T T t i.type limit i.limit announced (length i.bytes + left) z i.bytes skip_building.received
    (under_way new) k (told_after i.type i.limit i.announced i.bytes h i.after) in
    omega arith

pub told_within : {T : Table} {old new : Reader} {done left at end begin : ℕ} (s : Stop)
    → IsToldOfNil T old new done left → done < at → at ≤ end → end < 2 ^ 64 → left ≡ end - at + 1
    → begin ≡ at - (done + 1)
    → Stops (under_way new) (λ refusal. ReaderRefusesBody T skip_building.received (under_way new) (0 ∷ []) refusal) s
    → StopsWithin begin s
told_within {T = T} {new = new} {done = done} {at = at} {end = end} s h o l m k b r =
    stops_in_level T {at = at} {end = end} {done = done + 1} skip_building.received (under_way new) (0 ∷ []) s
    (told_fits h) (omega arith) l m b
    (λ t limit announced z p. let e = told_length t limit announced z h p in omega arith) r
    (λ e. absurd (told_open h e))

one_there : (n : ℕ) → 0 < n → take {A = ℕ} n (0 ∷ []) ≡ 0 ∷ []
one_there n l = take_whole (0 ∷ []) n l

-- why it stops there
pub fill_stops : {T : Table} {at begin done left : ℕ} (keep : Bool) (l l' : Level) {new : Reader} {f : Fault} (s : Stop)
    → IsToldOfNil T l.reader new done left → done ≡ l.skeleton.length → done < at
    → left ≡ l.end - at + 1 → begin ≡ at - (done + 1)
    → Stops (under_way new) (λ refusal. ReaderRefusesBody T skip_building.received (under_way new) (0 ∷ []) refusal) s
    → f ≡ fault_behind begin s → FillAnswers keep T at l l' (Err f)
fill_stops {T = T} {at = at} {begin = begin} {done = done} {left = left} keep l l' (stop.Refused place seen reason)
    h d o k b r e =
    subst (λ f. FillAnswers keep T at l l' (Err f)) (sym e) (λ t limit announced z p. record {
      first = record { place = place; seen = seen; reason = reason };
      is =
          subst (λ n. IsFirst T t limit (length z + n) (z ++ 0 ∷ [])
          (record { place = place; seen = seen; reason = reason })) k
          (subst (λ y. IsFirst T t limit (length z + left) (z ++ y)
          (record { place = place; seen = seen; reason = reason }))
          (one_there (length z + left - length z) (let s = h.some in omega arith))
          (r.each t limit (length z + left) z (told_after t limit announced z h p)));
      place = omega arith;
      seen = omega arith;
      reason_is = refl;
    })
fill_stops {T = T} {at = at} keep l l' stop.Memory h d o k b r e =
    subst (λ f. FillAnswers keep T at l l' (Err f)) (sym e) tt
fill_stops keep l l' stop.Failed h d o k b r e = absurd (told_open h r)

-- what was added is there
pub grown_there : {T E P : Type 0} (r : Result T E) → is_ok r ≡ true → IfOk r (λ _. P) → P
grown_there (Ok x) e h = h
grown_there (Err x) e h = cc

pub grown_begin : {keep : Bool} {old new : Skeleton} (at : ℕ) {begin : ℕ} → begin ≡ at - new.length
    → SkeletonGrows keep old new (0 ∷ []) → begin ≡ at - (old.length + 1)
grown_begin at b g = omega (arith, g.length_is)
