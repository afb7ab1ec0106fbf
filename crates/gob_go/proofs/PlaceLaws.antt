-- By what it expects, a reader of the item of a value stands at one place of the stream.
use Rattle.std.proofs.Common.{Bool}
use Rattle.std.proofs.Common.{◌≡◌, ℕ, ◌+◌, List, ◌++◌, length, arith, ap, subst, length-append}
use Rattle.gob_num.specs.Unsigned.{IsUnsigned}
use Rattle.gob_num.proofs.PublicLaws.{unsigned_unique}
use Rattle.gob_types.specs.declared.id.TypeId.{TypeId}
use Rattle.gob_types.specs.Base.{wire_type}
use Rattle.gob_types.specs.Table.{Table}
use Rattle.gob_read.specs.Calls.Builders.{skip_building, tree_building}
use Rattle.gob_read.specs.Calls.UnderWay.{under_way, HasReadBody}
use Rattle.gob_stream.specs.Bounds.{Bounds}
use Rattle.gob_stream.specs.Machine.HasRead.{size}
use Rattle.gob_go.specs.declared.description.DescriptionStage.{DescriptionStage}
use Rattle.gob_go.specs.declared.level.Level.{Level}
use Rattle.gob_go.specs.declared.levels.Levels.{Levels}
use Rattle.gob_go.specs.declared.number.NumberStage.{NumberStage}
use Rattle.gob_go.specs.declared.part.PutPart.{PutPart}
use Rattle.gob_go.specs.declared.part.PutPart.TheVariants as part
use Rattle.gob_go.specs.Machine.HasRead.{NumberIs, DescriptionIs, PartHasRead, in_skeleton, in_name_length, in_name}
use Rattle.gob_go.specs.Machine.HasRead.{in_held_number, in_held_description, in_next_count, in_inner_count}
use Rattle.gob_go.proofs.ReaderLaws.{announced_once, read_once}

-- ---- where it stands in a skeleton

-- the program's level stands there, by what its reader has announced and where its segment ends
record IsLevelAt (l : Level) (at : ℕ) : Type 0 where
  table : Table
  type : TypeId
  limit : ℕ
  announced : ℕ
  bytes : List ℕ
  reads : HasReadBody skip_building table type limit announced l.reader bytes
  rest : at + announced ≡ l.skeleton.length + l.end

one_in_level : {l : Level} {m n : ℕ} → IsLevelAt l m → IsLevelAt l n → m ≡ n
one_in_level {l = l} a b =
    let same = announced_once a.table b.table a.type b.type a.limit b.limit a.announced b.announced a.bytes b.bytes
    skip_building.received (under_way l.reader) a.reads b.reads in
    let r = a.rest in let s = b.rest in omega arith

-- ---- in a name

-- so many bytes of the name are to come, behind its length, which stands behind the bytes that the level has read
record IsNameAt (l : Level) (to_come at : ℕ) : Type 0 where
  begin : ℕ
  number : List ℕ
  level : IsLevelAt l begin
  counts : IsUnsigned (length l.held.name.items + to_come) number
  place : at ≡ begin + length number + length l.held.name.items

one_in_name : {l : Level} {to_come m n : ℕ} → IsNameAt l to_come m → IsNameAt l to_come n → m ≡ n
one_in_name a b =
    let same = one_in_level a.level b.level in
    let p = a.place in let q = b.place in omega (arith, ap length (unsigned_unique a.counts b.counts))

-- ---- in a description
record IsDescriptionAt (stage : DescriptionStage) (at : ℕ) : Type 0 where
  table : Table
  type : TypeId
  limit : ℕ
  announced : ℕ
  bytes : List ℕ
  reads : HasReadBody tree_building table type limit announced stage.reader bytes
  place : at ≡ stage.rest.begin + length bytes

one_in_description : {stage : DescriptionStage} {m n : ℕ} → IsDescriptionAt stage m → IsDescriptionAt stage n → m ≡ n
one_in_description {stage = stage} a b =
    let same = read_once a.table b.table a.type b.type a.limit b.limit a.announced b.announced a.bytes b.bytes
    tree_building.received (under_way stage.reader) a.reads b.reads in
    let p = a.place in let q = b.place in omega arith

-- ---- in any part
abbrev IsNumberAt : NumberStage → ℕ → Type 0
IsNumberAt stage at = at ≡ stage.rest.begin + length stage.number

abbrev IsPartAt : Levels → PutPart → ℕ → Type 0
IsPartAt levels part.Value at = IsLevelAt levels.innermost at
IsPartAt levels (part.NameLength stage) at = IsNumberAt stage.number at
IsPartAt levels (part.Name name) at = IsNameAt levels.innermost name.left at
IsPartAt levels (part.TypeNumber stage) at = IsNumberAt stage.number at
IsPartAt levels (part.Description stage) at = IsDescriptionAt stage.description at
IsPartAt levels (part.NextCount stage) at = IsNumberAt stage.number at
IsPartAt levels (part.InnerCount stage) at = IsNumberAt stage.number at

one_in_part : (levels : Levels) (next : PutPart) {m n : ℕ} → IsPartAt levels next m → IsPartAt levels next n → m ≡ n
one_in_part levels part.Value a b = one_in_level a b
one_in_part levels (part.NameLength stage) a b = omega arith
one_in_part levels (part.Name name) a b = one_in_name a b
one_in_part levels (part.TypeNumber stage) a b = omega arith
one_in_part levels (part.Description stage) a b = one_in_description a b
one_in_part levels (part.NextCount stage) a b = omega arith
one_in_part levels (part.InnerCount stage) a b = omega arith

number_at : {stage : NumberStage} {begin end at : ℕ} {q : List ℕ} → NumberIs stage begin end q → at ≡ begin + length q
    → IsNumberAt stage at
number_at h e = let b = h.begins in omega (arith, ap length h.bytes)

description_at : {L : Bounds} {U : Table} {stage : DescriptionStage} {begin end at : ℕ} {a y : List ℕ}
    → DescriptionIs L U stage begin end a y → at ≡ begin + length a + length y → IsDescriptionAt stage at
description_at {L = L} {U = U} {stage = stage} {y = y} h e = record {
  table = U;
  type = wire_type;
  limit = L.depth;
  announced = size stage.rest;
  bytes = y;
  reads = h.read.after;
  place = let b = h.begins in omega arith;
}

part_at : {keep : Bool} {L : Bounds} {T U : Table} {offset : ℕ} {levels : Levels} {next : PutPart} {z : List ℕ}
    → PartHasRead keep L T offset U levels next z → IsPartAt levels next (offset + length z)
part_at {U = U} (in_skeleton {z = z} {lv = lv} c p said w o) = record {
  table = U;
  type = lv.type;
  limit = lv.limit;
  announced = w.announced;
  bytes = lv.done ++ c;
  reads = w.is.reads;
  rest = let r = w.rest in let e = w.is.end in omega (arith, w.is.skeleton.length_is);
}
part_at (in_name_length {z = z} c a p said h o number place) =
    number_at number (omega (arith, length-append z (c ++ a), length-append z c, length-append c a))
part_at {U = U} {offset = offset} (in_name {z = z} {lv = lv} c a s p said h o place u size_is some fits name none
    room) = record {
      begin = offset + length (z ++ c);
      number = a;
      level = record {
        table = U;
        type = lv.type;
        limit = lv.limit;
        announced = h.announced;
        bytes = lv.done ++ c;
        reads = h.is.reads;
        rest = let e = h.is.end in omega (arith, h.is.skeleton.length_is);
      };
      counts = subst (λ n. IsUnsigned n a) (omega (arith, ap length name)) u;
      place = omega (
        arith,
        ap length name,
        length-append z (c ++ (a ++ s)),
        length-append c (a ++ s),
        length-append a s,
        length-append z c,
      );
    }
part_at (in_held_number {z = z} a p said h o held number) = number_at number (omega (arith, length-append z a))
part_at (in_held_description {z = z} a y p said h o held description) =
    description_at description (omega (arith, length-append z (a ++ y), length-append a y))
part_at (in_next_count {z = z} {b = b} q p said def ends h o held number) =
    number_at number (omega (arith, length-append z (b ++ q), length-append z b, length-append b q))
part_at (in_inner_count {z = z} {n = n} q p said may sg h o held number) =
    number_at number (omega (arith, length-append z (n ++ q), length-append z n, length-append n q))

pub same_place : {keep : Bool} {L M : Bounds} {S T U V : Table} {offset begin : ℕ} {levels : Levels}
    {next : PutPart} {y z : List ℕ}
    → PartHasRead keep L S offset U levels next y → PartHasRead keep M T begin V levels next z
    → offset + length y ≡ begin + length z
same_place {levels = levels} {next = next} h k = one_in_part levels next (part_at h) (part_at k)
