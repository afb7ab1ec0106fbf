-- What the two later fields of wireType changed: nothing, but that deltas which lead to them are refused no more.
-- (docs/FORMAT.md, Types and the base table; Refusals.)
use Rattle.std.specs.Prelude.{◌≡◌, ℕ, pos, negsuc, ◌+◌, ◌⊎◌, List, [], ◌∷◌, ◌++◌, length, take, Some}
use Rattle.gob_num.specs.Unsigned.{IsUnsigned}
use Rattle.gob_num.specs.Signed.{IsSigned}
use Rattle.gob_types.specs.declared.id.TypeId.{TypeId}
use Rattle.gob_types.specs.declared.kind.Shape.{Shape}
use Rattle.gob_types.specs.declared.reason.Reason.TheVariants as reason
use Rattle.gob_types.specs.Table.{Table, shape_of}
use Rattle.gob_types.specs.Base.{base_table, wire_type}
use Rattle.gob_wire_fields.specs.BaseTable.{earlier_base_table, earlier_wire_type_fields}
use Rattle.gob_value.specs.Top.{IsStruct}
use Rattle.gob_read.specs.Expects.{FieldsRun, Enters}
use Rattle.gob_read.specs.Refusal as body
use Rattle.gob_stream.specs.declared.fault.Refusal.{Refusal}
use Rattle.gob_stream.specs.Bounds.{Bounds}
use Rattle.gob_stream.specs.Item.{StreamItem}
use Rattle.gob_stream.specs.Body.{MayDefine, MayPut}
use Rattle.gob_stream.specs.Stream.{Stream}
use Rattle.gob_stream.specs.Refusing.{behind}
use Rattle.gob_stream.specs.Outcome.{Ending, refused, Outcome}

-- behind these bytes of a value of the type a part begins, which is of the other type
pub data BeginsPart (T : Table) : TypeId → List ℕ → TypeId → Type 0 where
  itself : {t : TypeId} → BeginsPart T t [] t
  one_in : {t u w : TypeId} {s : Shape} {q p : List ℕ} → shape_of T t ≡ Some s → Enters T s.kind q u
      → BeginsPart T u p w
      → BeginsPart T t (q ++ p) w

-- behind these bytes of a body behind its type number a part begins, which is of the other type: a value that is no
-- struct stands behind the tag
pub data BeginsPartTop (T : Table) : TypeId → List ℕ → TypeId → Type 0 where
  in_struct : {t u : TypeId} {s : Shape} {p : List ℕ} → shape_of T t ≡ Some s → IsStruct s.kind → BeginsPart T t p u
      → BeginsPartTop T t p u
  behind_tag : {t u : TypeId} {s : Shape} {p : List ℕ} → shape_of T t ≡ Some s → ¬ IsStruct s.kind → BeginsPart T t p u
      → BeginsPartTop T t (0 ∷ p) u

-- Where a part begins as is said, these bytes have a wireType, whole fields of it, and then a delta that leads to field
-- 5 or 6:
-- `next` is one above the number of the last field before it, or 0, so it leads to field next + number - 1.
pub record LeadsOn (T : Table) (Begins : List ℕ → TypeId → Type 0) (z : List ℕ) : Type 0 where
  pub around : List ℕ
  pub fields : List ℕ
  pub next : ℕ
  pub delta : List ℕ
  pub number : ℕ
  pub rest : List ℕ
  pub begins : Begins around wire_type
  pub run : FieldsRun T earlier_wire_type_fields 0 next fields
  pub spelled : IsUnsigned number delta
  pub later : (next + number ≡ 6) ⊎ (next + number ≡ 7)
  pub whole : z ≡ around ++ (fields ++ (delta ++ rest))

-- the refusal of that delta, where these are the bytes before it
abbrev pub refused_delta : (around fields delta : List ℕ) → body.Refusal
refused_delta around fields delta =
    let place = length around + length fields in record {
      place = place;
      seen = place + length delta;
      reason =
          reason.FieldNumber;
    }

-- z is what is there of a value of the type, and the refusal is that of such a delta
pub record IsLaterField (T : Table) (t : TypeId) (z : List ℕ) (R : body.Refusal) : Type 0 where
  pub leads : LeadsOn T (BeginsPartTop T t) z
  pub refusal : R ≡ refused_delta leads.around leads.fields leads.delta

-- y is what is there of the body of an item that begins at this offset of the stream, and the refusal is that of such a
-- delta
pub data RefusesLater (L : Bounds) (T : Table) (offset : ℕ) (y : List ℕ) : Refusal → Type 0 where
  in_value : {t : TypeId} {a : List ℕ} {R : body.Refusal} (z : List ℕ) → y ≡ a ++ z → IsSigned (pos t.0) a → MayPut T t
      → IsLaterField T t z R → RefusesLater L T offset y (behind (offset + length a) R)
  in_description : {id : TypeId} {n : ℕ} {a : List ℕ} {R : body.Refusal} (z : List ℕ) → y ≡ a ++ z → id.0 ≡ n + 1
      → IsSigned (negsuc n) a → MayDefine earlier_base_table L T id → IsLaterField T wire_type z R
      → RefusesLater L T offset y (behind (offset + length a) R)

-- the bytes are refused so behind the items, by the earlier base table
pub data EndsAtLater (L : Bounds) (bytes : List ℕ) (items : List StreamItem) : Ending → Type 0 where
  at_later : {f c : List ℕ} {T : Table} {m : ℕ} {R : Refusal} (r : List ℕ) → Stream earlier_base_table L items f T
      → bytes ≡ f ++ (c ++ r) → IsUnsigned m c → RefusesLater L T (length f + length c) (take m r) R
      → EndsAtLater L bytes items (refused R)

-- no bytes were without an outcome by the earlier base table
abbrev pub HadAnOutcome : Type 0
HadAnOutcome = (L : Bounds) (bytes : List ℕ)
    → ¬ ((items : List StreamItem) (e : Ending) → ¬ Outcome earlier_base_table L bytes items e)

-- and it is their outcome still, unless they were refused for such a delta
abbrev pub StayOutcomes : Type 0
StayOutcomes = (L : Bounds) (bytes : List ℕ) (items : List StreamItem) (e : Ending)
    → Outcome earlier_base_table L bytes items e → Outcome base_table L bytes items e ⊎ EndsAtLater L bytes items e
