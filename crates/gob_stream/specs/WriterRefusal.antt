-- Why an item isn't written: the first of the writer's demands that it doesn't meet.
-- (docs/FORMAT.md, Refusals, the writer's order: this project's own.)
use Rattle.std.specs.Prelude.{◌≡◌, ◌≢◌, ℕ, ◌+◌, ◌<◌, ◌≤◌, List, ◌++◌, length, None}
use Rattle.gob_num.specs.Unsigned.{IsUnsigned}
use Rattle.gob_types.specs.declared.id.TypeId.{TypeId}
use Rattle.gob_types.specs.declared.reason.Reason.{Reason}
use Rattle.gob_types.specs.declared.reason.Reason.TheVariants as reason
use Rattle.gob_types.specs.Table.{Table, shape_of, IsDefined}
use Rattle.gob_types.specs.Base.{wire_type, gob_encoder_type}
use Rattle.gob_types.specs.Definable.{IsOwnId}
use Rattle.gob_types.specs.Ready.{Reaches, IsGrounded}
use Rattle.gob_value.specs.Tree.{Tree, depth}
use Rattle.gob_value.specs.Fits.{Fits}
use Rattle.gob_value.specs.Description.{Misdescribes}
use Rattle.gob_stream.specs.Bounds.{Bounds}
use Rattle.gob_stream.specs.Item.{StreamItem, defines, puts}
use Rattle.gob_stream.specs.Body.{Body, HasRoom, MayDefine, MayPut}
use Rattle.gob_stream.specs.Stream.{IsItem}

-- why the id can't be defined now
pub data RefusesId (base : Table) (L : Bounds) (T : Table) (id : TypeId) : Reason → Type 0 where
  reserved : ¬ IsOwnId id → RefusesId base L T id (reason.ReservedType id)
  defined_twice : IsOwnId id → shape_of T id ≢ None → RefusesId base L T id (reason.DefinedTwice id)
  too_many : IsOwnId id → shape_of T id ≡ None → ¬ HasRoom base L T → RefusesId base L T id reason.TooManyTypes

-- why values of the type can't come now: the least id of those that it leads to which isn't defined, else the least
-- which has no finite values
pub data RefusesType (T : Table) (t : TypeId) : Reason → Type 0 where
  private_type : t ≡ gob_encoder_type → RefusesType T t (reason.UndefinedType t)
  undefined : {u : TypeId} → t ≢ gob_encoder_type → Reaches T t u → ¬ IsDefined T u
      → ((w : TypeId) → Reaches T t w → ¬ IsDefined T w → u.0 ≤ w.0)
      → RefusesType T t (reason.UndefinedType u)
  bottomless : {u : TypeId} → t ≢ gob_encoder_type → ((w : TypeId) → Reaches T t w → IsDefined T w) → Reaches T t u
      → ¬ IsGrounded T u
      → ((w : TypeId) → Reaches T t w → ¬ IsGrounded T w → u.0 ≤ w.0) → RefusesType T t (reason.Bottomless u)

-- why a value isn't written at a type
pub data RefusesValue (L : Bounds) (T : Table) (t : TypeId) (v : Tree) : Reason → Type 0 where
  too_deep : L.depth < depth v → RefusesValue L T t v reason.TooDeep
  does_not_fit : depth v ≤ L.depth → ¬ Fits T t v → RefusesValue L T t v reason.DoesNotFit

-- why a body isn't written at this offset
pub data WriterRefusesBody (L : Bounds) (offset : ℕ) (body : List ℕ) : Reason → Type 0 where
  item_too_long : L.item < length body → WriterRefusesBody L offset body reason.ItemTooLong
  stream_too_long : {c : List ℕ} → length body ≤ L.item → IsUnsigned (length body) c
      → L.stream < offset + length (c ++ body)
      → WriterRefusesBody L offset body reason.StreamTooLong

-- why the item isn't written where the types are those of T, at this offset
pub data RefusesItem (base : Table) (L : Bounds) (T : Table) (offset : ℕ) : StreamItem → Reason → Type 0 where
  refused_id : {id : TypeId} {v : Tree} {r : Reason} → RefusesId base L T id r
      → RefusesItem base L T offset (defines id v) r
  refused_description : {id : TypeId} {v : Tree} {r : Reason} → MayDefine base L T id → RefusesValue L T wire_type v r
      → RefusesItem base L T offset (defines id v) r
  described_wrongly : {id : TypeId} {v : Tree} {r : Reason} → MayDefine base L T id → depth v ≤ L.depth
      → Fits T wire_type v → Misdescribes id v r
      → RefusesItem base L T offset (defines id v) r
  refused_type : {t : TypeId} {v : Tree} {r : Reason} → RefusesType T t r → RefusesItem base L T offset (puts t v) r
  refused_value : {t : TypeId} {v : Tree} {r : Reason} → MayPut T t → RefusesValue L T t v r
      → RefusesItem base L T offset (puts t v) r
  refused_body : {i : StreamItem} {d : List ℕ} {U : Table} {r : Reason} → Body base L T i d U
      → WriterRefusesBody L offset d r → RefusesItem base L T offset i r

-- an item isn't written for one reason
abbrev pub WritersHaveOneReason : Type 0
WritersHaveOneReason = (base : Table) (L : Bounds) (T : Table) (offset : ℕ) (i : StreamItem) (r s : Reason)
    → RefusesItem base L T offset i r → RefusesItem base L T offset i s → r ≡ s

-- and no bytes are that item there
abbrev pub AreNoItem : Type 0
AreNoItem = (base : Table) (L : Bounds) (T U : Table) (offset : ℕ) (i : StreamItem) (r : Reason) (b : List ℕ)
    → RefusesItem base L T offset i r → ¬ IsItem base L T offset i b U
