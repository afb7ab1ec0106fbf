-- The deltas of a struct, taken: what the builder can be told then, and what comes behind them.
use Rattle.std.proofs.Common.{◌≡◌, ℕ, zero, suc, ◌+◌, ◌-◌, ◌^◌, ◌<◌, ◌≤◌, List, [], ◌∷◌, ◌++◌, length, Some, None}
use Rattle.std.proofs.Common.{arith, refl, sym, ap, ◌∙◌, subst, drop, length-append}
use Rattle.std.specs.Prelude.{slice_get}
use Rattle.gob_num.specs.Unsigned.{IsUnsigned}
use Rattle.gob_types.specs.declared.id.TypeId.{TypeId}
use Rattle.gob_types.specs.declared.kind.Field.{Field}
use Rattle.gob_types.specs.declared.kind.Kind.TheVariants as kind
use Rattle.gob_types.specs.declared.reason.Reason.{Reason}
use Rattle.gob_types.specs.declared.kind.Shape.{Shape}
use Rattle.gob_types.specs.Table.{Table, shape_of}
use Rattle.gob_types.proofs.PublicLaws.{some_injective}
use Rattle.gob_read.specs.declared.event.GroupKind.TheVariants as group
use Rattle.gob_read.specs.declared.frame.Frame.{Frame}
use Rattle.gob_read.specs.declared.frame.Frame.TheVariants as frame
use Rattle.gob_read.specs.declared.next.Moved.{Moved}
use Rattle.gob_read.specs.declared.next.Next.TheVariants.{Number}
use Rattle.gob_read.specs.declared.next.NextNumber.TheVariants.{Part, Delta}
use Rattle.gob_read.specs.declared.state.State.{State}
use Rattle.gob_read.specs.Expected.{delta}
use Rattle.gob_read.specs.Event.{Event, enter, field, leave}
use Rattle.gob_read.specs.WellFormed.{a_number_of_field, end_of_struct}
use Rattle.gob_read.specs.Building.{MayTakeEvent, TakesEvent}
use Rattle.gob_read.specs.Machine.Kinds.{HasKind}
use Rattle.gob_read.specs.Machine.OpenPath.{OpenPath, OpenStruct, open_struct, AtNext, at_part, at_delta, PartDone}
use Rattle.gob_read.specs.Machine.Steps.{IsBegun, IsInStruct, IsPlaced, IsEnded, CanEnd, StepEnds, CanBegin}
use Rattle.gob_read.specs.Machine.Steps.{CanBeginStruct, BeginsStruct, CanGoOn, StepGoesOn, LeadsNowhere, CanTake}
use Rattle.gob_read.specs.Machine.Steps.{StepTakes, StepRefuses, IsNoFirst}
use Rattle.gob_read.proofs.Machine.KindLaws.{same_fields}
use Rattle.gob_read.proofs.Machine.Moves.{fields_whole, field_begins, struct_opens}
use Rattle.gob_read.proofs.Machine.ToldLaws.{open_follows, open_weighs, told, some, can_tell}
use Rattle.gob_read.proofs.Machine.Places.{delta_expects}

-- the struct's frame is the innermost
pub record HasFrame (T : Table) (t : TypeId) (fs : List Frame) (u : TypeId) (types : List Field) (next : ℕ) (z : List ℕ)
    (us : List Event) : Type 0 where
  pub rest : List Frame
  pub stack_is : fs ≡ frame.Fields u next ∷ rest
  pub open_ : OpenStruct T t (frame.Fields u next ∷ rest) u types next z us

pub has_frame : {T : Table} {t u : TypeId} {fs : List Frame} {types : List Field} {next : ℕ} {z : List ℕ}
    {us : List Event} → OpenStruct T t fs u types next z us → HasFrame T t fs u types next z us
has_frame (open_struct {fs = fs} w k r) = record { rest = fs; stack_is = refl; open_ = open_struct w k r }

go_on_room : {X O : Type 0} {received : X → List Event → Type 0} {state : State X O} {u : TypeId} {types : List Field}
    {next n : ℕ} → (r : CanGoOn received state u types next n) → told r.inside.us < 2 ^ 64
go_on_room r = let w = open_weighs r.inside.open_ in let m = some r.spelled in let l = r.small in
    omega (arith, length-append r.before r.bytes)

pub can_end_struct : {X O : Type 0} {received : X → List Event → Type 0} {state : State X O} {u : TypeId}
    {types : List Field} {next n : ℕ} → CanGoOn received state u types next n
    → MayTakeEvent received state.builder leave
can_end_struct r = can_tell r.inside.us leave r.inside.told (open_follows (has_frame r.inside.open_).open_)
    end_of_struct (let l = go_on_room r in omega arith)

pub can_name : {X O : Type 0} {received : X → List Event → Type 0} {state : State X O} {u : TypeId} {types : List Field}
    {next n : ℕ} (f : ℕ) → CanGoOn received state u types next n → next ≤ f
    → MayTakeEvent received state.builder (field f)
can_name f r l = can_tell r.inside.us (field f) r.inside.told (open_follows (has_frame r.inside.open_).open_)
    (a_number_of_field l refl) (let l = go_on_room r in omega arith)

pub some_open : {X O : Type 0} {received : X → List Event → Type 0} {state : State X O} {u : TypeId}
    {types : List Field} {next n : ℕ} → CanGoOn received state u types next n → 0 < length state.stack
some_open {state = state} r = let h = has_frame r.inside.open_ in let e : length state.stack ≡ suc (length h.rest) =
    ap length h.stack_is in omega arith

-- a delta of 0
pub struct_ended : {X O : Type 0} {received : X → List Event → Type 0} {state mid : State X O} {u : TypeId}
    {types : List Field} {next n : ℕ} → mid.stack ≡ drop 1 state.stack → TakesEvent received state.builder mid.builder
    leave → n ≡ 0
    → (T : Table) (t : TypeId) (p c : List ℕ) → IsInStruct T t received state u types next p → IsUnsigned n c
    → IsEnded T t received mid (p ++ c)
struct_ended {state = state} {mid = mid} e f z T t p c b n =
    let h = has_frame b.open_ in
    record {
      us = b.us ++ leave ∷ [];
      completed = subst (λ fs. PartDone T t fs (p ++ c) (b.us ++ leave ∷ []))
          (sym (e ∙ ap (λ (l : List Frame). drop 1 l) h.stack_is))
          (fields_whole h.open_ (subst (λ i. IsUnsigned i c) z n));
      told = f.each b.us b.told;
    }

pub struct_can_end : {X O : Type 0} {received : X → List Event → Type 0} {state mid : State X O} {u : TypeId}
    {types : List Field} {next n : ℕ} → mid.stack ≡ drop 1 state.stack → TakesEvent received state.builder mid.builder
    leave → n ≡ 0
    → CanGoOn received state u types next n → CanEnd received mid
struct_can_end e f z r = record {
  table = r.table;
  type = r.type;
  bytes = r.before ++ r.bytes;
  ended =
      struct_ended e f z r.table r.type r.before r.bytes r.inside r.spelled;
  small = r.small;
}

pub struct_goes_on : {X O : Type 0} {received : X → List Event → Type 0} {state mid new : State X O} {u : TypeId}
    {types : List Field} {next n : ℕ} {moved : Moved} → mid.stack ≡ drop 1 state.stack
    → TakesEvent received state.builder mid.builder leave → n ≡ 0
    → StepEnds received mid new moved → StepGoesOn received state new u types next n moved
struct_goes_on e f z h = record { each = λ T t p c b n. h.each T t (p ++ c) (struct_ended e f z T t p c b n) }

-- a delta that leads to a field
pub field_placed : {X O : Type 0} {received : X → List Event → Type 0} {state mid : State X O} {u : TypeId}
    {types : List Field} {next n : ℕ} {e : Field} (f : ℕ) → mid.stack ≡ frame.Fields u (f + 1) ∷ drop 1 state.stack
    → mid.expected ≡ Number (Part e.id)
    → TakesEvent received state.builder mid.builder (field f) → next ≤ f → f + 1 ≡ next + n → slice_get types f ≡ Some e
    → (T : Table) (t : TypeId) (p c : List ℕ) → IsInStruct T t received state u types next p → IsUnsigned n c
    → IsPlaced T t received mid (p ++ c) []
field_placed {state = state} {mid = mid} {u = u} {next = next} {n = n} {e = e} f s a h l m g T t p c b i =
    let x = has_frame b.open_ in
    let d : n ≡ f + 1 - next = omega arith in
    let stack : mid.stack ≡ frame.Fields u (f + 1) ∷ x.rest = s
    ∙ ap (λ (l : List Frame). frame.Fields u (f + 1) ∷ drop 1 l) x.stack_is in
    let within : OpenPath T t (frame.Fields u (f + 1) ∷ x.rest) (p ++ c) (b.us ++ field f ∷ []) e.id =
    field_begins x.open_ l refl g (subst (λ i. IsUnsigned i c) d i) in
    record {
      us = b.us ++ field f ∷ [];
      at = subst (λ fs. AtNext T t fs mid.expected (p ++ c) [] (b.us ++ field f ∷ [])) (sym stack)
          (subst (λ a. AtNext T t (frame.Fields u (f + 1) ∷ x.rest) a (p ++ c) [] (b.us ++ field f ∷ [])) (sym a)
          (at_part within));
      told = h.each b.us b.told;
    }

pub past_end : {A : Type 0} (xs : List A) (k : ℕ) → None ≡ slice_get xs k → length xs ≤ k
past_end [] k h = omega arith
past_end (x ∷ xs) zero h = cc
past_end (x ∷ xs) (suc k) h = let l = past_end xs k h in omega arith

-- the first delta
pub can_begin_struct : {X O : Type 0} {received : X → List Event → Type 0} {state : State X O} {u : TypeId}
    {types : List Field} {n : ℕ} → CanBeginStruct received state u types n
    → CanBegin received state (λ k. k ≡ kind.Struct types) n
can_begin_struct {u = u} {types = types} r = record {
  table = r.table;
  type = r.type;
  id = u;
  kind = kind.Struct types;
  before = r.before;
  bytes = r.bytes;
  begun = r.begun;
  has = r.has;
  holds = refl;
  spelled = r.spelled;
  small =
      r.small;
}

pub struct_inside : {X O : Type 0} {received : X → List Event → Type 0} {state mid : State X O} {u : TypeId}
    {types : List Field} → mid.stack ≡ frame.Fields u 0 ∷ state.stack → TakesEvent received state.builder mid.builder
    (enter group.Fields)
    → (T : Table) (t : TypeId) (p : List ℕ) → IsBegun T t received state u p → HasKind T u (kind.Struct types)
    → IsInStruct T t received mid u types 0 p
struct_inside {u = u} {types = types} e f T t p b h = record {
  us = b.us ++ enter group.Fields ∷ [];
  open_ = subst (λ fs. OpenStruct T t fs u types 0 p (b.us ++ enter group.Fields ∷ [])) (sym e)
      (struct_opens b.within h);
  told = f.each b.us b.told;
}

pub struct_can_go_on : {X O : Type 0} {received : X → List Event → Type 0} {state mid : State X O} {u : TypeId}
    {types : List Field} {n : ℕ} → mid.stack ≡ frame.Fields u 0 ∷ state.stack
    → TakesEvent received state.builder mid.builder (enter group.Fields)
    → CanBeginStruct received state u types n → CanGoOn received mid u types 0 n
struct_can_go_on e f r = record {
  table = r.table;
  type = r.type;
  before = r.before;
  bytes = r.bytes;
  inside =
      struct_inside e f r.table r.type r.before r.begun r.has;
  spelled = r.spelled;
  small = r.small;
}

pub struct_begins : {X O : Type 0} {received : X → List Event → Type 0} {state mid new : State X O} {u : TypeId}
    {types : List Field} {n : ℕ} {moved : Moved} → mid.stack ≡ frame.Fields u 0 ∷ state.stack
    → TakesEvent received state.builder mid.builder (enter group.Fields)
    → StepGoesOn received mid new u types 0 n moved → BeginsStruct received state new u types n moved
struct_begins e f g = record { each = λ T t p c b h n. g.each T t p c (struct_inside e f T t p b h) n }

pub struct_no_first : {types : List Field} {n : ℕ} {r : Reason} → LeadsNowhere types 0 n r
    → IsNoFirst (kind.Struct types) n r
struct_no_first h = record { not_allowed = λ a. (let l = h.past in omega arith); reason_is = sym h.reason_is }

-- where a delta is expected
pub record IsAtDelta (T : Table) (t : TypeId) {X O : Type 0} (received : X → List Event → Type 0) (state : State X O)
    (p : List ℕ) : Type 0 where
  pub id : TypeId
  pub types : List Field
  pub next : ℕ
  pub inside : IsInStruct T t received state id types next p
  pub kind : HasKind T id (kind.Struct types)
  pub some : 0 < next
  pub rest : List Frame
  pub stack_is : state.stack ≡ frame.Fields id next ∷ rest

record OpenAt (T : Table) (t : TypeId) (fs : List Frame) (p : List ℕ) (us : List Event) : Type 0 where
  id : TypeId
  types : List Field
  next : ℕ
  open_ : OpenStruct T t fs id types next p us
  kind : HasKind T id (kind.Struct types)
  some : 0 < next

open_kind : {T : Table} {t u : TypeId} {fs : List Frame} {types : List Field} {next : ℕ} {z : List ℕ} {us : List Event}
    → OpenStruct T t fs u types next z us → HasKind T u (kind.Struct types)
open_kind (open_struct w k r) = k

open_at : {T : Table} {t : TypeId} {fs : List Frame} {p r : List ℕ} {us : List Event}
    → AtNext T t fs (Number Delta) p r us → OpenAt T t fs p us
open_at (at_delta o l) = record { id = _; types = _; next = _; open_ = o; kind = open_kind o; some = l }

pub at_delta_of : {T : Table} {t : TypeId} {X O : Type 0} {received : X → List Event → Type 0} {state : State X O}
    {p r : List ℕ} → state.expected ≡ Number Delta → IsPlaced T t received state p r → IsAtDelta T t received state p
at_delta_of {T = T} {t = t} {state = state} {p = p} {r = r} e b =
    let o = open_at (subst (λ a. AtNext T t state.stack a p r b.us) e b.at) in
    let f = has_frame o.open_ in
    record {
      id = o.id;
      types = o.types;
      next = o.next;
      inside = record { us = b.us; open_ = o.open_; told = b.told };
      kind = o.kind;
      some = o.some;
      rest = f.rest;
      stack_is = f.stack_is;
    }

frame_is : {i j : TypeId} {m n : ℕ} → Some (frame.Fields i m) ≡ Some (frame.Fields j n) → (i ≡ j) × (m ≡ n)
frame_is h = (cc, cc)

-- the innermost frame and the table tell which struct it is
pub delta_inside : {T : Table} {t i : TypeId} {X O : Type 0} {received : X → List Event → Type 0} {state : State X O}
    {p r : List ℕ} {m : ℕ} {types : List Field} → state.expected ≡ Number Delta
    → slice_get state.stack 0 ≡ Some (frame.Fields i m) → HasKind T i (kind.Struct types)
    → IsPlaced T t received state p r → (IsInStruct T t received state i types m p) × (0 < m)
delta_inside {T = T} {t = t} {i = i} {received = received} {state = state} {p = p} {m = m} {types = types} e h k b =
    let d = at_delta_of e b in
    let same = frame_is (sym (ap (λ (l : List Frame). slice_get l 0) d.stack_is) ∙ h) in
    let kind : HasKind T i (kind.Struct d.types) = subst (λ u. HasKind T u (kind.Struct d.types)) same.0 d.kind in
    let fields : d.types ≡ types = same_fields kind k in (
      subst (λ u. IsInStruct T t received state u types m p) same.0
          (subst (λ n. IsInStruct T t received state d.id types n p) same.1
          (subst (λ (y : List Field). IsInStruct T t received state d.id y d.next p) fields d.inside)),
      subst (λ n. 0 < n) same.1 d.some,
    )

pub delta_can : {T : Table} {i : TypeId} {X O : Type 0} {received : X → List Event → Type 0} {state : State X O}
    {n m : ℕ} {types : List Field} → slice_get state.stack 0 ≡ Some (frame.Fields i m) → HasKind T i (kind.Struct types)
    → CanTake T received state Delta n → CanGoOn received state i types m n
delta_can {T = T} h k r = record {
  table = T;
  type = r.type;
  before = r.before;
  bytes = r.bytes;
  inside =
      (delta_inside r.expected h k r.placed).0;
  spelled = r.spelled;
  small = r.small;
}

pub delta_takes : {T : Table} {i : TypeId} {X O : Type 0} {received : X → List Event → Type 0} {old new : State X O}
    {n m : ℕ} {types : List Field} {moved : Moved} → old.expected ≡ Number Delta
    → slice_get old.stack 0 ≡ Some (frame.Fields i m) → HasKind T i (kind.Struct types)
    → StepGoesOn received old new i types m n moved → StepTakes T received old new n moved
delta_takes {T = T} e h k g = record { each = λ t p r c d b n. g.each T t p c (delta_inside e h k b).0 n }

pub delta_refuses : {T : Table} {i : TypeId} {X O : Type 0} {received : X → List Event → Type 0} {old : State X O}
    {n m : ℕ} {types : List Field} {why : Reason} → old.expected ≡ Number Delta
    → slice_get old.stack 0 ≡ Some (frame.Fields i m) → HasKind T i (kind.Struct types)
    → LeadsNowhere types m n why → StepRefuses T received old n why
delta_refuses {T = T} {n = n} {m = m} {types = types} e h k l = record {
  each = λ t p r d b.
      let x = delta_inside e h k b in
      record {
        allowed = delta (length types - m);
        depth = _;
        expects = delta_expects x.0.open_ x.1;
        not_allowed =
            λ a. (let q = l.past in let s = l.some in omega arith);
        reason_is = sym l.reason_is;
      };
}

-- what can't be, where a delta is expected
pub has_innermost : {T : Table} {X O : Type 0} {received : X → List Event → Type 0} {state : State X O} {n : ℕ}
    → CanTake T received state Delta n → (i : TypeId) × ((m : ℕ) × (slice_get state.stack 0 ≡ Some (frame.Fields i m)))
has_innermost r = let d = at_delta_of r.expected r.placed in
    (d.id, (d.next, ap (λ (l : List Frame). slice_get l 0) d.stack_is))

pub has_struct : {T : Table} {i : TypeId} {X O : Type 0} {received : X → List Event → Type 0} {state : State X O}
    {n m : ℕ} → slice_get state.stack 0 ≡ Some (frame.Fields i m) → CanTake T received state Delta n
    → (types : List Field) × HasKind T i (kind.Struct types)
has_struct {T = T} h r =
    let d = at_delta_of r.expected r.placed in
    let same = frame_is (sym (ap (λ (l : List Frame). slice_get l 0) d.stack_is) ∙ h) in
    (d.types, subst (λ u. HasKind T u (kind.Struct d.types)) same.0 d.kind)

-- what can't be, where a delta is expected: no frame, another frame, no shape, another kind
pub not_defined : {T : Table} {i : TypeId} {X O : Type 0} {received : X → List Event → Type 0} {state : State X O}
    {n m : ℕ} → slice_get state.stack 0 ≡ Some (frame.Fields i m) → CanTake T received state Delta n
    → None ≡ shape_of T i → ⊥
not_defined h r e = let k = (has_struct h r).1 in let same : None ≡ Some k.shape = e ∙ k.there in cc

pub not_struct : {T : Table} {i : TypeId} {X O : Type 0} {received : X → List Event → Type 0} {state : State X O}
    {n m : ℕ} {s : Shape} → slice_get state.stack 0 ≡ Some (frame.Fields i m) → CanTake T received state Delta n
    → Some s ≡ shape_of T i → ((fields : List Field) → s.kind ≡ kind.Struct fields → ⊥) → ⊥
not_struct h r e f =
    let k = has_struct h r in
    f k.0 (ap (λ (s : Shape). s.kind) (some_injective (e ∙ k.1.there)) ∙ k.1.kind)

pub not_open : {T : Table} {X O : Type 0} {received : X → List Event → Type 0} {state : State X O} {n : ℕ}
    → CanTake T received state Delta n → None ≡ slice_get state.stack 0 → ⊥
not_open r e = let h = (has_innermost r).1.1 in let same : None ≡ Some _ = e ∙ h in cc

pub not_fields : {T : Table} {X O : Type 0} {received : X → List Event → Type 0} {state : State X O} {n : ℕ} {f : Frame}
    → CanTake T received state Delta n → Some f ≡ slice_get state.stack 0 → ((i : TypeId) (m : ℕ) → f ≡ frame.Fields i m
    → ⊥) → ⊥
not_fields r e g = let h = has_innermost r in g h.0 h.1.0 (some_injective (e ∙ h.1.1))
