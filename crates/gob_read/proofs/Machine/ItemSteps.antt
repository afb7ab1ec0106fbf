-- The tag, the second number of a complex one, and raw bytes, taken; and what a first number that isn't allowed shows.
use Rattle.std.proofs.Common.{◌≡◌, ◌↔◌, IsTrue, rules, Bool, true, false, ℕ, ◌+◌, ◌<◌, List, [], ◌∷◌, ◌++◌, length}
use Rattle.std.proofs.Common.{Some, None, arith, refl, sym, ap, ◌∙◌, subst, append_assoc, length-append}
use Rattle.std.specs.Prelude.{Result, Ok, Err}
use Rattle.gob_num.specs.Unsigned.{IsUnsigned, short, long}
use Rattle.gob_num.specs.Pattern.{IsPattern}
use Rattle.gob_types.specs.declared.id.TypeId.{TypeId}
use Rattle.gob_types.specs.declared.basic.Basic.TheVariants as basic
use Rattle.gob_types.specs.declared.kind.Field.{Field}
use Rattle.gob_types.specs.declared.kind.Kind.{Kind}
use Rattle.gob_types.specs.declared.kind.Kind.TheVariants as kind
use Rattle.gob_types.specs.declared.kind.Shape.{Shape}
use Rattle.gob_types.specs.declared.reason.Reason.{Reason}
use Rattle.gob_types.specs.declared.reason.Reason.TheVariants as reason
use Rattle.gob_types.specs.declared.denial.Denial.{Denial}
use Rattle.gob_types.specs.declared.denial.Denial.TheVariants as denial
use Rattle.gob_types.specs.Table.{Table, shape_of}
use Rattle.gob_value.specs.Tree.{Tree}
use Rattle.gob_value.specs.Tree as Value
use Rattle.gob_value.specs.Spelling.{Spells, of_complex, of_bytes, of_text, of_opaque}
use Rattle.gob_value.specs.Top.{HasStructs, IsStruct}
use Rattle.gob_read.specs.declared.event.RawKind.{RawKind}
use Rattle.gob_read.specs.declared.frame.Frame.{Frame}
use Rattle.gob_read.specs.declared.next.Moved.{Moved}
use Rattle.gob_read.specs.declared.next.Next.{Next}
use Rattle.gob_read.specs.declared.next.Next.TheVariants.{Top, Number, Raw}
use Rattle.gob_read.specs.declared.next.NextNumber.{NextNumber}
use Rattle.gob_read.specs.declared.next.NextNumber.TheVariants.{Tag, Part, Second}
use Rattle.gob_read.specs.declared.state.State.{State}
use Rattle.gob_read.specs.Expected.{first_allowed, tag, a_number}
use Rattle.gob_read.specs.Expects.{ExpectsTop, at_tag as expects_tag}
use Rattle.gob_read.specs.Event.{Event, number, raw_start, raw_more, leave, HasEvents, HasRawEvents, more_bytes}
use Rattle.gob_read.specs.Event.{tell_complex, tell_bytes, tell_text, tell_opaque}
use Rattle.gob_read.specs.WellFormed.{a_number as number_follows, of_complex as two_numbers, raw_bytes, end_of_raw}
use Rattle.gob_read.specs.Building.{MayTakeEvent, TakesEvent}
use Rattle.gob_read.specs.Machine.Kinds.{HasKind, IsRawKind, is_bytes, is_text, is_opaque, IsList, is_array, BeginsAs}
use Rattle.gob_read.specs.Machine.Kinds.{as_struct, as_tagged, number_stays, raw_stays}
use Rattle.gob_read.specs.Machine.OpenPath.{OpenPath, behind_tag, AtNext, at_tag, at_part, at_second, at_raw, PartDone}
use Rattle.gob_read.specs.Machine.Steps.{IsBegun, IsPlaced, IsEnded, TakesOrBlames, CanEnd, CanBegin, StepBegins}
use Rattle.gob_read.specs.Machine.Steps.{CanBeginStruct, BeginsStruct, IsNoFirst, CanTakeFirst, TakesFirst}
use Rattle.gob_read.specs.Machine.Steps.{RefusesFirst, CanTake, StepTakes, StepRefuses, CanTakeTag, IsWrongTag}
use Rattle.gob_read.specs.Machine.Steps.{CanTakeImaginary, TakesHere, CanTakeRaw}
use Rattle.gob_value.proofs.PublicLaws.{not_true}
use Rattle.gob_read.proofs.Machine.KindLaws.{spelled_as}
use Rattle.gob_read.proofs.Machine.Moves.{part_whole}
use Rattle.gob_read.proofs.Machine.ToldLaws.{begins_in, within_follows, within_weighs, raw_follows, raw_open_weighs}
use Rattle.gob_read.proofs.Machine.ToldLaws.{some, can_tell}
use Rattle.gob_read.proofs.Machine.Places.{part_expects, part_defined}

pub takes_or_blames : {P Q : Moved → Type 0} {V W : Reason → Type 0} (r : Result Moved Denial)
    → ((moved : Moved) → P moved → Q moved) → ((reason : Reason) → V reason → W reason) → TakesOrBlames P V r
    → TakesOrBlames Q W r
takes_or_blames (Ok moved) f g h = f moved h
takes_or_blames (Err (denial.Refused reason)) f g h = g reason h
takes_or_blames (Err denial.Memory) f g h = h

-- the first number of a part of this kind
pub first_can : {T : Table} {X O : Type 0} {received : X → List Event → Type 0} {state : State X O} {id : TypeId}
    {k : Kind} {P : Kind → Type 0} {n : ℕ} → HasKind T id k → P k → CanTakeFirst T received state id n
    → CanBegin received state P n
first_can {T = T} {id = id} {k = k} h i r = record {
  table = T;
  type = r.type;
  id = id;
  kind = k;
  before = r.before;
  bytes = r.bytes;
  begun = r.begun;
  has = h;
  holds = i;
  spelled = r.spelled;
  small = r.small;
}

pub first_takes : {T : Table} {X O : Type 0} {received : X → List Event → Type 0} {old new : State X O} {id : TypeId}
    {k : Kind} {P : Kind → Type 0} {n : ℕ} {moved : Moved} → HasKind T id k → P k
    → StepBegins received old new P n moved → TakesFirst T received old new id n moved
first_takes {T = T} {id = id} {k = k} h i b = record { each = λ t p c x n. b.each T t id k p c x h i n }

pub first_refuses : {T : Table} {X O : Type 0} {received : X → List Event → Type 0} {state : State X O} {id : TypeId}
    {k : Kind} {n : ℕ} {why : Reason} → HasKind T id k → IsNoFirst k n why → RefusesFirst T received state id n why
first_refuses {k = k} h r = record {
  each = λ t p b. record {
    allowed = first_allowed k;
    depth = _;
    expects =
        part_expects b.within h;
    not_allowed = r.not_allowed;
    reason_is = r.reason_is;
  };
}

pub first_defined : {T : Table} {X O : Type 0} {received : X → List Event → Type 0} {state : State X O} {id : TypeId}
    {n : ℕ} → CanTakeFirst T received state id n → None ≡ shape_of T id → ⊥
first_defined r e = let k = part_defined r.ready r.begun.within in let same : None ≡ Some k.0 = e ∙ k.1 in cc

-- where a part begins
begun_at : {T : Table} {t u : TypeId} {fs : List Frame} {p r : List ℕ} {us : List Event}
    → AtNext T t fs (Number (Part u)) p r us → OpenPath T t fs p us u
begun_at (at_part w) = w

pub placed_begun : {T : Table} {t u : TypeId} {X O : Type 0} {received : X → List Event → Type 0} {state : State X O}
    {p r : List ℕ} → state.expected ≡ Number (Part u) → IsPlaced T t received state p r → IsBegun T t received state u p
placed_begun {T = T} {t = t} {state = state} {p = p} {r = r} e b =
    record { us = b.us; within = begun_at (subst (λ a. AtNext T t state.stack a p r b.us) e b.at); told = b.told }

pub part_can : {T : Table} {X O : Type 0} {received : X → List Event → Type 0} {state : State X O} {id : TypeId} {n : ℕ}
    → CanTake T received state (Part id) n → CanTakeFirst T received state id n
part_can r = record {
  type = r.type;
  ready = r.ready;
  before = r.before;
  bytes = r.bytes;
  begun =
      placed_begun r.expected r.placed;
  spelled = r.spelled;
  small = r.small;
}

pub part_takes : {T : Table} {X O : Type 0} {received : X → List Event → Type 0} {old new : State X O} {id : TypeId}
    {n : ℕ} {moved : Moved} → old.expected ≡ Number (Part id) → TakesFirst T received old new id n moved
    → StepTakes T received old new n moved
part_takes e f = record { each = λ t p r c d b n. f.each t p c (placed_begun e b) n }

pub part_refuses : {T : Table} {X O : Type 0} {received : X → List Event → Type 0} {state : State X O} {id : TypeId}
    {n : ℕ} {why : Reason} → state.expected ≡ Number (Part id) → RefusesFirst T received state id n why
    → StepRefuses T received state n why
part_refuses e f = record { each = λ t p r d b. f.each t p (placed_begun e b) }

-- where the tag is expected
record TagAt (T : Table) (t id : TypeId) (fs : List Frame) (p : List ℕ) (us : List Event) : Type 0 where
  shape : Shape
  same : id ≡ t
  there : shape_of T t ≡ Some shape
  other : ¬ IsStruct shape.kind
  stack_is : fs ≡ []
  bytes_are : p ≡ []
  told_is : us ≡ []

tag_at : {T : Table} {t id : TypeId} {fs : List Frame} {p r : List ℕ} {us : List Event}
    → AtNext T t fs (Number (Tag id)) p r us → TagAt T t id fs p us
tag_at (at_tag e i) = record {
  shape = _;
  same = refl;
  there = e;
  other = i;
  stack_is = refl;
  bytes_are = refl;
  told_is = refl;
}

zero_spelled : {n : ℕ} {c : List ℕ} → n ≡ 0 → IsUnsigned n c → c ≡ 0 ∷ []
zero_spelled e (short l) = ap (λ n. n ∷ []) e
zero_spelled e (long k) = absurd (let l = k.large in omega arith)

pub tag_placed : {X O : Type 0} {received : X → List Event → Type 0} {old new : State X O} {id : TypeId} {n : ℕ}
    → old.expected ≡ Number (Tag id) → n ≡ 0 → new.stack ≡ old.stack → new.builder ≡ old.builder
    → new.expected ≡ Number (Part id)
    → (T : Table) (t : TypeId) (p r c : List ℕ) → IsPlaced T t received old p r → IsUnsigned n c
    → IsPlaced T t received new (p ++ c) []
tag_placed {received = received} {old = old} {new = new} {id = id} e z s b a T t p r c x n =
    let k = tag_at (subst (λ a. AtNext T t old.stack a p r x.us) e x.at) in
    let by : p ++ c ≡ 0 ∷ [] = ap (λ l. l ++ c) k.bytes_are ∙ zero_spelled z n in
    let part : AtNext T t [] (Number (Part t)) (0 ∷ []) [] [] = at_part (behind_tag k.there k.other) in
    let here : AtNext T t new.stack new.expected (p ++ c) [] [] =
    subst (λ l. AtNext T t new.stack new.expected l [] []) (sym by)
    (subst (λ fs. AtNext T t fs new.expected (0 ∷ []) [] []) (sym (s ∙ k.stack_is))
    (subst (λ i. AtNext T t [] i (0 ∷ []) [] []) (sym (a ∙ ap (λ i. Number (Part i)) k.same)) part)) in
    record {
      us = [];
      at = here;
      told = subst (λ y. received y []) (sym b) (subst (λ us. received old.builder us)
          k.told_is x.told);
    }

pub wrong_tag_refuses : {T : Table} {X O : Type 0} {received : X → List Event → Type 0} {state : State X O}
    {id : TypeId} {n : ℕ} {why : Reason} → state.expected ≡ Number (Tag id) → IsWrongTag n why
    → StepRefuses T received state n why
wrong_tag_refuses {T = T} {state = state} e w = record {
  each = λ t p r d b.
      let k = tag_at (subst (λ a. AtNext T t state.stack a p r b.us) e b.at) in
      record {
        allowed = tag;
        depth = 0;
        expects = subst (λ p. ExpectsTop T t p (a_number tag) 0) (sym k.bytes_are)
            (expects_tag k.there k.other);
        not_allowed = w.wrong;
        reason_is = sym w.reason_is;
      };
}

-- what comes behind an expected number that needs no table
pub here_takes : {T : Table} {X O : Type 0} {received : X → List Event → Type 0} {old new : State X O} {n : ℕ}
    {moved : Moved} → TakesHere received old new n moved → StepTakes T received old new n moved
here_takes {T = T} h = record { each = λ t p r c d b n. h.each T t p r c b n }

-- the imaginary part
record SecondAt (T : Table) (t : TypeId) (fs : List Frame) (q : ℕ) (p : List ℕ) (us : List Event) : Type 0 where
  id : TypeId
  start : List ℕ
  real : List ℕ
  within : OpenPath T t fs start us id
  kind : HasKind T id (kind.Basic basic.Complex)
  spelled : IsPattern q real
  whole : p ≡ start ++ real

second_at : {T : Table} {t : TypeId} {fs : List Frame} {q : ℕ} {p r : List ℕ} {us : List Event}
    → AtNext T t fs (Number (Second q)) p r us → SecondAt T t fs q p us
second_at (at_second w h n) = record { id = _; start = _; real = _; within = w; kind = h; spelled = n; whole = refl }

pub can_tell_second : {X O : Type 0} {received : X → List Event → Type 0} {state : State X O} {q n : ℕ} (a : ℕ)
    → CanTakeImaginary received state q n → MayTakeEvent received state.builder (number basic.Complex q a)
can_tell_second {state = state} {q = q} a r =
    let b = r.placed in
    let k = second_at (subst (λ a. AtNext r.table r.type state.stack a r.before r.so_far b.us) r.expected b.at) in
    let size : length r.before ≡ length (k.start ++ k.real) = ap length k.whole in
    can_tell b.us (number basic.Complex q a) b.told (within_follows k.within) (number_follows (begins_in state.stack)
    two_numbers)
    (let w = within_weighs k.within in let m = some k.spelled.spelled in let l = r.small in
    omega (arith, length-append r.before r.bytes, length-append k.start k.real))

pub second_ended : {X O : Type 0} {received : X → List Event → Type 0} {state mid : State X O} {q n a : ℕ}
    → state.expected ≡ Number (Second q) → mid.stack ≡ state.stack → TakesEvent received state.builder mid.builder
    (number basic.Complex q a) → ((c : List ℕ) → IsUnsigned n c → IsPattern a c)
    → (T : Table) (t : TypeId) (p r c : List ℕ) → IsPlaced T t received state p r → IsUnsigned n c
    → IsEnded T t received mid (p ++ c)
second_ended {state = state} {mid = mid} {q = q} {a = a} e s f i T t p r c b n =
    let k = second_at (subst (λ a. AtNext T t state.stack a p r b.us) e b.at) in
    let by : p ++ c ≡ k.start ++ (k.real ++ c) = ap (λ l. l ++ c) k.whole ∙ append_assoc k.start k.real c in
    let whole : PartDone T t state.stack (k.start ++ (k.real ++ c)) (b.us ++ number basic.Complex q a ∷ []) =
    part_whole k.within (spelled_as k.kind (of_complex k.spelled (i c n))) tell_complex in
    record {
      us = b.us ++ number basic.Complex q a ∷ [];
      completed = subst (λ fs. PartDone T t fs (p ++ c) (b.us ++ number basic.Complex q a ∷ [])) (sym s)
          (subst (λ z. PartDone T t state.stack z (b.us ++ number basic.Complex q a ∷ [])) (sym by) whole);
      told = f.each b.us b.told;
    }

pub second_can_end : {X O : Type 0} {received : X → List Event → Type 0} {state mid : State X O} {q n a : ℕ}
    → mid.stack ≡ state.stack → TakesEvent received state.builder mid.builder (number basic.Complex q a)
    → ((c : List ℕ) → IsUnsigned n c → IsPattern a c)
    → CanTakeImaginary received state q n → CanEnd received mid
second_can_end s f i r = record {
  table = r.table;
  type = r.type;
  bytes = r.before ++ r.bytes;
  ended =
      second_ended r.expected s f i r.table r.type r.before r.so_far r.bytes r.placed r.spelled;
  small = r.small;
}

-- raw bytes
record RawAt (T : Table) (t : TypeId) (fs : List Frame) (left : ℕ) (p r : List ℕ) (us : List Event) : Type 0 where
  id : TypeId
  kind : Kind
  raw_kind : RawKind
  count : ℕ
  start : List ℕ
  head : List ℕ
  told_before : List Event
  told_raw : List Event
  within : OpenPath T t fs start told_before id
  has : HasKind T id kind
  is_raw : IsRawKind kind raw_kind
  spelled : IsUnsigned count head
  tells : HasRawEvents r told_raw
  left_is : length r + left ≡ count
  some_left : 0 < left
  whole : p ≡ start ++ head
  event : us ≡ told_before ++ raw_start raw_kind ∷ told_raw

raw_at : {T : Table} {t : TypeId} {fs : List Frame} {left : ℕ} {p r : List ℕ} {us : List Event}
    → AtNext T t fs (Raw left) p r us → RawAt T t fs left p r us
raw_at (at_raw w h k n o q l) = record {
  id = _;
  kind = _;
  raw_kind = _;
  count = _;
  start = _;
  head = _;
  told_before =
      _;
  told_raw = _;
  within = w;
  has = h;
  is_raw = k;
  spelled = n;
  tells = o;
  left_is = q;
  some_left = l;
  whole = refl;
  event = refl;
}

raw_here : {T : Table} {t : TypeId} {X O : Type 0} {received : X → List Event → Type 0} {state : State X O} {left : ℕ}
    {p r : List ℕ} → state.expected ≡ Raw left → (b : IsPlaced T t received state p r)
    → RawAt T t state.stack left p r b.us
raw_here {T = T} {t = t} {state = state} {p = p} {r = r} e b =
    raw_at (subst (λ a. AtNext T t state.stack a p r b.us) e b.at)

pub can_tell_more : {X O : Type 0} {received : X → List Event → Type 0} {state : State X O} {left : ℕ} (bytes : List ℕ)
    → CanTakeRaw received state left bytes → MayTakeEvent received state.builder (raw_more bytes)
can_tell_more {received = received} {state = state} bytes r =
    let b = r.placed in
    let k = raw_here r.expected b in
    let stood : received state.builder (k.told_before ++ raw_start k.raw_kind ∷ k.told_raw) =
    subst (λ us. received state.builder us) k.event b.told in
    let size : length r.before ≡ length (k.start ++ k.head) = ap length k.whole in
    can_tell (k.told_before ++ raw_start k.raw_kind ∷ k.told_raw) (raw_more bytes) stood
    (raw_follows state.stack k.raw_kind (within_follows k.within) k.tells) raw_bytes
    (let l = r.small in omega (
      arith,
      raw_open_weighs k.start k.told_before k.raw_kind (within_weighs k.within)
          k.spelled k.tells,
      length-append r.before (r.so_far ++ bytes),
      length-append r.so_far bytes,
    ))

-- the raw part as a value
record RawValued (T : Table) (u : TypeId) (b : List ℕ) (us : List Event) : Type 0 where
  value : Tree
  spelled : Spells T u value b
  tells : HasEvents value us

raw_value : {T : Table} {u : TypeId} {k : Kind} {x : RawKind} {c s : List ℕ} {us : List Event} → HasKind T u k
    → IsRawKind k x → IsUnsigned (length s) c → HasRawEvents s us → RawValued T u (c ++ s) ((raw_start x ∷ us)
    ++ leave ∷ [])
raw_value {s = s} h is_bytes n t = record {
  value = Value.bytes s;
  spelled = spelled_as h (of_bytes n);
  tells =
      tell_bytes t;
}
raw_value {s = s} h is_text n t = record {
  value = Value.text s;
  spelled = spelled_as h (of_text n);
  tells =
      tell_text t;
}
raw_value {s = s} h is_opaque n t = record {
  value = Value.opaque s;
  spelled = spelled_as h (of_opaque n);
  tells =
      tell_opaque t;
}

pub raw_goes_on : {T : Table} {t : TypeId} {X O : Type 0} {received : X → List Event → Type 0} {state mid : State X O}
    {left rest : ℕ} {p r : List ℕ} (bytes : List ℕ) → state.expected ≡ Raw left → mid.stack ≡ state.stack
    → mid.expected ≡ Raw rest → TakesEvent received state.builder mid.builder (raw_more bytes)
    → length bytes + rest ≡ left → 0 < rest → IsPlaced T t received state p r → IsPlaced T t received mid p (r ++ bytes)
raw_goes_on {T = T} {t = t} {received = received} {state = state} {mid = mid} {rest = rest} {p = p} {r = r} bytes e s a
    f m l b =
    let k = raw_here e b in
    let us : b.us ++ raw_more bytes ∷ [] ≡ k.told_before ++ raw_start k.raw_kind ∷ (k.told_raw ++ raw_more bytes ∷ []) =
    ap (λ l. l ++ raw_more bytes ∷ []) k.event ∙ append_assoc k.told_before (raw_start k.raw_kind ∷ k.told_raw)
    (raw_more bytes ∷ []) in
    let here : AtNext T t state.stack (Raw rest) (k.start ++ k.head) (r ++ bytes) (k.told_before
    ++ raw_start k.raw_kind ∷ (k.told_raw ++ raw_more bytes ∷ [])) =
    at_raw k.within k.has k.is_raw k.spelled (more_bytes bytes k.tells) (let q = k.left_is in
    omega (arith, length-append r bytes)) l in
    record {
      us = b.us ++ raw_more bytes ∷ [];
      at = subst (λ fs. AtNext T t fs mid.expected p (r ++ bytes) (b.us ++ raw_more bytes ∷ [])) (sym s)
          (subst (λ a. AtNext T t state.stack a p (r ++ bytes) (b.us ++ raw_more bytes ∷ [])) (sym a)
          (subst (λ p. AtNext T t state.stack (Raw rest) p (r ++ bytes) (b.us ++ raw_more bytes ∷ [])) (sym k.whole)
          (subst (λ us. AtNext T t state.stack (Raw rest) (k.start ++ k.head) (r ++ bytes) us) (sym us) here)));
      told = f.each b.us b.told;
    }

pub raw_ended : {T : Table} {t : TypeId} {X O : Type 0} {received : X → List Event → Type 0} {state mid : State X O}
    {builder : X} {left : ℕ} {p r : List ℕ} (bytes : List ℕ) → state.expected ≡ Raw left → mid.stack ≡ state.stack
    → TakesEvent received state.builder builder (raw_more bytes) → TakesEvent received builder mid.builder leave
    → left ≡ length bytes → IsPlaced T t received state p r → IsEnded T t received mid (p ++ (r ++ bytes))
raw_ended {T = T} {t = t} {received = received} {state = state} {mid = mid} {p = p} {r = r} bytes e s f h m b =
    let k = raw_here e b in
    let count : IsUnsigned (length (r ++ bytes)) k.head = subst (λ i. IsUnsigned i k.head) (let q = k.left_is in
    omega (arith, length-append r bytes)) k.spelled in
    let v = raw_value k.has k.is_raw count (more_bytes bytes k.tells) in
    let by : p ++ (r ++ bytes) ≡ k.start ++ (k.head ++ (r ++ bytes)) = ap (λ l. l ++ (r ++ bytes)) k.whole
    ∙ append_assoc k.start k.head (r ++ bytes) in
    let us : (b.us ++ raw_more bytes ∷ []) ++ leave ∷ [] ≡ k.told_before
    ++ ((raw_start k.raw_kind ∷ (k.told_raw ++ raw_more bytes ∷ [])) ++ leave ∷ []) =
    ap (λ l. (l ++ raw_more bytes ∷ []) ++ leave ∷ []) k.event
    ∙ ap (λ l. l ++ leave ∷ []) (append_assoc k.told_before (raw_start k.raw_kind ∷ k.told_raw) (raw_more bytes ∷ []))
    ∙ append_assoc k.told_before (raw_start k.raw_kind ∷ (k.told_raw ++ raw_more bytes ∷ [])) (leave ∷ []) in
    record {
      us = (b.us ++ raw_more bytes ∷ []) ++ leave ∷ [];
      completed = subst (λ fs. PartDone T t fs (p ++ (r ++ bytes)) ((b.us ++ raw_more bytes ∷ []) ++ leave ∷ []))
          (sym s) (record {
            type = k.id;
            value = v.value;
            before = k.start;
            bytes = k.head ++ (r ++ bytes);
            told_before = k.told_before;
            told = (raw_start k.raw_kind ∷ (k.told_raw ++ raw_more bytes ∷ [])) ++ leave ∷ [];
            within = k.within;
            spelled = v.spelled;
            tells = v.tells;
            whole = by;
            event = us;
          });
      told = h.each (b.us ++ raw_more bytes ∷ []) (f.each b.us b.told);
    }

pub can_end_raw : {X O : Type 0} {received : X → List Event → Type 0} {state : State X O} {builder : X} {left : ℕ}
    (bytes : List ℕ) → CanTakeRaw received state left bytes → TakesEvent received state.builder builder (raw_more bytes)
    → MayTakeEvent received builder leave
can_end_raw {received = received} {state = state} {builder = builder} bytes r f =
    let b = r.placed in
    let k = raw_here r.expected b in
    let size : length r.before ≡ length (k.start ++ k.head) = ap length k.whole in
    let us : b.us ++ raw_more bytes ∷ [] ≡ k.told_before ++ raw_start k.raw_kind ∷ (k.told_raw ++ raw_more bytes ∷ []) =
    ap (λ l. l ++ raw_more bytes ∷ []) k.event ∙ append_assoc k.told_before (raw_start k.raw_kind ∷ k.told_raw)
    (raw_more bytes ∷ []) in
    let stood : received builder (k.told_before ++ raw_start k.raw_kind ∷ (k.told_raw ++ raw_more bytes ∷ [])) =
    subst (λ us. received builder us) us (f.each b.us b.told) in
    can_tell (k.told_before ++ raw_start k.raw_kind ∷ (k.told_raw ++ raw_more bytes ∷ [])) leave stood
    (raw_follows state.stack k.raw_kind (within_follows k.within) (more_bytes bytes k.tells)) end_of_raw
    (let l = r.small in omega (
      arith,
      raw_open_weighs k.start k.told_before k.raw_kind (within_weighs k.within)
          k.spelled (more_bytes bytes k.tells),
      length-append r.before (r.so_far ++ bytes),
      length-append r.so_far bytes,
    ))

pub raw_can_end : {X O : Type 0} {received : X → List Event → Type 0} {state mid : State X O} {builder : X} {left : ℕ}
    (bytes : List ℕ) → mid.stack ≡ state.stack → TakesEvent received state.builder builder (raw_more bytes)
    → TakesEvent received builder mid.builder leave
    → left ≡ length bytes → CanTakeRaw received state left bytes → CanEnd received mid
raw_can_end bytes s f h m r = record {
  table = r.table;
  type = r.type;
  bytes = r.before ++ (r.so_far ++ bytes);
  ended =
      raw_ended bytes r.expected s f h m r.placed;
  small = r.small;
}

-- what a body begins with
pub begins_struct : {T : Table} {a : Next} {t : TypeId} {i : NextNumber} (b : Bool) → a ≡ Top t
    → (IsTrue b ↔ HasStructs T t) → b ≡ true → i ≡ Part t → BeginsAs T a (Number i)
begins_struct {T = T} {t = t} {i = i} b e h g f = subst (λ a. BeginsAs T a (Number i)) (sym e)
    (subst (λ i. BeginsAs T (Top t) (Number i)) (sym f) (as_struct (h.0 (let x : IsTrue b = search (rules, g) in x))))

pub begins_tagged : {T : Table} {a : Next} {t : TypeId} {i : NextNumber} (b : Bool) → a ≡ Top t
    → (IsTrue b ↔ HasStructs T t) → b ≡ false → i ≡ Tag t → BeginsAs T a (Number i)
begins_tagged {T = T} {t = t} {i = i} b e h g f = subst (λ a. BeginsAs T a (Number i)) (sym e)
    (subst (λ i. BeginsAs T (Top t) (Number i)) (sym f) (as_tagged (not_true g h)))

pub begun_stays : {T : Table} (a : Next) → ((t : TypeId) → a ≡ Top t → ⊥) → BeginsAs T a a
begun_stays (Top t) f = absurd (f t refl)
begun_stays (Number i) f = number_stays
begun_stays (Raw left) f = raw_stays

-- an array's count that isn't its length
pub count_no_first : {e : TypeId} {len n : ℕ} → (n ≡ len → ⊥) → IsNoFirst (kind.Array e len) n reason.ArrayCount
count_no_first h = record { not_allowed = h; reason_is = refl }

pub array_is : {e : TypeId} {n len : ℕ} → n ≡ len → IsList (kind.Array e len) n e
array_is {e = e} {n = n} h = subst (λ l. IsList (kind.Array e l) n e) h is_array

-- the first delta of a struct
pub struct_can : {T : Table} {X O : Type 0} {received : X → List Event → Type 0} {state : State X O} {id : TypeId}
    {types : List Field} {n : ℕ} → HasKind T id (kind.Struct types) → CanTakeFirst T received state id n
    → CanBeginStruct received state id types n
struct_can {T = T} h r = record {
  table = T;
  type = r.type;
  before = r.before;
  bytes = r.bytes;
  begun = r.begun;
  has =
      h;
  spelled = r.spelled;
  small = r.small;
}

pub struct_takes : {T : Table} {X O : Type 0} {received : X → List Event → Type 0} {old new : State X O} {id : TypeId}
    {types : List Field} {n : ℕ} {moved : Moved} → HasKind T id (kind.Struct types)
    → BeginsStruct received old new id types n moved → TakesFirst T received old new id n moved
struct_takes {T = T} h b = record { each = λ t p c x n. b.each T t p c x h n }

-- the expected number, by what it is
pub take_at : {T : Table} {X O : Type 0} {received : X → List Event → Type 0} {state : State X O} {i j : NextNumber}
    {n : ℕ} → i ≡ j → CanTake T received state i n → CanTake T received state j n
take_at {T = T} {received = received} {state = state} {n = n} e r = subst (λ i. CanTake T received state i n) e r

pub tag_can : {T : Table} {X O : Type 0} {received : X → List Event → Type 0} {state : State X O} {id : TypeId} {n : ℕ}
    → CanTake T received state (Tag id) n → CanTakeTag received state id n
tag_can r = record { expected = r.expected }

pub second_can : {T : Table} {X O : Type 0} {received : X → List Event → Type 0} {state : State X O} {q n : ℕ}
    → CanTake T received state (Second q) n → CanTakeImaginary received state q n
second_can {T = T} r = record {
  expected = r.expected;
  table = T;
  type = r.type;
  before = r.before;
  so_far = r.so_far;
  bytes = r.bytes;
  placed = r.placed;
  spelled = r.spelled;
  small = r.small;
}
