-- The first number of a part, taken: what the builder can be told then, and what comes behind it.
use Rattle.std.proofs.Common.{◌≡◌, ℕ, pos, negsuc, zero, suc, ◌+◌, ◌*◌, ◌/◌, ◌%◌, ◌≤◌, inl, inr, true, false, List, []}
use Rattle.std.proofs.Common.{◌∷◌, ◌++◌, arith, refl, sym, ap, ◌∙◌, subst, append_assoc, length-append}
use Rattle.std.proofs.Math.Nat.{div-add-mod}
use Rattle.std.proofs.lemmas.Nat.{mod_below}
use Rattle.std.proofs.lemmas.Bool.{cases_lt}
use Rattle.gob_num.specs.Unsigned.{IsUnsigned}
use Rattle.gob_num.specs.Signed.{not_negative, negative}
use Rattle.gob_num.specs.Pattern.{IsPattern}
use Rattle.gob_types.specs.declared.id.TypeId.{TypeId}
use Rattle.gob_types.specs.declared.basic.Basic.{Basic}
use Rattle.gob_types.specs.declared.basic.Basic.TheVariants as basic
use Rattle.gob_types.specs.declared.kind.Kind.{Kind}
use Rattle.gob_types.specs.declared.kind.Kind.TheVariants as kind
use Rattle.gob_types.specs.declared.reason.Reason.{Reason}
use Rattle.gob_types.specs.Table.{Table}
use Rattle.gob_value.specs.Tree.{Tree, no_tree, no_pair}
use Rattle.gob_value.specs.Tree as Value
use Rattle.gob_value.specs.Spelling.{Spells, of_bool, of_int, of_uint, of_float, of_nil, of_bytes, of_text, of_opaque}
use Rattle.gob_value.specs.Spelling.{of_map, no_element, no_entry}
use Rattle.gob_read.specs.declared.event.RawKind.{RawKind}
use Rattle.gob_read.specs.declared.event.GroupKind.{GroupKind}
use Rattle.gob_read.specs.declared.event.GroupKind.TheVariants as group
use Rattle.gob_read.specs.declared.frame.Frame.{Frame}
use Rattle.gob_read.specs.declared.next.Moved.{Moved}
use Rattle.gob_read.specs.declared.next.Next.TheVariants.{Number, Raw}
use Rattle.gob_read.specs.declared.next.NextNumber.TheVariants.{Second}
use Rattle.gob_read.specs.declared.state.State.{State}
use Rattle.gob_read.specs.Event.{Event, number, raw_start, enter, leave, HasEvents, tell_bool, tell_not_negative}
use Rattle.gob_read.specs.Event.{tell_negative, tell_uint, tell_float, tell_nil, tell_bytes, tell_text, tell_opaque}
use Rattle.gob_read.specs.Event.{tell_many, tell_pairs, tell_none, tell_no_pair, no_bytes}
use Rattle.gob_read.specs.WellFormed.{Place, AreNumbers, Follows, a_number, a_raw_part, a_list, a_map, end_of_raw}
use Rattle.gob_read.specs.WellFormed.{end_of_list, end_of_map, FollowsAll, no_event, event}
use Rattle.gob_read.specs.WellFormed as formed
use Rattle.gob_read.specs.Building.{MayTakeEvent, TakesEvent}
use Rattle.gob_read.specs.Machine.Frames.{item_of}
use Rattle.gob_read.specs.Machine.Kinds.{HasKind, IsRawKind, is_bytes, is_text, is_opaque, IsList, IsGroup, of_list}
use Rattle.gob_read.specs.Machine.Kinds.{of_map as map_group, IsScalar}
use Rattle.gob_read.specs.Machine.Kinds as kinds
use Rattle.gob_read.specs.Machine.OpenPath.{OpenPath, AtNext, at_part, at_second, at_raw, PartDone}
use Rattle.gob_read.specs.Machine.Steps.{IsBegun, IsPlaced, IsEnded, CanBegin, StepBegins, IsNoFirst}
use Rattle.gob_read.proofs.Grammar.Prefixes.{append_nil}
use Rattle.gob_read.proofs.Machine.KindLaws.{spelled_as}
use Rattle.gob_read.proofs.Machine.Moves.{part_whole, list_spelled, list_begins, map_begins}
use Rattle.gob_read.proofs.Events.EventLaws.{follows_then}
use Rattle.gob_read.proofs.Machine.ToldLaws.{before, begins_in, within_follows, within_weighs, told, told-append, some}
use Rattle.gob_read.proofs.Machine.ToldLaws.{can_tell}

-- the builder can be told that the part begins
pub can_start : {X O : Type 0} {received : X → List Event → Type 0} {state : State X O} {P : Kind → Type 0} {n : ℕ}
    {q : Place} (t : Event) → told (t ∷ []) ≡ 1 → CanBegin received state P n → Follows (before state.stack) t q
    → MayTakeEvent received state.builder t
can_start t e r f = can_tell r.begun.us t r.begun.told (within_follows r.begun.within) f (let w =
    within_weighs r.begun.within in let m = some r.spelled in let l = r.small in
    omega (arith, length-append r.before r.bytes))

-- and then that it ends
pub can_stop : {X O : Type 0} {received : X → List Event → Type 0} {state : State X O} {P : Kind → Type 0} {n : ℕ}
    {q r : Place} {builder : X} (t : Event) → told (t ∷ []) ≡ 1 → CanBegin received state P n
    → Follows (before state.stack) t q → Follows q leave r
    → TakesEvent received state.builder builder t → MayTakeEvent received builder leave
can_stop t e r f g h = can_tell (r.begun.us ++ t ∷ []) leave (h.each r.begun.us r.begun.told)
    (follows_then (within_follows r.begun.within) (event f no_event)) g
    (let w = within_weighs r.begun.within in let m = some r.spelled in let l = r.small in
    omega (arith, length-append r.before r.bytes, told-append r.begun.us (t ∷ [])))

-- a value that is told so
pub record Valued (T : Table) (u : TypeId) (c : List ℕ) (us : List Event) : Type 0 where
  pub value : Tree
  pub spelled : Spells T u value c
  pub tells : HasEvents value us

-- a part that was told is whole
pub ended_value : {T : Table} {t u : TypeId} {X O : Type 0} {received : X → List Event → Type 0} {state mid : State X O}
    {p c : List ℕ} (ws : List Event) → mid.stack ≡ state.stack → ((us : List Event) → received state.builder us
    → received mid.builder (us ++ ws))
    → IsBegun T t received state u p → Valued T u c ws → IsEnded T t received mid (p ++ c)
ended_value {T = T} {t = t} {p = p} {c = c} ws e f b v = record {
  us = b.us ++ ws;
  completed =
      subst (λ fs. PartDone T t fs (p ++ c) (b.us ++ ws)) (sym e) (part_whole b.within v.spelled v.tells);
  told =
      f b.us b.told;
}

-- two events, one after the other
told_both : {X : Type 0} {received : X → List Event → Type 0} {old mid new : X} {t u : Event}
    → TakesEvent received old mid t → TakesEvent received mid new u → (us : List Event) → received old us
    → received new (us ++ t ∷ u ∷ [])
told_both {received = received} {new = new} {t = t} {u = u} f g us h =
    subst (received new) (append_assoc us (t ∷ []) (u ∷ [])) (g.each (us ++ t ∷ []) (f.each us h))

-- a part that one number spells
bool_valued : {T : Table} {u : TypeId} {c : List ℕ} (n : ℕ) → HasKind T u (kind.Basic basic.Bool) → n ≤ 1
    → IsUnsigned n c → Valued T u c (number basic.Bool n 0 ∷ [])
bool_valued zero h l n = record {
  value = Value.bool false;
  spelled = spelled_as h (of_bool {x = false} n);
  tells =
      tell_bool {b = false};
}
bool_valued (suc zero) h l n = record {
  value = Value.bool true;
  spelled = spelled_as h (of_bool {x = true} n);
  tells =
      tell_bool {b = true};
}
bool_valued (suc (suc m)) h l n = absurd (omega arith)

int_valued : {T : Table} {u : TypeId} {c : List ℕ} (n : ℕ) → HasKind T u (kind.Basic basic.Int) → IsUnsigned n c
    → Valued T u c (number basic.Int n 0 ∷ [])
int_valued {T = T} {u = u} {c = c} n h m =
    let d = div-add-mod n 2 in
    let l = mod_below n 2 (omega arith) in
    elim (cases_lt (n % 2) 1) [
      | inl z ↦ even (n / 2) (omega arith)
      | inr z ↦ odd (n / 2) (omega arith)
    ]
  where
    even : (i : ℕ) → 2 * i ≡ n → Valued T u c (number basic.Int n 0 ∷ [])
    even i e = subst (λ j. Valued T u c (number basic.Int j 0 ∷ [])) e (record {
      value = Value.int (pos i);
      spelled =
          spelled_as h (of_int (not_negative (subst (λ j. IsUnsigned j c) (sym e) m)));
      tells = tell_not_negative;
    })

    odd : (i : ℕ) → 2 * i + 1 ≡ n → Valued T u c (number basic.Int n 0 ∷ [])
    odd i e = subst (λ j. Valued T u c (number basic.Int j 0 ∷ [])) e (record {
      value = Value.int (negsuc i);
      spelled =
          spelled_as h (of_int (negative (subst (λ j. IsUnsigned j c) (sym e) m)));
      tells = tell_negative;
    })

scalar_valued : {T : Table} {u : TypeId} {k : Kind} {b : Basic} {a n : ℕ} {c : List ℕ} → HasKind T u k
    → IsScalar k n b a → IsUnsigned n c → Valued T u c (number b a 0 ∷ [])
scalar_valued {a = a} h (kinds.of_bool l) n = bool_valued a h l n
scalar_valued {a = a} h kinds.of_int n = int_valued a h n
scalar_valued {a = a} h kinds.of_uint n = record {
  value = Value.uint a;
  spelled = spelled_as h (of_uint n);
  tells =
      tell_uint;
}
scalar_valued {a = a} {c = c} h (kinds.of_float f) n = record {
  value = Value.float a;
  spelled =
      spelled_as h (of_float (f c n));
  tells = tell_float;
}
scalar_valued {a = a} {c = c} h (kinds.of_nil z) n = record {
  value = Value.nil;
  spelled =
      spelled_as h (of_nil (subst (λ i. IsUnsigned i c) z n));
  tells =
      subst (λ i. HasEvents Value.nil (number basic.Interface i 0 ∷ [])) (sym z) tell_nil;
}

pub numbers : {k : Kind} {b : Basic} {a n : ℕ} → IsScalar k n b a → AreNumbers b a 0
numbers (kinds.of_bool l) = formed.of_bool l
numbers kinds.of_int = formed.of_int
numbers kinds.of_uint = formed.of_uint
numbers (kinds.of_float f) = formed.of_float
numbers (kinds.of_nil z) = subst (λ i. AreNumbers basic.Interface i 0) (sym z) formed.of_nil

pub number_ended : {X O : Type 0} {received : X → List Event → Type 0} {state mid : State X O} {b : Basic} {a n : ℕ}
    → mid.stack ≡ state.stack → TakesEvent received state.builder mid.builder (number b a 0)
    → (T : Table) (t u : TypeId) (k : Kind) (p c : List ℕ) → IsBegun T t received state u p → HasKind T u k
    → IsScalar k n b a → IsUnsigned n c → IsEnded T t received mid (p ++ c)
number_ended e f T t u k p c b h i n = ended_value (number _ _ 0 ∷ []) e f.each b (scalar_valued h i n)

-- raw bytes, of which there are none
empty_raw : {T : Table} {u : TypeId} {k : Kind} {x : RawKind} {c : List ℕ} → HasKind T u k → IsRawKind k x
    → IsUnsigned 0 c → Valued T u c (raw_start x ∷ leave ∷ [])
empty_raw {T = T} {u = u} {c = c} h is_bytes n = record {
  value = Value.bytes [];
  spelled =
      subst (λ l. Spells T u (Value.bytes []) l) (append_nil c) (spelled_as h (of_bytes {s = []} n));
  tells =
      tell_bytes no_bytes;
}
empty_raw {T = T} {u = u} {c = c} h is_text n = record {
  value = Value.text [];
  spelled =
      subst (λ l. Spells T u (Value.text []) l) (append_nil c) (spelled_as h (of_text {s = []} n));
  tells =
      tell_text no_bytes;
}
empty_raw {T = T} {u = u} {c = c} h is_opaque n = record {
  value = Value.opaque [];
  spelled =
      subst (λ l. Spells T u (Value.opaque []) l) (append_nil c) (spelled_as h (of_opaque {s = []} n));
  tells =
      tell_opaque no_bytes;
}

pub length_ended : {X O : Type 0} {received : X → List Event → Type 0} {state mid : State X O} {builder : X}
    {x : RawKind} {n : ℕ} → mid.stack ≡ state.stack → TakesEvent received state.builder builder (raw_start x)
    → TakesEvent received builder mid.builder leave → n ≡ 0
    → (T : Table) (t u : TypeId) (k : Kind) (p c : List ℕ) → IsBegun T t received state u p → HasKind T u k
    → IsRawKind k x → IsUnsigned n c → IsEnded T t received mid (p ++ c)
length_ended {x = x} e f g z T t u k p c b h i n = ended_value (raw_start x ∷ leave ∷ []) e (told_both f g) b
    (empty_raw h i (subst (λ i. IsUnsigned i c) z n))

pub length_placed : {X O : Type 0} {received : X → List Event → Type 0} {state mid : State X O} {x : RawKind} {n : ℕ}
    → mid.stack ≡ state.stack → mid.expected ≡ Raw n → TakesEvent received state.builder mid.builder (raw_start x)
    → (n ≡ 0 → ⊥)
    → (T : Table) (t u : TypeId) (k : Kind) (p c : List ℕ) → IsBegun T t received state u p → HasKind T u k
    → IsRawKind k x → IsUnsigned n c → IsPlaced T t received mid (p ++ c) []
length_placed {state = state} {mid = mid} {x = x} {n = n} e a f z T t u k p c b h i m = record {
  us = b.us ++ raw_start x ∷ [];
  at = subst (λ fs. AtNext T t fs mid.expected (p ++ c) [] (b.us ++ raw_start x ∷ [])) (sym e)
      (subst (λ a. AtNext T t state.stack a (p ++ c) [] (b.us ++ raw_start x ∷ [])) (sym a)
      (at_raw b.within h i m no_bytes (omega arith) (omega arith)));
  told = f.each b.us b.told;
}

-- a group in which nothing is
empty_group : {T : Table} {u : TypeId} {k : Kind} {g : GroupKind} {f : Frame} {n : ℕ} {c : List ℕ} → HasKind T u k
    → IsGroup k n g f → n ≡ 0 → IsUnsigned n c → Valued T u c (enter g ∷ leave ∷ [])
empty_group {T = T} {u = u} {c = c} h (of_list l e) z n = record {
  value = Value.many no_tree;
  spelled =
      subst (λ x. Spells T u (Value.many no_tree) x) (append_nil c) (list_spelled h l n no_element (sym z));
  tells =
      tell_many tell_none;
}
empty_group {T = T} {u = u} {c = c} h (map_group e) z n = record {
  value = Value.pairs no_pair;
  spelled =
      subst (λ x. Spells T u (Value.pairs no_pair) x) (append_nil c)
      (spelled_as h (of_map (subst (λ i. IsUnsigned i c) z n) no_entry));
  tells = tell_pairs tell_no_pair;
}

pub count_ended : {X O : Type 0} {received : X → List Event → Type 0} {state mid : State X O} {builder : X}
    {g : GroupKind} {f : Frame} {n : ℕ} → mid.stack ≡ state.stack → TakesEvent received state.builder builder (enter g)
    → TakesEvent received builder mid.builder leave → n ≡ 0
    → (T : Table) (t u : TypeId) (k : Kind) (p c : List ℕ) → IsBegun T t received state u p → HasKind T u k
    → IsGroup k n g f → IsUnsigned n c → IsEnded T t received mid (p ++ c)
count_ended {g = g} e f h z T t u k p c b i j n = ended_value (enter g ∷ leave ∷ []) e (told_both f h) b
    (empty_group i j z n)

group_begins : {T : Table} {t u : TypeId} {k : Kind} {g : GroupKind} {f : Frame} {fs : List Frame} {n : ℕ}
    {p c : List ℕ} {us : List Event} → IsGroup k n g f → (n ≡ 0 → ⊥) → OpenPath T t fs p us u → HasKind T u k
    → IsUnsigned n c → AtNext T t (f ∷ fs) (Number (item_of f)) (p ++ c) [] (us ++ enter g ∷ [])
group_begins (of_list l e) z w h n = at_part (list_begins w h l n (omega arith))
group_begins (map_group e) z w h n = at_part (map_begins w h n (omega arith))

pub count_placed : {X O : Type 0} {received : X → List Event → Type 0} {state mid : State X O} {g : GroupKind}
    {f : Frame} {n : ℕ} → mid.stack ≡ f ∷ state.stack → mid.expected ≡ Number (item_of f)
    → TakesEvent received state.builder mid.builder (enter g) → (n ≡ 0 → ⊥)
    → (T : Table) (t u : TypeId) (k : Kind) (p c : List ℕ) → IsBegun T t received state u p → HasKind T u k
    → IsGroup k n g f → IsUnsigned n c → IsPlaced T t received mid (p ++ c) []
count_placed {state = state} {mid = mid} {g = g} {f = f} {n = n} e a h z T t u k p c b i j m = record {
  us = b.us ++ enter g ∷ [];
  at = subst (λ fs. AtNext T t fs mid.expected (p ++ c) [] (b.us ++ enter g ∷ [])) (sym e)
      (subst (λ a. AtNext T t (f ∷ state.stack) a (p ++ c) [] (b.us ++ enter g ∷ [])) (sym a)
      (group_begins j z b.within i m));
  told = h.each b.us b.told;
}

-- the group is told where its part begins, and may end at once
pub can_enter : {X O : Type 0} {received : X → List Event → Type 0} {state : State X O} {g : GroupKind} {f : Frame}
    {n : ℕ} → CanBegin received state (λ k. IsGroup k n g f) n → MayTakeEvent received state.builder (enter g)
can_enter {received = received} {state = state} {g = g} {f = f} {n = n} r = from r.holds
  where
    from : {k : Kind} {g : GroupKind} {f : Frame} → IsGroup k n g f → MayTakeEvent received state.builder (enter g)
    from (of_list l e) = can_start (enter group.Many) refl r (a_list (begins_in state.stack))
    from (map_group e) = can_start (enter group.Pairs) refl r (a_map (begins_in state.stack))

pub can_end_group : {X O : Type 0} {received : X → List Event → Type 0} {state : State X O} {g : GroupKind} {f : Frame}
    {n : ℕ} {builder : X} → CanBegin received state (λ k. IsGroup k n g f) n
    → TakesEvent received state.builder builder (enter g) → MayTakeEvent received builder leave
can_end_group {received = received} {state = state} {g = g} {f = f} {n = n} {builder = builder} r h = from r.holds h
  where
    from : {k : Kind} {g : GroupKind} {f : Frame} → IsGroup k n g f
        → TakesEvent received state.builder builder (enter g) → MayTakeEvent received builder leave
    from (of_list l e) h = can_stop (enter group.Many) refl r (a_list (begins_in state.stack)) end_of_list h
    from (map_group e) h = can_stop (enter group.Pairs) refl r (a_map (begins_in state.stack)) end_of_map h

-- a part that can begin with one property of its kind can begin with each that follows from it
pub can_begin_as : {X O : Type 0} {received : X → List Event → Type 0} {state : State X O} {P Q : Kind → Type 0} {n : ℕ}
    → ((k : Kind) → P k → Q k) → CanBegin received state P n → CanBegin received state Q n
can_begin_as f r = record {
  table = r.table;
  type = r.type;
  id = r.id;
  kind = r.kind;
  before = r.before;
  bytes =
      r.bytes;
  begun = r.begun;
  has = r.has;
  holds = f r.kind r.holds;
  spelled = r.spelled;
  small = r.small;
}

pub begins_as : {X O : Type 0} {received : X → List Event → Type 0} {old new : State X O} {P Q : Kind → Type 0} {n : ℕ}
    {moved : Moved} → ((k : Kind) → P k → Q k) → StepBegins received old new Q n moved
    → StepBegins received old new P n moved
begins_as f b = record { each = λ T t u k p c x h i n. b.each T t u k p c x h (f k i) n }

-- a basic type's part
pub as_scalar : {b : Basic} {n a : ℕ} (d : Basic) → b ≡ d → IsScalar (kind.Basic d) n d a → (k : Kind)
    → k ≡ kind.Basic b → IsScalar k n b a
as_scalar {b = b} {n = n} {a = a} d e s k h = subst (λ k. IsScalar k n b a) (sym h)
    (subst (λ b. IsScalar (kind.Basic b) n b a) (sym e) s)

pub as_raw : {b : Basic} {x : RawKind} (d : Basic) → b ≡ d → IsRawKind (kind.Basic d) x → (k : Kind) → k ≡ kind.Basic b
    → IsRawKind k x
as_raw {x = x} d e s k h = subst (λ k. IsRawKind k x) (sym (h ∙ ap kind.Basic e)) s

pub no_first : {b : Basic} {n : ℕ} {r : Reason} (d : Basic) → b ≡ d → IsNoFirst (kind.Basic d) n r
    → IsNoFirst (kind.Basic b) n r
no_first {n = n} {r = r} d e s = subst (λ b. IsNoFirst (kind.Basic b) n r) (sym e) s

-- behind the real part
pub second_placed : {X O : Type 0} {received : X → List Event → Type 0} {state mid : State X O} {b : Basic} {n q : ℕ}
    → mid.stack ≡ state.stack → mid.expected ≡ Number (Second q) → mid.builder ≡ state.builder → b ≡ basic.Complex
    → ((c : List ℕ) → IsUnsigned n c → IsPattern q c)
    → (T : Table) (t u : TypeId) (k : Kind) (p c : List ℕ) → IsBegun T t received state u p → HasKind T u k
    → k ≡ kind.Basic b → IsUnsigned n c → IsPlaced T t received mid (p ++ c) []
second_placed {received = received} {state = state} {mid = mid} {q = q} e a s d f T t u k p c b h i m = record {
  us = b.us;
  at = subst (λ fs. AtNext T t fs mid.expected (p ++ c) [] b.us) (sym e)
      (subst (λ a. AtNext T t state.stack a (p ++ c) [] b.us) (sym a)
      (at_second b.within (subst (HasKind T u) (i ∙ ap kind.Basic d) h) (f c m)));
  told = subst (λ x. received x b.us) (sym s) b.told;
}
