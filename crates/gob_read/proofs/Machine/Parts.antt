-- The steps of a reader's state, with what its builder is told.
use Rattle.std.proofs.Common.{◌≡◌, ℕ, ◌^◌, ◌<◌, List, [], ◌∷◌, ◌++◌, Some, None, arith, sym, subst, drop}
use Rattle.std.specs.Prelude.{slice_get, Result, Ok, Err, IfOk}
use Rattle.gob_num.specs.Unsigned.{IsUnsigned}
use Rattle.gob_types.specs.declared.id.TypeId.{TypeId}
use Rattle.gob_types.specs.declared.kind.Kind.{Kind}
use Rattle.gob_types.specs.Table.{Table}
use Rattle.gob_read.specs.declared.frame.Frame.{Frame}
use Rattle.gob_read.specs.declared.next.Moved.{Moved}
use Rattle.gob_read.specs.declared.next.Next.TheVariants.{Number}
use Rattle.gob_read.specs.declared.state.State.{State}
use Rattle.gob_read.specs.Event.{Event, leave}
use Rattle.gob_read.specs.WellFormed.{end_of_list, end_of_map}
use Rattle.gob_read.specs.Building.{MayTakeEvent, TakesEvent}
use Rattle.gob_read.specs.Machine.Frames.{IsOver, last_element, last_pair, FrameGoesOn, item_of}
use Rattle.gob_read.specs.Machine.Kinds.{HasKind}
use Rattle.gob_read.specs.Machine.OpenPath.{AtNext, PartDone}
use Rattle.gob_read.specs.Machine.Steps.{IsBegun, IsPlaced, IsEnded, IsRead, CanEnd, StepEnds, CanBegin, StepBegins}
use Rattle.gob_read.proofs.Machine.Moves.{completed_value, moved, closed}
use Rattle.gob_read.proofs.Machine.ToldLaws.{completed_follows, completed_weighs, told, can_tell}

pub if_ok : {A E : Type 0} {P Q : A → Type 0} (r : Result A E) → ((v : A) → P v → Q v) → IfOk r P → IfOk r Q
if_ok (Ok v) f p = f v p
if_ok (Err e) f p = p

first_is : {f g : Frame} → Some f ≡ Some g → f ≡ g
first_is h = cc

-- no part is open behind the outermost one
pub ended_none : {T : Table} {t : TypeId} {X O : Type 0} {received : X → List Event → Type 0} {state : State X O}
    {z : List ℕ} → slice_get state.stack 0 ≡ None → IsEnded T t received state z → IsRead T t received state z
ended_none {T = T} {t = t} {received = received} {state = state} {z = z} h e = from state.stack h e.completed
  where
    from : (fs : List Frame) → slice_get fs 0 ≡ None → PartDone T t fs z e.us → IsRead T t received state z
    from [] h c = let v = completed_value c in record {
      us = e.us;
      value = v.value;
      spelled = v.spelled;
      tells = v.told;
      told = e.told;
    }
    from (f ∷ fs) h c = cc

-- the innermost open part goes on
pub ended_on : {T : Table} {t : TypeId} {X O : Type 0} {received : X → List Event → Type 0} {state state' : State X O}
    {f g : Frame} {z : List ℕ} → slice_get state.stack 0 ≡ Some f → FrameGoesOn f g
    → state'.stack ≡ g ∷ drop 1 state.stack → state'.expected ≡ Number (item_of g) → state'.builder ≡ state.builder
    → IsEnded T t received state z → IsPlaced T t received state' z []
ended_on {T = T} {t = t} {received = received} {state = state} {state' = state'} {f = f} {g = g} {z = z} h on stack
    expected builder e = record {
      us = e.us;
      at = subst (λ fs. AtNext T t fs state'.expected z [] e.us) (sym stack)
          (subst (λ a. AtNext T t (g ∷ drop 1 state.stack) a z [] e.us) (sym expected)
          (from state.stack h e.completed));
      told = subst (λ b. received b e.us) (sym builder) e.told;
    }
  where
    from : (fs : List Frame) → slice_get fs 0 ≡ Some f → PartDone T t fs z e.us
        → AtNext T t (g ∷ drop 1 fs) (Number (item_of g)) z [] e.us
    from [] h c = cc
    from (k ∷ fs) h c = moved on (subst (λ k. PartDone T t (k ∷ fs) z e.us) (first_is h) c)

-- the innermost open part ends
pub ended_over : {T : Table} {t : TypeId} {X O : Type 0} {received : X → List Event → Type 0} {state state' : State X O}
    {f : Frame} {z : List ℕ} → slice_get state.stack 0 ≡ Some f → IsOver f
    → state'.stack ≡ drop 1 state.stack → TakesEvent received state.builder state'.builder leave
    → IsEnded T t received state z → IsEnded T t received state' z
ended_over {T = T} {t = t} {received = received} {state = state} {state' = state'} {f = f} {z = z} h over stack told_on
    e = record {
      us = e.us ++ leave ∷ [];
      completed = subst (λ fs. PartDone T t fs z (e.us ++ leave ∷ [])) (sym stack) (from state.stack h e.completed);
      told = told_on.each e.us e.told;
    }
  where
    from : (fs : List Frame) → slice_get fs 0 ≡ Some f → PartDone T t fs z e.us
        → PartDone T t (drop 1 fs) z (e.us ++ leave ∷ [])
    from [] h c = cc
    from (k ∷ fs) h c = closed over (subst (λ k. PartDone T t (k ∷ fs) z e.us) (first_is h) c)

pub can_leave : {X O : Type 0} {received : X → List Event → Type 0} {state : State X O} {f : Frame}
    → slice_get state.stack 0 ≡ Some f → IsOver f → CanEnd received state → MayTakeEvent received state.builder leave
can_leave {received = received} {state = state} {f = f} h over c = from state.stack h c.ended.completed
  where
    at : {f : Frame} {fs : List Frame} → IsOver f → PartDone c.table c.type (f ∷ fs) c.bytes c.ended.us
        → told c.ended.us < 2 ^ 64 → MayTakeEvent received state.builder leave
    at last_element d l = can_tell c.ended.us leave c.ended.told (completed_follows d) end_of_list (omega arith)
    at last_pair d l = can_tell c.ended.us leave c.ended.told (completed_follows d) end_of_map (omega arith)

    from : (fs : List Frame) → slice_get fs 0 ≡ Some f → PartDone c.table c.type fs c.bytes c.ended.us
        → MayTakeEvent received state.builder leave
    from [] h d = cc
    from (k ∷ fs) h d = at over (subst (λ k. PartDone c.table c.type (k ∷ fs) c.bytes c.ended.us) (first_is h) d)
        (let w = completed_weighs d in let s = c.small in omega arith)

pub over_can_end : {X O : Type 0} {received : X → List Event → Type 0} {state state' : State X O} {f : Frame}
    → slice_get state.stack 0 ≡ Some f → IsOver f
    → state'.stack ≡ drop 1 state.stack → TakesEvent received state.builder state'.builder leave → CanEnd received state
    → CanEnd received state'
over_can_end h over stack told_on c = record {
  table = c.table;
  type = c.type;
  bytes = c.bytes;
  ended =
      ended_over h over stack told_on c.ended;
  small = c.small;
}

-- a part ends where it begins
pub begins_ended : {X O : Type 0} {received : X → List Event → Type 0} {old mid new : State X O} {P : Kind → Type 0}
    {n : ℕ} {moved : Moved}
    → ((T : Table) (t u : TypeId) (k : Kind) (p c : List ℕ) → IsBegun T t received old u p → HasKind T u k → P k
    → IsUnsigned n c → IsEnded T t received mid (p ++ c))
    → StepEnds received mid new moved → StepBegins received old new P n moved
begins_ended f e = record { each = λ T t u k p c b h i n. e.each T t (p ++ c) (f T t u k p c b h i n) }

pub begins_can_end : {X O : Type 0} {received : X → List Event → Type 0} {old mid : State X O} {P : Kind → Type 0}
    {n : ℕ}
    → ((T : Table) (t u : TypeId) (k : Kind) (p c : List ℕ) → IsBegun T t received old u p → HasKind T u k → P k
    → IsUnsigned n c → IsEnded T t received mid (p ++ c))
    → CanBegin received old P n → CanEnd received mid
begins_can_end f r = record {
  table = r.table;
  type = r.type;
  bytes = r.before ++ r.bytes;
  ended =
      f r.table r.type r.id r.kind r.before r.bytes r.begun r.has r.holds r.spelled;
  small = r.small;
}
