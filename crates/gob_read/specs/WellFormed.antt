-- Which lists of events are well formed, said by a fold over the parts that are open.
-- (docs/LIBRARY.md, Events.)
use Rattle.std.specs.Prelude.{◌≡◌, ℕ, ◌+◌, ◌≤◌, List, [], ◌∷◌}
use Rattle.gob_types.specs.declared.basic.Basic.{Basic}
use Rattle.gob_types.specs.declared.basic.Basic.TheVariants as basic
use Rattle.gob_read.specs.declared.event.RawKind.{RawKind}
use Rattle.gob_read.specs.declared.event.GroupKind.TheVariants as group
use Rattle.gob_read.specs.Event.{Event, number, raw_start, raw_more, enter, field, leave}

-- where a list of events stands: before or behind the whole value, or in an open part, with the place behind that part
pub data Place : Type 0 where
  at_start : Place
  at_end : Place
  in_raw : Place → Place
  in_many : Place → Place
  before_key : Place → Place
  before_element : Place → Place
  -- in a struct, whose next field has this number or a greater one
  before_field : ℕ → Place → Place
  -- in a struct, with the number of the next part told
  behind_number : ℕ → Place → Place

-- a part may begin at the first place, and the second is behind it
pub data BeginsPlace : Place → Place → Type 0 where
  whole_value : BeginsPlace at_start at_end
  an_element : {p : Place} → BeginsPlace (in_many p) (in_many p)
  a_key : {p : Place} → BeginsPlace (before_key p) (before_element p)
  its_element : {p : Place} → BeginsPlace (before_element p) (before_key p)
  a_field : {next : ℕ} {p : Place} → BeginsPlace (behind_number next p) (before_field next p)

-- the numbers of a part of this basic type; one that isn't used is 0
pub data AreNumbers : Basic → ℕ → ℕ → Type 0 where
  of_bool : {a : ℕ} → a ≤ 1 → AreNumbers basic.Bool a 0
  of_int : {a : ℕ} → AreNumbers basic.Int a 0
  of_uint : {a : ℕ} → AreNumbers basic.Uint a 0
  of_float : {a : ℕ} → AreNumbers basic.Float a 0
  of_complex : {a b : ℕ} → AreNumbers basic.Complex a b
  of_nil : AreNumbers basic.Interface 0 0

-- the event may come at the first place, and leads to the second
pub data Follows : Place → Event → Place → Type 0 where
  a_number : {p q : Place} {k : Basic} {a b : ℕ} → BeginsPlace p q → AreNumbers k a b → Follows p (number k a b) q
  a_raw_part : {p q : Place} {k : RawKind} → BeginsPlace p q → Follows p (raw_start k) (in_raw q)
  raw_bytes : {p : Place} {s : List ℕ} → Follows (in_raw p) (raw_more s) (in_raw p)
  a_list : {p q : Place} → BeginsPlace p q → Follows p (enter group.Many) (in_many q)
  a_map : {p q : Place} → BeginsPlace p q → Follows p (enter group.Pairs) (before_key q)
  a_struct : {p q : Place} → BeginsPlace p q → Follows p (enter group.Fields) (before_field 0 q)
  a_number_of_field : {next f above : ℕ} {p : Place} → next ≤ f → above ≡ f + 1
      → Follows (before_field next p) (field f) (behind_number above p)
  end_of_raw : {p : Place} → Follows (in_raw p) leave p
  end_of_list : {p : Place} → Follows (in_many p) leave p
  end_of_map : {p : Place} → Follows (before_key p) leave p
  end_of_struct : {next : ℕ} {p : Place} → Follows (before_field next p) leave p

-- the events may come one after another
pub data FollowsAll : Place → List Event → Place → Type 0 where
  no_event : {p : Place} → FollowsAll p [] p
  event : {p q r : Place} {t : Event} {us : List Event} → Follows p t q → FollowsAll q us r → FollowsAll p (t ∷ us) r

pub record IsWellFormed (us : List Event) : Type 0 where
  pub place : Place
  pub follows : FollowsAll at_start us place
