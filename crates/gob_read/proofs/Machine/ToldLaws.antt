-- What was told of the parts so far: it is well formed, and weighs no more than their bytes, so that a builder can be
-- told more.
use Rattle.std.proofs.Common.{◌≡◌, ℕ, ◌+◌, ◌^◌, ◌<◌, ◌≤◌, List, [], ◌∷◌, ◌++◌, length, arith, refl, sym, subst}
use Rattle.std.proofs.Common.{length-append}
use Rattle.gob_num.specs.Unsigned.{IsUnsigned}
use Rattle.gob_num.proofs.PublicLaws.{unsigned_length}
use Rattle.gob_types.specs.declared.id.TypeId.{TypeId}
use Rattle.gob_types.specs.declared.kind.Field.{Field}
use Rattle.gob_types.specs.Table.{Table}
use Rattle.gob_value.specs.Tree.{Tree, Trees, Pairs, Fields}
use Rattle.gob_value.specs.Spelling.{Spells}
use Rattle.gob_read.specs.declared.event.GroupKind.TheVariants as group
use Rattle.gob_read.specs.declared.event.RawKind.{RawKind}
use Rattle.gob_read.specs.declared.frame.Frame.{Frame}
use Rattle.gob_read.specs.declared.frame.Frame.TheVariants as frame
use Rattle.gob_read.specs.Event.{Event, raw_start, raw_more, enter, field, HasEvents, HasRawEvents, no_bytes}
use Rattle.gob_read.specs.Event.{more_bytes}
use Rattle.gob_read.specs.Weight.{parts_told, raw_told}
use Rattle.gob_read.specs.WellFormed.{Place, at_start, at_end, in_raw, in_many, before_key, before_element}
use Rattle.gob_read.specs.WellFormed.{before_field, behind_number, BeginsPlace, whole_value, an_element, a_key}
use Rattle.gob_read.specs.WellFormed.{its_element, a_field, Follows, a_raw_part, raw_bytes, a_list, a_map, a_struct}
use Rattle.gob_read.specs.WellFormed.{a_number_of_field, FollowsAll, no_event, event}
use Rattle.gob_read.specs.Building.{MayTakeEvent}
use Rattle.gob_read.specs.Machine.OpenPath.{EachTold, none_told, one_told, PairsTold, no_pair_told, pair_told}
use Rattle.gob_read.specs.Machine.OpenPath.{FieldsTold, no_field_told, field_told, OpenPath, at_once, behind_tag}
use Rattle.gob_read.specs.Machine.OpenPath.{in_list, at_key, at_value, in_field, OpenStruct, open_struct, PartDone}
use Rattle.gob_read.proofs.Events.EventLaws.{follows_then, formed_more, tells_follows}
use Rattle.gob_read.proofs.Events.WeightLaws.{weight_within}
use Rattle.gob_read.proofs.Events.CountLaws.{parts_told-append, raw_told-append, tells_weight}

-- the place behind a whole part in these open ones
abbrev pub behind : List Frame → Place
behind [] = at_end
behind (frame.Many e left ∷ fs) = in_many (behind fs)
behind (frame.Key k e left ∷ fs) = before_element (behind fs)
behind (frame.Elem k e left ∷ fs) = before_key (behind fs)
behind (frame.Fields t next ∷ fs) = before_field next (behind fs)

-- the place where a part begins in them
abbrev pub before : List Frame → Place
before [] = at_start
before (frame.Many e left ∷ fs) = in_many (behind fs)
before (frame.Key k e left ∷ fs) = before_key (behind fs)
before (frame.Elem k e left ∷ fs) = before_element (behind fs)
before (frame.Fields t next ∷ fs) = behind_number next (behind fs)

pub begins_in : (fs : List Frame) → BeginsPlace (before fs) (behind fs)
begins_in [] = whole_value
begins_in (frame.Many e left ∷ fs) = an_element
begins_in (frame.Key k e left ∷ fs) = a_key
begins_in (frame.Elem k e left ∷ fs) = its_element
begins_in (frame.Fields t next ∷ fs) = a_field

each_told_follows : {T : Table} {e : TypeId} {vs : Trees} {b : List ℕ} {us : List Event} {p : Place}
    → EachTold T e vs b us → FollowsAll (in_many p) us (in_many p)
each_told_follows none_told = no_event
each_told_follows (one_told s t r) = follows_then (tells_follows t s an_element) (each_told_follows r)

pairs_told_follow : {T : Table} {k e : TypeId} {ps : Pairs} {b : List ℕ} {us : List Event} {p : Place}
    → PairsTold T k e ps b us → FollowsAll (before_key p) us (before_key p)
pairs_told_follow no_pair_told = no_event
pairs_told_follow (pair_told s t p o r) = follows_then (tells_follows t s a_key)
    (follows_then (tells_follows o p its_element) (pairs_told_follow r))

fields_told_follow : {T : Table} {types : List Field} {start next : ℕ} {fs : Fields} {b : List ℕ} {us : List Event}
    {p : Place} → FieldsTold T types start next fs b us → FollowsAll (before_field start p) us (before_field next p)
fields_told_follow no_field_told = no_event
fields_told_follow (field_told l g n s t r) = event (a_number_of_field l refl) (follows_then (tells_follows t s a_field)
    (fields_told_follow r))

raw_told_follow : {s : List ℕ} {us : List Event} {p : Place} → HasRawEvents s us → FollowsAll (in_raw p) us (in_raw p)
raw_told_follow no_bytes = no_event
raw_told_follow (more_bytes c t) = follows_then (raw_told_follow t) (event raw_bytes no_event)

pub within_follows : {T : Table} {t u : TypeId} {fs : List Frame} {p : List ℕ} {us : List Event}
    → OpenPath T t fs p us u → FollowsAll at_start us (before fs)
within_follows (at_once e i) = no_event
within_follows (behind_tag e i) = no_event
within_follows (in_list {fs = fs} w k l n r m) = follows_then (within_follows w)
    (event (a_list (begins_in fs)) (each_told_follows r))
within_follows (at_key {fs = fs} w k n r m) = follows_then (within_follows w)
    (event (a_map (begins_in fs)) (pairs_told_follow r))
within_follows (at_value {fs = fs} w k n r m s t) = follows_then (within_follows w)
    (event (a_map (begins_in fs)) (follows_then (pairs_told_follow r) (tells_follows t s a_key)))
within_follows (in_field {fs = fs} w k r l m g n) = follows_then (within_follows w)
    (event (a_struct (begins_in fs))
    (follows_then (fields_told_follow r) (event (a_number_of_field l (sym m)) no_event)))

pub completed_follows : {T : Table} {t : TypeId} {fs : List Frame} {z : List ℕ} {us : List Event} → PartDone T t fs z us
    → FollowsAll at_start us (behind fs)
completed_follows {fs = fs} c = subst (λ us. FollowsAll at_start us (behind fs)) (sym c.event)
    (follows_then (within_follows c.within) (tells_follows c.tells c.spelled (begins_in fs)))

pub open_follows : {T : Table} {t u : TypeId} {f : Frame} {fs : List Frame} {types : List Field} {next : ℕ} {z : List ℕ}
    {us : List Event} → OpenStruct T t (f ∷ fs) u types next z us
    → FollowsAll at_start us (before_field next (behind fs))
open_follows (open_struct {fs = fs} w k r) = follows_then (within_follows w)
    (event (a_struct (begins_in fs)) (fields_told_follow r))

pub raw_follows : (fs : List Frame) (k : RawKind) {us ws : List Event} {s : List ℕ} → FollowsAll at_start us (before fs)
    → HasRawEvents s ws → FollowsAll at_start (us ++ raw_start k ∷ ws) (in_raw (behind fs))
raw_follows fs k f t = follows_then f (event (a_raw_part (begins_in fs)) (raw_told_follow t))

-- the parts and raw bytes that are told
abbrev pub told : List Event → ℕ
told us = parts_told us + raw_told us

pub told-append : (us ws : List Event) → told (us ++ ws) ≡ told us + told ws
told-append us ws = omega (arith, parts_told-append us ws, raw_told-append us ws)

value_weighs : {T : Table} {u : TypeId} {v : Tree} {b : List ℕ} {us : List Event} → HasEvents v us → Spells T u v b
    → told us ≤ length b
value_weighs t s = omega (arith, tells_weight t, weight_within s)

pub some : {n : ℕ} {b : List ℕ} → IsUnsigned n b → 0 < length b
some u = (unsigned_length u).0

each_weighs : {T : Table} {e : TypeId} {vs : Trees} {b : List ℕ} {us : List Event} → EachTold T e vs b us
    → told us ≤ length b
each_weighs none_told = omega arith
each_weighs (one_told {b = b} {c = c} {us = us} {ws = ws} s t r) = omega (
  arith,
  told-append us ws,
  length-append b c,
  value_weighs t s,
  each_weighs r,
)

pairs_weigh : {T : Table} {k e : TypeId} {ps : Pairs} {b : List ℕ} {us : List Event} → PairsTold T k e ps b us
    → told us ≤ length b
pairs_weigh no_pair_told = omega arith
pairs_weigh (pair_told {a = a} {b = b} {c = c} {us = us} {ws = ws} {xs = xs} s t p o r) =
    omega (
      arith,
      told-append us (ws ++ xs),
      told-append ws xs,
      length-append a (b ++ c),
      length-append b c,
      value_weighs t s,
      value_weighs o p,
      pairs_weigh r,
    )

fields_weigh : {T : Table} {types : List Field} {start next : ℕ} {fs : Fields} {b : List ℕ} {us : List Event}
    → FieldsTold T types start next fs b us → told us ≤ length b
fields_weigh no_field_told = omega arith
fields_weigh (field_told {f = f} {a = a} {b = b} {c = c} {us = us} {ws = ws} l g n s t r) =
    omega (arith, told-append us ws, length-append a (b ++ c), length-append b c, value_weighs t s, fields_weigh r)

-- a field's delta weighs nothing
some_field_weighs : {T : Table} {types : List Field} {start next : ℕ} {fs : Fields} {b : List ℕ} {us : List Event}
    → FieldsTold T types start next fs b us → start < next → told us + 1 ≤ length b
some_field_weighs no_field_told m = absurd (omega arith)
some_field_weighs (field_told {f = f} {a = a} {b = b} {c = c} {us = us} {ws = ws} l g n s t r) m =
    omega (
      arith,
      told-append us ws,
      length-append a (b ++ c),
      length-append b c,
      value_weighs t s,
      fields_weigh r,
      some n,
    )

raw_weighs : {s : List ℕ} {us : List Event} → HasRawEvents s us → told us ≤ length s
raw_weighs no_bytes = omega arith
raw_weighs (more_bytes {s = s} {us = us} c t) = omega (
  arith,
  told-append us (raw_more c ∷ []),
  length-append s c,
  raw_weighs t,
)

pub within_weighs : {T : Table} {t u : TypeId} {fs : List Frame} {p : List ℕ} {us : List Event} → OpenPath T t fs p us u
    → told us ≤ length p
within_weighs (at_once e i) = omega arith
within_weighs (behind_tag e i) = omega arith
within_weighs (in_list {p = p} {c = c} {b = b} {us = us} {ws = ws} w k l n r m) =
    omega (
      arith,
      told-append us (enter group.Many ∷ ws),
      length-append p (c ++ b),
      length-append c b,
      within_weighs w,
      some n,
      each_weighs r,
    )
within_weighs (at_key {p = p} {c = c} {b = b} {us = us} {ws = ws} w k n r m) =
    omega (
      arith,
      told-append us (enter group.Pairs ∷ ws),
      length-append p (c ++ b),
      length-append c b,
      within_weighs w,
      some n,
      pairs_weigh r,
    )
within_weighs (at_value {p = p} {c = c} {b = b} {a = a} {us = us} {ws = ws} {xs = xs} w k n r m s t) =
    omega (
      arith,
      told-append us (enter group.Pairs ∷ (ws ++ xs)),
      told-append ws xs,
      length-append p (c ++ (b ++ a)),
      length-append c (b ++ a),
      length-append b a,
      within_weighs w,
      some n,
      pairs_weigh r,
      value_weighs t s,
    )
within_weighs (in_field {p = p} {a = a} {b = b} {us = us} {ws = ws} {f = f} w k r l m g n) =
    omega (
      arith,
      told-append us (enter group.Fields ∷ (ws ++ field f ∷ [])),
      told-append ws (field f ∷ []),
      length-append p (a ++ b),
      length-append a b,
      within_weighs w,
      some n,
      fields_weigh r,
    )

pub completed_weighs : {T : Table} {t : TypeId} {fs : List Frame} {z : List ℕ} {us : List Event} → PartDone T t fs z us
    → told us ≤ length z
completed_weighs {z = z} {us = us} c = from c.before c.bytes c.told_before c.told c.whole c.event
    (within_weighs c.within) (value_weighs c.tells c.spelled)
  where
    from : (p b : List ℕ) (vs ws : List Event) → z ≡ p ++ b → us ≡ vs ++ ws → told vs ≤ length p → told ws ≤ length b
        → told us ≤ length z
    from p b vs ws e f l m = subst (λ us. told us ≤ length z) (sym f) (subst (λ z. told (vs ++ ws) ≤ length z) (sym e)
        (omega (arith, told-append vs ws, length-append p b)))

-- its beginning is paid by the first delta
pub open_weighs : {T : Table} {t u : TypeId} {fs : List Frame} {types : List Field} {next : ℕ} {z : List ℕ}
    {us : List Event} → OpenStruct T t fs u types next z us → told us ≤ length z + 1
open_weighs (open_struct {p = p} {a = a} {us = us} {ws = ws} w k r) =
    omega (arith, told-append us (enter group.Fields ∷ ws), length-append p a, within_weighs w, fields_weigh r)

pub some_open_weighs : {T : Table} {t u : TypeId} {fs : List Frame} {types : List Field} {next : ℕ} {z : List ℕ}
    {us : List Event} → OpenStruct T t fs u types next z us → 0 < next → told us ≤ length z
some_open_weighs (open_struct {p = p} {a = a} {us = us} {ws = ws} w k r) m =
    omega (arith, told-append us (enter group.Fields ∷ ws), length-append p a, within_weighs w, some_field_weighs r m)

pub raw_open_weighs : {n : ℕ} {c r : List ℕ} {ws : List Event} (p : List ℕ) (us : List Event) (k : RawKind)
    → told us ≤ length p → IsUnsigned n c → HasRawEvents r ws → told (us ++ raw_start k ∷ ws) ≤ length (p ++ c) + length
    r
raw_open_weighs {c = c} {ws = ws} p us k l n t = omega (
  arith,
  told-append us (raw_start k ∷ ws),
  length-append p c,
  some n,
  raw_weighs t,
)

-- a builder that has received well formed events can be told one that follows
pub can_tell : {B : Type 0} {received : B → List Event → Type 0} {builder : B} (us : List Event) (t : Event)
    {p q : Place} → received builder us → FollowsAll at_start us p → Follows p t q → told us + told (t ∷ []) < 2 ^ 64
    → MayTakeEvent received builder t
can_tell us t h f s l = record {
  told = us;
  so_far = h;
  well_formed = formed_more f s;
  room =
      record { room = omega (arith, told-append us (t ∷ []), l) };
}
