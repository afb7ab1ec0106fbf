-- A value's events are well formed wherever a part may begin, and so is each prefix of well formed ones.
use Rattle.std.proofs.lemmas.List.{set-get_or, set_split, map-append}
use Rattle.std.proofs.Common.{suc, ◌<◌, length, get_or, take, drop, map, ap, sym, ◌∙◌, append_assoc, ◌≡◌, ℕ, ◌≤◌, Bool}
use Rattle.std.proofs.Common.{true, false, List, [], ◌∷◌, ◌++◌, arith, refl}
use Rattle.gob_types.specs.declared.id.TypeId.{TypeId}
use Rattle.gob_types.specs.declared.kind.Field.{Field}
use Rattle.gob_types.specs.Table.{Table}
use Rattle.gob_value.specs.Tree.{Tree, Trees, Pairs, Fields}
use Rattle.gob_value.specs.Spelling.{Spells, of_type, of_slice, of_array, of_map, of_struct, SpellsEach, element}
use Rattle.gob_value.specs.Spelling.{SpellsPairs, entry, SpellsFields, next_field, truth}
use Rattle.gob_read.specs.Event.{Event, leave, HasRawEvents, no_bytes, more_bytes, HasEvents, tell_bool}
use Rattle.gob_read.specs.Event.{tell_not_negative, tell_negative, tell_uint, tell_float, tell_complex, tell_nil}
use Rattle.gob_read.specs.Event.{tell_bytes, tell_text, tell_opaque, tell_many, tell_pairs, tell_fields, HaveEvents}
use Rattle.gob_read.specs.Event.{tell_none, tell_each, PairsHaveEvents, tell_no_pair, tell_pair, FieldsHaveEvents}
use Rattle.gob_read.specs.Event.{tell_no_field, tell_field}
use Rattle.gob_read.specs.Building.{HasRoomFor, MayTakeEvent}
use Rattle.gob_read.proofs.Events.CountLaws.{prefix_room}
use Rattle.gob_read.specs.WellFormed.{Place, at_start, at_end, in_raw, in_many, before_key, before_field, BeginsPlace}
use Rattle.gob_read.specs.WellFormed.{whole_value, an_element, a_key, its_element, a_field, of_bool, of_int, of_uint}
use Rattle.gob_read.specs.WellFormed.{of_float, of_complex, of_nil, Follows, a_number, a_raw_part, raw_bytes, a_list}
use Rattle.gob_read.specs.WellFormed.{a_map, a_struct, a_number_of_field, end_of_raw, end_of_list, end_of_map}
use Rattle.gob_read.specs.WellFormed.{end_of_struct, FollowsAll, no_event, event, IsWellFormed}

pub follows_then : {p q r : Place} {us ws : List Event} → FollowsAll p us q → FollowsAll q ws r
    → FollowsAll p (us ++ ws) r
follows_then no_event g = g
follows_then (event t f) g = event t (follows_then f g)

-- where a prefix of the events leads, and the rest goes on
pub record Parted (p r : Place) (us ws : List Event) : Type 0 where
  pub place : Place
  pub prefix : FollowsAll p us place
  pub rest : FollowsAll place ws r

pub follows_parted : (us ws : List Event) {p r : Place} → FollowsAll p (us ++ ws) r → Parted p r us ws
follows_parted [] ws f = record { place = _; prefix = no_event; rest = f }
follows_parted (t ∷ us) ws (event s f) = let x = follows_parted us ws f in
    record { place = x.place; prefix = event s x.prefix; rest = x.rest }

-- a prefix of a well formed list is well formed
pub prefix_formed : (us ws : List Event) → IsWellFormed (us ++ ws) → IsWellFormed us
prefix_formed us ws f = let x = follows_parted us ws f.follows in record { place = x.place; follows = x.prefix }

-- one more event
pub formed_more : {p q : Place} {us : List Event} {t : Event} → FollowsAll at_start us p → Follows p t q
    → IsWellFormed (us ++ t ∷ [])
formed_more f s = record { place = _; follows = follows_then f (event s no_event) }

truth_follows : (b : Bool) → truth b ≤ 1
truth_follows false = omega arith
truth_follows true = omega arith

raw_follows : {s : List ℕ} {us : List Event} {p : Place} → HasRawEvents s us → FollowsAll (in_raw p) us (in_raw p)
raw_follows no_bytes = no_event
raw_follows (more_bytes c t) = follows_then (raw_follows t) (event raw_bytes no_event)

-- an open part, from behind its beginning to behind its end
ended : {p q r : Place} {us : List Event} {t : Event} → Follows p t q → FollowsAll q us r → {s : Place}
    → Follows r leave s → FollowsAll p ((t ∷ us) ++ leave ∷ []) s
ended b f e = event b (follows_then f (event e no_event))

-- the present fields lead to a struct with some next number
pub record FieldsFollow (next : ℕ) (p : Place) (us : List Event) : Type 0 where
  pub above : ℕ
  pub follows : FollowsAll (before_field next p) us (before_field above p)

mutual
  -- the events of a value that a type has
  pub tells_follows : {T : Table} {t : TypeId} {v : Tree} {b : List ℕ} {us : List Event} {p q : Place} → HasEvents v us
      → Spells T t v b → BeginsPlace p q → FollowsAll p us q
  tells_follows (tell_bool {b = b}) s h = event (a_number h (of_bool (truth_follows b))) no_event
  tells_follows tell_not_negative s h = event (a_number h of_int) no_event
  tells_follows tell_negative s h = event (a_number h of_int) no_event
  tells_follows tell_uint s h = event (a_number h of_uint) no_event
  tells_follows tell_float s h = event (a_number h of_float) no_event
  tells_follows tell_complex s h = event (a_number h of_complex) no_event
  tells_follows tell_nil s h = event (a_number h of_nil) no_event
  tells_follows (tell_bytes t) s h = ended (a_raw_part h) (raw_follows t) end_of_raw
  tells_follows (tell_text t) s h = ended (a_raw_part h) (raw_follows t) end_of_raw
  tells_follows (tell_opaque t) s h = ended (a_raw_part h) (raw_follows t) end_of_raw
  tells_follows (tell_many t) (of_type k (of_slice n s)) h = ended (a_list h) (each_follows t s) end_of_list
  tells_follows (tell_many t) (of_type k (of_array m n s)) h = ended (a_list h) (each_follows t s) end_of_list
  tells_follows (tell_pairs t) (of_type k (of_map n s)) h = ended (a_map h) (pairs_follow t s) end_of_map
  tells_follows (tell_fields t) (of_type k (of_struct s)) h = let x = fields_follow t s in
      ended (a_struct h) x.follows end_of_struct

  each_follows : {T : Table} {e : TypeId} {vs : Trees} {b : List ℕ} {us : List Event} {p : Place} → HaveEvents vs us
      → SpellsEach T e vs b → FollowsAll (in_many p) us (in_many p)
  each_follows tell_none s = no_event
  each_follows (tell_each t ts) (element s ss) = follows_then (tells_follows t s an_element) (each_follows ts ss)

  pairs_follow : {T : Table} {k e : TypeId} {ps : Pairs} {b : List ℕ} {us : List Event} {p : Place}
      → PairsHaveEvents ps us → SpellsPairs T k e ps b → FollowsAll (before_key p) us (before_key p)
  pairs_follow tell_no_pair s = no_event
  pairs_follow (tell_pair t u ts) (entry s r ss) = follows_then (tells_follows t s a_key)
      (follows_then (tells_follows u r its_element) (pairs_follow ts ss))

  fields_follow : {T : Table} {types : List Field} {next : ℕ} {fs : Fields} {b : List ℕ} {us : List Event} {p : Place}
      → FieldsHaveEvents fs us → SpellsFields T types next fs b → FieldsFollow next p us
  fields_follow tell_no_field s = record { above = _; follows = no_event }
  fields_follow (tell_field t ts) (next_field l g n s ss) =
      let x = fields_follow ts ss in
      record {
        above = x.above;
        follows = event (a_number_of_field l refl) (follows_then (tells_follows t s a_field)
            x.follows);
      }

-- the events of a whole value
pub value_formed : {T : Table} {t : TypeId} {v : Tree} {b : List ℕ} {us : List Event} → Spells T t v b → HasEvents v us
    → IsWellFormed us
value_formed s t = record { place = at_end; follows = tells_follows t s whole_value }

-- a builder that has received a prefix of a well formed list may be told of what follows
pub can_tell : {B : Type 0} (received : B → List Event → Type 0) (builder : B) (us ws : List Event) (t : Event)
    → received builder us → IsWellFormed ((us ++ t ∷ []) ++ ws) → HasRoomFor ((us ++ t ∷ []) ++ ws)
    → MayTakeEvent received builder t
can_tell received builder us ws t s f r = record {
  told = us;
  so_far = s;
  well_formed = prefix_formed (us ++ t ∷ []) ws
      f;
  room = prefix_room (us ++ t ∷ []) ws r;
}

-- a list seen by its items, parted behind one of them
pub parted_at : {A : Type 0} (f : A → Event) (xs : List A) (i : ℕ) (d : A) → i < length xs
    → map f xs ≡ (map f (take i xs) ++ f (get_or xs i d) ∷ []) ++ map f (drop (suc i) xs)
parted_at f xs i d h =
    let x = get_or xs i d in
    ap (map f) (sym (set-get_or xs i d) ∙ set_split xs i x h) ∙ map-append f (take i xs) (x ∷ drop (suc i) xs)
    ∙ sym (append_assoc (map f (take i xs)) (f x ∷ []) (map f (drop (suc i) xs)))
