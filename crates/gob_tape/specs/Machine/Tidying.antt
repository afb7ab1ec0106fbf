-- A tape that is tidied: what a builder is told of the tidy form, as the nodes are gone over one after another.
-- (docs/LIBRARY.md, Tapes; docs/FORMAT.md, Tidy form.)
use Rattle.std.specs.Prelude.{◌≡◌, ◌≢◌, ℕ, ◌+◌, ◌<◌, ◌≤◌, ◌^◌, List, [], ◌∷◌, ◌++◌, Option, Some, None, length, take}
use Rattle.std.specs.Prelude.{drop, slice_get}
use Rattle.gob_types.specs.declared.basic.Basic.TheVariants as basic
use Rattle.gob_types.specs.declared.id.TypeId.{TypeId}
use Rattle.gob_types.specs.declared.kind.Field.{Field}
use Rattle.gob_types.specs.declared.kind.Kind.{Kind}
use Rattle.gob_types.specs.declared.kind.Kind.TheVariants as kind
use Rattle.gob_types.specs.declared.kind.Shape.{Shape}
use Rattle.gob_types.specs.Table.{Table, shape_of}
use Rattle.gob_value.specs.Tree.{Tree, Trees, no_tree, tree, Pairs, no_pair, pair, Fields, no_field}
use Rattle.gob_value.specs.Tree as Value
use Rattle.gob_value.specs.Spelling.{truth}
use Rattle.gob_value.specs.Tidy.{IsDropped, Tidies, TidiesAs}
use Rattle.gob_value.specs.TidyLaws.{HasSmallNumbers}
use Rattle.gob_read.specs.declared.event.RawKind.TheVariants as raw
use Rattle.gob_read.specs.declared.event.GroupKind.TheVariants as group
use Rattle.gob_read.specs.Event.{Event, number, raw_start, raw_more, enter, field, leave}
use Rattle.gob_tape.specs.declared.node.Content.{Content}
use Rattle.gob_tape.specs.declared.node.Content.TheVariants as content
use Rattle.gob_tape.specs.declared.node.Node.{Node}
use Rattle.gob_tape.specs.declared.tidying.Open.{Open}
use Rattle.gob_tape.specs.declared.tidying.Types.{Types}
use Rattle.gob_tape.specs.declared.tidying.Types.TheVariants as types
use Rattle.gob_tape.specs.Meaning.{MeansAt}
use Rattle.gob_tape.specs.Seeing.{unsigned_of}
use Rattle.gob_tape.specs.Machine.State.{State}
use Rattle.gob_tape.specs.Machine.Received.{TapeGoesOn, IsTapeOf}

-- what a builder is told of a value, the raw bytes of each part in one piece
abbrev mutual
  pub events : Tree → List Event
  events (Value.bool b) = number basic.Bool (truth b) 0 ∷ []
  events (Value.int i) = number basic.Int (unsigned_of i) 0 ∷ []
  events (Value.uint n) = number basic.Uint n 0 ∷ []
  events (Value.float p) = number basic.Float p 0 ∷ []
  events (Value.complex p q) = number basic.Complex p q ∷ []
  events (Value.bytes s) = raw_start raw.Bytes ∷ (raw_more s ∷ (leave ∷ []))
  events (Value.text s) = raw_start raw.Str ∷ (raw_more s ∷ (leave ∷ []))
  events (Value.opaque s) = raw_start raw.Opaque ∷ (raw_more s ∷ (leave ∷ []))
  events Value.nil = number basic.Interface 0 0 ∷ []
  events (Value.many vs) = enter group.Many ∷ (each_told vs ++ leave ∷ [])
  events (Value.pairs ps) = enter group.Pairs ∷ (pairs_told ps ++ leave ∷ [])
  events (Value.fields fs) = enter group.Fields ∷ (fields_told fs ++ leave ∷ [])

  pub each_told : Trees → List Event
  each_told no_tree = []
  each_told (tree v vs) = events v ++ each_told vs

  pub pairs_told : Pairs → List Event
  pairs_told no_pair = []
  pairs_told (pair k e ps) = events k ++ (events e ++ pairs_told ps)

  pub fields_told : Fields → List Event
  fields_told no_field = []
  fields_told (Value.field f v fs) = field f ∷ (events v ++ fields_told fs)

-- of the number of a part, and of the beginning of a part with this content
abbrev pub name_told : Option ℕ → List Event
name_told None = []
name_told (Some f) = field f ∷ []

abbrev pub content_told : List ℕ → Content → List Event
content_told pool (content.Number k a b) = number k a b ∷ []
content_told pool (content.Raw k start count) = raw_start k ∷ (raw_more (take count (drop start pool)) ∷ (leave ∷ []))
content_told pool (content.Group k count extent) = enter k ∷ []

-- ---- what is dropped

-- a part with this content is false, 0 or without bytes
abbrev pub IsZeroContent : Content → Type 0
IsZeroContent (content.Number basic.Bytes a b) = ⊥
IsZeroContent (content.Number basic.Str a b) = ⊥
IsZeroContent (content.Number basic.Interface a b) = ⊥
IsZeroContent (content.Number _ a b) = (a ≡ 0) × (b ≡ 0)
IsZeroContent (content.Raw raw.Opaque start count) = ⊥
IsZeroContent (content.Raw _ start count) = count ≡ 0
IsZeroContent (content.Group k count extent) = ⊥

-- a struct drops a part of this kind with this content
abbrev pub IsDroppedContent : Kind → Content → Type 0
IsDroppedContent (kind.Basic b) c = IsZeroContent c
IsDroppedContent (kind.Slice e) (content.Group group.Many count extent) = count ≡ 0
IsDroppedContent _ _ = ⊥

-- it stays
abbrev pub IsKeptPart : Option ℕ → Kind → Content → Type 0
IsKeptPart f k c = (n : ℕ) → f ≡ Some n → ¬ IsDroppedContent k c

-- its raw bytes are in the pool
abbrev pub IsPooled : List ℕ → Content → Type 0
IsPooled pool (content.Raw k start count) = start + count ≤ length pool
IsPooled pool c = Unit {0}

-- ---- the open parts, innermost first

abbrev pub open_to : ℕ → Types → Open
open_to end ts = record { end = end; types = ts }

abbrev pub innermost : List Open → Option Open
innermost [] = None
innermost (o ∷ os) = Some o

-- the field of this number in the struct of the type has this type
pub data HasFieldType (T : Table) : TypeId → ℕ → TypeId → Type 0 where
  has_field : {t : TypeId} {f : ℕ} {s : Shape} {fields : List Field} {e : Field} → shape_of T t ≡ Some s
      → s.kind ≡ kind.Struct fields
      → slice_get fields f ≡ Some e → HasFieldType T t f e.id

-- the next part has this type, where the whole value has the first
pub data IsNextType (T : Table) (t : TypeId) : Option Open → Option ℕ → TypeId → Type 0 where
  the_whole : IsNextType T t None None t
  an_element : {end : ℕ} {e : TypeId} → IsNextType T t (Some (open_to end (types.Elements e))) None e
  a_key_or_element : {end : ℕ} {a b : TypeId} → IsNextType T t (Some (open_to end (types.Alternating a b))) None a
  a_field : {end f : ℕ} {r e : TypeId} → HasFieldType T r f e → IsNextType T t (Some (open_to end (types.Fields r)))
      (Some f) e

-- one more than the number of the part, where it is a field, has 64 bits
abbrev pub HasSmallNumber : Node → Type 0
HasSmallNumber x = (f : ℕ) → x.field ≡ Some f → f + 1 < 2 ^ 64

-- a part has begun in the innermost
abbrev pub turned : Types → Types
turned (types.Alternating a b) = types.Alternating b a
turned ts = ts

abbrev pub advanced : List Open → List Open
advanced [] = []
advanced (o ∷ os) = open_to o.end (turned o.types) ∷ os

-- the types of the parts in a part of this kind and type
abbrev pub types_in : Kind → TypeId → Option Types
types_in (kind.Array e n) t = Some (types.Elements e)
types_in (kind.Slice e) t = Some (types.Elements e)
types_in (kind.Map k e) t = Some (types.Alternating k e)
types_in (kind.Struct fields) t = Some (types.Fields t)
types_in _ t = None

abbrev pub entered_as : ℕ → Option Types → List Open → List Open
entered_as end None os = os
entered_as end (Some ts) os = open_to end ts ∷ os

-- the open parts behind the beginning of a part
abbrev pub entered_open : ℕ → Content → Kind → TypeId → List Open → List Open
entered_open i (content.Group k count extent) of t os = entered_as (i + extent) (types_in of t) os
entered_open i c of t os = os

-- the end of the part can be counted
abbrev pub HasOpenEnd : ℕ → Content → Type 0
HasOpenEnd i (content.Group k count extent) = i + extent < 2 ^ 64
HasOpenEnd i c = Unit {0}

-- the beginning of a part that stays was told
pub record Entered (i : ℕ) (x : Node) (k : Kind) (t : TypeId) (pool : List ℕ) (before after : List Open)
    (old new : State) : Type 0 where
  pub opens : HasOpenEnd i x.content → after ≡ entered_open i x.content k t before
  pub stands : TapeGoesOn old new (name_told x.field ++ content_told pool x.content)

-- the part was told as far as its beginning, unless a struct drops it
pub record PartHasEvents (i : ℕ) (x : Node) (k : Kind) (t : TypeId) (pool : List ℕ) (before after : List Open)
    (old new : State) : Type 0 where
  pub drops : (f : ℕ) → x.field ≡ Some f → IsDroppedContent k x.content → (after ≡ before) × (new ≡ old)
  pub keeps : IsKeptPart x.field k x.content → IsPooled pool x.content → Entered i x k t pool before after old new

-- ---- what is left to tell

-- of the parts with these types that the nodes from the first place up to the second are
pub data Due (T : Table) (nodes : List Node) (pool : List ℕ) : ℕ → ℕ → Types → List Event → Type 0 where
  none_due : {i : ℕ} {ts : Types} → Due T nodes pool i i ts []
  element : {i j k : ℕ} {e : TypeId} {v w : Tree} {us : List Event} → MeansAt nodes pool i j None v → Tidies T e v w
      → Due T nodes pool j k (types.Elements e) us → Due T nodes pool i k (types.Elements e) (events w ++ us)
  key_or_element : {i j k : ℕ} {a b : TypeId} {v w : Tree} {us : List Event} → MeansAt nodes pool i j None v
      → Tidies T a v w
      → Due T nodes pool j k (types.Alternating b a) us → Due T nodes pool i k (types.Alternating a b)
      (events w ++ us)
  dropped : {i j k f : ℕ} {r e : TypeId} {s : Shape} {v : Tree} {us : List Event}
      → MeansAt nodes pool i j (Some f) v → HasFieldType T r f e → shape_of T e ≡ Some s
      → IsDropped s.kind v → Due T nodes pool j k (types.Fields r) us → Due T nodes pool i k (types.Fields r) us
  kept : {i j k f : ℕ} {r e : TypeId} {s : Shape} {v w : Tree} {us : List Event}
      → MeansAt nodes pool i j (Some f) v → HasFieldType T r f e → shape_of T e ≡ Some s
      → ¬ IsDropped s.kind v → TidiesAs T s.kind v w → Due T nodes pool j k (types.Fields r) us
      → Due T nodes pool i k (types.Fields r) (field f ∷ (events w ++ us))

-- from a place on, in these open parts; the whole value has this type
pub data Left (T : Table) (t : TypeId) (nodes : List Node) (pool : List ℕ) : ℕ → List Open → List Event → Type 0 where
  at_end : {i : ℕ} → i ≡ length nodes → Left T t nodes pool i [] []
  at_start : {i : ℕ} {v w : Tree} → MeansAt nodes pool i (length nodes) None v → Tidies T t v w
      → Left T t nodes pool i [] (events w)
  in_part : {i j : ℕ} {ts : Types} {os : List Open} {us ws : List Event} → Due T nodes pool i j ts us
      → Left T t nodes pool j os ws
      → Left T t nodes pool i (open_to j ts ∷ os) (us ++ leave ∷ ws)

-- some node of the innermost part is still to come
abbrev pub IsInsideOpen : ℕ → List Open → Type 0
IsInsideOpen i [] = Unit {0}
IsInsideOpen i (o ∷ os) = i < o.end

-- from one place to the next, this was told
pub record TidyGoes (T : Table) (t : TypeId) (nodes : List Node) (pool : List ℕ) (i : ℕ) (after : List Open)
    (old new : State) (due : List Event) : Type 0 where
  pub told : List Event
  pub left : List Event
  pub splits : due ≡ told ++ left
  pub stands : TapeGoesOn old new told
  pub inside : IsInsideOpen (i + 1) after
  pub more : Left T t nodes pool (i + 1) after left
  pub small : (x : Node) → slice_get nodes i ≡ Some x → HasSmallNumber x

-- the ends of the parts whose nodes end at this place
pub data TidyEnds (i : ℕ) : List Open → List Event → List Open → Type 0 where
  none_ends : {os : List Open} → ((o : Open) (rest : List Open) → os ≡ o ∷ rest → o.end ≢ i) → TidyEnds i os [] os
  one_ends : {o : Open} {os after : List Open} {us : List Event} → o.end ≡ i → TidyEnds i os us after
      → TidyEnds i (o ∷ os) (leave ∷ us) after

pub record TidyEnded (i : ℕ) (before after : List Open) (old new : State) : Type 0 where
  pub told : List Event
  pub ends : TidyEnds i before told after
  pub stands : TapeGoesOn old new told

-- some of them
pub record TidyEnding (i : ℕ) (before now : List Open) (old new : State) : Type 0 where
  pub told : List Event
  pub completes : (us : List Event) (after : List Open) → TidyEnds i now us after → TidyEnds i before (told ++ us) after
  pub stands : TapeGoesOn old new told

-- the nodes before this place are told of: of each value that they all mean, with its tidy form
pub record TidyUpTo (T : Table) (t : TypeId) (nodes : List Node) (pool : List ℕ) (i : ℕ) (os : List Open) (now : State)
    (due : List Event) : Type 0 where
  pub told : List Event
  pub left : List Event
  pub splits : due ≡ told ++ left
  pub stands : IsTapeOf now told
  pub inside : IsInsideOpen i os
  pub more : Left T t nodes pool i os left
  pub small : (k : ℕ) (x : Node) → k < i → slice_get nodes k ≡ Some x → HasSmallNumber x

abbrev pub TidyReaches : Table → TypeId → List Node → List ℕ → ℕ → List Open → State → Type 0
TidyReaches T t nodes pool i os now = (v w : Tree) → MeansAt nodes pool 0 (length nodes) None v → Tidies T t v w
    → TidyUpTo T t nodes pool i os now (events w)

-- all of the tidy form was told, and the numbers of all fields are small
pub record TakesEvents (v w : Tree) (now : State) : Type 0 where
  pub stands : IsTapeOf now (events w)
  pub small : HasSmallNumbers v
