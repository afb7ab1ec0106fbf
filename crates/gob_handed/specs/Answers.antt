-- What the calls of a reader answer, each in one word, in any grammar of items.
use Rattle.std.specs.Prelude.{◌≡◌, ℕ, ◌+◌, ◌^◌, ◌<◌, ◌≤◌, ◌-◌, List, [], length, min, take, drop, slice_get}
use Rattle.std.specs.Prelude.{Some, IsSome, IfOk, Result, Err, OnErr}
use Rattle.gob_types.specs.Table.{shape_of}
use Rattle.gob_types.specs.declared.id.TypeId.{TypeId}
use Rattle.gob_types.specs.declared.reason.Reason.TheVariants as reason
use Rattle.gob_tape.specs.declared.flat.FlatNode.{FlatNode}
use Rattle.gob_stream.specs.Bounds.{Bounds}
use Rattle.gob_stream.specs.Honest.{OfRefusal}
use Rattle.gob_stream.specs.Stepping.{FinishAnswersBy, Stepping}
use Rattle.gob_stream.specs.declared.fault.Fault.{Fault}
use Rattle.gob_stream.specs.declared.fault.Fault.TheVariants as fault
use Rattle.gob_handed.specs.Definition.{shape_nodes, shape_bytes}
use Rattle.gob_handed.specs.Handed.{AreHanded, IsWithin, handout_nodes, handout_bytes}
use Rattle.gob_handed.specs.Reading.{FeedsBy, Handouts, HasReadTo}
use Rattle.gob_handed.specs.Waiting.{begin_of, session_of, types_in, waiting}
use Rattle.gob_handed.specs.declared.handout.Handout.{Handout}
use Rattle.gob_handed.specs.declared.head.HandedOut.{HandedOut}
use Rattle.gob_handed.specs.declared.head.Head.{Head}
use Rattle.gob_handed.specs.declared.reader.Reader.{Reader}

-- the reader has taken no byte, and keeps to these limits
pub record IsNew {X I Told : Type 0} (d : Stepping X I Told) (limits : Bounds) (reader : Reader X I) : Type 0 where
  pub has_read : HasReadTo d reader [] []
  pub limits_are : d.limits (session_of reader) ≡ limits
  pub front : begin_of reader ≡ 0
  pub none_waits : waiting reader ≡ []

-- it took the piece
pub record Feeds {X I Told : Type 0} (d : Stepping X I Told) (handouts : Handouts I) (old new : Reader X I)
    (piece : List ℕ) (answer : Result (Unit {0}) Fault) : Type 0 where
  pub fed : (items : List Told) (bytes : List ℕ) → HasReadTo d old items bytes
      → FeedsBy d handouts old new items bytes piece answer
  pub shown : (items : List Told) (bytes : List ℕ) → HasReadTo d old items bytes
      → OfRefusal (λ refusal. length bytes < refusal.seen) answer
  pub failed : OnErr answer (d.failed (session_of new))
  pub stays : d.failed (session_of old) → (answer ≡ Err fault.Failed) × (new ≡ old)
  pub limits : d.limits (session_of new) ≡ d.limits (session_of old)

-- no byte follows
pub record Finishes {X I Told : Type 0} (d : Stepping X I Told) (old new : Reader X I)
    (answer : Result (Unit {0}) Fault) : Type 0 where
  pub finished : (items : List Told) (bytes : List ℕ) (h : HasReadTo d old items bytes)
      → FinishAnswersBy d (d.behind (session_of old) items bytes h.gave) (session_of old) (session_of new) items bytes
      answer
  pub whole : (items : List Told) (bytes : List ℕ) → HasReadTo d old items bytes → IfOk answer (λ _. new ≡ old)
  pub ended : (items : List Told) (bytes : List ℕ) → HasReadTo d old items bytes
      → OfRefusal (λ refusal. refusal.reason ≡ reason.Ended) answer
  pub failed : OnErr answer (d.failed (session_of new))
  pub stays : d.failed (session_of old) → (answer ≡ Err fault.Failed) × (new ≡ old)
  pub begin : begin_of new ≡ begin_of old
  pub kept : waiting new ≡ waiting old
  pub types : d.table (session_of new) ≡ d.table (session_of old)
  pub limits : d.limits (session_of new) ≡ d.limits (session_of old)

-- so much of the room there is for heads, nodes and bytes, and these stand in it now
pub record Room : Type 0 where
  pub heads : List Head
  pub nodes : List FlatNode
  pub pool : List ℕ

-- what waited was handed out, as much as there is room for, and this is told of it
pub record Takes {X I Told : Type 0} (d : Stepping X I Told) (old new : Reader X I) (before after : Room)
    (told : HandedOut) : Type 0 where
  pub handed : AreHanded (types_in d old) (take told.items (waiting old)) (take told.items after.heads)
      (take told.nodes after.nodes) (take told.bytes after.pool)
  pub room : (h : Handout) → slice_get (waiting old) told.items ≡ Some h → told.items < length before.heads
      → told.nodes + length (handout_nodes (types_in d old) h) ≤ length before.nodes
      → told.bytes + length (handout_bytes (types_in d old) h) ≤ length before.pool → ⊥
  pub next : (h : Handout) → slice_get (waiting old) told.items ≡ Some h
      → (told.next_nodes ≡ length (handout_nodes (types_in d old) h))
      × (told.next_bytes ≡ min (length (handout_bytes (types_in d old) h)) (2 ^ 64 - 1))
  pub count : told.items ≤ length (waiting old)
  pub within : IsWithin told (length before.heads) (length before.nodes) (length before.pool)
  pub left : told.waiting ≡ length (waiting new)
  pub session : session_of new ≡ session_of old
  pub begin : begin_of new ≡ begin_of old
  pub kept : waiting new ≡ drop told.items (waiting old)

-- the definition of the type was handed out, where there is one and room for it, and this is told of it
pub record Shapes {X I Told : Type 0} (d : Stepping X I Told) (reader : Reader X I) (id : TypeId)
    (room room' : List FlatNode) (pool pool' : List ℕ) (told : HandedOut) : Type 0 where
  pub nodes : 0 < told.items → take told.nodes room' ≡ shape_nodes (shape_of (types_in d reader) id)
  pub bytes : 0 < told.items → take told.bytes pool' ≡ shape_bytes (shape_of (types_in d reader) id)
  pub found : 0 < told.items → IsSome (shape_of (types_in d reader) id)
  pub within : IsWithin told 1 (length room) (length pool)
  pub fits : IsSome (shape_of (types_in d reader) id)
      → length (shape_nodes (shape_of (types_in d reader) id)) ≤ length room
      → length (shape_bytes (shape_of (types_in d reader) id)) ≤ length pool → told.items ≡ 1
  pub known : IsSome (shape_of (types_in d reader) id) → (told.waiting ≡ 1)
      × (told.next_nodes ≡ length (shape_nodes (shape_of (types_in d reader) id)))
      × (told.next_bytes ≡ min (length (shape_bytes (shape_of (types_in d reader) id))) (2 ^ 64 - 1))
  pub unknown : 0 < told.waiting → IsSome (shape_of (types_in d reader) id)
