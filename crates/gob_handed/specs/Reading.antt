-- What a reader has read, and what its calls answer, in any grammar of items. `handouts` says what is handed out of an
-- item, by the types behind it.
use Rattle.std.specs.Prelude.{◌≡◌, ℕ, ◌≤◌, List, [], ◌∷◌, ◌++◌, length, take, Result, Ok, Err}
use Rattle.std.specs.Prelude.{Option, None, Some}
use Rattle.gob_types.specs.Defined.{types}
use Rattle.gob_types.specs.Table.{Table}
use Rattle.gob_stream.specs.Bounds.{AreLimits, Bounds, deepest}
use Rattle.gob_stream.specs.Grammar.{GivesIn, RefusesIn}
use Rattle.gob_stream.specs.Item.{StreamItem}
use Rattle.gob_stream.specs.Stepping.{IsNextBy, Stepping}
use Rattle.gob_stream.specs.declared.fault.Fault.{Fault}
use Rattle.gob_stream.specs.declared.fault.Fault.TheVariants as fault
use Rattle.gob_stream.specs.declared.fault.Refusal.{Refusal}
use Rattle.gob_types.specs.declared.id.TypeId.{TypeId}
use Rattle.gob_handed.specs.Unfolded.{handout}
use Rattle.gob_handed.specs.Waiting.{begin_of, session_of, types_in, waiting}
use Rattle.gob_handed.specs.declared.handout.Content.{Content}
use Rattle.gob_handed.specs.declared.reader.Reader.{Reader}
use Rattle.gob_handed.specs.declared.handout.Span.{Span}
use Rattle.gob_handed.specs.declared.handout.Handout.{Handout}

-- what is handed out of an item, which stands there
abbrev pub Handouts : Type 0 → Type 1
Handouts I = Table → I → Span → List Handout → Type 0

-- the first of the bytes, so many, are those of the items: a session that had read them was between two items, and
-- these were its types
pub record EndAt {X I Told : Type 0} (d : Stepping X I Told) (items : List Told) (bytes : List ℕ) (end : ℕ)
    (T : Table) : Type 0 where
  pub session : X
  pub prefix : List ℕ
  pub rest : List ℕ
  pub read : d.read session items prefix
  pub between : d.between session
  pub whole : bytes ≡ prefix ++ rest
  pub end_is : end ≡ length prefix
  pub types_are : T ≡ types (d.table session)

-- these handouts are handed out of the items of the bytes that follow the first ones, and with them these are all: each
-- item stands from where the one before ends, the first from `begin` on, the last up to `end`
pub data AreUnfolded {X I Told : Type 0} (d : Stepping X I Told) (handouts : Handouts I) (bytes : List ℕ)
    (first : List Told) (begin : ℕ) : List Handout → (all : List Told) → (end : ℕ) → Type 0 where
  none_unfolded : AreUnfolded d handouts bytes first begin [] first begin
  one_more : {us vs : List Handout} {all : List Told} {middle end : ℕ} {T : Table} (i : Told) (given : I)
      → AreUnfolded d handouts bytes first begin us all middle → EndAt d (all ++ i ∷ []) bytes end T
      → d.means T given i → handouts T given (record { begin = middle; end = end }) vs
      → AreUnfolded d handouts bytes first begin (us ++ vs) (all ++ i ∷ []) end

-- it has read the items of these bytes, and knows how many bytes they are
pub record HasReadTo {X I Told : Type 0} (d : Stepping X I Told) (r : Reader X I) (items : List Told) (bytes : List ℕ)
    : Type 0 where
  pub gave : d.read (session_of r) items bytes
  pub taken_are : d.taken (session_of r) ≡ length bytes
  pub offset_is : r.offset ≡ length bytes
  pub allowed : AreLimits deepest (d.limits (session_of r))

-- the bytes are refused behind the items whatever follows, and these are the types where they lead
pub record RefusesBehind {X I Told : Type 0} (d : Stepping X I Told) (L : Bounds) (items : List Told)
    (bytes : List ℕ) (R : Refusal) (U : Table) : Type 0 where
  pub table : Table
  pub refuses : (rest : List ℕ) → RefusesIn d.grammar (d.within L) table items (bytes ++ rest) R
  pub leads : d.leads (d.within L) bytes items U

-- the first of the bytes give the items, and one more at most
pub record GivesOfFirst {X I Told : Type 0} (d : Stepping X I Told) (L : Bounds) (items : List Told) (bytes : List ℕ)
    : Type 0 where
  pub more : List Told
  pub few : length more ≤ 1
  pub prefix : List ℕ
  pub rest : List ℕ
  pub whole : bytes ≡ prefix ++ rest
  pub table : Table
  pub gives : GivesIn d.grammar (d.within L) table (items ++ more) prefix

-- how the reader stands behind all of the items and the bytes, where it answered so
abbrev pub StandsSo : {X I Told : Type 0} → Stepping X I Told → (old new : Reader X I) → (all : List Told)
    → (bytes : List ℕ) → Result (Unit {0}) Fault → Type 0
StandsSo d old new all bytes (Ok _) = HasReadTo d new all bytes
StandsSo d old new all bytes (Err (fault.Refused R)) =
    RefusesBehind d (d.limits (session_of old)) all bytes R (types_in d new)
StandsSo d old new all bytes (Err fault.Read) = ⊥
StandsSo d old new all bytes (Err fault.Memory) = GivesOfFirst d (d.limits (session_of old)) all bytes
StandsSo d old new all bytes (Err fault.Failed) = ⊥

-- the items of these bytes wait behind what waited, and so the reader stands
pub record GoesOn {X I Told : Type 0} (d : Stepping X I Told) (handouts : Handouts I) (old new : Reader X I)
    (items : List Told) (bytes : List ℕ) (stands : List Told → Type 0) : Type 0 where
  pub given : List Handout
  pub appended : waiting new ≡ waiting old ++ given
  pub all : List Told
  pub unfolded : AreUnfolded d handouts bytes items (begin_of old) given all (begin_of new)
  pub so : stands all

-- what a piece is answered, fed to a reader that had read the items of the bytes
abbrev pub FeedsBy : {X I Told : Type 0} → Stepping X I Told → Handouts I → (old new : Reader X I)
    → (items : List Told) → (bytes piece : List ℕ) → Result (Unit {0}) Fault → Type 0
FeedsBy d handouts old new items bytes piece answer =
    GoesOn d handouts old new items (bytes ++ piece) (λ all. StandsSo d old new all (bytes ++ piece) answer)

-- it took so many bytes of the piece
abbrev pub TakesSome : {X I Told : Type 0} → Stepping X I Told → Handouts I → (old new : Reader X I)
    → (items : List Told) → (bytes piece : List ℕ) → (used : ℕ) → Type 0
TakesSome d handouts old new items bytes piece used =
    GoesOn d handouts old new items (bytes ++ take used piece) (λ all. HasReadTo d new all (bytes ++ take used piece))

-- what a step is answered, which takes some of the piece
abbrev pub StepsBy : {X I Told : Type 0} → Stepping X I Told → Handouts I → (old new : Reader X I)
    → (items : List Told) → (bytes piece : List ℕ) → Result ℕ Fault → Type 0
StepsBy d handouts old new items bytes piece (Ok used) = TakesSome d handouts old new items bytes piece used
StepsBy d handouts old new items bytes piece (Err e) =
    GoesOn d handouts old new items (bytes ++ piece) (λ all. StandsSo d old new all (bytes ++ piece) (Err e))

-- nothing was taken
pub record StaysSo {X I : Type 0} (old new : Reader X I) : Type 0 where
  pub session : session_of new ≡ session_of old
  pub offset : new.offset ≡ old.offset
  pub begin : begin_of new ≡ begin_of old
  pub waits : waiting new ≡ waiting old

-- these bytes are the next item, a value of which this content of the type is handed out, and nothing else
pub record IsHandedNext {X I Told : Type 0} (d : Stepping X I Told) (handouts : Handouts I) (s : X) (id : TypeId)
    (content : Content) (z : List ℕ) : Type 0 where
  pub item : StreamItem
  pub next : IsNextBy d s item z
  pub given : I
  pub means : d.means (types (d.table s)) given (d.told item)
  pub handed : (span : Span) → handouts (types (d.table s)) given span (handout id span content ∷ [])

-- what is handed out of the item that ends there waits behind what waited
pub record Keeps {X I Told : Type 0} (d : Stepping X I Told) (handouts : Handouts I) (old new : Reader X I)
    (item : I) : Type 0 where
  pub given : List Handout
  pub appended : waiting new ≡ waiting old ++ given
  pub begin : begin_of new ≡ old.offset
  pub holds : handouts (types_in d old) item (record { begin = begin_of old; end = old.offset }) given

-- where there is one
abbrev pub KeepsBy : {X I Told : Type 0} → Stepping X I Told → Handouts I → (old new : Reader X I) → Option I
    → Type 0
KeepsBy d handouts old new None = (waiting new ≡ waiting old) × (begin_of new ≡ begin_of old)
KeepsBy d handouts old new (Some item) = Keeps d handouts old new item
