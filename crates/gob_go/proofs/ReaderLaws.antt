-- Readers of levels: what one stands after, and where it stops.
use Rattle.std.proofs.Common.{◌≡◌, ℕ, ◌+◌, ◌-◌, ◌^◌, ◌<◌, ◌≤◌, List, length, Option, Some, None, arith}
use Rattle.std.proofs.Common.{refl, sym, ◌∙◌}
use Rattle.gob_types.specs.declared.id.TypeId.{TypeId}
use Rattle.gob_types.specs.Table.{Table}
use Rattle.gob_read.specs.Event.{Event}
use Rattle.gob_read.specs.Refusal.{Refusal, Refused, extra, too_deep, short_of, bad_head_at, not_minimal_at}
use Rattle.gob_read.specs.Refusal.{not_allowed}
use Rattle.gob_read.specs.Calls.Reader.{HasReadSoFar, nothing_taken, taken_so_far, ReaderHasRead, IsUsableReader, Stops}
use Rattle.gob_read.specs.Calls.Reader.{ReaderRefusesBody}
use Rattle.gob_read.specs.Calls.UpToNil.{IsRunAtNil}
use Rattle.gob_read.specs.declared.run.Run.{Run}
use Rattle.gob_read.specs.declared.stop.Stop.{Stop}
use Rattle.gob_read.specs.declared.stop.Stop.TheVariants as stop
use Rattle.gob_read.proofs.PublicLaws.{seen_within}
use Rattle.gob_stream.specs.Machine.ReadParts.{StopsWithin}
use Rattle.gob_stream.proofs.Reader.BodySteps.{within_body}

-- it stands after some bytes
pub record IsReading (T : Table) {X O : Type 0} (received : X → List Event → Type 0) (o : Option (Run X O)) : Type
    0 where
  pub type : TypeId
  pub limit : ℕ
  pub announced : ℕ
  pub bytes : List ℕ
  pub after : ReaderHasRead T type limit announced received o bytes

pub reading : (T : Table) {X O : Type 0} (received : X → List Event → Type 0) (o : Option (Run X O))
    → IsUsableReader T received o → (o ≡ None → ⊥) → IsReading T received o
reading T received None u n = absurd (n refl)
reading T received (Some run) u n =
    record { type = u.type; limit = u.limit; announced = u.announced; bytes = u.bytes; after = u.after }

pub fits : (T : Table) (t : TypeId) (limit announced : ℕ) (z : List ℕ) {X O : Type 0}
    (received : X → List Event → Type 0)
    (o : Option (Run X O)) → ReaderHasRead T t limit announced received o z → IsUsableReader T received o
fits T t limit announced z received None h = absurd h
fits T t limit announced z received (Some run) h =
    record { type = t; limit = limit; announced = announced; bytes = z; after = h }

pub reads_on : (T : Table) (t : TypeId) (limit announced : ℕ) (z : List ℕ) {X O : Type 0}
    (received : X → List Event → Type 0) (o : Option (Run X O)) → ReaderHasRead T t limit announced received o z
    → o ≡ None → ⊥
reads_on T t limit announced z received None h e = h
reads_on T t limit announced z received (Some run) h e = cc

pub read_within : (T : Table) (t : TypeId) (limit announced : ℕ) (z : List ℕ) {X O : Type 0}
    (received : X → List Event → Type 0) (o : Option (Run X O)) → ReaderHasRead T t limit announced received o z
    → length z ≤ announced
read_within T t limit announced z received None h = absurd h
read_within T t limit announced z received (Some run) h = h.within

-- one length is announced
pub announced_once : (T U : Table) (t u : TypeId) (limit most announced size : ℕ) (z y : List ℕ) {X O : Type 0}
    (received : X → List Event → Type 0) (o : Option (Run X O)) → ReaderHasRead T t limit announced received o z
    → ReaderHasRead U u most size received o y → announced ≡ size
announced_once T U t u limit most announced size z y received None h k = absurd h
announced_once T U t u limit most announced size z y received (Some run) h k = sym h.length_is ∙ k.length_is

taken_once : (T U : Table) (t u : TypeId) (z y : List ℕ) {X O : Type 0} (received : X → List Event → Type 0)
    (run : Run X O) → HasReadSoFar T t received run z → HasReadSoFar U u received run y → length z ≡ length y
taken_once T U t u z y received run (nothing_taken n) (nothing_taken m) = refl
taken_once T U t u z y received run (nothing_taken n) (taken_so_far r) = sym n.taken_is ∙ r.taken_is
taken_once T U t u z y received run (taken_so_far r) (nothing_taken n) = sym r.taken_is ∙ n.taken_is
taken_once T U t u z y received run (taken_so_far r) (taken_so_far s) = sym r.taken_is ∙ s.taken_is

-- and it stands after so many bytes
pub read_once : (T U : Table) (t u : TypeId) (limit most announced size : ℕ) (z y : List ℕ) {X O : Type 0}
    (received : X → List Event → Type 0) (o : Option (Run X O)) → ReaderHasRead T t limit announced received o z
    → ReaderHasRead U u most size received o y → length z ≡ length y
read_once T U t u limit most announced size z y received None h k = absurd h
read_once T U t u limit most announced size z y received (Some run) h k =
    taken_once T U t u z y received run h.so_far k.so_far

-- a refusal is seen behind its place
pub place_before : {T : Table} {t : TypeId} {limit announced : ℕ} {z : List ℕ} {R : Refusal}
    → Refused T t limit announced z R → R.place ≤ R.seen
place_before (extra r s e l) = omega arith
place_before (too_deep r a e l) = omega arith
place_before (short_of r a e n h) = omega arith
place_before (bad_head_at r a e h) = omega arith
place_before (not_minimal_at r a e h) = omega arith
place_before (not_allowed r a e u h) = omega arith

-- and within the stream, where what begins is counted from
pub stops_in_level : (T : Table) {at end done begin : ℕ} {X O : Type 0} (received : X → List Event → Type 0)
    (o : Option (Run X O)) (piece : List ℕ) (s : Stop) → IsUsableReader T received o → done ≤ at → at ≤ end
    → end < 2 ^ 64 → begin ≡ at - done
    → ((t : TypeId) (limit announced : ℕ) (z : List ℕ) → ReaderHasRead T t limit announced received o z
    → at + announced ≡ done + end)
    → Stops o (λ refusal. ReaderRefusesBody T received o piece refusal) s → (o ≡ None → s ≡ stop.Failed)
    → StopsWithin begin s
stops_in_level T received o piece (stop.Refused place seen reason) u l m n b r h e =
    let i = reading T received o u (λ none. cc (e none)) in
    let first = h.each i.type i.limit i.announced i.bytes i.after in
    let size = r i.type i.limit i.announced i.bytes i.after in
    let w = read_within T i.type i.limit i.announced i.bytes received o i.after in
    let d = within_body i.bytes piece i.announced w in
    let s = seen_within first.refused in
    let p = place_before first.refused in
    (omega arith, omega arith)
stops_in_level T received o piece stop.Memory u l m n b r h e = tt
stops_in_level T received o piece stop.Failed u l m n b r h e = tt

pub at_nil_open : (T : Table) {X O : Type 0} (o : Option (Run X O)) → IsRunAtNil T o → o ≡ None → ⊥
at_nil_open T None n e = n
at_nil_open T (Some run) n e = cc
