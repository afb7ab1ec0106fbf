-- How far a level came, by how far its reader did.
use Rattle.std.proofs.Common.{◌≡◌, ℕ, ◌+◌, ◌^◌, ◌<◌, ◌≤◌, List, ◌++◌, length, take, Option, None}
use Rattle.std.proofs.Common.{arith, ap, ◌∙◌, length-append}
use Rattle.std.proofs.lemmas.List.{length-take}
use Rattle.gob_types.specs.declared.id.TypeId.{TypeId}
use Rattle.gob_types.specs.Table.{Table}
use Rattle.gob_value.specs.Tree.{Tree}
use Rattle.gob_read.specs.Event.{Event}
use Rattle.gob_read.specs.Calls.Reader.{ReaderHasRead, IsUsableReader}
use Rattle.gob_read.specs.Calls.UpToNil.{ReachedIs}
use Rattle.gob_read.specs.declared.reached.Reached.{Reached}
use Rattle.gob_read.specs.declared.reached.Reached.TheVariants as reached
use Rattle.gob_read.specs.declared.run.Run.{Run}
use Rattle.gob_go.specs.declared.level.Came.{Came}
use Rattle.gob_go.specs.Machine.Parts.{came_of, used_of}
use Rattle.gob_go.proofs.ReaderLaws.{reading, read_within}

reached_within : (T : Table) {X : Type 0} (received : X → List Event → Type 0) (means : Unit {0} → Tree → Type 0)
    (old new : Option (Run X (Unit {0}))) (piece : List ℕ) (given : Reached (Unit {0})) → IsUsableReader T received old
    → (old ≡ None → ⊥)
    → ((t : TypeId) (limit announced : ℕ) (z : List ℕ) → ReaderHasRead T t limit announced received old z
    → ReachedIs T t limit announced received means new z piece given)
    → used_of piece (came_of given) ≤ length piece
reached_within T received means old new piece reached.More u n h = omega arith
reached_within T received means old new piece (reached.Nil used) u n h =
    let i = reading T received old u n in (h i.type i.limit i.announced i.bytes i.after).within
reached_within T received means old new piece (reached.Done out used) u n h =
    let i = reading T received old u n in (h i.type i.limit i.announced i.bytes i.after).within

-- and with what it took the skeleton ends in its segment
reached_fits : (T : Table) {X : Type 0} {at end done : ℕ} (received : X → List Event → Type 0)
    (means : Unit {0} → Tree → Type 0)
    (old new : Option (Run X (Unit {0}))) (piece : List ℕ) (given : Reached (Unit {0})) → IsUsableReader T received old
    → (old ≡ None → ⊥) → done ≤ at
    → ((t : TypeId) (limit announced : ℕ) (z : List ℕ) → ReaderHasRead T t limit announced received old z
    → length z ≡ done)
    → ((t : TypeId) (limit announced : ℕ) (z : List ℕ) → ReaderHasRead T t limit announced received old z
    → at + announced ≡ done + end)
    → ((t : TypeId) (limit announced : ℕ) (z : List ℕ) → ReaderHasRead T t limit announced received old z
    → ReachedIs T t limit announced received means new z piece given)
    → done + used_of piece (came_of given) ≤ end
reached_fits T received means old new piece reached.More u n o r s h =
    let i = reading T received old u n in
    let g = h i.type i.limit i.announced i.bytes i.after in
    let w = read_within T i.type i.limit i.announced (i.bytes ++ piece) received new g.after in
    let d = r i.type i.limit i.announced i.bytes i.after in
    let e = s i.type i.limit i.announced i.bytes i.after in
    omega (arith, length-append i.bytes piece)
reached_fits T received means old new piece (reached.Nil used) u n o r s h =
    let i = reading T received old u n in
    let g = h i.type i.limit i.announced i.bytes i.after in
    let w = read_within T i.type i.limit i.announced (i.bytes ++ take used piece) received new g.takes.after in
    let d = r i.type i.limit i.announced i.bytes i.after in
    let e = s i.type i.limit i.announced i.bytes i.after in
    let l = g.within in
    omega (arith, length-append i.bytes (take used piece), length-take used piece)
reached_fits T received means old new piece (reached.Done out used) u n o r s h =
    let i = reading T received old u n in
    let g = h i.type i.limit i.announced i.bytes i.after in
    let all = g.made.all in
    let d = r i.type i.limit i.announced i.bytes i.after in
    let e = s i.type i.limit i.announced i.bytes i.after in
    let l = g.within in
    omega (arith, length-append i.bytes (take used piece), length-take used piece)

pub came_fits : (T : Table) {X : Type 0} {used at end done : ℕ} {came : Came} (received : X → List Event → Type 0)
    (means : Unit {0} → Tree → Type 0)
    (old new : Option (Run X (Unit {0}))) (piece : List ℕ) (given : Reached (Unit {0})) → IsUsableReader T received old
    → (old ≡ None → ⊥) → done ≤ at → end < 2 ^ 64
    → ((t : TypeId) (limit announced : ℕ) (z : List ℕ) → ReaderHasRead T t limit announced received old z
    → length z ≡ done)
    → ((t : TypeId) (limit announced : ℕ) (z : List ℕ) → ReaderHasRead T t limit announced received old z
    → at + announced ≡ done + end)
    → ((t : TypeId) (limit announced : ℕ) (z : List ℕ) → ReaderHasRead T t limit announced received old z
    → ReachedIs T t limit announced received means new z piece given)
    → came ≡ came_of given → used ≡ used_of piece came → done + used < 2 ^ 64
came_fits T {used = used} received means old new piece given u n o m r s h e f =
    let l = reached_fits T received means old new piece given u n o r s h in
    let same : used ≡ used_of piece (came_of given) = f ∙ ap (λ c. used_of piece c) e in
    omega arith

pub came_within : (T : Table) {X : Type 0} {used : ℕ} {came : Came} (received : X → List Event → Type 0)
    (means : Unit {0} → Tree → Type 0)
    (old new : Option (Run X (Unit {0}))) (piece : List ℕ) (given : Reached (Unit {0})) → IsUsableReader T received old
    → (old ≡ None → ⊥)
    → ((t : TypeId) (limit announced : ℕ) (z : List ℕ) → ReaderHasRead T t limit announced received old z
    → ReachedIs T t limit announced received means new z piece given)
    → came ≡ came_of given → used ≡ used_of piece came → used ≡ length (take used piece)
came_within T {used = used} received means old new piece given u n h e f =
    let l = reached_within T received means old new piece given u n h in
    let same : used ≡ used_of piece (came_of given) = f ∙ ap (λ c. used_of piece c) e in
    omega (arith, length-take used piece)
