-- A reader of a body that pieces are pushed to.
use Rattle.std.proofs.Common.{◌≡◌, ℕ, List, Option, Some, None, Result, Ok, Err, IfOk, OnErr, refl, sym, subst}
use Rattle.gob_types.specs.declared.id.TypeId.{TypeId}
use Rattle.gob_types.specs.Table.{Table}
use Rattle.gob_read.specs.Event.{Event}
use Rattle.gob_value.specs.Tree.{Tree}
use Rattle.gob_read.specs.Calls.Reader.{ReaderHasRead, IsUsableReader, ReaderGives}
use Rattle.gob_read.specs.declared.run.Run.{Run}
use Rattle.gob_read.specs.declared.reader.Progress.{Progress}
use Rattle.gob_read.specs.declared.reader.Progress.TheVariants.{More, Done}
use Rattle.gob_read.specs.declared.stop.Stop.{Stop}
use Rattle.gob_read.specs.declared.stop.Stop.TheVariants.{Failed}

-- it stands after some bytes
pub record IsPushed (T : Table) (t : TypeId) {X O : Type 0} (received : X → List Event → Type 0) (o : Option (Run X O))
    : Type 0 where
  pub limit : ℕ
  pub announced : ℕ
  pub bytes : List ℕ
  pub after : ReaderHasRead T t limit announced received o bytes

pub usable : {T : Table} {t : TypeId} {X O : Type 0} {received : X → List Event → Type 0} {o : Option (Run X O)}
    → IsPushed T t received o → IsUsableReader T received o
usable {T = T} {t = t} {X = X} {O = O} {received = received} {o = o} p = from o p.after
  where
    from : (o : Option (Run X O)) → ReaderHasRead T t p.limit p.announced received o p.bytes
        → IsUsableReader T received o
    from None a = absurd a
    from (Some run) a = record { type = t; limit = p.limit; announced = p.announced; bytes = p.bytes; after = a }

-- whatever a push answered, the reader stays of use
pub usable_pushed : (T : Table) {X O : Type 0} (received : X → List Event → Type 0) (means : O → Tree → Type 0)
    (old new : Option (Run X O)) (piece : List ℕ) (result : Result (Progress O) Stop)
    → IfOk result (λ p. (t : TypeId) (limit announced : ℕ) (z : List ℕ) → ReaderHasRead T t limit announced received old
    z → ReaderGives T t limit announced received means new z piece p)
    → (old ≡ None → result ≡ Err Failed) → OnErr result (new ≡ None) → IsUsableReader T received old
    → IsUsableReader T received new
usable_pushed T received means old new piece (Err e) given failed ended u = subst (IsUsableReader T received)
    (sym ended) tt
usable_pushed T received means None new piece (Ok p) given failed ended u = cc (failed refl)
usable_pushed T received means (Some run) new piece (Ok More) given failed ended u =
    usable (record {
      limit = u.limit;
      announced = u.announced;
      bytes = _;
      after =
          (given u.type u.limit u.announced u.bytes u.after).after;
    })
usable_pushed T received means (Some run) new piece (Ok (Done out used)) given failed ended u =
    subst (IsUsableReader T received) (sym (given u.type u.limit u.announced u.bytes u.after).ended) tt
