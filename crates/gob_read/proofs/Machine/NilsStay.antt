-- Readers that stop before the numbers of interfaces, when the table grows.
use Rattle.std.proofs.Common.{◌≡◌, ℕ, List, [], ◌∷◌, ◌++◌, length, Option, Some, None, refl, sym, ap, ◌∙◌, subst}
use Rattle.gob_types.specs.declared.id.TypeId.{TypeId}
use Rattle.gob_types.specs.declared.basic.Basic.TheVariants as basic
use Rattle.gob_types.specs.declared.kind.Kind.TheVariants as kind
use Rattle.gob_types.specs.declared.kind.Shape.{Shape}
use Rattle.gob_types.specs.Table.{Table, Extends}
use Rattle.gob_types.proofs.PublicLaws.{some_injective, extends_keeps}
use Rattle.gob_types.specs.Ready.{IsReady}
use Rattle.gob_read.specs.Event.{Event}
use Rattle.gob_read.specs.Machine.Kinds.{HasKind}
use Rattle.gob_read.specs.Machine.OpenPath.{AtNext, at_part}
use Rattle.gob_read.specs.Machine.Nil.{IsClear}
use Rattle.gob_read.specs.Calls.Reader.{HasReadSoFar, nothing_taken, taken_so_far, ReaderHasRead, IsUsableReader}
use Rattle.gob_read.specs.Calls.UpToNil.{IsClearRun, IsRunAtNil}
use Rattle.gob_read.specs.declared.frame.Frame.{Frame}
use Rattle.gob_read.specs.declared.next.Next.TheVariants.{Top, Number}
use Rattle.gob_read.specs.declared.next.NextNumber.TheVariants.{Part}
use Rattle.gob_read.specs.declared.run.Run.{Run}
use Rattle.gob_read.proofs.Machine.Places.{part_defined}

no_part : {t u : TypeId} {A : Type 0} → Top t ≡ Number (Part u) → A
no_part e = cc

nothing : (a b : List ℕ) → [] ≡ a ++ b → length a ≡ 0
nothing [] b e = refl
nothing (x ∷ a) b e = cc

new_clear : {T : Table} {t : TypeId} {X O : Type 0} {received : X → List Event → Type 0} (run : Run X O)
    → HasReadSoFar T t received run [] → IsClear T run
new_clear run (nothing_taken n) u e k = no_part (sym n.expected ∙ e)
new_clear run (taken_so_far r) u e k = r.start_is ∙ nothing r.before r.under_way r.whole ∙ sym r.taken_is

pub reader_begins : (T : Table) (t : TypeId) (limit announced : ℕ) {X O : Type 0} (received : X → List Event → Type 0)
    (o : Option (Run X O)) → ReaderHasRead T t limit announced received o [] → IsClearRun T o
reader_begins T t limit announced received None h = absurd h
reader_begins T t limit announced received (Some run) h = new_clear run h.so_far

-- what is an interface in the greater table is one where the reader stands
was_kind : {T U : Table} {t u : TypeId} {fs : List Frame} {p r : List ℕ} {us : List Event} → Extends T U → IsReady T t
    → AtNext T t fs (Number (Part u)) p r us → HasKind U u (kind.Basic basic.Interface)
    → HasKind T u (kind.Basic basic.Interface)
was_kind e d (at_part w) k =
    let here = part_defined d w in
    record {
      shape = here.0;
      there = here.1;
      kind = ap (λ (s : Shape). s.kind)
          (some_injective (sym ((extends_keeps e).shape _ _ here.1) ∙ k.there)) ∙ k.kind;
    }

stays_clear : {T U : Table} {t : TypeId} {X O : Type 0} {received : X → List Event → Type 0} (run : Run X O)
    {z : List ℕ} → Extends T U → HasReadSoFar T t received run z → IsClear T run → IsClear U run
stays_clear run e (nothing_taken n) c u f k = no_part (sym n.expected ∙ f)
stays_clear {T = T} {t = t} run e (taken_so_far r) c u f k = c u f
    (was_kind e r.ready (subst (λ a. AtNext T t run.state.stack a r.before r.under_way r.placed.us) f r.placed.at) k)

pub reader_stays_clear : {T U : Table} {X O : Type 0} (received : X → List Event → Type 0) (o : Option (Run X O))
    → Extends T U → IsUsableReader T received o → IsClearRun T o → IsClearRun U o
reader_stays_clear received None e h c = tt
reader_stays_clear received (Some run) e h c = stays_clear run e h.after.so_far c

pub reader_stays_at_nil : {T U : Table} {X O : Type 0} (o : Option (Run X O)) → Extends T U → IsRunAtNil T o
    → IsRunAtNil U o
reader_stays_at_nil None e n = n
reader_stays_at_nil (Some run) e n = record {
  id = n.id;
  expected = n.expected;
  kind = record { shape = n.kind.shape; there = (extends_keeps e).shape _ _ n.kind.there; kind = n.kind.kind };
}
