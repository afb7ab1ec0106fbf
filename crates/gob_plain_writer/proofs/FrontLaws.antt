-- The definitions of a writer's types, written one by one.
use Rattle.std.proofs.Common.{◌≡◌, ℕ, ◌+◌, ◌<◌, ◌≤◌, List, [], ◌++◌, length, get_or, take, Option, Some, Result, Ok}
use Rattle.std.proofs.Common.{Err, sym, ap, subst, ◌∙◌, arith, take_all, refl}
use Rattle.std.specs.Prelude.{IfOk, IsErrAnd, slice_get}
use Rattle.std.proofs.lemmas.List.{length-map}
use Rattle.std.proofs.lemmas.Option.{slice_get-map, slice_get_read}
use Rattle.gob_value.specs.View.{view}
use Rattle.gob_stream.specs.Bounds.{Bounds, greatest_depth, within_trees}
use Rattle.gob_stream.specs.Item.{StreamItem, defines}
use Rattle.gob_stream.specs.Calls.Ends.{writer_of}
use Rattle.gob_stream.specs.Calls.Writing.{HasWritten, RefusedThere, StoppedAt, WriteAnswers}
use Rattle.gob_stream.specs.Machine.WriterState.{WriterState}
use Rattle.gob_stream.specs.declared.output.Output.{Output}
use Rattle.gob_stream.specs.declared.fault.WriteFault.{WriteFault}
use Rattle.gob_stream.specs.declared.fault.WriteFault.TheVariants as writing
use Rattle.gob_stream.proofs.Reader.HasReadLaws.{limits_stay}
use Rattle.gob_stream.proofs.Written.WriteStreamSteps.{WroteSome, stopped, wrote_more}
use Rattle.gob_write.specs.Making.{definitions_of, making_of}
use Rattle.gob_write.specs.declared.types.Definition.{Definition}
use Rattle.gob_write.specs.declared.types.Types.{Types}
use Rattle.gob_plain_writer.specs.Faults.{opening_fault}
use Rattle.gob_plain_writer.specs.Writing.{IsOpened, OpenAnswers, WritesFront, WroteFront, waiting}
use Rattle.gob_plain_writer.specs.declared.fault.OpenFault.{OpenFault}
use Rattle.gob_plain_writer.specs.declared.writer.PlainWriter.{PlainWriter}

-- ---- one of them
definition_at : (ds : List Definition) (n : ℕ) (d : Definition) → d ≡ get_or ds n d → n < length ds
    → slice_get (definitions_of ds) n ≡ Some (defines d.id (view d.described))
definition_at ds n d is within = slice_get-map (λ d. defines d.id (view d.described)) ds n
    ∙ rw (slice_get_read ds (length ds) n d refl within is) refl

same_limits : (L : Bounds) (w : WriterState) → w.limits ≡ within_trees L → within_trees w.limits ≡ within_trees L
same_limits L w e = ap (λ (K : Bounds). within_trees K) e ∙ limits_stay greatest_depth (within_trees L) (omega arith)

pub one_written : {W : Type 0} (L : Bounds) (ds : List Definition) (n : ℕ) (w w' : WriterState) (old : Option (List ℕ))
    (d : Definition) (contents : W → Option (List ℕ)) (output output' : Output W) (u : Unit {0})
    → WroteSome (within_trees L) (definitions_of ds) n w old (contents (writer_of output)) → d ≡ get_or ds n d
    → n < length ds
    → WriteAnswers (within_trees w.limits) w w' (defines d.id (view d.described)) contents output output' (Ok u)
    → WroteSome (within_trees L) (definitions_of ds) (n + 1) w' old (contents (writer_of output'))
one_written L ds n w w' old d contents output output' u wrote is inside answers =
    wrote_more (within_trees L) (within_trees w.limits) (definitions_of ds) n w w' old (contents (writer_of output))
    (contents (writer_of output')) (defines d.id (view d.described)) u wrote (definition_at ds n d is inside)
    answers.writes

pub one_stopped : {W : Type 0} (L : Bounds) (ds : List Definition) (n : ℕ) (w w' : WriterState) (old : Option (List ℕ))
    (d : Definition) (contents : W → Option (List ℕ)) (output output' : Output W) (f : WriteFault)
    → WroteSome (within_trees L) (definitions_of ds) n w old (contents (writer_of output)) → d ≡ get_or ds n d
    → n < length ds
    → WriteAnswers (within_trees w.limits) w w' (defines d.id (view d.described)) contents output output' (Err f)
    → WritesFront (within_trees L) ds w' old (contents (writer_of output')) (Err f)
one_stopped L ds n w w' old d contents output output' f wrote is inside answers = (
  n,
  stopped (within_trees L) (within_trees w.limits) (definitions_of ds) n w w' old (contents (writer_of output))
      (contents (writer_of output')) (defines d.id (view d.described)) f (same_limits L w wrote.limits) wrote
      (definition_at ds n d is inside) answers.writes answers.effects.leaves,
)

pub all_written : (L : Bounds) (ds : List Definition) (n : ℕ) (w : WriterState) (old new : Option (List ℕ))
    → WroteSome L (definitions_of ds) n w old new → length ds ≤ n → WroteFront L ds w old new
all_written L ds n w old new wrote past =
    let all : take n (definitions_of ds) ≡ definitions_of ds =
    take_all n (definitions_of ds) (omega (arith, length-map ds (λ d. defines d.id (view d.described)))) in
    record {
      bytes = wrote.bytes;
      table = wrote.table;
      written = subst (λ (is : List StreamItem). HasWritten w is wrote.bytes wrote.table) all wrote.written;
      limits = wrote.limits;
      out = wrote.out;
    }

-- an answer that is this fault
pub answers_so : {A E : Type 0} (P : Result A E → Type 0) (r : Result A E) (f : E) → IsErrAnd r (λ e. e ≡ f)
    → P (Err f) → P r
answers_so P (Ok a) f is h = absurd is
answers_so P (Err e) f is h = subst (λ g. P (Err g)) (sym is) h

-- of a writer that is opened this holds
pub opened_so : (L : Bounds) (types : Types) (r : Result PlainWriter OpenFault) (P : PlainWriter → Type 0)
    → ((w : PlainWriter) → IsOpened L types w → P w) → OpenAnswers L types r → IfOk r P
opened_so L types (Ok w) P holds opened = holds w opened
opened_so L types (Err f) P holds opened = tt
