-- Behind the definitions of the types the values are written.
use Rattle.std.proofs.Common.{◌≡◌, ℕ, ◌+◌, ◌<◌, ◌≤◌, List, [], ◌++◌, length, get_or, take, Option, Some, Result, Ok}
use Rattle.std.proofs.Common.{Err}
use Rattle.std.proofs.Common.{refl, sym, ap, subst, ◌∙◌, arith, take_all}
use Rattle.std.specs.Prelude.{IsErrAnd, slice_get}
use Rattle.std.specs.Io.KnownBytes.{Appends, Keeps}
use Rattle.std.proofs.KnownBytes.{Appends-nil, Appends-kept}
use Rattle.std.proofs.lemmas.List.{length-map}
use Rattle.std.proofs.lemmas.Option.{slice_get-map, slice_get_read}
use Rattle.gob_types.specs.Base.{base_table}
use Rattle.gob_value.specs.View.{view}
use Rattle.gob_stream.specs.Bounds.{Bounds, within_trees}
use Rattle.gob_stream.specs.Item.{StreamItem, defines}
use Rattle.gob_stream.specs.Stream.{Stream, no_more}
use Rattle.gob_stream.specs.Calls.Writing.{HasWritten, Leaves, StoppedAt, WriteAnswers, WritesNext}
use Rattle.gob_stream.specs.Calls.Ends.{writer_of}
use Rattle.gob_stream.specs.declared.output.Output.{Output}
use Rattle.gob_stream.specs.declared.fault.WriteFault.{WriteFault}
use Rattle.gob_stream.specs.declared.fault.WriteFault.TheVariants as writing
use Rattle.gob_stream.proofs.Written.WriteStreamSteps.{WroteSome, stopped, wrote_more}
use Rattle.gob_write.specs.Faults.{CountsAllWrites, CountsReads, writing_fault, writing_result}
use Rattle.gob_write.specs.Making.{MakeAnswers, StopsWithin, WroteFront, behind_front}
use Rattle.gob_write.specs.Making.{definitions_of, ending, of_plain, within_front}
use Rattle.gob_write.specs.Running.{WriteTextsAnswers}
use Rattle.gob_write.specs.Says.{HasWrittenTexts, IsWithinTrees, Saying, of_values}
use Rattle.gob_write.specs.declared.fault.LinesFault.{LinesFault}
use Rattle.gob_write.specs.declared.fault.LinesFault.TheVariants as fault
use Rattle.gob_write.specs.declared.types.Definition.{Definition}
use Rattle.gob_write.specs.declared.types.Types.{Types}
use Rattle.gob_write.specs.declared.writer.PlainWriter.{PlainWriter}
use Rattle.gob_write.proofs.RunLaws.{flushed_answers, unflushed_answers}
use Rattle.gob_write.proofs.SaidLaws.{same_limits}

-- ---- the definitions, one by one
definition_at : (ds : List Definition) (n : ℕ) (d : Definition) → d ≡ get_or ds n d → n < length ds
    → slice_get (definitions_of ds) n ≡ Some (defines d.id (view d.described))
definition_at ds n d is within = slice_get-map (λ d. defines d.id (view d.described)) ds n
    ∙ rw (slice_get_read ds (length ds) n d refl within is) refl

-- so many definitions went out, and the writer stands behind them
pub record HasWrittenSome (S : Saying) (ds : List Definition) (n : ℕ) (w : PlainWriter) (old new : Option (List ℕ))
    : Type 0 where
  pub wrote : WroteSome S.bounds (definitions_of ds) n w.writer old new
  pub making : w.making ≡ S.making

pub none_yet : (S : Saying) (ds : List Definition) (w : PlainWriter) (old : Option (List ℕ))
    → HasWrittenTexts S w [] [] base_table → HasWrittenSome S ds 0 w old old
none_yet S ds w old h = record {
  wrote = record { bytes = []; table = base_table; written = h.written; limits = h.limits; out = Appends-nil old };
  making = h.making;
}

pub one_more : {S : Saying} {ds : List Definition} {n : ℕ} {w : PlainWriter} {old mid : Option (List ℕ)}
    (w' : PlainWriter) (new : Option (List ℕ)) (d : Definition) (u : Unit {0}) → IsWithinTrees S
    → HasWrittenSome S ds n w old mid → d ≡ get_or ds n d → n < length ds
    → WritesNext (within_trees w.writer.limits) w.writer w'.writer (defines d.id (view d.described)) mid new (Ok u)
    → w'.making ≡ w.making → HasWrittenSome S ds (n + 1) w' old new
one_more {S = S} {ds = ds} {n = n} {w = w} {old = old} {mid = mid} w' new d u within h is inside writes making =
    record {
      wrote = wrote_more S.bounds (within_trees w.writer.limits) (definitions_of ds) n w.writer w'.writer old mid new
          (defines d.id (view d.described)) u h.wrote (definition_at ds n d is inside) writes;
      making = making ∙ h.making;
    }

-- all of them
pub all_written : {S : Saying} {ds : List Definition} {n : ℕ} {w : PlainWriter} {old new : Option (List ℕ)}
    → HasWrittenSome S ds n w old new → length ds ≤ n → WroteFront S ds w old new
all_written {S = S} {ds = ds} {n = n} {w = w} h past =
    let all : take n (definitions_of ds) ≡ definitions_of ds =
    take_all n (definitions_of ds) (omega (arith, length-map ds (λ d. defines d.id (view d.described)))) in
    record {
      bytes = h.wrote.bytes;
      table = h.wrote.table;
      written = record {
        written = subst (λ (is : List StreamItem). HasWritten w.writer is h.wrote.bytes h.wrote.table) all
            h.wrote.written;
        limits = h.wrote.limits;
        making = h.making;
      };
      out = h.wrote.out;
    }

-- or one of them stops the run
pub one_stops : {S : Saying} {ds : List Definition} {n : ℕ} {w : PlainWriter} {old mid : Option (List ℕ)}
    (w' : PlainWriter) (new : Option (List ℕ)) (d : Definition) (g : WriteFault) (f : LinesFault) → IsWithinTrees S
    → HasWrittenSome S ds n w old mid → d ≡ get_or ds n d → n < length ds
    → WritesNext (within_trees w.writer.limits) w.writer w'.writer (defines d.id (view d.described)) mid new (Err g)
    → Leaves w.writer w'.writer mid new (Err g) → f ≡ writing_fault 0 g → StopsWithin S ds old new f
one_stops {S = S} {ds = ds} {n = n} {w = w} {old = old} {mid = mid} w' new d g f within h is inside writes leaves same =
    record {
      place = n;
      fault = g;
      is = same;
      stopped = stopped S.bounds (within_trees w.writer.limits) (definitions_of ds) n w.writer w'.writer old mid new
          (defines d.id (view d.described)) g (same_limits S within h.wrote.limits) h.wrote
          (definition_at ds n d is inside) writes leaves;
    }

-- what a call answers that writes this one
pub one_written : {W : Type 0} {S : Saying} {ds : List Definition} {n : ℕ} {w : PlainWriter} {old : Option (List ℕ)}
    (w' : PlainWriter) (d : Definition) (contents : W → Option (List ℕ)) (output output' : Output W)
    (r : Result (Unit {0}) WriteFault) (u : Unit {0}) → IsWithinTrees S
    → HasWrittenSome S ds n w old (contents (writer_of output)) → d ≡ get_or ds n d → n < length ds
    → WriteAnswers (within_trees w.writer.limits) w.writer w'.writer (defines d.id (view d.described)) contents output
    output' r → Ok u ≡ writing_result 0 r → w'.making ≡ w.making
    → HasWrittenSome S ds (n + 1) w' old (contents (writer_of output'))
one_written w' d contents output output' (Ok v) u within h is inside answers told making =
    one_more w' (contents (writer_of output')) d v within h is inside answers.writes making
one_written w' d contents output output' (Err g) u within h is inside answers told making = absurd (cc told)

pub one_refused : {W : Type 0} {S : Saying} {ds : List Definition} {n : ℕ} {w : PlainWriter} {old : Option (List ℕ)}
    (w' : PlainWriter) (d : Definition) (contents : W → Option (List ℕ)) (output output' : Output W)
    (r : Result (Unit {0}) WriteFault) (f : LinesFault) → IsWithinTrees S
    → HasWrittenSome S ds n w old (contents (writer_of output)) → d ≡ get_or ds n d → n < length ds
    → WriteAnswers (within_trees w.writer.limits) w.writer w'.writer (defines d.id (view d.described)) contents output
    output' r → Err f ≡ writing_result 0 r → StopsWithin S ds old (contents (writer_of output')) f
one_refused w' d contents output output' (Ok v) f within h is inside answers told = absurd (cc told)
one_refused w' d contents output output' (Err g) f within h is inside answers told =
    let same : f ≡ writing_fault 0 g = cc in
    one_stops w' (contents (writer_of output')) d g f within h is inside answers.writes answers.effects.leaves same

-- ---- the values behind them
-- a new writer of them
pub made_new : (K : Bounds) (types : Types) (w : PlainWriter) (depth zeros : ℕ) → depth ≡ (within_trees K).depth
    → zeros ≡ K.item → HasWrittenTexts (of_values (record {
      id = types.id;
      depth = depth;
      zeros = zeros;
      lenient = types.lenient;
    }) (within_trees K)) w [] [] base_table → HasWrittenTexts (of_plain (within_trees K) types) w [] [] base_table
made_new K types w depth zeros deep many h = record {
  written = h.written;
  limits = h.limits;
  making = h.making ∙ ap (λ (n : ℕ). record {
    id = types.id;
    depth = n;
    zeros = zeros;
    lenient = types.lenient;
  }) deep ∙ ap (λ (n : ℕ). record {
    id = types.id;
    depth = (within_trees K).depth;
    zeros = n;
    lenient = types.lenient;
  }) many;
}

pub texts_behind : (K : Bounds) (types : Types) (w : PlainWriter) (old mid : Option (List ℕ)) {most : ℕ}
    {bytes : List ℕ} {new : Option (List ℕ)} {r : Result (Unit {0}) LinesFault}
    → WroteFront (of_plain (within_trees K) types) types.definitions.items w old mid
    → ((S : Saying) (start : Option (List ℕ)) → IsWithinTrees S → HasWrittenTexts S w S.items S.bytes S.table
    → Appends start mid S.bytes → WriteTextsAnswers S most bytes start new r)
    → MakeAnswers (within_trees K) types most bytes old new r
texts_behind K types w old mid h texts =
    let S = record (of_plain (within_trees K) types)
    { items = definitions_of types.definitions.items; bytes = h.bytes; table = h.table } in
    let front = subst (λ (M : Bounds). Stream base_table M S.items S.bytes S.table) h.written.limits
    h.written.written.stream in
    behind_front S (record { making = refl; bounds = refl; items = refl; front = front }) (texts S old (K, refl)
    (record { written = h.written.written; limits = h.written.limits; making = h.written.making })
    h.out)

pub front_stops : (K : Bounds) (types : Types) {most : ℕ} {bytes : List ℕ} {old new : Option (List ℕ)}
    (r : Result (Unit {0}) LinesFault) (f : LinesFault) → IsErrAnd r (λ e. e ≡ f)
    → StopsWithin (of_plain (within_trees K) types) types.definitions.items old new f
    → MakeAnswers (within_trees K) types most bytes old new r
front_stops K types (Ok u) f is h = absurd is
front_stops K types (Err e) f is h = within_front h.place h.fault (ap (λ e. Err e) (is ∙ h.is)) h.stopped

-- before a writer is had nothing is written
pub none_made : (L : Bounds) (types : Types) (most : ℕ) (bytes : List ℕ) (old : Option (List ℕ))
    → MakeAnswers L types most bytes old old (Err fault.Memory)
none_made L types most bytes old = within_front 0 writing.Memory refl (record {
  within = omega arith;
  bytes = [];
  table = base_table;
  before = no_more;
  out = Appends-nil old;
})

-- ---- behind a flush
stopped_kept : (L : Bounds) (items : List StreamItem) (n : ℕ) (old now now' : Option (List ℕ)) (g : WriteFault)
    → Keeps now now' → StoppedAt L items n old now g → StoppedAt L items n old now' g
stopped_kept L items n old now now' (writing.Refused r) k h = record {
  bytes = h.bytes;
  table = h.table;
  item = h.item;
  before = h.before;
  out = Appends-kept old now now' h.bytes h.out k;
  at = h.at;
  refused = h.refused;
  none = h.none;
}
stopped_kept L items n old now now' writing.Write k h = record {
  bytes = h.bytes;
  prefix = h.prefix;
  rest = h.rest;
  table = h.table;
  last = h.last;
  item = h.item;
  before = h.before;
  out = Appends-kept old now now' (h.bytes ++ h.prefix) h.out k;
  at = h.at;
  counted = h.counted;
}
stopped_kept L items n old now now' writing.Memory k h = record {
  within = h.within;
  bytes = h.bytes;
  table = h.table;
  before = h.before;
  out = Appends-kept old now now' h.bytes h.out k;
}
stopped_kept L items n old now now' writing.Failed k h = absurd h

-- a flush keeps what was written
pub flushed_made : (L : Bounds) (types : Types) (most : ℕ) (bytes : List ℕ) (old now now' : Option (List ℕ))
    (r : Result (Unit {0}) LinesFault) → Keeps now now' → MakeAnswers L types most bytes old now r
    → MakeAnswers L types most bytes old now' r
flushed_made L types most bytes old now now' r k (behind_front S made h) =
    behind_front S made (flushed_answers S most bytes old now now' r k h)
flushed_made L types most bytes old now now' r k (within_front place g is h) =
    within_front place g is (stopped_kept L (definitions_of types.definitions.items) place old now now' g k h)

-- and one that fails behind all values is a failed write
pub unflushed_made : (L : Bounds) (types : Types) (most : ℕ) (bytes : List ℕ) (old now now' : Option (List ℕ))
    (u : Unit {0}) → Keeps now now' → MakeAnswers L types most bytes old now (Ok u)
    → MakeAnswers L types most bytes old now' (Err fault.Write)
unflushed_made L types most bytes old now now' u k (behind_front S made h) =
    behind_front S made (unflushed_answers S most bytes old now now' k h)
unflushed_made L types most bytes old now now' u k (within_front place g is h) = absurd (cc is)

-- ---- the number that the run answers is no part of how it ends
pub ended_by : (P : Result (Unit {0}) LinesFault → Type 0) (r : Result ℕ LinesFault) (f : LinesFault)
    → IsErrAnd r (λ e. e ≡ f) → P (Err f) → P (ending r)
ended_by P (Ok n) f is h = absurd is
ended_by P (Err e) f is h = subst (λ (k : LinesFault). P (Err k)) (sym is) h

pub reads_at : (failures failures' : ℕ) (r : Result ℕ LinesFault) (f : LinesFault) → IsErrAnd r (λ e. e ≡ f)
    → CountsReads {A = Unit {0}} failures failures' (Err f) → CountsReads failures failures' r
reads_at failures failures' (Ok n) f is h = absurd is
reads_at failures failures' (Err e) f is h =
    at e (subst (λ (k : LinesFault). CountsReads {A = Unit {0}} failures failures' (Err k)) (sym is) h)
  where
    at : (e : LinesFault) → CountsReads {A = Unit {0}} failures failures' (Err e)
        → CountsReads {A = ℕ} failures failures' (Err e)
    at fault.Read h = h
    at fault.Write h = h
    at fault.Memory h = h
    at (fault.Wrong m column path due) h = h
    at (fault.Refused m r) h = h
    at (fault.TooLong m limit) h = h

pub writes_at : (failures failures' : ℕ) (r : Result ℕ LinesFault) (f : LinesFault) → IsErrAnd r (λ e. e ≡ f)
    → CountsAllWrites {A = Unit {0}} failures failures' (Err f) → CountsAllWrites failures failures' r
writes_at failures failures' (Ok n) f is h = absurd is
writes_at failures failures' (Err e) f is h =
    at e (subst (λ (k : LinesFault). CountsAllWrites {A = Unit {0}} failures failures' (Err k)) (sym is) h)
  where
    at : (e : LinesFault) → CountsAllWrites {A = Unit {0}} failures failures' (Err e)
        → CountsAllWrites {A = ℕ} failures failures' (Err e)
    at fault.Read h = h
    at fault.Write h = h
    at fault.Memory h = h
    at (fault.Wrong m column path due) h = h
    at (fault.Refused m r) h = h
    at (fault.TooLong m limit) h = h
