-- What a writer has written after a call.
use Rattle.std.proofs.Common.{◌≡◌, ℕ, ◌+◌, List, [], ◌∷◌, ◌++◌, length, true, false, Option, Result, Ok, Err, refl}
use Rattle.std.proofs.Common.{sym, ap, subst, ◌∙◌, arith, append_assoc, length-append}
use Rattle.std.specs.Io.KnownBytes.{Appends}
use Rattle.std.proofs.KnownBytes.{Keeps-refl, Appends-trans}
use Rattle.gob_types.specs.Table.{Table}
use Rattle.gob_types.specs.Base.{base_table}
use Rattle.gob_types.specs.Defined.{Defined, types}
use Rattle.gob_stream.specs.declared.fault.WriteFault.{WriteFault}
use Rattle.gob_stream.specs.declared.fault.WriteFault.TheVariants as fault
use Rattle.gob_stream.specs.declared.output.Output.{Output}
use Rattle.gob_stream.specs.declared.write_place.WritePlace.{WritePlace}
use Rattle.gob_stream.specs.Machine.WriterState.{WriterState}
use Rattle.gob_types.specs.declared.denial.Denial.{Denial}
use Rattle.gob_types.specs.declared.denial.Denial.TheVariants as denial
use Rattle.gob_stream.specs.Bounds.{Bounds, within_trees}
use Rattle.gob_types.specs.Denial.{IsDenial}
use Rattle.gob_stream.specs.Machine.Denial.{write_fault}
use Rattle.gob_stream.specs.Calls.Ends.{failed_writes, writer_of}
use Rattle.gob_stream.specs.Laws.{AtLeast}
use Rattle.gob_stream.specs.Item.{StreamItem}
use Rattle.gob_stream.specs.Stream.{Stream, IsItem}
use Rattle.gob_stream.specs.WriterRefusal.{RefusesItem}
use Rattle.gob_stream.specs.Calls.Writing.{HasWritten, HasWrittenSome, IsUsableWriter, has_failed}
use Rattle.gob_stream.specs.Calls.Writing.{has_written, SentPrefix, SendAnswers}
use Rattle.gob_stream.specs.Calls.Writing.{WritesItem, Leaves, CountsWriterFaults, WriteEffects}
use Rattle.gob_stream.proofs.Stream.StreamLaws.{one_more, wider_counted}

-- a writer of these fields
abbrev pub writer_state : Bounds → Defined → WritePlace → WriterState
writer_state limits types place = record { limits = limits; types = types; place = place }

-- what is denied before any byte went out is a fault of the item
pub denied_writes : (L : Bounds) (w w' : WriterState) (items : List StreamItem) (bytes : List ℕ) (T : Table)
    (i : StreamItem) (out : Option (List ℕ)) (d : Denial)
    → HasWritten w items bytes T → IsDenial (RefusesItem base_table L (types w.types) w.place.offset i) d
    → WritesItem L w w' items bytes T i out out (Err (write_fault d))
denied_writes L w w' items bytes T i out (denial.Refused r) written refused = rw (← written.table, ← written.offset)
    refused
denied_writes L w w' items bytes T i out denial.Memory written refused = tt

-- and leaves all as it was
denied_leaves : (w w' : WriterState) (out : Option (List ℕ)) (d : Denial) → w' ≡ w
    → Leaves w w' out out (Err (write_fault d))
denied_leaves w w' out (denial.Refused r) same = (same, Keeps-refl out)
denied_leaves w w' out denial.Memory same = (same, Keeps-refl out)

-- a writer whose send failed writes no more
sent_leaves : (w ready : WriterState) (place : WritePlace) (bytes : List ℕ) (old new : Option (List ℕ))
    (r : Result (Unit {0}) WriteFault) → SendAnswers ready.place place bytes old new r
    → Leaves w (record ready { place = place }) old new r
sent_leaves w ready place bytes old new (Ok u) sent = ap (λ p. p.failed) sent.1
sent_leaves w ready place bytes old new (Err f) sent =
    subst (λ g. Leaves w (record ready { place = place }) old new (Err g)) (sym sent.2) (ap (λ p. p.failed) sent.1)

-- ---- what a call does to any writer and output
denied_counts : (failures : ℕ) (d : Denial) → CountsWriterFaults failures failures (Err (write_fault d))
denied_counts failures (denial.Refused r) = refl
denied_counts failures denial.Memory = refl

module _ {W : Type 0} (contents : W → Option (List ℕ)) where
  -- the item was denied before any byte went out
  pub denied_effects : (w w' : WriterState) (output : Output W) (d : Denial) → IsUsableWriter w → w.place.failed ≡ false
      → w' ≡ w
      → WriteEffects w w' contents output output (Err (write_fault d))
  denied_effects w w' output d usable sound same = record {
    usable = usable;
    leaves = denied_leaves w w' (contents (writer_of output)) d same;
    failed = λ failed. absurd (cc);
    counted = denied_counts (failed_writes output) d;
  }

  -- its bytes were sent
  pub sent_effects : (w ready : WriterState) (place : WritePlace) (bytes : List ℕ) (output output' : Output W)
      (r : Result (Unit {0}) WriteFault) → IsUsableWriter w → w.place.failed ≡ false
      → SendAnswers ready.place place bytes (contents (writer_of output)) (contents (writer_of output')) r
      → CountsWriterFaults (failed_writes output) (failed_writes output') r
      → WriteEffects w (record ready { place = place }) contents output output' r
  sent_effects w ready place bytes output output' r usable sound sent counted = record {
    usable = usable;
    leaves = sent_leaves w ready place bytes (contents (writer_of output)) (contents (writer_of output')) r sent;
    failed = λ failed. absurd (cc);
    counted = counted;
  }

  -- nothing was tried, since a write had failed
  pub failed_effects : (w : WriterState) (output : Output W) → w.place.failed ≡ true
      → WriteEffects w w contents output output (Err fault.Failed)
  failed_effects w output failed = record {
    usable = has_failed failed;
    leaves = (failed, (refl, Keeps-refl (contents (writer_of output))));
    failed = λ e. (refl, refl, refl);
    counted = refl;
  }

-- nor has it written items before
pub failed_wrote : {A : Type 0} {w : WriterState} {items : List StreamItem} {bytes : List ℕ} {T : Table}
    → w.place.failed ≡ true → HasWritten w items bytes T → A
failed_wrote failed written = let sound = written.sound in absurd (cc)

-- what trees may be written under is no more than the limits
pub trees_within : (L : Bounds) → AtLeast (within_trees L) L
trees_within L = record { item = omega arith; depth = omega arith; types = omega arith; stream = omega arith }

-- nor are the limits more than themselves
pub all_within : (L : Bounds) → AtLeast L L
all_within L = record { item = omega arith; depth = omega arith; types = omega arith; stream = omega arith }

-- the writer has begun this item of these bytes, as these limits admit it, and has the types behind it
pub record HasItem (L : Bounds) (w ready : WriterState) (all : List ℕ) (i : StreamItem) (U : Table) : Type 0 where
  pub limits : ready.limits ≡ w.limits
  pub place : ready.place ≡ w.place
  pub most : ready.types.most ≡ w.types.most
  pub table : types ready.types ≡ U
  pub within : AtLeast L w.limits
  pub item : IsItem base_table L (types w.types) w.place.offset i all U

-- the item's bytes went out, or a prefix of them
pub sent_writes : (L : Bounds) (w ready : WriterState) (place : WritePlace) (all : List ℕ) (items : List StreamItem)
    (bytes : List ℕ) (T U : Table) (i : StreamItem) (old new : Option (List ℕ))
    (r : Result (Unit {0}) WriteFault) → HasWritten w items bytes T → HasItem L w ready all i U
    → SendAnswers ready.place place all old new r
    → WritesItem L w (record ready { place = place }) items bytes T i old new r
sent_writes L w ready place all items bytes T U i old new (Ok u) written has sent =
    let behind = sent.1 in
    let here : IsItem base_table L T (length bytes) i all U = rw (← written.table, ← written.offset) has.item in
    record {
      more = all;
      table = U;
      item = here;
      out = sent.0;
      limits = has.limits;
      written = record {
        stream = subst (λ M. Stream base_table M (items ++ i ∷ []) (bytes ++ all) U) (sym has.limits)
            (one_more written.stream (omega arith) (wider_counted has.within here));
        table = has.table;
        room = has.most ∙ written.room ∙ ap (λ L. L.types) (sym has.limits);
        offset = ap (λ p. p.offset) behind ∙ ap (λ o. o + length all) (ap (λ p. p.offset) has.place ∙ written.offset)
            ∙ sym (length-append bytes all);
        sound = ap (λ p. p.failed) behind;
      };
    }
sent_writes L w ready place all items bytes T U i old new (Err f) written has sent =
    let here : IsItem base_table L T (length bytes) i all U = rw (← written.table, ← written.offset) has.item in
    let prefix = sent.0 in
    subst (λ g. WritesItem L w (record ready { place = place }) items bytes T i old new (Err g)) (sym sent.2)
    (record {
      prefix = prefix.prefix;
      rest = prefix.rest;
      table = U;
      item =
          subst (λ b. IsItem base_table L T (length bytes) i b U) prefix.whole here;
      out = prefix.out;
    })

-- behind it the writer has written some items again, or a write failed
pub usable_behind : (L : Bounds) (w ready : WriterState) (place : WritePlace) (all : List ℕ) (U : Table)
    (i : StreamItem) (old new : Option (List ℕ)) (r : Result (Unit {0}) WriteFault)
    → IsUsableWriter w → w.place.failed ≡ false → (HasWrittenSome w → HasItem L w ready all i U)
    → SendAnswers ready.place place all old new r
    → IsUsableWriter (record ready { place = place })
usable_behind L w ready place all U i old new r (has_failed failed) sound has sent = absurd (cc)
usable_behind L w ready place all U i old new (Ok u) (has_written some) sound has sent =
    let wrote = sent_writes L w ready place all some.items some.bytes some.table U i old new (Ok u) some.written
    (has some) sent in
    has_written (record {
      items = some.items ++ i ∷ [];
      bytes = some.bytes ++ wrote.more;
      table = wrote.table;
      written =
          wrote.written;
    })
usable_behind L w ready place all U i old new (Err f) (has_written some) sound has sent =
    has_failed (ap (λ p. p.failed) sent.1)

-- a prefix of these bytes is one of more
pub prefix_of_more : {a : List ℕ} (b : List ℕ) {old new : Option (List ℕ)} → SentPrefix a old new
    → SentPrefix (a ++ b) old new
prefix_of_more b sent = record {
  prefix = sent.prefix;
  rest = sent.rest ++ b;
  whole = ap (λ l. l ++ b) sent.whole
      ∙ append_assoc sent.prefix sent.rest b;
  out = sent.out;
}

-- and a prefix of what follows them, where they are out
pub prefix_behind : (a : List ℕ) {b : List ℕ} {old between new : Option (List ℕ)} → Appends old between a
    → SentPrefix b between new → SentPrefix (a ++ b) old new
prefix_behind a out sent = record {
  prefix = a ++ sent.prefix;
  rest = sent.rest;
  whole = ap (λ l. a ++ l) sent.whole ∙ sym (append_assoc a sent.prefix sent.rest);
  out = Appends-trans _ _ _ _ _ out sent.out;
}
