-- What writing the value of a text leaves of a writer.
use Rattle.std.proofs.Common.{◌≡◌, ℕ, ◌⊎◌, inl, inr, List, [], ◌∷◌, ◌++◌, length, take, Option, Some, None, Result, Ok}
use Rattle.std.proofs.Common.{Err, sym, ap, subst, ◌∙◌, arith, take_all}
use Rattle.std.proofs.lemmas.List.{take-append-le}
use Rattle.std.specs.Prelude.{OnErr}
use Rattle.gob_types.specs.Base.{base_table}
use Rattle.gob_types.specs.Table.{Table}
use Rattle.gob_value.specs.Tree.{Tree}
use Rattle.gob_make.specs.Tells.{SaysPlain}
use Rattle.gob_make.specs.declared.plain.Making.{Making}
use Rattle.gob_stream.specs.Bounds.{within_trees}
use Rattle.gob_stream.specs.Calls.Writing.{HasWritten, HasWriterFailed, IsUsableWriter, Leaves, WritesNext, WroteItem}
use Rattle.gob_stream.specs.Calls.Writing.{has_failed, has_written, writer_types}
use Rattle.gob_stream.specs.Item.{StreamItem, puts}
use Rattle.gob_stream.specs.Machine.WriterState.{WriterState}
use Rattle.gob_stream.specs.WriterRefusal.{RefusesItem}
use Rattle.gob_stream.specs.declared.fault.WriteFault.{WriteFault}
use Rattle.gob_stream.specs.declared.fault.WriteFault.TheVariants as writing
use Rattle.gob_plain_writer.specs.Faults.{putting_fault}
use Rattle.gob_plain_writer.specs.Writing.{IsAsBefore, LacksMemory, PutAnswers, SaysValue, WritesValue, WroteNext}
use Rattle.gob_plain_writer.specs.Writing.{says_value, waiting, wrote_value}
use Rattle.gob_plain_writer.specs.declared.writer.PlainWriter.{PlainWriter}

-- ---- what waits, where the value isn't written

-- what stands behind what waited is left out
cut : (old new more : List ℕ) → new ≡ old ++ more → take (length old) new ≡ old
cut old new more e = ap (λ (b : List ℕ). take (length old) b) e ∙ take-append-le (length old) old more (omega arith)
    ∙ take_all (length old) old (omega arith)

whole : (old new : List ℕ) → new ≡ old → take (length old) new ≡ old
whole old new e = ap (λ (b : List ℕ). take (length old) b) e ∙ take_all (length old) old (omega arith)

-- whatever was written before
pub usable_kept : (s s' : WriterState) (i : StreamItem) (old new : List ℕ) (f : WriteFault) → IsUsableWriter s
    → WritesNext (within_trees s.limits) s s' i (Some old) (Some new) (Err f)
    → (HasWriterFailed s → f ≡ writing.Failed) → Leaves s s' (Some old) (Some new) (Err f)
    → take (length old) new ≡ old
usable_kept s s' i old new (writing.Refused r) usable writes failed leaves = whole old new leaves.1
usable_kept s s' i old new writing.Memory usable writes failed leaves = whole old new leaves.1
usable_kept s s' i old new writing.Failed usable writes failed leaves = whole old new leaves.1.1
usable_kept s s' i old new writing.Write (has_failed h) writes failed leaves = absurd (cc (failed h))
usable_kept s s' i old new writing.Write (has_written h) writes failed leaves =
    let wrote = writes h.items h.bytes h.table h.written in
    cut old new wrote.prefix wrote.out

pub kept_so : (s s' : WriterState) (i : StreamItem) (old new before waits : List ℕ) (n : ℕ)
    (r : Result (Unit {0}) WriteFault) → IsUsableWriter s
    → WritesNext (within_trees s.limits) s s' i (Some old) (Some new) r → (HasWriterFailed s → r ≡ Err writing.Failed)
    → Leaves s s' (Some old) (Some new) r → old ≡ before → n ≡ length before → waits ≡ take n new
    → OnErr r (waits ≡ before)
kept_so s s' i old new before waits n (Ok u) usable writes failed leaves was count is = tt
kept_so s s' i old new before waits n (Err f) usable writes failed leaves was count is =
    is ∙ ap (λ (m : ℕ). take m new) (count ∙ ap length (sym was))
    ∙ usable_kept s s' i old new f usable writes (λ h. cc (failed h)) leaves ∙ was

-- ---- of a writer that was as another before

stays : (s m : WriterState) (P : Type 0) (s' : WriterState) → m ≡ s → (s' ≡ m) ⊎ P → (s' ≡ s) ⊎ P
stays s m P s' same (inl e) = inl (e ∙ same)
stays s m P s' same (inr p) = inr p

as_before : (w m w' : PlainWriter) → IsAsBefore w m → IsAsBefore m w' → IsAsBefore w w'
as_before w m w' first then = record { stream = then.stream ∙ first.stream; waits = then.waits ∙ first.waits }

lacks : (w m w' : PlainWriter) → IsAsBefore w m → LacksMemory m w' → LacksMemory w w'
lacks w m w' first then = record {
  waits = then.waits ∙ first.waits;
  state = stays w.stream m.stream (HasWriterFailed w'.stream) w'.stream first.stream then.state;
}

wrote_from : (w m w' : PlainWriter) (items : List StreamItem) (bytes : List ℕ) (T : Table) (i : StreamItem)
    → IsAsBefore w m → WroteNext m w' items bytes T i → WroteNext w w' items bytes T i
wrote_from w m w' items bytes T i first wrote =
    subst (λ (b : List ℕ). WroteItem (within_trees w.stream.limits) w.stream w'.stream items bytes T i (Some b)
    (Some (waiting w'))) first.waits
    (subst (λ (s : WriterState). WroteItem (within_trees s.limits) s w'.stream items bytes T i (Some (waiting m))
    (Some (waiting w'))) first.stream wrote)

-- what the text says is the item
pub says_item : (w m : PlainWriter) (T : Table) (text : List ℕ) (v : Tree) {items : List StreamItem} {bytes : List ℕ}
    → HasWritten w.stream items bytes T → m.making ≡ w.making
    → SaysPlain w.making.lenient (writer_types w.stream) w.making.id text (Some v)
    → SaysValue w T text (puts m.making.id v)
says_item w m T text v h same said =
    subst (λ (k : Making). SaysValue w T text (puts k.id v)) (sym same)
    (says_value (subst (λ (U : Table). SaysPlain w.making.lenient U w.making.id text (Some v)) h.table said))

-- a writer of the same stream
pub same_stream : {s m : WriterState} {items : List StreamItem} {bytes : List ℕ} {T : Table} → m ≡ s
    → HasWritten s items bytes T → HasWritten m items bytes T
same_stream {items = items} {bytes = bytes} {T = T} same h =
    subst (λ (k : WriterState). HasWritten k items bytes T) (sym same) h

-- the value that the text says is written
pub value_put : (w m w' : PlainWriter) (items : List StreamItem) (bytes : List ℕ) (T : Table) (text : List ℕ)
    (i : StreamItem) (u : Unit {0}) → IsAsBefore w m → SaysValue w T text i
    → WritesValue m w' items bytes T i (Ok u) → PutAnswers w w' items bytes T text (Ok u)
value_put w m w' items bytes T text i u first says wrote =
    wrote_value says (wrote_from w m w' items bytes T i first wrote)

-- or it isn't
pub value_refused : (w m w' : PlainWriter) (items : List StreamItem) (bytes : List ℕ) (T : Table) (text : List ℕ)
    (i : StreamItem) (f : WriteFault) → IsAsBefore w m → SaysValue w T text i
    → WritesValue m w' items bytes T i (Err f) → PutAnswers w w' items bytes T text (Err (putting_fault f))
value_refused w m w' items bytes T text i (writing.Refused r) first says refused = record {
  item = i;
  says = says;
  refused = subst (λ (s : WriterState). RefusesItem base_table (within_trees s.limits) T (length bytes) i r)
      first.stream refused.0;
  same = as_before w m w' first refused.1;
}
value_refused w m w' items bytes T text i writing.Write first says wrote = lacks w m w' first wrote
value_refused w m w' items bytes T text i writing.Memory first says wrote = lacks w m w' first wrote
value_refused w m w' items bytes T text i writing.Failed first says wrote = absurd wrote
