-- What a writer answers of an item is what is due of the text that says it.
use Rattle.std.proofs.Common.{◌≡◌, ℕ, arith, List, length, Option, Some, Result, Ok, Err, subst, sym, ap, ◌∙◌}
use Rattle.std.proofs.KnownBytes.{Keeps-refl}
use Rattle.gob_types.specs.Table.{Table}
use Rattle.gob_value.specs.Tree.{Tree}
use Rattle.gob_stream.specs.Bounds.{Bounds, greatest_depth, within_trees}
use Rattle.gob_stream.proofs.Reader.HasReadLaws.{limits_stay}
use Rattle.gob_stream.specs.Item.{StreamItem, puts}
use Rattle.gob_stream.specs.Machine.WriterState.{WriterState}
use Rattle.gob_stream.specs.Calls.Ends.{writer_of}
use Rattle.gob_stream.specs.Calls.Writing.{HasWritten, WriteAnswers}
use Rattle.gob_stream.specs.declared.fault.WriteFault.{WriteFault}
use Rattle.gob_stream.specs.declared.fault.WriteFault.TheVariants as fault
use Rattle.gob_stream.specs.declared.output.Output.{Output}
use Rattle.gob_make.specs.Tells.{SaysPlain}
use Rattle.gob_make.specs.declared.plain.Making.{Making}
use Rattle.gob_write.specs.Faults.{IsWrongIn, writing_result}
use Rattle.gob_write.specs.Place.{IsLineIn}
use Rattle.gob_write.specs.Says.{HasWrittenTexts, IsWithinTrees, Saying, SaysItem, TextAnswers, WritesSaid, says_plain}
use Rattle.gob_write.specs.Says.{wrote_said}
use Rattle.gob_write.specs.declared.fault.LinesFault.{LinesFault}
use Rattle.gob_write.specs.declared.fault.LinesFault.TheVariants as lines
use Rattle.gob_write.specs.declared.place.Place.{Place}
use Rattle.gob_write.specs.declared.writer.PlainWriter.{PlainWriter}

said_answers : {W : Type 0} (S : Saying) (w : WriterState) (w' : PlainWriter) (i : StreamItem)
    (contents : W → Option (List ℕ)) (output output' : Output W) (result : Result (Unit {0}) WriteFault)
    (text : List ℕ) (items : List StreamItem) (bytes : List ℕ) (T : Table) → HasWritten w items bytes T
    → w.limits ≡ S.bounds → SaysItem S.making T text i
    → WriteAnswers S.bounds w w'.writer i contents output output' result → w'.making ≡ S.making
    → WritesSaid S w' items bytes T text (contents (writer_of output)) (contents (writer_of output')) result
said_answers S w w' i contents output output' (Ok u) text items bytes T written limits says answers making =
    let wrote = answers.writes items bytes T written in
    wrote_said (record {
      item = i;
      says = says;
      more = wrote.more;
      table = wrote.table;
      is_item = wrote.item;
      out = wrote.out;
      written = record {
        written = wrote.written;
        limits = wrote.limits ∙ limits;
        making = making;
      };
    })
said_answers S w w' i contents output output' (Err (fault.Refused r)) text items bytes T written limits says answers
    making =
    (record { item = i; says = says; refuses = answers.writes items bytes T written }, answers.effects.leaves.1)
said_answers S w w' i contents output output' (Err fault.Write) text items bytes T written limits says answers making =
    record { item = i; says = says; wrote = answers.writes items bytes T written }
said_answers S w w' i contents output output' (Err fault.Memory) text items bytes T written limits says answers
    making =
    answers.effects.leaves.1
said_answers S w w' i contents output output' (Err fault.Failed) text items bytes T written limits says answers
    making =
    answers.writes items bytes T written

pub same_limits : {M : Bounds} (S : Saying) → IsWithinTrees S → M ≡ S.bounds → within_trees M ≡ S.bounds
same_limits S within e =
    ap (λ (K : Bounds). within_trees K) (e ∙ within.1)
    ∙ limits_stay greatest_depth (within_trees within.0) (omega arith) ∙ sym within.1

-- a writer of the same stream
pub same_writer : {S : Saying} {w : PlainWriter} {items : List StreamItem} {bytes : List ℕ} {T : Table}
    (w' : PlainWriter) → w'.writer ≡ w.writer → w'.making ≡ w.making
    → HasWrittenTexts S w items bytes T → HasWrittenTexts S w' items bytes T
same_writer {items = items} {bytes = bytes} {T = T} w' writer making h = record {
  written = subst (λ (v : WriterState). HasWritten v items bytes T) (sym writer) h.written;
  limits = ap (λ (v : WriterState). v.limits) writer ∙ h.limits;
  making = making ∙ h.making;
}

-- what a text says as a value of this type
pub item_said : {M N P : Making} {T U : Table} {text : List ℕ} {v : Tree} → P ≡ M → M ≡ N → U ≡ T
    → SaysPlain M.lenient U M.id text (Some v) → SaysItem N T text (puts P.id v)
item_said {M = M} {N = N} {T = T} {text = text} {v = v} made same table says =
    subst (λ (m : Making). SaysItem N T text (puts m.id v)) (sym made)
    (subst (λ (m : Making). SaysItem m T text (puts M.id v)) same
    (subst (λ (K : Table). SaysItem M K text (puts M.id v)) table (says_plain says)))

-- what writing the value answers
pub value_said : {W : Type 0} {S : Saying} {w : PlainWriter} (w' : PlainWriter) (v : Tree)
    (contents : W → Option (List ℕ)) (output output' : Output W) (result : Result (Unit {0}) WriteFault)
    (text : List ℕ) {items : List StreamItem} {bytes : List ℕ} {T : Table}
    → IsWithinTrees S → HasWrittenTexts S w items bytes T → SaysItem S.making T text (puts w.making.id v)
    → w'.making ≡ w.making
    → WriteAnswers (within_trees w.writer.limits) w.writer w'.writer (puts w.making.id v) contents output output' result
    → WritesSaid S w' items bytes T text (contents (writer_of output)) (contents (writer_of output')) result
value_said {S = S} {w = w} w' v contents output output' result text {items = items} {bytes = bytes} {T = T} within h
    says making answers =
    said_answers S w.writer w' (puts w.making.id v) contents output output' result text items bytes T h.written
    h.limits says (subst (λ (K : Bounds). WriteAnswers K w.writer w'.writer (puts w.making.id v) contents output
    output' result) (same_limits S within h.limits) answers) (making ∙ h.making)

-- and what the run answers then
pub told_answers : (S : Saying) (w' : PlainWriter) (items : List StreamItem) (bytes : List ℕ) (T : Table)
    (text : List ℕ) (start : Place) (line : ℕ) (old now : Option (List ℕ)) (result : Result (Unit {0}) WriteFault)
    → IsLineIn start text line → WritesSaid S w' items bytes T text old now result
    → TextAnswers S w' items bytes T text start old now (writing_result line result)
told_answers S w' items bytes T text start line old now (Ok u) there h = h
told_answers S w' items bytes T text start line old now (Err (fault.Refused r)) there h = (there, h.0, h.1)
told_answers S w' items bytes T text start line old now (Err fault.Write) there h = h
told_answers S w' items bytes T text start line old now (Err fault.Memory) there h = h
told_answers S w' items bytes T text start line old now (Err fault.Failed) there h = absurd h

-- of a text in which something is wrong
pub wrong_answers : (S : Saying) (w' : PlainWriter) (items : List StreamItem) (bytes : List ℕ) (T : Table)
    (text : List ℕ) (start : Place) (old : Option (List ℕ)) (f : LinesFault) → IsWrongIn start text f
    → TextAnswers S w' items bytes T text start old old (Err f)
wrong_answers S w' items bytes T text start old (lines.Wrong n column path due) is = (is, Keeps-refl old)
wrong_answers S w' items bytes T text start old (lines.Refused n r) is = absurd is
wrong_answers S w' items bytes T text start old (lines.TooLong n m) is = absurd is
wrong_answers S w' items bytes T text start old lines.Read is = absurd is
wrong_answers S w' items bytes T text start old lines.Write is = absurd is
wrong_answers S w' items bytes T text start old lines.Memory is = Keeps-refl old
