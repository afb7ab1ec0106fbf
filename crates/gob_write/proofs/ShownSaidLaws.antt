-- What a writer answers of an item is what is due of the shown line that says it.
use Rattle.std.proofs.Common.{◌≡◌, ℕ, List, IfErr, Option, Result, Ok, Err, refl, sym, ap, subst, ◌∙◌}
use Rattle.std.specs.Prelude.{Bool}
use Rattle.std.specs.Str.{IsUtf8}
use Rattle.std.proofs.KnownBytes.{Keeps-refl}
use Rattle.json.specs.Lex.{tokens}
use Rattle.json.specs.Token.{Token}
use Rattle.gob_types.specs.Base.{base_table}
use Rattle.gob_types.specs.Denial.{IsDenial}
use Rattle.gob_types.specs.Table.{Table}
use Rattle.gob_types.specs.declared.denial.Denial.{Denial}
use Rattle.gob_types.specs.declared.denial.Denial.TheVariants as denial
use Rattle.gob_types.specs.declared.id.TypeId.{TypeId}
use Rattle.gob_types.specs.declared.kind.Shape.{Shape}
use Rattle.gob_stream.specs.Bounds.{Bounds, within_trees}
use Rattle.gob_stream.specs.Machine.Denial.{write_fault}
use Rattle.gob_stream.specs.WriterRefusal.{RefusesType}
use Rattle.gob_stream.specs.declared.fault.WriteFault.{WriteFault}
use Rattle.gob_stream.specs.declared.fault.WriteFault.TheVariants as writing
use Rattle.gob_filled.specs.Filled.{SpellsFilled}
use Rattle.gob_filled.specs.Stream.{FilledItem}
use Rattle.gob_filled_writer.specs.Writing.{HasWritten, WriteAnswers, limits_of, types_of}
use Rattle.gob_filled_writer.specs.declared.writer.FilledWriter.{FilledWriter}
use Rattle.gob_lines.specs.Complete.{SaysDefinition}
use Rattle.gob_lines.specs.Reads.{IsWrong}
use Rattle.gob_lines.specs.declared.fault.LineFault.{LineFault}
use Rattle.gob_go_lines.specs.Lines.{ReadsPut, SaysPut, Tells, TellsFilled, TellsUnready}
use Rattle.gob_go_lines.specs.declared.line.Form.{Form}
use Rattle.gob_go_lines.specs.declared.line.GoLine.{GoLine}
use Rattle.gob_go_lines.specs.declared.line.GoLine.TheVariants as line
use Rattle.gob_write.specs.Faults.{IsWrongAt, writing_result}
use Rattle.gob_write.specs.Shown.{DefinesDefinable, FilledLineAnswers, HasWrittenFilled, SaysFilledItem, SaysNeither}
use Rattle.gob_write.specs.Shown.{WritesFilledSaid, refuses_filled, refuses_unready, wrote_filled}
use Rattle.gob_write.specs.declared.fault.LinesFault.{LinesFault}
use Rattle.gob_write.specs.declared.fault.LinesFault.TheVariants as fault
use Rattle.gob_write.specs.declared.shown.ShownWriter.{ShownWriter}

-- writing the item that the line says
said_by : {H : Bool} {L : Bounds} {w : ShownWriter} (w' : ShownWriter) {i : FilledItem} {text : List ℕ}
    {items : List FilledItem} {bytes : List ℕ} {T : Table} (old new : Option (List ℕ))
    (r : Result (Unit {0}) WriteFault)
    → HasWrittenFilled H L w items bytes T → SaysFilledItem T H L.depth text i → w'.form ≡ w.form
    → WriteAnswers L w.writer w'.writer items bytes T i old new r
    → WritesFilledSaid H L w' items bytes T text old new r
said_by w' {i = i} old new (Ok u) h says same wrote = wrote_filled (record {
  item = i;
  says = says;
  more = wrote.more;
  table = wrote.table;
  is_item = wrote.item;
  out = wrote.out;
  written = record {
    written = wrote.written;
    limits = ap within_trees wrote.limits ∙ h.limits;
    form = same ∙ h.form;
  };
})
said_by w' old new (Err (writing.Refused r)) h says same answers = (refuses_filled says answers.0, answers.1.1)
said_by w' {i = i} old new (Err writing.Write) h says same answers =
    let wrote = answers.0 in
    record {
      item = i;
      says = says;
      prefix = wrote.prefix;
      rest = wrote.rest;
      table = wrote.table;
      is = wrote.item;
      out = wrote.out;
    }
said_by w' old new (Err writing.Memory) h says same answers = answers.1
said_by w' old new (Err writing.Failed) h says same answers = absurd answers

pub item_said : (H : Bool) (L : Bounds) (w w' : ShownWriter) (i : FilledItem) (text : List ℕ) (items : List FilledItem)
    (bytes : List ℕ) (T : Table) (old new : Option (List ℕ)) (r : Result (Unit {0}) WriteFault)
    → HasWrittenFilled H L w items bytes T → SaysFilledItem T H L.depth text i → w'.form ≡ w.form
    → WriteAnswers (within_trees (limits_of w.writer)) w.writer w'.writer items bytes T i old new r
    → WritesFilledSaid H L w' items bytes T text old new r
item_said H L w w' i text items bytes T old new r h says same answers =
    said_by {w = w} w' old new r h says same
    (subst (λ (K : Bounds). WriteAnswers K w.writer w'.writer items bytes T i old new r) h.limits answers)

-- the bytes that a line tells spell its value, no deeper than the writer takes
pub spelled_within : {H : Bool} {L : Bounds} (w : ShownWriter) {items : List FilledItem} {bytes body : List ℕ}
    {T : Table} {id : TypeId} {ts rest : List Token} → HasWrittenFilled H L w items bytes T
    → (told : TellsFilled T H id L.depth body ts rest) → let K = within_trees (limits_of w.writer) in
    SpellsFilled base_table K T id K.depth told.value body T
spelled_within w {body = body} {T = T} {id = id} h told =
    subst (λ (K : Bounds). SpellsFilled base_table K T id K.depth told.value body T) (sym h.limits)
    (told.spelled base_table _)

-- a value of a type that isn't ready
pub unready_said : (H : Bool) (L : Bounds) (w' : ShownWriter) (why : Denial) (id : TypeId) (text : List ℕ)
    (items : List FilledItem) (bytes : List ℕ) (T : Table) (old : Option (List ℕ)) → TellsUnready T id (tokens text)
    → IsDenial (RefusesType T id) why → WritesFilledSaid H L w' items bytes T text old old (Err (write_fault why))
unready_said H L w' (denial.Refused r) id text items bytes T old tells why =
    (refuses_unready id tells why, Keeps-refl old)
unready_said H L w' denial.Memory id text items bytes T old tells why = Keeps-refl old

-- what a line defines can be described
pub definable_told : (T : Table) (H : Bool) (limit : ℕ) (text : List ℕ) (said : GoLine) → Tells T H limit text said
    → DefinesDefinable said
definable_told T H limit text line.Empty tells = tt
definable_told T H limit text (line.Define id s) tells = tells.0
definable_told T H limit text (line.Put id body) tells = tt
definable_told T H limit text (line.Unready id) tells = tt

-- a writer of the same stream
pub same_writer : {H : Bool} {L : Bounds} {w : ShownWriter} {items : List FilledItem} {bytes : List ℕ} {T : Table}
    (w' : ShownWriter) → w'.writer ≡ w.writer → w'.form ≡ w.form → HasWrittenFilled H L w items bytes T
    → HasWrittenFilled H L w' items bytes T
same_writer {items = items} {bytes = bytes} {T = T} w' writer same h = record {
  written = subst (λ (v : FilledWriter). HasWritten v items bytes T) (sym writer) h.written;
  limits = ap (λ (v : FilledWriter). within_trees (limits_of v)) writer ∙ h.limits;
  form = same ∙ h.form;
}

-- what the line tells, by the types and the limit of the stream
pub told_by : {H : Bool} {L : Bounds} {w : ShownWriter} {items : List FilledItem} {bytes : List ℕ} {T : Table}
    (text : List ℕ) (said : GoLine) → HasWrittenFilled H L w items bytes T
    → Tells (types_of w.writer) w.form.holds w.form.depth text said → Tells T H L.depth text said
told_by {w = w} {T = T} text said h tells = subst (λ (f : Form). Tells T f.holds f.depth text said) h.form
    (subst (λ (K : Table). Tells K w.form.holds w.form.depth text said) h.written.table tells)

-- a line that can't be read says neither a value nor a definition
pub neither_said : {H : Bool} {L : Bounds} {w : ShownWriter} {items : List FilledItem} {bytes : List ℕ} {T : Table}
    (text : List ℕ) → HasWrittenFilled H L w items bytes T
    → ((id : TypeId) (body : List ℕ) → SaysPut (types_of w.writer) w.form.holds w.form.depth (tokens text) id body → ⊥)
    → ((id : TypeId) (s : Shape) → SaysDefinition (tokens text) id s → ⊥) → SaysNeither T H L.depth text
neither_said {w = w} {T = T} text h none undefined =
    subst (λ (f : Form). SaysNeither T f.holds f.depth text) h.form
    (subst (λ (K : Table). SaysNeither K w.form.holds w.form.depth text) h.written.table
    (record { value = none; definition = undefined }))

-- where all bytes that a line says are read, a line with which something is wrong says none
pub none_read : (r : Result GoLine LineFault) (A : Type 0) {P : TypeId → List ℕ → Type 0}
    → ((id : TypeId) (body : List ℕ) → P id body → ReadsPut r id body)
    → IfErr r (λ f. IsWrong f → A → (id : TypeId) (body : List ℕ) → P id body → ⊥)
none_read (Ok said) A read = tt
none_read (Err f) A read = λ wrong text id body says. read id body says wrong

-- as the line of its number
pub said_told : (H : Bool) (L : Bounds) (w' : ShownWriter) (items : List FilledItem) (bytes : List ℕ) (T : Table)
    (text : List ℕ) (number : ℕ) (old new : Option (List ℕ)) (written : Result (Unit {0}) WriteFault)
    (r : Result (Unit {0}) LinesFault) → r ≡ writing_result number written
    → WritesFilledSaid H L w' items bytes T text old new written
    → FilledLineAnswers H L w' items bytes T text number old new r
said_told H L w' items bytes T text number old new written r is answers =
    subst (FilledLineAnswers H L w' items bytes T text number old new) (sym is) (by written answers)
  where
    by : (written : Result (Unit {0}) WriteFault) → WritesFilledSaid H L w' items bytes T text old new written
        → FilledLineAnswers H L w' items bytes T text number old new (writing_result number written)
    by (Ok u) answers = answers
    by (Err (writing.Refused r)) answers = (refl, answers.0, answers.1)
    by (Err writing.Write) answers = answers
    by (Err writing.Memory) answers = answers
    by (Err writing.Failed) answers = absurd answers

-- a line with which something is wrong
pub wrong_told : (H : Bool) (L : Bounds) (w' : ShownWriter) (items : List FilledItem) (bytes : List ℕ) (T : Table)
    (text : List ℕ) (number : ℕ) (old : Option (List ℕ)) (f : LinesFault) → IsWrongAt number f
    → (IsUtf8 text → SaysNeither T H L.depth text) → FilledLineAnswers H L w' items bytes T text number old old (Err f)
wrong_told H L w' items bytes T text number old (fault.Wrong n column path due) is none = (is, none, Keeps-refl old)
wrong_told H L w' items bytes T text number old (fault.Refused n r) is none = absurd is
wrong_told H L w' items bytes T text number old (fault.TooLong n m) is none = absurd is
wrong_told H L w' items bytes T text number old fault.Read is none = absurd is
wrong_told H L w' items bytes T text number old fault.Write is none = absurd is
wrong_told H L w' items bytes T text number old fault.Memory is none = Keeps-refl old
