use Rattle.std.proofs.Common.{subst, sym}
use Rattle.gob_num.specs.Spelled.{IsSpelled}
use Rattle.gob_types.specs.Defined.{Defined, types}
use Rattle.gob_go.specs.Machine.SessionState.{SessionState}
use Rattle.gob_go_writer.specs.Calls.Writer.{HasReadWhole}
use Rattle.gob_go_writer.specs.Machine.ReadingBack.{ReadBackAnswers, ReadsBack}
use Rattle.gob_go_writer.specs.Machine.Unfit.{IsUnfit}
use Rattle.gob_go_writer.specs.Spelling.{IsSpelling}
use Rattle.gob_go_writer.proofs.WriterSteps.{fault_passed, not_spelled, spelled_as}
use Rattle.gob_go_writer.proofs.writer.read_back.Goals as goal

pub returns-in_err-spell_item-clause-read : goal.returns-in_err-spell_item-clause-read
returns-in_err-spell_item-clause-read c = λ items z w.
    let s = c.args.session.now in
    let kept = c.args.item.now in
    let bytes = c.spell_item.new.out.items in
    let why = c.in_err-spell_item.field-0.0 in
    fault_passed c.from_residual.result (λ r. ReadBackAnswers s s items z kept bytes r) c.from_residual.ensures.1
    (not_spelled s s kept bytes why w
    (subst (λ (d : Defined). IsUnfit (IsSpelled (IsSpelling (types d) kept)) why) c.table.ensures
    c.in_err-spell_item.ensures.refused))

pub read_plain-requires : goal.read_plain-requires
read_plain-requires c =
    spelled_as c.args.session.now c.table.ensures c.requires c.deref.ensures.value c.in_ok-spell_item.ensures.ok

pub returns-then-read_plain-clause-read : goal.returns-then-read_plain-clause-read
returns-then-read_plain-clause-read c = λ items z w.
    subst (λ b. ReadsBack c.args.session.now c.read_plain.new.session items z c.args.item.now b) c.deref.ensures.value
    (c.read_plain.ensures.read c.if-read_plain.true items z w)
