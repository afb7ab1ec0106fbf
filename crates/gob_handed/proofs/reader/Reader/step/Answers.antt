use Rattle.std.proofs.Common.{Ok, arith, length, refl}
use Rattle.gob_stream.specs.declared.session.Advance.{Advance}
use Rattle.gob_handed.proofs.ReadingLaws.{keeps_ill, none_shown, shown_at, stays_read, steps_at, steps_from, steps_ill}
use Rattle.gob_handed.proofs.ReadingLaws.{steps_well}
use Rattle.gob_handed.proofs.reader.Reader.step.Goals as goal

pub returns-in_err-step-clause-stepped : goal.returns-in_err-step-clause-stepped
returns-in_err-step-clause-stepped g c = λ items bytes h.
    let d = g.S.Steps.stepping in
    let e = c.in_err-step.field-0.0 in
    let stays = c.in_default.ensures.none refl in
    let gave = (stays_read d stays h).gave in
    steps_from d g.S.Hands.handouts c.args.self.now c.take_whole.new.self _ items bytes c.args.piece.now _ stays
    (steps_at d bytes c.args.piece.now c.from_residual.result e c.from_residual.ensures.1
    (steps_ill d (d.behind c.take_whole.new.self.session items bytes gave) bytes c.args.piece.now e
    (c.in_err-step.ensures.stepped items bytes gave) refl refl))

pub returns-in_err-step-clause-shown : goal.returns-in_err-step-clause-shown
returns-in_err-step-clause-shown g c = λ items bytes h.
    shown_at (Advance g.row.S-Item.Denot) (length bytes) (length bytes) c.from_residual.result c.in_err-step.field-0.0
    c.from_residual.ensures.1 (omega arith)
    (c.in_err-step.ensures.shown items bytes (stays_read g.S.Steps.stepping (c.in_default.ensures.none refl) h).gave)

pub returns-in_err-keep-clause-shown : goal.returns-in_err-keep-clause-shown
returns-in_err-keep-clause-shown g c = λ items bytes h.
    none_shown (length bytes) c.from_residual-in_err-keep.result c.in_err-keep.field-0.0
    c.from_residual-in_err-keep.ensures.1 c.in_err-keep.ensures.memory

pub returns-in_err-keep-clause-stepped : goal.returns-in_err-keep-clause-stepped
returns-in_err-keep-clause-stepped g c = λ items bytes h.
    let d = g.S.Steps.stepping in
    let stays = c.in_default.ensures.none refl in
    let gave = (stays_read d stays h).gave in
    let mid = record (c.take_whole.new.self) { session = c.step.new.self; offset = c.saturating_add-offset.result } in
    let e = c.in_err-keep.field-0.0 in
    let k = c.in_err-keep.ensures in
    steps_from d g.S.Hands.handouts c.args.self.now c.take_whole.new.self _ items bytes c.args.piece.now _ stays
    (steps_at d bytes c.args.piece.now c.from_residual-in_err-keep.result e c.from_residual-in_err-keep.ensures.1
    (keeps_ill d mid bytes c.args.piece.now e k.memory (c.in_ok-step.ensures.stepped items bytes gave)
    c.in_ok-step.ensures.limits k.given k.begin k.waiting))

pub returns-clause-stepped : goal.returns-clause-stepped
returns-clause-stepped g c = λ items bytes h.
    let d = g.S.Steps.stepping in
    let stays = c.in_default.ensures.none refl in
    let now = stays_read d stays h in
    let mid = record (c.take_whole.new.self) { session = c.step.new.self; offset = c.saturating_add-offset.result } in
    let s = c.in_ok-step.ensures in
    let k = c.in_ok-keep.ensures in
    steps_from d g.S.Hands.handouts c.args.self.now c.take_whole.new.self c.keep.new.self items bytes c.args.piece.now
    (Ok c.in_ok-step.step.used) stays
    (steps_well d mid {new = c.keep.new.self} bytes c.args.piece.now refl now (s.stepped items bytes now.gave) s.used.1
    s.stands s.limits c.saturating_add-offset.ensures refl refl s.between k.kept k.session k.offset)
