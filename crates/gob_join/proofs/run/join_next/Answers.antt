-- What a step gave is taken in.
use Rattle.std.proofs.Common.{refl, subst, sym, ap}
use Rattle.std.specs.Io.KnownBytes.{Appends, append_known}
use Rattle.gob_types.specs.Defined.{types}
use Rattle.gob_stream.specs.Calls.Ends.{writer_of}
use Rattle.gob_stream.specs.Calls.Writing.{SentPrefix}
use Rattle.gob_join.specs.Faults.{reading_fault}
use Rattle.gob_join.specs.Renaming.{among}
use Rattle.gob_join.specs.declared.join_fault.JoinFault.TheVariants as fault
use Rattle.gob_join.proofs.JoiningLaws.{appends_made, cut_short, joins_step, joins_stopped, next_at, reads_on}
use Rattle.gob_join.proofs.JoiningLaws.{some_joined}
use Rattle.gob_join.proofs.JoiningLaws.{reading_unread, reading_writes, taking_at, taking_unread, taking_writes}
use Rattle.gob_join.proofs.JoiningLaws.{writing_writes}
use Rattle.gob_join.proofs.run.join_next.Goals as goal

pub returns-in_err-step-clause-joined : goal.returns-in_err-step-clause-joined
returns-in_err-step-clause-joined g c = λ read now before out start s.
    let e = c.in_err-step.field-0.0 in
    next_at c.args.reader.now c.step.new.self read now c.args.writer.now before out (among c.args.known.now.renaming)
    start
    (g.W.Write.contents (writer_of c.args.output.now)) c.from_residual.result (reading_fault e)
    c.from_residual.ensures.1
    (joins_stopped c.step.new.self now e s.has.gave.table s c.in_err-step.ensures.limits
    (c.in_err-step.ensures.stepped read now s.given s.has))

pub returns-in_err-take_step-clause-joined : goal.returns-in_err-take_step-clause-joined
returns-in_err-take_step-clause-joined g c = λ read now before out start s.
    taking_at c.args.reader.now c.step.new.self read now c.take_step.new.writer before out _ start _
    c.from_residual-in_err-take_step.result c.in_err-take_step.field-0.0 c.from_residual-in_err-take_step.ensures.1
    s c.in_ok-step.ensures.limits (sym c.in_err-take_step.ensures.kept)

pub returns-in_err-send_all-clause-joined : goal.returns-in_err-send_all-clause-joined
returns-in_err-send_all-clause-joined g c = λ read now before out start s.
    let mid = g.W.Write.contents (writer_of c.args.output.now) in
    let text = c.take_step.new.text.items in
    let st = c.in_ok-step.ensures.stepped read now s.given s.has in
    let so = joins_step c.in_ok-step.step.item text s c.in_ok-step.ensures.limits st.takes.after
    (ap types c.table.ensures) c.new-text.ensures.items c.in_ok-step.ensures.between st.gives
    c.in_ok-take_step.ensures.taken (appends_made mid text) in
    let sent = subst (λ l. SentPrefix l mid (g.W.Write.contents (writer_of c.send_all.new.self)))
    c.deref.ensures.value c.in_err-send_all.ensures.prefix in
    next_at c.args.reader.now c.step.new.self read now c.take_step.new.writer before out
    (among c.take_step.new.known.renaming) start (g.W.Write.contents (writer_of c.send_all.new.self))
    c.from_residual-in_err-send_all.result fault.Write c.from_residual-in_err-send_all.ensures.1
    (λ bytes known. record {
      made = append_known mid text;
      some = some_joined c.step.new.self c.take_step.new.writer so refl refl bytes known;
      more = so.joins.more;
      whole = so.joins.sent;
      cut = cut_short start mid _ s.joins.more text so.joins.more s.joins.sent sent so.joins.sent;
    })

pub returns-clause-joined : goal.returns-clause-joined
returns-clause-joined g c = λ read now before out start s.
    let st = c.in_ok-step.ensures.stepped read now s.given s.has in
    joins_step c.in_ok-step.step.item c.take_step.new.text.items s c.in_ok-step.ensures.limits st.takes.after
    (ap types c.table.ensures)
    c.new-text.ensures.items c.in_ok-step.ensures.between st.gives c.in_ok-take_step.ensures.taken
    (subst (λ l. Appends (g.W.Write.contents (writer_of c.args.output.now))
    (g.W.Write.contents (writer_of c.send_all.new.self)) l) c.deref.ensures.value c.in_ok-send_all.ensures.ok)

pub returns-clause-onward : goal.returns-clause-onward
returns-clause-onward g c = λ read now s. reads_on s c.in_ok-step.ensures.used
    (c.in_ok-step.ensures.stepped read now s.given s.has)

pub returns-in_err-step-clause-writes : goal.returns-in_err-step-clause-writes
returns-in_err-step-clause-writes g c =
    reading_writes _ c.in_err-step.field-0.0 c.from_residual.result c.from_residual.ensures.1

pub returns-in_err-step-clause-unread : goal.returns-in_err-step-clause-unread
returns-in_err-step-clause-unread g c = reading_unread c.in_err-step.field-0.0 c.from_residual.result
    c.from_residual.ensures.1 c.in_err-step.ensures.unread

pub returns-in_err-take_step-clause-writes : goal.returns-in_err-take_step-clause-writes
returns-in_err-take_step-clause-writes g c = taking_writes _ c.in_err-take_step.field-0.0
    c.from_residual-in_err-take_step.result c.from_residual-in_err-take_step.ensures.1

pub returns-in_err-take_step-clause-unread : goal.returns-in_err-take_step-clause-unread
returns-in_err-take_step-clause-unread g c = taking_unread c.in_err-take_step.field-0.0
    c.from_residual-in_err-take_step.result c.from_residual-in_err-take_step.ensures.1

pub returns-in_err-send_all-clause-writes : goal.returns-in_err-send_all-clause-writes
returns-in_err-send_all-clause-writes g c = writing_writes _ _ c.in_err-send_all.field-0.0
    c.from_residual-in_err-send_all.result c.from_residual-in_err-send_all.ensures.1 c.in_err-send_all.ensures.fault
    c.in_err-send_all.ensures.counted
