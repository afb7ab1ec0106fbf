use Rattle.std.proofs.Common.{◌∙◌, ap, refl, Some, subst, sym}
use Rattle.gob_stream.specs.Bounds.{within_trees}
use Rattle.gob_go.specs.Calls.Reader.{session_of}
use Rattle.gob_go.specs.Calls.Session.{limits_of}
use Rattle.gob_convert.specs.Machine.Wanted.{FindsNone}
use Rattle.gob_convert.proofs.WantedLaws.{front_noted, front_step_none, front_stops}
use Rattle.gob_convert.proofs.wanted.put_next.Goals as goal

pub returns-in-Err-clause-next : goal.returns-in-Err-clause-next
returns-in-Err-clause-next c = λ read now s bytes known.
    subst (λ e. FindsNone (within_trees (limits_of (session_of c.args.reader.now))) bytes now e) (sym
    c.of_wanted.ensures)
    (front_stops s.has.gave.table now s.given c.args.reader.now c.in-Err.fault refl
    (c.in-Err.ensures.stepped read now s.given s.has) bytes known)

pub returns-in-None-clause-next : goal.returns-in-None-clause-next
returns-in-None-clause-next c = λ read now s. front_step_none s c.in-Ok.ensures.limits c.in-None.is c.in-Ok.ensures.used
    (c.in-Ok.ensures.stepped read now s.given s.has)

pub returns-in-Some-clause-next : goal.returns-in-Some-clause-next
returns-in-Some-clause-next c = λ read now s. front_noted c.note-noted.new.front s c.in-Ok.ensures.limits
    (c.in-Some.is ∙ ap (λ x. Some x) (sym c.in-Some.item-is)) c.in-Ok.ensures.used
    (c.in-Ok.ensures.stepped read now s.given s.has) c.note-noted.result c.note-noted.ensures.noted
    c.note-noted.ensures.fault c.note-noted.ensures.limits
