use Rattle.std.proofs.Common.{ap}
use Rattle.gob_types.specs.Defined.{types}
use Rattle.gob_stream.specs.Calls.ReaderOf.{KnowsTypesBy, session_of, types_behind}
use Rattle.gob_stream.proofs.Reader.ReaderOfLaws.{end_knows, ends_whole, ends_within, fills_at, refusal_at}
use Rattle.gob_stream.proofs.reader_of.ReaderOf.end.Goals as goal

pub returns-in_err-finish-clause-filled : goal.returns-in_err-finish-clause-filled
returns-in_err-finish-clause-filled g c = λ read now items h.
    let D = g.S.Steps.stepping in
    let e = c.in_err-finish.field-0.0 in
    fills_at D (session_of c.args.self.now) (types_behind D h) _ read now items c.from_residual.result e
    c.from_residual.ensures.1
    (ends_within D c.finish.new.self e h c.requires.none c.requires.ended
    (c.in_err-finish.ensures.finished items h.taken h.gave))

pub returns-clause-filled : goal.returns-clause-filled
returns-clause-filled g c = λ read now items h.
    let D = g.S.Steps.stepping in (
      ends_whole D c.finish.new.self tt h c.requires.none c.requires.ended
          (c.in_ok-finish.ensures.finished items h.taken h.gave),
      ap (λ t. types t) c.in_ok-finish.ensures.types,
    )

pub returns-in_err-finish-clause-refused : goal.returns-in_err-finish-clause-refused
returns-in_err-finish-clause-refused g c = λ read now items h.
    let D = g.S.Steps.stepping in
    let e = c.in_err-finish.field-0.0 in
    let s = session_of c.args.self.now in
    refusal_at (Unit {0}) (KnowsTypesBy D (D.limits s) read now items (types (D.table c.finish.new.self)))
    c.from_residual.result e c.from_residual.ensures.1
    (end_knows D c.finish.new.self e h c.requires.none (c.in_err-finish.ensures.finished items h.taken h.gave))

pub returns-clause-refused : goal.returns-clause-refused
returns-clause-refused g c = λ read now items h. tt
