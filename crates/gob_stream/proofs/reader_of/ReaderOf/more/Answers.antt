use Rattle.std.proofs.Common.{rules, ◌≡◌, ◌∙◌, Bool, ap, length, refl, sym}
use Rattle.gob_types.specs.Defined.{types}
use Rattle.gob_stream.specs.Calls.Ends.{failed_reads, reader_of}
use Rattle.gob_stream.specs.Calls.ReaderOf.{KnowsTypesBy, none_wait, session_of, types_behind}
use Rattle.gob_stream.proofs.Reader.ReaderOfLaws.{counts_at, counts_nothing, fills_at, fills_from, knows_so, no_bytes}
use Rattle.gob_stream.proofs.Reader.ReaderOfLaws.{read_on, read_refuses_none, read_stops, refusal_at, stands_so}
use Rattle.gob_stream.proofs.reader_of.ReaderOf.more.Goals as goal

pub returns-then-has_failed-clause-filled : goal.returns-then-has_failed-clause-filled
returns-then-has_failed-clause-filled g c = λ read items h bytes known.
    c.if-has_failed.ensures.unread refl items h.taken h.gave

pub returns-in_err-read_once-clause-filled : goal.returns-in_err-read_once-clause-filled
returns-in_err-read_once-clause-filled g c = λ read items h.
    let D = g.S.Steps.stepping in
    let e = c.in_err-read_once.field-0.0 in
    let now = g.R.Read.remaining (reader_of c.read_once.new.input) in
    let none : length c.bytes.result.now ≡ 0 = search rules in
    fills_at D (session_of c.args.self.now) (types_behind D h) c.read_once.new.self read now items
    c.from_residual.result e c.from_residual.ensures.1
    (read_stops D (session_of c.args.self.now)
    c.read_once.new.self now e refl (none_wait (sym c.bytes.ensures ∙ no_bytes c.bytes.result.now none))
    c.in_err-read_once.ensures.given c.in_err-read_once.ensures.read (stands_so D h))

pub returns-in_err-read_once-clause-counted : goal.returns-in_err-read_once-clause-counted
returns-in_err-read_once-clause-counted g c =
    counts_at Bool (failed_reads c.args.input.now) (failed_reads c.args.input.now) (failed_reads c.read_once.new.input)
    c.from_residual.result c.in_err-read_once.field-0.0 c.from_residual.ensures.1 refl c.in_err-read_once.ensures.reads

pub returns-then-is_empty-clause-filled : goal.returns-then-is_empty-clause-filled
returns-then-is_empty-clause-filled g c = λ read items h.
    let D = g.S.Steps.stepping in
    let on = read_on D c.in_ok-read_once.ensures.same
    (none_wait (sym c.bytes.ensures ∙ no_bytes c.bytes.result.now (search rules))) c.in_ok-read_once.ensures.read
    (stands_so D h) in
    fills_from D (session_of c.args.self.now) c.read_once.new.self c.end.new.self read
    (g.R.Read.remaining (reader_of c.read_once.new.input)) items c.end.result c.in_ok-read_once.ensures.same on
    (c.end.ensures.filled read (g.R.Read.remaining (reader_of c.read_once.new.input)) items on.has)

pub returns-then-is_empty-clause-counted : goal.returns-then-is_empty-clause-counted
returns-then-is_empty-clause-counted g c =
    counts_nothing Bool (failed_reads c.args.input.now) (failed_reads c.read_once.new.input) c.end.result
    c.in_ok-read_once.ensures.reads c.end.ensures.unread

pub returns-clause-filled : goal.returns-clause-filled
returns-clause-filled g c = λ read items h.
    let D = g.S.Steps.stepping in
    let same = c.in_ok-read_once.ensures.same in (
      (read_on D same (none_wait (sym c.bytes.ensures ∙ no_bytes c.bytes.result.now (search rules)))
          c.in_ok-read_once.ensures.read (stands_so D h)).has,
      ap (λ s. D.taken s) same,
      ap (λ s. types (D.table s)) same,
    )

pub returns-in_err-read_once-clause-refused : goal.returns-in_err-read_once-clause-refused
returns-in_err-read_once-clause-refused g c = λ read items h.
    let D = g.S.Steps.stepping in
    let e = c.in_err-read_once.field-0.0 in
    let now = g.R.Read.remaining (reader_of c.read_once.new.input) in
    let P : Type 0 = KnowsTypesBy D (D.limits (session_of c.args.self.now)) read now items
    (types (D.table (session_of c.read_once.new.self))) in
    refusal_at (Unit {0}) P c.from_residual.result e c.from_residual.ensures.1
    (read_refuses_none c.args.self.now c.read_once.new.self (g.R.Read.remaining (reader_of c.args.input.now)) now P e
    c.in_err-read_once.ensures.read)

pub returns-then-is_empty-clause-refused : goal.returns-then-is_empty-clause-refused
returns-then-is_empty-clause-refused g c = λ read items h.
    let D = g.S.Steps.stepping in
    let on = read_on D c.in_ok-read_once.ensures.same
    (none_wait (sym c.bytes.ensures ∙ no_bytes c.bytes.result.now (search rules))) c.in_ok-read_once.ensures.read
    (stands_so D h) in
    let now = g.R.Read.remaining (reader_of c.read_once.new.input) in
    knows_so D (session_of c.args.self.now) (session_of c.read_once.new.self) read now items
    (types (D.table (session_of c.end.new.self))) c.end.result c.in_ok-read_once.ensures.same
    (c.end.ensures.refused read now items on.has)
