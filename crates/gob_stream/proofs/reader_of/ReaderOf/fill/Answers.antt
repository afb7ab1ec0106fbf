use Rattle.std.proofs.Common.{◌∙◌, Bool, ap, refl}
use Rattle.gob_types.specs.Defined.{types}
use Rattle.gob_stream.specs.Calls.Ends.{failed_reads, reader_of}
use Rattle.gob_stream.specs.Calls.ReaderOf.{KnowsTypesBy, session_of, types_behind}
use Rattle.gob_stream.proofs.Reader.ReaderOfLaws.{counts_at, counts_nothing, fills_at, fills_from, knows_so, read_on}
use Rattle.gob_stream.proofs.Reader.ReaderOfLaws.{read_refuses_none, read_stops, reads_fall, refusal_at, stands_so}
use Rattle.gob_stream.proofs.reader_of.ReaderOf.fill.Goals as goal

pub returns-then-has_failed-clause-filled : goal.returns-then-has_failed-clause-filled
returns-then-has_failed-clause-filled g c = λ read items h bytes known.
    c.if-has_failed.ensures.unread refl items h.taken h.gave

pub reads-init : goal.reads-init
reads-init g c = (refl, refl, λ read items h. stands_so g.S.Steps.stepping h, c.if-has_failed.ensures.failed)

pub reads-preserved : goal.reads-preserved
reads-preserved g c =
    let i = c.reads.invariant in (
      c.in_ok-read_once.ensures.same ∙ i.0,
      c.in_ok-read_once.ensures.reads ∙ i.1,
      λ read items h. read_on g.S.Steps.stepping c.in_ok-read_once.ensures.same
          (c.has_next.ensures.lacks c.if-has_next.false)
          c.in_ok-read_once.ensures.read (i.2 read items h),
      i.3,
    )

pub reads-smaller : goal.reads-smaller
reads-smaller g c =
    reads_fall g.S.Steps.stepping c.in_ok-read_once.ensures.same c.in_ok-read_once.ensures.read
    (c.has_next.ensures.lacks c.if-has_next.false)
    c.if-self.false

pub returns-then-has_next-clause-filled : goal.returns-then-has_next-clause-filled
returns-then-has_next-clause-filled g c = λ read items h.
    let D = g.S.Steps.stepping in
    let i = c.reads.invariant in
    ((i.2 read items h).has, ap (λ s. D.taken s) i.0, ap (λ s. types (D.table s)) i.0)

pub returns-then-self-clause-filled : goal.returns-then-self-clause-filled
returns-then-self-clause-filled g c = λ read items h.
    let i = c.reads.invariant in
    fills_from g.S.Steps.stepping (session_of c.args.self.now) c.reads.self c.end.new.self read
    (g.R.Read.remaining (reader_of c.reads.input)) items c.end.result i.0 (i.2 read items h)
    (c.end.ensures.filled read (g.R.Read.remaining (reader_of c.reads.input)) items (i.2 read items h).has)

pub returns-then-self-clause-counted : goal.returns-then-self-clause-counted
returns-then-self-clause-counted g c =
    counts_nothing Bool (failed_reads c.args.input.now) (failed_reads c.reads.input) c.end.result c.reads.invariant.1
    c.end.ensures.unread

pub returns-in_err-read_once-clause-filled : goal.returns-in_err-read_once-clause-filled
returns-in_err-read_once-clause-filled g c = λ read items h.
    let D = g.S.Steps.stepping in
    let i = c.reads.invariant in
    let e = c.in_err-read_once.field-0.0 in
    let now = g.R.Read.remaining (reader_of c.read_once.new.input) in
    fills_at D (session_of c.args.self.now) (types_behind D h) c.read_once.new.self read now items
    c.from_residual.result e c.from_residual.ensures.1
    (read_stops D (session_of c.args.self.now)
    c.read_once.new.self now e i.0 (c.has_next.ensures.lacks c.if-has_next.false)
    c.in_err-read_once.ensures.given c.in_err-read_once.ensures.read (i.2 read items h))

pub returns-in_err-read_once-clause-counted : goal.returns-in_err-read_once-clause-counted
returns-in_err-read_once-clause-counted g c =
    counts_at Bool (failed_reads c.args.input.now) (failed_reads c.reads.input) (failed_reads c.read_once.new.input)
    c.from_residual.result c.in_err-read_once.field-0.0 c.from_residual.ensures.1 c.reads.invariant.1
    c.in_err-read_once.ensures.reads

pub returns-then-has_next-clause-refused : goal.returns-then-has_next-clause-refused
returns-then-has_next-clause-refused g c = λ read items h. tt

pub returns-then-self-clause-refused : goal.returns-then-self-clause-refused
returns-then-self-clause-refused g c = λ read items h.
    let D = g.S.Steps.stepping in
    let i = c.reads.invariant in
    let now = g.R.Read.remaining (reader_of c.reads.input) in
    knows_so D (session_of c.args.self.now) (session_of c.reads.self) read now items
    (types (D.table (session_of c.end.new.self))) c.end.result i.0
    (c.end.ensures.refused read now items (i.2 read items h).has)

pub returns-in_err-read_once-clause-refused : goal.returns-in_err-read_once-clause-refused
returns-in_err-read_once-clause-refused g c = λ read items h.
    let D = g.S.Steps.stepping in
    let e = c.in_err-read_once.field-0.0 in
    let now = g.R.Read.remaining (reader_of c.read_once.new.input) in
    let P : Type 0 = KnowsTypesBy D (D.limits (session_of c.args.self.now)) read now items
    (types (D.table (session_of c.read_once.new.self))) in
    refusal_at (Unit {0}) P c.from_residual.result e c.from_residual.ensures.1
    (read_refuses_none c.reads.self c.read_once.new.self (g.R.Read.remaining (reader_of c.reads.input)) now P e
    c.in_err-read_once.ensures.read)
