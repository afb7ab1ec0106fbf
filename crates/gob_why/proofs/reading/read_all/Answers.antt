-- From turn to turn what was read is kept, and each end is that of the stream.
use Rattle.std.proofs.Common.{[], ◌++◌, ◌∙◌, ap, drop, refl}
use Rattle.std.proofs.KnownBytes.{Keeps-refl}
use Rattle.gob_types.specs.Defined.{types}
use Rattle.gob_explain.specs.Machine.Putting.{puts_nothing}
use Rattle.gob_explain.specs.Putting.{PutsMore}
use Rattle.gob_stream.specs.Bounds.{within_trees}
use Rattle.gob_stream.specs.Calls.Ends.{reader_of}
use Rattle.gob_stream.specs.Calls.Waiting.{waiting}
use Rattle.gob_stream.specs.declared.fault.Fault.TheVariants as reading
use Rattle.gob_go.specs.Calls.Session.{limits_of, types_of}
use Rattle.gob_tool.proofs.CheckLaws.{limits_as}
use Rattle.gob_why.specs.Machine.Reading.{HasTaken, ReadsAll}
use Rattle.gob_why.proofs.ReadingLaws.{at_fault, begins_all, end_stops, end_whole, more_came, more_stops, next_falls}
use Rattle.gob_why.proofs.ReadingLaws.{next_lost, next_stops, next_taken, puts_flushed, puts_then, some_taken}
use Rattle.gob_why.proofs.ReadingLaws.{taken_first}
use Rattle.gob_why.proofs.reading.read_all.Goals as goal

pub returns-in_err-waiting-clause-read : goal.returns-in_err-waiting-clause-read
returns-in_err-waiting-clause-read g c =
    let o = c.args.kept.now.explained in
    let s = c.args.session.now in
    let k = c.args.kept.now in
    let read = g.R.Read.remaining (reader_of c.args.input.now) in
    let first = taken_first o s k.items k.item.items k.begin read [] refl c.requires.first in record {
      text = [];
      put = puts_nothing g.O.TextOut.puts g.met.O.TextOut.nothing c.args.lines.now.out c.args.lines.now.fault;
      holds = at_fault (λ r. ReadsAll o (within_trees (limits_of s)) (types_of s) k.items read read k.item.items k.begin
          r []) c.from_residual.result reading.Memory c.from_residual.ensures.1
          (λ bytes known. begins_all first (limits_of s) read refl (Keeps-refl read) bytes known);
    }

pub items-init : goal.items-init
items-init g c = (
  refl,
  refl,
  refl,
  record {
    text = [];
    put = puts_nothing g.O.TextOut.puts g.met.O.TextOut.nothing c.args.lines.now.out c.args.lines.now.fault;
    holds = taken_first _ _ _ _ _ (g.R.Read.remaining (reader_of c.args.input.now)) _ c.in_ok-waiting.ensures.none
        c.requires.first;
  },
)

pub returns-in_err-has_more-clause-read : goal.returns-in_err-has_more-clause-read
returns-in_err-has_more-clause-read g c =
    let i = c.items.invariant in
    let p = i.3 in
    let k = c.items.kept in
    let e = c.in_err-has_more.field-0.0 in
    let M = limits_of c.args.session.now in
    let U = types_of c.items.session in
    let read = g.R.Read.remaining (reader_of c.args.input.now) in
    let next = g.R.Read.remaining (reader_of c.has_more.new.input) in record {
      text = p.text;
      put = p.put;
      holds = at_fault (λ r. ReadsAll c.args.kept.now.explained (within_trees M) U k.items read next k.item.items
          k.begin r p.text) c.from_residual-in_err-has_more.result e c.from_residual-in_err-has_more.ensures.1
          (more_stops p.holds M U next [] e i.0 c.in_err-has_more.ensures.read);
    }

pub returns-in_err-finish-clause-read : goal.returns-in_err-finish-clause-read
returns-in_err-finish-clause-read g c =
    let i = c.items.invariant in
    let p = i.3 in
    let h = p.holds in
    let k = c.items.kept in
    let e = c.in_err-finish.field-0.0 in
    let M = limits_of c.args.session.now in
    let s = c.finish.new.self in
    let read = g.R.Read.remaining (reader_of c.args.input.now) in
    let next = g.R.Read.remaining (reader_of c.has_more.new.input) in record {
      text = p.text;
      put = p.put;
      holds = at_fault (λ r. ReadsAll c.args.kept.now.explained (within_trees M) (types_of s) k.items read next
          k.item.items k.begin r p.text) c.from_residual-in_err-finish.result e c.from_residual-in_err-finish.ensures.1
          (end_stops h s M next [] e i.0 (ap types c.in_err-finish.ensures.types)
          (rw c.if-not-branch.true at c.in_ok-has_more.ensures.read)
          (c.in_err-finish.ensures.finishes h.has.given h.taken h.has.gave));
    }

pub returns-then-not-branch-clause-read : goal.returns-then-not-branch-clause-read
returns-then-not-branch-clause-read g c =
    let i = c.items.invariant in
    let p = i.3 in
    let h = p.holds in record {
      text = p.text;
      put = p.put;
      holds = end_whole h c.finish.new.self (limits_of c.args.session.now)
          (g.R.Read.remaining (reader_of c.has_more.new.input)) [] c.in_ok-finish.field-0 i.0
          (ap types c.in_ok-finish.ensures.types)
          (rw c.if-not-branch.true at c.in_ok-has_more.ensures.read)
          (c.in_ok-finish.ensures.finishes h.has.given h.taken h.has.gave);
    }

pub take_next-requires-clause-read : goal.take_next-requires-clause-read
take_next-requires-clause-read g c =
    let i = c.items.invariant in rw i.2 (some_taken i.3.holds)

pub take_next-requires-clause-limits : goal.take_next-requires-clause-limits
take_next-requires-clause-limits g c = limits_as c.items.invariant.0 c.requires.limits

pub items-preserved : goal.items-preserved
items-preserved g c =
    let i = c.items.invariant in
    let q = rw (i.2, c.bytes.ensures) at c.in-Ok.ensures.kept in
    let next = g.R.Read.remaining (reader_of c.has_more.new.input) in
    let h = more_came i.3.holds next _ (rw c.if-not-branch.false at c.in_ok-has_more.ensures.read) in
    let f = c.flush_before_waiting.ensures in
    let t = c.take_next.new in
    let read = g.R.Read.remaining (reader_of c.args.input.now) in
    let both : PutsMore g.O.TextOut.puts c.args.lines.now.out c.args.lines.now.fault t.lines.out t.lines.fault
    (HasTaken c.args.kept.now.explained t.session t.kept.items read next (waiting c.pass.new.self) t.kept.item.items
    t.kept.begin) = puts_then g.O.TextOut.puts g.met.O.TextOut.joined g.met.O.TextOut.cut i.3 q
    (next_taken h c.take_next.new.session _ _ _ _ q.text c.in-Ok.used c.pass.ensures.bytes q.holds) in (
      c.in-Ok.ensures.limits ∙ i.0,
      c.in_ok-has_more.ensures.counted ∙ i.1,
      c.in-Ok.ensures.explained ∙ i.2,
      puts_flushed g.O.TextOut.puts g.met.O.TextOut.joined g.met.O.TextOut.cut both f,
    )

pub items-smaller : goal.items-smaller
items-smaller g c =
    let i = c.items.invariant in
    let q = rw (i.2, c.bytes.ensures) at c.in-Ok.ensures.kept in
    let next = g.R.Read.remaining (reader_of c.has_more.new.input) in
    let h = more_came i.3.holds next _ (rw c.if-not-branch.false at c.in_ok-has_more.ensures.read) in
    next_falls h c.take_next.new.session _ _ _ q.text c.in-Ok.used c.in-Ok.ensures.limits q.holds

pub returns-in-Err-clause-read : goal.returns-in-Err-clause-read
returns-in-Err-clause-read g c =
    let i = c.items.invariant in
    let q = rw (i.2, c.bytes.ensures) at c.in-Err.ensures.kept in
    let next = g.R.Read.remaining (reader_of c.has_more.new.input) in
    let h = more_came i.3.holds next _ (rw c.if-not-branch.false at c.in_ok-has_more.ensures.read) in
    puts_then g.O.TextOut.puts g.met.O.TextOut.joined g.met.O.TextOut.cut i.3 q
    (next_stops h c.take_next.new.session c.take_next.new.kept.items c.keep.new.self.items
    (limits_of c.args.session.now) _ _ _ _ q.text c.in-Err.fault
    (c.in-Err.ensures.limits ∙ i.0) (rw c.bytes-in-Err.ensures at c.in_ok-keep-in-Err.ensures.item)
    c.in_ok-keep-in-Err.ensures.begin q.holds)

pub returns-in_err-keep-in-Err-clause-read : goal.returns-in_err-keep-in-Err-clause-read
returns-in_err-keep-in-Err-clause-read g c =
    let i = c.items.invariant in
    let q = rw (i.2, c.bytes.ensures) at c.in-Err.ensures.kept in
    let s = c.take_next.new.session in
    let k = c.keep.new.self in
    let M = limits_of c.args.session.now in
    let read = g.R.Read.remaining (reader_of c.args.input.now) in
    let next = g.R.Read.remaining (reader_of c.has_more.new.input) in
    let h = more_came i.3.holds next _ (rw c.if-not-branch.false at c.in_ok-has_more.ensures.read) in
    puts_then g.O.TextOut.puts g.met.O.TextOut.joined g.met.O.TextOut.cut i.3 q
    (at_fault (λ r. ReadsAll c.args.kept.now.explained (within_trees M) (types_of s) k.items read next k.item.items
    k.begin r (i.3.text ++ q.text)) c.from_residual-in_err-keep-in-Err.result reading.Memory
    c.from_residual-in_err-keep-in-Err.ensures.1
    (next_lost h s c.take_next.new.kept.items M _ _ q.text c.in-Err.fault (c.in-Err.ensures.limits ∙ i.0) q.holds))

pub returns-clause-read : goal.returns-clause-read
returns-clause-read g c =
    let i = c.items.invariant in
    let p = i.3 in
    let now = g.R.Read.remaining (reader_of c.items.input) in record {
      text = p.text;
      put = p.put;
      holds = λ bytes known. begins_all p.holds (limits_of c.args.session.now) now i.0 (Keeps-refl now) bytes known;
    }
