-- From step to step the definitions that were read are kept.
use Rattle.std.proofs.Common.{◌++◌, ◌∷◌, [], Bool, Option, ◌∙◌, ap, arith, refl}
use Rattle.gob_types.specs.declared.id.TypeId.{TypeId}
use Rattle.gob_read.specs.Calls.Builders.{tree_building}
use Rattle.gob_stream.specs.Bounds.{within_trees}
use Rattle.gob_stream.specs.Calls.Ends.{failed_reads, reader_of}
use Rattle.gob_stream.specs.Calls.Reader.{HasReadFrom, session_of}
use Rattle.gob_stream.specs.Calls.Session.{limits_of, taken_of, types_of}
use Rattle.gob_stream.specs.Reading.{CountsReads}
use Rattle.gob_stream.specs.StrictStepping.{strict_stepping}
use Rattle.gob_stream.proofs.Reader.ReaderOfLaws.{goes_on, has_ended}
use Rattle.gob_stream.specs.Item.{item_view}
use Rattle.gob_write.specs.Making.{definitions_of}
use Rattle.gob_write.specs.Types.{ReadsDefinitions, defined_in, first_type, or_else}
use Rattle.gob_write.proofs.TypesLaws.{at_error, counts_on, counts_unread, reading_ends, reading_stops, reads_first}
use Rattle.gob_write.proofs.TypesLaws.{reads_item, reads_on, steps_fall}
use Rattle.gob_write.proofs.types.read_definitions.Goals as goal

pub steps-init : goal.steps-init
steps-init g c =
    let read = g.Q.Read.remaining (reader_of c.args.input.now) in
    record {
      limits = refl;
      reads = refl;
      so = reads_first (HasReadFrom tree_building c.args.reader.now read read) c.args.definitions.now.items
          c.requires.empty (c.requires.new read);
    }

pub steps-smaller-in-Some : goal.steps-smaller-in-Some
steps-smaller-in-Some g c =
    let p = c.steps.invariant.so in
    let read = g.Q.Read.remaining (reader_of c.args.input.now) in
    let next = g.Q.Read.remaining (reader_of c.more.new.input) in
    let on = goes_on (strict_stepping tree_building) (session_of c.steps.reader) (types_of (session_of c.steps.reader))
    c.more.new.self read next p.given c.in_ok-more.field-0 c.if-branch.true
    (c.in_ok-more.ensures.filled read p.given p.has) in
    let t = c.in_ok-step.ensures.stepped read next p.given on.0 in
    steps_fall (strict_stepping tree_building) c.in_ok-step.ensures.stands c.steps.reader
    (taken_of (session_of c.steps.reader)) (c.in_ok-step.ensures.limits ∙ c.in_ok-more.ensures.limits) t.takes.after
    (omega (arith, on.1, t.takes.onward, c.in_ok-step.ensures.used))

pub steps-smaller : goal.steps-smaller
steps-smaller g c =
    let p = c.steps.invariant.so in
    let read = g.Q.Read.remaining (reader_of c.args.input.now) in
    let next = g.Q.Read.remaining (reader_of c.more.new.input) in
    let on = goes_on (strict_stepping tree_building) (session_of c.steps.reader) (types_of (session_of c.steps.reader))
    c.more.new.self read next p.given c.in_ok-more.field-0 c.if-branch.true
    (c.in_ok-more.ensures.filled read p.given p.has) in
    let t = c.in_ok-step.ensures.stepped read next p.given on.0 in
    steps_fall (strict_stepping tree_building) c.in_ok-step.ensures.stands c.steps.reader
    (taken_of (session_of c.steps.reader)) (c.in_ok-step.ensures.limits ∙ c.in_ok-more.ensures.limits) t.takes.after
    (omega (arith, on.1, t.takes.onward, c.in_ok-step.ensures.used))

pub steps-preserved-in-Some : goal.steps-preserved-in-Some
steps-preserved-in-Some g c =
    let i = c.steps.invariant in
    let p = i.so in
    let read = g.Q.Read.remaining (reader_of c.args.input.now) in
    let next = g.Q.Read.remaining (reader_of c.more.new.input) in
    let on = goes_on (strict_stepping tree_building) (session_of c.steps.reader) (types_of (session_of c.steps.reader))
    c.more.new.self read next p.given c.in_ok-more.field-0 c.if-branch.true
    (c.in_ok-more.ensures.filled read p.given p.has) in
    let t = c.in_ok-step.ensures.stepped read next p.given on.0 in
    record {
      limits = c.in_ok-step.ensures.limits ∙ c.in_ok-more.ensures.limits ∙ i.limits;
      reads = c.in_ok-more.ensures.counted ∙ i.reads;
      so = reads_item (HasReadFrom tree_building c.step.new.self read next) c.in-Some.item p t.gives c.in-Some.is
          t.takes.after
          (c.in_ok-first.ensures.first
          ∙ ap (λ i. or_else c.steps.first (first_type (item_view i ∷ []))) c.in-Some.item-is)
          (c.in_ok-first.ensures.kept
          ∙ ap (λ i. definitions_of c.steps.definitions.items ++ defined_in (item_view i ∷ [])) c.in-Some.item-is);
    }

pub steps-preserved : goal.steps-preserved
steps-preserved g c =
    let i = c.steps.invariant in
    let p = i.so in
    let read = g.Q.Read.remaining (reader_of c.args.input.now) in
    let next = g.Q.Read.remaining (reader_of c.more.new.input) in
    let on = goes_on (strict_stepping tree_building) (session_of c.steps.reader) (types_of (session_of c.steps.reader))
    c.more.new.self read next p.given c.in_ok-more.field-0 c.if-branch.true
    (c.in_ok-more.ensures.filled read p.given p.has) in
    let t = c.in_ok-step.ensures.stepped read next p.given on.0 in
    record {
      limits = c.in_ok-step.ensures.limits ∙ c.in_ok-more.ensures.limits ∙ i.limits;
      reads = c.in_ok-more.ensures.counted ∙ i.reads;
      so = reads_on (HasReadFrom tree_building c.step.new.self read next) p t.gives c.in_default.is t.takes.after;
    }

pub returns-in_err-more-clause-read : goal.returns-in_err-more-clause-read
returns-in_err-more-clause-read g c = λ bytes known.
    let i = c.steps.invariant in
    let p = i.so in
    let e = c.in_err-more.field-0.0 in
    let M = limits_of (session_of c.args.reader.now) in
    let s = session_of c.steps.reader in
    let read = g.Q.Read.remaining (reader_of c.args.input.now) in
    let next = g.Q.Read.remaining (reader_of c.more.new.input) in
    let U = types_of (session_of c.more.new.self) in
    at_error (λ r. ReadsDefinitions (within_trees M) bytes next U c.steps.definitions.items r) c.from_residual.result e
    c.from_residual.ensures.1
    (reading_stops (limits_of s) M (types_of s) U p.given bytes next e c.steps.definitions.items i.limits
    (c.in_err-more.ensures.filled read p.given p.has bytes known))

pub returns-in_err-more-clause-reads : goal.returns-in_err-more-clause-reads
returns-in_err-more-clause-reads g c =
    let e = c.in_err-more.field-0.0 in
    at_error (λ r. CountsReads (failed_reads c.args.input.now) (failed_reads c.more.new.input) r)
    c.from_residual.result e c.from_residual.ensures.1
    (counts_on Bool (Option TypeId) _ _ _ e c.steps.invariant.reads c.in_err-more.ensures.counted)

pub returns-in_err-step-clause-read : goal.returns-in_err-step-clause-read
returns-in_err-step-clause-read g c = λ bytes known.
    let i = c.steps.invariant in
    let p = i.so in
    let e = c.in_err-step.field-0.0 in
    let M = limits_of (session_of c.args.reader.now) in
    let s = session_of c.more.new.self in
    let read = g.Q.Read.remaining (reader_of c.args.input.now) in
    let next = g.Q.Read.remaining (reader_of c.more.new.input) in
    let U = types_of (session_of c.step.new.self) in
    let on = goes_on (strict_stepping tree_building) (session_of c.steps.reader) (types_of (session_of c.steps.reader))
    c.more.new.self read next p.given c.in_ok-more.field-0 c.if-branch.true
    (c.in_ok-more.ensures.filled read p.given p.has) in
    at_error (λ r. ReadsDefinitions (within_trees M) bytes next U c.steps.definitions.items r)
    c.from_residual-in_err-step.result e c.from_residual-in_err-step.ensures.1
    (reading_stops (limits_of s) M (types_of s) U p.given bytes next e c.steps.definitions.items
    (c.in_ok-more.ensures.limits ∙ i.limits) (c.in_err-step.ensures.stepped read next p.given on.0 bytes known))

pub returns-in_err-step-clause-reads : goal.returns-in_err-step-clause-reads
returns-in_err-step-clause-reads g c =
    let e = c.in_err-step.field-0.0 in
    at_error (λ r. CountsReads (failed_reads c.args.input.now) (failed_reads c.more.new.input) r)
    c.from_residual-in_err-step.result e c.from_residual-in_err-step.ensures.1
    (counts_unread (Option TypeId) _ _ e (c.in_ok-more.ensures.counted ∙ c.steps.invariant.reads)
    c.in_err-step.ensures.unread)

pub returns-clause-read : goal.returns-clause-read
returns-clause-read g c = λ bytes known.
    let i = c.steps.invariant in
    let p = i.so in
    let M = limits_of (session_of c.args.reader.now) in
    let s = session_of c.steps.reader in
    let read = g.Q.Read.remaining (reader_of c.args.input.now) in
    let next = g.Q.Read.remaining (reader_of c.more.new.input) in
    let end = has_ended (strict_stepping tree_building) s (types_of s) c.more.new.self read next p.given
    c.in_ok-more.field-0 c.if-branch.false (c.in_ok-more.ensures.filled read p.given p.has) in
    reading_ends (limits_of s) M (types_of s) (types_of (session_of c.more.new.self)) (taken_of s) bytes next i.limits
    end.1 p (end.0 bytes known)

pub returns-clause-reads : goal.returns-clause-reads
returns-clause-reads g c = c.in_ok-more.ensures.counted ∙ c.steps.invariant.reads
