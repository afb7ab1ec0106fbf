use Rattle.std.proofs.Common.{ℕ, List, refl, subst}
use Rattle.std.specs.Io.KnownBytes.{Appends}
use Rattle.gob_stream.specs.Bounds.{within_trees}
use Rattle.gob_stream.specs.Calls.Ends.{failed_reads, failed_writes, reader_of, writer_of}
use Rattle.gob_salvage.specs.declared.keeping.Salvaged.{Salvaged}
use Rattle.gob_stream.specs.Calls.Writing.{SentPrefix}
use Rattle.gob_tool.specs.Ending.{CountsOnlyWrites}
use Rattle.gob_tool.specs.Showing.{CountsReadFaults}
use Rattle.gob_tool.specs.Fault.{writing_fault}
use Rattle.gob_tool.proofs.EndLaws.{at_error, sent_prefix}
use Rattle.gob_salvage.specs.Running.{SalvageAnswers}
use Rattle.gob_salvage.proofs.RunLaws.{reading_reads, reading_writes, unread}
use Rattle.gob_salvage.proofs.run.send_kept.Goals as goal

pub returns-in_err-kept-clause-kept : goal.returns-in_err-kept-clause-kept
returns-in_err-kept-clause-kept g c = λ bytes known.
    let L = within_trees c.args.limits in
    let out = g.W.Write.contents (writer_of c.args.output.now) in
    let now = g.R.Read.remaining (reader_of c.salvage_all.new.input) in
    let f = c.in_err-kept.field-0.0 in
    at_error (λ r. SalvageAnswers L bytes now out out c.args.told.now r) c.from_residual.result f
    c.from_residual.ensures.1
    (unread L bytes now out c.args.told.now c.args.limits.stream f refl (c.in_err-kept.ensures.stops bytes known))

pub returns-in_err-kept-clause-reads : goal.returns-in_err-kept-clause-reads
returns-in_err-kept-clause-reads g c =
    let f = c.in_err-kept.field-0.0 in
    at_error (λ r. CountsReadFaults (failed_reads c.args.input.now) (failed_reads c.salvage_all.new.input) r)
    c.from_residual.result f c.from_residual.ensures.1
    (reading_reads Salvaged (failed_reads c.args.input.now) (failed_reads c.salvage_all.new.input) f
    c.in_err-kept.ensures.reads)

pub returns-in_err-kept-clause-writes : goal.returns-in_err-kept-clause-writes
returns-in_err-kept-clause-writes g c =
    let f = c.in_err-kept.field-0.0 in
    let out = failed_writes c.args.output.now in
    at_error (λ r. CountsOnlyWrites out out r) c.from_residual.result f c.from_residual.ensures.1
    (reading_writes Salvaged (failed_reads c.args.input.now) (failed_reads c.salvage_all.new.input) out f
    c.in_err-kept.ensures.reads)

pub returns-in_err-send_all-clause-kept : goal.returns-in_err-send_all-clause-kept
returns-in_err-send_all-clause-kept g c = λ bytes known.
    let L = within_trees c.args.limits in
    let old = g.W.Write.contents (writer_of c.args.output.now) in
    let new = g.W.Write.contents (writer_of c.send_all.new.self) in
    let now = g.R.Read.remaining (reader_of c.salvage_all.new.input) in
    let e = c.in_err-send_all.field-0.0 in
    at_error (λ r. SalvageAnswers L bytes now old new c.args.told.now r) c.from_residual-in_err-send_all.result
    (writing_fault e) c.from_residual-in_err-send_all.ensures.1
    (rw c.in_err-send_all.ensures.fault (record {
      kept = c.in_ok-kept.kept;
      is = c.in_ok-kept.ensures.kept bytes known;
      sent = sent_prefix old new c.in_ok-kept.kept.bytes.items (subst (λ (z : List ℕ). SentPrefix z old new)
          c.deref.ensures.value c.in_err-send_all.ensures.prefix);
    }))

pub returns-clause-kept : goal.returns-clause-kept
returns-clause-kept g c = λ bytes known.
    let L = within_trees c.args.limits in
    let old = g.W.Write.contents (writer_of c.args.output.now) in
    let new = g.W.Write.contents (writer_of c.send_all.new.self) in
    let now = g.R.Read.remaining (reader_of c.salvage_all.new.input) in
    record {
      kept = c.in_ok-kept.kept;
      is = c.in_ok-kept.ensures.kept bytes known;
      end = c.in_ok-kept.ensures.end bytes known;
      sent = subst (λ (z : List ℕ). Appends old new z) c.deref.ensures.value c.in_ok-send_all.ensures.ok;
      tells = refl;
    }
