-- Where all is read the command runs over what is kept, and else nothing goes out.
use Rattle.std.proofs.Common.{ℕ, List, refl, subst, sym, inl, inr}
use Rattle.gob_stream.specs.Calls.Ends.{failed_reads, failed_writes, writer_of}
use Rattle.gob_salvage.specs.declared.keeping.Salvaged.{Salvaged}
use Rattle.gob_salvage.proofs.RunLaws.{reading_reads, reading_writes}
use Rattle.gob_tool.specs.Showing.{CountsReadFaults}
use Rattle.gob_views.specs.Running.{ShowsBytes}
use Rattle.gob_views.proofs.RunLaws.{fault_ended, nothing_sent, reads_in_memory, within_view}
use Rattle.gob_views.proofs.run.run_kept.Goals as goal

pub returns-in-Ok-clause-shows : goal.returns-in-Ok-clause-shows
returns-in-Ok-clause-shows g c = λ bytes known.
    let old = g.W.Write.contents (writer_of c.args.output.now) in
    let new = g.W.Write.contents (writer_of c.show_bytes-answer.new.output) in
    let kept = rw (c.limits_of.ensures, within_view c.args.view.now) at c.in-Ok.ensures.kept in
    inl (record {
      kept = c.in-Ok.kept;
      is = kept bytes known;
      end = c.in-Ok.ensures.end bytes known;
      shows = subst (λ (z : List ℕ). ShowsBytes c.args.view.now z old new c.show_bytes-answer.result)
          c.deref.ensures.value c.show_bytes-answer.ensures.shows;
      tells = refl;
    })

pub returns-in-Ok-clause-reads : goal.returns-in-Ok-clause-reads
returns-in-Ok-clause-reads g c =
    let shows = c.show_bytes-answer.ensures.shows in
    reads_in_memory _ _ shows.answer c.show_bytes-answer.result shows.is c.in-Ok.ensures.reads

pub returns-in-Err-clause-shows : goal.returns-in-Err-clause-shows
returns-in-Err-clause-shows g c = λ bytes known.
    let stops = rw c.limits_of.ensures at c.in-Err.ensures.stops in
    inr (record {
      fault = c.in-Err.fault;
      is = fault_ended c.in-Err.fault c.end_run.result c.end_run.ensures.ends;
      stops = stops bytes known;
      sent = nothing_sent _ _ c.end_run.ensures.bytes;
    })

pub returns-in-Err-clause-reads : goal.returns-in-Err-clause-reads
returns-in-Err-clause-reads g c =
    let old = failed_reads c.args.input.now in
    let new = failed_reads c.salvage_all.new.input in
    subst (λ r. CountsReadFaults old new r) (sym (fault_ended c.in-Err.fault c.end_run.result
    c.end_run.ensures.ends)) (reading_reads Salvaged old new c.in-Err.fault c.in-Err.ensures.reads)

pub returns-in-Err-clause-writes : goal.returns-in-Err-clause-writes
returns-in-Err-clause-writes g c =
    let out = failed_writes c.args.output.now in
    c.end_run.ensures.writes out (reading_writes Salvaged (failed_reads c.args.input.now)
    (failed_reads c.salvage_all.new.input) out c.in-Err.fault c.in-Err.ensures.reads)

pub returns-in-Err-clause-flushed : goal.returns-in-Err-clause-flushed
returns-in-Err-clause-flushed g c =
    let out = failed_writes c.args.output.now in
    c.end_run.ensures.flushed out (reading_writes Salvaged (failed_reads c.args.input.now)
    (failed_reads c.salvage_all.new.input) out c.in-Err.fault c.in-Err.ensures.reads)
