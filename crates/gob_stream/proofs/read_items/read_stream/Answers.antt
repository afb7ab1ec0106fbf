use Rattle.std.proofs.Common.{[], sym}
use Rattle.gob_stream.specs.Bounds.{within_trees}
use Rattle.gob_stream.specs.Honest.{IsHonest, OfRefusal}
use Rattle.gob_stream.specs.Reading.{ReadsStream}
use Rattle.gob_stream.proofs.Reader.HonestLaws.{stream_honestly}
use Rattle.gob_stream.proofs.Reader.SessionSteps.{passed_on}
use Rattle.gob_stream.proofs.Reader.ReadStreamSteps.{given_as, given_none, took_nothing}
use Rattle.gob_stream.proofs.read_items.read_stream.Goals as goal

pub returns-in_err-session-clause-items : goal.returns-in_err-session-clause-items
returns-in_err-session-clause-items g c =
    given_none (λ bytes e. passed_on (λ r. ReadsStream (within_trees c.args.limits) bytes
    (g.R.Read.remaining c.args.input.now.reader) [] r) c.from_residual.result _ c.from_residual.ensures.1
    (took_nothing (within_trees c.args.limits) e))

pub returns-in_err-session-clause-honest : goal.returns-in_err-session-clause-honest
returns-in_err-session-clause-honest g c =
    given_none (λ bytes e. passed_on (λ r. OfRefusal (λ R. IsHonest (within_trees c.args.limits) bytes [] R) r)
    c.from_residual.result _ c.from_residual.ensures.1 tt)

pub returns-clause-honest : goal.returns-clause-honest
returns-clause-honest g c =
    rw (sym c.in_ok-session.ensures.limits)
    (given_as (λ given items bytes e. stream_honestly _ bytes _ _ _ (items bytes e)) c.read_items.ensures.items)

pub returns-clause-items : goal.returns-clause-items
returns-clause-items g c = rw (sym c.in_ok-session.ensures.limits) c.read_items.ensures.items
