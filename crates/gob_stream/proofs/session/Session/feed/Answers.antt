use Rattle.gob_stream.proofs.Reader.FeedSteps.{feeds}
use Rattle.gob_stream.proofs.Reader.HonestLaws.{always_feeds_honestly}
use Rattle.gob_stream.proofs.Reader.ReadStreamSteps.{given_as}
use Rattle.gob_stream.proofs.session.Session.feed.Goals as goal

pub returns-clause-fed : goal.returns-clause-fed
returns-clause-fed g c =
    given_as (λ given h. feeds g.B.Builder.building c.args.self.now c.feed.new.session c.args.piece.now given
    c.feed.result h) c.feed.ensures.fed

pub returns-clause-honest : goal.returns-clause-honest
returns-clause-honest g c = always_feeds_honestly g.B.Builder.building _ c.feed.new.session c.args.piece.now
    c.feed.result (returns-clause-fed g c)
