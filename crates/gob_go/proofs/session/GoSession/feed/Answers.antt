use Rattle.gob_stream.proofs.Reader.ReadStreamSteps.{given_as}
use Rattle.gob_go.proofs.FeedSteps.{always_feeds_honestly, feeds}
use Rattle.gob_go.proofs.session.GoSession.feed.Goals as goal

pub returns-clause-fed : goal.returns-clause-fed
returns-clause-fed c =
    given_as (λ given h. feeds c.args.self.now c.feed.new.session c.args.piece.now given c.feed.result h)
    c.feed.ensures.fed

pub returns-clause-honest : goal.returns-clause-honest
returns-clause-honest c = always_feeds_honestly c.args.self.now c.feed.new.session c.args.piece.now c.feed.result
    (returns-clause-fed c)
