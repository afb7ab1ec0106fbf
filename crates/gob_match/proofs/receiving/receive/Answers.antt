use Rattle.gob_value.specs.View.{view}
use Rattle.gob_match.specs.Pairs.{of_types}
use Rattle.gob_match.proofs.FitLaws.{given, given_fits}
use Rattle.gob_match.proofs.receiving.receive.Goals as goal

pub receive_value-requires : goal.receive_value-requires
receive_value-requires g c = record {
  pair = record {
    stream = c.args.matched.now.id;
    wanted = c.args.matched.now.wanted_id;
    matched = c.requires.sound;
    place = 0;
    at = c.requires.sound.begins;
  };
  fits = c.requires.fits;
}

pub returns-clause-received : goal.returns-clause-received
returns-clause-received g c = given (g.S.Shapes.table c.args.matched.now.stream.now)
    (g.T.Shapes.table c.args.matched.now.wanted.now) (of_types c.args.matched.now.id c.args.matched.now.wanted_id)
    (view c.args.value.now) c.receive_value.result c.receive_value.ensures

pub returns-clause-fits : goal.returns-clause-fits
returns-clause-fits g c = given_fits (g.S.Shapes.table c.args.matched.now.stream.now)
    (g.T.Shapes.table c.args.matched.now.wanted.now) (of_types c.args.matched.now.id c.args.matched.now.wanted_id)
    (view c.args.value.now) c.receive_value.result c.requires.fits c.receive_value.ensures
