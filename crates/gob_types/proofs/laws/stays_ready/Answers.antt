use Rattle.gob_types.proofs.GrowthLaws.{extends_keeps, ready_on, reaches_on, reaches_back, reached_shape}
use Rattle.gob_types.proofs.laws.stays_ready.Goals as goal

pub returns-clause-shapes : goal.returns-clause-shapes
returns-clause-shapes c T U t s e = (extends_keeps e).shape t s

pub returns-clause-ready : goal.returns-clause-ready
returns-clause-ready c T U t e = ready_on (extends_keeps e)

pub returns-clause-reach : goal.returns-clause-reach
returns-clause-reach c T U t u e r = (reaches_on (extends_keeps e), reaches_back (extends_keeps e) r)

pub returns-clause-reached_shapes : goal.returns-clause-reached_shapes
returns-clause-reached_shapes c T U t u e = reached_shape (extends_keeps e)
