use Rattle.gob_types.proofs.PublicLaws.{extends_keeps}
use Rattle.gob_read.proofs.Grammar.Stay.{expects_top_on, expects_top_back, stood_on, first_on, first_back}
use Rattle.gob_read.proofs.laws.bodies_stay.Goals as goal

pub returns-clause-expected : goal.returns-clause-expected
returns-clause-expected c T U t p w d e a = expects_top_on (extends_keeps e) a

pub returns-clause-no_more : goal.returns-clause-no_more
returns-clause-no_more c T U t p w d e r a = expects_top_back (extends_keeps e) r a

pub returns-clause-viable : goal.returns-clause-viable
returns-clause-viable c T U t limit announced z e r h = stood_on (extends_keeps e) r h

pub returns-clause-refused : goal.returns-clause-refused
returns-clause-refused c T U t limit announced z R e r h = first_on (extends_keeps e) r h

pub returns-clause-refused_before : goal.returns-clause-refused_before
returns-clause-refused_before c T U t limit announced z R e r h = first_back (extends_keeps e) r h
