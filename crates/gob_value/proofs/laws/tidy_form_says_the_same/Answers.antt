use Rattle.std.proofs.Common.{sym}
use Rattle.gob_value.proofs.DescriptionTidy.{said_stays, described_alike, misdescribed_alike}
use Rattle.gob_value.proofs.laws.tidy_form_says_the_same.Goals as goal

pub returns-clause-shape : goal.returns-clause-shape
returns-clause-shape c t v w s f p = let e = said_stays f.spelled p in (described_alike e, described_alike (sym e))

pub returns-clause-reason : goal.returns-clause-reason
returns-clause-reason c t v w r f p = let e = said_stays f.spelled p in
    (misdescribed_alike e, misdescribed_alike (sym e))
