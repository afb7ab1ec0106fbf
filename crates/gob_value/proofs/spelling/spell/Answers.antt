use Rattle.gob_value.proofs.AppendedLaws.{then_as}
use Rattle.gob_value.proofs.WrittenLaws.{fits_writable, written_spells}
use Rattle.gob_value.proofs.spelling.spell.Goals as goal

pub write_value-requires : goal.write_value-requires
write_value-requires g c = fits_writable c.in_ok-fits.ensures.ok c.requires

pub returns-in-Ok-clause-ok : goal.returns-in-Ok-clause-ok
returns-in-Ok-clause-ok g c = then_as (λ b p. written_spells c.in_ok-fits.ensures.ok.spelled p) c.in-Ok.ensures.ok
