-- The number is put behind the comma.
use Rattle.std.proofs.Common.{arith, refl}
use Rattle.gob_json.specs.Json.{natural_json}
use Rattle.gob_plain.proofs.LineLaws.{after_comma, data_put, natural_printable}
use Rattle.gob_plain.proofs.line.Line.u64.Goals as goal

pub returns : goal.returns
returns c = data_put (natural_json c.args.number) (natural_printable c.args.number (omega
    (arith, c.ranges.number.fits)))
    (after_comma _ _ _ c.in_ok-comma.ensures.0 c.in_ok-put_natural.ensures) refl
