-- The text is put behind the comma.
use Rattle.std.proofs.Common.{refl}
use Rattle.gob_json.specs.Json.{text_json}
use Rattle.gob_plain.proofs.LineLaws.{after_comma, data_put, text_printable}
use Rattle.gob_plain.proofs.line.Line.text.Goals as goal

pub returns : goal.returns
returns c = data_put (text_json c.args.text.now) (text_printable c.args.text.now)
    (after_comma _ _ _ c.in_ok-comma.ensures.0 c.in_ok-put_text.ensures) refl
