-- No sum is cut.
use Rattle.std.proofs.Common.{◌≡◌, ◌∙◌, sym, false, arith, rules, FitsSigned, w8, w16}
use Rattle.std.proofs.lemmas.Int.{ints}
use Rattle.gob_plain.specs.TimeText.{is_utc}
use Rattle.gob_plain.proofs.time.seconds_ahead.Goals as goal

pub returns : goal.returns
returns c =
    let minutes : FitsSigned w16 c.offset_minutes.result = search rules in
    let seconds : FitsSigned w8 c.offset_seconds.result = search rules in
    let zoned : is_utc c.args.bytes.now ≡ false = sym c.is_utc.ensures ∙ c.if-is_utc.false in
    rw zoned (omega (arith, ints))
