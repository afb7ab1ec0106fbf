use Rattle.std.proofs.Common.{◌≡◌, ◌<◌, ◌-◌, arith, drop, get_or, length, take}
use Rattle.std.proofs.lemmas.List.{take_rest}
use Rattle.gob_make.proofs.TimeLaws.{no_point, point_there}
use Rattle.gob_make.proofs.time.parts_of.Goals as goal

pub returns-then-bytes-eq-SECONDS : goal.returns-then-bytes-eq-SECONDS
returns-then-bytes-eq-SECONDS c =
    no_point c.args.text.now c.as_bytes-bytes.result.now c.as_bytes-bytes.ensures.value

pub returns : goal.returns
returns c =
    let b = c.as_bytes-bytes.result.now in
    let behind = take (length b - 20) (drop 20 b) in
    let end = c.digits_in-end.result in
    let longer : 19 < length b = omega (arith, c.if-bytes-lt-SECONDS.false, c.if-bytes-eq-SECONDS.false) in
    let point : get_or b 19 0 ≡ 46 = grind (arith, c.if-bytes-ne46.false) in
    point_there c.args.text.now b behind (take (length behind - end) (drop end behind)) end c.kept_of.result 0
    c.as_bytes-bytes.ensures.value (take_rest b 20) (take_rest behind end) longer point
    (omega (arith, c.if-end-eq0.false)) c.digits_in-end.ensures c.kept_of.ensures.within c.kept_of.ensures.zeros
