-- A number of 64 bits has at most 20 digits.
use Rattle.std.proofs.Common.{arith, rules}
use Rattle.std.proofs.lemmas.Fmt.{length-decimal-le}
use Rattle.gob_json.proofs.text.leaf.put_long.Goals as goal

pub write_digits-start-requires : goal.write_digits-start-requires
write_digits-start-requires g c =
    (length-decimal-le 20 c.args.number (omega arith) (omega arith) c.ranges.number.fits, search rules)
