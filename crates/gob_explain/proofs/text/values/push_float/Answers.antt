-- What isn't above infinity is no NaN.
use Rattle.std.proofs.Common.{arith}
use Rattle.std.proofs.lemmas.Float.{not_nan_f64_bits}
use Rattle.gob_explain.proofs.text.values.push_float.Goals as goal

pub float_from_bits-pattern : goal.float_from_bits-pattern
float_from_bits-pattern c = not_nan_f64_bits c.args.pattern (omega arith)
