use Rattle.std.proofs.Common.{arith}
use Rattle.std.proofs.lemmas.Result.{on_ok_weaker}
use Rattle.gob_num.proofs.ConversionLaws.{swapped_spells}
use Rattle.gob_num.proofs.SpelledLaws.{appends_as}
use Rattle.gob_num.proofs.pattern.write_pattern.Goals as goal

pub returns-clause-ok : goal.returns-clause-ok
returns-clause-ok c =
    on_ok_weaker c.write_uint.result (appends_as (swapped_spells c.args.p c.swap_bytes.result (omega arith)
    c.swap_bytes.ensures)) c.write_uint.ensures.ok
