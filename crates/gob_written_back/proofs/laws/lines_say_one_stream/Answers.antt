use Rattle.std.proofs.Common.{refl}
use Rattle.gob_written_back.proofs.OnceLaws.{stream_once}
use Rattle.gob_written_back.proofs.laws.lines_say_one_stream.Goals as goal

pub returns : goal.returns
returns c = λ H L lines items others b d T U few p q s t.
    let r = stream_once refl few p q s t in
    (r.same_items, r.same_bytes, r.same_table)
