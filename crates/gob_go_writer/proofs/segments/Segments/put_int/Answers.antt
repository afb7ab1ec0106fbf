use Rattle.std.proofs.Common.{refl, w64}
use Rattle.std.proofs.lemmas.Int.{to_z-of_z}
use Rattle.std.proofs.lemmas.Result.{on_ok_weaker}
use Rattle.gob_go_writer.proofs.LetterLaws.{puts_spelled}
use Rattle.gob_go_writer.proofs.segments.Segments.put_int.Goals as goal

pub returns : goal.returns
returns c = on_ok_weaker c.write_int.result
    (λ a. puts_spelled refl (rw (to_z-of_z w64 c.args.number c.ranges.number) at a)) c.write_int.ensures.ok
