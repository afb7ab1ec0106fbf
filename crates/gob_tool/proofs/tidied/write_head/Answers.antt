use Rattle.std.proofs.Common.{arith, subst}
use Rattle.std.proofs.lemmas.Int.{ints}
use Rattle.std.proofs.lemmas.Result.{on_ok_weaker}
use Rattle.gob_tool.specs.Machine.Rewritten.{IsHead}
use Rattle.gob_tool.proofs.TidiedLaws.{head_made}
use Rattle.gob_tool.proofs.tidied.write_head.Goals as goal

pub returns : goal.returns
returns c = on_ok_weaker c.write_int-2.result (λ name.
    subst (λ n. IsHead n c.args.content.now c.write_int-2.new.out.items) (omega (arith, ints, c.ranges.number.sfits))
    (head_made c.requires c.in_ok-write_int.ensures.ok (omega (arith, c.len.ensures)) c.clear.ensures.items
    c.in_ok-write_uint.ensures.ok name)) c.write_int-2.ensures.ok
