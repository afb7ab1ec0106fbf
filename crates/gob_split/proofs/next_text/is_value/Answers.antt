use Rattle.std.proofs.Common.{arith}
use Rattle.gob_num.proofs.PublicLaws.{bytes_each}
use Rattle.gob_split.proofs.next_text.is_value.Goals as goal

pub returns : goal.returns
returns c = λ is. record {
  are_bytes = bytes_each c.args.body.now (λ i. omega (arith, c.type_inv.body i));
  whole = c.is_whole.ensures is;
}
