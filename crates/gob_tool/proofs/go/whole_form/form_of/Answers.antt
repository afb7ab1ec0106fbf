use Rattle.std.proofs.Common.{arith}
use Rattle.gob_num.proofs.PublicLaws.{bytes_each}
use Rattle.gob_types.specs.Defined.{types}
use Rattle.gob_tool.proofs.go.whole_form.form_of.Goals as goal

pub returns : goal.returns
returns c =
    let whole = c.in_ok-tidy_body.ensures.tidied c.if-not-branch.false in
    record {
      skeleton = c.tidy_body.new.tidied.items;
      whole = whole;
      body_bytes = bytes_each c.args.body.now (λ i. omega (arith, c.type_inv.body i));
      skeleton_bytes = c.tidy_body.ensures.bytes;
      means = c.unfilled.ensures (types c.args.table.now) whole.form whole.form_spelled;
    }
