use Rattle.std.proofs.Common.{◌++◌, List, ap, rules, ℕ}
use Rattle.gob_tool.specs.Machine.Rewritten.{IsHead}
use Rattle.gob_tool.proofs.tidied.send_content.Goals as goal

pub returns : goal.returns
returns g c =
    let head : IsHead c.args.number c.args.content.now c.write_head.new.head.items = search rules in (
      c.deref.result.now ++ c.args.content.now,
      record {
        head = c.write_head.new.head.items;
        before = head;
        whole = ap (λ (l : List ℕ). l ++ c.args.content.now) c.deref.ensures.value;
      },
      c.send_both.ensures.sent,
      c.send_both.ensures.counted,
    )
