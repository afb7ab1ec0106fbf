use Rattle.std.proofs.Common.{◌∙◌, ◌++◌, List, ap, arith, rules, ◌≡◌, [], ℕ}
use Rattle.gob_split.proofs.item_text.write_short.Goals as goal

pub returns : goal.returns
returns c =
    let cleared : c.clear.new.self.items ≡ [] = search rules in
    record {
      short = omega (arith, c.if-len-gt-MOST_HOISTED.false, c.len.ensures, c.write_item.new.out.ok);
      is = λ bytes is. c.in_ok-write_item.ensures.ok bytes is ∙ ap (λ (l : List ℕ). l ++ bytes) cleared;
    }
