use Rattle.std.proofs.Common.{rules, ◌≡◌, ◌∙◌, ◌++◌, [], List, ap, refl, take, ℕ}
use Rattle.gob_split.proofs.NextLaws.{has_item, whole_taken}
use Rattle.gob_split.proofs.next_text.pass_whole.Goals as goal

pub pass-requires-clause-item : goal.pass-requires-clause-item
pass-requires-clause-item c = has_item c.in-Some.ensures

pub returns : goal.returns
returns c =
    let cleared : c.clear.new.self.items ≡ [] = search rules in
    let w = c.in-Some.ensures in
    let same = c.in_ok-extend_from_slice.ensures.items
    ∙ ap (λ (l : List ℕ). l ++ take c.in-Some.item.used c.bytes.result.now) cleared
    ∙ ap (λ (l : List ℕ). take c.in-Some.item.used l) c.bytes.ensures in
    record {
      passed = record {
        taken = whole_taken _ w same refl c.pass.ensures.passed c.pass.ensures.between c.pass.ensures.table;
        stands = c.pass.ensures.stands;
        limits = c.pass.ensures.limits;
      };
    }
