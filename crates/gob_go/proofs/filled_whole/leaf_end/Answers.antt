use Rattle.std.proofs.Common.{◌≡◌, arith, drop, subst}
use Rattle.gob_num.proofs.PlaceLaws.{all_taken}
use Rattle.gob_types.specs.Defined.{types}
use Rattle.gob_value.specs.WholeParts.{HasElements}
use Rattle.gob_go.proofs.WholeFilledSteps.{leaf_begins}
use Rattle.gob_go.proofs.filled_whole.leaf_end.Goals as goal

pub returns : goal.returns
returns c = λ limit some.
    let T = types c.args.table.now in
    let found = c.whole_elements-found.result in
    let one : found.count ≡ 1 = omega (arith, c.whole_elements-found.ensures.few) in
    leaf_begins limit some c.requires
    (subst (λ n. HasElements T c.args.id 1 n (drop c.args.at c.args.body.now) found.end) one
    (subst (λ b. HasElements T c.args.id 1 found.count b found.end) (all_taken c.args.body.now c.args.at)
    c.whole_elements-found.ensures.whole))
