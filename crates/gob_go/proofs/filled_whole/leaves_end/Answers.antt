use Rattle.std.proofs.Common.{◌≡◌, arith, drop, subst}
use Rattle.gob_num.proofs.PlaceLaws.{all_taken}
use Rattle.gob_types.specs.Defined.{types}
use Rattle.gob_value.specs.WholeParts.{HasElements}
use Rattle.gob_go.proofs.WholeFilledSteps.{leaves_begin}
use Rattle.gob_go.proofs.filled_whole.leaves_end.Goals as goal

pub returns : goal.returns
returns c =
    let T = types c.args.table.now in
    let found = c.whole_elements-found.result in
    let all : found.count ≡ c.args.count = omega (arith, c.whole_elements-found.ensures.few) in
    leaves_begin c.requires
    (subst (λ n. HasElements T c.args.elem c.args.depth n (drop c.args.begin c.args.body.now) found.end) all
    (subst (λ b. HasElements T c.args.elem c.args.depth found.count b found.end)
    (all_taken c.args.body.now c.args.begin) c.whole_elements-found.ensures.whole))
