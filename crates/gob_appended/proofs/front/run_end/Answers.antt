use Rattle.std.proofs.Common.{◌≡◌, ◌++◌, ◌-◌, arith, ◌∙◌, ap, drop, length, sym, take}
use Rattle.std.proofs.lemmas.List.{length-drop, take_all}
use Rattle.gob_appended.specs.Front.{front_at}
use Rattle.gob_appended.specs.Once.{once_from, staying}
use Rattle.gob_appended.proofs.OnceLaws.{run_on}
use Rattle.gob_appended.proofs.front.run_end.Goals as goal

pub run-preserved : goal.run-preserved
run-preserved c =
    let xs = c.args.bytes.now in
    let end = c.run.end in
    let all : take (length xs - end) (drop end xs) ≡ drop end xs =
    take_all (length xs - end) (drop end xs) (omega (arith, length-drop end xs)) in
    let item = c.in-Plain.ensures in
    λ i ds ys. c.run.invariant i ds ys
    ∙ run_on end c.in-Plain.more xs (omega arith) (ap front_at (sym all) ∙ sym item.front) item.size i ds ys
    ∙ ap (λ n. once_from i ds (staying n) (xs ++ ys)) (sym c.in-Some.ensures.1)
