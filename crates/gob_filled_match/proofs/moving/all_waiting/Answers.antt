use Rattle.std.proofs.Common.{◌∙◌, ◌++◌, List, Option, Some, ap, append-nil, map, sym}
use Rattle.std.proofs.lemmas.List.{nil_from_length}
use Rattle.std.specs.Vec.Iter.{into_iter_items}
use Rattle.gob_go.specs.declared.filled.Filling.{Filling}
use Rattle.gob_filled_match.proofs.MovingLaws.{one_gone, waits_more}
use Rattle.gob_filled_match.proofs.moving.all_waiting.Goals as goal

pub loop-filling-preserved : goal.loop-filling-preserved
loop-filling-preserved c =
    let s = c.in-Some.ensures.steps in (
      waits_more c.loop-filling.waiting.items c.loop-filling.invariant.0 s.0 c.in_ok-push.ensures.items,
      one_gone c.loop-filling.invariant.1 s.0 s.1,
    )

pub returns : goal.returns
returns c =
    let none = c.in-None.ensures.steps in
    let some : List Filling → List (Option Filling) = map (λ (f : Filling). Some f) in
    let left =
    nil_from_length (into_iter_items c.loop-filling.filling-iterator) (sym c.loop-filling.invariant.1 ∙ none.0) in
    sym (append-nil c.loop-filling.waiting.items)
    ∙ ap (λ (l : List Filling). c.loop-filling.waiting.items ++ some l) (sym left) ∙ c.loop-filling.invariant.0
    ∙ ap some c.into_iter-filling-iterator.ensures.into_iter_gives.0
