use Rattle.std.proofs.Common.{List}
use Rattle.std.proofs.lemmas.List.{at_drop_more, drop_all}
use Rattle.gob_filled_match.specs.declared.taking.FilledNil.{FilledNil}
use Rattle.gob_filled_match.proofs.MovingLaws.{all_moved, one_moved, stands_at, waiting_back}
use Rattle.gob_filled_match.proofs.moving.move_fillings.Goals as goal

pub loop-nil-preserved : goal.loop-nil-preserved
loop-nil-preserved c =
    let nils = c.args.nils.now in
    let i = c.loop-nil.nil-index in
    let waited = c.in-Some.ensures.taken in (
      λ k f h. c.loop-nil.invariant.0 k f (c.take_waiting.ensures.others k f h),
      λ T all m. one_moved (c.loop-nil.invariant.1 T all m)
          (at_drop_more (λ (l : List FilledNil). l) nils i _ c.loop-nil-test.true) waited.counted
          (stands_at waited.index m (waiting_back c.args.fillings.items waited.index
          (c.loop-nil.invariant.0 waited.index c.in-Some.filling waited.there)))
          c.placed.ensures c.in_ok-push.ensures.items,
    )

pub returns : goal.returns
returns c = λ T all m.
    all_moved (c.loop-nil.invariant.1 T all m) (drop_all c.loop-nil.nil-index c.args.nils.now c.loop-nil-test.false)
