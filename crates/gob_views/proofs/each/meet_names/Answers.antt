use Rattle.std.proofs.Common.{sym, subst}
use Rattle.std.proofs.lemmas.Result.{on_ok_weaker}
use Rattle.gob_types.specs.Ready.{Names}
use Rattle.gob_types.proofs.SetLaws.{adds_as}
use Rattle.gob_views.proofs.ReachLaws.{both_added}
use Rattle.gob_views.proofs.each.meet_names.Goals as goal

pub returns-in-Array : goal.returns-in-Array
returns-in-Array c =
    on_ok_weaker c.meet.result
    (λ a. adds_as a (λ u h. subst (λ k. Names k u) (sym c.in-Array.is) h)
    (λ u h. subst (λ k. Names k u) c.in-Array.is h))
    c.meet.ensures

pub returns-in-Slice : goal.returns-in-Slice
returns-in-Slice c =
    on_ok_weaker c.meet-in-Slice.result
    (λ a. adds_as a (λ u h. subst (λ k. Names k u) (sym c.in-Slice.is) h)
    (λ u h. subst (λ k. Names k u) c.in-Slice.is h))
    c.meet-in-Slice.ensures

pub returns-in_ok-meet-in-Map : goal.returns-in_ok-meet-in-Map
returns-in_ok-meet-in-Map c =
    on_ok_weaker c.meet-in-Map-2.result
    (λ a. adds_as (both_added c.in_ok-meet-in-Map.ensures a) (λ u h. subst (λ k. Names k u) (sym c.in-Map.is) h)
    (λ u h. subst (λ k. Names k u) c.in-Map.is h))
    c.meet-in-Map-2.ensures
