use Rattle.std.proofs.Common.{sym, subst}
use Rattle.std.proofs.lemmas.Result.{on_ok_weaker}
use Rattle.gob_types.specs.Ready.{Names}
use Rattle.gob_types.proofs.SetLaws.{adds_as, one_of, of_one, two_of, of_two}
use Rattle.gob_types.proofs.readiness.add_names.Goals as goal

pub returns-in-Array : goal.returns-in-Array
returns-in-Array c =
    on_ok_weaker c.add_all.result
    (λ a. adds_as a (λ u h. subst (λ k. Names k u) (sym c.in-Array.is) (one_of c.in-Array.elem u h))
    (λ u h. of_one c.in-Array.elem u (subst (λ k. Names k u) c.in-Array.is h)))
    c.add_all.ensures.added

pub returns-in-Slice : goal.returns-in-Slice
returns-in-Slice c =
    on_ok_weaker c.add_all-in-Slice.result
    (λ a. adds_as a (λ u h. subst (λ k. Names k u) (sym c.in-Slice.is) (one_of c.in-Slice.elem u h))
    (λ u h. of_one c.in-Slice.elem u (subst (λ k. Names k u) c.in-Slice.is h)))
    c.add_all-in-Slice.ensures.added

pub returns-in-Map : goal.returns-in-Map
returns-in-Map c =
    on_ok_weaker c.add_all-in-Map.result
    (λ a. adds_as a (λ u h. subst (λ k. Names k u) (sym c.in-Map.is) (two_of c.in-Map.key c.in-Map.elem u h))
    (λ u h. of_two c.in-Map.key c.in-Map.elem u (subst (λ k. Names k u) c.in-Map.is h)))
    c.add_all-in-Map.ensures.added
