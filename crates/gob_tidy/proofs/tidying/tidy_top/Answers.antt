use Rattle.std.proofs.Common.{refl}
use Rattle.gob_value.proofs.PublicLaws.{both, not_true, seen}
use Rattle.gob_tidy.proofs.WholeTidied.{at_start, if_some, struct_top, tagged_top}
use Rattle.gob_tidy.proofs.tidying.tidy_top.Goals as goal

pub returns-then-has_structs : goal.returns-then-has_structs
returns-then-has_structs g c =
    if_some c.tidy_value.result (λ end s. at_start c.requires.start
    (seen s (struct_top _ _ _ _ (c.has_structs.ensures.0 c.if-has_structs.true))))
    c.tidy_value.ensures

pub returns : goal.returns
returns g c =
    if_some c.tidy_value-2.result (λ end s. both c.in_ok-at.ensures.stands s
    (tagged_top _ _ _ _ (not_true c.if-has_structs.false c.has_structs.ensures) refl c.in_ok-put_tag.ensures))
    c.tidy_value-2.ensures
