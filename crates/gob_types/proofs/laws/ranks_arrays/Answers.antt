use Rattle.gob_types.proofs.GrowthLaws.{ready_grounded}
use Rattle.gob_types.specs.Machine.Walk.{IsFilledOf}
use Rattle.gob_types.proofs.RankLaws.{rank_below, rank_above, one_rank}
use Rattle.gob_types.proofs.laws.ranks_arrays.Goals as goal

pub returns-clause-above : goal.returns-clause-above
returns-clause-above c T t e n s r there is filled =
    let array : IsFilledOf T t e = record { shape = s; count = n; there = there; kind = is; filled = filled } in
    let below = rank_below array (ready_grounded r).has in
    (below.0, below.2, rank_above array below.2)

pub returns-clause-one : goal.returns-clause-one
returns-clause-one c T t m n = one_rank
