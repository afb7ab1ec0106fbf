use Rattle.gob_value.proofs.LooseLaws.{one_loose_shape, strict_is_loose, loose_is_strict, fault_stays}
use Rattle.gob_value.proofs.laws.loose_descriptions_differ_in_ids.Goals as goal

pub returns-clause-one : goal.returns-clause-one
returns-clause-one c id other v r s d e = one_loose_shape d e

pub returns-clause-loose : goal.returns-clause-loose
returns-clause-loose c id v s d = strict_is_loose d

pub returns-clause-strict : goal.returns-clause-strict
returns-clause-strict c id v s d n = loose_is_strict d n

pub returns-clause-faults : goal.returns-clause-faults
returns-clause-faults c id v f m n = fault_stays id v f m n
