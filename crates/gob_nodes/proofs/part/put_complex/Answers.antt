use Rattle.gob_value.proofs.PublicLaws.{then}
use Rattle.gob_nodes.specs.Says.{spells_complex}
use Rattle.gob_nodes.proofs.part.put_complex.Goals as goal

pub returns-clause-says : goal.returns-clause-says
returns-clause-says c =
    then (λ x y p q. spells_complex p q) c.in_ok-write_pattern.ensures.ok c.in_ok-write_pattern-2.ensures.ok
