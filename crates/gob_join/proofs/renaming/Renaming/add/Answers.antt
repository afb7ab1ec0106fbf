use Rattle.std.proofs.Common.{◌∙◌, ap}
use Rattle.gob_join.specs.Renaming.{among}
use Rattle.gob_join.proofs.FieldLaws.{stands_more}
use Rattle.gob_join.proofs.renaming.Renaming.add.Goals as goal

pub returns-clause-added : goal.returns-clause-added
returns-clause-added c = stands_more c.requires c.in_ok-insert.ensures.updates.1
    (λ q e. c.in_ok-insert.ensures.updates.2 q e ∙ ap (λ l. among l q) c.self.view_is)
