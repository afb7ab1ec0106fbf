use Rattle.std.proofs.Common.{◌∙◌, sym, ap, subst, ◌-◌}
use Rattle.gob_types.specs.Defined.{IsTable, definition_count}
use Rattle.gob_types.proofs.TableLaws.{types_are}
use Rattle.gob_types.proofs.definitions.Definitions.count.Goals as goal

pub returns-clause-count : goal.returns-clause-count
returns-clause-count c = ap (λ n. n - 17) c.count.ensures
    ∙ ap definition_count (sym (types_are c.self.view_is c.self.invariant))

pub returns-clause-known : goal.returns-clause-known
returns-clause-known c = subst IsTable (sym (types_are c.self.view_is c.self.invariant)) c.self.invariant
