use Rattle.std.proofs.Common.{sym, subst}
use Rattle.gob_types.specs.Defined.{IsTable}
use Rattle.gob_types.proofs.TableLaws.{types_are}
use Rattle.gob_types.proofs.definitions.Definitions.learn.Goals as goal

pub returns-clause-types : goal.returns-clause-types
returns-clause-types c = subst IsTable (sym (types_are c.self.view_is c.self.invariant)) c.self.invariant
