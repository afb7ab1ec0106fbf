use Rattle.std.proofs.Common.{sym, subst}
use Rattle.std.specs.Prelude.{IfOk, Contains}
use Rattle.gob_types.specs.declared.id.TypeId.{TypeId}
use Rattle.gob_types.specs.Table.{Table, IsDefined}
use Rattle.gob_types.proofs.TableLaws.{types_are}
use Rattle.gob_types.proofs.definitions.Definitions.ids.Goals as goal

pub returns : goal.returns
returns c = subst (λ (T : Table). IfOk c.ids.result (λ ids. (u : TypeId) → IsDefined T u → Contains ids u))
    (sym (types_are c.self.view_is c.self.invariant)) c.ids.ensures
