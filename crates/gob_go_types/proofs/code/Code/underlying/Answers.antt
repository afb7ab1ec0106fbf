-- A name leads to what it is declared as.
use Rattle.std.proofs.Common.{◌∙◌, sym}
use Rattle.gob_go_types.specs.Sight.{behind, itself}
use Rattle.gob_go_types.proofs.code.Code.underlying.Goals as goal

pub names-init : goal.names-init
names-init c = λ end h. h

pub names-preserved : goal.names-preserved
names-preserved c = λ end h.
    c.names.invariant end
    (behind (sym c.in_ok-declared.ensures ∙ c.in-Some.is) c.in_ok-declaration-in-Some.ensures h)

pub returns-in-None : goal.returns-in-None
returns-in-None c = c.names.invariant _ (itself (sym c.in_ok-declared.ensures ∙ c.in-None.is))
