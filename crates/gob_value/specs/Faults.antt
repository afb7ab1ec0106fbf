-- What each fault says of a value. A value that is too deep isn't judged further.
use Rattle.std.specs.Prelude.{ℕ, ◌<◌}
use Rattle.gob_types.specs.declared.id.TypeId.{TypeId}
use Rattle.gob_types.specs.declared.reason.Reason.TheVariants as reason
use Rattle.gob_types.specs.declared.denial.Denial.{Denial}
use Rattle.gob_types.specs.declared.denial.Denial.TheVariants as denial
use Rattle.gob_types.specs.Table.{Table}
use Rattle.gob_value.specs.Tree.{Tree, depth}
use Rattle.gob_value.specs.Fits.{Fits}
use Rattle.gob_value.specs.Within.{IsWithin, FitsWithin}
use Rattle.gob_value.specs.declared.fault.Misfit.{Misfit}
use Rattle.gob_value.specs.declared.fault.Misfit.TheVariants as misfit
use Rattle.gob_value.specs.declared.fault.SpellFault.{SpellFault}
use Rattle.gob_value.specs.declared.fault.SpellFault.TheVariants as fault

-- the fault is the value's at this type and limit
abbrev pub IsMisfit : Table → TypeId → ℕ → Tree → Misfit → Type 0
IsMisfit T t limit v misfit.TooDeep = limit < depth v
IsMisfit T t limit v misfit.DoesNotFit = IsWithin limit v × ¬ Fits T t v

-- the fault is that of spelling the value at this type and limit, which may find no memory where it fits
abbrev pub IsSpellFault : Table → TypeId → ℕ → Tree → SpellFault → Type 0
IsSpellFault T t limit v fault.TooDeep = limit < depth v
IsSpellFault T t limit v fault.DoesNotFit = IsWithin limit v × ¬ Fits T t v
IsSpellFault T t limit v fault.Memory = FitsWithin T t limit v

-- what is no fit isn't spelled
abbrev pub spell_fault : Misfit → SpellFault
spell_fault misfit.TooDeep = fault.TooDeep
spell_fault misfit.DoesNotFit = fault.DoesNotFit

-- why a value isn't spelled
abbrev pub value_denial : SpellFault → Denial
value_denial fault.TooDeep = denial.Refused reason.TooDeep
value_denial fault.DoesNotFit = denial.Refused reason.DoesNotFit
value_denial fault.Memory = denial.Memory
