-- Whatever is kept of the fields that are left stands behind those that were kept.
use Rattle.gob_make.proofs.FieldLaws.{KeptGoOn}
use Rattle.gob_make.proofs.fields.without_zeros.Given as goal

abbrev pub invariant-fields : goal.invariant-fields
invariant-fields g l =
    KeptGoOn (g.S.Shapes.table l.table) l.types l.initial.number-iterator l.number-iterator l.kept.items
