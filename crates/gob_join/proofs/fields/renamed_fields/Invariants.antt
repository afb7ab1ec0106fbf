-- The fields so far are renamed.
use Rattle.std.proofs.Common.{take}
use Rattle.gob_join.specs.Renaming.{AreRenamedFields, among}
use Rattle.gob_join.proofs.fields.renamed_fields.Given as goal

abbrev pub invariant-loop-field : goal.invariant-loop-field
invariant-loop-field l = AreRenamedFields (among l.ids) (take l.field-index l.fields) l.renamed.items
