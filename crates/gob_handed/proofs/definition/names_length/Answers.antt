use Rattle.std.proofs.Common.{◌+◌, ◌-◌, ◌^◌, length, ap, ◌∙◌}
use Rattle.std.specs.Prelude.{min}
use Rattle.gob_handed.proofs.PutsLaws.{names_step}
use Rattle.gob_handed.proofs.definition.names_length.Goals as goal

pub fields-preserved : goal.fields-preserved
fields-preserved c =
    c.saturating_add-bytes.ensures ∙ ap (λ l. min (c.fields.bytes + length l) (2 ^ 64 - 1)) c.as_bytes.ensures
    ∙ names_step c.args.fields.now c.fields.place c.index-fields-place.result c.fields.bytes (2 ^ 64 - 1)
    c.fields-test.true c.index-fields-place.is c.fields.invariant
