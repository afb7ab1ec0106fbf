-- Elements, or entries.
use Rattle.std.proofs.Common.{subst, sym}
use Rattle.gob_types.specs.Defined.{types}
use Rattle.gob_views.specs.Machine.PartLines.{HasWholeParts}
use Rattle.gob_views.specs.declared.body_lines.PartTypes.{PartTypes}
use Rattle.gob_views.proofs.body_lines.whole_parts.Goals as goal

pub returns-in-Element-clause-whole : goal.returns-in-Element-clause-whole
returns-in-Element-clause-whole c =
    subst (λ (p : PartTypes). HasWholeParts (types c.args.table.now) p c.args.depth c.whole_elements.result.count
    c.args.bytes.now c.whole_elements.result.end) (sym c.in-Element.is) c.whole_elements.ensures.whole

pub returns-in-Entry-clause-whole : goal.returns-in-Entry-clause-whole
returns-in-Entry-clause-whole c =
    subst (λ (p : PartTypes). HasWholeParts (types c.args.table.now) p c.args.depth c.whole_entries.result.count
    c.args.bytes.now c.whole_entries.result.end) (sym c.in-Entry.is) c.whole_entries.ensures.whole
