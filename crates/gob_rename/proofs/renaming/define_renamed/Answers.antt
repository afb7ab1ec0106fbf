-- A description can give the renamed shape where it can give the shape.
use Rattle.std.proofs.Common.{subst, sym}
use Rattle.gob_types.specs.Definable.{IsDefinable}
use Rattle.gob_rename.proofs.RenamedLaws.{definable_renamed}
use Rattle.gob_rename.proofs.renaming.define_renamed.Goals as goal

pub define-requires : goal.define-requires
define-requires c = subst IsDefinable (sym c.in_ok-renamed.ensures)
    (definable_renamed c.args.renames.now c.in-Some.shape.now (c.requires c.in-Some.shape.now (sym c.in-Some.ensures)))
