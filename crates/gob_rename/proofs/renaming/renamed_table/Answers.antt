-- Each type in turn is defined, renamed, behind those before it.
use Rattle.std.proofs.Common.{◌∙◌}
use Rattle.gob_types.specs.Defined.{types}
use Rattle.gob_rename.proofs.EntryLaws.{all_renamed, defined_within, first_renamed, next_renamed, only_shape}
use Rattle.gob_rename.proofs.renaming.renamed_table.Goals as goal

pub loop-id-init : goal.loop-id-init
loop-id-init c = c.in_ok-made.ensures.base ∙ first_renamed c.args.renames.now (types c.args.table.now)

pub define_renamed-requires : goal.define_renamed-requires
define_renamed-requires c = only_shape
    (defined_within _ c.count-known.ensures.known c.requires c.loop-id-test.true)

pub loop-id-preserved : goal.loop-id-preserved
loop-id-preserved c = next_renamed c.args.renames.now c.loop-id.invariant
    (defined_within _ c.count-known.ensures.known c.requires c.loop-id-test.true) c.in_ok-define_renamed.ensures

pub returns : goal.returns
returns c =
    all_renamed (types c.args.table.now) c.args.renames.now _ c.loop-id.invariant c.requires c.loop-id-test.false
