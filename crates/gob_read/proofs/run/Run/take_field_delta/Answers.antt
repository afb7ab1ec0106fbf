use Rattle.std.proofs.Common.{arith, refl, sym}
use Rattle.gob_read.specs.Machine.BasicParts.{not_named, named}
use Rattle.gob_read.proofs.Machine.FieldSteps.{can_name}
use Rattle.gob_read.proofs.Machine.BasicPartSteps.{can_go_on, name_takes, frame_some}
use Rattle.gob_read.proofs.run.Run.take_field_delta.Goals as goal

pub returns-then-n-gt127 : goal.returns-then-n-gt127
returns-then-n-gt127 g c = not_named refl

pub returns-in_default : goal.returns-in_default
returns-in_default g c = not_named refl

pub name_field-requires-clause-named : goal.name_field-requires-clause-named
name_field-requires-clause-named g c =
    let r = c.requires.before.room in
    can_name c.saturating_add-number.result (can_go_on {n = c.args.n} c.requires.before.expected c.requires.inside
    c.requires.struct_ c.requires.before.has_read c.requires.fresh (omega arith) (omega arith)) (let h =
    c.saturating_add-number.ensures in let s = c.in-Some.ensures.small in omega arith)

pub name_field-requires-clause-inside : goal.name_field-requires-clause-inside
name_field-requires-clause-inside g c = frame_some _ c.requires.inside

pub returns : goal.returns
returns g c =
    let h = c.saturating_add-number.ensures in let s = c.in-Some.ensures.small in let n = c.requires.no_end in let r =
    c.requires.before.room in
    named (name_takes c.requires.before.expected c.requires.inside c.requires.struct_ c.requires.before.has_read
    c.requires.fresh (omega arith) (omega arith) (omega arith) (sym c.in-Some.ensures.found)
    c.in_ok-name_field.ensures (record {
      taken = refl;
      start = refl;
      number = refl;
      length_is = refl;
      depth_is =
          refl;
    }))
