-- Name by name more is appended.
use Rattle.std.proofs.Common.{◌<◌, arith, length}
use Rattle.gob_source.specs.Registered.{names_of, namings}
use Rattle.gob_source.proofs.RegisteredLaws.{name_next}
use Rattle.gob_source.proofs.by_type.push_names.Goals as goal

pub loop-place-preserved : goal.loop-place-preserved
loop-place-preserved c =
    let ns = names_of c.args.id (namings c.args.names.now.all.now) in
    let within : c.loop-place.place < length ns = omega arith in
    name_next ns c.loop-place.place c.name_of.result.now c.loop-place.out.items c.push_name_line.new.out.items _
    c.name_of.ensures within c.loop-place.invariant c.in_ok-push_name_line.ensures
