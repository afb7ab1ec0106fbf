use Rattle.std.proofs.Common.{◌∙◌, ap, refl}
use Rattle.gob_rename.specs.Renaming.{renamed}
use Rattle.gob_types.specs.Defined.{types}
use Rattle.std.proofs.Common.{subst}
use Rattle.gob_types.specs.Defined.{IsTable}
use Rattle.gob_convert.specs.Machine.Wanted.{IsFound}
use Rattle.gob_convert.proofs.WantedLaws.{is_found, is_target, wanted_found}
use Rattle.gob_convert.proofs.wanted.put_wanted.Goals as goal

pub returns-clause-found : goal.returns-clause-found
returns-clause-found g c = λ bytes known.
    let w = c.in_ok-id.ensures.found bytes known in
    wanted_found (IsFound c.args.options.now.renames.now c.put_front.new.front
    (record { table = c.in_ok-table.table; id = c.in-Some.id; all = c.args.options.now.all })) w c.in-Some.is
    c.in_ok-id.ensures.limits
    (is_found c.args.options.now.renames.now (types c.table.result.now) (ap types c.table.ensures)
    c.in_ok-table.ensures.judged c.in_ok-table.ensures.renamed w.puts.put)

pub returns-clause-target : goal.returns-clause-target
returns-clause-target g c =
    let here = ap types c.table.ensures in
    is_target c.args.options.now.renames.now c.in_ok-id.ensures.some c.in-Some.is
    (subst IsTable here c.renamed_by.ensures.known)
    (c.in_ok-table.ensures.renamed ∙ ap (λ T. renamed c.args.options.now.renames.now T) here) refl
