use Rattle.std.proofs.Common.{arith, ap, subst, sym}
use Rattle.gob_types.specs.Defined.{types}
use Rattle.gob_value.specs.View.{view}
use Rattle.gob_go.specs.declared.filled.Definition.{Definition}
use Rattle.gob_go_writer.specs.Machine.Tidied.{IsDescriptionTidied}
use Rattle.gob_go_writer.proofs.EachLaws.{all_hold, next_holds, unvisited_on}
use Rattle.gob_go_writer.proofs.tidy.description.tidy_definitions.Goals as goal

pub returns : goal.returns
returns c = all_hold c.args.definitions.now c.definitions.definitions c.definitions.i c.definitions.auto.definitions
    c.definitions-test.false c.definitions.invariant.tidied

pub definitions-preserved : goal.definitions-preserved
definitions-preserved c =
    let stays = c.definitions.invariant.unvisited in
    let same = c.definitions.auto.definitions in
    let old = c.index-definitions-i.result in
    let is = c.index-definitions-i.is in
    record {
      unvisited = (unvisited_on c.args.definitions.now c.definitions.definitions c.definitions.i _ same stays).1;
      tidied = next_holds c.args.definitions.now c.definitions.definitions c.definitions.i old _ same (omega arith) is
          (stays c.definitions.i old (omega arith)) (record {
            id = ap (λ (d : Definition). d.id) (sym is);
            described = subst (λ (d : Definition). IsDescriptionTidied (types c.args.table.now) (view d.described)
                (view c.tidy_description.new.described)) (sym is) c.in_ok-tidy_description.ensures;
          }) c.definitions.invariant.tidied;
    }
