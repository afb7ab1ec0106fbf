-- What names a type, by what is known of it.
use Rattle.std.proofs.Common.{rules, sym, subst}
use Rattle.gob_source.specs.Adds.{Adds}
use Rattle.gob_source.proofs.SourceLaws.{deepest_type, whole_type}
use Rattle.gob_source.proofs.types.+source.Goals as goal
use Rattle.gob_source.proofs.types.+source.Goals.{push_defined-then-levels-eq0-via-then-levels-eq0}
use Rattle.gob_source.proofs.types.+source.Goals.{push_defined-then-levels-eq0-via-else-levels-eq0+then-not-has_parts}

pub push_defined-returns-then-levels-eq0 : goal.push_defined-returns-then-levels-eq0
push_defined-returns-then-levels-eq0 g t c =
    let T = g.S.Shapes.table c.args.types.now.shapes.now in
    let ts = c.args.types.now.ids.now in
    let s = c.in-Some.shape.now in
    subst (Adds c.push_used.result c.args.out.now.items c.push_used.new.out.items)
    (sym (elim c.then-levels-eq0.branch [
      | push_defined-then-levels-eq0-via-then-levels-eq0 w ↦
          deepest_type c.args.levels T ts c.args.of c.args.id s (search rules) (search rules) (search rules)
      | push_defined-then-levels-eq0-via-else-levels-eq0+then-not-has_parts w ↦
          whole_type c.args.levels T ts c.args.of c.args.id s (search rules) (search rules) (search rules)
    ]))
    (search rules)
