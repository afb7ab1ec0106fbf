use Rattle.std.proofs.Common.{length, refl, ap, arith}
use Rattle.gob_go_source.specs.Declarations.{nothing_said}
use Rattle.gob_go_source.specs.Left.{left}
use Rattle.gob_go_source.proofs.DeclarationLaws.{one_more_top, source_from, top_shorter}
use Rattle.gob_go_source.proofs.declarations.read_source.Goals as goal

pub tops-init : goal.tops-init
tops-init c = rw c.requires nothing_said

pub tops-preserved : goal.tops-preserved
tops-preserved c =
    one_more_top c.tops.types.items c.read_top.new.types.items c.tops.declarations.items
    c.read_top.new.declarations.items
    (source_from c.tops.types.items c.tops.declarations.items (left c.args.tokens.now) c.tops.invariant
    c.in-Some.ensures.some)
    c.in_ok-read_top.ensures.says c.in_ok-read_top.ensures.grown

pub tops-smaller : goal.tops-smaller
tops-smaller c = omega (arith, top_shorter c.in_ok-read_top.ensures.says.said, ap length c.in-Some.ensures.some)

pub returns : goal.returns
returns c =
    source_from c.tops.types.items c.tops.declarations.items (left c.args.tokens.now) c.tops.invariant
    (c.in_default.ensures.none refl)
