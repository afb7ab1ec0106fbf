use Rattle.std.proofs.Common.{arith, sym, ◌∙◌, subst}
use Rattle.std.proofs.lemmas.Option.{slice_get_within, get_or_from_slice_get}
use Rattle.gob_match.specs.Machine.Exploring.{ConvertsAt}
use Rattle.gob_match.proofs.receiving.conversion_of.Goals as goal

pub unreachable-requires : goal.unreachable-requires
unreachable-requires g c = c.in_default.ensures c.requires.place c.requires.at

pub index-requires : goal.index-requires
index-requires g c =
    let conversions = c.args.matched.now.conversions in
    let w = c.requires.matched.conversion c.in-Some.place c.args.pair c.in-Some.ensures in
    let below = slice_get_within conversions.items c.in-Some.place w.0 w.1 in
    omega (arith, conversions.ok)

pub returns : goal.returns
returns g c =
    let w = c.requires.matched.conversion c.in-Some.place c.args.pair c.in-Some.ensures in
    let is = c.index.ensures
    ∙ get_or_from_slice_get c.args.matched.now.conversions.items c.in-Some.place w.0 c.index.result.now w.1 in
    subst (ConvertsAt (g.S.Shapes.table c.args.matched.now.stream.now) (g.T.Shapes.table c.args.matched.now.wanted.now)
    c.args.pair) (sym is) w.2
