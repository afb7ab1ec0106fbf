use Rattle.std.proofs.Common.{List, ℕ, subst}
use Rattle.std.proofs.lemmas.List.{take_rest}
use Rattle.gob_types.specs.Defined.{types}
use Rattle.gob_stream.specs.Bounds.{within_trees}
use Rattle.gob_salvage.specs.Searching.{ValueStands}
use Rattle.gob_salvage.proofs.SearchLaws.{and_stands}
use Rattle.gob_salvage.proofs.search.Search.longer_row.Goals as goal

pub returns-clause-stands : goal.returns-clause-stands
returns-clause-stands c = λ kept noted s.
    and_stands c.in_ok-there.there c.and.result c.and.ensures.end c.and.ensures.count c.and.ensures.value
    c.and.ensures.other c.and.ensures.nothing
    (λ e. subst (λ (z : List ℕ). ValueStands (within_trees c.args.self.now.limits) (types c.args.table.now) kept z)
    (take_rest c.args.piece.now c.args.row.end) (c.in_ok-there.ensures.value kept noted e)) s c.in-Some.ensures.frame
