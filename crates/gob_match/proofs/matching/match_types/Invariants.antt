use Rattle.std.proofs.Common.{◌-◌, ◌^◌}
use Rattle.gob_match.specs.Pairs.{of_types}
use Rattle.gob_match.proofs.ConversionLaws.{HaveConversions}
use Rattle.gob_match.proofs.SearchLaws.{Searched}
use Rattle.gob_match.proofs.matching.match_types.Given as goal

-- the first pairs were explored, and have their conversions
abbrev pub invariant-loop-next : goal.invariant-loop-next
invariant-loop-next g l = record {
  searched : Searched (g.S.Shapes.table l.stream) (g.T.Shapes.table l.wanted) (of_types l.id l.wanted_id) l.found
      l.next;
  conversions : HaveConversions (g.S.Shapes.table l.stream) (g.T.Shapes.table l.wanted) l.found l.conversions.items
      l.next;
}

-- a map has room for no more pairs than this
abbrev pub decreases-loop-next : goal.decreases-loop-next
decreases-loop-next g l = 2 ^ 63 - l.next
