-- Where a value clashes with the wanted type, and what stands there. (docs/LIBRARY.md, Matching and receiving.)
use Rattle.std.specs.Prelude.{◌≡◌}
use Rattle.gob_types.specs.declared.id.TypeId.{TypeId}
use Rattle.gob_types.specs.Table.{Table}
use Rattle.gob_match.specs.Clashing.{IsLeastClash}
use Rattle.gob_convert.specs.Kinds.{value_kind}
use Rattle.gob_convert.specs.declared.clash.Clash.{Clash}

-- the two types clash on the path, and no clash of them has fewer steps; it leads to types of these kinds
pub record TellsClash (T W : Table) (t u : TypeId) (c : Clash) : Type 0 where
  pub least : IsLeastClash T W t u c.path.items c.reason
  pub stream : c.stream ≡ value_kind least.clash.clash.stream.kind
  pub wanted : c.wanted ≡ value_kind least.clash.clash.wanted.kind
