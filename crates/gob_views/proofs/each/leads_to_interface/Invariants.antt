use Rattle.std.proofs.Common.{◌-◌, ◌^◌}
use Rattle.gob_types.specs.Defined.{types}
use Rattle.gob_types.proofs.WalkLaws.{Met}
use Rattle.gob_views.proofs.ReachLaws.{AreBareFirst}
use Rattle.gob_views.proofs.each.leads_to_interface.Given as goal

-- all that the first ids name was met, and none of these is an interface
abbrev pub invariant-types : goal.invariant-types
invariant-types l = record {
  met : Met (types l.table) l.fn.id l.met.keys l.next;
  bare : AreBareFirst (types l.table) l.met.keys l.next;
}

-- a set has room for no more ids than this
abbrev pub decreases-types : goal.decreases-types
decreases-types l = 2 ^ 63 - l.next
