-- What was passed, and the parts that are to come, are all.
use Rattle.std.proofs.Common.{◌<◌, ℕ, Option}
use Rattle.gob_value.specs.Tree.{Tree}
use Rattle.gob_tape.specs.Seeing.{Sees, nodes_from, nodes_left}
use Rattle.gob_plain.proofs.NilPartLaws.{NilsLeft}
use Rattle.gob_plain.proofs.go.nils.+part.Given as goal

abbrev pub decreases-push_nils : goal.decreases-push_nils
decreases-push_nils l = nodes_from l.part

abbrev pub invariant-loop-inner : goal.invariant-loop-inner
invariant-loop-inner l = record {
  next : goal.iterator-loop-inner.can_next l.inner-iterator;
  finite : goal.iterator-loop-inner.is_finite l.inner-iterator;
  fewer : nodes_left l.inner-iterator < nodes_from l.part;
  left : (f : Option ℕ) (v : Tree) → Sees l.part f v
      → NilsLeft l.inner-iterator l.number l.behind v l.fn.nils.items l.nils.items;
}
