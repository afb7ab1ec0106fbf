-- Each type so far is there, under the id that stands for it.
use Rattle.std.proofs.Common.{◌≡◌, ℕ, List, Contains, take}
use Rattle.gob_types.specs.Defined.{types}
use Rattle.gob_filled.specs.Stream.{FilledItem}
use Rattle.gob_go_writer.specs.Calls.Writer.{HasPut, limits_of}
use Rattle.gob_join.specs.Renaming.{among}
use Rattle.gob_join.specs.Machine.Taking.{Defines}
use Rattle.gob_join.proofs.taking.define_all.Given as goal

abbrev pub invariant-loop-id : goal.invariant-loop-id
invariant-loop-id l =
    (limits_of l.writer ≡ limits_of l.fn.writer)
    × ((items : List FilledItem) (bytes : List ℕ) → HasPut l.fn.writer items bytes
    → Defines l.fn.writer l.writer items bytes l.fn.text.items l.text.items (types l.table) (among l.renaming)
    (λ t. Contains (take l.id-index l.ids) t))
