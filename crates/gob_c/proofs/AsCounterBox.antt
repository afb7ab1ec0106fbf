-- A handle of a counter and its parts own what a box at the same types owns.
use mir.Syntax.{impl, tnil, dnil}
use mathlib.Core.List.{[]}
use denote.Signature.{Slot, plain}
use Rattle.std_alloc.proofs.BoxSteps.Form.{Bx}
use Rattle.std_heap.specs.contracts.Global as Heap
use Rattle.std_heap.specs.contracts.GlobalAllocator.TheImpl.{ghosts, dict}
use Rattle.std_heap.proofs.Global.TheLaws as heap
use Rattle.gob_c.specs.contracts.any_counter.AnyCounter as Counter
use Rattle.gob_c.proofs.any_counter.AnyCounter.TheLaws as counter
use Rattle.gob_c.specs.contracts.counter_handle.CounterHandle as Handle
use Rattle.gob_c.specs.contracts.parts.Parts as Parts

abbrev pub E : Bx
E = record {
  row = Counter.the_row;
  laws = counter.the_row_laws;
  al = record { row = Heap.the_row; laws = heap.the_row_laws; g = ghosts; d = dict; drops = impl [] tnil dnil };
}

abbrev pub FromHandle : Slot 0
FromHandle = plain (λ _. Handle.the_row)

abbrev pub FromParts : Slot 0
FromParts = plain (λ _. Parts.the_row Counter.the_row Heap.the_row ghosts)

abbrev pub FromHeap : Slot 0
FromHeap = plain (λ _. Heap.the_row)
