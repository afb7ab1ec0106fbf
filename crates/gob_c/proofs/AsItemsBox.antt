-- A handle of a writer and its parts own what a box at the same types owns.
use mir.Syntax.{impl, tnil, dnil}
use mathlib.Core.List.{[]}
use denote.Signature.{Slot, plain}
use Rattle.std_alloc.proofs.BoxSteps.Form.{Bx}
use Rattle.std_heap.specs.contracts.Global as Heap
use Rattle.std_heap.specs.contracts.GlobalAllocator.TheImpl.{ghosts, dict}
use Rattle.std_heap.proofs.Global.TheLaws as heap
use Rattle.gob_item_writer.specs.contracts.writer.ItemWriter as Writer
use Rattle.gob_item_writer.proofs.writer.ItemWriter.TheLaws as writer
use Rattle.gob_c.specs.contracts.items_handle.ItemsHandle as Handle
use Rattle.gob_c.specs.contracts.parts.Parts as Parts

abbrev pub E : Bx
E = record {
  row = Writer.the_row;
  laws = writer.the_row_laws;
  al = record { row = Heap.the_row; laws = heap.the_row_laws; g = ghosts; d = dict; drops = impl [] tnil dnil };
}

abbrev pub FromHandle : Slot 0
FromHandle = plain (λ _. Handle.the_row)

abbrev pub FromParts : Slot 0
FromParts = plain (λ _. Parts.the_row Writer.the_row Heap.the_row ghosts)

abbrev pub FromHeap : Slot 0
FromHeap = plain (λ _. Heap.the_row)
