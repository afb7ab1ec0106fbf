-- What the faults of a writer are, whose output is in memory.
use Rattle.gob_nodes.specs.declared.fault.NodesFault.{NodesFault}
use Rattle.gob_nodes.specs.declared.fault.NodesFault.TheVariants as nodes
use Rattle.gob_stream.specs.declared.fault.WriteFault.{WriteFault}
use Rattle.gob_stream.specs.declared.fault.WriteFault.TheVariants as writing
use Rattle.gob_item_writer.specs.declared.fault.ItemFault.{ItemFault}
use Rattle.gob_item_writer.specs.declared.fault.ItemFault.TheVariants as fault

-- the fault of an item whose nodes aren't read
abbrev pub of_nodes : NodesFault → ItemFault
of_nodes (nodes.Wrong node) = fault.Nodes node
of_nodes nodes.Memory = fault.Memory

-- of one that isn't written
abbrev pub of_writing : WriteFault → ItemFault
of_writing (writing.Refused r) = fault.Refused r
of_writing writing.Failed = fault.Failed
of_writing _ = fault.Memory
