-- What stops an item or a stream from being taken in, where a reader or the writer was stopped.
use Rattle.std.specs.Prelude.{◌≡◌, ℕ, Result, Err}
use Rattle.gob_stream.specs.Devices.{counts_up}
use Rattle.gob_stream.specs.declared.fault.Fault.{Fault}
use Rattle.gob_stream.specs.declared.fault.Fault.TheVariants as reading
use Rattle.gob_go_writer.specs.declared.put_fault.PutFault.{PutFault}
use Rattle.gob_go_writer.specs.declared.put_fault.PutFault.TheVariants as putting
use Rattle.gob_join.specs.declared.fault.TakeFault.{TakeFault}
use Rattle.gob_join.specs.declared.fault.TakeFault.TheVariants as taking
use Rattle.gob_join.specs.declared.join_fault.JoinFault.{JoinFault}
use Rattle.gob_join.specs.declared.join_fault.JoinFault.TheVariants as fault

-- the writer of the joined stream
abbrev pub putting_fault : PutFault → TakeFault
putting_fault (putting.Refused r) = taking.Full r
putting_fault putting.Memory = taking.Memory
putting_fault putting.Failed = taking.Failed

-- a reader
abbrev pub reading_fault : Fault → JoinFault
reading_fault (reading.Refused R) = fault.Refused R
reading_fault reading.Read = fault.Read
reading_fault reading.Memory = fault.Memory
reading_fault reading.Failed = fault.Failed

-- an item
abbrev pub taking_fault : TakeFault → JoinFault
taking_fault (taking.Full r) = fault.Full r
taking_fault taking.Memory = fault.Memory
taking_fault taking.Failed = fault.Failed

-- the fault is `Read` exactly where a read failed
abbrev pub CountsJoinReads : (failures failures' : ℕ) → Result (Unit {0}) JoinFault → Type 0
CountsJoinReads failures failures' (Err fault.Read) = failures' ≡ counts_up failures 1
CountsJoinReads failures failures' _ = failures' ≡ failures

-- and `Write` exactly where a write did
abbrev pub CountsJoinWrites : (failures failures' : ℕ) → Result (Unit {0}) JoinFault → Type 0
CountsJoinWrites failures failures' (Err fault.Write) = failures' ≡ counts_up failures 1
CountsJoinWrites failures failures' _ = failures' ≡ failures
