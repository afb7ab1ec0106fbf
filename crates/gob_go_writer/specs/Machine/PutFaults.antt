-- What stops a writer, by what stopped what it calls.
use Rattle.gob_types.specs.declared.denial.Denial.{Denial}
use Rattle.gob_types.specs.declared.denial.Denial.TheVariants as denial
use Rattle.gob_stream.specs.declared.fault.Fault.{Fault}
use Rattle.gob_stream.specs.declared.fault.Fault.TheVariants as reading
use Rattle.gob_go_writer.specs.declared.put_fault.PutFault.{PutFault}
use Rattle.gob_go_writer.specs.declared.put_fault.PutFault.TheVariants as fault

abbrev pub fault_of_denial : Denial → PutFault
fault_of_denial (denial.Refused r) = fault.Refused r
fault_of_denial denial.Memory = fault.Memory

abbrev pub fault_of_session : Fault → PutFault
fault_of_session (reading.Refused R) = fault.Refused R.reason
fault_of_session reading.Read = fault.Failed
fault_of_session reading.Memory = fault.Memory
fault_of_session reading.Failed = fault.Failed
