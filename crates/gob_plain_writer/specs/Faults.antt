-- What the faults of a writer are, whose output is in memory.
use Rattle.std.specs.Prelude.{ℕ}
use Rattle.gob_stream.specs.declared.fault.WriteFault.{WriteFault}
use Rattle.gob_stream.specs.declared.fault.WriteFault.TheVariants as writing
use Rattle.gob_write.specs.declared.source.SourceTypesFault.{SourceTypesFault}
use Rattle.gob_write.specs.declared.source.SourceTypesFault.TheVariants as source
use Rattle.gob_write.specs.declared.types.TypesFault.{TypesFault}
use Rattle.gob_write.specs.declared.types.TypesFault.TheVariants as types
use Rattle.gob_plain_writer.specs.declared.fault.OpenFault.{OpenFault}
use Rattle.gob_plain_writer.specs.declared.fault.OpenFault.TheVariants as opening
use Rattle.gob_plain_writer.specs.declared.fault.PutFault.{PutFault}
use Rattle.gob_plain_writer.specs.declared.fault.PutFault.TheVariants as putting

-- the fault of opening where Go source gives no types
abbrev pub of_source_fault : SourceTypesFault → OpenFault
of_source_fault source.Memory = opening.Memory
of_source_fault given = opening.Source given

-- where a stream in memory gives none
abbrev pub of_types_fault : TypesFault → OpenFault
of_types_fault types.Memory = opening.Memory
of_types_fault types.Read = opening.Memory
of_types_fault given = opening.Types given

-- where a definition isn't written
abbrev pub opening_fault : WriteFault → OpenFault
opening_fault (writing.Refused r) = opening.Refused r
opening_fault _ = opening.Memory

-- the fault of a value that isn't written
abbrev pub putting_fault : WriteFault → PutFault
putting_fault (writing.Refused r) = putting.Refused r
putting_fault writing.Failed = putting.Failed
putting_fault _ = putting.Memory

-- something is wrong with the text, or there was no memory to say so
abbrev pub IsWrong : PutFault → Type 0
IsWrong (putting.Wrong column path due) = Unit {0}
IsWrong putting.Memory = Unit {0}
IsWrong _ = ⊥
