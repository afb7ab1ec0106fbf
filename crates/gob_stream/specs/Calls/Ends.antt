-- What contracts see of the two ends of a stream: the reader that it comes from and the writer that it goes to, as
-- the calls so far left them, and what was counted there.
use Rattle.std.specs.Prelude.{Bool, ℕ}
use Rattle.gob_stream.specs.declared.input.Input.{Input}
use Rattle.gob_stream.specs.declared.output.Output.{Output}

abbrev pub reader_of : {R : Type 0} → Input R → R
reader_of input = input.reader

-- how many bytes were read, and how many reads failed
abbrev pub bytes_read : {R : Type 0} → Input R → ℕ
bytes_read input = input.taken

abbrev pub failed_reads : {R : Type 0} → Input R → ℕ
failed_reads input = input.failures

abbrev pub writer_of : {W : Type 0} → Output W → W
writer_of output = output.writer

-- how many writes and flushes failed
abbrev pub failed_writes : {W : Type 0} → Output W → ℕ
failed_writes output = output.failures

-- whether there was a write since the last flush that went well
abbrev pub is_unflushed : {W : Type 0} → Output W → Bool
is_unflushed output = output.unflushed
