-- What the exports tell C of streams that are made of bytes in memory.
use Rattle.std.specs.Prelude.{◌≡◌, ℕ, List, [], length, true, Option, Some, None, Result, Ok, Err}
use Rattle.gob_types.specs.Reasons.{reason_number}
use Rattle.gob_words.specs.Escaped.{IsUnobeyed}
use Rattle.gob_write.specs.Grammar.{RunAnswers}
use Rattle.gob_write.specs.Shown.{filled_lines}
use Rattle.gob_write.specs.declared.fault.LinesFault.{LinesFault}
use Rattle.gob_write.specs.declared.fault.LinesFault.TheVariants as lines
use Rattle.gob_c.specs.Texts.{put_in}
use Rattle.gob_c.specs.Writing.{standard}
use Rattle.gob_c.specs.declared.in_memory.LinesStream.{LinesStream}
use Rattle.gob_c.specs.declared.streams.StreamTold.{StreamTold}

abbrev pub stream_told : (status reason column length words : ℕ) → StreamTold
stream_told status reason column length words = record {
  status = status;
  reason = reason;
  column = column;
  words = words;
  length = length;
  left_out = 0;
}

-- this is told of words that were put into the room, in which no character stands that a terminal obeys
pub record PutsStream (told_with : ℕ → StreamTold) (said said' : List ℕ) (told : StreamTold) : Type 0 where
  pub words : List ℕ
  pub unobeyed : IsUnobeyed words
  pub put : said' ≡ put_in words said
  pub says : told ≡ told_with (length words)

-- such words were put into the room, and so many bytes they have
pub record PutsUnobeyed (said said' : List ℕ) (count : ℕ) : Type 0 where
  pub words : List ℕ
  pub unobeyed : IsUnobeyed words
  pub put : said' ≡ put_in words said
  pub counted : count ≡ length words

-- the most bytes that a line may have
abbrev pub longest_line : ℕ
longest_line = 268435456

-- the run wrote this stream of the lines, to an output that was empty, and answered so
abbrev pub IsLinesStream : (text : List ℕ) → LinesStream → Type 0
IsLinesStream text made = RunAnswers (filled_lines true standard) longest_line text (Some []) (Some made.stream.items)
    made.answer

-- what is told of such an answer, where so many bytes were written
abbrev pub told_of_lines : Result (Unit {0}) LinesFault → (length words : ℕ) → StreamTold
told_of_lines (Ok u) length words = stream_told 0 0 0 length words
told_of_lines (Err (lines.Wrong line column path due)) length words = stream_told 1 0 column length words
told_of_lines (Err (lines.Refused line r)) length words = stream_told 1 (reason_number r) 0 length words
told_of_lines (Err (lines.TooLong line most)) length words = stream_told 1 0 0 length words
told_of_lines (Err lines.Read) length words = stream_told 2 0 0 length words
told_of_lines (Err lines.Write) length words = stream_told 2 0 0 length words
told_of_lines (Err lines.Memory) length words = stream_told 2 0 0 length words

-- the stream that the lines say was put into the room, up to a fault, and this is told of how the run ended
pub record LinesStreamTold (text room room' said said' : List ℕ) (told : StreamTold) : Type 0 where
  pub stream : List ℕ
  pub answer : Result (Unit {0}) LinesFault
  pub wrote : RunAnswers (filled_lines true standard) longest_line text (Some []) (Some stream) answer
  pub put : room' ≡ put_in stream room
  pub says : PutsStream (told_of_lines answer (length stream)) said said' told
