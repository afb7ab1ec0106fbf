-- Each item of a stream shows something, so it has lines.
use Rattle.std.proofs.Common.{ℕ, List, [], ◌∷◌, ◌++◌, Option, Result}
use Rattle.gob_types.specs.Base.{base_table}
use Rattle.gob_types.specs.Table.{Table}
use Rattle.gob_stream.specs.Bounds.{Bounds}
use Rattle.gob_filled.specs.Outcome.{profile}
use Rattle.gob_filled.specs.Stream.{FilledItem, defining, putting, FilledStream}
use Rattle.gob_json_writer.proofs.ShownLaws.{stream_shown}
use Rattle.gob_tool.specs.declared.fault.ToolFault.{ToolFault}
use Rattle.gob_tool.proofs.TextLaws.{texts_are}
use Rattle.gob_tool.specs.LineGo.{IsLinesOf}
use Rattle.gob_tool.specs.Machine.LinesGo.{ShowsInLines}
use Rattle.gob_tool.specs.TextsGo.{TextsAnswers}

pub item_lines : {L : Bounds} {T : Table} {bytes : List ℕ} (text : List ℕ) (items : List FilledItem) (i : FilledItem)
    → FilledStream base_table L (items ++ i ∷ []) bytes T → ShowsInLines T i text → IsLinesOf T i text
item_lines text items (defining id v) s l = l
item_lines text items (putting id w) s l =
    let shown = stream_shown items [] s in
    record { value = shown.value; nils = shown.nils; shows = shown.shows; lines = l shown.value shown.nils shown.shows }

pub shown_in_lines : (L : Bounds) (bytes : List ℕ) (now old new : Option (List ℕ)) (r : Result (Unit {0}) ToolFault)
    → TextsAnswers ShowsInLines L bytes now old new r → TextsAnswers IsLinesOf L bytes now old new r
shown_in_lines L bytes now old new r h =
    texts_are profile IsLinesOf ShowsInLines (λ L bytes text items i b l. item_lines text items i b.stream l) L bytes
    now old new r h
