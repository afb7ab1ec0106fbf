-- A writer of lines over another.
use Rattle.std.proofs.Common.{◌≡◌, Bool, true, false, [], sym}
use Rattle.std.proofs.lemmas.Bool.{true≢false}
use Rattle.json_number_texts.specs.Out.{IsOver, plain, texts}
use Rattle.json_number_texts.specs.Writer.{waiting}
use Rattle.json_number_texts.specs.declared.lines_out.LinesOut.TheVariants as out
use Rattle.json_number_texts.specs.declared.place.Place.TheVariants as place
use Rattle.json_number_texts.specs.declared.writer.TextsWriter.{TextsWriter}

pub over_plain : {W : Type 0} (writer : W) (asked : Bool) → asked ≡ false → IsOver writer asked (out.Plain writer)
over_plain writer false e = plain
over_plain writer true e = absurd (true≢false e)

pub over_texts : {W : Type 0} (writer : W) (asked : Bool) (t : TextsWriter W) → asked ≡ true → t.writer ≡ writer
    → (t.place ≡ place.Outside) × (waiting t ≡ []) → IsOver writer asked (out.Texts t)
over_texts writer true t e w b = texts w b.0 b.1
over_texts writer false t e w b = absurd (true≢false (sym e))
