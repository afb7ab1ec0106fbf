-- Texts of what was handed out, and of values that wait as a whole, are those of items of the stream.
use Rattle.std.proofs.Common.{ℕ, List, [], Option, Result, min, refl, subst, sym}
use Rattle.gob_types.specs.Table.{Table}
use Rattle.gob_types.specs.declared.id.TypeId.{TypeId}
use Rattle.gob_value.specs.Whole.{IsWhole}
use Rattle.gob_stream.specs.Bounds.{Bounds, greatest_depth}
use Rattle.gob_stream.proofs.PublicLaws.{whole_item}
use Rattle.gob_filled.specs.Filled.{filled, no_filling}
use Rattle.gob_filled.specs.Outcome.{profile}
use Rattle.gob_filled.specs.Stream.{FilledItem, putting}
use Rattle.gob_go.specs.Calls.Reader.{GoReader, session_of, waits_in}
use Rattle.gob_go.specs.Calls.Session.{HasBodyNext, IsBetweenItems, limits_of, types_of}
use Rattle.gob_go.specs.GoStepping.{go_stepping}
use Rattle.gob_tool.specs.Texts.{IsTextBy, from_item, from_value, of_unfilled, of_held, TextsAnswersIn}
use Rattle.gob_filled.proofs.Items.{one_filled_item}
use Rattle.gob_tool.specs.declared.fault.ToolFault.{ToolFault}
use Rattle.gob_tool.proofs.TextLaws.{texts_are, waits_next}
use Rattle.gob_tool.specs.TextsGo.{of_given, of_value, IsWholeText, TextsAnswers}

module _ (Is : Table → FilledItem → List ℕ → Type 0) where
  text_of : {T : Table} {i : FilledItem} {text : List ℕ} → IsTextBy go_stepping (of_given Is) (of_value Is) T i text
      → Is T i text
  text_of (from_item {i = i} m f) = f i m
  text_of (from_value (of_unfilled is)) = is
  text_of {T = T} {text = text} (from_value (of_held h p q is)) =
      subst (λ i. Is T i text) (sym (one_filled_item [] [] p q refl).0) is

  pub texts_of : (L : Bounds) (bytes : List ℕ) (now old new : Option (List ℕ)) (r : Result (Unit {0}) ToolFault)
      → TextsAnswersIn profile (IsTextBy go_stepping (of_given Is) (of_value Is)) L bytes now old new r
      → TextsAnswers Is L bytes now old new r
  texts_of L bytes now old new r h = texts_are profile Is (IsTextBy go_stepping (of_given Is) (of_value Is))
      (λ L bytes text items i b t. text_of t) L bytes now old new r h

-- the text of the item of a value that waits as a whole
pub whole_text : (Is : Table → FilledItem → List ℕ → Type 0) {r : GoReader} {id : TypeId} {body text : List ℕ}
    {used : ℕ} → IsBetweenItems (session_of r) → HasBodyNext (session_of r) id body used (waits_in r)
    → (w : IsWhole (types_of (session_of r)) id (min (limits_of (session_of r)).depth greatest_depth) body)
    → Is (types_of (session_of r)) (putting id (filled w.value no_filling)) text → IsWholeText Is r used text
whole_text Is {id = id} between next w is = record {
  told = putting id (filled w.value no_filling);
  item = waits_next go_stepping between next.within (whole_item greatest_depth refl next w);
  is = of_unfilled is;
}
