-- The exact text of what a visitor is told: of each event a piece of it. (docs/FORMAT.md, The JSON lines.)
use Rattle.std.specs.Prelude.{◌≡◌, ℕ, List, [], ◌∷◌, ◌++◌, slice_get}
use Rattle.std.proofs.Common.{nat_lt, refl, sym, ap, ◌∙◌, append_assoc}
use Rattle.serde_json.specs.Written.{comma_if, compact_text}
use Rattle.gob_json.specs.Json.{field_name, no_type, opaque_json, value_json}
use Rattle.gob_json.specs.Machine.TextParts.{field_head}
use Rattle.gob_walk.specs.Event.{Event, leaf, raw, list_begins, element, list_ends, map_begins, entry, between}
use Rattle.gob_walk.specs.Event.{entry_ends, map_ends, struct_begins, present, field_ends, struct_ends}

abbrev pub event_text : Event → List ℕ
event_text (leaf v) = compact_text (value_json [] no_type v)
event_text (raw s b) = compact_text (opaque_json b)
event_text list_begins = 91 ∷ []
event_text (element later) = comma_if later
event_text list_ends = 93 ∷ []
event_text (map_begins k) = 91 ∷ []
event_text (entry k later) = comma_if later ++ 91 ∷ []
event_text (between k) = 44 ∷ []
event_text (entry_ends k) = 93 ∷ []
event_text (map_ends k) = 93 ∷ []
event_text struct_begins = 91 ∷ []
event_text (present types next f) = field_head (nat_lt 0 next) f (field_name (slice_get types f))
event_text field_ends = 93 ∷ []
event_text (struct_ends types next) = 93 ∷ []

abbrev pub events_text : List Event → List ℕ
events_text [] = []
events_text (e ∷ es) = event_text e ++ events_text es

-- the text of events behind others stands behind theirs
pub text_of_both : (a b : List Event) → events_text (a ++ b) ≡ events_text a ++ events_text b
text_of_both [] b = refl
text_of_both (e ∷ es) b = ap (λ l. event_text e ++ l) (text_of_both es b)
    ∙ sym (append_assoc (event_text e) (events_text es) (events_text b))
