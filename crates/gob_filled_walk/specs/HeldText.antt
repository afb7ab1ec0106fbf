-- The exact text of what a visitor is told of a value whose interfaces may hold others.
-- (docs/FORMAT.md, The JSON lines: this project's own.)
use Rattle.std.specs.Prelude.{◌≡◌, ℕ, List, [], ◌∷◌, ◌++◌, codes, Result, Ok}
use Rattle.std.proofs.Common.{refl, sym, ap, ◌∙◌, append_assoc}
use Rattle.std.specs.Fmt.{decimal}
use Rattle.serde_json.specs.Written.{compact_text}
use Rattle.gob_types.specs.declared.id.TypeId.{TypeId}
use Rattle.gob_types.specs.Table.{Table}
use Rattle.gob_json.specs.Json.{text_json}
use Rattle.gob_json.specs.EventText.{event_text, events_text}
use Rattle.gob_walk.specs.Event.{Event}
use Rattle.gob_filled_walk.specs.HeldEvent.{HeldEvent, told, held_begins, held_ends, all_told}
use Rattle.gob_filled_walk.specs.Reads.{ReadsTop}

-- {"interface":{"name":NAME,"type":ID,"value":
abbrev pub held_head : List ℕ → TypeId → List ℕ
held_head name id = codes "{\"interface\":{\"name\":" ++ (compact_text (text_json name) ++ (codes ",\"type\":"
    ++ (decimal id.0 ++ codes ",\"value\":")))

abbrev pub held_event_text : HeldEvent → List ℕ
held_event_text (told e) = event_text e
held_event_text (held_begins name id) = held_head name id
held_event_text held_ends = 125 ∷ 125 ∷ []

abbrev pub held_text : List HeldEvent → List ℕ
held_text [] = []
held_text (e ∷ es) = held_event_text e ++ held_text es

-- the text of events behind others stands behind theirs
pub held_text_of_both : (a b : List HeldEvent) → held_text (a ++ b) ≡ held_text a ++ held_text b
held_text_of_both [] b = refl
held_text_of_both (e ∷ es) b = ap (λ l. held_event_text e ++ l) (held_text_of_both es b)
    ∙ sym (append_assoc (held_event_text e) (held_text es) (held_text b))

pub held_text_of_all : (es : List Event) → held_text (all_told es) ≡ events_text es
held_text_of_all [] = refl
held_text_of_all (e ∷ es) = ap (λ l. event_text e ++ l) (held_text_of_all es)

-- the bytes are a value of the type behind its tag, and its text was put out
pub record PutsFilled {O E : Type 0} (puts : O → O → List ℕ → Result (Unit {0}) E → Type 0) (T : Table) (t : TypeId)
    (limit : ℕ) (bytes : List ℕ) (old new : O) : Type 0 where
  pub events : List HeldEvent
  pub reads : ReadsTop T t limit events bytes []
  pub put : puts old new (held_text events) (Ok tt)
