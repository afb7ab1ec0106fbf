-- What is told of a value whose interfaces may hold others, as events of a value in which each stands as it is shown: a
-- held value by itself, or as the one field of a struct, by the name of its type. (docs/FORMAT.md, Plain values.)
use Rattle.std.specs.Prelude.{◌≡◌, ℕ, Bool, true, false, List, [], ◌∷◌, ◌++◌}
use Rattle.std.proofs.Common.{refl, sym, ap, ◌∙◌, append_assoc}
use Rattle.gob_types.specs.declared.id.TypeId.{TypeId}
use Rattle.gob_types.specs.declared.kind.Field.{Field}
use Rattle.gob_walk.specs.Event.{Event, element, struct_begins, present, field_ends, struct_ends}
use Rattle.gob_filled_walk.specs.HeldEvent.{HeldEvent, told, held_begins, held_ends, all_told}

-- A held value begins, with this one field where it is tagged. By itself it is a part like an element, before which
-- nothing stands: no name of a member.
abbrev pub tag_field : List ℕ → TypeId → List Field
tag_field name t = record { name = name; id = t } ∷ []

abbrev pub held_opens : Bool → List ℕ → TypeId → List Event
held_opens true name t = struct_begins ∷ present (tag_field name t) 0 0 ∷ []
held_opens false name t = element false ∷ []

-- it ends: no field of a struct of none is absent
abbrev pub held_closes : Bool → List Event
held_closes true = field_ends ∷ struct_ends [] 0 ∷ []
held_closes false = []

abbrev pub held_event : Bool → HeldEvent → List Event
held_event tagged (told e) = e ∷ []
held_event tagged (held_begins name t) = held_opens tagged name t
held_event tagged held_ends = held_closes tagged

abbrev pub plain_events : Bool → List HeldEvent → List Event
plain_events tagged [] = []
plain_events tagged (e ∷ es) = held_event tagged e ++ plain_events tagged es

pub plain_events_all : (tagged : Bool) (es : List Event) → plain_events tagged (all_told es) ≡ es
plain_events_all tagged [] = refl
plain_events_all tagged (e ∷ es) = ap (λ l. e ∷ l) (plain_events_all tagged es)

pub plain_events_both : (tagged : Bool) (a b : List HeldEvent)
    → plain_events tagged (a ++ b) ≡ plain_events tagged a ++ plain_events tagged b
plain_events_both tagged [] b = refl
plain_events_both tagged (e ∷ es) b = ap (λ l. held_event tagged e ++ l) (plain_events_both tagged es b)
    ∙ sym (append_assoc (held_event tagged e) (plain_events tagged es) (plain_events tagged b))
