-- Which maps are objects, as it is found. For private clauses.
use Rattle.std.specs.Prelude.{◌≡◌, ℕ, Bool, true, false, not, ◌&&◌, ◌||◌, List, [], ◌∷◌, ◌++◌, Option, Some, None}
use Rattle.std.specs.Prelude.{if◌then◌else◌, ◌⊎◌}
use Rattle.std.specs.List.{list_any}
use Rattle.std.specs.Str.{bytes_eq}
use Rattle.json.specs.Json.{Json, Items}
use Rattle.json.specs.Json as json
use Rattle.gob_types.specs.declared.id.TypeId.{TypeId}
use Rattle.gob_types.specs.Table.{Table}
use Rattle.gob_value.specs.Tree.{Tree, Pairs}
use Rattle.gob_tape.specs.declared.kind.ValueKind.{ValueKind}
use Rattle.gob_tape.specs.declared.kind.ValueKind.TheVariants as kind
use Rattle.gob_plain.specs.declared.maps.MapForm.{MapForm}
use Rattle.gob_plain.specs.declared.maps.MapForm.TheVariants as form
use Rattle.gob_plain.specs.declared.style.Style.{Style}
use Rattle.gob_plain.specs.Filled.{shown_pairs}
use Rattle.gob_plain.specs.OpaqueText.{content_in}
use Rattle.gob_plain.specs.Plain.{all_differ, are_bare, are_named, are_utf8, entries_json, has_parts, is_nil}
use Rattle.gob_plain.specs.Plain.{key_names, key_texts, may_be_named, members_of, said_text, SayPairsWith}

-- ---- texts that were seen

abbrev pub has_text : List ℕ → List (List ℕ) → Bool
has_text text seen = list_any (λ other. bytes_eq text other) seen

abbrev pub with_text : List (List ℕ) → List ℕ → List (List ℕ)
with_text seen text = if has_text text seen then seen else seen ++ text ∷ []

-- ---- kinds

abbrev pub nil_kind : ValueKind → Bool
nil_kind kind.Nil = true
nil_kind _ = false

abbrev pub parts_kind : ValueKind → Bool
parts_kind kind.Many = true
parts_kind kind.Pairs = true
parts_kind kind.Fields = true
parts_kind _ = false

-- how many nils an entry has whose key is nil, and whose element is this, without parts
abbrev pub bare_nils : Tree → ℕ
bare_nils v = if is_nil v then 2 else 1

-- ---- texts that fill keys

-- the text that fills the key, of which this is said, or why there is none
abbrev pub TextFits : Option (List ℕ) → (Json → Type 0) → Tree → Tree → Type 0
TextFits None P x v =
    ((is_nil x && not (has_parts v)) ≡ false) ⊎ ((a : Json) → P a → None ≡ said_text a)
TextFits (Some text) P x v =
    ((is_nil x && not (has_parts v)) ≡ true) × ((a : Json) → P a → Some text ≡ said_text a)

-- [key,element] of the entries say their keys as these texts
abbrev pub KeysAre : Option (List (List ℕ)) → (ℕ → Json → Type 0) → Style → Table → TypeId → TypeId → Pairs → Type 0
KeysAre texts N style T k e ps =
    (js : Items) → SayPairsWith N (content_in style) T k e (shown_pairs style T k e ps) js → key_texts js ≡ texts

abbrev pub TextsFit : Option (List (List ℕ)) → (ℕ → Json → Type 0) → Style → Table → TypeId → TypeId → Pairs
    → Type 0
TextsFit None N style T k e ps = (are_bare ps ≡ false) ⊎ KeysAre None N style T k e ps
TextsFit (Some texts) N style T k e ps = (are_bare ps ≡ true) × KeysAre (Some texts) N style T k e ps

-- ---- forms

-- where the keys give names
abbrev pub NamedFormFits : MapForm → Pairs → Type 0
NamedFormFits form.Named ps = (are_utf8 ps || all_differ (key_names ps)) ≡ true
NamedFormFits form.NamedByTexts ps = ⊥
NamedFormFits form.Pairs ps = (are_utf8 ps || all_differ (key_names ps)) ≡ false

-- the entries as this JSON
abbrev pub EntriesAre : (Items → Json) → (ℕ → Json → Type 0) → Style → Table → TypeId → TypeId → Bool → Pairs → Type 0
EntriesAre json_of N style T k e held ps = (js : Items)
    → SayPairsWith N (content_in style) T k e (shown_pairs style T k e ps) js → entries_json held js ≡ json_of js

-- where the keys are interfaces
abbrev pub HeldFormFits : MapForm → (ℕ → Json → Type 0) → Style → Table → TypeId → TypeId → Pairs → Type 0
HeldFormFits form.Named N style T k e ps = ⊥
HeldFormFits form.NamedByTexts N style T k e ps =
    (are_bare ps ≡ true) × EntriesAre (λ js. json.object (members_of js)) N style T k e true ps
HeldFormFits form.Pairs N style T k e ps = EntriesAre json.array N style T k e (are_bare ps) ps

abbrev pub FormFits : MapForm → (ℕ → Json → Type 0) → Style → Table → TypeId → TypeId → Pairs → Type 0
FormFits form.Named N style T k e ps = are_named k ps ≡ true
FormFits form.NamedByTexts N style T k e ps = (are_named k ps ≡ false) × (are_bare ps ≡ true)
    × EntriesAre (λ js. json.object (members_of js)) N style T k e (may_be_named k ps) ps
FormFits form.Pairs N style T k e ps =
    (are_named k ps ≡ false) × EntriesAre json.array N style T k e (may_be_named k ps) ps
