-- What the steps of tidying give over the bytes of a value: the piece begins with a part, the rest is behind it, and
-- the bytes of the part's tidy form were appended, with the places of those nils in it that are asked for.
use Rattle.std.specs.Prelude.{◌≡◌, ℕ, ◌+◌, ◌-◌, ◌<◌, ◌≤◌, ◌⊎◌, List, ◌∷◌, ◌++◌, length, take, drop, Option, Some, None}
use Rattle.std.specs.Prelude.{slice_get}
use Rattle.gob_num.specs.Spelled.{Appends}
use Rattle.gob_num.specs.Unsigned.{IsUnsigned}
use Rattle.gob_types.specs.declared.id.TypeId.{TypeId}
use Rattle.gob_types.specs.declared.kind.Field.{Field}
use Rattle.gob_types.specs.declared.kind.Kind.{Kind}
use Rattle.gob_types.specs.declared.kind.Kind.TheVariants as kind
use Rattle.gob_types.specs.Table.{Table, shape_of}
use Rattle.gob_value.specs.Machine.Begins.{BeginsThisNumber}
use Rattle.gob_value.specs.Spelling.{Spells, SpellsAs, SpellsEach, SpellsPairs, SpellsFields}
use Rattle.gob_value.specs.Tidy.{Tidies, TidiesEach, TidiesPairs, TidiesFields, IsDropped}
use Rattle.gob_value.specs.Top.{SpellsTop}
use Rattle.gob_value.specs.Tree.{Tree, Trees, Pairs, Fields, depth, trees_depth, pairs_depth, fields_depth}
use Rattle.gob_value.specs.Tree.{tree_count, pair_count}
use Rattle.gob_tidy.specs.SameNil.{PathStep, LeadsTo, LeadsFromTop, StandBeforeField, IsSameNil}
use Rattle.gob_tidy.specs.TidiedWhole.{TidiesWhole}
use Rattle.gob_tidy.specs.declared.part.Form.{Form}
use Rattle.gob_types.specs.declared.basic.Basic.TheVariants as basic
use Rattle.gob_types.specs.declared.kind.Shape.{Shape}

-- a kind whose values have no parts
abbrev pub IsLeaf : Kind → Type 0
IsLeaf (kind.Basic b) = Unit {0}
IsLeaf (kind.Opaque m) = Unit {0}
IsLeaf _ = ⊥

-- a list may have so many elements
abbrev pub Admits : Option ℕ → ℕ → Type 0
Admits None count = Unit {0}
Admits (Some size) count = count ≡ size

-- ---- nils

-- bytes that stand before a nil in a part, and those that do in its tidy form before the same one
abbrev pub Fronts : Type 1
Fronts = List ℕ → List ℕ → Type 0

-- in a value of the type
pub record LeadAlike (T : Table) (t : TypeId) (front form_front : List ℕ) : Type 0 where
  pub way : List PathStep
  pub leads : LeadsTo T t way front
  pub form_leads : LeadsTo T t way form_front

-- in a value of the type behind its tag
pub record LeadAlikeFromTop (T : Table) (t : TypeId) (front form_front : List ℕ) : Type 0 where
  pub way : List PathStep
  pub leads : LeadsFromTop T t way front
  pub form_leads : LeadsFromTop T t way form_front

-- in so many elements
pub data LeadAmong (T : Table) (e : TypeId) (count : ℕ) : List ℕ → List ℕ → Type 0 where
  among : {vs ws : Trees} {b c f g : List ℕ} → tree_count vs < count → tree_count ws ≡ tree_count vs
      → SpellsEach T e vs b → SpellsEach T e ws c → LeadAlike T e f g → LeadAmong T e count (b ++ f) (c ++ g)

-- in elements behind their count
pub data LeadInList (T : Table) (e : TypeId) (size : Option ℕ) : List ℕ → List ℕ → Type 0 where
  in_list : {n : ℕ} {a b f g : List ℕ} → Admits size n → IsUnsigned n a → IsUnsigned n b → LeadAmong T e n f g
      → LeadInList T e size (a ++ f) (b ++ g)

-- in so many keys and elements
pub data LeadInEntries (T : Table) (k e : TypeId) (count : ℕ) : List ℕ → List ℕ → Type 0 where
  in_key : {ps qs : Pairs} {b c f g : List ℕ} → pair_count ps < count → pair_count qs ≡ pair_count ps
      → SpellsPairs T k e ps b → SpellsPairs T k e qs c → LeadAlike T k f g
      → LeadInEntries T k e count (b ++ f) (c ++ g)
  in_element : {ps qs : Pairs} {x y : Tree} {b c a d f g : List ℕ} → pair_count ps < count
      → pair_count qs ≡ pair_count ps → SpellsPairs T k e ps b → SpellsPairs T k e qs c → Spells T k x a
      → Spells T k y d → LeadAlike T e f g → LeadInEntries T k e count (b ++ (a ++ f)) (c ++ (d ++ g))

-- in keys and elements behind their count
pub data LeadInMap (T : Table) (k e : TypeId) : List ℕ → List ℕ → Type 0 where
  in_map : {n : ℕ} {a b f g : List ℕ} → IsUnsigned n a → IsUnsigned n b → LeadInEntries T k e n f g
      → LeadInMap T k e (a ++ f) (b ++ g)

-- in fields, of which the next has the one number or a greater one, and the next that is kept the other or a greater
-- one
pub data LeadInFields (T : Table) (types : List Field) (next kept : ℕ) : List ℕ → List ℕ → Type 0 where
  in_field : {number : ℕ} {e : Field} {a b f g : List ℕ} → slice_get types number ≡ Some e
      → StandBeforeField T types next number a → StandBeforeField T types kept number b → LeadAlike T e.id f g
      → LeadInFields T types next kept (a ++ f) (b ++ g)

-- a nil of the piece, behind which the body ends, stands at the place p of the body, and at q in the form
pub record MovesTo (F : Fronts) (size : ℕ) (old new : Form) (piece : List ℕ) (p q : ℕ) : Type 0 where
  pub front : List ℕ
  pub rest : List ℕ
  pub form_front : List ℕ
  pub form_rest : List ℕ
  pub alike : F front form_front
  pub stands : piece ≡ front ++ (0 ∷ rest)
  pub place_is : p + length rest + 1 ≡ size
  pub out : new.bytes.items ≡ old.bytes.items ++ (form_front ++ (0 ∷ form_rest))
  pub moved_is : q ≡ length old.bytes.items + length form_front

-- the nil of this number that is asked for, which stands so in the form
pub record IsAsked (F : Fronts) (size : ℕ) (asked : List ℕ) (old new : Form) (piece : List ℕ) (number q : ℕ) : Type
    0 where
  pub place : ℕ
  pub asked_for : slice_get asked number ≡ Some place
  pub moves : MovesTo F size old new piece place q

-- each place that came to those of the form is that of the nil of its number
pub record Moved (F : Fronts) (size : ℕ) (asked : List ℕ) (old new : Form) (piece : List ℕ) : Type 0 where
  pub each : (number q : ℕ) → slice_get new.places.items number ≡ Some q
      → (slice_get old.places.items number ≡ Some q) ⊎ IsAsked F size asked old new piece number q

-- the place of the next nil was appended, if the one at this place of the body is the next that is asked for
pub record PutsPlace (asked : List ℕ) (at : ℕ) (old new : Form) : Type 0 where
  pub bytes : new.bytes.items ≡ old.bytes.items
  pub each : (number q : ℕ) → slice_get new.places.items number ≡ Some q
      → (slice_get old.places.items number ≡ Some q) ⊎ ((slice_get asked number ≡ Some at)
      × (q ≡ length old.bytes.items))

-- the values of the type are nil
pub record HasNils (T : Table) (t : TypeId) : Type 0 where
  pub shape : Shape
  pub found : shape_of T t ≡ Some shape
  pub nil : shape.kind ≡ kind.Basic basic.Interface

-- ---- values

-- a value of the type
pub record GivesValue (T : Table) (t : TypeId) (limit size : ℕ) (asked : List ℕ) (old new : Form)
    (piece rest : List ℕ) : Type 0 where
  pub value : Tree
  pub form : Tree
  pub bytes : List ℕ
  pub added : List ℕ
  pub spelled : Spells T t value bytes
  pub within : depth value ≤ limit
  pub tidies : Tidies T t value form
  pub form_spelled : Spells T t form added
  pub whole : piece ≡ bytes ++ rest
  pub out : new.bytes.items ≡ old.bytes.items ++ added
  pub moved : Moved (LeadAlike T t) size asked old new piece

-- a value of the type behind its tag
pub record GivesTop (T : Table) (t : TypeId) (limit size : ℕ) (asked : List ℕ) (old new : Form)
    (piece rest : List ℕ) : Type 0 where
  pub value : Tree
  pub form : Tree
  pub bytes : List ℕ
  pub added : List ℕ
  pub spelled : SpellsTop T t value bytes
  pub within : depth value ≤ limit
  pub tidies : Tidies T t value form
  pub form_spelled : SpellsTop T t form added
  pub whole : piece ≡ bytes ++ rest
  pub out : new.bytes.items ≡ old.bytes.items ++ added
  pub moved : Moved (LeadAlikeFromTop T t) size asked old new piece

-- the bytes are a value of the type behind its tag, no deeper than the limit, and the form is its tidy form, where the
-- places are those of the nils that are asked for
pub record IsForm (T : Table) (t : TypeId) (limit : ℕ) (bytes asked : List ℕ) (form : Form) : Type 0 where
  pub whole : TidiesWhole T t limit bytes form.bytes.items
  pub each : (number q : ℕ) → slice_get form.places.items number ≡ Some q → (p : ℕ)
      × (slice_get asked number ≡ Some p) × IsSameNil T t bytes form.bytes.items p q

-- ---- their parts

-- so many elements
pub record GivesEach (T : Table) (e : TypeId) (count limit size : ℕ) (asked : List ℕ) (old new : Form)
    (piece rest : List ℕ) : Type 0 where
  pub values : Trees
  pub forms : Trees
  pub bytes : List ℕ
  pub added : List ℕ
  pub counted : tree_count values ≡ count
  pub forms_counted : tree_count forms ≡ count
  pub spelled : SpellsEach T e values bytes
  pub within : trees_depth values ≤ limit
  pub tidies : TidiesEach T e values forms
  pub forms_spelled : SpellsEach T e forms added
  pub whole : piece ≡ bytes ++ rest
  pub out : new.bytes.items ≡ old.bytes.items ++ added
  pub moved : Moved (LeadAmong T e count) size asked old new piece

-- elements behind their count
pub record GivesList (T : Table) (e : TypeId) (due : Option ℕ) (limit size : ℕ) (asked : List ℕ) (old new : Form)
    (piece rest : List ℕ) : Type
    0 where
  pub count : ℕ
  pub admitted : Admits due count
  pub values : Trees
  pub forms : Trees
  pub head : List ℕ
  pub bytes : List ℕ
  pub form_head : List ℕ
  pub added : List ℕ
  pub counted : tree_count values ≡ count
  pub forms_counted : tree_count forms ≡ count
  pub headed : IsUnsigned count head
  pub form_headed : IsUnsigned count form_head
  pub spelled : SpellsEach T e values bytes
  pub within : trees_depth values ≤ limit
  pub tidies : TidiesEach T e values forms
  pub forms_spelled : SpellsEach T e forms added
  pub whole : piece ≡ (head ++ bytes) ++ rest
  pub out : new.bytes.items ≡ old.bytes.items ++ (form_head ++ added)
  pub moved : Moved (LeadInList T e due) size asked old new piece

-- so many keys and elements
pub record GivesEntries (T : Table) (k e : TypeId) (count limit size : ℕ) (asked : List ℕ) (old new : Form)
    (piece rest : List ℕ) : Type 0 where
  pub values : Pairs
  pub forms : Pairs
  pub bytes : List ℕ
  pub added : List ℕ
  pub counted : pair_count values ≡ count
  pub forms_counted : pair_count forms ≡ count
  pub spelled : SpellsPairs T k e values bytes
  pub within : pairs_depth values ≤ limit
  pub tidies : TidiesPairs T k e values forms
  pub forms_spelled : SpellsPairs T k e forms added
  pub whole : piece ≡ bytes ++ rest
  pub out : new.bytes.items ≡ old.bytes.items ++ added
  pub moved : Moved (LeadInEntries T k e count) size asked old new piece

-- keys and elements behind their count
pub record GivesMap (T : Table) (k e : TypeId) (limit size : ℕ) (asked : List ℕ) (old new : Form)
    (piece rest : List ℕ) : Type 0 where
  pub count : ℕ
  pub values : Pairs
  pub forms : Pairs
  pub head : List ℕ
  pub bytes : List ℕ
  pub form_head : List ℕ
  pub added : List ℕ
  pub counted : pair_count values ≡ count
  pub forms_counted : pair_count forms ≡ count
  pub headed : IsUnsigned count head
  pub form_headed : IsUnsigned count form_head
  pub spelled : SpellsPairs T k e values bytes
  pub within : pairs_depth values ≤ limit
  pub tidies : TidiesPairs T k e values forms
  pub forms_spelled : SpellsPairs T k e forms added
  pub whole : piece ≡ (head ++ bytes) ++ rest
  pub out : new.bytes.items ≡ old.bytes.items ++ (form_head ++ added)
  pub moved : Moved (LeadInMap T k e) size asked old new piece

-- the fields that are present, of which the next has the one number or a greater one, and the next that is kept the
-- other or a greater one
pub record GivesFields (T : Table) (types : List Field) (next kept limit size : ℕ) (asked : List ℕ) (old new : Form)
    (piece rest : List ℕ) : Type
    0 where
  pub values : Fields
  pub forms : Fields
  pub bytes : List ℕ
  pub added : List ℕ
  pub spelled : SpellsFields T types next values bytes
  pub within : fields_depth values ≤ limit
  pub tidies : TidiesFields T types values forms
  pub forms_spelled : SpellsFields T types kept forms added
  pub whole : piece ≡ bytes ++ rest
  pub out : new.bytes.items ≡ old.bytes.items ++ added
  pub moved : Moved (LeadInFields T types next kept) size asked old new piece

-- ---- bytes

-- the piece begins with a byte 0
abbrev pub BeginsZero : (piece rest : List ℕ) → Type 0
BeginsZero piece rest = piece ≡ 0 ∷ rest

-- the piece begins with a value of the kind that a tidy struct drops
pub record BeginsDropped (T : Table) (k : Kind) (piece rest : List ℕ) : Type 0 where
  pub value : Tree
  pub bytes : List ℕ
  pub spelled : SpellsAs T k value bytes
  pub shallow : depth value ≤ 1
  pub dropped : IsDropped k value
  pub whole : piece ≡ bytes ++ rest

-- the piece begins with the number, which was appended
pub record CopiesNumber (n : ℕ) (old new piece rest : List ℕ) : Type 0 where
  pub begins : BeginsThisNumber n piece rest
  pub appends : Appends (IsUnsigned n) old new

-- so many values of the type stand between two places of the body, and were appended as they stand
pub record CopiesEach (T : Table) (t : TypeId) (limit count : ℕ) (body : List ℕ) (at end : ℕ) (old new : List ℕ)
    : Type 0 where
  pub order : at ≤ end
  pub inside : end ≤ length body
  pub values : Trees
  pub spelled : SpellsEach T t values (take (end - at) (drop at body))
  pub within : trees_depth values ≤ limit
  pub counted : tree_count values ≡ count
  pub copied : new ≡ old ++ take (end - at) (drop at body)
