-- What tokens say, as they are taken one by one.
use Rattle.std.specs.Prelude.{◌≡◌, ◌++◌, ◌∷◌, ℕ, List, [], Bool, Option, Some, None}
use Rattle.json.specs.Json.{Json, Items, Members}
use Rattle.json.specs.Json as json
use Rattle.json.specs.Lex.{tokens}
use Rattle.json.specs.Reads.{token_of}
use Rattle.json.specs.Token.{Token}
use Rattle.json.specs.Tree.{json_tokens, items_tokens, members_tokens}
use Rattle.json.specs.declared.token.Token as taken
use Rattle.gob_types.specs.declared.id.TypeId.{TypeId}
use Rattle.gob_types.specs.declared.kind.Field.{Field}
use Rattle.gob_types.specs.Table.{Table}
use Rattle.gob_value.specs.Tree.{Tree, Trees, Pairs, Fields, no_field}
use Rattle.gob_value.specs.Tree as Value
use Rattle.gob_make.specs.Leaf.{IsNamed, ReadsFloat}
use Rattle.gob_make.specs.Plain.{ReadsPlain, ReadsEach, ReadsPairs, ReadsEntries, ReadsMembers}
use Rattle.gob_make.specs.Zero.{AreFilled, AreKept}
use Rattle.gob_make.specs.declared.said.Said.{Said}
use Rattle.gob_make.specs.declared.time.Parts.{Parts}
use Rattle.gob_plain.specs.FloatText.{pointed}

-- the token that was taken last, where there was one, and those behind it
abbrev pub from_token : Option taken.Token → List Token → List Token
from_token None ts = []
from_token (Some t) ts = token_of t ∷ ts

-- the text of the parts of a time
abbrev pub parts_text : Parts → List ℕ
parts_text parts = parts.clock.now ++ pointed parts.digits.now ++ parts.zone.now

-- the token alone is JSON that says the float of these 64 bits
abbrev pub IsFloat : Option taken.Token → ℕ → Type 0
IsFloat None p = ⊥
IsFloat (Some t) p = (j : Json) × ReadsFloat j p × (token_of t ∷ [] ≡ json_tokens j)

-- the first of the old tokens are those of JSON of which this holds, and the new ones stand behind them
pub record Begins (P : Json → Type 0) (old new : List Token) : Type 0 where
  pub json : Json
  pub holds : P json
  pub stands : old ≡ json_tokens json ++ new

-- of items, with the bracket behind them
pub record BeginsItems (P : Items → Type 0) (old new : List Token) : Type 0 where
  pub items : Items
  pub holds : P items
  pub stands : old ≡ items_tokens items ++ new

-- of members, with the brace behind them
pub record BeginsMembers (P : Members → Type 0) (old new : List Token) : Type 0 where
  pub members : Members
  pub holds : P members
  pub stands : old ≡ members_tokens members ++ new

-- the text says this value, or nothing: there is no token in it
abbrev pub SaysPlain : Bool → Table → TypeId → (text : List ℕ) → Option Tree → Type 0
SaysPlain lenient T t text None = tokens text ≡ []
SaysPlain lenient T t text (Some v) = Begins (λ j. ReadsPlain lenient T t j v) (tokens text) []

-- ---- the parts of a value

abbrev pub ReadsElements : Bool → Table → TypeId → Json → Trees → Type 0
ReadsElements lenient T e j vs = (js : Items) × (j ≡ json.array js) × ReadsEach lenient T e js vs

pub record ReadsArray (lenient : Bool) (T : Table) (e : TypeId) (n : ℕ) (j : Json) (v : Tree) : Type 0 where
  pub said : Trees
  pub filled : Trees
  pub elements : ReadsElements lenient T e j said
  pub fills : AreFilled T e n said filled
  pub is : v ≡ Value.many filled

pub data ReadsMap (lenient : Bool) (T : Table) (k e : TypeId) : Json → Tree → Type 0 where
  of_pairs : {js : Items} {ps : Pairs} → ReadsPairs lenient T k e js ps
      → ReadsMap lenient T k e (json.array js) (Value.pairs ps)
  of_entries : {ms : Members} {ps : Pairs} → ReadsEntries lenient T k e ms ps
      → ReadsMap lenient T k e (json.object ms) (Value.pairs ps)

pub record ReadsStruct (lenient : Bool) (T : Table) (types : List Field) (j : Json) (v : Tree) : Type 0 where
  pub members : Members
  pub said : Fields
  pub kept : Fields
  pub is_object : j ≡ json.object members
  pub reads : ReadsMembers lenient T types no_field members said
  pub keeps : AreKept T types said kept
  pub is : v ≡ Value.fields kept

-- the value of a member is taken, which is named by the field of this number: the fields before it are these, and with
-- it more
pub record AddsMember (lenient : Bool) (T : Table) (types : List Field) (number : ℕ) (fs more : Fields)
    (old new : List Token) : Type 0 where
  pub value : Json
  pub stands : old ≡ json_tokens value ++ new
  pub adds : (name : List ℕ) (e : Field) → IsNamed types number name e → (ms : Members) (gs : Fields)
      → ReadsMembers lenient T types more ms gs → ReadsMembers lenient T types fs (json.member name value ms) gs

-- no token was taken
pub record SameText (old new : Said) : Type 0 where
  pub tokens : new.tokens ≡ old.tokens
  pub lenient : new.lenient ≡ old.lenient
