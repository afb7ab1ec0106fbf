-- What a line says, by the types before it, where values may stand in interfaces: the JSON that an item shows stands in
-- it, whatever white space stands between, or nothing does. The definitions of the types that an item brings stand in
-- lines of their own, so none stands in its value. (docs/FORMAT.md, The JSON lines: this project's own.)
use Rattle.std.specs.Prelude.{◌≡◌, ℕ, pos, ◌^◌, ◌<◌, Bool, false, List, [], ◌∷◌, ◌++◌, length, codes, Result, Ok}
use Rattle.std.specs.Prelude.{Err}
use Rattle.json.specs.Token.{Token}
use Rattle.json.specs.Lex.{tokens}
use Rattle.json.specs.Tree.{json_tokens}
use Rattle.serde_json.specs.Data.{Data, array, object, member, no_members}
use Rattle.serde_json.specs.Written.{outline}
use Rattle.gob_num.specs.Signed.{IsSigned}
use Rattle.gob_num.specs.Unsigned.{IsUnsigned}
use Rattle.gob_types.specs.declared.id.TypeId.{TypeId}
use Rattle.gob_types.specs.declared.kind.Field.{Field}
use Rattle.gob_types.specs.declared.kind.Shape.{Shape}
use Rattle.gob_types.specs.Definable.{IsDefinable}
use Rattle.gob_types.specs.Defined.{types}
use Rattle.gob_types.specs.Ready.{IsReady}
use Rattle.gob_types.specs.Table.{Table}
use Rattle.gob_value.specs.Tree.{Tree}
use Rattle.gob_stream.specs.Bounds.{Bounds}
use Rattle.gob_filled.specs.Filled.{Filled, SpellsFilled, filled, no_filling}
use Rattle.gob_filled_walk.specs.FilledLine.{DefinesNothing}
use Rattle.gob_json.specs.Json.{text_json}
use Rattle.gob_json_writer.specs.NilsJson.{put_json_with}
use Rattle.gob_json_writer.specs.FilledJson.{FilledShows}
use Rattle.gob_lines.specs.Definition.{IsDefinitionJson}
use Rattle.gob_lines.specs.Numbers.{IsNatural, IsWithTexts, ReadsSome}
use Rattle.gob_lines.specs.Reads.{IsWrong, Reads}
use Rattle.gob_lines.specs.declared.fault.LineFault.{LineFault}
use Rattle.gob_go_lines.specs.Says.{SaysFields, SaysTop, items_of}
use Rattle.gob_go_lines.specs.declared.line.GoLine.{GoLine}
use Rattle.gob_go_lines.specs.declared.line.GoLine.TheVariants as line
use Rattle.gob_go_lines.specs.declared.value.Reading.{Reading}

-- ---- what is read is what stands there

-- all interfaces are nil
abbrev pub HoldsNothing : Filled → Type 0
HoldsNothing (filled v fs) = fs ≡ no_filling

-- the type that is named in front isn't ready
pub record TellsUnready (T : Table) (id : TypeId) (old : List Token) : Type 0 where
  pub unready : ¬ IsReady T id
  pub number : Data
  pub named : IsNatural id.0 number
  pub rest : List Token
  pub front : old ≡ Token.begin_object ∷ (Token.key (codes "type") ∷ (json_tokens (outline number) ++ rest))

-- the bytes spell a value of the type behind its tag, no part of which is deeper than the limit, and which defines
-- nothing and holds nothing in interfaces but where that is asked for; and the first of the old tokens are those of the
-- JSON that it shows with its type, in which texts of digits may stand for numbers
pub record TellsFilled (T : Table) (H : Bool) (id : TypeId) (limit : ℕ) (body : List ℕ) (old new : List Token)
    : Type 0 where
  pub value : Filled
  pub spelled : (base : Table) (L : Bounds) → SpellsFilled base L T id limit value body T
  pub defines : DefinesNothing value
  pub holds : H ≡ false → HoldsNothing value
  pub tree : Tree
  pub nils : ℕ → Data
  pub shows : FilledShows T id value tree nils
  pub json : Data
  pub written : IsWithTexts json (put_json_with nils T id tree)
  pub reads : Reads json old new

-- what the tokens say, and which stand behind that
abbrev pub TellsTokens : Table → (H : Bool) → (limit : ℕ) → (old : List Token) → GoLine → (new : List Token) → Type 0
TellsTokens T H limit old line.Empty new = old ≡ new
TellsTokens T H limit old (line.Define id shape) new =
    IsDefinable shape × ReadsSome (IsDefinitionJson id shape) old new
TellsTokens T H limit old (line.Put id body) new = IsReady T id × TellsFilled T H id limit body.items old new
TellsTokens T H limit old (line.Unready id) new = TellsUnready T id old

-- the lines are those of `show`, or of `show --go`, whose interfaces hold values
abbrev pub Tells : Table → (H : Bool) → (limit : ℕ) → List ℕ → GoLine → Type 0
Tells T H limit text said = TellsTokens T H limit (tokens text) said []

-- ---- what stands there is read

-- the value with its type: {"type":t,"value":v}
abbrev pub put_data : (number value : Data) → Data
put_data typed value = object (member (codes "type") typed (member (codes "value") value no_members))

-- the tokens say the value of a type that is ready, no part of it deeper than the limit, that these bytes spell
pub record SaysPut (T : Table) (H : Bool) (limit : ℕ) (ts : List Token) (id : TypeId) (body : List ℕ) : Type 0 where
  pub ready : IsReady T id
  pub small : id.0 < 2 ^ 64
  pub number : Data
  pub typed : IsNatural id.0 number
  pub json : Data
  pub says : SaysTop T H id limit json body
  pub said : Reads (put_data number json) ts []

-- what a call answers that reads them: these bytes, or there was no memory
abbrev pub ReadsPut : Result GoLine LineFault → TypeId → List ℕ → Type 0
ReadsPut (Ok line.Empty) id b = ⊥
ReadsPut (Ok (line.Define i s)) id b = ⊥
ReadsPut (Ok (line.Put i body)) id b = (i ≡ id) × (body.items ≡ b)
ReadsPut (Ok (line.Unready i)) id b = ⊥
ReadsPut (Err e) id b = ¬ IsWrong e

-- and one that reads the tokens of a definition
abbrev pub ReadsDefinition : Result GoLine LineFault → TypeId → Shape → Type 0
ReadsDefinition (Ok line.Empty) id s = ⊥
ReadsDefinition (Ok (line.Define i t)) id s = (i ≡ id) × (t ≡ s)
ReadsDefinition (Ok (line.Put i b)) id s = ⊥
ReadsDefinition (Ok (line.Unready i)) id s = ⊥
ReadsDefinition (Err e) id s = ¬ IsWrong e

-- and none of the tokens is left
abbrev pub LeavesNone : Result GoLine LineFault → (new : List Token) → Type 0
LeavesNone (Ok _) new = new ≡ []
LeavesNone (Err e) new = Unit {0}

-- ---- part by part

-- the types by which values are read
abbrev pub known : Reading → Table
known r = types r.table.now

-- the first of the old tokens are those of some JSON, and behind the old bytes stand those that it says
pub record PutsSaid (Is : Data → List ℕ → Type 0) (old new : List Token) (before after : List ℕ) : Type 0 where
  pub json : Data
  pub bytes : List ℕ
  pub says : Is json bytes
  pub reads : Reads json old new
  pub appended : after ≡ before ++ bytes

-- the JSON is an array of the fields of a struct
pub record SaysStruct (T : Table) (H : Bool) (types : List Field) (limit : ℕ) (j : Data) (bytes : List ℕ) : Type 0 where
  pub parts : List Data
  pub says : SaysFields T H types 0 limit parts bytes
  pub is : j ≡ array (items_of parts)

-- those of an array, of which so many say these bytes together
pub record ReadsParts (Are : List Data → List ℕ → Type 0) (old new : List Token) (count : ℕ) (bytes : List ℕ)
    : Type 0 where
  pub parts : List Data
  pub says : Are parts bytes
  pub counted : length parts ≡ count
  pub reads : Reads (array (items_of parts)) old new

-- what a call answers that puts these bytes behind the old ones, and leaves the rest
abbrev pub PutsIt : Result (Unit {0}) LineFault → (new rest : List Token) → (before after bytes : List ℕ) → Type 0
PutsIt (Ok _) new rest before after bytes = (new ≡ rest) × (after ≡ before ++ bytes)
PutsIt (Err e) new rest before after bytes = ¬ IsWrong e

-- the tokens of what an interface holds, behind the first brace and up to its value
abbrev pub held_tokens : (name : List ℕ) → (number : Data) → (rest : List Token) → List Token
held_tokens name typed rest = Token.key (codes "interface") ∷ (Token.begin_object ∷ (Token.key (codes "name")
    ∷ (json_tokens (outline (text_json name)) ++ (Token.key (codes "type") ∷ (json_tokens (outline typed)
    ++ (Token.key (codes "value") ∷ rest))))))

-- the first of the old tokens are these, by whichever JSON of the number
abbrev pub ReadsHeld : (name : List ℕ) → TypeId → (old rest : List Token) → Type 0
ReadsHeld name id old rest = (number : Data) × IsNatural id.0 number × (old ≡ held_tokens name number rest)

-- the bytes of what an interface holds: the name behind its count, the type's number, and the value behind its count
pub record SpellsHeld (name : List ℕ) (id : TypeId) (value bytes : List ℕ) : Type 0 where
  pub name_count : List ℕ
  pub number : List ℕ
  pub count : List ℕ
  pub named : IsUnsigned (length name) name_count
  pub typed : IsSigned (pos id.0) number
  pub counted : IsUnsigned (length value) count
  pub whole : bytes ≡ name_count ++ (name ++ (number ++ (count ++ value)))
