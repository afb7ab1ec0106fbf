-- What words say of types whose values encode themselves. (docs/FORMAT.md, The program: this project's own.)
use Rattle.std.specs.Prelude.{◌≡◌, List, [], ◌∷◌, ◌++◌, codes, Some}
use Rattle.clap.specs.Words.{Text}
use Rattle.gob_words.specs.Words.{IsNumber}
use Rattle.gob_words.specs.declared.kinds.OpaqueKind.{OpaqueKind}
use Rattle.gob_words.specs.declared.kinds.OpaqueKind.TheVariants as kind
use Rattle.gob_words.specs.declared.kinds.TypeKind.{TypeKind}

abbrev pub kind_name : OpaqueKind → Text
kind_name kind.Time = codes "time.Time"
kind_name kind.BigInt = codes "big.Int"
kind_name kind.BigFloat = codes "big.Float"
kind_name kind.BigRat = codes "big.Rat"
kind_name kind.Uuid = codes "uuid"
kind_name kind.NetipAddr = codes "netip.Addr"
kind_name kind.Text = codes "text"
kind_name kind.Base64 = codes "base64"

-- a word says this of a type: its id, an equals sign (61), and the name of the kind
pub record IsKindWord (word : Text) (said : TypeKind) : Type 0 where
  pub digits : Text
  pub parts : word ≡ digits ++ 61 ∷ kind_name said.kind
  pub id : IsNumber (Some digits) 0 said.id

-- the words say these, each one of them, in order
pub data SayKinds : (words : List Text) (said : List TypeKind) → Type 0 where
  no_more : SayKinds [] []
  one_more : {word : Text} {words : List Text} {said : TypeKind} {others : List TypeKind}
      → IsKindWord word said → SayKinds words others → SayKinds (word ∷ words) (said ∷ others)
