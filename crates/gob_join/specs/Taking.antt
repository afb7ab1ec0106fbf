-- What is written of an item that is taken into another stream, and of a value of a type of that one, whose interfaces
-- hold values of the first one.
-- (docs/FORMAT.md, Streams joined.)
use Rattle.std.specs.Prelude.{◌≡◌, ℕ, List, [], ◌∷◌, ◌++◌}
use Rattle.gob_types.specs.declared.id.TypeId.{TypeId}
use Rattle.gob_types.specs.Table.{Table}
use Rattle.gob_value.specs.Top.{SpellsTop}
use Rattle.gob_value.specs.Tree.{Tree}
use Rattle.gob_filled.specs.Filled.{filled, Fillings}
use Rattle.gob_filled.specs.Stream.{FilledItem, putting}
use Rattle.gob_go.specs.Meaning.{AreFillings}
use Rattle.gob_go.specs.declared.filled.Filled.{Filled, out-Filled}
use Rattle.gob_go_writer.specs.Calls.Writer.{HasPut, types_of}
use Rattle.gob_go_writer.specs.Item.{IsGrown}
use Rattle.gob_go_writer.specs.declared.writer.GoWriter.{GoWriter}
use Rattle.gob_join.specs.Renaming.{AreRenamed, AreRenamedFillings, Extends, IsRenaming, NewId, values_of}

-- behind these items, which are the bytes, more items were put
pub record WritesOn (w w' : GoWriter) (items : List FilledItem) (bytes old new : List ℕ) (more : List FilledItem) :
    Type 0 where
  pub spelled : List ℕ
  pub text : new ≡ old ++ spelled
  pub put : HasPut w' (items ++ more) (bytes ++ spelled)
  pub grown : IsGrown (types_of w) (types_of w')

-- the values of an item, renamed, behind definitions
pub record TakesItem (w w' : GoWriter) (items : List FilledItem) (bytes old new : List ℕ) (T : Table) (R R' : NewId)
    (i : FilledItem) : Type 0 where
  pub more : List FilledItem
  pub on : WritesOn w w' items bytes old new more
  pub renaming : IsRenaming R' T (types_of w')
  pub extends : Extends R R'
  pub values : AreRenamed R' (values_of (i ∷ [])) (values_of more)

-- what is kept of a value stands for this one: its skeleton is one of a type of W, and what fills its nils is of types
-- of T
pub record IsFilledFrom (W T : Table) (id : TypeId) (kept : Filled) (v : Tree) (fs : Fillings) : Type 0 where
  pub spelled : SpellsTop W id v (out-Filled kept).skeleton.items
  pub mean : AreFillings T (out-Filled kept).fillings.items fs

-- behind definitions the value was put, with what fills its nils, renamed
pub record TakesHeld (w w' : GoWriter) (items : List FilledItem) (bytes old new : List ℕ) (T : Table) (R R' : NewId)
    (id : TypeId) (v : Tree) (fs : Fillings) : Type 0 where
  pub more : List FilledItem
  pub on : WritesOn w w' items bytes old new more
  pub renaming : IsRenaming R' T (types_of w')
  pub extends : Extends R R'
  pub fillings : Fillings
  pub renamed : AreRenamedFillings R' fs fillings
  pub values : values_of more ≡ putting id (filled v fillings) ∷ []
