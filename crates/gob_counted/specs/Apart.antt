-- Items told apart, definitions and values, in any grammar, and what a counter needs of a session.
-- (docs/FORMAT.md, Items and streams; What Go's encoder writes beyond its documentation.)
use Rattle.std.specs.Prelude.{◌≡◌, ℕ, ◌+◌, ◌++◌, List, [], ◌∷◌, length}
use Rattle.gob_types.specs.Table.{Table}
use Rattle.gob_types.specs.declared.id.TypeId.{TypeId}
use Rattle.gob_value.specs.Tree.{Tree}
use Rattle.gob_stream.specs.Bounds.{Bounds}
use Rattle.gob_stream.specs.Grammar.{StreamIn}
use Rattle.gob_stream.specs.Item.{defines}
use Rattle.gob_stream.specs.Items.{AreItemsOf}
use Rattle.gob_stream.specs.Stepping.{Stepping}

module _ {X I Told : Type 0} (d : Stepping X I Told) where
  -- the item defines a type; else it is a value
  pub record IsDefinition (i : Told) : Type 0 where
    pub id : TypeId
    pub description : Tree
    pub is : i ≡ d.told (defines id description)

  -- so many of the items are values
  pub data ValuesIn : List Told → ℕ → Type 0 where
    no_values : ValuesIn [] 0
    a_definition : {i : Told} {items : List Told} {n : ℕ} → IsDefinition i → ValuesIn items n → ValuesIn (i ∷ items) n
    a_value : {i : Told} {items : List Told} {n m : ℕ} → ¬ IsDefinition i → ValuesIn items n → m ≡ n + 1
        → ValuesIn (i ∷ items) m

  -- what a counter needs of a session and its grammar
  pub record IsCountable : Type 0 where
    -- two streams of the same items of which both go on to the same bytes are one
    pub one_stream : (L : Bounds) (items : List Told) (b c x y : List ℕ) (T U : Table) → StreamIn d.grammar L items b T
        → StreamIn d.grammar L items c U → b ++ x ≡ c ++ y → (b ≡ c) × (T ≡ U)
    -- items that leave the types as they are are values
    pub are_values : (L : Bounds) (T : Table) (offset : ℕ) (items : List Told) (bytes : List ℕ)
        → AreItemsOf (d.grammar.is L) T offset items bytes T → ValuesIn items (length items)
    -- between two items it has read the stream of the items
    pub whole : (s : X) (items : List Told) (bytes : List ℕ) (h : d.read s items bytes) → d.between s
        → StreamIn d.grammar (d.within (d.limits s)) items bytes (d.behind s items bytes h)
