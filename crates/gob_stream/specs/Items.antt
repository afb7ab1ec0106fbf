-- Items one behind another, in any grammar: `is` says which bytes are an item at an offset, by the types in front of
-- it, and which types stand behind it.
use Rattle.std.specs.Prelude.{◌≡◌, ℕ, ◌+◌, List, [], ◌∷◌, ◌++◌, length}
use Rattle.gob_types.specs.Table.{Table}

-- from this table and offset on, the bytes are these items, and behind them the types are those of the last table
pub data AreItemsOf {Told : Type 0} (is : Table → ℕ → Told → List ℕ → Table → Type 0) : Table → ℕ → List Told
    → List ℕ → Table → Type 0 where
  no_more : {T : Table} {offset : ℕ} → AreItemsOf is T offset [] [] T
  and_then : {T U V : Table} {offset next : ℕ} {i : Told} {items : List Told} {b c : List ℕ}
      → is T offset i b U → next ≡ offset + length b → AreItemsOf is U next items c V
      → AreItemsOf is T offset (i ∷ items) (b ++ c) V
