-- The tidy forms of items, and their bytes. For private clauses.
use Rattle.std.specs.Prelude.{◌≡◌, ℕ, ◌^◌, ◌<◌, ◌≤◌, List, [], ◌∷◌, ◌++◌, length, min}
use Rattle.gob_num.specs.Unsigned.{AreBytes}
use Rattle.gob_types.specs.Base.{base_table}
use Rattle.gob_types.specs.Table.{Table}
use Rattle.gob_types.specs.declared.id.TypeId.{TypeId}
use Rattle.gob_value.specs.Top.{SpellsTop}
use Rattle.gob_value.specs.Tree.{Tree}
use Rattle.gob_tidy.specs.TidiedWhole.{TidiesWhole}
use Rattle.gob_stream.specs.Bounds.{Bounds, greatest_depth}
use Rattle.gob_filled.specs.Filled.{filled, no_filling}
use Rattle.gob_filled.specs.Stream.{FilledItem, putting, IsFilledItem}
use Rattle.gob_go.specs.Calls.Reader.{session_of, waits_in}
use Rattle.gob_go.specs.Calls.Session.{HasBodyNext, IsBetweenItems, limits_of, types_of}
use Rattle.gob_go.specs.Meaning.{ItemMeans}
use Rattle.gob_go.specs.declared.item.GoItem.{GoItem}
use Rattle.gob_go.specs.Calls.Reader.{GoReader}
use Rattle.gob_go_writer.specs.TidyItem.{BecomesTidy}
use Rattle.gob_go_writer.specs.Hoisting.{hoisted}
use Rattle.gob_go_writer.specs.Item.{IsItemOf}
use Rattle.gob_tool.specs.RewritingGo.{AreAnywhere}

-- the second item is the tidy form of the first, and the text its bytes
pub record IsTidyText (T : Table) (old new : GoItem) (text : List ℕ) : Type 0 where
  pub becomes : BecomesTidy T old new
  pub written : (bytes : List ℕ) → IsItemOf T new bytes → text ≡ bytes

-- the bytes are those of the item, and fewer than this
pub record IsShortItem (T : Table) (kept : GoItem) (bytes : List ℕ) : Type 0 where
  pub is : IsItemOf T kept bytes
  pub short : length bytes < 2 ^ 60

-- the bytes are those of the items, one behind another
pub data AreItemsOf (T : Table) : List GoItem → List ℕ → Type 0 where
  no_items : AreItemsOf T [] []
  item_then : {kept : GoItem} {all : List GoItem} {b c : List ℕ} → IsItemOf T kept b → AreItemsOf T all c
      → AreItemsOf T (kept ∷ all) (b ++ c)

-- wherever the item stands for which this one is kept, with these types behind it, the text is the items that come of
-- it
abbrev pub IsHoistedText : Table → GoItem → (text : List ℕ) → Type 0
IsHoistedText T kept text = (i : FilledItem) → ItemMeans T kept i → (L : Bounds) (before : Table) (offset : ℕ)
    (bytes : List ℕ) → L.depth ≤ greatest_depth → IsFilledItem base_table L before offset i bytes T
    → length bytes < 2 ^ 60 → AreAnywhere L before (hoisted i) text T

-- what is kept is the item of the value of the type that has this skeleton, of which no nil is filled
abbrev pub IsUnfilled : TypeId → (skeleton : List ℕ) → GoItem → Type 0
IsUnfilled id skeleton kept = (T : Table) (v : Tree) → SpellsTop T id v skeleton
    → ItemMeans T kept (putting id (filled v no_filling))

-- what is kept is the tidy form of the value that the body spells, in which no nil is filled
pub record IsFormOf (T : Table) (id : TypeId) (limit : ℕ) (body : List ℕ) (kept : GoItem) : Type 0 where
  pub skeleton : List ℕ
  pub whole : TidiesWhole T id limit body skeleton
  pub body_bytes : AreBytes body
  pub skeleton_bytes : AreBytes skeleton
  pub means : ItemMeans T kept (putting id (filled whole.form no_filling))

-- of the value of the item in front, which waits as a whole
pub record IsWholeForm (r : GoReader) (used : ℕ) (kept : GoItem) : Type 0 where
  pub id : TypeId
  pub body : List ℕ
  pub between : IsBetweenItems (session_of r)
  pub next : HasBodyNext (session_of r) id body used (waits_in r)
  pub is : IsFormOf (types_of (session_of r)) id (min (limits_of (session_of r)).depth greatest_depth) body kept
