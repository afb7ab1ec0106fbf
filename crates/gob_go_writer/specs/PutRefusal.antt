-- Why an item isn't put behind a stream.
-- (docs/FORMAT.md, Fillings and segments: this project's own.)
use Rattle.std.specs.Prelude.{◌≡◌, ℕ, List, ◌++◌}
use Rattle.gob_types.specs.declared.reason.Reason.{Reason}
use Rattle.gob_types.specs.declared.reason.Reason.TheVariants as reason
use Rattle.gob_types.specs.Base.{base_table}
use Rattle.gob_types.specs.Table.{Table}
use Rattle.gob_stream.specs.Bounds.{Bounds}
use Rattle.gob_stream.specs.declared.fault.Refusal.{Refusal}
use Rattle.gob_filled.specs.Outcome.{FilledOutcome, refused}
use Rattle.gob_filled.specs.Stream.{FilledItem}
use Rattle.gob_go.specs.declared.item.GoItem.{GoItem}
use Rattle.gob_go_writer.specs.Spelling.{IsSpelling}

-- the item has a spelling, behind which a reader of the stream refuses it for the reason
pub record RefusesSpelling (L : Bounds) (T : Table) (stream : List ℕ) (kept : GoItem) (r : Reason) : Type 0 where
  pub bytes : List ℕ
  pub items : List FilledItem
  pub refusal : Refusal
  pub spelled : IsSpelling T kept bytes
  pub outcome : FilledOutcome base_table L (stream ++ bytes) items (refused refusal)
  pub told : refusal.reason ≡ r

-- why the item isn't put behind the stream of these bytes, where the types are those of T: the reason for which a
-- reader refuses the stream with the item's spelling behind it, and DoesNotFit where the item has no spelling, or where
-- the bytes are read to their end
pub data RefusesPut (L : Bounds) (T : Table) (stream : List ℕ) (kept : GoItem) : Reason → Type 0 where
  refused_spelling : {r : Reason} → RefusesSpelling L T stream kept r → RefusesPut L T stream kept r
  does_not_fit : ((r : Reason) → ¬ RefusesSpelling L T stream kept r) → RefusesPut L T stream kept reason.DoesNotFit

-- an item isn't put for one reason
abbrev pub PutsHaveOneReason : Type 0
PutsHaveOneReason = (L : Bounds) (T : Table) (stream : List ℕ) (kept : GoItem) (r s : Reason)
    → RefusesPut L T stream kept r → RefusesPut L T stream kept s → r ≡ s
