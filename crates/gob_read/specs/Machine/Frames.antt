-- The open parts on the reader's stack: what follows in one behind a part that was read.
use Rattle.std.specs.Prelude.{ℕ, zero, suc}
use Rattle.gob_types.specs.declared.id.TypeId.{TypeId}
use Rattle.gob_read.specs.declared.frame.Frame.{Frame}
use Rattle.gob_read.specs.declared.frame.Frame.TheVariants as frame
use Rattle.gob_read.specs.declared.next.NextNumber.{NextNumber}
use Rattle.gob_read.specs.declared.next.NextNumber.TheVariants as item

-- no part follows: the open part ends
pub data IsOver : Frame → Type 0 where
  last_element : {e : TypeId} → IsOver (frame.Many e zero)
  last_pair : {k e : TypeId} → IsOver (frame.Elem k e zero)

-- another part follows, or the next delta
pub data FrameGoesOn : Frame → Frame → Type 0 where
  to_element : {e : TypeId} {left : ℕ} → FrameGoesOn (frame.Many e (suc left)) (frame.Many e left)
  to_value : {k e : TypeId} {left : ℕ} → FrameGoesOn (frame.Key k e left) (frame.Elem k e left)
  to_key : {k e : TypeId} {left : ℕ} → FrameGoesOn (frame.Elem k e (suc left)) (frame.Key k e left)
  to_delta : {t : TypeId} {next : ℕ} → FrameGoesOn (frame.Fields t next) (frame.Fields t next)

-- the number that is expected there
abbrev pub item_of : Frame → NextNumber
item_of (frame.Many e left) = item.Part e
item_of (frame.Key k e left) = item.Part k
item_of (frame.Elem k e left) = item.Part e
item_of (frame.Fields t next) = item.Delta
