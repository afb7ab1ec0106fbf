-- A definition that stands next and is kept already in its very bytes: where it would be refused. For private clauses.
use Rattle.std.specs.Prelude.{◌≡◌, ℕ, ℤ, negsuc, ◌+◌, ◌-◌, ◌<◌, ◌≤◌, List, length, take, drop, true}
use Rattle.gob_num.specs.Place.{IsUnsignedAt}
use Rattle.gob_num.specs.Signed.{IsSigned}
use Rattle.gob_types.specs.declared.id.TypeId.{TypeId}
use Rattle.gob_types.specs.declared.reason.Reason.TheVariants as reason
use Rattle.gob_types.specs.Base.{base_table}
use Rattle.gob_types.specs.Definable.{IsOwnId}
use Rattle.gob_types.specs.Table.{Table, IsDefined}
use Rattle.gob_stream.specs.Bounds.{Bounds, within_trees}
use Rattle.gob_stream.specs.Refusing.{refuses}
use Rattle.gob_filled.specs.Outcome.{RefusesFilled}
use Rattle.gob_go.specs.Calls.Session.{limits_of, types_of}
use Rattle.gob_salvage.specs.declared.frame.Frame.{Frame}
use Rattle.gob_salvage.specs.declared.keeping.Again.{Again}
use Rattle.gob_salvage.specs.declared.keeping.Keeper.{Keeper}
use Rattle.gob_salvage.specs.Evidence.{IsFrame}
use Rattle.gob_salvage.specs.Salvage.{IsDefinedAgain}

-- between the places stands a count, of no more bytes than so many, and those bytes; behind the count stands the number
pub record IsNumbered (most : ℕ) (bytes : List ℕ) (begin head body end : ℕ) (number : ℤ) : Type 0 where
  pub count : ℕ
  pub counts : IsUnsignedAt count bytes begin head
  pub few : count ≤ most
  pub ends : end ≡ head + count
  pub inside : end ≤ length bytes
  pub order : head < body
  pub spelled : IsSigned number (take (body - head) (drop head bytes))

-- the item there is refused at that number, wherever it stands in a stream that has room for it
abbrev pub RefusesAgain : Bounds → Table → (bytes : List ℕ) → (begin head end : ℕ) → TypeId → Type 0
RefusesAgain L T bytes begin head end id = (offset : ℕ) → offset + (end - begin) ≤ L.stream
    → (seen : ℕ) × RefusesFilled base_table L T offset (drop begin bytes)
    (refuses (offset + (head - begin)) seen (reason.DefinedTwice id))

-- it is a definition of a type that is defined
pub record IsAgain (k : Keeper) (frame : Frame) (again : Again) : Type 0 where
  pub below : ℕ
  pub numbered : frame.number ≡ negsuc below
  pub id : again.id.0 ≡ below + 1
  pub own : IsOwnId again.id
  pub defined : IsDefined (types_of k.session) again.id
  pub place : again.place ≡ frame.head
  pub end : again.end ≡ frame.end

-- it stands next, is refused so, and is kept
pub record RepeatsNext (k : Keeper) (bytes : List ℕ) (again : Again) : Type 0 where
  pub in_step : k.in_step ≡ true
  pub further : k.at < again.end
  pub within : again.end ≤ length bytes
  pub frame : IsFrame bytes k.at again.end
  pub behind : k.at ≤ again.place
  pub before : again.place ≤ again.end
  pub refused : RefusesAgain (within_trees (limits_of k.session)) (types_of k.session) bytes k.at again.place again.end
      again.id
  pub kept : IsDefinedAgain bytes k.at again.end k.kept.bytes.items
