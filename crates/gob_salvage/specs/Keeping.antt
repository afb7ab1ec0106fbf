-- Where a run stands that keeps what isn't damaged. For private clauses.
use Rattle.std.specs.Prelude.{◌≡◌, ℕ, ◌+◌, ◌^◌, ◌<◌, ◌≤◌, List, ◌++◌, length, drop}
use Rattle.std.specs.Prelude.{[], ◌∷◌, IfSome, Option, Some, None, Bool, true}
use Rattle.std.specs.List.{AllByRecursion}
use Rattle.gob_types.specs.declared.id.TypeId.{TypeId}
use Rattle.gob_types.specs.declared.reason.Reason.{Reason}
use Rattle.gob_types.specs.declared.reason.Reason.TheVariants as reason
use Rattle.gob_types.specs.Base.{base_table}
use Rattle.gob_types.specs.Table.{Table}
use Rattle.gob_stream.specs.Bounds.{Bounds, within_trees}
use Rattle.gob_stream.specs.declared.fault.Refusal.{Refusal}
use Rattle.gob_stream.specs.declared.values.Passed.{Passed}
use Rattle.gob_filled.specs.Stream.{FilledItem, FilledStream, no_more}
use Rattle.gob_go.specs.Calls.Session.{HasRead, IsBetweenItems, limits_of, types_of}
use Rattle.gob_go.specs.Machine.SessionState.{SessionState}
use Rattle.gob_salvage.specs.declared.gap.Gap.{Gap}
use Rattle.gob_salvage.specs.declared.keeping.Keeper.{Keeper}
use Rattle.gob_salvage.specs.declared.keeping.Kept.{Kept}
use Rattle.gob_salvage.specs.declared.later.Later.{Later}
use Rattle.gob_salvage.specs.declared.search.Search.{Search}
use Rattle.gob_salvage.specs.Salvage.{Front, IsSalvageBehind, Salvages, SalvagesBehind, TellsRepeated}
use Rattle.gob_salvage.specs.Breaks.{BreaksAt, IsTwice}
use Rattle.gob_salvage.specs.Evidence.{AllDefine}
use Rattle.gob_salvage.specs.Searching.{AreNoted, NotesItemOf, NotesItemsOf}
use Rattle.gob_salvage.specs.Taking.{RefusesNext}

-- where it begins: behind a stream of definitions
pub record Start : Type 0 where
  pub limits : Bounds
  pub bytes : List ℕ
  pub front : Front limits bytes

abbrev pub SalvagesFrom : Start → (bytes : List ℕ) → List FilledItem → (out : List ℕ) → List Gap → Table → Type 0
SalvagesFrom S bytes items out gaps T = SalvagesBehind S.limits S.bytes S.front bytes items out gaps T

-- so much was kept of the front and the bytes up to the offset; what is kept of the others goes on there. The session
-- has read some items, no more bytes than were kept, behind which the types are those behind what was kept; and so they
-- are behind the items that define types. The search knows of which types values were kept.
pub record HasKept (S : Start) (s : SessionState) (bytes : List ℕ) (at session_read count : ℕ) (out defs : List ℕ)
    (gaps : List Gap) (in_step : Bool) (search : Search) : Type 0 where
  pub items : List FilledItem
  pub own : List FilledItem
  pub read : List ℕ
  pub has : HasRead s own read
  pub between : IsBetweenItems s
  pub limits : within_trees (limits_of s) ≡ S.limits
  pub read_is : session_read ≡ length read
  pub few_read : length read ≤ length out
  pub defining : List FilledItem
  pub defines : FilledStream base_table S.limits defining defs (types_of s)
  pub few_defs : length defs ≤ length out
  pub few_out : length out ≤ length S.bytes + at
  pub small : length S.bytes + length bytes ≤ S.limits.stream
  pub fits : S.limits.stream < 2 ^ 64
  pub counted : count ≡ length items
  pub few : count ≤ length S.bytes + at
  pub within : at ≤ length bytes
  pub repeated : AllByRecursion (TellsRepeated bytes out) gaps
  pub search_limits : within_trees search.limits ≡ S.limits
  pub noted : AreNoted search.kept_types items
  pub on : (T : Table) (more : List FilledItem) (rest : List ℕ) (others : List Gap)
      → Salvages S.limits (types_of s) items in_step (length out) at (drop at bytes) more rest others T
      → SalvagesFrom S bytes (items ++ more) (out ++ rest) (gaps ++ others) T

-- the keeper has kept so much, where the session was this one
abbrev pub HasKeptWith : Start → SessionState → Keeper → (bytes : List ℕ) → Type 0
HasKeptWith S s k bytes =
    HasKept S s bytes k.at k.read k.kept.items k.kept.bytes.items k.defining.items k.kept.gaps.items k.in_step k.search

abbrev pub IsKeeping : Start → Keeper → (bytes : List ℕ) → Type 0
IsKeeping S k bytes = HasKeptWith S k.session k bytes

-- and the session has met this refusal
pub record IsRefusedNext (S : Start) (k : Keeper) (bytes : List ℕ) (R : Refusal) : Type 0 where
  pub session : SessionState
  pub kept : HasKeptWith S session k bytes
  pub refused : RefusesNext session (drop k.at bytes) R
  pub limits : limits_of k.session ≡ limits_of session

-- so where the keeper has found one; nothing is left then
pub record BreaksNow (S : Start) (k : Keeper) (bytes : List ℕ) (later : Later) : Type 0 where
  pub at_end : length bytes ≤ k.at
  pub there : BreaksAt S.limits (types_of k.session) later.at later.front.items k.kept.gaps.items bytes

abbrev pub BreaksIn : Start → Keeper → (bytes : List ℕ) → Type 0
BreaksIn S k bytes = IfSome k.later (BreaksNow S k bytes)

-- it goes on, and further on
pub record GoesOn (S : Start) (k k' : Keeper) (bytes : List ℕ) : Type 0 where
  pub keeping : IsKeeping S k' bytes
  pub further : k.at < k'.at
  pub later : BreaksIn S k bytes → BreaksIn S k' bytes

-- this is kept of the bytes behind the front, up to another stream if one is found
pub record IsKeptOf (L : Bounds) (front bytes : List ℕ) (k : Kept) : Type 0 where
  pub salvage : IsSalvageBehind L front bytes k.kept.items k.kept.bytes.items k.kept.gaps.items
  pub later : IfSome k.later (λ l. BreaksAt L salvage.table l.at l.front.items k.kept.gaps.items bytes)

-- it keeps these bytes too, which are so many items
pub record KeepsMore (k k' : Keeper) (passed : Passed) (z : List ℕ) : Type 0 where
  pub items : k'.kept.items ≡ k.kept.items + passed.items
  pub bytes : k'.kept.bytes.items ≡ k.kept.bytes.items ++ z
  pub at : k'.at ≡ k.at + passed.used
  pub session : k'.session ≡ k.session
  pub defining : k'.defining ≡ k.defining
  pub gaps : k'.kept.gaps ≡ k.kept.gaps
  pub read : k'.read ≡ k.read + passed.used
  pub later : k'.later ≡ k.later
  pub in_step : k'.in_step ≡ true
  pub search : k'.search ≡ k.search

-- ---- where it begins
-- behind this front
abbrev pub started_with : {L : Bounds} {front : List ℕ} → Front L front → Start
started_with {L = L} {front = front} f = record { limits = L; bytes = front; front = f }

-- with nothing in front
abbrev pub from_nothing : Bounds → Start
from_nothing L = record {
  limits = L;
  bytes = [];
  front = record { items = []; types = base_table; stream = no_more; only = tt };
}

-- the front is kept, and nothing yet of the bytes behind it
pub record HasKeptFront (L : Bounds) (front : List ℕ) (k : Keeper) : Type 0 where
  pub first : Front L front
  pub keeping : (bytes : List ℕ) → length front + length bytes ≤ L.stream
      → IsKeeping (started_with first) k bytes
  pub later : k.later ≡ None

-- the keeper has kept all so far, which are definitions
pub record HasDefinitions (k : Keeper) : Type 0 where
  pub all : k.kept.gaps.items ≡ []
  pub only : (items : List FilledItem) → AreNoted k.search.kept_types items → AllDefine items
