-- What contracts see of a match: the two types that it is of, and that what is kept of it is right. (docs/LIBRARY.md,
-- Matching and receiving.)
use Rattle.std.specs.Map.{keys_of}
use Rattle.std.specs.Prelude.{◌≡◌, List}
use Rattle.gob_types.specs.declared.id.TypeId.{TypeId}
use Rattle.gob_types.specs.Table.{Table}
use Rattle.gob_match.specs.declared.kept.KeptMatch.{KeptMatch}
use Rattle.gob_match.specs.declared.matched.Matched.{Matched}
use Rattle.gob_match.specs.declared.pair.TypePair.{TypePair}
use Rattle.gob_match.specs.Machine.Kept.{IsMatched}

-- the stream's types, and the one that is matched
abbrev pub stream_of : {S W : Type 0} → Matched S W → S
stream_of m = m.stream.now

abbrev pub stream_type : {S W : Type 0} → Matched S W → TypeId
stream_type m = m.id

-- the wanted types, and the one that is matched
abbrev pub wanted_types_of : {S W : Type 0} → Matched S W → W
wanted_types_of m = m.wanted.now

abbrev pub wanted_type : {S W : Type 0} → Matched S W → TypeId
wanted_type m = m.wanted_id

-- the pairs of types that their shapes lead to
abbrev pub pairs_of : {S W : Type 0} → Matched S W → List TypePair
pairs_of m = keys_of m.found

-- it is a match of these two types
pub record IsMatchOf {S W : Type 0} (stream : S) (t : TypeId) (wanted : W) (u : TypeId) (m : Matched S W) : Type 0 where
  pub of_stream : stream_of m ≡ stream
  pub of_type : stream_type m ≡ t
  pub of_wanted : wanted_types_of m ≡ wanted
  pub of_wanted_type : wanted_type m ≡ u

-- what is kept of the match is right, where these are the tables of the two sides
abbrev pub IsSound : {S W : Type 0} → (S → Table) → (W → Table) → Matched S W → Type 0
IsSound stream wanted m = IsMatched (stream m.stream.now) (wanted m.wanted.now) m.id m.wanted_id m.found
    m.conversions.items

-- a match that is kept: its type of the stream, and that it is right where these are the tables and the two types
abbrev pub kept_type : KeptMatch → TypeId
kept_type k = k.id

abbrev pub IsKeptMatch : (T U : Table) → (t u : TypeId) → KeptMatch → Type 0
IsKeptMatch T U t u k = (k.id ≡ t) × IsMatched T U t u k.found k.conversions.items
