-- The pairs of a match are a closed list that holds its two types.
use Rattle.std.proofs.Common.{ℕ, List, Contains, subst}
use Rattle.std.specs.Map.{keys_of}
use Rattle.gob_types.specs.declared.id.TypeId.{TypeId}
use Rattle.gob_types.specs.Table.{Table}
use Rattle.gob_types.proofs.PublicLaws.{contains_at, contains_read}
use Rattle.gob_match.specs.declared.conversion.Conversion.{Conversion}
use Rattle.gob_match.specs.declared.matched.Matched.{Matched}
use Rattle.gob_match.specs.declared.pair.TypePair.{TypePair}
use Rattle.gob_match.specs.declared.step.TypeStep.{TypeStep}
use Rattle.gob_match.specs.Calls.Matched.{IsSound, pairs_of, stream_of, stream_type, wanted_type, wanted_types_of}
use Rattle.gob_match.specs.Machine.Kept.{IsMatched}
use Rattle.gob_match.specs.Machine.Search.{Entry, IsAt}
use Rattle.gob_match.specs.Matching.{HasMatchingShapes, IsClosed, NamesByStep}
use Rattle.gob_match.specs.Pairs.{of_types}
use Rattle.gob_match.proofs.ConversionLaws.{converts_match}
use Rattle.gob_match.proofs.SearchLaws.{key_at, key_back}

in_keys : {es : List Entry} {k : ℕ} {p : TypePair} → IsAt es k p → Contains (keys_of es) p
in_keys {es = es} {k = k} {p = p} at = contains_read (keys_of es) k p (key_at es k (p, at.origin) at.there)

at_of : (es : List Entry) (p : TypePair) → Contains (keys_of es) p → (k : ℕ) × IsAt es k p
at_of es p there =
    let k = contains_at (keys_of es) p there in (k.0, subst (IsAt es k.0) k.3 (key_back es k.0 k.1 k.2))

module _ {T U : Table} {t u : TypeId} {es : List Entry} {conversions : List Conversion}
    (m : IsMatched T U t u es conversions) where
  pairs_match : (p : TypePair) → Contains (keys_of es) p → HasMatchingShapes T U p
  pairs_match p there = let at = at_of es p there in converts_match (m.conversion at.0 p at.1).2

  pairs_named : (p q : TypePair) (s : TypeStep) → Contains (keys_of es) p → NamesByStep T U p s q
      → Contains (keys_of es) q
  pairs_named p q s there n = let at = at_of es p there in in_keys (m.named at.0 p q s at.1 n).1

pub pairs_closed : {S W : Type 0} (stream : S → Table) (wanted : W → Table) (m : Matched S W)
    → IsSound stream wanted m → IsClosed (stream (stream_of m)) (wanted (wanted_types_of m)) (pairs_of m)
pairs_closed stream wanted m sound = record { match = pairs_match sound; named = pairs_named sound }

pub pairs_begin : {S W : Type 0} (stream : S → Table) (wanted : W → Table) (m : Matched S W) → IsSound stream wanted m
    → Contains (pairs_of m) (of_types (stream_type m) (wanted_type m))
pairs_begin stream wanted m sound = in_keys sound.begins
