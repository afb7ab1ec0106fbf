-- Where something was left out of a stream, and how much.
use Rattle.std.specs.Prelude.{◌≡◌, ℕ, List, [], ◌∷◌, Bool, true, false, ◌&&◌, ◌||◌, ◌==◌, if◌then◌else◌, nat_le, nat_lt}
use Rattle.gob_appended.specs.declared.places.Cut.{Cut}

-- how many bytes were left out before the byte at this offset among those that were given, where so many were in all:
-- as many as before the first cut behind it
abbrev pub left_out_at : (all : ℕ) → List Cut → (place : ℕ) → ℕ
left_out_at all [] k = all
left_out_at all (c ∷ cs) k = if nat_lt k c.at then c.before else left_out_at all cs k

-- no cut is behind the offset
abbrev pub are_before : ℕ → List Cut → Bool
are_before n [] = true
are_before n (c ∷ cs) = nat_le c.at n && are_before n cs

-- a cut is at the offset
abbrev pub has_cut : ℕ → List Cut → Bool
has_cut n [] = false
has_cut n (c ∷ cs) = c.at == n || has_cut n cs

-- behind so many bytes that were given more was left out, so that it was `all` before and `more` now: what was given
-- stays where it was, and what comes is behind that
abbrev pub Leaves : (given all more : ℕ) → (old new : List Cut) → Type 0
Leaves given all more old new = (k : ℕ)
    → left_out_at more new k ≡ (if nat_le given k then more else left_out_at all old k)
