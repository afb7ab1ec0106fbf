-- The text of an address with a zone.
use Rattle.std.proofs.Common.{◌≡◌, ◌≢◌, ◌≤◌, ℕ, List, length, drop, Some, None, refl, inl, inr}
use Rattle.std.proofs.lemmas.Bool.{cases_Bool, ne_eqb, le-leb}
use Rattle.std.proofs.lemmas.Str.{is_utf8-from_IsUtf8, IsUtf8-from_is_utf8}
use Rattle.std.specs.Net.Text.{ipv6_text}
use Rattle.std.specs.Str.{IsUtf8, is_utf8}
use Rattle.gob_plain.specs.KnownText.{address_text, segments, zoned_text}

pub zone_shown : (b zone : List ℕ) → length b ≢ 4 → 16 ≤ length b → IsUtf8 (drop 16 b) → zone ≡ drop 16 b
    → Some (zoned_text (ipv6_text (segments b)) zone) ≡ address_text b
zone_shown b zone n l u e =
    rw (e, ne_eqb (length b) 4 n, le-leb 16 (length b) l, is_utf8-from_IsUtf8 (drop 16 b) u) refl

pub no_zone_shown : (b : List ℕ) → length b ≢ 4 → 16 ≤ length b → (IsUtf8 (drop 16 b) → ⊥)
    → None ≡ address_text b
no_zone_shown b n l u = elim (cases_Bool (is_utf8 (drop 16 b))) [
  | inl t ↦ absurd (u (IsUtf8-from_is_utf8 (drop 16 b) t))
  | inr f ↦ rw (ne_eqb (length b) 4 n, le-leb 16 (length b) l, f) refl
]
