-- The table of the bytes that stand for themselves: each is looked at once.
use Rattle.std.proofs.Common.{◌≡◌, ◌≢◌, ℕ, zero, suc, ◌+◌, ◌<◌, Bool, true, false, ◌&&◌, T, List, [], ◌∷◌}
use Rattle.std.proofs.Common.{arith, get_or, length, refl, subst}
use Rattle.std.proofs.Math.Dec.{ltb}
use Rattle.std.proofs.Math.Facts.{ltb_yes}
use Rattle.json.specs.Run.{is_plain}
use Rattle.gob_json.specs.declared.text.plain.TheConstants.{STANDS}
use lib.Ieee.Fits.{and_l, and_r}

-- the byte is as its entry says
abbrev says : (entry byte : ℕ) → Bool
says zero byte = true
says (suc n) byte = is_plain byte && ltb byte 128

-- so are those from this byte on
abbrev say : List ℕ → (byte : ℕ) → Bool
say [] byte = true
say (entry ∷ entries) byte = says entry byte && say entries (suc byte)

entry_says : (entries : List ℕ) (byte k : ℕ) → T (say entries byte) → k < length entries
    → T (says (get_or entries k 0) (byte + k))
entry_says [] byte k t h = absurd (omega arith)
entry_says (entry ∷ entries) byte zero t h =
    let place : byte ≡ byte + 0 = omega arith in
    subst (λ (b : ℕ). T (says entry b)) place (and_l _ _ t)
entry_says (entry ∷ entries) byte (suc k) t h =
    let place : suc byte + k ≡ byte + suc k = omega arith in
    subst (λ (b : ℕ). T (says (get_or entries k 0) b)) place
    (entry_says entries (suc byte) k (and_r (says entry byte) _ t) (omega arith))

is_true : (b : Bool) → T b → b ≡ true
is_true true t = refl
is_true false t = absurd t

said : (entry byte : ℕ) → T (says entry byte) → entry ≢ 0 → (is_plain byte ≡ true) × (byte < 128)
said zero byte t some = absurd (some refl)
said (suc n) byte t some = (is_true _ (and_l _ _ t), ltb_yes (and_r (is_plain byte) _ t))

pub stands : (byte : ℕ) → byte < 256 → get_or STANDS byte 0 ≢ 0 → (is_plain byte ≡ true) × (byte < 128)
stands byte h =
    let place : 0 + byte ≡ byte = omega arith in
    said (get_or STANDS byte 0) byte (subst (λ (b : ℕ). T (says (get_or STANDS byte 0) b)) place
    (entry_says STANDS 0 byte tt h))
