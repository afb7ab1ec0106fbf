-- What a nil says that a text fills, and which is the next.
use Rattle.std.proofs.Common.{◌≡◌, ℕ, zero, suc, ◌+◌, ◌<◌, ◌≤◌, List, [], ◌∷◌, Option, Some, None, refl, sym, subst}
use Rattle.std.proofs.Common.{get_or, length, arith, ◌∙◌}
use Rattle.std.specs.Prelude.{slice_get, string_bytes}
use Rattle.std.proofs.lemmas.Option.{slice_get_past, slice_get_read}
use Rattle.json.specs.Json.{Json}
use Rattle.json.specs.Json as json
use Rattle.json.specs.Lex.{tokens}
use Rattle.json.specs.Tree.{json_tokens}
use Rattle.gob_types.proofs.PublicLaws.{some_injective}
use Rattle.gob_plain.specs.declared.fillers.Filler.{Filler}
use Rattle.gob_plain.specs.Fillers.{FillerSays, SaysFiller, SaysMaybeNamed, IsFiller, AreFillers}
use Rattle.gob_plain.specs.Plain.{name_text}
use Rattle.std.specs.Borrow.{Bor}

-- ---- one filler

pub says_named : (f : Filler) (name : Bor (List ℕ)) (i : Json) → f.name ≡ Some name
    → tokens (string_bytes f.text) ≡ json_tokens i
    → SaysFiller f (json.object (json.member (name_text name.now) i json.no_members))
says_named f name i e t =
    subst
    (λ (o : Option (Bor (List ℕ))). SaysMaybeNamed (λ (n : Bor (List ℕ)). n.now) o
    (λ j. tokens (string_bytes f.text) ≡ json_tokens j)
    (json.object (json.member (name_text name.now) i json.no_members)))
    (sym e) (i, t, refl)

pub says_bare : (f : Filler) (i : Json) → f.name ≡ None → tokens (string_bytes f.text) ≡ json_tokens i
    → SaysFiller f i
says_bare f i e t =
    subst
    (λ (o : Option (Bor (List ℕ))). SaysMaybeNamed (λ (n : Bor (List ℕ)). n.now) o
    (λ j. tokens (string_bytes f.text) ≡ json_tokens j) i)
    (sym e) t

-- something is said by what fills it, or null
filler_said : (f : Filler) (o : Option (Bor (List ℕ))) → f.name ≡ o → IsFiller (Some f) → (j : Json) × SaysFiller f j
filler_said f None e h = (h.0, says_bare f h.0 e h.1)
filler_said f (Some name) e h =
    (json.object (json.member (name_text name.now) h.0 json.no_members), says_named f name h.0 e h.1)

pub some_said : (f : Option Filler) → IsFiller f → (j : Json) × FillerSays (Some f) j
some_said None h = (json.null, refl)
some_said (Some f) h = filler_said f f.name refl h

-- ---- the next

pub next_there : {X : Type 0} (xs : List X) (i : ℕ) (x : X) → i < length xs → x ≡ get_or xs i x
    → slice_get xs i ≡ Some x
next_there xs i x l e = slice_get_read xs (length xs) i x refl l e

pub filler_there : (fs : List (Option Filler)) (i : ℕ) (f : Option Filler) → AreFillers fs → slice_get fs i ≡ Some f
    → IsFiller f
filler_there [] i f h e = cc
filler_there (g ∷ fs) zero f h e = subst IsFiller (some_injective e) h.0
filler_there (g ∷ fs) (suc i) f h e = filler_there fs i f h.1 e

pub said_at : (fs : List (Option Filler)) (m n : ℕ) (j : Json) → m ≡ n → FillerSays (slice_get fs m) j
    → FillerSays (slice_get fs n) j
said_at fs m n j e h = subst (λ n. FillerSays (slice_get fs n) j) e h

pub said_next : (fs : List (Option Filler)) (n : ℕ) (f : Option Filler) (j : Json) → slice_get fs n ≡ Some f
    → FillerSays (Some f) j → FillerSays (slice_get fs (n + 0)) j
said_next fs n f j e h =
    said_at fs n (n + 0) j (omega arith) (subst (λ (o : Option (Option Filler)). FillerSays o j) (sym e) h)

pub null_past : (fs : List (Option Filler)) (n : ℕ) → length fs ≤ n → FillerSays (slice_get fs n) json.null
null_past fs n l = subst (λ (o : Option (Option Filler)). FillerSays o json.null) (sym (slice_get_past fs n l)) refl

-- behind the last nil each says what the one behind it says
pub same_past : (fs : List (Option Filler)) (m n : ℕ) (j : Json) → length fs ≤ m → length fs ≤ n
    → FillerSays (slice_get fs m) j → FillerSays (slice_get fs n) j
same_past fs m n j p q h =
    subst (λ (o : Option (Option Filler)). FillerSays o j) (slice_get_past fs m p ∙ sym (slice_get_past fs n q)) h
