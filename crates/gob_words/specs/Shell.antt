-- Words as a shell reads them. (POSIX.1-2024, Shell Command Language, 2.2 Quoting and 2.3 Token Recognition.)
use Rattle.std.specs.Prelude.{◌≡◌, ◌≢◌, ℕ, List, [], ◌∷◌, ◌++◌, Bool, true, ◌==◌, ◌&&◌, ◌||◌, nat_le}
use Rattle.std.specs.Prelude.{if◌then◌else◌}
use Rattle.std.specs.List.{All}
use Rattle.std.specs.Str.{NonePass}

-- a letter, a digit, or one of . / _ -, which stand for themselves wherever they stand
abbrev pub is_plain : ℕ → Bool
is_plain c = (nat_le 97 c && nat_le c 122) || ((nat_le 65 c && nat_le c 90) || ((nat_le 48 c && nat_le c 57)
    || ((c == 46) || ((c == 47) || ((c == 95) || (c == 45))))))

-- characters of a word, and the text that a shell makes of them: a plain character stands for itself, as does one
-- behind a backslash (92) that is no line feed, and between single quotes (39) each but a single quote
pub data Reads : (characters text : List ℕ) → Type 0 where
  no_more : Reads [] []
  plain : {c : ℕ} {cs ts : List ℕ} → is_plain c ≡ true → Reads cs ts → Reads (c ∷ cs) (c ∷ ts)
  behind_backslash : {c : ℕ} {cs ts : List ℕ} → c ≢ 10 → Reads cs ts → Reads (92 ∷ c ∷ cs) (c ∷ ts)
  between_quotes : (qs cs ts : List ℕ) → NonePass (λ q. q == 39) qs → Reads cs ts
      → Reads (39 ∷ (qs ++ 39 ∷ cs)) (qs ++ ts)

-- a shell reads the characters as one word, this text, which may be empty
pub record IsShellWord (characters text : List ℕ) : Type 0 where
  pub some : characters ≢ []
  pub reads : Reads characters text

-- the bytes are plain characters, one at least
pub record ArePlain (bytes : List ℕ) : Type 0 where
  pub some : bytes ≢ []
  pub plain : All (λ c. is_plain c ≡ true) bytes

-- the characters that stand for one between single quotes: a quote ends them, stands behind a backslash, and begins
-- them again
abbrev pub quoted_character : ℕ → List ℕ
quoted_character c = if c == 39 then 39 ∷ 92 ∷ 39 ∷ 39 ∷ [] else c ∷ []
