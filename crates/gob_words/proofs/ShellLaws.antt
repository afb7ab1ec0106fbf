-- A shell reads quoted text as that text.
use Rattle.std.proofs.Common.{rules, arith, ◌≡◌, ◌≢◌, ◌∙◌, ap, sym, refl, subst, ℕ, List, [], ◌∷◌, ◌++◌, ◌==◌}
use Rattle.std.proofs.Common.{append_assoc}
use Rattle.std.proofs.Common.{Bool, true, false, if◌then◌else◌, encode_utf8, encode_utf8_all, ◌<◌}
use Rattle.std.proofs.lemmas.Bool.Decides.{nat_tests}
use Rattle.std.proofs.lemmas.List.{flat_map_more}
use Rattle.std.proofs.lemmas.List.Concat.{flat_map-cons}
use Rattle.std.proofs.lemmas.List.Elements.{All-head, All-tail}
use Rattle.std.proofs.lemmas.Str.{chars-IsAscii, encodes-append, chars_from_encodes}
use Rattle.std.proofs.lemmas.Str.Ascii.{IsAscii-nil, IsAscii-cons, encode_ascii, encodes-IsAscii}
use Rattle.std.specs.List.{All, flat_map}
use Rattle.std.specs.Str.{IsAscii, IsUtf8, NonePass, chars}
use Rattle.gob_words.specs.Escaped.{IsUnobeyed, is_obeyed}
use Rattle.gob_words.specs.Shell.{ArePlain, IsShellWord, is_plain, quoted_character}
use Rattle.gob_words.specs.Shell.{Reads, no_more, plain, behind_backslash, between_quotes}
use Rattle.gob_words.proofs.EscapedLaws.{NonePass-append}

-- ---- plain characters

plain-ascii : (c : ℕ) → is_plain c ≡ true → c < 128
plain-ascii c h = grind (arith, nat_tests)

all_ascii : (cs : List ℕ) → All (λ c. is_plain c ≡ true) cs → IsAscii cs
all_ascii [] h = IsAscii-nil
all_ascii (c ∷ cs) h = IsAscii-cons c cs (plain-ascii c (All-head (λ d. is_plain d ≡ true) c cs h))
    (all_ascii cs (All-tail (λ d. is_plain d ≡ true) c cs h))

plain_reads : (cs : List ℕ) → All (λ c. is_plain c ≡ true) cs → Reads cs cs
plain_reads [] h = no_more
plain_reads (c ∷ cs) h = plain (All-head (λ d. is_plain d ≡ true) c cs h)
    (plain_reads cs (All-tail (λ d. is_plain d ≡ true) c cs h))

-- plain bytes are a word as they stand
pub plain_word : (bytes : List ℕ) → ArePlain bytes → IsShellWord (chars bytes) (chars bytes)
plain_word bytes h =
    let same = chars-IsAscii bytes (all_ascii bytes h.plain) in
    subst (λ cs. IsShellWord cs cs) (sym same) (record { some = h.some; reads = plain_reads bytes h.plain })

-- ---- quotes

-- characters that stand between quotes
abbrev pub quoted_text : List ℕ → List ℕ
quoted_text cs = flat_map quoted_character cs

-- a character more, behind those between quotes that were read
quoted_by_test : (c : ℕ) (b : Bool) (cs qs : List ℕ) → (c == 39) ≡ b → NonePass (λ q. q == 39) qs
    → ((ps : List ℕ) → NonePass (λ q. q == 39) ps → Reads (39 ∷ (ps ++ (quoted_text cs ++ 39 ∷ []))) (ps ++ cs))
    → Reads (39 ∷ (qs ++ (((if b then 39 ∷ 92 ∷ 39 ∷ 39 ∷ [] else c ∷ []) ++ quoted_text cs) ++ 39 ∷ [])))
    (qs ++ c ∷ cs)
quoted_by_test c true cs qs e h rest =
    let is : 39 ≡ c = grind (arith, nat_tests) in
    let quote : 39 ≢ 10 = omega arith in
    subst (λ d. Reads (39 ∷ (qs ++ 39 ∷ 92 ∷ 39 ∷ 39 ∷ (quoted_text cs ++ 39 ∷ []))) (qs ++ d ∷ cs)) is
    (between_quotes qs (92 ∷ 39 ∷ 39 ∷ (quoted_text cs ++ 39 ∷ [])) (39 ∷ cs) h
    (behind_backslash quote (rest [] tt)))
quoted_by_test c false cs qs e h rest =
    subst (λ l. Reads (39 ∷ l) (qs ++ c ∷ cs)) (append_assoc qs (c ∷ []) (quoted_text cs ++ 39 ∷ []))
    (subst (λ l. Reads (39 ∷ ((qs ++ c ∷ []) ++ (quoted_text cs ++ 39 ∷ []))) l) (append_assoc qs (c ∷ []) cs)
    (rest (qs ++ c ∷ []) (NonePass-append (λ q. q == 39) qs (c ∷ []) h (e, tt))))

quoted_reads : (cs qs : List ℕ) → NonePass (λ q. q == 39) qs
    → Reads (39 ∷ (qs ++ (quoted_text cs ++ 39 ∷ []))) (qs ++ cs)
quoted_reads [] qs h = between_quotes qs [] [] h no_more
quoted_reads (c ∷ cs) qs h =
    subst (λ l. Reads (39 ∷ (qs ++ (l ++ 39 ∷ []))) (qs ++ c ∷ cs)) (sym (flat_map-cons quoted_character c cs))
    (quoted_by_test c (c == 39) cs qs refl h (λ ps k. quoted_reads cs ps k))

quoted_unobeyed_by_test : (c : ℕ) (b : Bool) → is_obeyed c ≡ false
    → NonePass is_obeyed (if b then 39 ∷ 92 ∷ 39 ∷ 39 ∷ [] else c ∷ [])
quoted_unobeyed_by_test c true h = (refl, (refl, (refl, (refl, tt))))
quoted_unobeyed_by_test c false h = (h, tt)

quoted-unobeyed : (cs : List ℕ) → NonePass is_obeyed cs → NonePass is_obeyed (quoted_text cs)
quoted-unobeyed [] h = tt
quoted-unobeyed (c ∷ cs) h =
    subst (NonePass is_obeyed) (sym (flat_map-cons quoted_character c cs))
    (NonePass-append is_obeyed (quoted_character c) (quoted_text cs) (quoted_unobeyed_by_test c (c == 39) h.0)
    (quoted-unobeyed cs h.1))

-- ---- the word of a text

-- what is written of one more character
pub quotes_more : (cs : List ℕ) (c : ℕ) (old new : List ℕ) → old ≡ encode_utf8_all (39 ∷ quoted_text cs)
    → new ≡ old ++ encode_utf8_all (quoted_character c) → new ≡ encode_utf8_all (39 ∷ quoted_text (cs ++ c ∷ []))
quotes_more cs c old new before more =
    more ∙ ap (λ bytes. bytes ++ encode_utf8_all (quoted_character c)) before
    ∙ sym (encodes-append (39 ∷ quoted_text cs) (quoted_character c))
    ∙ ap (λ l. encode_utf8_all (39 ∷ l)) (flat_map_more quoted_character [] cs c)

one_quote : encode_utf8 39 ≡ encode_utf8_all (39 ∷ [])
one_quote = encode_ascii 39 (omega arith)
    ∙ sym (encodes-IsAscii (39 ∷ []) (IsAscii-cons 39 [] (omega arith) IsAscii-nil))

-- the characters of the word, behind the quote that ends it
word_characters : (word old cs : List ℕ) → IsUtf8 word → old ≡ encode_utf8_all (39 ∷ quoted_text cs)
    → word ≡ old ++ encode_utf8 39 → chars word ≡ 39 ∷ (quoted_text cs ++ 39 ∷ [])
word_characters word old cs utf8 before last =
    sym (chars_from_encodes (39 ∷ (quoted_text cs ++ 39 ∷ [])) word utf8
    (encodes-append (39 ∷ quoted_text cs) (39 ∷ [])
    ∙ sym (last ∙ ap (λ bytes. bytes ++ encode_utf8 39) before
    ∙ ap (λ bytes. encode_utf8_all (39 ∷ quoted_text cs) ++ bytes) one_quote)))

pub word_is_read : (word old cs : List ℕ) → IsUtf8 word → old ≡ encode_utf8_all (39 ∷ quoted_text cs)
    → word ≡ old ++ encode_utf8 39 → IsShellWord (chars word) cs
word_is_read word old cs utf8 before last =
    subst (λ l. IsShellWord l cs) (sym (word_characters word old cs utf8 before last))
    (record { some = λ e. search rules; reads = quoted_reads cs [] tt })

pub word_is_unobeyed : (word old cs : List ℕ) → IsUtf8 word → old ≡ encode_utf8_all (39 ∷ quoted_text cs)
    → word ≡ old ++ encode_utf8 39 → NonePass is_obeyed cs → IsUnobeyed word
word_is_unobeyed word old cs utf8 before last h =
    subst (NonePass is_obeyed) (sym (word_characters word old cs utf8 before last))
    (refl, NonePass-append is_obeyed (quoted_text cs) (39 ∷ []) (quoted-unobeyed cs h) (refl, tt))
