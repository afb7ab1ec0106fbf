-- What escaped text is made of, and that escaping text is what it is for.
use Rattle.std.proofs.Common.{rules, arith, ◌≡◌, ◌∙◌, ap, sym, refl, subst, ◌<◌, ℕ, List, [], ◌∷◌, ◌++◌, codes}
use Rattle.std.proofs.Common.{Bool, true, false, if◌then◌else◌, Option, Some, Result, Ok, Err, OnOk}
use Rattle.std.proofs.Common.{encode_utf8_all, lt_trans, lit<}
use Rattle.std.proofs.lemmas.Bool.Decides.{nat_tests}
use Rattle.std.proofs.lemmas.Fmt.{digits_is_IsNumeral}
use Rattle.std.proofs.lemmas.List.{flat_map_more}
use Rattle.std.proofs.lemmas.List.Concat.{flat_map-cons}
use Rattle.std.proofs.lemmas.Str.{encodes-append, encodes-chars, chars_from_encodes}
use Rattle.std.proofs.lemmas.Str.Ascii.{IsAscii-nil, IsAscii-cons, encodes-IsAscii}
use Rattle.std.specs.Char.{digit_value}
use Rattle.std.specs.Fmt.{AppendsText, ◌++?◌, digits}
use Rattle.std.specs.Int.{IsInRange}
use Rattle.std.specs.List.{AllByRecursion}
use Rattle.std.specs.Str.{IsAscii, IsUtf8, NonePass, chars}
use Rattle.std.specs.Str.Parse.{AllDigits}
use Rattle.gob_words.specs.Escaped.{IsUnobeyed, escape, escaped_character, escaped_text, is_obeyed}

-- ---- an escape

-- characters of ASCII that are shown
abbrev AreShown : List ℕ → Type 0
AreShown = AllByRecursion (IsInRange 32 126)

digit_shown : (d : ℕ) → digit_value d < 16 → IsInRange 32 126 d
digit_shown d h = grind (arith, nat_tests)

shown_before_brace : (ds : List ℕ) → AllDigits 16 ds → AreShown (ds ++ codes "}")
shown_before_brace [] h = (search rules, tt)
shown_before_brace (d ∷ ds) h = (digit_shown d h.0, shown_before_brace ds h.1)

-- the last character that is obeyed is U+FEFF
is_obeyed-bound : (c : ℕ) → is_obeyed c ≡ true → c < 0xff00
is_obeyed-bound c h = grind (arith, nat_tests)

escape-shown : (c : ℕ) → is_obeyed c ≡ true → AreShown (escape c)
escape-shown c h =
    let fits = lt_trans (is_obeyed-bound c h) (lit< tt) in
    let numeral = digits_is_IsNumeral 16 false (omega arith) (omega arith) c fits in
    (search rules, (search rules, (search rules, shown_before_brace (digits 16 false c) numeral.0.1)))

shown_is_ascii : (cs : List ℕ) → AreShown cs → IsAscii cs
shown_is_ascii [] h = IsAscii-nil
shown_is_ascii (c ∷ cs) h = IsAscii-cons c cs (omega (arith, h.0.1)) (shown_is_ascii cs h.1)

shown_is_unobeyed : (cs : List ℕ) → AreShown cs → NonePass is_obeyed cs
shown_is_unobeyed [] h = tt
shown_is_unobeyed (c ∷ cs) h =
    (let low = h.0.0 in let high = h.0.1 in grind (arith, nat_tests), shown_is_unobeyed cs h.1)

encodes-escape : (c : ℕ) → is_obeyed c ≡ true → encode_utf8_all (escaped_character c) ≡ escape c
encodes-escape c h = rw h (encodes-IsAscii (escape c) (shown_is_ascii (escape c) (escape-shown c h)))

-- what is written for a character that is obeyed
pub writes_escape : {E : Type 0} (r : Result (Unit {0}) E) (old new : List ℕ) (number c : ℕ) (shown : Option (List ℕ))
    → shown ≡ Some (digits 16 false number) → number ≡ c → is_obeyed c ≡ true
    → OnOk r (AppendsText old new (Some (codes "\\u{") ++? (shown ++? Some (codes "}"))))
    → OnOk r (new ≡ old ++ encode_utf8_all (escaped_character c))
writes_escape (Err e) old new number c shown is same obeyed h = tt
writes_escape (Ok x) old new number c shown is same obeyed h =
    subst (λ text. AppendsText old new (Some (codes "\\u{") ++? (text ++? Some (codes "}")))) is h
    ∙ ap (λ bytes. old ++ bytes) (ap escape same ∙ sym (encodes-escape c obeyed))

-- ---- characters

-- what is written of one more
pub escapes_more : (cs : List ℕ) (c : ℕ) (old new : List ℕ) → old ≡ encode_utf8_all (escaped_text cs)
    → new ≡ old ++ encode_utf8_all (escaped_character c) → new ≡ encode_utf8_all (escaped_text (cs ++ c ∷ []))
escapes_more cs c old new before more =
    more ∙ ap (λ bytes. bytes ++ encode_utf8_all (escaped_character c)) before
    ∙ sym (encodes-append (escaped_text cs) (escaped_character c))
    ∙ ap encode_utf8_all (flat_map_more escaped_character [] cs c)

pub NonePass-append : (p : ℕ → Bool) (cs ds : List ℕ) → NonePass p cs → NonePass p ds → NonePass p (cs ++ ds)
NonePass-append p [] ds h k = k
NonePass-append p (c ∷ cs) ds h k = (h.0, NonePass-append p cs ds h.1 k)

unobeyed_by_test : (c : ℕ) (b : Bool) → is_obeyed c ≡ b → NonePass is_obeyed (if b then escape c else c ∷ [])
unobeyed_by_test c true h = shown_is_unobeyed (escape c) (escape-shown c h)
unobeyed_by_test c false h = (h, tt)

-- none of those that are written is obeyed
escaped_text-unobeyed : (cs : List ℕ) → NonePass is_obeyed (escaped_text cs)
escaped_text-unobeyed [] = tt
escaped_text-unobeyed (c ∷ cs) =
    subst (NonePass is_obeyed) (sym (flat_map-cons escaped_character c cs))
    (NonePass-append is_obeyed (escaped_character c) (escaped_text cs) (unobeyed_by_test c (is_obeyed c) refl)
    (escaped_text-unobeyed cs))

-- where none is obeyed, they stay as they are
escaped_text-same : (cs : List ℕ) → NonePass is_obeyed cs → escaped_text cs ≡ cs
escaped_text-same [] h = refl
escaped_text-same (c ∷ cs) h =
    flat_map-cons escaped_character c cs
    ∙ ap (λ b. (if b then escape c else c ∷ []) ++ escaped_text cs) h.0
    ∙ ap (λ ds. c ∷ ds) (escaped_text-same cs h.1)

-- ---- the line of a text

pub line_is_escaped : (text line cs : List ℕ) → IsUtf8 line → cs ≡ chars text
    → line ≡ encode_utf8_all (escaped_text cs) → chars line ≡ escaped_text (chars text)
line_is_escaped text line cs utf8 all written =
    sym (chars_from_encodes (escaped_text cs) line utf8 (sym written)) ∙ ap escaped_text all

pub line_is_unobeyed : (text line : List ℕ) → chars line ≡ escaped_text (chars text) → IsUnobeyed line
line_is_unobeyed text line escaped = subst (NonePass is_obeyed) (sym escaped) (escaped_text-unobeyed (chars text))

pub line_is_unchanged : (text line : List ℕ) → IsUtf8 text → IsUtf8 line → chars line ≡ escaped_text (chars text)
    → IsUnobeyed text → line ≡ text
line_is_unchanged text line of_text of_line escaped unobeyed =
    sym (encodes-chars line of_line) ∙ ap encode_utf8_all (escaped ∙ escaped_text-same (chars text) unobeyed)
    ∙ encodes-chars text of_text
