-- The names that source gives types: Go has no other use for them.
use Rattle.std.proofs.Common.{◌≡◌, ◌∙◌, ℕ, ◌<◌, ◌^◌, List, [], ◌∷◌, ◌++◌, Bool, true, false, refl, ap, sym, arith}
use Rattle.std.proofs.Common.{codes, decimal, length, not, None, ◌==◌, ◌&&◌, ◌||◌, if◌then◌else◌}
use Rattle.std.proofs.lemmas.Fmt.{decimal_nonempty}
use Rattle.std.proofs.lemmas.Slice.Eq.{bytes_eq-Decides}
use Rattle.std.specs.Char.{is_ascii_digit}
use Rattle.std.specs.List.{list_all, list_any}
use Rattle.std.specs.Prelude.{option_map}
use Rattle.std.specs.Str.{bytes_eq}
use Rattle.gob_types.specs.declared.id.TypeId.{TypeId}
use Rattle.gob_types.specs.Table.{Table}
use Rattle.gob_source.specs.Names.{is_identifier, is_numbered, is_reserved, is_taken, own_name, reserved}
use Rattle.gob_go_source.specs.declared.token.Note.{Note}
use Rattle.gob_go_source.specs.declared.token.Token.TheVariants as token
use Rattle.gob_go_source.specs.Lexing.{keyword, other_keywords}
use Rattle.gob_go_source.specs.Scanning.{is_letter_byte, is_word_byte}
use Rattle.gob_source_back.proofs.WordLaws.{are_digits, both_true, word_text}
use Rattle.gob_source_back.proofs.Written.{IsWordText}

-- ---- reserved words

-- it begins with a T, or has an underline and a digit, as each name that is made with an id
abbrev is_made : List ℕ → Bool
is_made [] = false
is_made (c ∷ cs) = (c == 84) || (list_any (λ b. b == 95) (c ∷ cs) && list_any is_ascii_digit (c ∷ cs))

-- a name among words that are all so is so
among_words : (P : List ℕ → Bool) (name : List ℕ) (words : List (List ℕ)) → list_all P words ≡ true
    → list_any (λ word. bytes_eq word name) words ≡ true → P name ≡ true
among_words P name [] all one = cc
among_words P name (w ∷ ws) all one =
    let h = both_true (P w) (list_all P ws) all in
    by (bytes_eq w name) refl one h.0 (λ e. among_words P name ws h.1 e)
  where
    by : (b : Bool) → bytes_eq w name ≡ b → (b || list_any (λ word. bytes_eq word name) ws) ≡ true → P w ≡ true
        → (list_any (λ word. bytes_eq word name) ws ≡ true → P name ≡ true) → P name ≡ true
    by true same one here go = ap P (sym ((bytes_eq-Decides w name).0 same)) ∙ here
    by false same one here go = go one

made_free : (name : List ℕ) → is_made name ≡ true → is_reserved name ≡ false
made_free name made = by (is_reserved name) refl
  where
    by : (b : Bool) → is_reserved name ≡ b → is_reserved name ≡ false
    by false e = e
    by true e =
        let other = among_words (λ w. not (is_made w)) name reserved refl e in
        let k = sym other ∙ ap not made in cc

pub either_true : (a b : Bool) → b ≡ true → (a || b) ≡ true
either_true true b e = refl
either_true false b e = e

pub any_behind : (P : ℕ → Bool) (xs ys : List ℕ) → list_any P ys ≡ true → list_any P (xs ++ ys) ≡ true
any_behind P [] ys e = e
any_behind P (x ∷ xs) ys e = either_true (P x) (list_any P (xs ++ ys)) (any_behind P xs ys e)

first_digit : (ds : List ℕ) → 0 < length ds → list_all is_ascii_digit ds ≡ true → list_any is_ascii_digit ds ≡ true
first_digit [] some all = absurd (omega arith)
first_digit (d ∷ ds) some all =
    ap (λ (b : Bool). b || list_any is_ascii_digit ds)
    (both_true (is_ascii_digit d) (list_all is_ascii_digit ds) all).0

numbered_made : (name : List ℕ) (n : ℕ) → n < 2 ^ 64 → is_made (name ++ (codes "_" ++ decimal n)) ≡ true
numbered_made name n small =
    by name (any_behind (λ b. b == 95) name (codes "_" ++ decimal n) refl)
    (any_behind is_ascii_digit name (codes "_" ++ decimal n)
    (first_digit (decimal n) (decimal_nonempty n small) (are_digits n small)))
  where
    by : (xs : List ℕ) → list_any (λ b. b == 95) (xs ++ (codes "_" ++ decimal n)) ≡ true
        → list_any is_ascii_digit (xs ++ (codes "_" ++ decimal n)) ≡ true
        → is_made (xs ++ (codes "_" ++ decimal n)) ≡ true
    by [] line digit = digit
    by (x ∷ xs) line digit =
        either_true (x == 84) (list_any (λ b. b == 95) (x ∷ xs ++ (codes "_" ++ decimal n))
        && list_any is_ascii_digit (x ∷ xs ++ (codes "_" ++ decimal n)))
        (ap (λ (b : Bool). b && list_any is_ascii_digit (x ∷ xs ++ (codes "_" ++ decimal n))) line ∙ digit)

-- source gives no type a name for which Go has another use
pub own_free : (T : Table) (ts : List TypeId) (t : TypeId) (name : List ℕ) → t.0 < 2 ^ 64
    → is_reserved (own_name T ts t name) ≡ false
own_free T ts t name small = by (is_identifier name) (is_reserved name) refl
  where
    numbered : List ℕ
    numbered = name ++ (codes "_" ++ decimal t.0)

    kept : (b : Bool) → is_reserved name ≡ false → is_reserved (if b then numbered else name) ≡ false
    kept true e = made_free numbered (numbered_made name t.0 small)
    kept false e = e

    by : (b c : Bool) → is_reserved name ≡ c
        → is_reserved (if b then (if c || (is_numbered name || is_taken T ts t name) then numbered else name)
        else codes "T" ++ decimal t.0) ≡ false
    by false c e = made_free (codes "T" ++ decimal t.0) refl
    by true true e = made_free numbered (numbered_made name t.0 small)
    by true false e = kept (is_numbered name || is_taken T ts t name) e

-- ---- keywords

unlike : (v w : List ℕ) → is_reserved v ≡ true → is_reserved w ≡ false → bytes_eq v w ≡ false
unlike v w is free = by (bytes_eq v w) refl
  where
    by : (b : Bool) → bytes_eq v w ≡ b → bytes_eq v w ≡ false
    by false e = e
    by true e = let k = sym is ∙ ap is_reserved ((bytes_eq-Decides v w).0 e) ∙ free in cc

-- no declared name is one of these
pub no_name : (v w : List ℕ) → is_reserved v ≡ false → is_reserved w ≡ true → bytes_eq v w ≡ false
no_name v w free is = by (bytes_eq v w) refl
  where
    by : (b : Bool) → bytes_eq v w ≡ b → bytes_eq v w ≡ false
    by false e = e
    by true e = let k = sym free ∙ ap is_reserved ((bytes_eq-Decides v w).0 e) ∙ is in cc

none_of : (words : List (List ℕ)) (w : List ℕ) → list_all is_reserved words ≡ true → is_reserved w ≡ false
    → list_any (λ word. bytes_eq word w) words ≡ false
none_of [] w all free = refl
none_of (v ∷ vs) w all free =
    let h = both_true (is_reserved v) (list_all is_reserved vs) all in
    ap (λ (b : Bool). b || list_any (λ word. bytes_eq word w) vs) (unlike v w h.0 free) ∙ none_of vs w h.1 free

skipped : {A : Type 0} (b : Bool) (x y : A) → b ≡ false → (if b then x else y) ≡ y
skipped false x y e = refl
skipped true x y e = cc

no_keyword : (w : List ℕ) → is_reserved w ≡ false → (n : Note) → keyword n w ≡ None
no_keyword w free n =
    skipped _ _ _ (unlike (codes "type") w refl free)
    ∙ ap (option_map (λ m. token.Mark m)) (skipped _ _ _ (unlike (codes "package") w refl free)
    ∙ skipped _ _ _ (unlike (codes "import") w refl free) ∙ skipped _ _ _ (unlike (codes "func") w refl free)
    ∙ skipped _ _ _ (unlike (codes "struct") w refl free) ∙ skipped _ _ _ (unlike (codes "map") w refl free)
    ∙ skipped _ _ _ (unlike (codes "interface") w refl free) ∙ skipped _ _ _ (unlike (codes "chan") w refl free)
    ∙ skipped _ _ _ (none_of other_keywords w refl free))

-- letters and digits, no digit first
abbrev pub is_word_name : List ℕ → Bool
is_word_name [] = false
is_word_name (b ∷ bs) = is_letter_byte b && list_all is_word_byte bs

-- such a name is a word
pub free_word : (w : List ℕ) → is_word_name w ≡ true → is_reserved w ≡ false → IsWordText w
free_word [] h free = cc
free_word (b ∷ bs) h free =
    let both = both_true (is_letter_byte b) (list_all is_word_byte bs) h in
    word_text b bs both.0 both.1 (no_keyword (b ∷ bs) free)
