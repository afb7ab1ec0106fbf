-- Words that source has, and the fronts of texts.
use Rattle.std.proofs.Common.{subst, sym, ◌≡◌, ◌∙◌, ℕ, zero, suc, ◌+◌, ◌<◌, ◌≤◌, ◌%◌, ◌^◌, List, [], ◌∷◌, ◌++◌}
use Rattle.std.proofs.Common.{Bool, true, false, refl, ap, arith, codes, decimal, drop, length, replicate, Some, None}
use Rattle.std.proofs.Common.{◌&&◌, nat_eq, ◌==◌}
use Rattle.std.proofs.lemmas.Bool.Decides.{nat_tests}
use Rattle.std.proofs.lemmas.Fmt.{decimal_by_steps, decimal_nonempty}
use Rattle.std.specs.Char.{is_ascii_digit}
use Rattle.std.specs.List.{list_all, starts_with}
use Rattle.std.specs.Prelude.{Option}
use Rattle.gob_go_source.specs.declared.token.Note.{Note}
use Rattle.gob_go_source.specs.Lexing.{front, keyword, of_length, piece_of, scan_of}
use Rattle.gob_go_source.specs.Notes.{marshal_of}
use Rattle.gob_go_source.specs.Scanning.{end_of, is_blank, is_letter_byte, is_word_byte}
use Rattle.gob_types.specs.declared.kind.Marshal.{Marshal}
use Rattle.gob_types.specs.declared.kind.Marshal.TheVariants as marshal
use Rattle.gob_source.specs.Source.{marshal_text}
use Rattle.gob_source_back.proofs.Written.{IsQuiet, IsWordText, encoding, stays}
use Rattle.gob_source_back.proofs.Named.{Piece, blank_piece, blank_scan, comment_piece, digits_scan, line_piece}
use Rattle.gob_source_back.proofs.Named.{line_scan, no_scan, number_piece, sign_piece, word_piece, word_scan}

-- ---- tests

pub both_true : (a b : Bool) → (a && b) ≡ true → (a ≡ true) × (b ≡ true)
both_true true b h = (refl, h)
both_true false b h = cc

-- ---- words

pub end_word : (bs : List ℕ) (c : ℕ) (rest : List ℕ) → list_all is_word_byte bs ≡ true → is_word_byte c ≡ false
    → end_of word_scan (bs ++ c ∷ rest) ≡ Some (length bs)
end_word [] c rest all e = rw e refl
end_word (b ∷ bs) c rest all e =
    let h = both_true (is_word_byte b) (list_all is_word_byte bs) all in
    rw (h.0, end_word bs c rest h.1 e) (ap (λ (k : ℕ). Some k) (omega arith))

single_front : (b : ℕ) (text : List ℕ) → (b == 47) ≡ false → (b == 60) ≡ false
    → front (b ∷ text) ≡ of_length (piece_of b) 1 (end_of (scan_of b (piece_of b)) text)
single_front b [] e f = refl
single_front b (c ∷ cs) e f = rw (e, f) refl

letter_piece : (b : ℕ) → is_letter_byte b ≡ true → piece_of b ≡ word_piece
letter_piece b h = rw (blank, end, digit, h) refl
  where
    blank : is_blank b ≡ false
    blank = grind (arith, nat_tests)

    end : (b == 10) ≡ false
    end = grind (arith, nat_tests)

    digit : is_ascii_digit b ≡ false
    digit = grind (arith, nat_tests)

pub word_text : (b : ℕ) (bs : List ℕ) → is_letter_byte b ≡ true → list_all is_word_byte bs ≡ true
    → ((n : Note) → keyword n (b ∷ bs) ≡ None) → IsWordText (b ∷ bs)
word_text b bs letter all none = record {
  fronts = fronts;
  no_keyword = none;
  first = b;
  others = bs;
  begins = refl;
  solid = blank;
}
  where
    slash : (b == 47) ≡ false
    slash = grind (arith, nat_tests)

    less : (b == 60) ≡ false
    less = grind (arith, nat_tests)

    blank : is_blank b ≡ false
    blank = grind (arith, nat_tests)

    fronts : (c : ℕ) (rest : List ℕ) → is_word_byte c ≡ false
        → front (b ∷ (bs ++ c ∷ rest)) ≡ Some (record { piece = word_piece; len = suc (length bs) })
    fronts c rest e =
        single_front b (bs ++ c ∷ rest) slash less
        ∙ ap (λ (p : Piece). of_length p 1 (end_of (scan_of b p) (bs ++ c ∷ rest))) (letter_piece b letter)
        ∙ ap (of_length word_piece 1) (end_word bs c rest all e)
        ∙ ap (λ (k : ℕ). Some (record { piece = word_piece; len = k })) (omega arith)

-- ---- signs and spaces

pub sign_front : (b : ℕ) (text : List ℕ) → (b == 47) ≡ false → (b == 60) ≡ false → piece_of b ≡ sign_piece
    → front (b ∷ text) ≡ Some (record { piece = sign_piece; len = 1 })
sign_front b text e f s =
    single_front b text e f ∙ ap (λ (p : Piece). of_length p 1 (end_of (scan_of b p) text)) s ∙ by text
  where
    by : (text : List ℕ) → of_length sign_piece 1 (end_of no_scan text) ≡ Some (record { piece = sign_piece; len = 1 })
    by [] = refl
    by (c ∷ cs) = refl

pub line_front : (rest : List ℕ) → front (10 ∷ rest) ≡ Some (record { piece = line_piece; len = 1 })
line_front [] = refl
line_front (c ∷ cs) = refl

pub end_spaces : (n c : ℕ) (rest : List ℕ) → is_blank c ≡ false
    → end_of blank_scan (replicate n 32 ++ c ∷ rest) ≡ Some n
end_spaces zero c rest e = rw e refl
end_spaces (suc n) c rest e = rw (end_spaces n c rest e) (ap (λ (k : ℕ). Some k) (omega arith))

-- a tab or a space, and spaces behind it
pub blank_front : (b n c : ℕ) (rest : List ℕ) → (b == 47) ≡ false → (b == 60) ≡ false → piece_of b ≡ blank_piece
    → is_blank c ≡ false
    → front (b ∷ (replicate n 32 ++ c ∷ rest)) ≡ Some (record { piece = blank_piece; len = suc n })
blank_front b n c rest e f blank solid =
    single_front b (replicate n 32 ++ c ∷ rest) e f
    ∙ ap (λ (p : Piece). of_length p 1 (end_of (scan_of b p) (replicate n 32 ++ c ∷ rest))) blank
    ∙ ap (of_length blank_piece 1) (end_spaces n c rest solid)
    ∙ ap (λ (k : ℕ). Some (record { piece = blank_piece; len = k })) (omega arith)

pub drop_spaces : (n : ℕ) (rest : List ℕ) → drop n (replicate n 32 ++ rest) ≡ rest
drop_spaces zero rest = refl
drop_spaces (suc n) rest = drop_spaces n rest

-- ---- comments

pub are_digits : (n : ℕ) → n < 2 ^ 64 → list_all is_ascii_digit (decimal n) ≡ true
are_digits n small = decimal_by_steps (λ n ds. list_all is_ascii_digit ds ≡ true) one more n small
  where
    digit : (n : ℕ) → n < 10 → is_ascii_digit (48 + n) ≡ true
    digit n h = grind (arith, nat_tests)

    behind : (ds : List ℕ) (c : ℕ) → list_all is_ascii_digit ds ≡ true → is_ascii_digit c ≡ true
        → list_all is_ascii_digit (ds ++ c ∷ []) ≡ true
    behind [] c all h = rw h refl
    behind (d ∷ ds) c all h =
        let both = both_true (is_ascii_digit d) (list_all is_ascii_digit ds) all in
        rw (both.0, behind ds c both.1 h) refl

    one : (n : ℕ) → n < 10 → list_all is_ascii_digit ((48 + n) ∷ []) ≡ true
    one n h = rw (digit n h) refl

    more : (n : ℕ) (ds : List ℕ) → 10 ≤ n → list_all is_ascii_digit ds ≡ true
        → list_all is_ascii_digit (ds ++ ((48 + n % 10) ∷ [])) ≡ true
    more n ds h all = behind ds (48 + n % 10) all (digit (n % 10) (omega arith))

end_line : (cs rest : List ℕ) → list_all stays cs ≡ true → end_of line_scan (cs ++ 10 ∷ rest) ≡ Some (length cs)
end_line [] rest all = refl
end_line (c ∷ cs) rest all =
    let h = both_true (stays c) (list_all stays cs) all in
    rw (h.0, end_line cs rest h.1) (ap (λ (k : ℕ). Some k) (omega arith))

pub comment_front : (cs rest : List ℕ) → list_all stays cs ≡ true
    → front (codes "// type " ++ (cs ++ 10 ∷ rest))
    ≡ Some (record { piece = comment_piece; len = length (codes "// type " ++ cs) })
comment_front cs rest all =
    rw (end_line cs rest all) (ap (λ (k : ℕ). Some (record { piece = comment_piece; len = k })) (omega arith))

-- the id of a type, and how that encodes itself, stand on one line
pub comment_stays : (n : ℕ) → n < 2 ^ 64 → (m : Option Marshal) → list_all stays (decimal n ++ encoding m) ≡ true
comment_stays n small m = by (decimal n) (are_digits n small)
  where
    digit : (d : ℕ) → is_ascii_digit d ≡ true → stays d ≡ true
    digit d h = grind (arith, nat_tests)

    behind : (m : Option Marshal) → list_all stays (encoding m) ≡ true
    behind None = refl
    behind (Some marshal.Gob) = refl
    behind (Some marshal.Binary) = refl
    behind (Some marshal.Text) = refl

    by : (ds : List ℕ) → list_all is_ascii_digit ds ≡ true → list_all stays (ds ++ encoding m) ≡ true
    by [] all = behind m
    by (d ∷ ds) all =
        let h = both_true (is_ascii_digit d) (list_all is_ascii_digit ds) all in
        ap (λ (b : Bool). b && list_all stays (ds ++ encoding m)) (digit d h.0) ∙ by ds h.1

-- the id ends in front of the words behind it
pub digits_end : (m : Marshal) (ds : List ℕ) → list_all is_ascii_digit ds ≡ true
    → end_of (digits_scan []) (ds ++ marshal_text m) ≡ Some (length ds)
digits_end marshal.Gob [] all = refl
digits_end marshal.Binary [] all = refl
digits_end marshal.Text [] all = refl
digits_end m (d ∷ ds) all =
    let h = both_true (is_ascii_digit d) (list_all is_ascii_digit ds) all in
    rw (h.0, digits_end m ds h.1) (ap (λ (k : ℕ). Some k) (omega arith))

pub marshal_said : (m : Marshal) → marshal_of (marshal_text m) ≡ Some m
marshal_said marshal.Gob = refl
marshal_said marshal.Binary = refl
marshal_said marshal.Text = refl

no_comma : (ds : List ℕ) → list_all is_ascii_digit ds ≡ true → (ws : List ℕ) → starts_with nat_eq ds (44 ∷ ws) ≡ false
no_comma [] all ws = refl
no_comma (d ∷ ds) all ws = rw (other d (both_true (is_ascii_digit d) (list_all is_ascii_digit ds) all).0) refl
  where
    other : (d : ℕ) → is_ascii_digit d ≡ true → nat_eq 44 d ≡ false
    other d h = grind (arith, nat_tests)

-- digits say nothing of how a type encodes itself
pub no_marshal : (ds : List ℕ) → list_all is_ascii_digit ds ≡ true → (size : ℕ) → marshal_of (drop size ds) ≡ None
no_marshal ds all zero = rw (no_comma ds all _, no_comma ds all _, no_comma ds all _) refl
no_marshal [] all (suc size) = refl
no_marshal (d ∷ ds) all (suc size) =
    no_marshal ds (both_true (is_ascii_digit d) (list_all is_ascii_digit ds) all).1 size

-- ---- other comments

quiet_begun : (more rest : List ℕ) → list_all stays more ≡ true
    → front (47 ∷ 47 ∷ (more ++ 10 ∷ rest))
    ≡ Some (record { piece = comment_piece; len = suc (suc (length more)) })
quiet_begun more rest all =
    rw (end_line more rest all) (ap (λ (k : ℕ). Some (record { piece = comment_piece; len = k })) (omega arith))

pub quiet_front : (c rest : List ℕ) → IsQuiet c
    → front (c ++ 10 ∷ rest) ≡ Some (record { piece = comment_piece; len = length c })
quiet_front c rest q =
    subst (λ (l : List ℕ). front (l ++ 10 ∷ rest) ≡ Some (record { piece = comment_piece; len = length l })) (sym q.is)
    (quiet_begun q.more rest q.whole)

-- ---- numbers

digit_words : (ds : List ℕ) → list_all is_ascii_digit ds ≡ true → list_all is_word_byte ds ≡ true
digit_words [] all = refl
digit_words (d ∷ ds) all =
    let h = both_true (is_ascii_digit d) (list_all is_ascii_digit ds) all in
    rw (of_word d h.0, digit_words ds h.1) refl
  where
    of_word : (d : ℕ) → is_ascii_digit d ≡ true → is_word_byte d ≡ true
    of_word d h = grind (arith, nat_tests)

pub number_words : (n : ℕ) → n < 2 ^ 64 → list_all is_word_byte (decimal n) ≡ true
number_words n small = digit_words (decimal n) (are_digits n small)

digits_front : (ds : List ℕ) (c : ℕ) (rest : List ℕ) → 0 < length ds → list_all is_ascii_digit ds ≡ true
    → is_word_byte c ≡ false
    → front (ds ++ c ∷ rest) ≡ Some (record { piece = number_piece; len = length ds })
digits_front [] c rest some all e = absurd (omega arith)
digits_front (d ∷ ds) c rest some all e =
    let h = both_true (is_ascii_digit d) (list_all is_ascii_digit ds) all in
    single_front d (ds ++ c ∷ rest) (slash d h.0) (less d h.0)
    ∙ ap (λ (p : Piece). of_length p 1 (end_of (scan_of d p) (ds ++ c ∷ rest))) (digit_piece d h.0)
    ∙ ap (of_length number_piece 1) (end_word ds c rest (digit_words ds h.1) e)
    ∙ ap (λ (k : ℕ). Some (record { piece = number_piece; len = k })) (omega arith)
  where
    slash : (d : ℕ) → is_ascii_digit d ≡ true → (d == 47) ≡ false
    slash d h = grind (arith, nat_tests)

    less : (d : ℕ) → is_ascii_digit d ≡ true → (d == 60) ≡ false
    less d h = grind (arith, nat_tests)

    no_blank : (d : ℕ) → is_ascii_digit d ≡ true → is_blank d ≡ false
    no_blank d h = grind (arith, nat_tests)

    no_end : (d : ℕ) → is_ascii_digit d ≡ true → (d == 10) ≡ false
    no_end d h = grind (arith, nat_tests)

    digit_piece : (d : ℕ) → is_ascii_digit d ≡ true → piece_of d ≡ number_piece
    digit_piece d h = rw (no_blank d h, no_end d h, h) refl

pub number_front : (n : ℕ) (rest : List ℕ) → n < 2 ^ 64
    → front (decimal n ++ 93 ∷ rest) ≡ Some (record { piece = number_piece; len = length (decimal n) })
number_front n rest small =
    digits_front (decimal n) 93 rest (decimal_nonempty n small) (are_digits n small) refl
