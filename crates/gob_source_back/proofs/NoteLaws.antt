-- Names that are registered, as comments.
use Rattle.std.proofs.Common.{◌≡◌, ◌∙◌, ℕ, zero, suc, ◌+◌, ◌/◌, ◌%◌, ◌<◌, List, [], ◌∷◌, ◌++◌, Bool, true, false, refl}
use Rattle.std.proofs.Common.{ap, sym, subst, append_assoc, arith, codes, map, Some, None, if◌then◌else◌, ◌==◌, ◌&&◌}
use Rattle.std.proofs.Common.{nat_eq, nat_le, not}
use Rattle.std.proofs.lemmas.Bool.Decides.{nat_tests}
use Rattle.std.specs.List.{list_all, starts_with}
use Rattle.std.specs.Prelude.{Option, nat_lt}
use Rattle.gob_types.proofs.PublicLaws.{some_injective}
use Rattle.gob_source.specs.Names.{digit, escaped, escaped_byte, is_printed}
use Rattle.gob_source.specs.Registered.{Naming, is_go_name, names_text}
use Rattle.gob_source.specs.Source.{basic_naming_text, basic_namings, basic_text}
use Rattle.gob_go_source.specs.Notes.{note_head}
use Rattle.gob_source_back.proofs.WordLaws.{both_true}
use Rattle.gob_source_back.proofs.Written.{AreQuiet, IsQuiet, more_quiet, none_quiet, notes_then, remarks_text, stays}

-- ---- no byte ends a line

all_stay : (xs ys : List ℕ) → list_all stays xs ≡ true → list_all stays ys ≡ true → list_all stays (xs ++ ys) ≡ true
all_stay [] ys a b = b
all_stay (x ∷ xs) ys a b =
    let h = both_true (stays x) (list_all stays xs) a in
    ap (λ (t : Bool). t && list_all stays (xs ++ ys)) h.0 ∙ all_stay xs ys h.1 b

large_stays : (m : ℕ) → nat_le 11 m ≡ true → stays m ≡ true
large_stays m h = grind (arith, nat_tests)

printed_large : (m : ℕ) → nat_le 32 m ≡ true → nat_le 11 m ≡ true
printed_large m h = grind (arith, nat_tests)

above : (k n : ℕ) → nat_le 11 k ≡ true → nat_le 11 (k + n) ≡ true
above k n h = grind (arith, nat_tests)

digit_stays : (n : ℕ) → stays (digit n) ≡ true
digit_stays n = by (nat_lt n 10)
  where
    by : (b : Bool) → stays (if b then 48 + n else 87 + n) ≡ true
    by true = large_stays (48 + n) (above 48 n refl)
    by false = large_stays (87 + n) (above 87 n refl)

byte_stays : (c : ℕ) → list_all stays (escaped_byte c) ≡ true
byte_stays c = by (is_printed c) refl
  where
    by : (b : Bool) → is_printed c ≡ b
        → list_all stays (if b then c ∷ [] else 92 ∷ 120 ∷ digit (c / 16) ∷ digit (c % 16) ∷ []) ≡ true
    by true e =
        let h = both_true (nat_le 32 c) (nat_le c 126 && not (c == 92)) e in
        ap (λ (t : Bool). t && true) (large_stays c (printed_large c h.0))
    by false e =
        ap (λ (t : Bool). t && (stays (digit (c % 16)) && true)) (digit_stays (c / 16))
        ∙ ap (λ (t : Bool). t && true) (digit_stays (c % 16))

escaped_stays : (cs : List ℕ) → list_all stays (escaped cs) ≡ true
escaped_stays [] = refl
escaped_stays (c ∷ cs) = all_stay (escaped_byte c) (escaped cs) (byte_stays c) (escaped_stays cs)

-- ---- the names of a declared type

abbrev pub named_line : List ℕ → List ℕ
named_line name = codes "// registered as " ++ escaped name

named_quiet : (name : List ℕ) → IsQuiet (named_line name)
named_quiet name = record {
  more = codes " registered as " ++ escaped name;
  is = refl;
  whole = all_stay (codes " registered as ") (escaped name) refl (escaped_stays name);
  other = refl;
}

pub names_quiet : (names : List (List ℕ)) → AreQuiet (map named_line names)
names_quiet [] = none_quiet
names_quiet (n ∷ ns) = more_quiet (named_quiet n) (names_quiet ns)

pub names_are : (names : List (List ℕ)) (rest : List ℕ)
    → names_text names ++ rest ≡ notes_then (map named_line names) rest
names_are [] rest = refl
names_are (n ∷ ns) rest = ap (λ (l : List ℕ). 10 ∷ l)
    (append_assoc (named_line n) (names_text ns) rest ∙ ap (λ (l : List ℕ). named_line n ++ l) (names_are ns rest))

-- ---- those of basic types

abbrev basic_line : (basic name : List ℕ) → List ℕ
basic_line basic name = codes "// " ++ (basic ++ (codes " is registered as " ++ escaped name))

abbrev remark : Option (List ℕ) → (name : List ℕ) → List (List ℕ)
remark None name = []
remark (Some basic) name = if is_go_name name then [] else basic_line basic name ∷ []

abbrev pub remarks : List Naming → List (List ℕ)
remarks [] = []
remarks (p ∷ ps) = remark (basic_text p.0.0) p.1 ++ remarks ps

basic_then : (basic text rest : List ℕ)
    → (codes "\n// " ++ (basic ++ (codes " is registered as " ++ (text ++ codes "\n")))) ++ rest
    ≡ 10 ∷ ((codes "// " ++ (basic ++ (codes " is registered as " ++ text))) ++ (10 ∷ rest))
basic_then basic text rest = simp append_assoc

remark_is : (o : Option (List ℕ)) (name rest : List ℕ) (cs : List (List ℕ)) → rest ≡ remarks_text cs
    → basic_naming_text o name ++ rest ≡ remarks_text (remark o name ++ cs)
remark_is None name rest cs e = e
remark_is (Some basic) name rest cs e = by (is_go_name name)
  where
    by : (b : Bool) → (if b then [] else codes "\n// " ++ (basic ++ (codes " is registered as "
        ++ (escaped name ++ codes "\n")))) ++ rest
        ≡ remarks_text ((if b then [] else basic_line basic name ∷ []) ++ cs)
    by true = e
    by false = basic_then basic (escaped name) rest
        ∙ ap (λ (l : List ℕ). 10 ∷ (basic_line basic name ++ (10 ∷ l))) e

pub remarks_are : (ps : List Naming) → basic_namings ps ≡ remarks_text (remarks ps)
remarks_are [] = refl
remarks_are (p ∷ ps) =
    remark_is (basic_text p.0.0) p.1 (basic_namings ps) (remarks ps) (remarks_are ps)

line_quiet : (basic : List ℕ) → list_all stays basic ≡ true
    → ((rest : List ℕ) → starts_with nat_eq (codes "// " ++ (basic ++ rest)) note_head ≡ false) → (name : List ℕ)
    → IsQuiet (basic_line basic name)
line_quiet basic all other name = record {
  more = 32 ∷ (basic ++ (codes " is registered as " ++ escaped name));
  is = refl;
  whole = all_stay basic (codes " is registered as " ++ escaped name) all
      (all_stay (codes " is registered as ") (escaped name) refl (escaped_stays name));
  other = other (codes " is registered as " ++ escaped name);
}

pub no_basic : (n : ℕ) → 8 < n → basic_text n ≡ None
no_basic n large = simp (
  other 1 refl,
  other 2 refl,
  other 3 refl,
  other 4 refl,
  other 5 refl,
  other 6 refl,
  other 7 refl,
  other 8 refl,
) refl
  where
    other : (k : ℕ) → nat_le k 8 ≡ true → (n == k) ≡ false
    other k small = grind (arith, nat_tests)

named_quiet_of : {a b : List ℕ} (name : List ℕ) → Some a ≡ Some b → IsQuiet (basic_line a name)
    → IsQuiet (basic_line b name)
named_quiet_of name e q = subst (λ (b : List ℕ). IsQuiet (basic_line b name)) (some_injective e) q

basic_quiet : (n : ℕ) (basic name : List ℕ) → basic_text n ≡ Some basic → IsQuiet (basic_line basic name)
basic_quiet zero basic name e = cc
basic_quiet (suc zero) basic name e =
    named_quiet_of name e (line_quiet (codes "bool") refl (λ rest. refl) name)
basic_quiet (suc (suc zero)) basic name e =
    named_quiet_of name e (line_quiet (codes "int") refl (λ rest. refl) name)
basic_quiet (suc (suc (suc zero))) basic name e =
    named_quiet_of name e (line_quiet (codes "uint") refl (λ rest. refl) name)
basic_quiet (suc (suc (suc (suc zero)))) basic name e =
    named_quiet_of name e (line_quiet (codes "float64") refl (λ rest. refl) name)
basic_quiet (suc (suc (suc (suc (suc zero))))) basic name e =
    named_quiet_of name e (line_quiet (codes "[]byte") refl (λ rest. refl) name)
basic_quiet (suc (suc (suc (suc (suc (suc zero)))))) basic name e =
    named_quiet_of name e (line_quiet (codes "string") refl (λ rest. refl) name)
basic_quiet (suc (suc (suc (suc (suc (suc (suc zero))))))) basic name e =
    named_quiet_of name e (line_quiet (codes "complex128") refl (λ rest. refl) name)
basic_quiet (suc (suc (suc (suc (suc (suc (suc (suc zero)))))))) basic name e =
    named_quiet_of name e (line_quiet (codes "interface{}") refl (λ rest. refl) name)
basic_quiet (suc (suc (suc (suc (suc (suc (suc (suc (suc n))))))))) basic name e =
    let none = no_basic (suc (suc (suc (suc (suc (suc (suc (suc (suc n))))))))) (omega arith) in
    let k = sym none ∙ e in cc

remark_quiet : (n : ℕ) (o : Option (List ℕ)) → basic_text n ≡ o → (name : List ℕ) {cs : List (List ℕ)} → AreQuiet cs
    → AreQuiet (remark o name ++ cs)
remark_quiet n None e name q = q
remark_quiet n (Some basic) e name {cs = cs} q = by (is_go_name name)
  where
    by : (b : Bool) → AreQuiet ((if b then [] else basic_line basic name ∷ []) ++ cs)
    by true = q
    by false = more_quiet (basic_quiet n basic name e) q

pub remarks_quiet : (ps : List Naming) → AreQuiet (remarks ps)
remarks_quiet [] = none_quiet
remarks_quiet (p ∷ ps) = remark_quiet p.0.0 (basic_text p.0.0) refl p.1 (remarks_quiet ps)
