-- Names as they are shown.
use Rattle.std.proofs.Common.{◌≡◌, ℕ, suc, ◌+◌, ◌<◌, List, [], ◌∷◌, ◌++◌, Bool, true, false, if◌then◌else◌, codes}
use Rattle.std.proofs.Common.{take, get_or, refl, sym, ap, ◌∙◌, append_assoc, append-nil, arith, encode_utf8_all}
use Rattle.std.proofs.Common.{◌-◌, ◌≤◌, length, min, nat_lt, slice_get}
use Rattle.std.proofs.lemmas.Bool.Decides.{nat_tests}
use Rattle.std.proofs.lemmas.List.{flat_map_more, take_more}
use Rattle.std.proofs.lemmas.Str.{IsUtf8-from_is_utf8, encodes-chars, is_utf8-from_IsUtf8}
use Rattle.std.proofs.Math.Seq.{take-length}
use Rattle.std.specs.Fmt.{decimal}
use Rattle.std.specs.Prelude.{OnOk, Result, Ok, Err}
use Rattle.std.specs.Result.{is_ok}
use Rattle.std.specs.List.{flat_map}
use Rattle.std.specs.Str.{IsUtf8, chars, is_utf8}
use Rattle.gob_words.specs.Escaped.{escaped_text}
use Rattle.gob_types.specs.declared.kind.Field.{Field}
use Rattle.gob_explain.specs.Awaited.{delta_texts, deltas_text}
use Rattle.gob_explain.specs.Names.{byte_text, field_name, known_or, shown_name}

chosen : (test : Bool) (d e : List ℕ) → test ≡ true → (if test then d else e) ≡ d
chosen true d e h = refl
chosen false d e h = cc

not_chosen : (test : Bool) (d e : List ℕ) → (test ≡ true → ⊥) → (if test then d else e) ≡ e
not_chosen true d e h = absurd (h refl)
not_chosen false d e h = refl

-- a name that is text, escaped in a line
pub name_of_text : (name text line : List ℕ) → IsUtf8 name → text ≡ name → IsUtf8 line
    → chars line ≡ escaped_text (chars text) → line ≡ shown_name name
name_of_text name text line utf8 same of_line e =
    sym (encodes-chars line of_line) ∙ ap encode_utf8_all (e ∙ ap (λ (t : List ℕ). escaped_text (chars t)) same)
    ∙ sym (chosen (is_utf8 name) (encode_utf8_all (escaped_text (chars name))) (codes "0x" ++ flat_map byte_text name)
    (is_utf8-from_IsUtf8 name utf8))

pub name_of_bytes : (name : List ℕ) → ¬ IsUtf8 name → shown_name name ≡ codes "0x" ++ flat_map byte_text name
name_of_bytes name n =
    not_chosen (is_utf8 name) (encode_utf8_all (escaped_text (chars name))) (codes "0x" ++ flat_map byte_text name)
    (λ e. n (IsUtf8-from_is_utf8 name e))

-- ---- texts one behind another
pub texts_begin : {X : Type 0} (text : X → List ℕ) (xs : List X) (old : List ℕ) → old ≡ old ++ flat_map text (take 0 xs)
texts_begin text xs old = sym (append-nil old)

pub texts_more : {X : Type 0} (text : X → List ℕ) (xs : List X) (i : ℕ) (x d : X) (old mid new : List ℕ)
    → i < length xs → x ≡ get_or xs i d → mid ≡ old ++ flat_map text (take i xs) → new ≡ mid ++ text x
    → new ≡ old ++ flat_map text (take (i + 1) xs)
texts_more text xs i x d old mid new l is e f =
    f ∙ ap (λ (t : List ℕ). t ++ text x) e ∙ append_assoc old (flat_map text (take i xs)) (text x)
    ∙ ap (λ (t : List ℕ). old ++ t) (flat_map_more text [] (take i xs) x
    ∙ ap (flat_map text) (ap (λ y. take i xs ++ y ∷ []) is ∙ sym (take_more xs i d l)))

pub bytes_shown : (name old new : List ℕ) (i : ℕ) → ¬ IsUtf8 name → i ≡ length name
    → new ≡ (old ++ codes "0x") ++ flat_map byte_text (take i name) → new ≡ old ++ shown_name name
bytes_shown name old new i n is e =
    let all : take i name ≡ name = ap (λ (n : ℕ). take n name) is ∙ take-length name in
    e ∙ ap (λ (l : List ℕ). (old ++ codes "0x") ++ flat_map byte_text l) all
    ∙ append_assoc old (codes "0x") (flat_map byte_text name)
    ∙ ap (λ (l : List ℕ). old ++ l) (sym (name_of_bytes name n))

pub texts_all : {X : Type 0} (text : X → List ℕ) (xs : List X) (old new : List ℕ) (i : ℕ) → i ≡ length xs
    → new ≡ old ++ flat_map text (take i xs) → new ≡ old ++ flat_map text xs
texts_all text xs old new i is e =
    e ∙ ap (λ (n : ℕ). old ++ flat_map text (take n xs)) is
    ∙ ap (λ l. old ++ flat_map text l) (take-length xs)

-- ---- names of types
pub known_kept : (known other : List ℕ) → 0 < length known → known_or known other ≡ known
known_kept [] other l = absurd (omega arith)
known_kept (c ∷ known) other l = refl

pub known_none : (known other : List ℕ) → length known ≡ 0 → known_or known other ≡ other
known_none [] other e = refl
known_none (c ∷ known) other e = absurd (omega arith)

-- ---- deltas
pub deltas_begin : (fields : List Field) (next : ℕ) (old : List ℕ) → old ≡ old ++ delta_texts fields next 0
unfolding delta_texts
deltas_begin fields next old = sym (append-nil old)

pub delta_more : (fields : List Field) (next i number delta : ℕ) (old mid new : List ℕ) → number ≡ next + i
    → delta ≡ i + 1 → mid ≡ old ++ delta_texts fields next i
    → new ≡ mid ++ (codes ", " ++ (decimal delta ++ (codes " for " ++ field_name (slice_get fields number))))
    → new ≡ old ++ delta_texts fields next (i + 1)
unfolding delta_texts
delta_more fields next i number delta old mid new is_number is_delta e f =
    let text = λ (d n : ℕ). codes ", " ++ (decimal d ++ (codes " for " ++ field_name (slice_get fields n))) in
    let one : suc i ≡ i + 1 = omega arith in
    f ∙ ap (λ (n : ℕ). mid ++ text delta n) is_number ∙ ap (λ (d : ℕ). mid ++ text d (next + i)) is_delta
    ∙ ap (λ (l : List ℕ). l ++ text (i + 1) (next + i)) e
    ∙ append_assoc old (delta_texts fields next i) (text (i + 1) (next + i))
    ∙ ap (λ (n : ℕ). old ++ delta_texts fields next n) one

-- ---- a name that is added
pub name_added : {E : Type 0} (r : Result (Unit {0}) E) (old new shown name line : List ℕ) → shown ≡ line
    → line ≡ shown_name name → new ≡ (if is_ok r then old ++ shown else old) → OnOk r (new ≡ old ++ shown_name name)
name_added (Ok u) old new shown name line e f h = h ∙ ap (λ (l : List ℕ). old ++ l) (e ∙ f)
name_added (Err x) old new shown name line e f h = tt

not_above : (n : ℕ) → n ≤ 8 → nat_lt 8 n ≡ true → ⊥
not_above n l e = grind (arith, nat_tests)

deltas_so : (fields : List Field) (count left next i most : ℕ) (old new : List ℕ) → count ≡ length fields
    → left ≡ min most count → next ≡ count - left → i ≡ min left 8
    → new ≡ (old ++ codes "0, which ends the struct") ++ delta_texts fields next i
    → new ≡ old ++ (codes "0, which ends the struct" ++ delta_texts fields (length fields - min most (length fields))
    (min (min most (length fields)) 8))
deltas_so fields count left next i most old new is_count is_left is_next is_end e =
    let all = min most (length fields) in
    let same : left ≡ all = is_left ∙ ap (λ (n : ℕ). min most n) is_count in
    let begin : next ≡ length fields - all = omega (arith, is_next, is_count, same) in
    let end : i ≡ min all 8 = is_end ∙ ap (λ (n : ℕ). min n 8) same in
    let words = codes "0, which ends the struct" in
    e ∙ append_assoc old words (delta_texts fields next i)
    ∙ ap (λ (n : ℕ). old ++ (words ++ delta_texts fields n i)) begin
    ∙ ap (λ (n : ℕ). old ++ (words ++ delta_texts fields (length fields - all) n)) end

pub few_deltas : (fields : List Field) (count left next i most : ℕ) (old new : List ℕ) → count ≡ length fields
    → left ≡ min most count → next ≡ count - left → i ≡ min left 8 → left ≤ 8
    → new ≡ (old ++ codes "0, which ends the struct") ++ delta_texts fields next i
    → new ≡ old ++ deltas_text fields (min most (length fields))
few_deltas fields count left next i most old new is_count is_left is_next is_end few e =
    let all = min most (length fields) in
    let begin = codes "0, which ends the struct" ++ delta_texts fields (length fields - all) (min all 8) in
    let none = not_chosen (nat_lt 8 all) (codes " ..") [] (not_above all (omega (arith, is_left, is_count))) in
    deltas_so fields count left next i most old new is_count is_left is_next is_end e
    ∙ ap (λ (l : List ℕ). old ++ l) (sym (append-nil begin) ∙ ap (λ (l : List ℕ). begin ++ l) (sym none))
