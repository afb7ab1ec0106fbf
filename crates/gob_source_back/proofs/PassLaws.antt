-- Imports and methods, which are passed over.
use Rattle.std.proofs.Common.{◌≡◌, ◌∙◌, ℕ, suc, List, [], ◌∷◌, ◌++◌, Bool, true, false, refl, ap, sym, subst}
use Rattle.std.proofs.Common.{append_assoc, codes, drop, take, Some, None, if◌then◌else◌}
use Rattle.std.proofs.Common.{arith}
use Rattle.std.proofs.lemmas.Bool.Decides.{nat_tests}
use Rattle.std.specs.Prelude.{Option}
use Rattle.gob_types.specs.declared.id.TypeId.{TypeId}
use Rattle.gob_types.specs.declared.kind.Marshal.{Marshal}
use Rattle.gob_types.specs.declared.kind.Marshal.TheVariants as marshal
use Rattle.gob_types.specs.Table.{Table}
use Rattle.gob_source.specs.Source.{decoder_name, decoder_text, encoder_name, imports_any, imports_text}
use Rattle.gob_go_source.specs.declared.token.Mark.TheVariants as mark
use Rattle.gob_go_source.specs.declared.token.Note.{Note}
use Rattle.gob_go_source.specs.declared.token.Token.{Token}
use Rattle.gob_go_source.specs.declared.token.Token.TheVariants as token
use Rattle.gob_go_source.specs.Brackets.{depth_after}
use Rattle.gob_go_source.specs.Declarations.{behind_stop, ends_at}
use Rattle.gob_go_source.specs.Lexing.{ends_line, front, keyword, sign as sign_mark}
use Rattle.gob_go_source.specs.Scanning.{is_word_byte}
use Rattle.gob_source_back.proofs.Named.{blank_piece, sign_piece, text_piece, word_piece}
use Rattle.gob_source_back.proofs.ReadingLaws.{Reads, Takes, blank_read, keyword_read, line_passed, line_read}
use Rattle.gob_source_back.proofs.ReadingLaws.{sign_read, text_read, word_read}
use Rattle.gob_source_back.proofs.WordLaws.{blank_front, line_front, sign_front, word_text}
use Rattle.gob_source_back.proofs.Written.{IsWordText, Struct, StructsTokens, methods_then, passed_tokens}

-- ---- what is passed over

-- inside of so many brackets the text is passed over up to this rest of it, where a token before it may end a line
data Passes (rest : List ℕ) : ℕ → Bool → List ℕ → Type 0 where
  at_end : Passes rest 0 true (10 ∷ rest)
  ends_inside : {d : ℕ} {text : List ℕ} → Passes rest (suc d) false text → Passes rest (suc d) true (10 ∷ text)
  goes_on : {d : ℕ} {text : List ℕ} → Passes rest d false text → Passes rest d false (10 ∷ text)
  a_blank : {d : ℕ} {ends : Bool} (n : ℕ) {text : List ℕ}
      → front text ≡ Some (record { piece = blank_piece; len = n }) → Passes rest d ends (drop n text)
      → Passes rest d ends text
  a_sign : {d : ℕ} {ends : Bool} (b : ℕ) {text : List ℕ}
      → front (b ∷ text) ≡ Some (record { piece = sign_piece; len = 1 })
      → ends_at d (token.Mark (sign_mark b)) ≡ false
      → Passes rest (depth_after d (token.Mark (sign_mark b))) (ends_line (token.Mark (sign_mark b))) text
      → Passes rest d ends (b ∷ text)
  a_word : {d : ℕ} {ends : Bool} (w : List ℕ) (c : ℕ) (more : List ℕ) → IsWordText w → is_word_byte c ≡ false
      → Passes rest d true (c ∷ more) → Passes rest d ends (w ++ c ∷ more)
  a_keyword : {d : ℕ} {ends : Bool} (n : ℕ) {text : List ℕ}
      → front text ≡ Some (record { piece = word_piece; len = n })
      → ((note : Note) → keyword note (take n text) ≡ Some (token.Mark mark.Other))
      → Passes rest d false (drop n text) → Passes rest d ends text
  a_string : {d : ℕ} {ends : Bool} (n : ℕ) {text : List ℕ}
      → front text ≡ Some (record { piece = text_piece; len = n }) → Passes rest d true (drop n text)
      → Passes rest d ends text

record ArePassed (rest : List ℕ) (d : ℕ) (us : List Token) : Type 0 where
  behind : List Token
  is : behind_stop d us ≡ Some behind
  reads : Reads false rest behind

one_passed : {rest text : List ℕ} {us : List Token} (d : ℕ) (t : Token) → ends_at d t ≡ false
    → (k : Takes t text us) → ArePassed rest (depth_after d t) k.more → ArePassed rest d us
one_passed d t inside k r = record {
  behind = r.behind;
  is = ap (behind_stop d) k.is
      ∙ ap (λ (b : Bool). if b then Some k.more else behind_stop (depth_after d t) k.more) inside ∙ r.is;
  reads = r.reads;
}

inside : (d : ℕ) → ends_at (suc d) (token.Mark mark.Stop) ≡ false
inside d = grind (arith, nat_tests)

pass : {rest text : List ℕ} {d : ℕ} {ends : Bool} {us : List Token} → Passes rest d ends text → Reads ends text us
    → ArePassed rest d us
pass {rest = rest} at_end r =
    let k = line_read (line_front rest) r in
    record { behind = k.more; is = ap (behind_stop 0) k.is; reads = k.reads }
pass (ends_inside {d = d} {text = text} p) r =
    let k = line_read (line_front text) r in one_passed (suc d) (token.Mark mark.Stop) (inside d) k (pass p k.reads)
pass (goes_on {text = text} p) r = pass p (line_passed (line_front text) r)
pass (a_blank n e p) r = pass p (blank_read n e r)
pass (a_sign {d = d} b e inside p) r =
    let k = sign_read (sign_mark b) e refl r in one_passed d (token.Mark (sign_mark b)) inside k (pass p k.reads)
pass (a_word {d = d} w c more word other p) r =
    let k = word_read w c more word (word.fronts c more other) r in
    one_passed d (token.Name k.name) refl k.takes (pass p k.takes.reads)
pass (a_keyword {d = d} n e is p) r =
    let k = keyword_read n mark.Other e is r in one_passed d (token.Mark mark.Other) refl k (pass p k.reads)
pass (a_string {d = d} n e p) r = let k = text_read n e r in one_passed d token.Text refl k (pass p k.reads)

-- ---- methods

-- the words of methods that aren't the type's name
value_word : IsWordText (codes "value")
value_word = word_text 118 (codes "alue") refl refl (λ n. refl)

byte_word : IsWordText (codes "byte")
byte_word = word_text 98 (codes "yte") refl refl (λ n. refl)

error_word : IsWordText (codes "error")
error_word = word_text 101 (codes "rror") refl refl (λ n. refl)

nil_word : IsWordText (codes "nil")
nil_word = word_text 110 (codes "il") refl refl (λ n. refl)

data_word : IsWordText (codes "data")
data_word = word_text 100 (codes "ata") refl refl (λ n. refl)

encoder_word : (m : Marshal) → IsWordText (encoder_name m)
encoder_word marshal.Gob = word_text 71 (codes "obEncode") refl refl (λ n. refl)
encoder_word marshal.Binary = word_text 77 (codes "arshalBinary") refl refl (λ n. refl)
encoder_word marshal.Text = word_text 77 (codes "arshalText") refl refl (λ n. refl)

decoder_word : (m : Marshal) → IsWordText (decoder_name m)
decoder_word marshal.Gob = word_text 71 (codes "obDecode") refl refl (λ n. refl)
decoder_word marshal.Binary = word_text 85 (codes "nmarshalBinary") refl refl (λ n. refl)
decoder_word marshal.Text = word_text 85 (codes "nmarshalText") refl refl (λ n. refl)

-- a space in front of a word
spaced : {rest : List ℕ} {d : ℕ} {ends : Bool} (w text : List ℕ) → IsWordText w → Passes rest d ends (w ++ text)
    → Passes rest d ends (32 ∷ (w ++ text))
spaced {rest = rest} {d = d} {ends = ends} w text word p =
    subst (λ (l : List ℕ). Passes rest d ends (l ++ text) → Passes rest d ends (32 ∷ (l ++ text))) (sym word.begins)
    (λ q. a_blank 1 (blank_front 32 0 word.first (word.others ++ text) refl refl refl word.solid) q) p

encoder_passes : (rest own name : List ℕ) → IsWordText own → IsWordText name
    → Passes rest 0 false (codes " (value " ++ (own ++ (codes ") " ++ (name
    ++ (codes "() ([]byte, error) {\n\treturn []byte(value), nil\n}\n" ++ rest)))))
encoder_passes rest own name own_word name_word =
    let end = codes ", nil\n}\n" ++ rest in
    let call = codes "[]byte(value)" ++ end in
    let result = codes "() ([]byte, error) {\n\treturn " ++ call in
    let behind = codes ") " ++ (name ++ result) in
    a_blank 1 refl
    (a_sign 40 refl refl
    (a_word (codes "value") 32 (own ++ behind) value_word refl
    (spaced own behind own_word
    (a_word own 41 (32 ∷ (name ++ result)) own_word refl
    (a_sign 41 refl refl
    (spaced name result name_word
    (a_word name 40 (codes ") ([]byte, error) {\n\treturn " ++ call) name_word refl
    (a_sign 40 refl refl
    (a_sign 41 refl refl
    (a_blank 1 refl
    (a_sign 40 refl refl
    (a_sign 91 refl refl
    (a_sign 93 refl refl
    (a_word (codes "byte") 44 (codes " error) {\n\treturn " ++ call) byte_word refl
    (a_sign 44 refl refl
    (a_blank 1 refl
    (a_word (codes "error") 41 (codes " {\n\treturn " ++ call) error_word refl
    (a_sign 41 refl refl
    (a_blank 1 refl
    (a_sign 123 refl refl
    (goes_on
    (a_blank 1 refl
    (a_keyword 6 refl (λ n. refl)
    (a_blank 1 refl
    (a_sign 91 refl refl
    (a_sign 93 refl refl
    (a_word (codes "byte") 40 (codes "value)" ++ end) byte_word refl
    (a_sign 40 refl refl
    (a_word (codes "value") 41 end value_word refl
    (a_sign 41 refl refl
    (a_sign 44 refl refl
    (a_blank 1 refl
    (a_word (codes "nil") 10 (codes "}\n" ++ rest) nil_word refl
    (ends_inside
    (a_sign 125 refl refl
    at_end)))))))))))))))))))))))))))))))))))

decoder_passes : (rest own name : List ℕ) → IsWordText own → IsWordText name
    → Passes rest 0 false (codes " (value *" ++ (own ++ (codes ") " ++ (name
    ++ (codes "(data []byte) error {\n\t*value = " ++ (own ++ (codes "(data)\n\treturn nil\n}\n" ++ rest)))))))
decoder_passes rest own name own_word name_word =
    let end = codes "data)\n\treturn nil\n}\n" ++ rest in
    let set = own ++ (40 ∷ end) in
    let result = codes "(data []byte) error {\n\t*value = " ++ set in
    let behind = codes ") " ++ (name ++ result) in
    a_blank 1 refl
    (a_sign 40 refl refl
    (a_word (codes "value") 32 (42 ∷ (own ++ behind)) value_word refl
    (a_blank 1 refl
    (a_sign 42 (sign_front 42 (own ++ behind) refl refl refl) refl
    (a_word own 41 (32 ∷ (name ++ result)) own_word refl
    (a_sign 41 refl refl
    (spaced name result name_word
    (a_word name 40 (codes "data []byte) error {\n\t*value = " ++ set) name_word refl
    (a_sign 40 refl refl
    (a_word (codes "data") 32 (codes "[]byte) error {\n\t*value = " ++ set) data_word refl
    (a_blank 1 refl
    (a_sign 91 refl refl
    (a_sign 93 refl refl
    (a_word (codes "byte") 41 (codes " error {\n\t*value = " ++ set) byte_word refl
    (a_sign 41 refl refl
    (a_blank 1 refl
    (a_word (codes "error") 32 (codes "{\n\t*value = " ++ set) error_word refl
    (a_blank 1 refl
    (a_sign 123 refl refl
    (goes_on
    (a_blank 1 refl
    (a_sign 42 refl refl
    (a_word (codes "value") 32 (codes "= " ++ set) value_word refl
    (a_blank 1 refl
    (a_sign 61 refl refl
    (spaced own (40 ∷ end) own_word
    (a_word own 40 end own_word refl
    (a_sign 40 refl refl
    (a_word (codes "data") 41 (codes "\n\treturn nil\n}\n" ++ rest) data_word refl
    (a_sign 41 refl refl
    (ends_inside
    (a_blank 1 refl
    (a_keyword 6 refl (λ n. refl)
    (a_blank 1 refl
    (a_word (codes "nil") 10 (codes "}\n" ++ rest) nil_word refl
    (ends_inside
    (a_sign 125 refl refl
    at_end)))))))))))))))))))))))))))))))))))))

encoder_then : (own name rest : List ℕ)
    → (codes "\nfunc (value " ++ (own ++ (codes ") " ++ (name
    ++ codes "() ([]byte, error) {\n\treturn []byte(value), nil\n}\n")))) ++ rest
    ≡ codes "\nfunc (value " ++ (own ++ (codes ") " ++ (name
    ++ (codes "() ([]byte, error) {\n\treturn []byte(value), nil\n}\n" ++ rest))))
encoder_then own name rest = simp append_assoc

decoder_then : (own name rest : List ℕ)
    → (codes "\nfunc (value *" ++ (own ++ (codes ") " ++ (name
    ++ (codes "(data []byte) error {\n\t*value = " ++ (own ++ codes "(data)\n\treturn nil\n}\n")))))) ++ rest
    ≡ codes "\nfunc (value *" ++ (own ++ (codes ") " ++ (name
    ++ (codes "(data []byte) error {\n\t*value = " ++ (own ++ (codes "(data)\n\treturn nil\n}\n" ++ rest))))))
decoder_then own name rest = simp append_assoc

-- behind a declaration that is passed over, the others stand
abbrev Others : List Struct → List ℕ → Type 0
Others ds rest = (vs : List Token) → Reads false rest vs → StructsTokens ds vs

function_read : {ds : List Struct} {us : List Token} (rest text : List ℕ)
    → Passes rest 0 false (32 ∷ text) → Others ds rest → Reads false (codes "\nfunc " ++ text) us → StructsTokens ds us
function_read rest text p others r =
    let a = line_passed (line_front (codes "func " ++ text)) r in
    let k = keyword_read 4 mark.Func refl (λ n. refl) a in
    let b = pass p k.reads in
    passed_tokens k.is refl b.is (others b.behind b.reads)

pub methods_read : {ds : List Struct} {us : List Token} (o : Option Marshal) (own rest : List ℕ) → IsWordText own
    → Others ds rest → Reads false (methods_then o own rest) us → StructsTokens ds us
methods_read {us = us} None own rest word others r = others us r
methods_read {us = us} (Some m) own rest word others r =
    let decoder = decoder_text m own ++ rest in
    let second : Others _ decoder = (λ vs s. function_read rest _
    (decoder_passes rest own (decoder_name m) word (decoder_word m)) others
    (subst (λ (l : List ℕ). Reads false l vs) (decoder_then own (decoder_name m) rest) s)) in
    function_read decoder _ (encoder_passes decoder own (encoder_name m) word (encoder_word m)) second
    (subst (λ (l : List ℕ). Reads false l us) (encoder_then own (encoder_name m) decoder) r)

-- ---- imports

-- a package on a line, where it is imported
import_passes : {rest : List ℕ} (b : Bool) (line text : List ℕ)
    → (Passes rest 1 false text → Passes rest 1 false (line ++ text)) → Passes rest 1 false text
    → Passes rest 1 false ((if b then line else []) ++ text)
import_passes false line text add p = p
import_passes true line text add p = add p

imports_then : (a b c d rest : List ℕ)
    → (codes "\nimport (\n" ++ (a ++ (b ++ (c ++ (d ++ codes ")\n"))))) ++ rest
    ≡ codes "\nimport (\n" ++ (a ++ (b ++ (c ++ (d ++ (codes ")\n" ++ rest)))))
imports_then a b c d rest = simp append_assoc

block_read : {ds : List Struct} {us : List Token} (any big netip url time : Bool) (rest : List ℕ) → Others ds rest
    → Reads false ((if any then codes "\nimport (\n" ++ ((if big then codes "\t\"math/big\"\n" else [])
    ++ ((if netip then codes "\t\"net/netip\"\n" else []) ++ ((if url then codes "\t\"net/url\"\n" else [])
    ++ ((if time then codes "\t\"time\"\n" else []) ++ codes ")\n")))) else []) ++ rest) us → StructsTokens ds us
block_read {us = us} false big netip url time rest others r = others us r
block_read {us = us} true big netip url time rest others r =
    let end = codes ")\n" ++ rest in
    let a = (if big then codes "\t\"math/big\"\n" else []) in
    let b = (if netip then codes "\t\"net/netip\"\n" else []) in
    let c = (if url then codes "\t\"net/url\"\n" else []) in
    let d = (if time then codes "\t\"time\"\n" else []) in
    let lines = a ++ (b ++ (c ++ (d ++ end))) in
    let s = subst (λ (l : List ℕ). Reads false l us) (imports_then a b c d rest) r in
    let l = line_passed (line_front (codes "import (\n" ++ lines)) s in
    let k = keyword_read 6 mark.Import refl (λ n. refl) l in
    let q = pass (a_blank 1 refl (a_sign 40 refl refl (goes_on
    (import_passes big (codes "\t\"math/big\"\n") (b ++ (c ++ (d ++ end)))
    (λ p. a_blank 1 refl (a_string 10 refl (ends_inside p)))
    (import_passes netip (codes "\t\"net/netip\"\n") (c ++ (d ++ end))
    (λ p. a_blank 1 refl (a_string 11 refl (ends_inside p)))
    (import_passes url (codes "\t\"net/url\"\n") (d ++ end)
    (λ p. a_blank 1 refl (a_string 9 refl (ends_inside p)))
    (import_passes time (codes "\t\"time\"\n") end
    (λ p. a_blank 1 refl (a_string 6 refl (ends_inside p)))
    (a_sign 41 refl refl at_end)))))))) k.reads in
    passed_tokens k.is refl q.is (others q.behind q.reads)

pub imports_read : {ds : List Struct} {us : List Token} (T : Table) (ts : List TypeId) (rest : List ℕ)
    → Others ds rest → Reads false (imports_text T ts ++ rest) us → StructsTokens ds us
imports_read T ts rest others r = block_read (imports_any T ts) _ _ _ _ rest others r
