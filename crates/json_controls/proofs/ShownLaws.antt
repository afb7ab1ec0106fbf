-- What is read in a text that a writer of tokens wrote is read in it as it is shown.
use Rattle.std.proofs.Common.{◌≡◌, ℕ, zero, suc, ◌+◌, ◌<◌, ◌≤◌, Bool, true, false, cond, ◌&&◌, List, [], ◌∷◌, ◌++◌}
use Rattle.std.proofs.Common.{Option, Some, None, inl, inr, ◌⊎◌, refl, sym, ap, ap₂, ◌∙◌, subst, arith, append_assoc}
use Rattle.std.proofs.lemmas.Bool.{cases_Bool, cases_lt, true≢false}
use Rattle.std.proofs.lemmas.List.{append-nil}
use Rattle.json.specs.Token.{Token, begin_object, end_object, begin_array, end_array, key, string, number, boolean}
use Rattle.json.specs.Token.{null, bad}
use Rattle.json.specs.Text.{content, plain, prepend}
use Rattle.json.specs.Word.{ends_word, word}
use Rattle.json.specs.Lex.{Lexeme, token, comma, colon, string_token, lex, between, in_string, Place, fresh}
use Rattle.json.specs.Lex.{punctuate, tokens}
use Rattle.json.specs.Print.{escape_byte, escape, quoted, token_text, begins, ends, separator, print_from, print}
use Rattle.json.specs.Print.{IsPrintable, ArePrintable}
use Rattle.json.proofs.Printed.Strings.{escape_byte_plain, content-escape, lex-escape}
use Rattle.json.proofs.Printed.Numbers.{lex-number, in_word-ended}
use Rattle.json.proofs.Printed.Tokens.{tokens-print}
use Rattle.json_controls.specs.declared.held.HeldBack.{HeldBack}
use Rattle.json_controls.specs.declared.held.HeldBack.TheVariants as held
use Rattle.json_controls.specs.Controls.{held_bytes, is_control, code, next, is_nothing, escape_of, shown}
use Rattle.json_controls.proofs.StepLaws.{shown_control, shown_copied, shown_held, small_shown, next_bytes}
use Rattle.json_controls.proofs.StepLaws.{nothing_is, smalls_shown, text_shown}
use Rattle.json_controls.proofs.ByteLaws.{Reads, both_read, plain_read, held_read, byte_read, small_escape}
use Rattle.json_controls.proofs.ByteLaws.{control_read}
use Rattle.json.specs.Json.{Json}
use Rattle.json.specs.Tree.{json_tokens}
use Rattle.json_controls.proofs.NumberLaws.{number_small}
use Rattle.json_controls.proofs.TokenLaws.{json_printable}

-- ---- strings

-- the rest of a string, in which s is escaped, reads as those bytes that are held back and s, and ends where it ended
pub record ReadsRest (h : HeldBack) (s r : List ℕ) : Type 0 where
  pub read : content plain (shown h (escape s ++ 34 ∷ r)) ≡ Some (held_bytes h ++ s)
  pub lexed : lex in_string (shown h (escape s ++ 34 ∷ r)) ≡ lex between (shown held.Nothing r)

-- bytes that stand for others stand before a rest
rest_behind : {e b : List ℕ} (h : HeldBack) (s t r : List ℕ) (rest : List ℕ) → Reads e b
    → shown h (escape s ++ 34 ∷ r) ≡ e ++ rest → content plain rest ≡ Some t → b ++ t ≡ held_bytes h ++ s
    → lex in_string rest ≡ lex between (shown held.Nothing r) → ReadsRest h s r
rest_behind {e = e} {b = b} h s t r rest reads is c same l = record {
  read = ap (content plain) is ∙ reads.read rest ∙ ap (prepend b) c ∙ ap Some same;
  lexed = ap (lex in_string) is ∙ reads.lexed rest ∙ l;
}

string_ends : (h : HeldBack) (r : List ℕ) → ReadsRest h [] r
unfolding content lex
string_ends h r =
    rest_behind h [] [] r (34 ∷ shown held.Nothing r) (held_read h) (small_shown h 34 r (omega arith)) refl refl refl

string_goes_on : (x : ℕ) (s : List ℕ) (h : HeldBack) (r : List ℕ) → ((k : HeldBack) → ReadsRest k s r)
    → ReadsRest h (x ∷ s) r
string_goes_on x s h r behind_it = by (cases_lt x 127)
  where
    rest : List ℕ
    rest = escape s ++ 34 ∷ r

    opened : escape (x ∷ s) ++ 34 ∷ r ≡ escape_byte x ++ rest
    opened = append_assoc (escape_byte x) (escape s) (34 ∷ r)

    -- behind nothing that is held back
    after : ReadsRest held.Nothing s r
    after = behind_it held.Nothing

    behind : {e b : List ℕ} → Reads e b → shown h (escape_byte x ++ rest) ≡ e ++ shown held.Nothing rest
        → b ++ s ≡ held_bytes h ++ x ∷ s → ReadsRest h (x ∷ s) r
    behind reads is same = rest_behind h (x ∷ s) s r (shown held.Nothing rest) reads (ap (shown h) opened
        ∙ is) after.read same after.lexed

    one : shown h (escape_byte x ++ rest) ≡ shown h (escape_byte x ++ rest)
    one = refl

    large : 127 ≤ x → (is_control h x ≡ true) ⊎ (is_control h x ≡ false)
        → (is_nothing (next h x) ≡ true) ⊎ (is_nothing (next h x) ≡ false) → ReadsRest h (x ∷ s) r
    large l (inl c) n =
        behind (control_read h x c)
        (ap (λ e. shown h (e ++ rest)) (escape_byte_plain x (λ e. omega arith) (λ e. omega arith) (omega arith))
        ∙ shown_control h x rest c)
        (append_assoc (held_bytes h) (x ∷ []) s)
    large l (inr c) (inl n) =
        behind (both_read (held_read h) (plain_read x (λ e. omega arith) (λ e. omega arith) (omega arith)))
        (ap (λ e. shown h (e ++ rest)) (escape_byte_plain x (λ e. omega arith) (λ e. omega arith) (omega arith))
        ∙ shown_copied h x rest c (nothing_is (next h x) n)
        ∙ sym (append_assoc (held_bytes h) (x ∷ []) (shown held.Nothing rest)))
        (append_assoc (held_bytes h) (x ∷ []) s)
    large l (inr c) (inr n) =
        let on = behind_it (next h x) in
        let is : shown h (escape (x ∷ s) ++ 34 ∷ r) ≡ shown (next h x) rest =
        ap (shown h) opened ∙ ap (λ e. shown h (e ++ rest)) (escape_byte_plain x (λ e. omega arith) (λ e. omega arith)
        (omega arith))
        ∙ shown_held h x rest c n in record {
          read = ap (content plain) is ∙ on.read
              ∙ ap Some (ap (λ l. l ++ s) (next_bytes h x n) ∙ append_assoc (held_bytes h) (x ∷ []) s);
          lexed = ap (lex in_string) is ∙ on.lexed;
        }

    by : (x < 127) ⊎ (127 ≤ x) → ReadsRest h (x ∷ s) r
    by (inl l) =
        behind (both_read (held_read h) (byte_read x))
        (text_shown h (escape_byte x) rest (small_escape x l)
        ∙ sym (append_assoc (held_bytes h) (escape_byte x) (shown held.Nothing rest)))
        (append_assoc (held_bytes h) (x ∷ []) s)
    by (inr l) = large l (cases_Bool (is_control h x)) (cases_Bool (is_nothing (next h x)))

pub string_reads : (s : List ℕ) (h : HeldBack) (r : List ℕ) → ReadsRest h s r
string_reads [] h r = string_ends h r
string_reads (x ∷ s) h r = string_goes_on x s h r (λ k. string_reads s k r)

lex_quoted : (s r : List ℕ) → lex between (quoted s ++ r) ≡ token (string s) ∷ lex between r
unfolding lex
lex_quoted s r =
    ap (λ l. lex between (34 ∷ l)) (append_assoc (escape s) (34 ∷ []) r)
    ∙ ap₂ (λ o l. token (string_token o) ∷ l) (content-escape s r) (lex-escape s r)

lex_shown_quoted : (s r : List ℕ) → lex between (shown held.Nothing (quoted s ++ r)) ≡ token (string s) ∷ lex between
    (shown held.Nothing r)
unfolding lex
lex_shown_quoted s r =
    let on = string_reads s held.Nothing r in
    ap (λ l. lex between (34 ∷ shown held.Nothing l)) (append_assoc (escape s) (34 ∷ []) r)
    ∙ ap₂ (λ o l. token (string_token o) ∷ l) on.read on.lexed

-- ---- tokens

-- both texts begin with the same lexemes and go on so
abbrev SameLexemes : List ℕ → Type 0
SameLexemes t = lex between (shown held.Nothing t) ≡ lex between t

-- after a value stands a comma, a closing bracket or nothing
ends_shown : (ts : List Token) → ends_word (shown held.Nothing (print_from true ts)) ≡ true
unfolding print_from
ends_shown [] = refl
ends_shown (begin_object ∷ ts) = refl
ends_shown (end_object ∷ ts) = refl
ends_shown (begin_array ∷ ts) = refl
ends_shown (end_array ∷ ts) = refl
ends_shown (key s ∷ ts) = refl
ends_shown (string s ∷ ts) = refl
ends_shown (number s ∷ ts) = refl
ends_shown (boolean b ∷ ts) = refl
ends_shown (null ∷ ts) = refl
ends_shown (bad ∷ ts) = refl

ends_printed : (ts : List Token) → ends_word (print_from true ts) ≡ true
unfolding print_from
ends_printed [] = refl
ends_printed (begin_object ∷ ts) = refl
ends_printed (end_object ∷ ts) = refl
ends_printed (begin_array ∷ ts) = refl
ends_printed (end_array ∷ ts) = refl
ends_printed (key s ∷ ts) = refl
ends_printed (string s ∷ ts) = refl
ends_printed (number s ∷ ts) = refl
ends_printed (boolean b ∷ ts) = refl
ends_printed (null ∷ ts) = refl
ends_printed (bad ∷ ts) = refl

token_same : (t : Token) (r : List ℕ) → IsPrintable t → (ends t ≡ true → ends_word r ≡ true)
    → (ends t ≡ true → ends_word (shown held.Nothing r) ≡ true) → SameLexemes r → SameLexemes (token_text t ++ r)
unfolding lex word
token_same begin_object r p e f h = ap (λ l. token begin_object ∷ l) h
token_same end_object r p e f h = ap (λ l. token end_object ∷ l) h
token_same begin_array r p e f h = ap (λ l. token begin_array ∷ l) h
token_same end_array r p e f h = ap (λ l. token end_array ∷ l) h
token_same (key s) r p e f h =
    ap (λ l. lex between (shown held.Nothing l)) (append_assoc (quoted s) (58 ∷ []) r) ∙ lex_shown_quoted s (58 ∷ r)
    ∙ ap (λ l. token (string s) ∷ colon ∷ l) h ∙ sym (lex_quoted s (58 ∷ r))
    ∙ ap (lex between) (sym (append_assoc (quoted s) (58 ∷ []) r))
token_same (string s) r p e f h =
    lex_shown_quoted s r ∙ ap (λ l. token (string s) ∷ l) h ∙ sym (lex_quoted s r)
token_same (number s) r p e f h =
    ap (lex between) (smalls_shown s r (number_small s p)) ∙ lex-number s (shown held.Nothing r) p (f refl)
    ∙ ap (λ l. token (number s) ∷ l) h ∙ sym (lex-number s r p (e refl))
token_same (boolean true) r p e f h =
    ap₂ (λ b l. token (cond b (boolean true) bad) ∷ l) (f refl ∙ sym (e refl))
    (in_word-ended (shown held.Nothing r) (f refl) ∙ h ∙ sym (in_word-ended r (e refl)))
token_same (boolean false) r p e f h =
    ap₂ (λ b l. token (cond b (boolean false) bad) ∷ l) (f refl ∙ sym (e refl))
    (in_word-ended (shown held.Nothing r) (f refl) ∙ h ∙ sym (in_word-ended r (e refl)))
token_same null r p e f h =
    ap₂ (λ b l. token (cond b null bad) ∷ l) (f refl ∙ sym (e refl))
    (in_word-ended (shown held.Nothing r) (f refl) ∙ h ∙ sym (in_word-ended r (e refl)))
token_same bad r p e f h = absurd p

separator_same : (b : Bool) (r : List ℕ) → SameLexemes r → SameLexemes (cond b (44 ∷ []) [] ++ r)
unfolding lex
separator_same true r h = ap (λ l. comma ∷ l) h
separator_same false r h = h

printed_same : (c : Bool) (ts : List Token) → ArePrintable ts → SameLexemes (print_from c ts)
unfolding lex print_from ArePrintable
printed_same c [] h = refl
printed_same c (t ∷ ts) h =
    separator_same (c && begins t) _
    (token_same t (print_from (ends t) ts) h.0 (λ e. ap (λ b. ends_word (print_from b ts)) e ∙ ends_printed ts)
    (λ e. ap (λ b. ends_word (shown held.Nothing (print_from b ts))) e ∙ ends_shown ts) (printed_same (ends t) ts h.1))

pub shown_reads : (text : List ℕ) (j : Json) → text ≡ print (json_tokens j) → tokens text ≡ json_tokens j
    → tokens (shown held.Nothing text) ≡ json_tokens j
shown_reads text j is read =
    let p = json_printable text j read in
    ap (λ l. tokens (shown held.Nothing l)) is ∙ ap (punctuate fresh) (printed_same false (json_tokens j) p)
    ∙ tokens-print (json_tokens j) p
