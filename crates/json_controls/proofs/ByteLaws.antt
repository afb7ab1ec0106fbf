-- What readers of JSON make of a byte that was escaped, and of a control character that was.
use Rattle.std.proofs.Common.{◌≡◌, ℕ, zero, suc, ◌+◌, ◌-◌, ◌<◌, ◌≤◌, Bool, true, false, cond, ◌&&◌, ◌||◌, ◌==◌, List}
use Rattle.std.proofs.Common.{[], ◌∷◌, ◌++◌, Option, Some, None, inl, inr, ◌⊎◌, refl, sym, ap, ◌∙◌, subst, arith}
use Rattle.std.proofs.Common.{append_assoc, nat_lt, nat_le}
use Rattle.std.proofs.lemmas.Bool.{cases_eq, cases_lt, ne_eqb, eqb-true, leb-true, le-ltb, and_parts, or_cases}
use Rattle.std.proofs.lemmas.Bool.{true≢false}
use Rattle.std.proofs.lemmas.List.{append-nil}
use lib.Utf8.{encode}
use Rattle.json.specs.Text.{content, plain, prepend, code_unit, short_escape}
use Rattle.json.specs.Word.{is_operator, is_space}
use Rattle.json.specs.Lex.{Lexeme, Mode, lex, lex_byte, between, in_string, operator, space, other}
use Rattle.json.specs.Print.{escape_byte}
use Rattle.json.proofs.Printed.Strings.{escape_byte_plain}
use Rattle.json_controls.specs.declared.held.HeldBack.{HeldBack}
use Rattle.json_controls.specs.declared.held.HeldBack.TheVariants as held
use Rattle.json_controls.specs.Controls.{held_bytes, is_control, code, escape_of}
use Rattle.json_controls.proofs.StepLaws.{are_small, is_small_text}

-- in a string, these bytes of a text stand for those, before any text
pub record Reads (e b : List ℕ) : Type 0 where
  pub read : (r : List ℕ) → content plain (e ++ r) ≡ prepend b (content plain r)
  pub lexed : (r : List ℕ) → lex in_string (e ++ r) ≡ lex in_string r

-- ---- one behind another

prepend_nothing : (o : Option (List ℕ)) → prepend [] o ≡ o
prepend_nothing None = refl
prepend_nothing (Some s) = refl

prepend_both : (a b : List ℕ) (o : Option (List ℕ)) → prepend a (prepend b o) ≡ prepend (a ++ b) o
prepend_both a b None = refl
prepend_both a b (Some s) = ap Some (sym (append_assoc a b s))

pub both_read : {e f a b : List ℕ} → Reads e a → Reads f b → Reads (e ++ f) (a ++ b)
both_read {e = e} {f = f} {a = a} {b = b} p q = record {
  read = λ r.
      ap (content plain) (append_assoc e f r) ∙ p.read (f ++ r) ∙ ap (prepend a) (q.read r)
      ∙ prepend_both a b (content plain r);
  lexed = λ r. ap (lex in_string) (append_assoc e f r) ∙ p.lexed (f ++ r) ∙ q.lexed r;
}

-- ---- plain bytes

stays_inside : (o s : Bool) (x : ℕ) (r : List ℕ) (k : Mode → List Lexeme)
    → lex_byte in_string (cond o operator (cond s space other)) x r k ≡ k in_string
stays_inside true s x r k = refl
stays_inside false true x r k = refl
stays_inside false false x r k = refl

pub plain_read : (x : ℕ) → (x ≡ 34 → ⊥) → (x ≡ 92 → ⊥) → 32 ≤ x → Reads (x ∷ []) (x ∷ [])
unfolding content lex
plain_read x q b l = record {
  read = λ r. rw (ne_eqb x 34 q, ne_eqb x 92 b, le-ltb x 32 l);
  lexed = λ r. rw (ne_eqb x 34 q, ne_eqb x 92 b) (stays_inside (is_operator x) (is_space x) x r (λ m. lex m r));
}

pub held_read : (h : HeldBack) → Reads (held_bytes h) (held_bytes h)
unfolding content lex
held_read held.Nothing = record { read = λ r. sym (prepend_nothing (content plain r)); lexed = λ r. refl }
held_read held.Latin = plain_read 0xc2 (λ e. omega arith) (λ e. omega arith) (omega arith)
held_read held.Arabic = plain_read 0xd8 (λ e. omega arith) (λ e. omega arith) (omega arith)
held_read held.General = plain_read 0xe2 (λ e. omega arith) (λ e. omega arith) (omega arith)
held_read held.Punctuation =
    both_read (plain_read 0xe2 (λ e. omega arith) (λ e. omega arith) (omega arith))
    (plain_read 0x80 (λ e. omega arith) (λ e. omega arith) (omega arith))
held_read held.Isolates =
    both_read (plain_read 0xe2 (λ e. omega arith) (λ e. omega arith) (omega arith))
    (plain_read 0x81 (λ e. omega arith) (λ e. omega arith) (omega arith))
held_read held.High = plain_read 0xef (λ e. omega arith) (λ e. omega arith) (omega arith)
held_read held.Forms =
    both_read (plain_read 0xef (λ e. omega arith) (λ e. omega arith) (omega arith))
    (plain_read 0xbb (λ e. omega arith) (λ e. omega arith) (omega arith))

-- ---- bytes below a bound, one by one

-- P holds below n, counted down from the top
abbrev Each : (ℕ → Type 0) → ℕ → Type 0
Each P zero = Unit {0}
Each P (suc n) = P n × Each P n

each_sound : (P : ℕ → Type 0) (n : ℕ) → Each P n → (x : ℕ) → x < n → P x
each_sound P zero h x lt = absurd (omega arith)
each_sound P (suc n) h x lt = go (each_sound P n h.1 x) (cases_eq x n)
  where
    go : (x < n → P x) → (x ≡ n) ⊎ (x ≡ n → ⊥) → P x
    go below (inl e) = subst P (sym e) h.0
    go below (inr ne) = below (omega arith)

-- ---- bytes that a writer escapes

abbrev EscapeReads : ℕ → Type 0
EscapeReads x = Reads (escape_byte x) (x ∷ [])

controls : Each EscapeReads 32
unfolding escape_byte content lex code_unit short_escape encode
controls = (
  record { read = λ r. refl; lexed = λ r. refl },
  (
    record { read = λ r. refl; lexed = λ r. refl },
    (
      record { read = λ r. refl; lexed = λ r. refl },
      (
        record { read = λ r. refl; lexed = λ r. refl },
        (
          record { read = λ r. refl; lexed = λ r. refl },
          (
            record { read = λ r. refl; lexed = λ r. refl },
            (
              record { read = λ r. refl; lexed = λ r. refl },
              (
                record { read = λ r. refl; lexed = λ r. refl },
                (
                  record { read = λ r. refl; lexed = λ r. refl },
                  (
                    record { read = λ r. refl; lexed = λ r. refl },
                    (
                      record { read = λ r. refl; lexed = λ r. refl },
                      (
                        record { read = λ r. refl; lexed = λ r. refl },
                        (
                          record { read = λ r. refl; lexed = λ r. refl },
                          (
                            record { read = λ r. refl; lexed = λ r. refl },
                            (
                              record { read = λ r. refl; lexed = λ r. refl },
                              (
                                record { read = λ r. refl; lexed = λ r. refl },
                                (
                                  record { read = λ r. refl; lexed = λ r. refl },
                                  (
                                    record { read = λ r. refl; lexed = λ r. refl },
                                    (
                                      record { read = λ r. refl; lexed = λ r. refl },
                                      (
                                        record { read = λ r. refl; lexed = λ r. refl },
                                        (
                                          record { read = λ r. refl; lexed = λ r. refl },
                                          (
                                            record { read = λ r. refl; lexed = λ r. refl },
                                            (
                                              record { read = λ r. refl; lexed = λ r. refl },
                                              (
                                                record { read = λ r. refl; lexed = λ r. refl },
                                                (
                                                  record { read = λ r. refl; lexed = λ r. refl },
                                                  (
                                                    record { read = λ r. refl; lexed = λ r. refl },
                                                    (
                                                      record { read = λ r. refl; lexed = λ r. refl },
                                                      (
                                                        record { read = λ r. refl; lexed = λ r. refl },
                                                        (
                                                          record { read = λ r. refl; lexed = λ r. refl },
                                                          (
                                                            record { read = λ r. refl; lexed = λ r. refl },
                                                            (
                                                              record { read = λ r. refl; lexed = λ r. refl },
                                                              (
                                                                record { read = λ r. refl; lexed = λ r. refl },
                                                                tt,
                                                              ),
                                                            ),
                                                          ),
                                                        ),
                                                      ),
                                                    ),
                                                  ),
                                                ),
                                              ),
                                            ),
                                          ),
                                        ),
                                      ),
                                    ),
                                  ),
                                ),
                              ),
                            ),
                          ),
                        ),
                      ),
                    ),
                  ),
                ),
              ),
            ),
          ),
        ),
      ),
    ),
  ),
)

quote_read : EscapeReads 34
unfolding escape_byte content lex short_escape
quote_read = record { read = λ r. refl; lexed = λ r. refl }

backslash_read : EscapeReads 92
unfolding escape_byte content lex short_escape
backslash_read = record { read = λ r. refl; lexed = λ r. refl }

pub byte_read : (x : ℕ) → EscapeReads x
byte_read x = go (cases_eq x 34) (cases_eq x 92) (cases_lt x 32)
  where
    go : (x ≡ 34) ⊎ (x ≡ 34 → ⊥) → (x ≡ 92) ⊎ (x ≡ 92 → ⊥) → (x < 32) ⊎ (32 ≤ x) → EscapeReads x
    go (inl e) b c = subst EscapeReads (sym e) quote_read
    go (inr q) (inl e) c = subst EscapeReads (sym e) backslash_read
    go (inr q) (inr b) (inl c) = each_sound EscapeReads 32 controls x c
    go (inr q) (inr b) (inr l) =
        subst (λ e. Reads e (x ∷ [])) (sym (escape_byte_plain x q b l)) (plain_read x q b l)

-- what a writer makes of the bytes below 127 is such bytes
abbrev small_below : ℕ → Bool
small_below zero = true
small_below (suc n) = is_small_text (escape_byte n) && small_below n

small_sound : (n : ℕ) → small_below n ≡ true → (x : ℕ) → x < n → is_small_text (escape_byte x) ≡ true
small_sound zero e x h = absurd (omega arith)
small_sound (suc n) e x h =
    let p = and_parts _ _ e in
    elim (cases_eq x n) [ inl same ↦ rw same p.0 | inr apart ↦ small_sound n p.1 x (omega arith) ]

all_small : small_below 127 ≡ true
unfolding escape_byte
all_small = refl

pub small_escape : (x : ℕ) → x < 127 → is_small_text (escape_byte x) ≡ true
small_escape x h = small_sound 127 all_small x h

-- ---- control characters

abbrev ControlReads : HeldBack → ℕ → Type 0
ControlReads h x = Reads (escape_of (code h x)) (held_bytes h ++ x ∷ [])

delete_read : ControlReads held.Nothing 0x7f
unfolding content lex code_unit encode
delete_read = record { read = λ r. refl; lexed = λ r. refl }

mark_read : ControlReads held.Arabic 0x9c
unfolding content lex code_unit encode
mark_read = record { read = λ r. refl; lexed = λ r. refl }

latin_read : Each (λ k. ControlReads held.Latin (128 + k)) 32
unfolding content lex code_unit encode
latin_read = (
  record { read = λ r. refl; lexed = λ r. refl },
  (
    record { read = λ r. refl; lexed = λ r. refl },
    (
      record { read = λ r. refl; lexed = λ r. refl },
      (
        record { read = λ r. refl; lexed = λ r. refl },
        (
          record { read = λ r. refl; lexed = λ r. refl },
          (
            record { read = λ r. refl; lexed = λ r. refl },
            (
              record { read = λ r. refl; lexed = λ r. refl },
              (
                record { read = λ r. refl; lexed = λ r. refl },
                (
                  record { read = λ r. refl; lexed = λ r. refl },
                  (
                    record { read = λ r. refl; lexed = λ r. refl },
                    (
                      record { read = λ r. refl; lexed = λ r. refl },
                      (
                        record { read = λ r. refl; lexed = λ r. refl },
                        (
                          record { read = λ r. refl; lexed = λ r. refl },
                          (
                            record { read = λ r. refl; lexed = λ r. refl },
                            (
                              record { read = λ r. refl; lexed = λ r. refl },
                              (
                                record { read = λ r. refl; lexed = λ r. refl },
                                (
                                  record { read = λ r. refl; lexed = λ r. refl },
                                  (
                                    record { read = λ r. refl; lexed = λ r. refl },
                                    (
                                      record { read = λ r. refl; lexed = λ r. refl },
                                      (
                                        record { read = λ r. refl; lexed = λ r. refl },
                                        (
                                          record { read = λ r. refl; lexed = λ r. refl },
                                          (
                                            record { read = λ r. refl; lexed = λ r. refl },
                                            (
                                              record { read = λ r. refl; lexed = λ r. refl },
                                              (
                                                record { read = λ r. refl; lexed = λ r. refl },
                                                (
                                                  record { read = λ r. refl; lexed = λ r. refl },
                                                  (
                                                    record { read = λ r. refl; lexed = λ r. refl },
                                                    (
                                                      record { read = λ r. refl; lexed = λ r. refl },
                                                      (
                                                        record { read = λ r. refl; lexed = λ r. refl },
                                                        (
                                                          record { read = λ r. refl; lexed = λ r. refl },
                                                          (
                                                            record { read = λ r. refl; lexed = λ r. refl },
                                                            (
                                                              record { read = λ r. refl; lexed = λ r. refl },
                                                              (
                                                                record { read = λ r. refl; lexed = λ r. refl },
                                                                tt,
                                                              ),
                                                            ),
                                                          ),
                                                        ),
                                                      ),
                                                    ),
                                                  ),
                                                ),
                                              ),
                                            ),
                                          ),
                                        ),
                                      ),
                                    ),
                                  ),
                                ),
                              ),
                            ),
                          ),
                        ),
                      ),
                    ),
                  ),
                ),
              ),
            ),
          ),
        ),
      ),
    ),
  ),
)

wide_read : Each (λ k. ControlReads held.Punctuation (139 + k)) 5
unfolding content lex code_unit encode
wide_read = (
  record { read = λ r. refl; lexed = λ r. refl },
  (
    record { read = λ r. refl; lexed = λ r. refl },
    (
      record { read = λ r. refl; lexed = λ r. refl },
      (record { read = λ r. refl; lexed = λ r. refl }, (record { read = λ r. refl; lexed = λ r. refl }, tt)),
    ),
  ),
)

line_read : Each (λ k. ControlReads held.Punctuation (168 + k)) 7
unfolding content lex code_unit encode
line_read = (
  record { read = λ r. refl; lexed = λ r. refl },
  (
    record { read = λ r. refl; lexed = λ r. refl },
    (
      record { read = λ r. refl; lexed = λ r. refl },
      (
        record { read = λ r. refl; lexed = λ r. refl },
        (
          record { read = λ r. refl; lexed = λ r. refl },
          (
            record { read = λ r. refl; lexed = λ r. refl },
            (record { read = λ r. refl; lexed = λ r. refl }, tt),
          ),
        ),
      ),
    ),
  ),
)

isolate_read : Each (λ k. ControlReads held.Isolates (166 + k)) 4
unfolding content lex code_unit encode
isolate_read = (
  record { read = λ r. refl; lexed = λ r. refl },
  (
    record { read = λ r. refl; lexed = λ r. refl },
    (record { read = λ r. refl; lexed = λ r. refl }, (record { read = λ r. refl; lexed = λ r. refl }, tt)),
  ),
)

order_read : ControlReads held.Forms 0xbf
unfolding content lex code_unit encode
order_read = record { read = λ r. refl; lexed = λ r. refl }

in_range : (P : ℕ → Type 0) (low n x : ℕ) → Each (λ k. P (low + k)) n → low ≤ x → x < low + n → P x
in_range P low n x h a b =
    let is : low + (x - low) ≡ x = omega arith in subst P is (each_sound (λ k. P (low + k)) n h (x - low) (omega arith))

pub control_read : (h : HeldBack) (x : ℕ) → is_control h x ≡ true → ControlReads h x
control_read held.Nothing x e = subst (ControlReads held.Nothing) (sym (eqb-true x 0x7f e)) delete_read
control_read held.Latin x e =
    let p = and_parts _ _ e in
    let low = leb-true 0x80 x p.0 in
    let high = leb-true x 0x9f p.1 in
    in_range (ControlReads held.Latin) 128 32 x latin_read (omega arith) (omega arith)
control_read held.Arabic x e = subst (ControlReads held.Arabic) (sym (eqb-true x 0x9c e)) mark_read
control_read held.General x e = absurd (true≢false (sym e))
control_read held.Punctuation x e = by (or_cases (nat_le 0x8b x && nat_le x 0x8f) _ e)
  where
    by : ((nat_le 0x8b x && nat_le x 0x8f) ≡ true) ⊎ ((nat_le 0xa8 x && nat_le x 0xae) ≡ true)
        → ControlReads held.Punctuation x
    by (inl e) =
        let p = and_parts _ _ e in
        let low = leb-true 0x8b x p.0 in
        let high = leb-true x 0x8f p.1 in
        in_range (ControlReads held.Punctuation) 139 5 x wide_read (omega arith) (omega arith)
    by (inr e) =
        let p = and_parts _ _ e in
        let low = leb-true 0xa8 x p.0 in
        let high = leb-true x 0xae p.1 in
        in_range (ControlReads held.Punctuation) 168 7 x line_read (omega arith) (omega arith)
control_read held.Isolates x e =
    let p = and_parts _ _ e in
    let low = leb-true 0xa6 x p.0 in
    let high = leb-true x 0xa9 p.1 in
    in_range (ControlReads held.Isolates) 166 4 x isolate_read (omega arith) (omega arith)
control_read held.High x e = absurd (true≢false (sym e))
control_read held.Forms x e = subst (ControlReads held.Forms) (sym (eqb-true x 0xbf e)) order_read
