-- Lines one behind another.
use Rattle.std.proofs.Common.{◌≡◌, ℕ, zero, suc, ◌+◌, ◌-◌, ◌*◌, ◌<◌, ◌≤◌, List, [], zero-add, codes}
use Rattle.std.proofs.Common.{◌∷◌, ◌++◌, length, take, drop, refl, sym, ap}
use Rattle.std.proofs.Common.{◌∙◌, get_or}
use Rattle.std.proofs.Common.{subst, append_assoc, length-append, length-drop, arith}
use Rattle.std.proofs.Common.{Bool, true, false, ◌==◌}
use Rattle.std.proofs.lemmas.Bool.Decides.{nat_tests}
use Rattle.std.proofs.lemmas.List.{take_more}
use Rattle.std.specs.Fmt.{decimal}
use Rattle.std.specs.Prelude.{OnOk, Result, Ok, Err}
use Rattle.gob_explain.specs.Column.{ColumnIs, HasLineAdded, byte_lines, count_line, hex_column, hex_text}
use Rattle.gob_explain.specs.Column.{Meaning, line_behind, line_text, lines_below, no_line, offset_text, saturated}
use Rattle.gob_explain.specs.Column.{spaces}
use Rattle.gob_explain.proofs.RowLaws.{append_nil}

-- ---- spaces
pub spaces_join : (m n : ℕ) → spaces (m + n) ≡ spaces m ++ spaces n
unfolding spaces
spaces_join zero n = ap spaces (zero-add n)
spaces_join (suc m) n =
    let e : suc m + n ≡ suc (m + n) = omega arith in ap spaces e ∙ ap (λ (l : List ℕ). 32 ∷ l) (spaces_join m n)

pub no_spaces : (text : List ℕ) → text ≡ text ++ spaces 0
unfolding spaces
no_spaces text = sym (append_nil text)

pub more_spaces : (old mid new gap : List ℕ) (m n all : ℕ) → mid ≡ old ++ spaces m → gap ≡ spaces n
    → new ≡ mid ++ gap → all ≡ m + n → new ≡ old ++ spaces all
more_spaces old mid new gap m n all e is f sum =
    f ∙ ap (λ (l : List ℕ). l ++ gap) e ∙ append_assoc old (spaces m) gap
    ∙ ap (λ (l : List ℕ). old ++ l) (ap (λ (l : List ℕ). spaces m ++ l) is ∙ sym (spaces_join m n)
    ∙ ap spaces (sym sum))

pub two : 32 ∷ 32 ∷ [] ≡ spaces 2
unfolding spaces
two = refl

pub three : 32 ∷ 32 ∷ 32 ∷ [] ≡ spaces 3
unfolding spaces
three = refl

-- ---- bytes in hexadecimal
pub hex_join : (a b : List ℕ) → hex_column (a ++ b) ≡ hex_column a ++ hex_column b
unfolding hex_column
hex_join [] b = refl
hex_join (x ∷ a) b = ap (λ (l : List ℕ). hex_text x ++ l) (hex_join a b)
    ∙ sym (append_assoc (hex_text x) (hex_column a) (hex_column b))

hex_one : (b : ℕ) → hex_column (b ∷ []) ≡ hex_text b
unfolding hex_column
hex_one b = append_nil (hex_text b)

pub bytes_begin : (old new : List ℕ) (offset : ℕ) (bytes : List ℕ) → new ≡ old ++ offset_text offset
    → new ≡ old ++ (offset_text offset ++ hex_column (take 0 bytes))
unfolding hex_column
bytes_begin old new offset bytes e = e ∙ ap (λ (l : List ℕ). old ++ l) (sym (append_nil (offset_text offset)))

pub bytes_more : (old mid new : List ℕ) (offset i : ℕ) (bytes : List ℕ) → i < length bytes
    → mid ≡ old ++ (offset_text offset ++ hex_column (take i bytes)) → new ≡ mid ++ hex_text (get_or bytes i 0)
    → new ≡ old ++ (offset_text offset ++ hex_column (take (i + 1) bytes))
bytes_more old mid new offset i bytes l e f =
    let b = get_or bytes i 0 in
    let column = hex_column (take i bytes) in
    let all : hex_column (take (i + 1) bytes) ≡ column ++ hex_text b =
    ap (λ (l : List ℕ). hex_column l) (take_more bytes i 0 l) ∙ hex_join (take i bytes) (b ∷ [])
    ∙ ap (λ (l : List ℕ). column ++ l) (hex_one b) in
    f ∙ ap (λ (l : List ℕ). l ++ hex_text b) e ∙ append_assoc old (offset_text offset ++ column) (hex_text b)
    ∙ ap (λ (l : List ℕ). old ++ l) (append_assoc (offset_text offset) column (hex_text b)
    ∙ ap (λ (l : List ℕ). offset_text offset ++ l) (sym all))

-- ---- bytes that there are or aren't
pub none_by_test : (n : ℕ) (b : Bool) → b ≡ (n == 0) → b ≡ true → n ≡ 0
none_by_test n b e f = grind (arith, nat_tests)

pub some_by_test : (n : ℕ) (b : Bool) → b ≡ (n == 0) → b ≡ false → 0 < n
some_by_test n b e f = grind (arith, nat_tests)

-- ---- lines of bytes alone
byte_lines_none : (most offset : ℕ) (bytes : List ℕ) → length bytes ≡ 0 → byte_lines most offset bytes ≡ []
unfolding byte_lines
byte_lines_none most offset [] e = refl
byte_lines_none most offset (b ∷ bytes) e = absurd (omega arith)

byte_lines_next : (most offset : ℕ) (bytes : List ℕ) → 0 < length bytes
    → byte_lines (suc most) offset bytes ≡ offset_text offset ++ (hex_column (take 8 bytes)
    ++ (10 ∷ byte_lines most (saturated (offset + length (take 8 bytes))) (drop 8 bytes)))
unfolding byte_lines
byte_lines_next most offset [] l = absurd (omega arith)
byte_lines_next most offset (b ∷ bytes) l = refl

-- what is left of the lines, of which there are so many at most
pub record IsShownUpTo (most begin : ℕ) (bytes old now : List ℕ) (offset : ℕ) (rest : List ℕ) : Type 0 where
  pub left : ℕ
  pub fits : length rest ≤ 8 * left
  pub all : old ++ byte_lines most begin bytes ≡ now ++ byte_lines left offset rest

pub shown_first : (most begin : ℕ) (bytes old : List ℕ) → length bytes ≤ 8 * most
    → IsShownUpTo most begin bytes old old begin bytes
shown_first most begin bytes old l = record { left = most; fits = l; all = refl }

pub shown_next : (most begin : ℕ) (bytes old now line new : List ℕ) (offset next : ℕ) (rest piece later : List ℕ)
    → 0 < length rest → IsShownUpTo most begin bytes old now offset rest
    → line ≡ now ++ (offset_text offset ++ hex_column piece) → new ≡ line ++ (10 ∷ []) → piece ≡ take 8 rest
    → later ≡ drop 8 rest → next ≡ saturated (offset + length piece) → IsShownUpTo most begin bytes old new next later
shown_next most begin bytes old now line new offset next rest piece later some h e f is_piece is_later is_next =
    elim h.left as (λ (left : ℕ). length rest ≤ 8 * left
    → old ++ byte_lines most begin bytes ≡ now ++ byte_lines left offset rest
    → IsShownUpTo most begin bytes old new next later) [
      | zero ↦ λ fits all. absurd (omega arith)
      | suc left ↦
          λ fits all.
          let column = hex_column piece in
          let start = offset_text offset in
          let below = byte_lines left next later in
          let step : byte_lines (suc left) offset rest ≡ start ++ (column ++ (10 ∷ below)) =
          byte_lines_next left offset rest some
          ∙ ap (λ (p : List ℕ). start ++ (hex_column p
          ++ (10 ∷ byte_lines left (saturated (offset + length p)) (drop 8 rest)))) (sym is_piece)
          ∙ ap (λ (n : ℕ). start ++ (column ++ (10 ∷ byte_lines left n (drop 8 rest)))) (sym is_next)
          ∙ ap (λ (l : List ℕ). start ++ (column ++ (10 ∷ byte_lines left next l))) (sym is_later) in
          let made : new ≡ (now ++ (start ++ column)) ++ (10 ∷ []) =
          f ∙ ap (λ (l : List ℕ). l ++ (10 ∷ [])) e in
          let size : length later ≡ length rest - 8 = ap length is_later ∙ length-drop 8 rest in
          record {
            left = left;
            fits = omega arith;
            all = all ∙ ap (λ (l : List ℕ). now ++ l) step ∙ sym (ap (λ (l : List ℕ). l ++ below) made
                ∙ simp append_assoc);
          }
    ] h.fits h.all

pub shown_all : (most begin : ℕ) (bytes old now : List ℕ) (offset : ℕ) (rest : List ℕ) → length rest ≡ 0
    → IsShownUpTo most begin bytes old now offset rest → now ≡ old ++ byte_lines most begin bytes
shown_all most begin bytes old now offset rest none h =
    sym (append_nil now) ∙ ap (λ (l : List ℕ). now ++ l) (sym (byte_lines_none h.left offset rest none)) ∙ sym h.all

-- ---- the lines below the first one
pub below_shown : (begin : ℕ) (bytes shown more old new : List ℕ) → shown ≡ take 24 bytes → more ≡ drop 24 bytes
    → length more ≡ 0 → new ≡ old ++ byte_lines 3 begin shown → new ≡ old ++ lines_below begin bytes
unfolding count_line
below_shown begin bytes shown more old new first others none e =
    let n : length (drop 24 bytes) ≡ 0 = sym (ap length others) ∙ none in
    e ∙ ap (λ (s : List ℕ). old ++ byte_lines 3 begin s) first
    ∙ ap (λ (l : List ℕ). old ++ l) (sym (append_nil (byte_lines 3 begin (take 24 bytes)))
    ∙ ap (λ (n : ℕ). byte_lines 3 begin (take 24 bytes) ++ count_line n) (sym n))

count_shown : (n : ℕ) → 0 < n → count_line n ≡ codes "        .. " ++ (decimal n ++ codes " bytes more\n")
unfolding count_line
count_shown zero l = absurd (omega arith)
count_shown (suc n) l = refl

pub below_counted : (begin : ℕ) (bytes shown more old mid new : List ℕ) → shown ≡ take 24 bytes
    → more ≡ drop 24 bytes → 0 < length more → mid ≡ old ++ byte_lines 3 begin shown
    → new ≡ mid ++ (codes "        .. " ++ (decimal (length more) ++ codes " bytes more\n"))
    → new ≡ old ++ lines_below begin bytes
below_counted begin bytes shown more old mid new first others some e f =
    let lines = byte_lines 3 begin (take 24 bytes) in
    let line = codes "        .. " ++ (decimal (length more) ++ codes " bytes more\n") in
    let is : line ≡ count_line (length (drop 24 bytes)) =
    sym (count_shown (length more) some) ∙ ap (λ (l : List ℕ). count_line (length l)) others in
    f ∙ ap (λ (l : List ℕ). l ++ line) (e ∙ ap (λ (s : List ℕ). old ++ byte_lines 3 begin s) first)
    ∙ append_assoc old lines line ∙ ap (λ (l : List ℕ). old ++ (lines ++ l)) is

pub below_counted_ok : {E : Type 0} (r : Result (Unit {0}) E) (begin : ℕ) (bytes shown more old mid new : List ℕ)
    → shown ≡ take 24 bytes → more ≡ drop 24 bytes → 0 < length more → mid ≡ old ++ byte_lines 3 begin shown
    → OnOk r (new ≡ mid ++ (codes "        .. " ++ (decimal (length more) ++ codes " bytes more\n")))
    → OnOk r (new ≡ old ++ lines_below begin bytes)
below_counted_ok (Ok u) begin bytes shown more old mid new first others some e f =
    below_counted begin bytes shown more old mid new first others some e f
below_counted_ok (Err x) begin bytes shown more old mid new first others some e f = tt

-- ---- a line
pub line_added : (offset : ℕ) (bytes : List ℕ) (levels missing : ℕ) (meaning old new shown others : List ℕ) (p : ℕ)
    (a b c d : List ℕ) → shown ≡ take 8 bytes → others ≡ drop 8 bytes
    → missing ≡ 8 - length (take 8 bytes) → p ≡ saturated (offset + length (take 8 bytes))
    → a ≡ old ++ (offset_text offset ++ hex_column shown) → b ≡ a ++ spaces (3 * missing + 2 + 2 * levels)
    → c ≡ b ++ meaning → d ≡ c ++ (10 ∷ []) → new ≡ d ++ lines_below p others
    → HasLineAdded offset bytes levels meaning old new
unfolding line_text
line_added offset bytes levels missing meaning old new shown others p a b c d first later gap next e f g h more =
    let start = offset_text offset in
    let spaced = λ (m : ℕ). spaces (3 * m + 2 + 2 * levels) in
    let below = λ (n : ℕ) (l : List ℕ). lines_below n l in
    let made : new ≡ old ++ (start ++ (hex_column shown ++ (spaced missing ++ (meaning ++ (10 ∷ below p others))))) =
    more ∙ ap (λ (l : List ℕ). l ++ below p others) (h ∙ ap (λ (l : List ℕ). l ++ (10 ∷ [])) (g
    ∙ ap (λ (l : List ℕ). l ++ meaning) (f ∙ ap (λ (l : List ℕ). l ++ spaced missing) e)))
    ∙ simp append_assoc in
    made ∙ ap (λ (s : List ℕ). old ++ (start ++ (hex_column s ++ (spaced missing ++ (meaning ++ (10 ∷ below p
    others)))))) first
    ∙ ap (λ (m : ℕ). old ++ (start ++ (hex_column (take 8 bytes) ++ (spaced m ++ (meaning ++ (10 ∷ below p
    others)))))) gap
    ∙ ap (λ (n : ℕ). old ++ (start ++ (hex_column (take 8 bytes) ++ (spaced (8 - length (take 8 bytes))
    ++ (meaning ++ (10 ∷ below n others)))))) next
    ∙ ap (λ (l : List ℕ). old ++ (start ++ (hex_column (take 8 bytes) ++ (spaced (8 - length (take 8 bytes))
    ++ (meaning ++ (10 ∷ below (saturated (offset + length (take 8 bytes))) l)))))) later

pub line_added_ok : {E : Type 0} (r : Result (Unit {0}) E) (offset : ℕ) (bytes : List ℕ) (levels missing : ℕ)
    (meaning old new shown others : List ℕ) (p : ℕ) (a b c d : List ℕ) → shown ≡ take 8 bytes → others ≡ drop 8 bytes
    → missing ≡ 8 - length (take 8 bytes) → p ≡ saturated (offset + length (take 8 bytes))
    → a ≡ old ++ (offset_text offset ++ hex_column shown) → b ≡ a ++ spaces (3 * missing + 2 + 2 * levels)
    → c ≡ b ++ meaning → d ≡ c ++ (10 ∷ []) → OnOk r (new ≡ d ++ lines_below p others)
    → OnOk r (HasLineAdded offset bytes levels meaning old new)
line_added_ok (Ok u) offset bytes levels missing meaning old new shown others p a b c d first later gap next e f g h
    more =
    line_added offset bytes levels missing meaning old new shown others p a b c d first later gap next e f g h more
line_added_ok (Err x) offset bytes levels missing meaning old new shown others p a b c d first later gap next e f g h
    more = tt

-- ---- lines one behind another
pub column_as : {o : ℕ} {a b s t : List ℕ} → a ≡ b → s ≡ t → ColumnIs o a s → ColumnIs o b t
column_as {o = o} {a = a} {b = b} {s = s} {t = t} e f c =
    subst (λ (l : List ℕ). ColumnIs o b l) f (subst (λ (l : List ℕ). ColumnIs o l s) e c)

pub columns_join : (o p : ℕ) {xs ys s t : List ℕ} → p ≡ saturated (o + length xs) → ColumnIs o xs s → ColumnIs p ys t
    → ColumnIs o (xs ++ ys) (s ++ t)
columns_join o p {xs = xs} {s = s} e c no_line = column_as (sym (append_nil xs)) (sym (append_nil s)) c
columns_join o p {xs = xs} {s = s} e c (line_behind {bytes = bytes} {text = text} more levels meaning d) =
    let at : saturated (p + length bytes) ≡ saturated (o + length (xs ++ bytes)) =
    omega (arith, e, length-append xs bytes) in
    let line = line_text (saturated (p + length bytes)) more levels meaning.text in
    column_as (append_assoc xs bytes more) (append_assoc s text line)
    (subst (λ (n : ℕ). ColumnIs o ((xs ++ bytes) ++ more) ((s ++ text) ++ line_text n more levels meaning.text))
    (sym at) (line_behind more levels meaning (columns_join o p e c d)))

-- a line behind others, at the offset that is told
pub column_on : (o p : ℕ) (bytes more text : List ℕ) (levels : ℕ) (meaning : Meaning)
    → p ≡ saturated (o + length bytes) → ColumnIs o bytes text
    → ColumnIs o (bytes ++ more) (text ++ line_text p more levels meaning.text)
column_on o p bytes more text levels meaning e c =
    subst (λ (n : ℕ). ColumnIs o (bytes ++ more) (text ++ line_text n more levels meaning.text)) (sym e)
    (line_behind more levels meaning c)

-- a line alone
pub one_line : (o p : ℕ) (bytes : List ℕ) (levels : ℕ) (meaning : Meaning) → p ≡ saturated o
    → ColumnIs o bytes (line_text p bytes levels meaning.text)
one_line o p bytes levels meaning e = column_on o p [] bytes [] levels meaning (omega (arith, e)) no_line
