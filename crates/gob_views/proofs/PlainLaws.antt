-- The lines of values.
use Rattle.std.proofs.Common.{◌≡◌, ◌∙◌, ℕ, List, [], ◌∷◌, ◌++◌, append_assoc, ap, min, refl, sym, subst}
use Rattle.std.proofs.Common.{Bool, true, false, None}
use Rattle.std.proofs.lemmas.List.{append-nil}
use Rattle.std.proofs.lemmas.List.Elements.{All-cons, All-head, All-nil}
use Rattle.std.specs.Bool.{IsTrue, MatchBool}
use Rattle.std.specs.List.{All, flat_map}
use Rattle.std.specs.Prelude.{if◌then◌else◌}
use Rattle.json.specs.Json.{Json}
use Rattle.json.specs.Lex.{tokens}
use Rattle.json.specs.Print.{print}
use Rattle.json.specs.Token.{Token}
use Rattle.json.specs.Tree.{json_tokens}
use Rattle.json_controls.specs.Controls.{shown_text}
use Rattle.json_parts.specs.Parts.{HasLeft, IsFirst}
use Rattle.json_parts.specs.declared.parts.Form.{Form}
use Rattle.gob_types.specs.Table.{Table, shape_of}
use Rattle.gob_types.specs.declared.id.TypeId.{TypeId}
use Rattle.gob_num.specs.Unsigned.{AreBytes}
use Rattle.gob_value.specs.declared.value.Value.{Value}
use Rattle.gob_stream.specs.Bounds.{greatest_depth}
use Rattle.gob_filled.specs.Stream.{FilledItem}
use Rattle.gob_go.specs.Whole.{IsFilledWhole}
use Rattle.gob_go.specs.Calls.Reader.{session_of, waits_in}
use Rattle.gob_go.specs.Calls.Session.{HasBodyNext, IsBetweenItems, limits_of, types_of}
use Rattle.gob_go.specs.Meaning.{IsFilled, ItemMeans, means_definition, means_value}
use Rattle.gob_filled.specs.Filled as spelled
use Rattle.gob_go.specs.declared.filled.Filled.{Filled}
use Rattle.gob_go.specs.declared.item.GoItem.{GoItem}
use Rattle.gob_go.specs.declared.item.GoItem.TheVariants as item
use Rattle.gob_go.specs.Calls.Reader.{GoReader}
use Rattle.gob_plain.specs.HeldPlain.{SaysFilled, tagged_json}
use Rattle.gob_tool.specs.TextsGo.{IsWholeText}
use Rattle.gob_tool.proofs.Profile.FilledLineLaws.{filled_text}
use Rattle.gob_views.specs.Machine.Lines.{IsBodyLine}
use Rattle.gob_words.specs.Words.{text_of}
use Rattle.gob_views.specs.Values.{AreLinesBehind, IsChosen, IsLineOf, is_shown, is_left_out, IsPlainLine, IsReadBack}
use Rattle.gob_views.specs.Values.{SaysStyled, json_line, line_jsons, parts_form_at, parts_in, shown_json, type_name}
use Rattle.gob_views.specs.declared.value_line.ValueLines.{ValueLines}

-- a reader that reads JSON in its text reads it in the line
abbrev pub ReadsInLine : List ℕ → Type 0
ReadsInLine text = (j : Json) → text ≡ print (json_tokens j) → tokens text ≡ json_tokens j
    → tokens (shown_text text) ≡ json_tokens j

-- ---- the lines of a value

-- what one JSON is said of, another may be
line_weaker : {lines : ValueLines} {T : Table} {t : TypeId} {P Q : Json → Type 0} {line : List ℕ}
    → ((j : Json) → P j → Q j) → IsLineOf lines T t P line → IsLineOf lines T t Q line
line_weaker more (is_shown chosen json says made) = is_shown chosen json (more json says) made
line_weaker more (is_left_out other) = is_left_out other

-- the lines of JSON
pub shown_lines : {lines : ValueLines} {T : Table} {t : TypeId} {P : Json → Type 0} {old line : List ℕ}
    → IsChosen (text_of lines.only) T t → (j : Json) → P j
    → AreLinesBehind lines T t (line_jsons lines T t j) old line → old ≡ [] → IsLineOf lines T t P line
shown_lines {lines = lines} {T = T} {t = t} {line = line} chosen j says made none =
    is_shown chosen j says (subst (λ o. AreLinesBehind lines T t (line_jsons lines T t j) o line) none made)

-- and of no type that is chosen
pub left_out_line : {lines : ValueLines} {T : Table} {t : TypeId} {P : Json → Type 0} {line : List ℕ}
    → ¬ IsChosen (text_of lines.only) T t → line ≡ [] → IsLineOf lines T t P line
left_out_line {lines = lines} {T = T} {t = t} {P = P} other none =
    subst (λ l. IsLineOf lines T t P l) (sym none) (is_left_out other)

-- a body of no type that is chosen
pub left_out_body : (lines : ValueLines) (T : Table) (t : TypeId) (limit : ℕ) (body line : List ℕ) (whole : Bool)
    → AreBytes body → (IsTrue whole → IsFilledWhole T t limit body) → ¬ IsChosen (text_of lines.only) T t → line ≡ []
    → MatchBool whole (IsBodyLine lines T t limit body line) (line ≡ [])
left_out_body lines T t limit body line true o is other none =
    record { are_bytes = o; whole = is refl; line = left_out_line other none }
left_out_body lines T t limit body line false o is other none = none

-- the line of JSON by its text, where that is that of the type's name
pub line_behind : {lines : ValueLines} {T : Table} {t : TypeId} {text old line : List ℕ} (j : Json)
    → text ≡ print (json_tokens (shown_json lines T t j)) → tokens text ≡ json_tokens (shown_json lines T t j)
    → ReadsInLine text → line ≡ old ++ (shown_text text ++ 10 ∷ []) → AreLinesBehind lines T t (j ∷ []) old line
line_behind {lines = lines} {T = T} {t = t} {old = old} j prints read reads made = record {
  made = made ∙ ap (λ (l : List ℕ). old ++ (shown_text l ++ 10 ∷ [])) prints
      ∙ ap (λ (l : List ℕ). old ++ l) (sym (append-nil (json_line lines T t j)));
  read = All-cons (IsReadBack lines T t) j []
      (ap (λ (l : List ℕ). tokens (shown_text l)) (sym prints) ∙ reads (shown_json lines T t j) prints read)
      (All-nil (IsReadBack lines T t));
}

-- the line where values stand on one each, under no name
pub line_alone : {lines : ValueLines} {T : Table} {t : TypeId} {text line : List ℕ} → lines.each ≡ false
    → lines.typed ≡ false → (j : Json) → text ≡ print (json_tokens j) → tokens text ≡ json_tokens j
    → ReadsInLine text → line ≡ shown_text text ++ 10 ∷ []
    → AreLinesBehind lines T t (line_jsons lines T t j) [] line
line_alone {lines = lines} {T = T} {t = t} {line = line} each typed j prints read reads made =
    let one : line_jsons lines T t j ≡ j ∷ [] =
    ap (λ (b : Bool). parts_in (if b then parts_form_at (shape_of T t) else None) j) each in
    let bare : shown_json lines T t j ≡ j = ap (λ (b : Bool). tagged_json b (type_name T t) j) typed in
    subst (λ (js : List Json). AreLinesBehind lines T t js [] line) (sym one)
    (line_behind j (prints ∙ ap (λ (j : Json). print (json_tokens j)) (sym bare))
    (read ∙ ap (λ (j : Json). json_tokens j) (sym bare)) reads made)

-- ---- the lines of its parts

-- of these parts some are left in the tokens, and the lines are those of the others
pub record AreLeft (lines : ValueLines) (T : Table) (t : TypeId) (f : Form) (ts : List Token) (js : List Json)
    (old now : List ℕ) : Type 0 where
  pub left : List Json
  pub has : HasLeft f ts left
  pub made : now ++ flat_map (json_line lines T t) left ≡ old ++ flat_map (json_line lines T t) js
  pub read : All (IsReadBack lines T t) left → All (IsReadBack lines T t) js

pub all_left : {lines : ValueLines} {T : Table} {t : TypeId} {f : Form} {ts : List Token} {js : List Json}
    {old : List ℕ} → HasLeft f ts js → AreLeft lines T t f ts js old old
all_left {js = js} has = record { left = js; has = has; made = refl; read = λ all. all }

pub part_on : {lines : ValueLines} {T : Table} {t : TypeId} {f g : Form} {ts us : List Token} {js : List Json}
    {old now next : List ℕ} {text : List ℕ} (a : AreLeft lines T t f ts js old now) (i : IsFirst g us a.left text)
    → AreLinesBehind lines T t (i.part ∷ []) now next → AreLeft lines T t g us js old next
part_on {lines = lines} {T = T} {t = t} {now = now} a i behind =
    let line = json_line lines T t in
    let P = IsReadBack lines T t in
    let rest = flat_map line i.more in
    record {
      left = i.more;
      has = i.others;
      made = ap (λ (l : List ℕ). l ++ rest) (behind.made ∙ ap (λ (l : List ℕ). now ++ l) (append-nil (line i.part)))
          ∙ append_assoc now (line i.part) rest ∙ ap (λ (l : List Json). now ++ flat_map line l) (sym i.first)
          ∙ a.made;
      read = λ all. a.read
          (subst (λ (l : List Json). All P l) (sym i.first)
          (All-cons P i.part i.more (All-head P i.part [] behind.read) all));
    }

pub none_more : {lines : ValueLines} {T : Table} {t : TypeId} {f : Form} {ts : List Token} {js : List Json}
    {old now : List ℕ} (a : AreLeft lines T t f ts js old now) → a.left ≡ [] → AreLinesBehind lines T t js old now
none_more {lines = lines} {T = T} {t = t} {now = now} a none =
    let line = json_line lines T t in
    let P = IsReadBack lines T t in
    record {
      made = sym (append-nil now) ∙ ap (λ (l : List Json). now ++ flat_map line l) (sym none) ∙ a.made;
      read = a.read (subst (λ (l : List Json). All P l) (sym none) (All-nil P));
    }

-- ---- an item that was given
pub definition_line : (lines : ValueLines) {T : Table} {given : GoItem} {id : TypeId} {described : Value}
    {line : List ℕ} → given ≡ item.Define id described → line ≡ [] → (i : FilledItem) → ItemMeans T given i
    → IsPlainLine lines T i line
definition_line lines {T = T} {id = id} {described = described} {line = line} e none =
    subst (λ g. (i : FilledItem) → ItemMeans T g i → IsPlainLine lines T i line) (sym e) (λ i m. by m)
  where
    by : {i : FilledItem} → ItemMeans T (item.Define id described) i → IsPlainLine lines T i line
    by means_definition = none

pub value_line : {lines : ValueLines} {T : Table} {given : GoItem} {id : TypeId} {kept : Filled} {line : List ℕ}
    → given ≡ item.Put id kept → ((w : spelled.Filled) → IsFilled T id kept w
    → IsLineOf lines T id (SaysStyled lines (λ style. SaysFilled lines.tagged style T id w)) line)
    → (i : FilledItem) → ItemMeans T given i → IsPlainLine lines T i line
value_line {lines = lines} {T = T} {id = id} {kept = kept} {line = line} e made =
    subst (λ g. (i : FilledItem) → ItemMeans T g i → IsPlainLine lines T i line) (sym e) (λ i m. by m)
  where
    by : {i : FilledItem} → ItemMeans T (item.Put id kept) i → IsPlainLine lines T i line
    by (means_value {w = w} m) = made w m

-- ---- an item that waits as a whole
pub whole_line : {lines : ValueLines} {T : Table} {r : GoReader} {id : TypeId} {body line : List ℕ} {used limit : ℕ}
    → IsBetweenItems (session_of r) → HasBodyNext (session_of r) id body used (waits_in r) → T ≡ types_of (session_of r)
    → limit ≡ min (limits_of (session_of r)).depth greatest_depth → IsBodyLine lines T id limit body line
    → IsWholeText (IsPlainLine lines) r used line
whole_line {lines = lines} {id = id} {body = body} {line = line} {limit = limit} between next same deep made =
    let made = subst (λ (T : Table). IsBodyLine lines T id limit body line) same made in
    filled_text (IsPlainLine lines) deep between next made.are_bytes made.whole made.line
