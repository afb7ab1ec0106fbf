-- Lines of an item: of its count, its type number and its body.
use Rattle.std.proofs.Common.{◌≡◌, ℕ, ◌+◌, ◌*◌, ◌^◌, ◌<◌}
use Rattle.std.proofs.Common.{◌≤◌, Bool, List, [], ◌++◌, length, take, drop}
use Rattle.std.proofs.Common.{refl, sym, ap, ◌∙◌, subst, append_assoc, length-drop, arith}
use Rattle.std.proofs.lemmas.List.{length-take-le, take-append-drop}
use Rattle.std.specs.Prelude.{Option, None}
use Rattle.std.proofs.Math.Seq.{take-length}
use Rattle.gob_num.specs.Place.{IsUnsignedAt, NoNumberStandsAt}
use Rattle.gob_num.specs.Signed.{not_negative, negative}
use Rattle.gob_num.specs.Unsigned.{IsUnsigned}
use Rattle.gob_types.specs.Base.{wire_type}
use Rattle.gob_types.specs.Table.{Table}
use Rattle.gob_types.specs.declared.id.TypeId.{TypeId}
use Rattle.gob_read.proofs.Machine.Pieces.{take_further}
use Rattle.gob_explain.specs.Body.{EndsSo, begins_value}
use Rattle.gob_explain.specs.Column.{ColumnIs, IsSomeLine, Meaning, line_text, no_line, saturated}
use Rattle.gob_explain.specs.Items.{LineOfRest, LinesOfBody, ShowsBodyTo, ShowsFirst, ShowsItemTo}
use Rattle.gob_explain.specs.Items.{LinesOfItem, NamesBody, no_count, no_type_number, none_left, of_body}
use Rattle.gob_explain.specs.Items.{of_definition, of_value, rows_lead, some_left}
use Rattle.gob_explain.specs.Machine.Printing.{AreInOrder, EndsLine, TellsRows}
use Rattle.gob_explain.specs.Open.{Open}
use Rattle.gob_explain.specs.Walk.{RowsLead, between}
use Rattle.gob_explain.specs.Walk as walk
use Rattle.gob_explain.specs.declared.row.Row.{Row}
use Rattle.gob_explain.specs.declared.text.printer.Line.{Line}
use Rattle.gob_explain.proofs.ColumnLaws.{column_as, column_on, columns_join, one_line}
use Rattle.gob_explain.proofs.LineLaws.{all_lines, told_first}
use Rattle.gob_explain.proofs.RowLaws.{append_nil}
use Rattle.gob_explain.proofs.BetweenLaws.{take_between}

-- ---- type numbers
pub names_value : (n half : ℕ) (t : TypeId) (b : List ℕ) → n ≡ 2 * half → t.0 ≡ half → IsUnsigned n b → NamesBody b t
names_value n half t b e f u = of_value (not_negative (subst (λ k. IsUnsigned k b) (e ∙ ap (λ k. 2 * k) (sym f)) u))

pub names_definition : (n half : ℕ) (b : List ℕ) → n ≡ 2 * half + 1 → IsUnsigned n b → NamesBody b wire_type
names_definition n half b e u = of_definition (negative (subst (λ k. IsUnsigned k b) e u))

-- ---- rows of a body
pub in_order : {T : Table} {body : List ℕ} {opens last : List Open} {at end : ℕ} {rows : List Row}
    → RowsLead T body opens at rows last end → AreInOrder (length body) at rows end
in_order walk.no_row = refl
in_order (walk.row_then r order inside s more) = (refl, order, inside, in_order more)
in_order (walk.end_then ends more) = in_order more

-- ---- lines of an item
pub no_item_lines : (T : Table) (offset : ℕ) (bytes : List ℕ) → NoNumberStandsAt bytes 0
    → ShowsItemTo T offset bytes 0 []
no_item_lines T offset bytes n = record { rows = no_count n; column = no_line }

count_column : (offset a : ℕ) (bytes : List ℕ) (meaning : Meaning) → offset < 2 ^ 64
    → ColumnIs offset (take a bytes) (line_text offset (between 0 a bytes) 0 meaning.text)
count_column offset a bytes meaning fits =
    column_as (take_between bytes 0 a (omega arith)) refl
    (one_line offset offset (between 0 a bytes) 0 meaning (omega (arith, fits)))

pub count_lines : (T : Table) (offset n a : ℕ) (bytes text : List ℕ) → offset < 2 ^ 64 → IsUnsignedAt n bytes 0 a
    → NoNumberStandsAt bytes a → IsSomeLine offset (between 0 a bytes) 0 text → ShowsItemTo T offset bytes a text
count_lines T offset n a bytes text fits u none h =
    subst (λ (t : List ℕ). ShowsItemTo T offset bytes a t) (sym h.1)
    (record { rows = no_type_number h.0 u none; column = count_column offset a bytes h.0 fits })

head_column : (offset a b p : ℕ) (bytes : List ℕ) (meaning named : Meaning) → offset < 2 ^ 64 → a ≤ b → b ≤ length bytes
    → p ≡ saturated (offset + a)
    → ColumnIs offset (take b bytes) (line_text offset (between 0 a bytes) 0 meaning.text
    ++ line_text p (between a b bytes) 1 named.text)
head_column offset a b p bytes meaning named fits order inside is =
    let size : length (take a bytes) ≡ a = length-take-le a bytes (omega arith) in
    column_as (take_between bytes a b order) refl (column_on offset p (take a bytes) (between a b bytes)
    (line_text offset (between 0 a bytes) 0 meaning.text) 1 named (omega (arith, is, size))
    (count_column offset a bytes meaning fits))

pub item_lines : (T : Table) (t : TypeId) (offset n m a b p q place : ℕ) (bytes rest x y text : List ℕ)
    → offset < 2 ^ 64 → IsUnsignedAt n bytes 0 a → IsUnsignedAt m bytes a b → NamesBody (between a b bytes) t
    → p ≡ saturated (offset + a) → q ≡ saturated (offset + b) → rest ≡ drop b bytes
    → IsSomeLine offset (between 0 a bytes) 0 x → IsSomeLine p (between a b bytes) 1 y
    → ShowsBodyTo T t q rest place text → ShowsItemTo T offset bytes (b + place) ((x ++ y) ++ text)
item_lines T t offset n m a b p q place bytes rest x y text fits u v names is_p is_q is_rest first second h =
    let order = v.order in
    let inside = v.inside in
    let count = line_text offset (between 0 a bytes) 0 first.0.text in
    let named = λ (p : ℕ). line_text p (between a b bytes) 1 second.0.text in
    let head = head_column offset a b p bytes first.0 second.0 fits (omega (arith, order)) inside is_p in
    let size : length (take b bytes) ≡ b = length-take-le b bytes inside in
    let behind = subst (λ (r : List ℕ). ColumnIs q (take place r) text) is_rest h.column in
    let all = columns_join offset q (omega (arith, is_q, size)) head behind in
    let rows = subst (λ (q : ℕ). LinesOfBody T t q (drop b bytes) place text) is_q
    (subst (λ (r : List ℕ). LinesOfBody T t q r place text) is_rest h.rows) in
    let made : count ++ (named p ++ text) ≡ (x ++ y) ++ text =
    sym (append_assoc count (named p) text) ∙ ap (λ (l : List ℕ). l ++ text)
    (ap (λ (l : List ℕ). l ++ named p) (sym first.1) ∙ ap (λ (l : List ℕ). x ++ l) (sym second.1)) in
    subst (λ (t : List ℕ). ShowsItemTo T offset bytes (b + place) t) made
    (record {
      rows = subst (λ (p : ℕ). LinesOfItem T offset bytes (b + place) (count ++ (named p ++ text))) (sym is_p)
          (of_body first.0 second.0 u v names rows);
      column = column_as (sym (take_further bytes b place)) (append_assoc count (named p) text) all;
    })

-- ---- up to the end of the bytes
pub all_shown : (T : Table) (offset place : ℕ) (bytes text : List ℕ) → length bytes ≤ place → place ≤ length bytes
    → ShowsItemTo T offset bytes place text → ShowsFirst T offset bytes place text
all_shown T offset place bytes text l inside h =
    let is : place ≡ length bytes = omega arith in
    let all : take place bytes ≡ bytes = ap (λ (n : ℕ). take n bytes) is ∙ take-length bytes in
    record {
      shows = record {
        reached = place;
        lines = text;
        last = [];
        all = sym (append_nil text);
        rows = h.rows;
        rest = none_left is;
        column = column_as all refl h.column;
      };
      place_is = refl;
    }

pub rest_shown : (T : Table) (offset place p : ℕ) (bytes rest text last : List ℕ) → place < length bytes
    → p ≡ saturated (offset + place) → rest ≡ drop place bytes → ShowsItemTo T offset bytes place text
    → IsSomeLine p rest 0 last → ShowsFirst T offset bytes place (text ++ last)
rest_shown T offset place p bytes rest text last l is is_rest h line =
    let size : length (take place bytes) ≡ place = length-take-le place bytes (omega arith) in
    let made = line_text p rest 0 line.0.text in
    let same : line_text (saturated (offset + place)) (drop place bytes) 0 line.0.text ≡ made =
    ap (λ (n : ℕ). line_text n (drop place bytes) 0 line.0.text) (sym is)
    ∙ ap (λ (r : List ℕ). line_text p r 0 line.0.text) (sym is_rest) in
    let all : take place bytes ++ rest ≡ bytes =
    ap (λ (r : List ℕ). take place bytes ++ r) is_rest ∙ take-append-drop place bytes in
    subst (λ (t : List ℕ). ShowsFirst T offset bytes place (text ++ t)) (sym line.1)
    (record {
      shows = record {
        reached = place;
        lines = text;
        last = made;
        all = refl;
        rows = h.rows;
        rest = subst (λ (t : List ℕ). LineOfRest offset bytes place t) same (some_left line.0 l);
        column = column_as all refl (column_on offset p (take place bytes) rest text 0 line.0
            (omega (arith, is, size)) h.column);
      };
      place_is = refl;
    })

-- ---- of what a printer was told
pub body_shown : (T : Table) (t : TypeId) (offset : ℕ) (body : List ℕ) (line : Option Line) (x y : List ℕ)
    (place : ℕ) (rows : List Row) (opens : List Open) (whole : Bool)
    → RowsLead T body (begins_value t) 0 rows opens place → EndsSo T t body 1000 whole opens place
    → TellsRows T offset body None line rows x → EndsLine T offset body line y
    → ShowsBodyTo T t offset body place (x ++ y)
body_shown T t offset body line x y place rows opens whole l e tells ends =
    let told = tells [] [] 0 place (in_order l) (told_first T offset body) in
    let printed = ends x rows place told.0 in
    record {
      rows = rows_lead rows opens whole l e (all_lines printed);
      column = printed.column;
    }

-- all bytes from a place on
pub rest_is : {rest : List ℕ} (bytes : List ℕ) (at : ℕ) → rest ≡ between at (length bytes) bytes → rest ≡ drop at bytes
rest_is bytes at e =
    e ∙ ap (λ (n : ℕ). take n (drop at bytes)) (sym (length-drop at bytes)) ∙ take-length (drop at bytes)
