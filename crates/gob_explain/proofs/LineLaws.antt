-- Lines of rows, as a printer makes them.
use Rattle.std.proofs.Common.{◌≡◌, ℕ, ◌+◌, ◌<◌, ◌≤◌, List, [], ◌∷◌, ◌++◌, length, take, refl, sym, ap, ◌∙◌}
use Rattle.std.proofs.Common.{subst, append_assoc, append-nil, arith, Option, None, Some}
use Rattle.std.proofs.lemmas.List.{length-take-le}
use Rattle.std.specs.Option.{unwrap_or}
use Rattle.gob_types.specs.Table.{Table, shape_of}
use Rattle.gob_types.specs.declared.kind.Shape.{Shape}
use Rattle.gob_explain.specs.Column.{ColumnIs, HasLineAdded, Meaning, line_text, no_line, saturated}
use Rattle.gob_explain.specs.Lines.{AreLines, AreOneLine, BeginsLine, GoesOnBehind, IsFollowed, IsOpen, SharesLine}
use Rattle.gob_explain.specs.Lines.{StandsBehind, last_of, last_row, line_of_rows, no_row}
use Rattle.gob_explain.specs.Walk.{between}
use Rattle.gob_explain.specs.Machine.Printing.{EndsLine, FitsIn, HasPrinted, HasTold, IsLineText, IsSettled}
use Rattle.gob_explain.specs.Machine.Printing.{PrintsAlone, TellsRow, TellsRows, ends_as}
use Rattle.gob_explain.specs.declared.row.Row.{Row}
use Rattle.gob_explain.specs.declared.row.What.{What}
use Rattle.gob_explain.specs.declared.row.What.TheVariants as what
use Rattle.gob_explain.specs.declared.text.printer.Line.{Line}
use Rattle.gob_explain.proofs.ColumnLaws.{column_as, column_on}
use Rattle.gob_explain.proofs.BetweenLaws.{take_between}

-- ---- the last of rows
last_row_snoc : (s : Row) (rows : List Row) (r : Row) → last_row s (rows ++ r ∷ []) ≡ r
last_row_snoc s [] r = refl
last_row_snoc s (t ∷ rows) r = last_row_snoc t rows r

last_snoc : (rows : List Row) (r : Row) → last_of (rows ++ r ∷ []) ≡ Some r
last_snoc [] r = refl
last_snoc (s ∷ rows) r = ap (λ (r : Row). Some r) (last_row_snoc s rows r)

last_row_behind : (s : Row) (rows : List Row) (r : Row) (others : List Row)
    → last_row s (rows ++ r ∷ others) ≡ last_row r others
last_row_behind s [] r others = refl
last_row_behind s (t ∷ rows) r others = last_row_behind t rows r others

last_behind : (rows : List Row) (r : Row) (others : List Row) → last_of (rows ++ r ∷ others) ≡ Some (last_row r others)
last_behind [] r others = refl
last_behind (s ∷ rows) r others = ap (λ (r : Row). Some r) (last_row_behind s rows r others)

-- ---- which rows share a line
one_line_more : (T : Table) (r : Row) (others : List Row) (s : Row) → AreOneLine T r others
    → SharesLine T (last_row r others) s → AreOneLine T r (others ++ s ∷ [])
one_line_more T r [] s h q = (q, tt)
one_line_more T r (t ∷ others) s h q = (h.0, one_line_more T t others s h.1 q)

pub begins_alone : (T : Table) (before : Option Row) (r : Row) → ¬ StandsBehind r.what → BeginsLine T before r
begins_alone T None r n = tt
begins_alone T (Some s) r n = λ h. n h.1

pub fits_settled : (T : Table) (line : Option Line) (before : Option Row) (r : Row) → IsSettled T line before
    → StandsBehind r.what → FitsIn T line before r
fits_settled T None None r h s = tt
fits_settled T None (Some before) r h s = λ q. h q.0
fits_settled T (Some line) None r h s = absurd h
fits_settled T (Some line) (Some before) r h s = (h, s)

pub settled_none : (T : Table) (line : Option Line) (rows : List Row) (r : Row) → line ≡ None → ¬ IsOpen T r
    → IsSettled T line (last_of (rows ++ r ∷ []))
settled_none T line rows r e n =
    subst (λ (l : Option Line). IsSettled T l (last_of (rows ++ r ∷ []))) (sym e)
    (subst (λ (o : Option Row). IsSettled T None o) (sym (last_snoc rows r)) n)

pub settled_some : (T : Table) (line : Option Line) (l : Line) (rows : List Row) (r : Row) → line ≡ Some l → IsOpen T r
    → IsSettled T line (last_of (rows ++ r ∷ []))
settled_some T line l rows r e n =
    subst (λ (l : Option Line). IsSettled T l (last_of (rows ++ r ∷ []))) (sym e)
    (subst (λ (o : Option Row). IsSettled T (Some l) o) (sym (last_snoc rows r)) n)

-- ---- a line that ends
line_text_as : (offset : ℕ) (body : List ℕ) (b c e f d g : ℕ) (meaning : List ℕ) → b ≡ c → e ≡ f → d ≡ g
    → line_text (saturated (offset + b)) (between b e body) (saturated (d + 1)) meaning
    ≡ line_text (saturated (offset + c)) (between c f body) (saturated (g + 1)) meaning
line_text_as offset body b c e f d g meaning is_begin is_end is_depth =
    ap (λ (n : ℕ). line_text (saturated (offset + n)) (between n e body) (saturated (d + 1)) meaning) is_begin
    ∙ ap (λ (n : ℕ). line_text (saturated (offset + c)) (between c n body) (saturated (d + 1)) meaning) is_end
    ∙ ap (λ (n : ℕ). line_text (saturated (offset + c)) (between c f body) (saturated (n + 1)) meaning) is_depth

lines_as : {T : Table} {o : ℕ} {b : List ℕ} {rows others : List Row} {s t : List ℕ} → rows ≡ others → s ≡ t
    → AreLines T o b rows s → AreLines T o b others t
lines_as {T = T} {o = o} {b = b} {rows = rows} {others = others} {s = s} {t = t} e f h =
    subst (λ (l : List ℕ). AreLines T o b others l) f (subst (λ (rows : List Row). AreLines T o b rows s) e h)

ended_line : (T : Table) (offset : ℕ) (body : List ℕ) (l : Line) (old new : List ℕ) (meaning : Meaning)
    (rows : List Row) (at : ℕ)
    → HasPrinted T offset body (Some l) old rows at
    → HasLineAdded (saturated (offset + l.begin)) (between l.begin l.end body) (saturated (l.depth + 1)) meaning.text
    old new
    → HasPrinted T offset body None new rows at
ended_line T offset body l old new meaning rows at h e =
    let o = h.of_line in
    let order : l.begin ≤ at = h.order in
    let inside : at ≤ length body = h.inside in
    let end : l.end ≡ at = o.end in
    let first = o.first in
    let last = last_row first o.others in
    let same = line_text_as offset body l.begin first.begin l.end last.end l.depth first.depth meaning.text o.begin
    (end ∙ sym o.last) o.depth in
    let text : old ++ line_text (saturated (offset + first.begin)) (between first.begin last.end body)
    (saturated (first.depth + 1)) meaning.text ≡ new = ap (λ (t : List ℕ). old ++ t) (sym same) ∙ sym e in
    let all : h.ended ++ (first ∷ o.others) ≡ rows =
    ap (λ (x : List Row). h.ended ++ x) (sym o.rows) ∙ sym h.all in
    let size : length (take l.begin body) ≡ l.begin = length-take-le l.begin body (omega arith) in
    let shown = column_on offset (saturated (offset + l.begin)) (take l.begin body) (between l.begin l.end body) old
    (saturated (l.depth + 1)) meaning (ap (λ (n : ℕ). saturated (offset + n)) (sym size)) h.column in
    let bytes : take l.begin body ++ between l.begin l.end body ≡ take at body =
    ap (λ (n : ℕ). take l.begin body ++ between l.begin n body) end ∙ take_between body l.begin at order in
    record {
      ended = rows;
      under_way = [];
      all = sym (append-nil rows);
      lines = lines_as all text (line_of_rows first o.others meaning h.lines o.begins o.one);
      of_line = refl;
      column = column_as bytes (sym e) shown;
      order = omega arith;
      inside = inside;
    }

-- the line under way
pub line_ends : (T : Table) (offset : ℕ) (body : List ℕ) (line : Option Line) (l : Line) (more : List ℕ)
    → line ≡ Some l → IsLineText offset body l more → EndsLine T offset body line more
line_ends T offset body line l more is made = λ text rows at h.
    let there = subst (λ (l : Option Line). HasPrinted T offset body l text rows at) is h in
    let order : l.begin ≤ at = there.order in
    let inside : at ≤ length body = there.inside in
    let end : l.end ≡ at = there.of_line.end in
    let some = made (omega arith) (omega arith) in
    ended_line T offset body l text (text ++ more) some.0 rows at there (ap (λ (t : List ℕ). text ++ t) some.1)

-- none is under way
pub no_line_ends : (T : Table) (offset : ℕ) (body : List ℕ) (line : Option Line) → line ≡ None
    → EndsLine T offset body line []
no_line_ends T offset body line is = λ text rows at h.
    subst (λ (t : List ℕ). HasPrinted T offset body None t rows at) (sym (append-nil text))
    (subst (λ (l : Option Line). HasPrinted T offset body l text rows at) is h)

-- a line that begins with a row
pub begun : (T : Table) (offset : ℕ) (body text : List ℕ) (rows : List Row) (r : Row) (l : Line) → l.begin ≡ r.begin
    → l.end ≡ r.end → l.depth ≡ r.depth → r.begin < r.end → r.end ≤ length body → BeginsLine T (last_of rows) r
    → HasPrinted T offset body None text rows r.begin → HasPrinted T offset body (Some l) text (rows ++ r ∷ []) r.end
begun T offset body text rows r l is_begin is_end is_depth order inside begins h =
    let all : h.ended ≡ rows =
    sym (append-nil h.ended) ∙ ap (λ (x : List Row). h.ended ++ x) (sym h.of_line) ∙ sym h.all in
    record {
      ended = rows;
      under_way = r ∷ [];
      all = refl;
      lines = lines_as all refl h.lines;
      of_line = record {
        first = r;
        others = [];
        rows = refl;
        begins = begins;
        one = tt;
        begin = is_begin;
        depth = is_depth;
        end = is_end;
        last = refl;
      };
      column = subst (λ (n : ℕ). ColumnIs offset (take n body) text) (sym is_begin) h.column;
      order = omega arith;
      inside = inside;
    }

-- a row on a line of its own
pub row_alone : (T : Table) (offset : ℕ) (body : List ℕ) (s : Row) (l : Line) (more : List ℕ) → l.begin ≡ s.begin
    → l.end ≡ s.end → l.depth ≡ s.depth → IsLineText offset body l more → PrintsAlone T offset body s more
row_alone T offset body s l more is_begin is_end is_depth made = λ text rows order inside begins h.
    line_ends T offset body (Some l) l more refl made text (rows ++ s ∷ []) s.end
    (begun T offset body text rows s l is_begin is_end is_depth order inside begins h)

-- and goes on with another one
gone_on : (T : Table) (offset : ℕ) (body text : List ℕ) (rows : List Row) (r : Row) (l m : Line) → m.begin ≡ l.begin
    → m.end ≡ r.end → m.depth ≡ l.depth → r.begin < r.end → r.end ≤ length body → FitsIn T (Some l) (last_of rows) r
    → HasPrinted T offset body (Some l) text rows r.begin
    → HasPrinted T offset body (Some m) text (rows ++ r ∷ []) r.end
gone_on T offset body text rows r l m is_begin is_end is_depth order inside fits h =
    let o = h.of_line in
    let before : l.begin ≤ r.begin = h.order in
    let all : rows ≡ h.ended ++ (o.first ∷ o.others) =
    h.all ∙ ap (λ (x : List Row). h.ended ++ x) o.rows in
    let shares : SharesLine T (last_row o.first o.others) r =
    subst (λ (b : Option Row). FitsIn T (Some l) b r) (ap last_of all ∙ last_behind h.ended o.first o.others) fits in
    record {
      ended = h.ended;
      under_way = o.first ∷ (o.others ++ r ∷ []);
      all = ap (λ (x : List Row). x ++ r ∷ []) all ∙ append_assoc h.ended (o.first ∷ o.others) (r ∷ []);
      lines = h.lines;
      of_line = record {
        first = o.first;
        others = o.others ++ r ∷ [];
        rows = refl;
        begins = o.begins;
        one = one_line_more T o.first o.others r o.one shares;
        begin = is_begin ∙ o.begin;
        depth = is_depth ∙ o.depth;
        end = is_end;
        last = ap (λ (r : Row). r.end) (last_row_snoc o.first o.others r);
      };
      column = subst (λ (n : ℕ). ColumnIs offset (take n body) text) (sym is_begin) h.column;
      order = omega arith;
      inside = inside;
    }

-- the line as it was, or one of the row
abbrev pub GoesOnFrom : Option Line → Row → Line → Type 0
GoesOnFrom None r m = (m.begin ≡ r.begin) × (m.depth ≡ r.depth)
GoesOnFrom (Some l) r m = (m.begin ≡ l.begin) × (m.depth ≡ l.depth)

pub row_joined : (T : Table) (offset : ℕ) (body text : List ℕ) (line : Option Line) (rows : List Row) (r : Row)
    (m : Line) → GoesOnFrom line r m → m.end ≡ r.end → r.begin < r.end → r.end ≤ length body
    → FitsIn T line (last_of rows) r → HasPrinted T offset body line text rows r.begin
    → HasPrinted T offset body (Some m) text (rows ++ r ∷ []) r.end
row_joined T offset body text None rows r m g is_end order inside fits h =
    begun T offset body text rows r m g.0 is_end g.1 order inside fits h
row_joined T offset body text (Some l) rows r m g is_end order inside fits h =
    gone_on T offset body text rows r l m g.0 is_end g.1 order inside fits h

-- ---- no row, and all rows
pub told_first : (T : Table) (offset : ℕ) (body : List ℕ) → HasTold T offset body None [] [] 0
told_first T offset body = (
  record {
    ended = [];
    under_way = [];
    all = refl;
    lines = no_row;
    of_line = refl;
    column = no_line;
    order = omega arith;
    inside = omega arith;
  },
  tt,
)

pub all_lines : {T : Table} {offset : ℕ} {body text : List ℕ} {rows : List Row} {at : ℕ}
    → HasPrinted T offset body None text rows at → AreLines T offset body rows text
all_lines {rows = rows} h =
    let all : h.ended ≡ rows =
    sym (append-nil h.ended) ∙ ap (λ (x : List Row). h.ended ++ x) (sym h.of_line) ∙ sym h.all in
    lines_as all refl h.lines

-- ---- what a row is
open_as : (s : Option Shape) (n : ℕ) (v w : What) → v ≡ w → GoesOnBehind w s n → GoesOnBehind v s n
open_as s n v w e h = subst (λ (w : What). GoesOnBehind w s n) (sym e) h

closed_as : (s : Option Shape) (n : ℕ) (v w : What) → v ≡ w → ¬ GoesOnBehind w s n → ¬ GoesOnBehind v s n
closed_as s n v w e h = λ q. h (subst (λ (w : What). GoesOnBehind w s n) e q)

pub opens_first : (T : Table) (r : Row) → r.what ≡ what.First → IsFollowed (shape_of T r.id) r.number → IsOpen T r
opens_first T r e h = open_as (shape_of T r.id) r.number r.what what.First e h

pub opens_delta : (T : Table) (r : Row) → r.what ≡ what.Delta → 0 < r.number → IsOpen T r
opens_delta T r e h = open_as (shape_of T r.id) r.number r.what what.Delta e h

pub ends_tag : (T : Table) (r : Row) → r.what ≡ what.Tag → ¬ IsOpen T r
ends_tag T r e = closed_as (shape_of T r.id) r.number r.what what.Tag e (λ h. h)

pub ends_type_number : (T : Table) (r : Row) → r.what ≡ what.TypeNumber → ¬ IsOpen T r
ends_type_number T r e = closed_as (shape_of T r.id) r.number r.what what.TypeNumber e (λ h. h)

pub ends_segment : (T : Table) (r : Row) → r.what ≡ what.Segment → ¬ IsOpen T r
ends_segment T r e = closed_as (shape_of T r.id) r.number r.what what.Segment e (λ h. h)

pub ends_first : (T : Table) (r : Row) → r.what ≡ what.First → ¬ IsFollowed (shape_of T r.id) r.number → ¬ IsOpen T r
ends_first T r e h = closed_as (shape_of T r.id) r.number r.what what.First e h

pub ends_imaginary : (T : Table) (r : Row) → r.what ≡ what.Imaginary → ¬ IsOpen T r
ends_imaginary T r e = closed_as (shape_of T r.id) r.number r.what what.Imaginary e (λ h. h)

pub ends_raw : (T : Table) (r : Row) → r.what ≡ what.Raw → ¬ IsOpen T r
ends_raw T r e = closed_as (shape_of T r.id) r.number r.what what.Raw e (λ h. h)

pub ends_delta : (T : Table) (r : Row) → r.what ≡ what.Delta → r.number ≤ 0 → ¬ IsOpen T r
ends_delta T r e l = closed_as (shape_of T r.id) r.number r.what what.Delta e (λ h. absurd (omega arith))

pub behind_first : (v : What) → v ≡ what.First → StandsBehind v
behind_first v e = subst StandsBehind (sym e) tt

pub behind_imaginary : (v : What) → v ≡ what.Imaginary → StandsBehind v
behind_imaginary v e = subst StandsBehind (sym e) tt

pub behind_raw : (v : What) → v ≡ what.Raw → StandsBehind v
behind_raw v e = subst StandsBehind (sym e) tt

pub alone_tag : (v : What) → v ≡ what.Tag → ¬ StandsBehind v
alone_tag v e = λ h. subst StandsBehind e h

pub alone_type_number : (v : What) → v ≡ what.TypeNumber → ¬ StandsBehind v
alone_type_number v e = λ h. subst StandsBehind e h

pub alone_segment : (v : What) → v ≡ what.Segment → ¬ StandsBehind v
alone_segment v e = λ h. subst StandsBehind e h

pub alone_delta : (v : What) → v ≡ what.Delta → ¬ StandsBehind v
alone_delta v e = λ h. subst StandsBehind e h

-- ---- what is told with it
-- a line that ends, and then the row in a line of its own
pub alone_told : {T U : Table} {o p : ℕ} {b c : List ℕ} (before line : Option Line) (s : Row) (x y : List ℕ) → U ≡ T
    → p ≡ o → c ≡ b → line ≡ None → ¬ StandsBehind s.what → ¬ IsOpen T s → EndsLine T o b before x
    → PrintsAlone U p c s y → TellsRow T o b before line s (x ++ y)
alone_told {T = T} {U = U} {o = o} {p = p} {b = b} {c = c} before line s x y is_T is_o is_b none alone closed ends
    prints = λ text rows order inside h.
    let made = subst (λ (T : Table). PrintsAlone T o b s y) is_T
    (subst (λ (n : ℕ). PrintsAlone U n b s y) is_o (subst (λ (l : List ℕ). PrintsAlone U p l s y) is_b prints)) in
    let there = made (text ++ x) rows order inside (begins_alone T (last_of rows) s alone)
    (ends text rows s.begin h.0) in (
      subst (λ (l : Option Line). HasPrinted T o b l (text ++ (x ++ y)) (rows ++ s ∷ []) s.end) (sym none)
          (subst (λ (t : List ℕ). HasPrinted T o b None t (rows ++ s ∷ []) s.end) (append_assoc text x y) there),
      settled_none T line rows s none closed,
    )

-- a row that goes on in a line, which ends then
pub last_told : {T U : Table} {o p : ℕ} {b c : List ℕ} (before mid line : Option Line) (s : Row) (x : List ℕ) → U ≡ T
    → p ≡ o → c ≡ b → line ≡ None → StandsBehind s.what → ¬ IsOpen T s
    → ((text : List ℕ) (rows : List Row) → s.begin < s.end → s.end ≤ length b → FitsIn T before (last_of rows) s
    → HasPrinted T o b before text rows s.begin → HasPrinted T o b mid text (rows ++ s ∷ []) s.end)
    → EndsLine U p c mid x → TellsRow T o b before line s x
last_told {T = T} {U = U} {o = o} {p = p} {b = b} {c = c} before mid line s x is_T is_o is_b none behind closed goes
    ends = λ text rows order inside h.
    let fits = fits_settled T before (last_of rows) s h.1 behind in
    let gone = goes text rows order inside fits h.0 in
    let there = ends_as mid x is_T is_o is_b ends text (rows ++ s ∷ []) s.end gone in (
      subst (λ (l : Option Line). HasPrinted T o b l (text ++ x) (rows ++ s ∷ []) s.end) (sym none) there,
      settled_none T line rows s none closed,
    )

-- a row that goes on in a line, which stays open
pub open_told : {T : Table} {o : ℕ} {b : List ℕ} (before line : Option Line) (s : Row) (l : Line) → line ≡ Some l
    → StandsBehind s.what → IsOpen T s
    → ((text : List ℕ) (rows : List Row) → s.begin < s.end → s.end ≤ length b → FitsIn T before (last_of rows) s
    → HasPrinted T o b before text rows s.begin → HasPrinted T o b line text (rows ++ s ∷ []) s.end)
    → TellsRow T o b before line s []
open_told {T = T} {o = o} {b = b} before line s l some behind opens goes = λ text rows order inside h. (
  subst (λ (t : List ℕ). HasPrinted T o b line t (rows ++ s ∷ []) s.end) (sym (append-nil text))
      (goes text rows order inside (fits_settled T before (last_of rows) s h.1 behind) h.0),
  settled_some T line l rows s some opens,
)

-- a row that begins a line behind one that ends, which stays open
pub begun_told : {T U : Table} {o p : ℕ} {b c : List ℕ} (before mid line : Option Line) (s : Row) (l : Line)
    (x : List ℕ) → U ≡ T → p ≡ o → c ≡ b → mid ≡ None → line ≡ Some l → ¬ StandsBehind s.what → IsOpen T s
    → EndsLine T o b before x
    → ((text : List ℕ) (rows : List Row) → s.begin < s.end → s.end ≤ length c → FitsIn U mid (last_of rows) s
    → HasPrinted U p c mid text rows s.begin → HasPrinted U p c line text (rows ++ s ∷ []) s.end)
    → TellsRow T o b before line s x
begun_told {T = T} {U = U} {o = o} {p = p} {b = b} {c = c} before mid line s l x is_T is_o is_b none some alone opens
    ends goes = λ text rows order inside h.
    let all = rows ++ s ∷ [] in
    let more = text ++ x in
    let there = subst (λ (k : Option Line). HasPrinted U p c k more rows s.begin) (sym none)
    (subst (λ (U : Table). HasPrinted U p c None more rows s.begin) (sym is_T)
    (subst (λ (n : ℕ). HasPrinted T n c None more rows s.begin) (sym is_o)
    (subst (λ (l : List ℕ). HasPrinted T o l None more rows s.begin) (sym is_b) (ends text rows s.begin h.0)))) in
    let fits = subst (λ (k : Option Line). FitsIn U k (last_of rows) s) (sym none)
    (begins_alone U (last_of rows) s alone) in
    let told = goes more rows order (omega (arith, ap length is_b)) fits there in (
      subst (λ (T : Table). HasPrinted T o b line more all s.end) is_T
          (subst (λ (n : ℕ). HasPrinted U n b line more all s.end) is_o
          (subst (λ (l : List ℕ). HasPrinted U p l line more all s.end) is_b told)),
      settled_some T line l rows s some opens,
    )

-- one row is a list of rows
pub tells_one : {T : Table} {o : ℕ} {b : List ℕ} {line line' : Option Line} {s : Row} {more : List ℕ}
    → TellsRow T o b line line' s more → TellsRows T o b line line' (s ∷ []) more
tells_one {T = T} {o = o} {b = b} {line = line} {line' = line'} {s = s} {more = more} h = λ text before at end order t.
    let there = h text before order.1 order.2
    (subst (λ (n : ℕ). HasTold T o b line text before n) (sym order.0) t) in
    subst (λ (n : ℕ). HasTold T o b line' (text ++ more) (before ++ s ∷ []) n) order.3 there

-- the line that a row goes on in
pub goes_from : (o : Option Line) (d : Line) (r : Row) (m : Line) → d.begin ≡ r.begin → d.depth ≡ r.depth
    → m.begin ≡ (unwrap_or o d).begin → m.depth ≡ (unwrap_or o d).depth → GoesOnFrom o r m
goes_from None d r m is_begin is_depth e f = (e ∙ is_begin, f ∙ is_depth)
goes_from (Some l) d r m is_begin is_depth e f = (e, f)
