-- How far a printer of rows has come, for private clauses.
use Rattle.std.specs.Prelude.{◌≡◌, ℕ, ◌+◌, ◌<◌, ◌≤◌, List, [], ◌∷◌, ◌++◌, length, take, Option, None, Some, Result, Ok}
use Rattle.std.specs.Prelude.{Err}
use Rattle.std.proofs.Common.{refl, sym, subst, ◌∙◌, append_assoc, append-nil}
use Rattle.gob_types.specs.Table.{Table}
use Rattle.gob_explain.specs.Column.{ColumnIs, IsSomeLine, saturated}
use Rattle.gob_explain.specs.Lines.{AreLines, AreOneLine, BeginsLine, IsOpen, SharesLine, last_of, last_row}
use Rattle.gob_explain.specs.Putting.{PutsOn}
use Rattle.gob_explain.specs.Walk.{between}
use Rattle.gob_explain.specs.Machine.Putting.{puts_both, puts_nothing}
use Rattle.gob_explain.specs.declared.row.Row.{Row}
use Rattle.gob_explain.specs.declared.text.lines_out.LineFault.{LineFault}
use Rattle.gob_explain.specs.declared.text.printer.Line.{Line}

-- where the line under way begins
abbrev pub begin_of : Option Line → ℕ → ℕ
begin_of None at = at
begin_of (Some line) at = line.begin

-- it has the rows behind those of the lines that have ended
pub record IsLineOf (T : Table) (line : Line) (ended under_way : List Row) (at : ℕ) : Type 0 where
  pub first : Row
  pub others : List Row
  pub rows : under_way ≡ first ∷ others
  pub begins : BeginsLine T (last_of ended) first
  pub one : AreOneLine T first others
  pub begin : line.begin ≡ first.begin
  pub depth : line.depth ≡ first.depth
  pub end : line.end ≡ at
  pub last : (last_row first others).end ≡ at

abbrev pub IsUnderWay : Table → Option Line → (ended under_way : List Row) → ℕ → Type 0
IsUnderWay T None ended under_way at = under_way ≡ []
IsUnderWay T (Some line) ended under_way at = IsLineOf T line ended under_way at

-- the text has the lines of the rows, which lead up to the place, but for the line under way
pub record HasPrinted (T : Table) (offset : ℕ) (body : List ℕ) (line : Option Line) (text : List ℕ) (rows : List Row)
    (at : ℕ) : Type 0 where
  pub ended : List Row
  pub under_way : List Row
  pub all : rows ≡ ended ++ under_way
  pub lines : AreLines T offset body ended text
  pub of_line : IsUnderWay T line ended under_way at
  pub column : ColumnIs offset (take (begin_of line at) body) text
  pub order : begin_of line at ≤ at
  pub inside : at ≤ length body

-- a row goes on in the line under way, or begins one where none is
abbrev pub FitsIn : Table → Option Line → Option Row → Row → Type 0
FitsIn T None before r = BeginsLine T before r
FitsIn T (Some line) None r = ⊥
FitsIn T (Some line) (Some before) r = SharesLine T before r

-- a line is under way exactly where that of the last row goes on behind it
abbrev pub IsSettled : Table → Option Line → Option Row → Type 0
IsSettled T None None = Unit {0}
IsSettled T None (Some before) = ¬ IsOpen T before
IsSettled T (Some line) None = ⊥
IsSettled T (Some line) (Some before) = IsOpen T before

-- what the printer has told of rows
abbrev pub HasTold : Table → (offset : ℕ) → (body : List ℕ) → Option Line → (text : List ℕ) → List Row → ℕ → Type 0
HasTold T offset body line text rows at =
    HasPrinted T offset body line text rows at × IsSettled T line (last_of rows)

-- ---- what calls make of what was printed, by more text
-- it is the line of these bytes of the body
abbrev pub IsLineText : (offset : ℕ) → (body : List ℕ) → Line → (more : List ℕ) → Type 0
IsLineText offset body line more = line.begin ≤ line.end → line.end ≤ length body
    → IsSomeLine (saturated (offset + line.begin)) (between line.begin line.end body) (saturated (line.depth + 1)) more

-- the line under way has ended
abbrev pub EndsLine : Table → (offset : ℕ) → (body : List ℕ) → Option Line → (more : List ℕ) → Type 0
EndsLine T offset body line more = (text : List ℕ) (rows : List Row) (at : ℕ)
    → HasPrinted T offset body line text rows at → HasPrinted T offset body None (text ++ more) rows at

-- a row has a line of its own
abbrev pub PrintsAlone : Table → (offset : ℕ) → (body : List ℕ) → Row → (more : List ℕ) → Type 0
PrintsAlone T offset body r more = (text : List ℕ) (rows : List Row) → r.begin < r.end → r.end ≤ length body
    → BeginsLine T (last_of rows) r → HasPrinted T offset body None text rows r.begin
    → HasPrinted T offset body None (text ++ more) (rows ++ r ∷ []) r.end

-- a row was told
abbrev pub TellsRow : Table → (offset : ℕ) → (body : List ℕ) → (line line' : Option Line) → Row → (more : List ℕ)
    → Type 0
TellsRow T offset body line line' r more = (text : List ℕ) (rows : List Row) → r.begin < r.end → r.end ≤ length body
    → HasTold T offset body line text rows r.begin → HasTold T offset body line' (text ++ more) (rows ++ r ∷ []) r.end

-- rows one behind another from one place up to the other, of so many bytes
abbrev pub AreInOrder : (size at : ℕ) → List Row → (end : ℕ) → Type 0
AreInOrder size at [] end = at ≡ end
AreInOrder size at (r ∷ rows) end = (r.begin ≡ at) × (r.begin < r.end) × (r.end ≤ size) × AreInOrder size r.end rows end

-- rows were told
abbrev pub TellsRows : Table → (offset : ℕ) → (body : List ℕ) → (line line' : Option Line) → List Row
    → (more : List ℕ) → Type 0
TellsRows T offset body line line' rows more = (text : List ℕ) (before : List Row) (at end : ℕ)
    → AreInOrder (length body) at rows end → HasTold T offset body line text before at
    → HasTold T offset body line' (text ++ more) (before ++ rows) end

-- what a printer is that was told of the rows: more text was put out
pub record PrintsRows {O E : Type 0} (puts : O → O → List ℕ → Result (Unit {0}) E → Type 0) (T : Table) (offset : ℕ)
    (body : List ℕ) (line : Option Line) (out : O) (fault : Option (LineFault E)) (T' : Table) (offset' : ℕ)
    (body' : List ℕ) (line' : Option Line) (out' : O) (fault' : Option (LineFault E)) (rows : List Row) : Type 0 where
  pub types : T' ≡ T
  pub offset_is : offset' ≡ offset
  pub bytes : body' ≡ body
  pub more : List ℕ
  pub put : PutsOn puts out fault out' fault' more
  pub tells : TellsRows T offset body line line' rows more

pub tells_nothing : (T : Table) (offset : ℕ) (body : List ℕ) (line : Option Line)
    → TellsRows T offset body line line [] []
tells_nothing T offset body line = λ text before at end e h.
    subst (λ (t : List ℕ). HasTold T offset body line t (before ++ []) end) (sym (append-nil text))
    (subst (λ (rows : List Row). HasTold T offset body line text rows end) (sym (append-nil before))
    (subst (λ (n : ℕ). HasTold T offset body line text before n) e h))

-- rows behind rows
record GoOn (size at : ℕ) (x y : List Row) (end : ℕ) : Type 0 where
  place : ℕ
  first : AreInOrder size at x place
  then : AreInOrder size place y end

split_order : (size at end : ℕ) (x y : List Row) → AreInOrder size at (x ++ y) end → GoOn size at x y end
split_order size at end [] y o = record { place = at; first = refl; then = o }
split_order size at end (r ∷ x) y o =
    let g = split_order size r.end end x y o.3 in
    record { place = g.place; first = (o.0, o.1, o.2, g.first); then = g.then }

tells_both : (T : Table) (offset : ℕ) (body : List ℕ) (line line' line'' : Option Line) (x y : List Row)
    (more last : List ℕ) → TellsRows T offset body line line' x more → TellsRows T offset body line' line'' y last
    → TellsRows T offset body line line'' (x ++ y) (more ++ last)
tells_both T offset body line line' line'' x y more last p q = λ text before at end o h.
    let g = split_order (length body) at end x y o in
    let both = q (text ++ more) (before ++ x) g.place end g.then (p text before at g.place g.first h) in
    subst (λ (t : List ℕ). HasTold T offset body line'' t (before ++ (x ++ y)) end) (append_assoc text more last)
    (subst (λ (rows : List Row). HasTold T offset body line'' ((text ++ more) ++ last) rows end)
    (append_assoc before x y) both)

-- by a printer of the same bytes
pub tells_as : {T U : Table} {o p : ℕ} {b c : List ℕ} (line line' : Option Line) (rows : List Row) (more : List ℕ)
    → U ≡ T → p ≡ o → c ≡ b → TellsRows U p c line line' rows more → TellsRows T o b line line' rows more
tells_as {T = T} {U = U} {o = o} {p = p} {b = b} {c = c} line line' rows more is_T is_o is_b h =
    subst (λ (T : Table). TellsRows T o b line line' rows more) is_T
    (subst (λ (n : ℕ). TellsRows U n b line line' rows more) is_o
    (subst (λ (l : List ℕ). TellsRows U p l line line' rows more) is_b h))

pub ends_as : {T U : Table} {o p : ℕ} {b c : List ℕ} (line : Option Line) (more : List ℕ) → U ≡ T → p ≡ o → c ≡ b
    → EndsLine U p c line more → EndsLine T o b line more
ends_as {T = T} {U = U} {o = o} {p = p} {b = b} {c = c} line more is_T is_o is_b h =
    subst (λ (T : Table). EndsLine T o b line more) is_T
    (subst (λ (n : ℕ). EndsLine U n b line more) is_o (subst (λ (l : List ℕ). EndsLine U p l line more) is_b h))

module _ {O E : Type 0} (puts : O → O → List ℕ → Result (Unit {0}) E → Type 0) where
  pub prints_nothing : ((a : O) → puts a a [] (Ok tt)) → (T : Table) (offset : ℕ) (body : List ℕ)
      (line : Option Line) (out : O) (f : Option (LineFault E))
      → PrintsRows puts T offset body line out f T offset body line out f []
  prints_nothing nothing T offset body line out f = record {
    types = refl;
    offset_is = refl;
    bytes = refl;
    more = [];
    put = puts_nothing puts nothing out f;
    tells = tells_nothing T offset body line;
  }

  pub prints_both : ((a b c : O) (x y : List ℕ) (r : Result (Unit {0}) E)
      → puts a b x (Ok tt) → puts b c y r → puts a c (x ++ y) r)
      → ((a b : O) (x y : List ℕ) (e : E) → puts a b x (Err e) → puts a b (x ++ y) (Err e))
      → (T : Table) (o : ℕ) (b : List ℕ) (line : Option Line) (out : O) (f : Option (LineFault E)) (T' : Table)
      (o' : ℕ) (b' : List ℕ) (line' : Option Line) (out' : O) (f' : Option (LineFault E)) (T'' : Table) (o'' : ℕ)
      (b'' : List ℕ) (line'' : Option Line) (out'' : O) (f'' : Option (LineFault E)) (x y : List Row)
      → PrintsRows puts T o b line out f T' o' b' line' out' f' x
      → PrintsRows puts T' o' b' line' out' f' T'' o'' b'' line'' out'' f'' y
      → PrintsRows puts T o b line out f T'' o'' b'' line'' out'' f'' (x ++ y)
  prints_both joined cut T o b line out f T' o' b' line' out' f' T'' o'' b'' line'' out'' f'' x y p q = record {
    types = q.types ∙ p.types;
    offset_is = q.offset_is ∙ p.offset_is;
    bytes = q.bytes ∙ p.bytes;
    more = p.more ++ q.more;
    put = puts_both puts joined cut out out' out'' f f' f'' p.more q.more p.put q.put;
    tells = tells_both T o b line line' line'' x y p.more q.more p.tells
        (tells_as line' line'' y q.more p.types p.offset_is p.bytes q.tells);
  }
