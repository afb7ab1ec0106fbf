-- How a value is put as what is received of it, and why it isn't.
use Rattle.std.specs.Global.{Global}
use Rattle.std.proofs.Common.{◌≡◌, ◌∙◌, ap, refl, subst, sym, ℕ, Bool, true, false, List, [], ◌∷◌, None}
use Rattle.std.proofs.Common.{Some}
use Rattle.std.specs.Prelude.{Vec, slice_get}
use Rattle.gob_types.specs.Table.{Table}
use Rattle.gob_value.specs.Tree.{Tree}
use Rattle.gob_types.specs.declared.id.TypeId.{TypeId}
use Rattle.gob_match.specs.Matching.{Match}
use Rattle.gob_match.specs.Pairs.{of_types}
use Rattle.gob_match.specs.declared.step.TypeStep.{TypeStep}
use Rattle.gob_left_out.specs.LeftOut.{AreLeftOut, HasRow, IsFirstPath, Row}
use Rattle.gob_left_out.specs.declared.field.UnwantedField.{UnwantedField}
use Rattle.gob_filled.specs.Filled as spelled
use Rattle.gob_filled.specs.Stream.{FilledItem}
use Rattle.gob_filled_match.specs.Calls.{MakesReceived}
use Rattle.gob_go.specs.Meaning.{IsFilled}
use Rattle.gob_go.specs.declared.filled.Filled.{Filled}
use Rattle.gob_join.specs.Taking.{IsFilledFrom, TakesHeld}
use Rattle.gob_convert.specs.Converting.{IsWholeIf, skeleton_of}
use Rattle.gob_convert.specs.Running.{LeavesField, Tallies}
use Rattle.gob_convert.specs.declared.conversion.Conversion.{Conversion}
use Rattle.gob_convert.specs.Machine.Converting.{AreValues, ids_of, LeavesRows, PutsReceived}

pub filled_from : {T W U : Table} {t u : TypeId} {made : Filled} {w : spelled.Filled}
    (m : MakesReceived T W t u made w) → AreValues W u U → IsFilledFrom U T u made m.skeleton m.fillings
filled_from m a = record { spelled = a.each m.skeleton _ m.made_spelled; mean = m.mean }

pub puts_received : {all : Bool} {c c' : Conversion} {items : List FilledItem} {bytes old new : List ℕ} {T W : Table}
    {t u : TypeId} {made : Filled} {w : spelled.Filled} {rows : List Row} → LeavesRows all T W t u w rows
    → Match T W t u
    → Tallies c.left_out c'.left_out (rows ∷ [])
    → (m : MakesReceived T W t u made w)
    → TakesHeld c.writer c'.writer items bytes old new T (ids_of c) (ids_of c') u m.skeleton m.fillings
    → PutsReceived all c c' items bytes old new T W t u w
puts_received {rows = rows} leaves match tallies m h = record {
  more = h.more;
  made = spelled.filled m.skeleton h.fillings;
  on = h.on;
  renaming = h.renaming;
  extends = h.extends;
  values = h.values;
  rows = rows;
  tallies = tallies;
  converted = record {
    match = match;
    whole = leaves.whole;
    left_out = leaves.left_out;
    skeleton = m.skeleton;
    kept = m.fillings;
    renamed = h.fillings;
    received = m.receives;
    are_renamed = h.renamed;
    made_is = refl;
  };
}

-- ---- what it leaves out
pub left_of : {T W : Table} {t u i : TypeId} {kept : Filled} {rows : List Row}
    → ((v : Tree) (fs : spelled.Fillings) → IsFilled T i kept (spelled.filled v fs) → AreLeftOut T W (of_types t u) v
    rows)
    → (w : spelled.Filled) → IsFilled T i kept w → AreLeftOut T W (of_types t u) (skeleton_of w) rows
left_of f (spelled.filled v fs) m = f v fs m

no_row : {rows : List Row} {x : UnwantedField} → rows ≡ [] → HasRow rows x → ⊥
no_row e h = let none : None ≡ Some h.row = sym (ap (λ l. slice_get l h.place) e) ∙ h.there in absurd (cc none)

pub leaves_some : {T W : Table} {t u : TypeId} (w : spelled.Filled) {rows : List Row} (all : Bool) → all ≡ false
    → AreLeftOut T W (of_types t u) (skeleton_of w) rows → LeavesRows all T W t u w rows
leaves_some w false e a = record { whole = tt; left_out = a }
leaves_some w true e a = absurd (cc e)

pub leaves_nothing : {T W : Table} {t u : TypeId} (w : spelled.Filled) {rows none : List Row} (all : Bool)
    → AreLeftOut T W (of_types t u) (skeleton_of w) rows → rows ≡ [] → none ≡ [] → LeavesRows all T W t u w none
leaves_nothing {T = T} {W = W} {t = t} {u = u} w all a e n = record {
  whole = by all;
  left_out = subst (λ rows. AreLeftOut T W (of_types t u) (skeleton_of w) rows) (e ∙ sym n) a;
}
  where
    by : (all : Bool) → IsWholeIf all T W t u w
    by false = tt
    by true = λ path x l. no_row e (a.all path x l)

-- the first field that it leaves out
pub leaves_field : {T W : Table} {t u : TypeId} {w : spelled.Filled} {rows : List Row} {path : Vec TypeStep Global}
    → AreLeftOut T W (of_types t u) (skeleton_of w) rows → IsFirstPath rows path → LeavesField W u path.items T t w
leaves_field {path = path} a f = record { field = f.field; left = a.each 0 (f.field, path) f.there }
