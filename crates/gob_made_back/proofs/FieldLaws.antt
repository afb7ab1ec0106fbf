-- Structs: members that are read are printed in the fields' order, but for zeros that are left out.
use Rattle.std.proofs.Common.{◌≡◌, ◌∙◌, ◌≢◌, ℕ, List, [], ◌∷◌, Bool, Some, ap, sym, subst}
use Rattle.std.specs.Prelude.{slice_get}
use Rattle.json.specs.Json.{Json, Members}
use Rattle.json.specs.Json as json
use Rattle.gob_types.specs.declared.kind.Field.{Field}
use Rattle.gob_types.specs.Table.{Table, shape_of}
use Rattle.gob_types.proofs.PublicLaws.{some_injective}
use Rattle.gob_value.specs.Tree.{Tree, Fields, no_field, field}
use Rattle.gob_json.specs.Json.{field_name, field_type}
use Rattle.gob_plain.specs.Plain.{SayFields, Says, name_text}
use Rattle.gob_make.specs.Plain.{IsBelow, Puts, ReadsPlain, here, further}
use Rattle.gob_make.specs.Zero.{AreKept, IsLeftOut}
use Rattle.gob_make.specs.Zero as zero
use Rattle.gob_made_back.specs.Alike.{AreShown, IsBefore, PutsSaid, Said, SaysLeftOut}
use Rattle.gob_made_back.specs.Alike as alike
use Rattle.gob_made_back.proofs.KeyLaws.{guessed}
use Rattle.gob_made_back.proofs.MapLaws.{Goes}
use Rattle.gob_made_back.proofs.ZeroLaws.{zero_read, zero_said}

-- the value of the field of this number is the one that the JSON says
pub record GoodField (lenient : Bool) (T : Table) (types : List Field) (f : ℕ) (j : Json) (v : Tree) : Type 0 where
  pub type : Field
  pub at : slice_get types f ≡ Some type
  pub goes : Goes lenient T type.id j v
  pub said : IsLeftOut T types f v → SaysLeftOut T types f j
  pub read : SaysLeftOut T types f j → IsLeftOut T types f v

pub data GoodFields (lenient : Bool) (T : Table) (types : List Field) : Said → Fields → Type 0 where
  none : GoodFields lenient T types [] no_field
  one_more : {f : ℕ} {j : Json} {v : Tree} {said : Said} {fs : Fields} → GoodField lenient T types f j v
      → GoodFields lenient T types said fs → GoodFields lenient T types ((f, j) ∷ said) (field f v fs)

pub field_goes : {lenient : Bool} {T : Table} {types : List Field} {f : ℕ} {e : Field} {j : Json} {v : Tree}
    → slice_get types f ≡ Some e → j ≢ json.null → ReadsPlain lenient T e.id j v → Goes lenient T e.id j v
    → GoodField lenient T types f j v
field_goes {T = T} {f = f} {e = e} {j = j} {v = v} at some r goes = record {
  type = e;
  at = at;
  goes = goes;
  said = λ out.
      let same = some_injective (sym out.is_field ∙ at) in
      let has = subst (λ (g : Field). shape_of T g.id ≡ Some out.shape) same out.has in
      record {
        field = e;
        shape = out.shape;
        is_field = at;
        has = has;
        zero = zero_said out.shape r some has out.dropped;
      };
  read = λ out.
      let same = some_injective (sym out.is_field ∙ at) in
      let has = subst (λ (g : Field). shape_of T g.id ≡ Some out.shape) same out.has in
      record {
        field = e;
        shape = out.shape;
        is_field = at;
        has = has;
        dropped = zero_read out.shape r some has out.zero;
      };
}

-- ---- one is put among others

before_good : {lenient : Bool} {T : Table} {types : List Field} (f : ℕ) {said : Said} {fs : Fields} → IsBelow f fs
    → GoodFields lenient T types said fs → IsBefore f said
before_good f below none = tt
before_good f below (one_more one g) = below

pub puts_good : {lenient : Bool} {T : Table} {types : List Field} {f : ℕ} {j : Json} {v : Tree} {least : ℕ}
    {said : Said} {fs more : Fields} → GoodField lenient T types f j v → Puts f v least fs more
    → GoodFields lenient T types said fs
    → (all : Said) × PutsSaid f j least said all × GoodFields lenient T types all more
puts_good {f = f} {j = j} {said = said} one (here least below) g =
    ((f, j) ∷ said, alike.here least (before_good f below g), one_more one g)
puts_good one (further p) (one_more {f = g} {j = i} other rest) =
    let r = puts_good one p rest in
    ((g, i) ∷ r.0, alike.further r.1, one_more other r.2)

-- ---- what is printed

pub kept_shown : {lenient : Bool} {T : Table} {types : List Field} {said : Said} {fs gs : Fields} (ks : Members)
    → GoodFields lenient T types said fs → AreKept T types fs gs → SayFields guessed T types gs ks
    → AreShown lenient T types said ks
kept_shown json.no_members none zero.no_more s = alike.no_field
kept_shown (json.member name k ks) none zero.no_more s = absurd s
kept_shown ks (one_more one g) (zero.left_out is keeps) s = alike.left_out (one.said is) (kept_shown ks g keeps s)
kept_shown json.no_members (one_more one g) (zero.kept other keeps) s = absurd s
kept_shown {lenient = lenient} {T = T} {types = types} (json.member name k ks)
    (one_more {f = f} {j = j} {v = v} {said = said} one g) (zero.kept other keeps) s =
    subst (λ (n : List ℕ). AreShown lenient T types ((f, j) ∷ said) (json.member n k ks))
    (sym (s.0 ∙ ap (λ e. name_text (field_name e)) one.at))
    (alike.shown one.at (λ out. other (one.read out))
    (one.goes k (subst (λ e. Says guessed T (field_type e) v k) one.at s.1)) (kept_shown ks g keeps s.2))
