-- What stands under a table stands under one that has grown: levels before nils, and what fills them.
use Rattle.std.proofs.Common.{◌≡◌, ℕ, List, [], ◌∷◌, ◌++◌, Bool, true, false, Option, Some, None, refl, sym}
use Rattle.std.proofs.Common.{ap, ◌∙◌, cond, append_assoc}
use Rattle.std.specs.Prelude.{◌==◌}
use Rattle.std.proofs.lemmas.Option.{none-some}
use Rattle.gob_types.specs.declared.id.TypeId.{TypeId}
use Rattle.gob_types.specs.declared.kind.Shape.{Shape}
use Rattle.gob_types.specs.Table.{Table, shape_of, HasDistinctIds, Extends}
use Rattle.gob_types.specs.Defined.{Defined, types, without, first_entries}
use Rattle.gob_types.proofs.PublicLaws.{extends_keeps}
use Rattle.gob_value.specs.Tree.{Tree}
use Rattle.gob_value.proofs.PublicLaws.{top_on}
use Rattle.gob_read.specs.Calls.Builders.{skip_building}
use Rattle.gob_read.proofs.PublicLaws.{append_nil}
use Rattle.gob_read.proofs.Machine.Grown.{stands_on}
use Rattle.gob_read.proofs.Machine.NilsStay.{reader_stays_clear, reader_stays_at_nil}
use Rattle.gob_filled.specs.Filled.{Fillings}
use Rattle.gob_filled.specs.Filled as spelled
use Rattle.gob_filled.specs.Standing.{Level}
use Rattle.gob_go.specs.Meaning.{IsFilled, is_filled, AreFillings, no_fillings, filling_then}
use Rattle.gob_filled.specs.Opens.{Open}
use Rattle.gob_go.specs.declared.filled.Filled.{Filled}
use Rattle.gob_go.specs.declared.filled.Filling.{Filling}
use Rattle.gob_go.specs.declared.level.Level as declared
use Rattle.gob_go.specs.declared.levels.Levels.{Levels}
use Rattle.gob_go.specs.Machine.HasRead.{OthersAre}
use Rattle.gob_go.specs.Machine.Parts.{DefinesLoosely}
use Rattle.gob_go.specs.Machine.Levels.{LevelIs, LevelAtNil, AreOuter, none_outer, outer_then}
use Rattle.gob_go.proofs.ReaderLaws.{fits}

pub extends_in_turn : {T U V : Table} → Extends T U → Extends U V → Extends T V
extends_in_turn {T = T} e f = record {
  more = e.more ++ f.more;
  grown = f.grown ∙ ap (λ (l : Table). l ++ f.more) e.grown ∙ append_assoc T e.more f.more;
  distinct = f.distinct;
}

mutual
  filled_grown : {U V : Table} {t : TypeId} {kept : Filled} {w : spelled.Filled} → Extends U V → IsFilled U t kept w
      → IsFilled V t kept w
  filled_grown e (is_filled s a) = is_filled (top_on (extends_keeps e) s) (fillings_grown e a)

  pub fillings_grown : {U V : Table} {kept : List Filling} {fs : Fillings} → Extends U V → AreFillings U kept fs
      → AreFillings V kept fs
  fillings_grown e no_fillings = no_fillings
  fillings_grown e (filling_then f a) = filling_then (filled_grown e f) (fillings_grown e a)

level_grown : {keep : Bool} {U V : Table} {l : declared.Level} {lv : Level} {c : List ℕ} {announced : ℕ} → Extends U V
    → LevelIs keep U l lv c announced → LevelIs keep V l lv c announced
level_grown {U = U} {V = V} {l = l} {lv = lv} {c = c} {announced = announced} e h = record {
  id = h.id;
  depth = h.depth;
  end = h.end;
  skeleton = h.skeleton;
  ready = h.ready;
  grown = extends_in_turn h.grown e;
  reads = stands_on lv.type lv.limit announced skip_building.received (lv.done ++ c) l.reader.run e h.reads;
  clear = reader_stays_clear skip_building.received l.reader.run e
      (fits U lv.type lv.limit announced (lv.done ++ c) skip_building.received l.reader.run h.reads) h.clear;
}

pub nil_grown : {keep : Bool} {U V : Table} {l : declared.Level} {lv : Level} {c : List ℕ} {d : ℕ} → Extends U V
    → LevelAtNil keep U l lv c d → LevelAtNil keep V l lv c d
nil_grown {l = l} e h = record {
  announced = h.announced;
  is = level_grown e h.is;
  at_nil = reader_stays_at_nil l.reader.run e h.at_nil;
  expects = h.expects;
  not_deep = h.not_deep;
  shallow = h.shallow;
}

outer_grown : {keep : Bool} {U V : Table} {outer : List declared.Level} {levels : List Level} {os : List Open}
    → Extends U V
    → AreOuter keep U outer levels os → AreOuter keep V outer levels os
outer_grown e none_outer = none_outer
outer_grown e (outer_then a h f k) = outer_then (outer_grown e a) (nil_grown e h) (λ on. fillings_grown e (f on)) k

pub others_grown : {keep : Bool} {U V : Table} {levels : Levels} {around : List Level} {o : Open} {os : List Open}
    {left : ℕ}
    → Extends U V → OthersAre keep U levels around o os left → OthersAre keep V levels around o os left
others_grown e h = record {
  fillings = λ on. fillings_grown e (h.fillings on);
  outer = outer_grown e h.outer;
  left_is = h.left_is;
}

-- ---- the types of a table have ids of their own, so that a definition behind them is of another one

none_behind : (x : Shape) (b : Bool) {o : Option Shape} → cond b (Some x) o ≡ None → o ≡ None
none_behind x true e = absurd (none-some _ (sym e))
none_behind x false e = e

none_still : (x : Shape) (b : Bool) (o : Option Shape) {p : Option Shape} → cond b (Some x) o ≡ None → p ≡ None
    → cond b (Some x) p ≡ None
none_still x true o e f = absurd (none-some _ (sym e))
none_still x false o e f = f

gone : (t : TypeId) (T : Table) → shape_of (without t T) t ≡ None
gone t [] = refl
gone t (entry ∷ T) = by (entry.0.0 == t.0) refl (gone t T)
  where
    by : (b : Bool) → (entry.0.0 == t.0) ≡ b → shape_of (without t T) t ≡ None
        → shape_of (cond b (without t T) (entry ∷ without t T)) t ≡ None
    by true e rest = rest
    by false e rest = ap (λ b. cond b (Some entry.1) (shape_of (without t T) t)) e ∙ rest

still_none : (t u : TypeId) (T : Table) → shape_of T u ≡ None → shape_of (without t T) u ≡ None
still_none t u [] e = e
still_none t u (entry ∷ T) e =
    by (entry.0.0 == t.0) (still_none t u T (none_behind entry.1 (entry.0.0 == u.0) e))
  where
    by : (b : Bool) → shape_of (without t T) u ≡ None → shape_of (cond b (without t T) (entry ∷ without t T)) u ≡ None
    by true rest = rest
    by false rest = none_still entry.1 (entry.0.0 == u.0) (shape_of T u) e rest

still_distinct : (t : TypeId) (T : Table) → HasDistinctIds T → HasDistinctIds (without t T)
still_distinct t [] d = tt
still_distinct t (entry ∷ T) d = by (entry.0.0 == t.0) (still_distinct t T d.1)
  where
    by : (b : Bool) → HasDistinctIds (without t T) → HasDistinctIds (cond b (without t T) (entry ∷ without t T))
    by true rest = rest
    by false rest = (still_none t entry.0 T d.0, rest)

first_distinct : (T : Table) → HasDistinctIds (first_entries T)
first_distinct [] = tt
first_distinct (entry ∷ T) = (
  gone entry.0 (first_entries T),
  still_distinct entry.0 (first_entries T) (first_distinct T),
)

pub definition_extends : {id : TypeId} {v : Tree} {d d' : Defined} → DefinesLoosely id v d d'
    → Extends (types d) (types d')
definition_extends {id = id} {d' = d'} given = record {
  more = (id, given.shape) ∷ [];
  grown = given.behind;
  distinct = first_distinct d'.entries;
}

pub extends_itself : (d : Defined) → Extends (types d) (types d)
extends_itself d = record { more = []; grown = sym (append_nil (types d)); distinct = first_distinct d.entries }
