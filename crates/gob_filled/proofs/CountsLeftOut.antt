-- A filled value is spelled without the counts of its segments too.
use Rattle.std.proofs.Common.{◌≡◌, ℕ, ◌+◌, ◌≤◌, max, List, [], ◌∷◌, ◌++◌, arith, sym, ◌∙◌, subst}
use Rattle.std.proofs.Common.{append_assoc}
use Rattle.gob_types.specs.declared.id.TypeId.{TypeId}
use Rattle.gob_types.specs.Table.{Table}
use Rattle.gob_value.specs.Tree.{Tree, depth}
use Rattle.gob_value.specs.Top.{SpellsTop}
use Rattle.gob_read.proofs.Grammar.Deep.{expects_top_within}
use Rattle.gob_read.proofs.Grammar.Prefixes.{append_nil}
use Rattle.gob_stream.specs.Bounds.{Bounds}
use Rattle.gob_filled.specs.Filled as counted
use Rattle.gob_filled.specs.Filled.{Definitions, Filled, Fillings, AreDefined, SpellsFilled, Fills}
use Rattle.gob_filled.specs.Uncounted.{AreDefinedUncounted, none_defined, one_defined, with_fillings}
use Rattle.gob_filled.specs.Uncounted.{FillsUncounted, as_it_stands, next_filled}
use Rattle.gob_filled.specs.Laws.{IsSpelledUncounted}

record DefinedSo (base : Table) (L : Bounds) (T : Table) (ds : Definitions) (U : Table) : Type 0 where
  pub bytes : List ℕ
  pub defined : AreDefinedUncounted base L T ds bytes U

defined_so : {base : Table} {L : Bounds} {T U : Table} {ds : Definitions} {b : List ℕ} → AreDefined base L T ds b U
    → DefinedSo base L T ds U
defined_so counted.none_defined = record { bytes = []; defined = none_defined }
defined_so (counted.one_defined {b = b} o d ds) = let r = defined_so ds in
    record { bytes = b ++ r.bytes; defined = one_defined d r.defined }

record FilledSo (base : Table) (L : Bounds) (T : Table) (t : TypeId) (limit : ℕ) (U : Table) (done left : List ℕ)
    (fs : Fillings) (X : Table) : Type 0 where
  pub depth : ℕ
  pub bytes : List ℕ
  pub low : depth ≤ limit
  pub fills : FillsUncounted base L T t U done left fs depth bytes X

behind_nil : (done c left : List ℕ) → done ++ (c ++ (0 ∷ left)) ≡ (done ++ (c ++ 0 ∷ [])) ++ left
behind_nil done c left = simp append_assoc

mutual
  pub spelled_so : {base : Table} {L : Bounds} {T U : Table} {t : TypeId} {limit : ℕ} {v : Filled} {ls : List ℕ}
      → SpellsFilled base L T t limit v ls U → IsSpelledUncounted base L T t limit v U
  spelled_so (counted.with_fillings {v = v} sp de fl) =
      let r = filled_so fl sp de in
      let low = r.low in
      record {
        deepest = max (depth v) r.depth;
        bytes = r.bytes;
        low = omega arith;
        spelled = with_fillings sp r.fills;
      }

  filled_so : {base : Table} {L : Bounds} {T U X : Table} {t : TypeId} {limit : ℕ} {done left ls : List ℕ}
      {fs : Fillings} {v : Tree} → Fills base L T t limit U done left fs ls X → SpellsTop T t v (done ++ left)
      → depth v ≤ limit → FilledSo base L T t limit U done left fs X
  filled_so (counted.as_it_stands {left = left} o) sp de = record {
    depth = 0;
    bytes = left;
    low = omega arith;
    fills = as_it_stands;
  }
  filled_so {T = T} {t = t} {v = v}
      (counted.next_filled {d = d} {done = done} {left = left} {s = s} {a = a} {n = n} c oc ex some os u defs may sg vs
      g fl) sp de =
      let ds = defined_so defs in
      let inner = spelled_so vs in
      let rest = filled_so fl (subst (SpellsTop T t v) (behind_nil done c left) sp) de in
      let place = expects_top_within (0 ∷ left) [] sp ex (append_assoc done c (0 ∷ left)
      ∙ sym (append_nil (done ++ (c ++ (0 ∷ left))))) in
      let low = inner.low in
      let rest_low = rest.low in
      record {
        depth = max (d + inner.deepest) rest.depth;
        bytes = c ++ (a ++ (s ++ (ds.bytes ++ (n ++ (inner.bytes ++ rest.bytes)))));
        low = omega arith;
        fills = next_filled c ex some u ds.defined may sg inner.spelled rest.fills;
      }
