-- What is spelled without counts, in bytes few enough for these, is a filled value.
use Rattle.std.proofs.Common.{◌≡◌, ℕ, ◌+◌, ◌*◌, ◌-◌, ◌^◌, ◌<◌, ◌≤◌, max, List, [], ◌∷◌, ◌++◌, length, arith}
use Rattle.std.proofs.Common.{sym, subst, append_assoc, length-append}
use Rattle.gob_num.specs.Unsigned.{AreBytes}
use Rattle.gob_num.proofs.PublicLaws.{bytes_rest, bytes_prefix, bytes-append, unsigned_length, unsigned_spelled}
use Rattle.gob_num.proofs.PublicLaws.{signed_unsigned}
use Rattle.gob_types.specs.declared.id.TypeId.{TypeId}
use Rattle.gob_types.specs.Table.{Table}
use Rattle.gob_value.specs.Tree.{Tree}
use Rattle.gob_stream.specs.Bounds.{Bounds}
use Rattle.gob_filled.specs.Definition.{Defines, defines}
use Rattle.gob_filled.specs.Filled as counted
use Rattle.gob_filled.specs.Filled.{cut, Definitions, Filled, Fillings, AreDefined, SpellsFilled, Fills, AreSegments}
use Rattle.gob_filled.specs.Filled.{last_segment, next_segment}
use Rattle.gob_filled.specs.Uncounted.{AreDefinedUncounted, none_defined, one_defined, SpellsUncounted, with_fillings}
use Rattle.gob_filled.specs.Uncounted.{FillsUncounted, as_it_stands, next_filled}
use Rattle.gob_filled.specs.Laws.{IsSpelledCounted}
use Rattle.gob_filled.proofs.Sound.{segments_bytes}

-- letters of bytes and cuts: with the counts of all segments but one they are at most so many bytes
data Letters : ℕ → List ℕ → Type 0 where
  no_cut : {n : ℕ} (s : List ℕ) → AreBytes s → length s ≤ n → Letters n s
  then_cut : {m n : ℕ} {ls : List ℕ} (s : List ℕ) → AreBytes s → length s + 9 + m ≤ n → Letters m ls
      → Letters n (s ++ (cut ∷ ls))

wider : {m n : ℕ} {ls : List ℕ} → Letters m ls → m ≤ n → Letters n ls
wider (no_cut s o l) k = no_cut s o (omega arith)
wider (then_cut s o l p) k = then_cut s o (omega arith) p

before : {m n : ℕ} {ls : List ℕ} (p : List ℕ) → AreBytes p → Letters m ls → length p + m ≤ n → Letters n (p ++ ls)
before p o (no_cut s k l) h = no_cut (p ++ s) (bytes-append p s o k) (omega (arith, length-append p s))
before {n = n} p o (then_cut {ls = ls} s k l q) h =
    subst (Letters n) (append_assoc p s (cut ∷ ls))
    (then_cut (p ++ s) (bytes-append p s o k) (omega (arith, length-append p s)) q)

record Counted (n : ℕ) (ls : List ℕ) : Type 0 where
  pub bytes : List ℕ
  pub segments : AreSegments ls bytes
  pub few : length bytes ≤ n + 9

counted_so : {n : ℕ} {ls : List ℕ} → Letters n ls → n < 2 ^ 64 → Counted n ls
counted_so (no_cut s o l) k =
    let c = unsigned_spelled (length s) (omega arith) in
    let few = unsigned_length c.spelled in
    record { bytes = c.bytes ++ s; segments = last_segment s o c.spelled; few = omega (arith, length-append c.bytes s) }
counted_so (then_cut s o l p) k =
    let c = unsigned_spelled (length s) (omega arith) in
    let few = unsigned_length c.spelled in
    let r = counted_so p (omega arith) in
    let less = r.few in
    record {
      bytes = c.bytes ++ (s ++ r.bytes);
      segments = next_segment s o c.spelled r.segments;
      few = omega (arith, length-append c.bytes (s ++ r.bytes), length-append s r.bytes);
    }

-- definitions before other letters
record DefinedSo (base : Table) (L : Bounds) (T : Table) (ds : Definitions) (b : List ℕ) (U : Table) : Type 0 where
  pub letters : List ℕ
  pub defined : AreDefined base L T ds letters U
  pub before : {m n : ℕ} {ls : List ℕ} → Letters m ls → 10 * length b + m ≤ n → Letters n (letters ++ ls)

definition_some : {base : Table} {L : Bounds} {T U : Table} {id : TypeId} {v : Tree} {b : List ℕ}
    → Defines base L T id v b U → 0 < length b
definition_some (defines {a = a} {b = b} may de d i sg sp) =
    let some = unsigned_length (signed_unsigned sg).1 in omega (arith, length-append a b)

defined_so : {base : Table} {L : Bounds} {T U : Table} {ds : Definitions} {b : List ℕ}
    → AreDefinedUncounted base L T ds b U → AreBytes b → DefinedSo base L T ds b U
defined_so none_defined o = record {
  letters = [];
  defined = counted.none_defined;
  before = λ p h. wider p (omega arith);
}
defined_so (one_defined {b = b} {c = c} d ds) o =
    let ob = bytes_prefix b c o in
    let r = defined_so ds (bytes_rest b c o) in
    let some = definition_some d in
    record {
      letters = b ++ (cut ∷ r.letters);
      defined = counted.one_defined ob d r.defined;
      before = λ {m} {n} {ls} p h. subst (Letters n) (sym (append_assoc b (cut ∷ r.letters) ls))
          (then_cut b ob (omega (arith, length-append b c)) (r.before p refl_le));
    }
  where
    refl_le : {n : ℕ} → n ≤ n
    refl_le = omega arith

record FilledSo (base : Table) (L : Bounds) (T : Table) (t : TypeId) (limit : ℕ) (U : Table) (done left : List ℕ)
    (fs : Fillings) (ms : List ℕ) (X : Table) : Type 0 where
  pub letters : List ℕ
  pub fills : Fills base L T t limit U done left fs letters X
  pub cuttable : Letters (10 * length ms) letters

record SpelledSo (base : Table) (L : Bounds) (T : Table) (t : TypeId) (limit : ℕ) (v : Filled) (b : List ℕ)
    (U : Table) : Type 0 where
  pub letters : List ℕ
  pub spelled : SpellsFilled base L T t limit v letters U
  pub cuttable : Letters (10 * length b) letters

mutual
  spelled_so : {base : Table} {L : Bounds} {T U : Table} {t : TypeId} {limit d : ℕ} {v : Filled} {b : List ℕ}
      → SpellsUncounted base L T t v d b U → AreBytes b → 10 * length b < 2 ^ 64 → d ≤ limit
      → SpelledSo base L T t limit v b U
  spelled_so (with_fillings {v = v} {d = d} sp fl) o few low =
      let r = filled_so fl o few (omega arith) in
      record {
        letters = r.letters;
        spelled = counted.with_fillings sp (omega arith) r.fills;
        cuttable = r.cuttable;
      }

  filled_so : {base : Table} {L : Bounds} {T U X : Table} {t : TypeId} {limit k : ℕ} {done left ms : List ℕ}
      {fs : Fillings} → FillsUncounted base L T t U done left fs k ms X → AreBytes ms → 10 * length ms < 2 ^ 64
      → k ≤ limit → FilledSo base L T t limit U done left fs ms X
  filled_so (as_it_stands {left = left}) o few low = record {
    letters = left;
    fills = counted.as_it_stands o;
    cuttable = no_cut left o (omega arith);
  }
  filled_so {limit = limit} (next_filled {d = d} {k = k} {m = m} {s = s} {a = a} {e = e} {n = n} {f = f} {ms = ms} c ex
      some u defs may sg vs fl) o few low =
      let oc = bytes_prefix c (a ++ (s ++ (e ++ (n ++ (f ++ ms))))) o in
      let o1 = bytes_rest c (a ++ (s ++ (e ++ (n ++ (f ++ ms))))) o in
      let oa = bytes_prefix a (s ++ (e ++ (n ++ (f ++ ms)))) o1 in
      let o2 = bytes_rest a (s ++ (e ++ (n ++ (f ++ ms)))) o1 in
      let os = bytes_prefix s (e ++ (n ++ (f ++ ms))) o2 in
      let o3 = bytes_rest s (e ++ (n ++ (f ++ ms))) o2 in
      let oe = bytes_prefix e (n ++ (f ++ ms)) o3 in
      let o4 = bytes_rest e (n ++ (f ++ ms)) o3 in
      let on = bytes_prefix n (f ++ ms) o4 in
      let o5 = bytes_rest n (f ++ ms) o4 in
      let size = all_length c a s e n f ms in
      let ds = defined_so defs oe in
      let inner = spelled_so vs (bytes_prefix f ms o5) (omega arith) (let l = low in inner_low d k m limit l) in
      let g = counted_so inner.cuttable (omega arith) in
      let rest = filled_so fl (bytes_rest f ms o5) (omega arith) (omega arith) in
      let less = g.few in
      let counts = unsigned_length u in
      let held = before g.bytes (segments_bytes g.segments) rest.cuttable same in
      let typed = before n on held same in
      let defined = ds.before typed same in
      let named = before s os defined same in
      let whole = before c oc (before a oa named same) (omega arith) in
      record {
        letters = c ++ ((a ++ (s ++ (ds.letters ++ (n ++ g.bytes)))) ++ rest.letters);
        fills = counted.next_filled c oc ex some os u ds.defined may sg inner.spelled g.segments rest.fills;
        cuttable = subst (Letters _) (grouped c a s ds.letters n g.bytes rest.letters) whole;
      }
    where
      same : {n : ℕ} → n ≤ n
      same = omega arith

      inner_low : (d k m limit : ℕ) → max (d + k) m ≤ limit → k ≤ limit - d
      inner_low d k m limit l = omega arith

      all_length : (c a s e n f ms : List ℕ) → length (c ++ (a ++ (s ++ (e ++ (n ++ (f ++ ms)))))) ≡ length c + length a
          + length s + length e + length n + length f + length ms
      all_length c a s e n f ms = omega (
        arith,
        length-append c (a ++ (s ++ (e ++ (n ++ (f ++ ms))))),
        length-append a (s ++ (e ++ (n ++ (f ++ ms)))),
        length-append s (e ++ (n ++ (f ++ ms))),
        length-append e (n ++ (f ++ ms)),
        length-append n (f ++ ms),
        length-append f ms,
      )

      grouped : (c a s e n g m : List ℕ) → c ++ (a ++ (s ++ (e ++ (n ++ (g ++ m))))) ≡ c ++
          ((a ++ (s ++ (e ++ (n ++ g)))) ++ m)
      grouped c a s e n g m = simp append_assoc

pub counts_put_back : {base : Table} {L : Bounds} {T U : Table} {t : TypeId} {limit d : ℕ} {v : Filled} {b : List ℕ}
    → SpellsUncounted base L T t v d b U → AreBytes b → length b < 2 ^ 60 → d ≤ limit
    → IsSpelledCounted base L T t limit v U
counts_put_back p o few low =
    let r = spelled_so p o (omega arith) low in
    let c = counted_so r.cuttable (omega arith) in
    record { letters = r.letters; bytes = c.bytes; spelled = r.spelled; segments = c.segments }
