-- The items that come of an item have bytes.
use Rattle.std.proofs.Common.{◌≡◌, ℕ, ◌+◌, ◌*◌, ◌^◌, ◌<◌, ◌≤◌, List, [], ◌∷◌, ◌++◌, length, refl, sym, subst}
use Rattle.std.proofs.Common.{arith, append_assoc, length-append}
use Rattle.std.proofs.lemmas.List.{append-nil}
use Rattle.gob_num.specs.Unsigned.{AreBytes}
use Rattle.gob_num.proofs.PublicLaws.{bytes-append, signed_unsigned, unsigned_bytes, unsigned_length}
use Rattle.gob_num.proofs.PublicLaws.{unsigned_spelled}
use Rattle.gob_types.specs.declared.id.TypeId.{TypeId}
use Rattle.gob_types.specs.Base.{base_table}
use Rattle.gob_types.specs.Table.{Table}
use Rattle.gob_types.proofs.PublicLaws.{Keeps, ready_on}
use Rattle.gob_value.specs.Tree.{Tree}
use Rattle.gob_value.proofs.PublicLaws.{top_on}
use Rattle.gob_read.proofs.Grammar.Stay.{expects_top_on}
use Rattle.gob_stream.specs.Body.{MayPut}
use Rattle.gob_stream.specs.Bounds.{Bounds}
use Rattle.gob_filled.specs.Definition.{Defines, defines}
use Rattle.gob_filled.specs.Filled.{Definitions, Filled, Fillings, AreDefined, none_defined, one_defined, SpellsFilled}
use Rattle.gob_filled.specs.Filled.{with_fillings, Fills, as_it_stands, next_filled, AreSegments, last_segment}
use Rattle.gob_filled.specs.Filled.{next_segment}
use Rattle.gob_filled.specs.Stream.{FilledItem, defining, IsFilledItem, of_definition, of_value}
use Rattle.gob_filled.specs.Stream.{last_counted, AreFilledItems, no_more, and_then}
use Rattle.gob_filled.proofs.Items.{segments_of}
use Rattle.gob_filled.proofs.Refused.{in_turn}
use Rattle.gob_filled.proofs.Strict.{filled_keeps}
use Rattle.gob_go_writer.specs.Hoisting.{defining_items, filling_items, fillings_without, hoisted, inner_items}
use Rattle.gob_go_writer.specs.Hoisting.{without_definitions}
use Rattle.gob_go_writer.specs.HoistingLaws.{HaveBytes}
use Rattle.gob_go_writer.proofs.ValueSteps.{fills_keep}

itself : {T : Table} → Keeps T T
itself = record { shape = λ t s e. e }

-- ---- items one behind another

items_then : {M : Bounds} {T U V : Table} {offset : ℕ} {is js : List FilledItem} {b c : List ℕ}
    → AreFilledItems base_table M T offset is b U → AreFilledItems base_table M U (offset + length b) js c V
    → AreFilledItems base_table M T offset (is ++ js) (b ++ c) V
items_then {M = M} {V = V} {js = js} {c = c} (no_more {T = T} {offset = offset}) q =
    subst (λ n. AreFilledItems base_table M T n js c V) (omega arith) q
items_then {M = M} {T = T} {U = W} {V = V} {offset = offset} {js = js} {c = e}
    (and_then {U = U} {next = next} {i = i} {items = is} {b = b} {c = c} p n ps) q =
    let rest : AreFilledItems base_table M U next (is ++ js) (c ++ e) V =
    items_then ps (subst (λ o. AreFilledItems base_table M W o js e V) (omega (arith, length-append b c)) q) in
    subst (λ l. AreFilledItems base_table M T offset (i ∷ (is ++ js)) l V) (sym (append_assoc b c e))
    (and_then p n rest)

have_none : {L : Bounds} {T : Table} → HaveBytes L T [] T
have_none = record { bytes = []; are = λ M offset d t l s. no_more }

have_then : {L : Bounds} {T U V : Table} {is js : List FilledItem} → HaveBytes L T is U → HaveBytes L U js V
    → HaveBytes L T (is ++ js) V
have_then p q =
    let size = length-append p.bytes q.bytes in
    record {
      bytes = p.bytes ++ q.bytes;
      are = λ M offset d t l s. items_then (p.are M offset d t (omega (arith, size)) (omega (arith, size)))
          (q.are M (offset + length p.bytes) d t (omega (arith, size)) (omega (arith, size)));
    }

have_one : {L : Bounds} {T U : Table} {i : FilledItem} (b : List ℕ)
    → ((M : Bounds) (offset : ℕ) → M.depth ≡ L.depth → M.types ≡ L.types → length b ≤ M.item
    → offset + length b ≤ M.stream → IsFilledItem base_table M T offset i b U)
    → HaveBytes L T (i ∷ []) U
have_one {T = T} {U = U} {i = i} b is = record {
  bytes = b;
  are = λ M offset d t l s. subst (λ b. AreFilledItems base_table M T offset (i ∷ []) b U) (append-nil b)
      (and_then (is M offset d t l s) refl no_more);
}

-- ---- definitions

-- a definition under other limits
moved : {L : Bounds} (M : Bounds) {T U : Table} {id : TypeId} {v : Tree} {b : List ℕ} → M.depth ≡ L.depth
    → M.types ≡ L.types → Defines base_table L T id v b U → Defines base_table M T id v b U
moved M d t (defines may de ds i s k) = defines
    (record { own = may.own; new = may.new; room = let room = may.room in omega arith }) (omega arith) ds i s k

definition_bytes : {L : Bounds} {T U : Table} {id : TypeId} {v : Tree} {b : List ℕ} → length b < 2 ^ 60
    → Defines base_table L T id v b U → HaveBytes L T (defining id v ∷ []) U
definition_bytes {b = b} few def =
    let c = unsigned_spelled (length b) (omega arith) in
    have_one (c.bytes ++ b) (λ M offset d t l s. of_definition c.spelled (omega (arith, length-append c.bytes b)) s
    (moved M d t def))

definitions_bytes : {L : Bounds} {T U : Table} {ds : Definitions} {b : List ℕ} → length b < 2 ^ 60
    → AreDefined base_table L T ds b U → HaveBytes L T (defining_items ds) U
definitions_bytes few none_defined = have_none
definitions_bytes few (one_defined {b = b} {c = c} o d ds) =
    have_then (definition_bytes (omega (arith, length-append b (256 ∷ c))) d)
    (definitions_bytes (omega (arith, length-append b (256 ∷ c))) ds)

-- ---- the letters of a value without definitions

-- a count and a letter for each cut are no fewer than the letters
more_letters : {ls f : List ℕ} → AreSegments ls f → length ls + 1 ≤ length f
more_letters (last_segment {c = c} s o u) = omega (arith, (unsigned_length u).0, length-append c s)
more_letters (next_segment {c = c} {ls = ls} {f = f} s o u p) =
    let rest = more_letters p in
    omega (
      arith,
      (unsigned_length u).0,
      length-append c (s ++ f),
      length-append s f,
      length-append s (256 ∷ ls),
    )

record FillsSo (V : Table) (t : TypeId) (limit : ℕ) (done left : List ℕ) (fs : Fillings) (most : ℕ) : Type 0 where
  pub letters : List ℕ
  pub fills : (M : Bounds) → Fills base_table M V t limit V done left fs letters V
  pub are_bytes : AreBytes letters
  pub few : length letters ≤ most

record SpelledSo (V : Table) (t : TypeId) (limit : ℕ) (w : Filled) (most : ℕ) : Type 0 where
  pub letters : List ℕ
  pub spelled : (M : Bounds) → SpellsFilled base_table M V t limit w letters V
  pub are_bytes : AreBytes letters
  pub few : length letters ≤ most

may_on : {T U : Table} {t : TypeId} → Keeps T U → MayPut T t → MayPut U t
may_on k may = record { public = may.public; ready = ready_on k may.ready }

all_length : (c a s e n f ms : List ℕ) → length (c ++ ((a ++ (s ++ (e ++ (n ++ f)))) ++ ms)) ≡ length c + length a
    + length s + length e + length n + length f + length ms
all_length c a s e n f ms = omega (
  arith,
  length-append c ((a ++ (s ++ (e ++ (n ++ f)))) ++ ms),
  length-append (a ++ (s ++ (e ++ (n ++ f)))) ms,
  length-append a (s ++ (e ++ (n ++ f))),
  length-append s (e ++ (n ++ f)),
  length-append e (n ++ f),
  length-append n f,
)

mutual
  spelled_without : {L : Bounds} {T U V : Table} {t : TypeId} {limit : ℕ} {w : Filled} {ls : List ℕ}
      → SpellsFilled base_table L T t limit w ls U → Keeps U V → length ls < 2 ^ 60
      → SpelledSo V t limit (without_definitions w) (10 * length ls)
  spelled_without {t = t} (with_fillings sp de fl) keep few =
      let start = in_turn (fills_keep fl) keep in
      let r = fills_without fl start keep few in
      record {
        letters = r.letters;
        spelled = λ M. with_fillings (top_on start sp) de (r.fills M);
        are_bytes = r.are_bytes;
        few = r.few;
      }

  fills_without : {L : Bounds} {T U X V : Table} {t : TypeId} {limit : ℕ} {done left ls : List ℕ} {fs : Fillings}
      → Fills base_table L T t limit U done left fs ls X → Keeps T V → Keeps X V → length ls < 2 ^ 60
      → FillsSo V t limit done left (fillings_without fs) (10 * length ls)
  fills_without (as_it_stands {left = left} o) start keep few = record {
    letters = left;
    fills = λ M. as_it_stands o;
    are_bytes = o;
    few = omega arith;
  }
  fills_without
      (next_filled {s = s} {a = a} {e = e} {n = n} {f = f} {ls = ls} {ms = ms} c oc ex some os u defs may i vs g fl)
      start keep few =
      let size = all_length c a s e n f ms in
      let within = more_letters g in
      let behind_held = in_turn (fills_keep fl) keep in
      let behind_definitions = in_turn (filled_keeps vs) behind_held in
      let inner = spelled_without vs behind_held (omega arith) in
      let inner_few = inner.few in
      let count = unsigned_spelled (length inner.letters) (omega arith) in
      let counted = unsigned_length count.spelled in
      let rest = fills_without fl start keep (omega arith) in
      let rest_few = rest.few in
      let held = count.bytes ++ inner.letters in
      let held_bytes : AreBytes held =
      bytes-append count.bytes inner.letters (unsigned_bytes count.spelled) inner.are_bytes in
      let number_bytes : AreBytes n = unsigned_bytes (signed_unsigned i).1 in
      let name_bytes : AreBytes (a ++ (s ++ (n ++ held))) =
      bytes-append a (s ++ (n ++ held)) (unsigned_bytes u)
      (bytes-append s (n ++ held) os (bytes-append n held number_bytes held_bytes)) in
      record {
        letters = c ++ ((a ++ (s ++ ([] ++ (n ++ held)))) ++ rest.letters);
        fills = λ M. next_filled c oc (expects_top_on start ex) some os u none_defined (may_on behind_definitions may) i
            (inner.spelled M) (last_segment inner.letters inner.are_bytes count.spelled) (rest.fills M);
        are_bytes = bytes-append c ((a ++ (s ++ (n ++ held))) ++ rest.letters) oc
            (bytes-append (a ++ (s ++ (n ++ held))) rest.letters name_bytes rest.are_bytes);
        few = omega (
          arith,
          all_length c a s [] n held rest.letters,
          length-append count.bytes inner.letters,
        );
      }

-- ---- the definitions in a value

mutual
  inner_bytes : {L : Bounds} {T U : Table} {t : TypeId} {limit : ℕ} {w : Filled} {ls : List ℕ}
      → SpellsFilled base_table L T t limit w ls U → length ls < 2 ^ 60 → HaveBytes L T (inner_items w) U
  inner_bytes (with_fillings sp de fl) few = filling_bytes fl few

  filling_bytes : {L : Bounds} {T U X : Table} {t : TypeId} {limit : ℕ} {done left ls : List ℕ} {fs : Fillings}
      → Fills base_table L T t limit U done left fs ls X → length ls < 2 ^ 60 → HaveBytes L U (filling_items fs) X
  filling_bytes (as_it_stands o) few = have_none
  filling_bytes
      (next_filled {s = s} {a = a} {e = e} {n = n} {f = f} {ls = ls} {ms = ms} c oc ex some os u defs may i vs g fl)
      few =
      let size = all_length c a s e n f ms in
      let within = more_letters g in
      have_then (definitions_bytes (omega arith) defs)
      (have_then (inner_bytes vs (omega arith)) (filling_bytes fl (omega arith)))

-- ---- the item

pub item_bytes : {L : Bounds} {T U : Table} {offset : ℕ} {i : FilledItem} {b : List ℕ} → length b < 2 ^ 60
    → IsFilledItem base_table L T offset i b U → HaveBytes L T (hoisted i) U
item_bytes few (of_definition {c = c} {d = d} n l s def) =
    definition_bytes (omega (arith, length-append c d)) def
item_bytes {L = L} {U = U} few (of_value {t = t} {w = v} {a = a} {ls = ls} may sg k cs) =
    let within = more_letters (segments_of cs) in
    let size = length-append a ls in
    let w = spelled_without k itself (omega arith) in
    let w_few = w.few in
    let body = a ++ w.letters in
    let body_size = length-append a w.letters in
    let number_few = unsigned_length (signed_unsigned sg).1 in
    let count = unsigned_spelled (length body) (omega arith) in
    let body_bytes : AreBytes body =
    bytes-append a w.letters (unsigned_bytes (signed_unsigned sg).1) w.are_bytes in
    have_then (inner_bytes k (omega arith))
    (have_one (count.bytes ++ body) (λ M offset d types l s. of_value (may_on (filled_keeps k) may) sg
    (subst (λ n. SpellsFilled base_table M U t n (without_definitions v) w.letters U) (sym d) (w.spelled M))
    (last_counted {c = count.bytes} body body_bytes count.spelled (omega (arith, length-append count.bytes body)) s)))
