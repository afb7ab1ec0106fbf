-- What is kept is a stream, and of a stream all is.
use Rattle.std.proofs.Common.{◌≡◌, ℕ, ◌+◌, ◌<◌, ◌≤◌, List, [], ◌∷◌, ◌++◌, length, arith, refl, sym, ap, ◌∙◌, subst}
use Rattle.std.proofs.Common.{append_assoc, length-append, Bool, true}
use Rattle.gob_num.proofs.PublicLaws.{unsigned_length}
use Rattle.gob_types.specs.Base.{base_table}
use Rattle.gob_types.specs.Table.{Table}
use Rattle.gob_read.proofs.Grammar.Prefixes.{same_end}
use Rattle.gob_stream.specs.Bounds.{Bounds}
use Rattle.gob_filled.specs.Stream.{FilledItem, IsFilledItem, of_definition, of_value, AreCounted, last_counted}
use Rattle.gob_filled.specs.Stream.{next_counted, AreFilledItems, no_more, and_then}
use Rattle.gob_filled.proofs.Items.{one_filled_item}
use Rattle.gob_salvage.specs.declared.gap.Gap.{Gap}
use Rattle.gob_salvage.specs.Salvage.{Salvages, nothing_is_left, keeps, leaves_out}
use Rattle.gob_salvage.specs.Laws.{KeepsAtLeast}

-- an item has bytes
counted_some : {L : Bounds} {most offset : ℕ} {ls f : List ℕ} → AreCounted L most offset ls f → 0 < length f
counted_some (last_counted {c = c} s o u l k) = let n = (unsigned_length u).0 in omega (arith, length-append c s)
counted_some (next_counted {c = c} {f = f} s o u l k n m) = let n = (unsigned_length u).0 in
    omega (arith, length-append c (s ++ f))

pub item_some : {L : Bounds} {T U : Table} {offset : ℕ} {i : FilledItem} {b : List ℕ}
    → IsFilledItem base_table L T offset i b U → 0 < length b
item_some (of_definition {c = c} {d = d} u l s x) = let n = (unsigned_length u).0 in omega (arith, length-append c d)
item_some (of_value may sg k cs) = counted_some cs

pub kept_stream : {L : Bounds} {T V : Table} {kept offset : ℕ} {bytes out : List ℕ} {items : List FilledItem}
    {gaps : List Gap} {before : List FilledItem} {in_step : Bool}
    → Salvages L T before in_step kept offset bytes items out
    gaps V → AreFilledItems base_table L T kept items out V
kept_stream nothing_is_left = no_more
kept_stream (keeps i n o s) = and_then i n (kept_stream s)
kept_stream (leaves_out d p n w r f l o s) = kept_stream s

-- of the front that is a stream all is kept
pub kept_front : {L : Bounds} {T U V : Table} {kept offset : ℕ} {front bytes out : List ℕ}
    {items others before : List FilledItem} {gaps : List Gap} {in_step : Bool} (z : List ℕ)
    → AreFilledItems base_table L T kept items front U → Salvages L T before in_step kept offset bytes others out gaps V
    → bytes ≡ front ++ z → KeepsAtLeast items others front out
kept_front {out = out} {others = others} z no_more s e = record {
  more = others;
  rest = out;
  items_are = refl;
  bytes_are = refl;
}
kept_front z (and_then {b = b} {c = c} i k is) nothing_is_left e =
    let some = item_some i in
    absurd (omega (arith, ap length e, length-append (b ++ c) z, length-append b c))
kept_front z (and_then {U = W} {i = i} {b = b} {c = c} h k is) (leaves_out d p n w r f l o s) e =
    absurd (n i W b (c ++ z) h (e ∙ append_assoc b c z))
kept_front {L = L} {kept = kept} z (and_then {U = W} {next = next} {i = i} {items = items} {b = b} {c = c} h k is)
    (keeps {U = X} {V = V} {before = before} {next = next'} {on = on} {i = j} {items = others} {b = d} {z = y}
    {out = out} {gaps = gaps}
    g n o s) e =
    let grouped : b ++ (c ++ z) ≡ d ++ y = sym (e ∙ append_assoc b c z) in
    let one = one_filled_item (c ++ z) y h g grouped in
    let eb : b ≡ d = one.1 in
    let places : next' ≡ next = n ∙ ap (λ (b : List ℕ). kept + length b) (sym eb) ∙ sym k in
    let r = kept_front z is (subst (λ T. Salvages L T (before ++ j ∷ []) true next on y others out gaps V) (sym one.2)
    (subst (λ n. Salvages L X (before ++ j ∷ []) true n on y others out gaps V) places s))
    (sym (same_end b (c ++ z) y (grouped ∙ ap (λ (b : List ℕ). b ++ y) (sym eb)))) in
    record {
      more = r.more;
      rest = r.rest;
      items_are = let a : i ≡ j = one.0 in let f = r.items_are in cc;
      bytes_are = ap (λ (b : List ℕ). b ++ out) (sym eb) ∙ ap (λ (l : List ℕ). b ++ l) r.bytes_are
          ∙ sym (append_assoc b c r.rest);
    }

-- of a stream all is
pub kept_whole : {L : Bounds} {T U V : Table} {kept offset : ℕ} {whole bytes out : List ℕ}
    {items others before : List FilledItem} {gaps : List Gap} {in_step : Bool}
    → AreFilledItems base_table L T kept items whole U → Salvages L T before in_step kept offset bytes others out gaps V
    → bytes ≡ whole
    → (others ≡ items) × (out ≡ whole) × (gaps ≡ [])
kept_whole no_more nothing_is_left e = (refl, refl, refl)
kept_whole no_more (keeps {b = d} {z = y} g n o s) e =
    let some = item_some g in absurd (omega (arith, ap length e, length-append d y))
kept_whole no_more (leaves_out {z = y} d p n w r f l o s) e = absurd (omega (arith, ap length e, length-append d y))
kept_whole (and_then {b = b} {c = c} h k is) nothing_is_left e =
    let some = item_some h in absurd (omega (arith, ap length e, length-append b c))
kept_whole (and_then {U = W} {i = i} {b = b} {c = c} h k is) (leaves_out d p n w r f l o s) e = absurd (n i W b c h e)
kept_whole {L = L} {kept = kept} (and_then {U = W} {next = next} {i = i} {items = items} {b = b} {c = c} h k is)
    (keeps {U = X} {V = V} {before = before} {next = next'} {on = on} {i = j} {items = others} {b = d} {z = y}
    {out = out} {gaps = gaps}
    g n o s) e =
    let one = one_filled_item c y h g (sym e) in
    let eb : b ≡ d = one.1 in
    let places : next' ≡ next = n ∙ ap (λ (b : List ℕ). kept + length b) (sym eb) ∙ sym k in
    let r = kept_whole is (subst (λ T. Salvages L T (before ++ j ∷ []) true next on y others out gaps V) (sym one.2)
    (subst (λ n. Salvages L X (before ++ j ∷ []) true n on y others out gaps V) places s))
    (sym (same_end b c y (sym e ∙ ap (λ (b : List ℕ). b ++ y) (sym eb)))) in (
      (let a : i ≡ j = one.0 in let f = r.0 in cc),
      (ap (λ (b : List ℕ). b ++ out) (sym eb) ∙ ap (λ (l : List ℕ). b ++ l) r.1),
      r.2,
    )

-- equal bytes are equal items
pub same_items : {L : Bounds} {T U V : Table} {offset : ℕ} {items others : List FilledItem} {b c : List ℕ}
    → AreFilledItems base_table L T offset items b U → AreFilledItems base_table L T offset others c V → b ≡ c
    → items ≡ others
same_items no_more no_more e = refl
same_items no_more (and_then {b = b} {c = c} h k is) e =
    let some = item_some h in absurd (omega (arith, ap length e, length-append b c))
same_items (and_then {b = b} {c = c} h k is) no_more e =
    let some = item_some h in absurd (omega (arith, ap length e, length-append b c))
same_items {L = L} {T = T} {offset = offset} (and_then {U = W} {next = next} {i = i} {items = items} {b = b} {c = c}
    h k is) (and_then {U = X} {V = V} {next = next'} {i = j} {items = others} {b = d} {c = y} g n js) e =
    let one = one_filled_item c y h g e in
    let eb : b ≡ d = one.1 in
    let places : next' ≡ next = n ∙ ap (λ (b : List ℕ). offset + length b) (sym eb) ∙ sym k in
    let r = same_items is (subst (λ T. AreFilledItems base_table L T next others y V) (sym one.2)
    (subst (λ n. AreFilledItems base_table L X n others y V) places js))
    (same_end b c y (e ∙ ap (λ (b : List ℕ). b ++ y) (sym eb))) in
    let a : i ≡ j = one.0 in cc

-- an item stands at any offset that leaves room for it
counted_moved : {L : Bounds} {most offset : ℕ} {ls f : List ℕ} (next : ℕ) → AreCounted L most offset ls f
    → next + length f ≤ L.stream → AreCounted L most next ls f
counted_moved next (last_counted s o u l k) e = last_counted s o u l e
counted_moved next (next_counted {c = c} {f = f} s o u l k n m) e =
    next_counted s o u l (omega (arith, length-append c (s ++ f), length-append s f, length-append c s)) refl
    (counted_moved (next + length (c ++ s)) m
    (omega (arith, length-append c (s ++ f), length-append s f, length-append c s)))

pub item_moved : {L : Bounds} {T U : Table} {offset : ℕ} {i : FilledItem} {b : List ℕ} (next : ℕ)
    → IsFilledItem base_table L T offset i b U → next + length b ≤ L.stream → IsFilledItem base_table L T next i b U
item_moved next (of_definition u l s d) e = of_definition u l e d
item_moved next (of_value may sg k cs) e = of_value may sg k (counted_moved next cs e)

pub items_moved : {L : Bounds} {T U : Table} {offset : ℕ} {items : List FilledItem} {b : List ℕ} (next : ℕ)
    → AreFilledItems base_table L T offset items b U → next + length b ≤ L.stream
    → AreFilledItems base_table L T next items b U
items_moved next no_more e = no_more
items_moved next (and_then {b = b} {c = c} i n is) e =
    and_then (item_moved next i (omega (arith, length-append b c))) refl
    (items_moved (next + length b) is (omega (arith, length-append b c)))
