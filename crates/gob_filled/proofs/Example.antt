-- The example's proof.
use Rattle.std.proofs.Common.{◌≡◌, ℕ, zero, suc, pos, ◌<◌, ◌≤◌, ◌-◌, ◌^◌, ◌⊎◌, inl, inr, [], ◌∷◌, arith, refl, sym, ap}
use Rattle.std.proofs.Common.{subst}
use Rattle.gob_num.specs.Unsigned.{IsUnsigned, AreBytes, short, long}
use Rattle.gob_num.specs.Signed.{IsSigned, not_negative}
use Rattle.gob_types.specs.declared.id.TypeId.{TypeId}
use Rattle.gob_types.specs.declared.kind.Shape.{Shape}
use Rattle.gob_types.specs.Table.{IsDefined}
use Rattle.gob_types.specs.Base.{id, base_table}
use Rattle.gob_types.specs.Ready.{IsReady, Names, IsGrounded, Leads, here, onward, plain}
use Rattle.gob_types.proofs.PublicLaws.{some_injective}
use Rattle.gob_value.specs.Tree.{no_tree, tree, depth}
use Rattle.gob_value.specs.Tree as Value
use Rattle.gob_value.specs.Top.{SpellsTop, tagged}
use Rattle.gob_value.specs.Spelling.{Spells, of_type, of_int, of_nil, of_slice, no_element, element}
use Rattle.gob_read.specs.Expected.{a_number, nil}
use Rattle.gob_read.specs.Expects.{ExpectsTop, behind_tag, in_part, in_itself, first, slice_element}
use Rattle.gob_stream.specs.Bounds.{Bounds}
use Rattle.gob_filled.specs.Filled.{filled, no_filling, as_it_stands, next_filled, SpellsFilled, with_fillings}
use Rattle.gob_filled.specs.Filled.{none_defined, last_segment}
use Rattle.gob_filled.specs.Stream.{of_value, last_counted}
use Rattle.gob_filled.specs.Example.{list_table, list_of_five, GoListIsRead}

small : (n : ℕ) → n < 128 → IsUnsigned n (n ∷ [])
small n l = short l

-- ---- the types are ready

int_leads : {n : ℕ} {u : TypeId} → Leads list_table n (id 2) u → u ≡ id 2
int_leads here = refl
int_leads (onward {w = w} {s = s} e m l) = absurd (subst (λ (x : Shape). Names x.kind w) (sym (some_injective e)) m)

pub int_ready : IsReady list_table (id 2)
int_ready u r = subst (λ u. IsDefined list_table u × IsGrounded list_table u) (sym (int_leads r.leads))
    ((_, refl), record { rank = 0; has = plain refl (λ h. h) })

interface_leads : {n : ℕ} {u : TypeId} → Leads list_table n (id 8) u → u ≡ id 8
interface_leads here = refl
interface_leads (onward {w = w} {s = s} e m l) = absurd (subst (λ (x : Shape). Names x.kind w)
    (sym (some_injective e)) m)

list_leads : {n : ℕ} {u : TypeId} → Leads list_table n (id 65) u → (u ≡ id 65) ⊎ (u ≡ id 8)
list_leads here = inl refl
list_leads {u = u} (onward {n = n} {w = w} {s = s} e m l) =
    let to : id 8 ≡ w = subst (λ (x : Shape). Names x.kind w) (sym (some_injective e)) m in
    inr (interface_leads (subst (λ w. Leads list_table n w u) (sym to) l))

pub list_ready : IsReady list_table (id 65)
list_ready u r = by (list_leads r.leads)
  where
    by : (u ≡ id 65) ⊎ (u ≡ id 8) → IsDefined list_table u × IsGrounded list_table u
    by (inl e) = subst (λ u. IsDefined list_table u × IsGrounded list_table u) (sym e)
        ((_, refl), record { rank = 0; has = plain refl (λ h. h) })
    by (inr e) = subst (λ u. IsDefined list_table u × IsGrounded list_table u) (sym e)
        ((_, refl), record { rank = 0; has = plain refl (λ h. h) })

-- ---- the skeletons

nil_there : Spells list_table (id 8) Value.nil (0 ∷ [])
nil_there = of_type refl (of_nil (small 0 (omega arith)))

list_spelled : SpellsTop list_table (id 65) (Value.many (tree Value.nil no_tree)) (0 ∷ 1 ∷ 0 ∷ [])
list_spelled = tagged refl (λ h. h) (of_type refl (of_slice (small 1 (omega arith)) (element nil_there no_element)))

five_spelled : SpellsTop list_table (id 2) (Value.int (pos 5)) (0 ∷ 10 ∷ [])
five_spelled = tagged refl (λ h. h) (of_type refl (of_int (not_negative (small 10 (omega arith)))))

nil_expected : ExpectsTop list_table (id 65) (0 ∷ 1 ∷ []) (a_number nil) 2
nil_expected = behind_tag refl (λ h. h) (in_part {q = 1 ∷ []} refl
    (slice_element {b = []} (small 1 (omega arith)) no_element (omega arith)) (in_itself refl first))

one_byte : AreBytes (0 ∷ 1 ∷ [])
one_byte = (omega arith, (omega arith, tt))

-- ---- what fills the nil

five : (L : Bounds) (limit : ℕ) → 1 ≤ limit → SpellsFilled base_table L list_table (id 2) limit
    (filled (Value.int (pos 5)) no_filling) (0 ∷ 10 ∷ []) list_table
five L limit deep = with_fillings five_spelled (omega arith) (as_it_stands (omega arith, (omega arith, tt)))

list_filled : (L : Bounds) (limit : ℕ) → 3 ≤ limit → SpellsFilled base_table L list_table (id 65) limit list_of_five
    (0 ∷ 1 ∷ 3 ∷ 105 ∷ 110 ∷ 116 ∷ 4 ∷ 2 ∷ 0 ∷ 10 ∷ []) list_table
list_filled L limit deep = with_fillings list_spelled (omega arith)
    (next_filled {a = 3 ∷ []} {n = 4 ∷ []} {f = 2 ∷ 0 ∷ 10 ∷ []} {ms = []} (0 ∷ 1 ∷ []) one_byte nil_expected
    (omega arith)
    (omega arith, (omega arith, (omega arith, tt))) (small 3 (omega arith)) none_defined
    (record { public = (λ e. let n : 2 ≡ 24 = ap (λ (t : TypeId). t.0) e in absurd (omega arith)); ready = int_ready })
    (not_negative (small 4 (omega arith))) (five L (limit - 2) (omega arith))
    (last_segment (0 ∷ 10 ∷ []) (omega arith, (omega arith, tt)) (small 2 (omega arith)))
    (as_it_stands tt))

-- ---- the item

type_number : IsSigned (pos 65) (255 ∷ 130 ∷ [])
type_number = not_negative (long (record {
  large = omega arith;
  head_counts = refl;
  few = omega arith;
  bytes = (omega arith, tt);
  value = refl;
  least = λ k l. one k l;
}))
  where
    one : (k : ℕ) → k < 1 → 256 ^ k ≤ 130
    one zero l = omega arith
    one (suc k) l = absurd (omega arith)

bytes_there : AreBytes (255 ∷ 130 ∷ 0 ∷ 1 ∷ 3 ∷ 105 ∷ 110 ∷ 116 ∷ 4 ∷ 2 ∷ 0 ∷ 10 ∷ [])
bytes_there = (
  omega arith,
  (
    omega arith,
    (
      omega arith,
      (
        omega arith,
        (
          omega arith,
          (omega arith, (omega arith, (omega arith, (omega arith, (omega arith, (omega arith, (omega arith, tt))))))),
        ),
      ),
    ),
  ),
)

pub go_list_is_read : GoListIsRead
go_list_is_read L item stream deep =
    of_value {a = 255 ∷ 130 ∷ []}
    (record {
      public = (λ e. let n : 65 ≡ 24 = ap (λ (t : TypeId). t.0) e in absurd (omega arith));
      ready = list_ready;
    }) type_number
    (list_filled L L.depth deep)
    (last_counted {c = 12 ∷ []} (255 ∷ 130 ∷ 0 ∷ 1 ∷ 3 ∷ 105 ∷ 110 ∷ 116 ∷ 4 ∷ 2 ∷ 0 ∷ 10 ∷ []) bytes_there
    (small 12 (omega arith)) item stream)
