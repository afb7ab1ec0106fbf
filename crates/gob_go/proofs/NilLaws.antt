-- Bodies at the number of an interface: it is not too deep, and 0 there is no interface value.
use Rattle.std.proofs.Common.{◌≡◌, ◌≢◌, ℕ, ◌+◌, ◌<◌, ◌≤◌, inl, inr, List, [], ◌∷◌, ◌++◌, length, arith, refl, sym, ap}
use Rattle.std.proofs.Common.{◌∙◌, subst, length-append}
use Rattle.gob_num.specs.Unsigned as unsigned
use Rattle.gob_num.specs.Unsigned.{IsUnsigned, IsUnsignedPrefix}
use Rattle.gob_num.proofs.PublicLaws.{unsigned_prefix, unsigned_length, begins_prefix}
use Rattle.gob_types.specs.declared.id.TypeId.{TypeId}
use Rattle.gob_types.specs.declared.reason.Reason.TheVariants as reason
use Rattle.gob_types.specs.Table.{Table}
use Rattle.gob_read.specs.Expected.{Allowed, any, tag, truth_value, array_count, delta, nil, Allows, reason_of}
use Rattle.gob_read.specs.Expected.{Expected, a_number, within_number}
use Rattle.gob_read.specs.Expects.{ExpectsTop}
use Rattle.gob_read.specs.Refusal.{Refusal, Refused, extra, too_deep, short_of, bad_head_at, not_minimal_at}
use Rattle.gob_read.specs.Refusal.{not_allowed}
use Rattle.gob_read.specs.Viable.{IsShallow, IsViable}
use Rattle.gob_read.proofs.Grammar.Compare.{compare_top}
use Rattle.gob_read.proofs.Grammar.Firsts.{ends_not_met}
use Rattle.gob_read.proofs.Grammar.Onward.{takes_least, number_taken}
use Rattle.gob_read.proofs.Grammar.Prefixes.{prefix_of, append_nil, rest_behind}
use Rattle.gob_read.proofs.Grammar.Whole.{Meets}
use Rattle.gob_read.proofs.PublicLaws.{nothing_yet}

pub no_bytes : IsUnsignedPrefix []
no_bytes = begins_prefix {bytes = []} tt

nothing_met : {a : Allowed} → Meets (a_number a) [] → ⊥
nothing_met m = ends_not_met (within_number no_bytes) m

-- bytes that stand, and expect a number next, are not too deep there
pub nil_stands : {T : Table} {t : TypeId} {limit announced d : ℕ} {z : List ℕ} {a : Allowed}
    → IsViable T t limit announced z → ExpectsTop T t z (a_number a) d → (d ≤ limit) × IsShallow T t limit z
nil_stands {T = T} {t = t} {limit = limit} {d = d} {z = z} i e =
    elim (compare_top i.under_way [] i.expects e (sym i.whole ∙ sym (append_nil z))) [
      | inl same ↦ (
        let n : i.depth ≡ d = ap (λ (v : Expected × ℕ). v.1) same.value in let k = i.not_deep in omega arith,
        subst (IsShallow T t limit) same.bytes i.shallow,
      )
      | inr either ↦ elim either [
        | inl m ↦ absurd (ends_not_met i.within m)
        | inr m ↦ absurd (nothing_met m)
      ]
    ]

pub stands_at_nil : {T : Table} {t : TypeId} {limit announced d : ℕ} {z : List ℕ} {a : Allowed}
    → ExpectsTop T t z (a_number a) d → d ≤ limit → IsShallow T t limit z → length z < announced
    → IsViable T t limit announced z
stands_at_nil {d = d} {z = z} {a = a} e l s r = record {
  before = z;
  under_way = [];
  expected = a_number a;
  depth = d;
  expects = e;
  whole = sym (append_nil z);
  within = within_number no_bytes;
  not_deep = l;
  shallow = s;
  room = r;
}

is_nil : (a : Allowed) → reason_of a ≡ reason.InterfaceValue → a ≡ nil
is_nil any e = cc
is_nil tag e = cc
is_nil truth_value e = cc
is_nil (array_count n) e = cc
is_nil (delta n) e = cc
is_nil nil e = refl

nothing : (r : List ℕ) → length r ≡ 0 → r ≡ []
nothing [] e = refl
nothing (x ∷ r) e = absurd (omega arith)

-- a number that ends with the byte 0 where an interface is expected is that byte
zero_there : {T : Table} {t : TypeId} {d e n : ℕ} {z p c : List ℕ} {a : Allowed} → ExpectsTop T t z (a_number nil) d
    → ExpectsTop T t p (a_number a) e → IsUnsigned n c → z ++ 0 ∷ [] ≡ p ++ c → n ≡ 0
zero_there {n = n} {z = z} {p = p} {c = c} h k u f =
    let some = unsigned_length u in
    let size : length z + 1 ≡ length p + length c = sym (length-append z (0 ∷ [])) ∙ ap length f ∙ length-append p c in
    let g = prefix_of p z c (0 ∷ []) (sym f) (omega arith) in
    let there : c ≡ g.rest ++ 0 ∷ [] = rest_behind p z c (0 ∷ []) (sym f) g in
    elim (compare_top g.rest [] k h (sym g.whole ∙ sym (append_nil z))) [
      | inl same ↦
          let whole : c ≡ 0 ∷ [] = there ∙ ap (λ (l : List ℕ). l ++ 0 ∷ []) same.rest in
          (unsigned_prefix [] [] u zero_spelled (ap (λ (l : List ℕ). l ++ []) whole)).value
      | inr either ↦ elim either [
        | inl m ↦ absurd (takes_least g.rest (0 ∷ []) (number_taken u) there (λ e. cc) m)
        | inr m ↦ absurd (nothing_met m)
      ]
    ]
  where
    zero_spelled : IsUnsigned 0 (0 ∷ [])
    zero_spelled = unsigned.IsUnsigned.short (omega arith)

-- what the byte 0 shows there is no interface value
pub no_interface : {T : Table} {t : TypeId} {limit announced d : ℕ} {z : List ℕ} {R : Refusal}
    → ExpectsTop T t z (a_number nil) d → d ≤ limit → IsShallow T t limit z → length z < announced
    → Refused T t limit announced (z ++ 0 ∷ []) R → R.reason ≢ reason.InterfaceValue
no_interface e l s r (extra q v f k) h = cc
no_interface e l s r (too_deep q b f k) h = cc
no_interface e l s r (short_of q b f n k) h = cc
no_interface e l s r (bad_head_at q b f k) h = cc
no_interface e l s r (not_minimal_at q b f k) h = cc
no_interface {z = z} e l s r (not_allowed {p = p} {c = c} q {a = a} {n = n} b f u m) h =
    let one : a ≡ nil = is_nil a h in
    let seen = nothing_yet (0 ∷ []) (stands_at_nil e l s r) (not_allowed q b f u m) in
    let size : length z + 1 ≡ length p + (length c + length q) = sym (length-append z (0 ∷ [])) ∙ ap length f
    ∙ length-append p (c ++ q) ∙ ap (λ (n : ℕ). length p + n) (length-append c q) in
    let none : q ≡ [] = nothing q (omega arith) in
    let whole : z ++ 0 ∷ [] ≡ p ++ c = f ∙ ap (λ (q : List ℕ). p ++ (c ++ q)) none
    ∙ ap (λ (l : List ℕ). p ++ l) (append_nil c) in
    let zero : n ≡ 0 = zero_there e b u whole in
    m (subst (λ (a : Allowed). Allows a n) (sym one) zero)

ends_otherwise : (a : Allowed) → reason_of a ≢ reason.Ended
ends_otherwise any e = cc
ends_otherwise tag e = cc
ends_otherwise truth_value e = cc
ends_otherwise (array_count n) e = cc
ends_otherwise (delta n) e = cc
ends_otherwise nil e = cc

-- no body is refused for the end of the bytes
pub never_ended : {T : Table} {t : TypeId} {limit announced : ℕ} {z : List ℕ} {R : Refusal}
    → Refused T t limit announced z R → R.reason ≢ reason.Ended
never_ended (extra q v f k) h = cc
never_ended (too_deep q b f k) h = cc
never_ended (short_of q b f n k) h = cc
never_ended (bad_head_at q b f k) h = cc
never_ended (not_minimal_at q b f k) h = cc
never_ended (not_allowed q {a = a} b f u m) h = ends_otherwise a h
