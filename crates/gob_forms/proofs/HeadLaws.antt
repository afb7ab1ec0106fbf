-- What the first numbers of an item say, they say in one way.
use Rattle.std.proofs.Common.{◌≡◌, ℕ, ℤ, pos, negsuc, ◌-◌, ◌≤◌, ◌⊎◌, Bool, true, false, IsTrue, ◌↔◌, nat_eq, List}
use Rattle.std.proofs.Common.{length, take, drop, refl, sym, subst, ap, ◌∙◌, arith, w64, to_z, of_z}
use Rattle.std.proofs.lemmas.Bool.{true≢false}
use Rattle.std.proofs.lemmas.Bool.Decides.{nat_tests}
use Rattle.std.proofs.lemmas.Int.{ints, to_z-of_z}
use Rattle.std.proofs.Math.IntN.{nat_abs}
use Rattle.std.specs.Int.Signed.{lt_z}
use Rattle.gob_num.specs.Place.{IsUnsignedAt, NoNumberStandsAt}
use Rattle.gob_num.specs.Signed.{IsSigned}
use Rattle.gob_num.specs.Unsigned.{IsUnsigned}
use Rattle.gob_num.proofs.PlaceLaws.{ends_at, only_number}
use Rattle.gob_num.proofs.PublicLaws.{signed_fits, signed_unsigned, signed_value}
use Rattle.gob_types.specs.declared.id.TypeId.{TypeId}
use Rattle.gob_forms.specs.Heads.{BeginsDefinition, IsChain, IsHead, IsTypeNumber, IsWhole, ItemsMayStand, MayCome}
use Rattle.gob_forms.specs.Heads.{MayStand, of_definition}
use Rattle.gob_forms.specs.Heads.{of_value}
use Rattle.gob_forms.specs.declared.chain.Chain.{Chain}
use Rattle.gob_forms.specs.declared.head.Head.{Head}

-- ---- type numbers
-- a signed number is one
type_number : (number : ℤ) (id : ℕ) (defines : Bool) {a : List ℕ} → IsSigned number a → id ≡ nat_abs number
    → defines ≡ lt_z number (pos 0) → IsTypeNumber id defines a
type_number (pos n) id defines {a} s e d =
    let same : n ≡ id = omega (arith, ints) in
    let value : false ≡ defines = sym (d ∙ grind (arith, ints)) in
    subst (λ v. IsTypeNumber id v a) value (of_value (subst (λ k. IsSigned (pos k) a) same s))
type_number (negsuc n) id defines {a} s e d =
    let value : true ≡ defines = sym (d ∙ grind (arith, ints)) in
    subst (λ v. IsTypeNumber id v a) value (of_definition (omega (arith, ints)) s)

-- the bytes of one spell an unsigned number too
type_unsigned : {id : ℕ} {defines : Bool} {a : List ℕ} → IsTypeNumber id defines a → (u : ℕ) × IsUnsigned u a
type_unsigned (of_value s) = signed_unsigned s
type_unsigned (of_definition e s) = signed_unsigned s

-- and one type number
same_type : {i j : ℕ} {d e : Bool} {a : List ℕ} → IsTypeNumber i d a → IsTypeNumber j e a → (i ≡ j) × (d ≡ e)
same_type {i = i} {j = j} (of_value p) (of_value q) =
    let v : pos i ≡ pos j = signed_value p q in
    let same : i ≡ j = cc in
    (same, refl)
same_type {i = i} (of_value p) (of_definition {n = n} e q) =
    let v : pos i ≡ negsuc n = signed_value p q in
    absurd cc
same_type {j = j} (of_definition {n = n} e p) (of_value q) =
    let v : negsuc n ≡ pos j = signed_value p q in
    absurd cc
same_type {i = i} {j = j} (of_definition {n = m} e p) (of_definition {n = n} f q) =
    let v : negsuc m ≡ negsuc n = signed_value p q in
    let number : m ≡ n = cc in
    let same : i ≡ j = omega arith in
    (same, refl)

-- ---- heads
pub head_stands : {item : List ℕ} {count count_size spelled size id : ℕ} {defines : Bool} (number : ℤ)
    → IsUnsignedAt count item 0 count_size → IsUnsignedAt spelled item count_size size
    → ((bytes : List ℕ) → IsUnsigned spelled bytes → IsSigned number bytes)
    → id ≡ nat_abs (to_z w64 (of_z w64 number)) → defines ≡ lt_z (to_z w64 (of_z w64 number)) (pos 0)
    → IsHead item (record
    { count = count; count_size = count_size; id = record { 0 = id }; defines = defines; size = size })
head_stands {id = id} {defines = defines} number counts numbers signed e d =
    let spelled = signed _ numbers.spelled in
    let same = to_z-of_z w64 number (signed_fits spelled) in
    record {
      counts = counts;
      order = numbers.order;
      inside = numbers.inside;
      numbers = type_number number id defines spelled (e ∙ ap nat_abs same) (d ∙ ap (λ z. lt_z z (pos 0)) same);
    }

-- the second number
type_stands : {item : List ℕ} {h : Head} → IsHead item h → (u : ℕ) × IsUnsignedAt u item h.count_size h.size
type_stands i = let u = type_unsigned i.numbers in
    (u.0, record { order = i.order; inside = i.inside; spelled = u.1 })

pub no_first : {item : List ℕ} → NoNumberStandsAt item 0 → (h : Head) → IsHead item h → ⊥
no_first none h i = none h.count h.count_size i.counts

pub no_second : {item : List ℕ} {count size : ℕ} → IsUnsignedAt count item 0 size → NoNumberStandsAt item size
    → (h : Head) → IsHead item h → ⊥
no_second {item = item} p none h i =
    let u = type_stands i in
    none u.0 h.size (subst (λ k. IsUnsignedAt u.0 item k h.size) (sym (ends_at p i.counts)) u.1)

-- bytes begin with one head
head_of_parts : (count count_size : ℕ) → TypeId → Bool → ℕ → Head
head_of_parts count count_size id defines size =
    record { count = count; count_size = count_size; id = id; defines = defines; size = size }

type_id : ℕ → TypeId
type_id n = record { 0 = n }

pub same_head : {item : List ℕ} {g h : Head} → IsHead item g → IsHead item h → g ≡ h
unfolding head_of_parts type_id
same_head {item = item} {g = g} {h = h} p q =
    let c = only_number p.counts h.count h.count_size q.counts in
    let u = type_stands p in
    let v = type_stands q in
    let size : g.size ≡ h.size = ends_at u.1 (subst (λ k. IsUnsignedAt v.0 item k h.size) (sym c.1) v.1) in
    let there : take (h.size - h.count_size) (drop h.count_size item) ≡ take (g.size - g.count_size)
    (drop g.count_size item) = cc in
    let t = same_type p.numbers (subst (λ a. IsTypeNumber h.id.0 h.defines a) there q.numbers) in
    let id : type_id g.id.0 ≡ type_id h.id.0 = ap type_id t.0 in
    let all : head_of_parts g.count g.count_size (type_id g.id.0) g.defines g.size ≡ head_of_parts h.count h.count_size
    (type_id h.id.0) h.defines h.size = cc in
    all

-- so what holds of the head that stands there holds of this one
pub same_may : {item : List ℕ} {g h : Head} → IsHead item g → IsHead item h → MayCome h item → MayCome g item
same_may {item = item} p q may = subst (λ k. MayCome k item) (same_head q p) may

pub same_defines : {item : List ℕ} {g h : Head} → IsHead item g → IsHead item h → h.defines ≡ true
    → g.defines ≡ true
same_defines p q e = ap (λ k. k.defines) (same_head p q) ∙ e

pub defines_here : {item : List ℕ} {h : Head} (may : Bool) → IsHead item h → (IsTrue may ↔ MayCome h item)
    → h.defines ≡ true → IsTrue may ↔ BeginsDefinition item
defines_here {h = h} may p is d =
    (λ t. record { head = h; is = p; may = is.0 t; defines = d }, λ b. is.1 (same_may p b.is b.may))

pub defines_nothing : {item : List ℕ} {h : Head} → IsHead item h → h.defines ≡ false
    → IsTrue h.defines ↔ BeginsDefinition item
defines_nothing p d = (λ t. absurd (true≢false (sym t ∙ d)), λ b. same_defines p b.is b.defines)

-- ---- items one behind another
-- none may stand where the head that is there says otherwise
pub none_stands : {bytes item : List ℕ} {place : ℕ} {h : Head} → item ≡ drop place bytes → IsHead item h
    → (MayCome h item → IsWhole h item → ⊥) → (end : ℕ) → MayStand bytes place end → ⊥
none_stands {bytes = bytes} {item = item} {place = place} {h = h} e p refused end m =
    let q : IsHead item m.head = subst (λ i. IsHead i m.head) (sym e) m.is in
    let same = same_head q p in
    refused (subst (λ k. MayCome k item) same (subst (λ i. MayCome m.head i) (sym e) m.may))
    (subst (λ k. IsWhole k item) same (subst (λ i. IsWhole m.head i) (sym e) m.whole))

pub none_at_all : {bytes item : List ℕ} {place : ℕ} → item ≡ drop place bytes → ((h : Head) → IsHead item h → ⊥)
    → (end : ℕ) → MayStand bytes place end → ⊥
none_at_all e none end m = none m.head (subst (λ i. IsHead i m.head) (sym e) m.is)

pub chain_is : {bytes : List ℕ} {begin most end items : ℕ} (c : Chain) → c.items ≡ items
    → c.is_to_end ≡ nat_eq end (length bytes) → ItemsMayStand bytes begin items end → items ≤ most
    → ((items ≡ most) ⊎ ((next : ℕ) → ¬ MayStand bytes end next)) → IsChain bytes begin most c
chain_is {bytes = bytes} {begin = begin} {most = most} {end = end} {items = items} c e d stand few longest = record {
  end = end;
  stand = subst (λ n. ItemsMayStand bytes begin n end) (sym e) stand;
  few = omega arith;
  longest = subst (λ n. (n ≡ most) ⊎ ((next : ℕ) → ¬ MayStand bytes end next)) (sym e) longest;
  to_end = (λ t. grind (arith, nat_tests), λ same. grind (arith, nat_tests));
}
