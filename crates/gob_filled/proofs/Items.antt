-- No item begins another, where values may be filled.
use Rattle.std.proofs.Common.{◌≡◌, ℕ, pos, negsuc, List, [], ◌∷◌, ◌++◌, length, sym, ap, ◌∙◌, subst, append_assoc}
use Rattle.gob_num.specs.Unsigned.{IsUnsigned}
use Rattle.gob_num.specs.Signed.{IsSigned}
use Rattle.gob_num.proofs.PublicLaws.{append_split, unsigned_prefix, signed_prefix, regroup}
use Rattle.gob_types.specs.declared.id.TypeId.{TypeId}
use Rattle.gob_types.specs.Table.{Table}
use Rattle.gob_value.specs.Tree.{Tree}
use Rattle.gob_read.proofs.Grammar.Prefixes.{append_nil}
use Rattle.gob_stream.specs.Bounds.{Bounds}
use Rattle.gob_stream.proofs.PublicLaws.{same_id}
use Rattle.gob_filled.specs.Definition.{Defines, defines}
use Rattle.gob_filled.specs.Filled.{cut, Filled, AreSegments, last_segment, next_segment, SpellsFilled}
use Rattle.gob_filled.specs.Stream.{FilledItem, defining, putting, IsFilledItem, of_definition, of_value, AreCounted}
use Rattle.gob_filled.specs.Stream.{last_counted, next_counted}
use Rattle.gob_filled.proofs.Prefix.{same_segments, same_filled, same_definition}

pub segments_of : {L : Bounds} {most offset : ℕ} {ls f : List ℕ} → AreCounted L most offset ls f → AreSegments ls f
segments_of (last_counted s o u l k) = last_segment s o u
segments_of (next_counted s o u l k n cs) = next_segment s o u (segments_of cs)

pos_injective : {m n : ℕ} → pos m ≡ pos n → m ≡ n
pos_injective e = cc

pos_negsuc : {m n : ℕ} {A : Type 0} → pos m ≡ negsuc n → A
pos_negsuc e = cc

defining_alike : {t u : TypeId} {v w : Tree} → t ≡ u → v ≡ w → defining t v ≡ defining u w
defining_alike e f = cc

-- the first segment of the letters of a value begins with no definition
first_segment : {L : Bounds} {most offset : ℕ} {ls f c : List ℕ} (d x y : List ℕ) → AreCounted L most offset ls f
    → IsUnsigned (length d) c → (c ++ d) ++ x ≡ f ++ y
    → (rest : List ℕ) × (d ++ rest ≡ ls)
first_segment {c = c} d x y (last_counted {c = b} s o u l k) n e =
    let r = unsigned_prefix (d ++ x) (s ++ y) n u (regroup c d x b s y e) in
    let p = append_split d s x y r.value r.rest in
    ([], append_nil d ∙ p.0)
first_segment {c = c} d x y (next_counted {c = b} {ls = ls} {f = f} s o u l k q cs) n e =
    let r = unsigned_prefix (d ++ x) ((s ++ f) ++ y) n u (regroup c d x b (s ++ f) y e) in
    let p = append_split d s x (f ++ y) r.value (r.rest ∙ append_assoc s f y) in
    (cut ∷ ls, ap (λ (l : List ℕ). l ++ (cut ∷ ls)) p.0)

not_both : {base : Table} {L : Bounds} {T U : Table} {offset : ℕ} {id t : TypeId} {v : Tree} {c d a f : List ℕ}
    {A : Type 0} (ls x y : List ℕ)
    → IsUnsigned (length d) c → Defines base L T id v d U → IsSigned (pos t.0) a
    → AreCounted L L.item offset (a ++ ls) f → (c ++ d) ++ x ≡ f ++ y → A
not_both {a = a} ls x y n (defines {a = d} {b = k} may de ds i sg sp) r cs e =
    let p = first_segment (d ++ k) x y cs n e in
    pos_negsuc (signed_prefix ls (k ++ p.0) r sg (sym p.1 ∙ append_assoc d k p.0)).value

-- a type number, and the letters of a value
letters_then : {base : Table} {L : Bounds} {T U V : Table} {t u : TypeId} {limit most : ℕ} {v w : Filled}
    {a b ls ms : List ℕ} (p q : List ℕ) → IsSigned (pos t.0) a → IsSigned (pos u.0) b
    → SpellsFilled base L T t limit v ls U → SpellsFilled base L T u most w ms V → (a ++ ls) ++ p ≡ (b ++ ms) ++ q
    → (putting t v ≡ putting u w) × (p ≡ q) × (U ≡ V)
letters_then {base = base} {L = L} {T = T} {V = V} {t = t} {u = u} {most = most} {v = v} {w = w} {a = a} {b = b}
    {ls = ls} {ms = ms} p q s r k m e =
    let number = signed_prefix (ls ++ p) (ms ++ q) s r (regroup a ls p b ms q e) in
    let one : t ≡ u = same_id (pos_injective number.value) in
    let same = same_filled p q k (subst (λ u. SpellsFilled base L T u most w ms V) (sym one) m) number.rest in
    (two one same.value, same.rest, same.table)
  where
    two : {t u : TypeId} {v w : Filled} → t ≡ u → v ≡ w → putting t v ≡ putting u w
    two e f = cc

pub one_filled_item : {base : Table} {L : Bounds} {T U V : Table} {offset : ℕ} {i j : FilledItem} {b c : List ℕ}
    (x y : List ℕ)
    → IsFilledItem base L T offset i b U → IsFilledItem base L T offset j c V → b ++ x ≡ c ++ y
    → (i ≡ j) × (b ≡ c) × (U ≡ V)
one_filled_item x y (of_definition {c = c} {d = d} n l s p) (of_definition {c = b} {d = k} n' l' s' q) e =
    let r = unsigned_prefix (d ++ x) (k ++ y) n n' (regroup c d x b k y e) in
    let one = same_definition x y p q r.rest in
    let ec : c ≡ b = r.bytes in
    (defining_alike one.id_is one.value, joined ec one.bytes, one.table)
  where
    joined : {a b c d : List ℕ} → a ≡ c → b ≡ d → a ++ b ≡ c ++ d
    joined e f = cc
one_filled_item x y (of_definition n l s p) (of_value {ls = ls} may sg k cs) e = not_both ls x y n p sg cs e
one_filled_item x y (of_value {ls = ls} may sg k cs) (of_definition n l s q) e = not_both ls y x n q sg cs (sym e)
one_filled_item x y (of_value may s k cs) (of_value may' s' k' cs') e =
    let framed = same_segments x y (segments_of cs) (segments_of cs') (λ p q h. (letters_then p q s s' k k' h).1) e in
    let inner = letters_then [] [] s s' k k' (ap (λ (l : List ℕ). l ++ []) framed.value) in
    (inner.0, framed.bytes, inner.2)
