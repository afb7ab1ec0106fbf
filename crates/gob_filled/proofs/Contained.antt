-- Items and refusals of the format are those of the profile.
use Rattle.std.proofs.Common.{◌≡◌, ◌≢◌, ℕ, zero, suc, pos, negsuc, ◌+◌, ◌-◌, ◌<◌, ◌≤◌, ◌⊎◌, inl, inr, List, [], ◌∷◌}
use Rattle.std.proofs.Common.{◌++◌, length}
use Rattle.std.proofs.Common.{take, Some, None, arith, refl, sym, ap, ◌∙◌, subst, append_assoc, length-append}
use Rattle.gob_num.specs.Unsigned.{IsUnsigned, AreBytes, IsBadHead, IsNotMinimal, IsUnsignedPrefix}
use Rattle.gob_num.specs.Signed.{IsSigned, not_negative, negative}
use Rattle.gob_num.proofs.PublicLaws.{signed_prefix, bytes_rest, bad_head_none, not_minimal_none}
use Rattle.gob_types.specs.declared.id.TypeId.{TypeId}
use Rattle.gob_types.specs.declared.reason.Reason.TheVariants as reason
use Rattle.gob_types.specs.Table.{Table}
use Rattle.gob_read.specs.Refusal as body
use Rattle.gob_read.specs.First.{IsFirst}
use Rattle.gob_read.proofs.Grammar.Firsts.{prefix_not_number}
use Rattle.gob_read.proofs.Grammar.Prefixes.{append_nil}
use Rattle.gob_stream.specs.declared.fault.Refusal.{Refusal}
use Rattle.gob_stream.specs.Bounds.{Bounds}
use Rattle.gob_stream.specs.Item.{StreamItem}
use Rattle.gob_stream.specs.Body.{definition, value, MayDefine, MayPut}
use Rattle.gob_filled.specs.Definition.{Defines, defines}
use Rattle.gob_value.specs.Loose.{DescribesLoosely}
use Rattle.gob_value.specs.Tree.{Tree, depth}
use Rattle.gob_value.specs.Spelling.{Spells}
use Rattle.gob_value.specs.Top.{HasStructs, at_once}
use Rattle.gob_types.specs.Base.{wire_type}
use Rattle.gob_types.specs.declared.reason.Reason.{Reason}
use Rattle.gob_value.specs.Description.{Said, Misdescribes, kind_count, wrong_id, bad_reference, bad_length}
use Rattle.gob_value.specs.Description.{HasBadReference, HasBadLength}
use Rattle.gob_value.proofs.JudgedLaws.{good_references, good_length}
use Rattle.gob_value.proofs.LooseLaws.{strict_is_loose}
use Rattle.gob_value.proofs.PublicLaws.{same_spelling}
use Rattle.gob_read.specs.Refusal.{Refused}
use Rattle.gob_read.proofs.PublicLaws.{only_extra}
use Rattle.gob_types.specs.declared.kind.Shape.{Shape}
use Rattle.gob_stream.specs.Stream.{IsItem, counted}
use Rattle.gob_stream.specs.Refusing.{RefusesCount, RefusesBody, refuses, behind}
use Rattle.gob_stream.specs.Refusing as strict
use Rattle.gob_stream.specs.Outcome.{RefusesNext}
use Rattle.gob_stream.specs.Outcome as next
use Rattle.gob_stream.proofs.Stream.RefusalLaws.{type_met, id_met}
use Rattle.gob_stream.proofs.PublicLaws.{same_id}
use Rattle.gob_filled.specs.Stream.{IsFilledItem, of_definition, of_value, last_counted}
use Rattle.gob_filled.specs.Standing.{at_value}
use Rattle.gob_filled.specs.Outcome.{RefusesFilled, refused_count, refused_body, refused_value, in_skeleton}
use Rattle.gob_filled.specs.OutcomeLaws.{unfilled_item}
use Rattle.gob_filled.proofs.Strict.{contained}

pub item_stays : {base : Table} {L : Bounds} {T U : Table} {offset : ℕ} {i : StreamItem} {b : List ℕ} → AreBytes b
    → IsItem base L T offset i b U
    → IsFilledItem base L T offset (unfilled_item i) b U
item_stays o (counted n l s (definition may de d i sg sp)) = of_definition n l s
    (defines may de (strict_is_loose d) i sg sp)
item_stays o (counted {c = c} n l s (value {a = a} {b = b} may de sg sp)) =
    let all = bytes_rest c (a ++ b) o in
    of_value may sg (contained sp (bytes_rest a b all) de) (last_counted (a ++ b) all n l s)

pos_injective : {m n : ℕ} → pos m ≡ pos n → m ≡ n
pos_injective e = cc

pos_negsuc : {m n : ℕ} → pos m ≡ negsuc n → ⊥
pos_negsuc e = cc

-- no type whose values may come stands at the front
abbrev pub NoTypeFollows : Table → List ℕ → Type 0
NoTypeFollows T y = (u : TypeId) (n q : List ℕ) → y ≡ n ++ q → IsSigned (pos u.0) n → ¬ MayPut T u

behind_bad : {T : Table} {y : List ℕ} → IsBadHead y → NoTypeFollows T y
behind_bad {y = y} h u n q e (not_negative s) may = bad_head_none y h [] q s (append_nil y ∙ e)

behind_minimal : {T : Table} {y : List ℕ} → IsNotMinimal y → NoTypeFollows T y
behind_minimal {y = y} h u n q e (not_negative s) may = not_minimal_none y h [] q s (append_nil y ∙ e)

behind_prefix : {T : Table} {y : List ℕ} → IsUnsignedPrefix y → NoTypeFollows T y
behind_prefix h u n q e (not_negative s) may = prefix_not_number q h s e

behind_id : {T : Table} {y a : List ℕ} {k : ℕ} (z : List ℕ) → y ≡ a ++ z → IsSigned (negsuc k) a → NoTypeFollows T y
behind_id z e s u n q f t may = pos_negsuc (signed_prefix q z t s (sym f ∙ e)).value

behind_type : {T : Table} {y a : List ℕ} {t : TypeId} (z : List ℕ) → y ≡ a ++ z → IsSigned (pos t.0) a → ¬ MayPut T t
    → NoTypeFollows T y
behind_type {T = T} {t = t} z e s none u n q f r may =
    let one : u ≡ t = same_id (pos_injective (signed_prefix q z r s (sym f ∙ e)).value) in
    none (subst (MayPut T) one may)

-- what stands behind the first bytes of a part
record Behind (r a z : List ℕ) (m : ℕ) : Type 0 where
  pub rest : List ℕ
  pub whole : r ≡ a ++ rest
  pub taken : take (m - length a) rest ≡ z
  pub short : length a ≤ m

tail_of : {x y : ℕ} {l k : List ℕ} → x ∷ l ≡ y ∷ k → l ≡ k
tail_of e = cc

head_of : {x y : ℕ} {l k : List ℕ} → x ∷ l ≡ y ∷ k → x ≡ y
head_of e = cc

nothing : {x : ℕ} {l : List ℕ} → [] ≡ x ∷ l → ⊥
nothing e = cc

behind_it : (r a z : List ℕ) (m : ℕ) → take m r ≡ a ++ z → Behind r a z m
behind_it r [] z m e = record {
  rest = r;
  whole = refl;
  taken = ap (λ k. take k r) (let n : m - 0 ≡ m = omega arith in
      n) ∙ e;
  short = omega arith;
}
behind_it r (x ∷ a) z zero e = absurd (nothing e)
behind_it [] (x ∷ a) z (suc m) e = absurd (nothing e)
behind_it (y ∷ r) (x ∷ a) z (suc m) e =
    let k = behind_it r a z m (tail_of e) in
    let h : y ≡ x = head_of e in
    record {
      rest = k.rest;
      whole = two h k.whole;
      taken = ap (λ n. take n k.rest) (let s = k.short in let n : suc m - length (x ∷ a) ≡ m - length a = omega arith in
          n) ∙ k.taken;
      short = (let s = k.short in omega arith);
    }
  where
    two : {x y : ℕ} {l k : List ℕ} → y ≡ x → l ≡ k → y ∷ l ≡ x ∷ k
    two e f = cc

first_in : {T : Table} {t : TypeId} {limit n m : ℕ} {y z : List ℕ} {S : body.Refusal} → m ≡ n → y ≡ z
    → IsFirst T t limit m y S → IsFirst T t limit n z S
first_in {T = T} {t = t} {limit = limit} {n = n} {y = y} {S = S} e f k =
    subst (λ z. IsFirst T t limit n z S) f (subst (λ m. IsFirst T t limit m y S) e k)

-- the definition at the front, where the type number is that of one
same_id_there : {base : Table} {L : Bounds} {T U : Table} {x y a : List ℕ} {id t : TypeId} {v : Tree} {k : ℕ}
    (z : List ℕ) → y ≡ a ++ z → t.0 ≡ k + 1 → IsSigned (negsuc k) a
    → Defines base L T id v x U → x ≡ y → (id ≡ t) × MayDefine base L T t ×
    ((s : List ℕ) × (Spells T wire_type v s) × (depth v ≤ L.depth) × (s ≡ z) ×
    ((r : Shape) × DescribesLoosely t v r))
same_id_there {base = base} {L = L} {T = T} {id = id} {t = t} {v = v} z e i s
    (defines {n = n} {s = r} {a = c} {b = b} may de ds j sg sp) f =
    let number = signed_prefix b z sg s (f ∙ e) in
    let one : id ≡ t = same_id (j ∙ ap (λ n. n + 1) (same_neg number.value) ∙ sym i) in (
      one,
      subst (MayDefine base L T) one may,
      (
        b,
        sp,
        de,
        number.rest,
        (r, subst (λ id. DescribesLoosely id v r) one ds),
      ),
    )
  where
    same_neg : {m n : ℕ} → negsuc m ≡ negsuc n → m ≡ n
    same_neg e = cc

no_number : {base : Table} {L : Bounds} {T U : Table} {x y : List ℕ} {id : TypeId} {v : Tree}
    → ((c q : List ℕ) (n : ℕ) → IsUnsigned n c → y ≡ c ++ q → ⊥)
    → Defines base L T id v x U → x ≡ y → ⊥
no_number none (defines {a = c} {b = b} may de ds j (negative s) sp) f = none c b _ s (sym f)

pub no_type_there : {base : Table} {L : Bounds} {T U : Table} {x y a : List ℕ} {id : TypeId} {v : Tree} {k : ℕ}
    (z : List ℕ) → y ≡ a ++ z → IsSigned (pos k) a
    → Defines base L T id v x U → x ≡ y → ⊥
no_type_there z e s (defines {b = b} may de ds j r sp) f = pos_negsuc (signed_prefix z b s r (sym e ∙ sym f)).value

none_some : {A : Type 0} {x : A} → None ≡ Some x → ⊥
none_some e = cc

said_injective : {a b : Said} → Some a ≡ Some b → a ≡ b
said_injective e = cc

-- what describes a shape loosely is refused for its id alone
met : {id : TypeId} {v : Tree} {s : Shape} {r : Reason} → Misdescribes id v r → DescribesLoosely id v s
    → r ≢ reason.WrongId → ⊥
met (kind_count e) d w = none_some (sym e ∙ d.describes.says)
met (wrong_id e n) d w = w refl
met (bad_reference e i h) d w = good_references d.describes.kind
    (subst (λ (x : Said). HasBadReference x.kind) (said_injective (sym e ∙ d.describes.says)) h)
met (bad_length e i g h) d w = good_length d.describes.kind (subst (λ (x : Said). HasBadLength x.kind)
    (said_injective (sym e ∙ d.describes.says)) h)

loose_met : {id : TypeId} {v u : Tree} {s : Shape} {r : Reason} → v ≡ u → Misdescribes id v r → DescribesLoosely id u s
    → r ≢ reason.WrongId → ⊥
loose_met {id = id} {s = s} f k d w = met k (subst (λ v. DescribesLoosely id v s) (sym f) d) w

rest_size : {y : List ℕ} {m : ℕ} (a z : List ℕ) → y ≡ a ++ z → length y ≡ m → m - length a ≡ length z
rest_size a z e k = omega (arith, ap length e, length-append a z)

-- a whole description isn't refused where all of it is there
not_first : {T : Table} {v : Tree} {limit m : ℕ} {s z : List ℕ} {S : body.Refusal} → HasStructs T wire_type
    → Spells T wire_type v s → depth v ≤ limit → s ≡ z → m ≡ length z → IsFirst T wire_type limit m z S → ⊥
not_first {T = T} {limit = limit} {m = m} {s = s} {S = S} w sp de e l k =
    let r = only_extra [] (at_once w.found w.struct sp) de (subst (λ z. Refused T wire_type limit m z S)
    (sym e ∙ sym (append_nil s)) k.refused) in
    let less = r.1 in let same = ap length e in omega arith

-- what is refused of a body is a value of a type, or no type whose values may come stands at its front
pub no_type_or_value : {base : Table} {L : Bounds} {T : Table} {offset m : ℕ} {y : List ℕ} {R : Refusal} {A : Type 0}
    → RefusesBody base L T offset m y R
    → ((t : TypeId) (a z : List ℕ) (S : body.Refusal) → R ≡ behind (offset + length a) S → y ≡ a ++ z
    → IsSigned (pos t.0) a → MayPut T t → IsFirst T t L.depth (m - length a) z S → A) → (NoTypeFollows T y → A) → A
no_type_or_value (strict.bad_head h) found none = none (behind_bad h)
no_type_or_value (strict.not_minimal h) found none = none (behind_minimal h)
no_type_or_value (strict.short k h) found none = none (behind_prefix h)
no_type_or_value (strict.refused_id z f i sg h) found none = none (behind_id z f sg)
no_type_or_value (strict.refused_type z f sg h) found none = none (behind_type z f sg (λ may. type_met h may))
no_type_or_value (strict.refused_value {t = t} {a = a} {R = S} z f sg may h) found none = found t a z S refl f sg may h
no_type_or_value (strict.refused_description z f i sg may h) found none = none (behind_id z f sg)
no_type_or_value (strict.described_wrongly {z = z} f k i sg may sp d h) found none = none (behind_id z f sg)

-- nor is it a whole definition, unless it says another id
pub no_whole_definition : {base : Table} {L : Bounds} {T : Table} {offset m : ℕ} {y : List ℕ} {R : Refusal}
    → HasStructs T wire_type → RefusesBody base L T offset m y R → (R.reason ≢ reason.WrongId) ⊎ (R.seen < offset + m)
    → (id : TypeId) (v : Tree) (U : Table) → length y ≡ m → Defines base L T id v y U → ⊥
no_whole_definition {y = y} g (strict.bad_head h) w id v U k d =
    no_number (λ c q n p f. bad_head_none y h [] q p (append_nil y ∙ f)) d refl
no_whole_definition {y = y} g (strict.not_minimal h) w id v U k d =
    no_number (λ c q n p f. not_minimal_none y h [] q p (append_nil y ∙ f)) d refl
no_whole_definition g (strict.short e h) w id v U k d = no_number (λ c q n p f. prefix_not_number q h p f) d refl
no_whole_definition g (strict.refused_id z f i sg h) w id v U k d = id_met h (same_id_there z f i sg d refl).1
no_whole_definition g (strict.refused_type z f sg h) w id v U k d = no_type_there z f sg d refl
no_whole_definition g (strict.refused_value z f sg may h) w id v U k d = no_type_there z f sg d refl
no_whole_definition g (strict.refused_description z f i sg may h) w id v U k d =
    let q = (same_id_there z f i sg d refl).2 in not_first g q.1 q.2 q.3 (rest_size _ z f k) h
no_whole_definition g (strict.described_wrongly {z = z} f e i sg may sp de h) (inl w) id v U k d =
    let q = (same_id_there z f i sg d refl).2 in
    loose_met (same_spelling [] [] sp q.1 (ap (λ (l : List ℕ). l ++ []) (sym q.3))).value h q.4.1 w
no_whole_definition g (strict.described_wrongly f e i sg may sp de h) (inr l) id v U k d = absurd (omega arith)

body_stays : {base : Table} {L : Bounds} {T : Table} {offset m : ℕ} {z c : List ℕ} {R : Refusal} (r : List ℕ)
    → HasStructs T wire_type → z ≡ c ++ r → IsUnsigned m c → m ≤ L.item → offset + length c + m ≤ L.stream
    → RefusesBody base L T (offset + length c) m (take m r) R → R.reason ≢ reason.InterfaceValue
    → R.reason ≢ reason.WrongId → RefusesFilled base L T offset z R
body_stays {offset = offset} {m = m} {c = c} r g e u l s h n w = no_type_or_value h
    (λ t a z S same f sg may first.
    let place = ap (λ (R : Refusal). R.place) same in
    let seen = ap (λ (R : Refusal). R.seen) same in
    let why = ap (λ (R : Refusal). R.reason) same in
    let k = behind_it r a z m f in
    let short = k.short in
    let at : length (c ++ a) ≡ length c + length a = length-append c a in
    let size : m - length a ≡ 0 + ((offset + length c + m) - (offset + length (c ++ a))) = omega arith in
    let left : m - length a ≡ (offset + length c + m) - (offset + length (c ++ a)) = omega arith in
    refused_value {y = c ++ a} {w = k.rest}
    (e ∙ ap (λ (x : List ℕ). c ++ x) k.whole ∙ sym (append_assoc c a k.rest))
    (at_value u l refl s sg k.short may refl)
    (in_skeleton {S = S} (first_in size (sym k.taken ∙ ap (λ n. take n k.rest) left) first) (λ i. n (why ∙ i))
    (omega arith) (omega arith) why))
    (λ none. refused_body r e u l s h
    (record { no_type = none; no_definition = no_whole_definition g h (inl w) }))

pub refusal_stays : {base : Table} {L : Bounds} {T : Table} {offset : ℕ} {z : List ℕ} {R : Refusal}
    → HasStructs T wire_type → RefusesNext base L T offset z R → R.reason ≢ reason.InterfaceValue
    → R.reason ≢ reason.WrongId → RefusesFilled base L T offset z R
refusal_stays g (next.refused_count h) n w = refused_count h
refusal_stays g (next.refused_body r e u l s h) n w = body_stays r g e u l s h n w
