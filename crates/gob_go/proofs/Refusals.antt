-- Refusals of numbers and descriptions, where they stand in an item, or behind a name.
use Rattle.std.proofs.Common.{◌≡◌, ◌≢◌, ℕ, zero, suc, pos, negsuc, ◌+◌, ◌-◌, ◌<◌, ◌≤◌, inl, List, [], ◌∷◌, ◌++◌}
use Rattle.std.proofs.Common.{length, take, arith, refl, sym, ap, ◌∙◌, subst, length-append}
use Rattle.gob_num.specs.Unsigned.{IsUnsigned, IsUnsignedPrefix, IsBadHead, IsNotMinimal}
use Rattle.gob_num.specs.Signed.{IsSigned}
use Rattle.gob_num.proofs.PublicLaws.{signed_prefix, signed_unsigned, bad_head_none, not_minimal_none, unsigned_length}
use Rattle.gob_types.specs.declared.id.TypeId.{TypeId}
use Rattle.gob_types.specs.declared.reason.Reason.{Reason}
use Rattle.gob_types.specs.declared.reason.Reason.TheVariants as reason
use Rattle.gob_types.specs.Base.{base_table, wire_type}
use Rattle.gob_types.specs.Table.{Table, shape_of}
use Rattle.gob_types.proofs.PublicLaws.{shape_of-append}
use Rattle.gob_value.specs.Tree.{Tree}
use Rattle.gob_value.specs.Spelling.{Spells}
use Rattle.gob_value.specs.Top.{HasStructs}
use Rattle.gob_value.specs.Loose.{DescribesLoosely, IsLooseDescription}
use Rattle.gob_value.proofs.PublicLaws.{same_spelling}
use Rattle.gob_read.specs.Expected.{Allowed, any, tag, truth_value, array_count, delta, nil, reason_of}
use Rattle.gob_read.specs.First.{IsFirst}
use Rattle.gob_read.specs.Refusal as body
use Rattle.gob_read.specs.Refusal.{Refused, extra, too_deep, short_of, bad_head_at, not_minimal_at, not_allowed}
use Rattle.gob_read.proofs.PublicLaws.{prefix_not_number, append_nil}
use Rattle.gob_stream.specs.declared.fault.Refusal.{Refusal}
use Rattle.gob_stream.specs.Bounds.{Bounds}
use Rattle.gob_stream.specs.Body.{MayDefine, MayPut}
use Rattle.gob_stream.specs.Refusing.{refuses, RefusesBody, RefusesCount}
use Rattle.gob_stream.specs.Refusing as refusing
use Rattle.gob_stream.specs.WriterRefusal.{RefusesId, RefusesType}
use Rattle.gob_stream.specs.Machine.ReadParts.{HasWireType}
use Rattle.gob_stream.proofs.PublicLaws.{same_id}
use Rattle.gob_stream.proofs.Stream.RefusalLaws.{type_met, id_met}
use Rattle.gob_filled.specs.Definition.{Defines, defines}
use Rattle.gob_filled.specs.Outcome.{NothingStands, RefusesInner}
use Rattle.gob_filled.specs.Outcome as outcome
use Rattle.gob_filled.proofs.Contained.{no_type_there, no_whole_definition}
use Rattle.gob_go.specs.Machine.HasRead.{no_end}
use Rattle.gob_go.specs.Machine.Parts.{RefusesNumber, bad_head, not_minimal, short}

-- ---- descriptions are spelled as in the base table

pub has_structs : {T : Table} → HasWireType T → HasStructs T wire_type
has_structs {T = T} w = record {
  shape = _;
  found = ap (λ (T : Table). shape_of T wire_type) w.grown ∙ shape_of-append base_table w.more wire_type _ refl;
  struct = tt;
}

-- ---- what a number at the front leaves standing

-- no number stands at the front
abbrev pub NoNumber : List ℕ → Type 0
NoNumber y = (n : ℕ) (c x : List ℕ) → IsUnsigned n c → y ≡ c ++ x → ⊥

no_definition_there : {base : Table} {L : Bounds} {T U : Table} {x y : List ℕ} {id : TypeId} {v : Tree} → NoNumber y
    → Defines base L T id v x U → x ≡ y → ⊥
no_definition_there none (defines {a = a} {b = b} may de ds j sg sp) f =
    let s = signed_unsigned sg in none s.0 a b s.1 (sym f)

pub nothing_there : {base : Table} {L : Bounds} {T : Table} {m : ℕ} {y : List ℕ} → NoNumber y
    → NothingStands base L T m y
nothing_there none = record {
  no_type = λ u n r e sg may. let s = signed_unsigned sg in none s.0 n r s.1 e;
  no_definition = λ id v U k d. no_definition_there none d refl;
}

number_none : {at end : ℕ} {y : List ℕ} {R : Refusal} → RefusesNumber at end y R → NoNumber y
number_none {y = y} (bad_head h) n c x u e = bad_head_none y h [] x u (append_nil y ∙ e)
number_none {y = y} (not_minimal h) n c x u e = not_minimal_none y h [] x u (append_nil y ∙ e)
number_none (short k h) n c x u e = prefix_not_number x h u e

pub nothing_numbered : {base : Table} {L : Bounds} {T : Table} {at end m : ℕ} {y : List ℕ} {R : Refusal}
    → RefusesNumber at end y R → NothingStands base L T m y
nothing_numbered h = nothing_there (number_none h)

pub body_numbered : {base : Table} {L : Bounds} {T : Table} {at end : ℕ} {y : List ℕ} {R : Refusal}
    → RefusesNumber at end y R → RefusesBody base L T at (end - at) y R
body_numbered (bad_head h) = refusing.RefusesBody.bad_head h
body_numbered (not_minimal h) = refusing.RefusesBody.not_minimal h
body_numbered {base = base} {L = L} {T = T} {at = at} {end = end} {y = y} (short k h) =
    let e : at + (end - at) ≡ end = omega arith in
    subst (λ n. RefusesBody base L T at (end - at) y (refuses n n reason.Short)) e
    (refusing.RefusesBody.short (omega arith) h)

pub inner_numbered : {at end : ℕ} {y : List ℕ} {R : Refusal} → RefusesNumber at end y R → RefusesInner at end y R
inner_numbered (bad_head h) = outcome.RefusesInner.bad_head h
inner_numbered (not_minimal h) = outcome.RefusesInner.not_minimal h
inner_numbered (short k h) = outcome.RefusesInner.short k h

pub number_shown : {at end : ℕ} {y : List ℕ} {R : Refusal} → RefusesNumber at end y R → R.reason ≢ reason.Ended
number_shown (bad_head h) e = cc
number_shown (not_minimal h) e = cc
number_shown (short k h) e = cc

-- ---- a count that stands in no segment

bad_before : (n : ℕ) (y : List ℕ) → IsBadHead (take n y) → IsBadHead y
bad_before zero y h = absurd h
bad_before (suc n) [] h = absurd h
bad_before (suc n) (x ∷ y) h = h

not_minimal_before : (n : ℕ) (y : List ℕ) → IsNotMinimal (take n y) → IsNotMinimal y
not_minimal_before zero y h = absurd h
not_minimal_before (suc n) [] h = absurd h
not_minimal_before (suc zero) (x ∷ y) h = absurd h
not_minimal_before (suc (suc n)) (x ∷ []) h = absurd h
not_minimal_before (suc (suc n)) (x ∷ z ∷ y) h = h

-- a proper prefix of a number is short
prefix_length : {y : List ℕ} → IsUnsignedPrefix y → length y ≤ 9
prefix_length {y = y} h = omega (arith, unsigned_length h.spelled, length-append y h.rest)

pub count_numbered : {L : Bounds} {at : ℕ} {y : List ℕ} {R : Refusal} (n : ℕ) → at + 9 < no_end
    → RefusesNumber at no_end (take n y) R → RefusesCount L at y R
count_numbered {y = y} n l (bad_head h) = refusing.RefusesCount.bad_head (bad_before n y h)
count_numbered {y = y} n l (not_minimal h) = refusing.RefusesCount.not_minimal (not_minimal_before n y h)
count_numbered n l (short k h) = absurd (omega (arith, prefix_length h))

-- ---- the number of a definition at the front

pos_negsuc : {m n : ℕ} → pos m ≡ negsuc n → ⊥
pos_negsuc e = cc

same_neg : {m n : ℕ} → negsuc m ≡ negsuc n → m ≡ n
same_neg e = cc

no_type_behind : {T : Table} {y a : List ℕ} {k : ℕ} (z : List ℕ) → y ≡ a ++ z → IsSigned (negsuc k) a → (u : TypeId)
    (n r : List ℕ) → y ≡ n ++ r → IsSigned (pos u.0) n → ¬ MayPut T u
no_type_behind z e s u n r f sg may = pos_negsuc (signed_prefix r z sg s (sym f ∙ e)).value

-- what a definition that stands there defines
record DefinedThere (base : Table) (L : Bounds) (T : Table) (id : TypeId) (v : Tree) (z : List ℕ) : Type 0 where
  pub may : MayDefine base L T id
  pub loose : IsLooseDescription id v
  pub spelling : List ℕ
  pub spells : Spells T wire_type v spelling
  pub all : spelling ≡ z

defined_there : {base : Table} {L : Bounds} {T U : Table} {x y a : List ℕ} {id t : TypeId} {v : Tree} {k : ℕ}
    (z : List ℕ) → y ≡ a ++ z → t.0 ≡ k + 1 → IsSigned (negsuc k) a → Defines base L T id v x U → x ≡ y
    → DefinedThere base L T t v z
defined_there {base = base} {L = L} {T = T} {id = id} {t = t} {v = v} z e i s
    (defines {n = n} {s = r} {a = c} {b = b} may de ds j sg sp) f =
    let number = signed_prefix b z sg s (f ∙ e) in
    let one : id ≡ t = same_id (j ∙ ap (λ n. n + 1) (same_neg number.value) ∙ sym i) in
    record {
      may = subst (MayDefine base L T) one may;
      loose = record { shape = r; describes = subst (λ id. DescribesLoosely id v r) one ds };
      spelling = b;
      spells = sp;
      all = number.rest;
    }

pub nothing_identified : {L : Bounds} {T : Table} {y a : List ℕ} {id : TypeId} {k m : ℕ} {r : Reason} (z : List ℕ)
    → y ≡ a ++ z → id.0 ≡ k + 1 → IsSigned (negsuc k) a → RefusesId base_table L T id r
    → NothingStands base_table L T m y
nothing_identified z e i s h = record {
  no_type = no_type_behind z e s;
  no_definition = λ t v U l d. id_met h (defined_there z e i s d refl).may;
}

pub nothing_described : {L : Bounds} {T : Table} {y a z : List ℕ} {id : TypeId} {k m : ℕ} {v : Tree} → y ≡ a ++ z
    → id.0 ≡ k + 1 → IsSigned (negsuc k) a → Spells T wire_type v z → ¬ IsLooseDescription id v
    → NothingStands base_table L T m y
nothing_described {z = z} {id = id} {v = v} e i s sp none = record {
  no_type = no_type_behind z e s;
  no_definition = λ t u U l d.
      let there = defined_there z e i s d refl in
      let one = same_spelling [] [] there.spells sp (ap (λ (l : List ℕ). l ++ []) there.all) in
      none (subst (λ v. IsLooseDescription id v) one.value there.loose);
}

-- the refusals of a description say no other id
reason_not_id : (a : Allowed) → reason_of a ≢ reason.WrongId
reason_not_id any e = cc
reason_not_id tag e = cc
reason_not_id truth_value e = cc
reason_not_id (array_count n) e = cc
reason_not_id (delta n) e = cc
reason_not_id nil e = cc

refused_not_id : {T : Table} {t : TypeId} {limit announced : ℕ} {z : List ℕ} {R : body.Refusal}
    → Refused T t limit announced z R → R.reason ≢ reason.WrongId
refused_not_id (extra r s e l) f = cc
refused_not_id (too_deep r a e l) f = cc
refused_not_id (short_of r a e n h) f = cc
refused_not_id (bad_head_at r a e h) f = cc
refused_not_id (not_minimal_at r a e h) f = cc
refused_not_id (not_allowed r {a = k} a e u h) f = absurd (reason_not_id k f)

pub nothing_readable : {L : Bounds} {T : Table} {y a : List ℕ} {id : TypeId} {k m : ℕ} {R : body.Refusal}
    (z : List ℕ) → HasWireType T → y ≡ a ++ z → id.0 ≡ k + 1 → IsSigned (negsuc k) a → MayDefine base_table L T id
    → IsFirst T wire_type L.depth (m - length a) z R → NothingStands base_table L T m y
nothing_readable {L = L} {T = T} {y = y} {m = m} {R = R} z w e i s may h = record {
  no_type = no_type_behind z e s;
  no_definition = no_whole_definition (has_structs w)
      (there z e i s may h) (inl (refused_not_id h.refused));
}
  where
    there : {id : TypeId} {k : ℕ} {a : List ℕ} (z : List ℕ) → y ≡ a ++ z → id.0 ≡ k + 1 → IsSigned (negsuc k) a
        → MayDefine base_table L T id → IsFirst T wire_type L.depth (m - length a) z R
        → RefusesBody base_table L T 0 m y (refusing.behind (0 + length a) R)
    there z e i s may h = refusing.refused_description z e i s may h

-- ---- the number of a type at the front

pos_injective : {m n : ℕ} → pos m ≡ pos n → m ≡ n
pos_injective e = cc

no_other_type : {T : Table} {y a : List ℕ} {t : TypeId} (z : List ℕ) → y ≡ a ++ z → IsSigned (pos t.0) a
    → ¬ MayPut T t → (u : TypeId) (n r : List ℕ) → y ≡ n ++ r → IsSigned (pos u.0) n → ¬ MayPut T u
no_other_type {T = T} {t = t} z e s none u n q f r may =
    let one : u ≡ t = same_id (pos_injective (signed_prefix q z r s (sym f ∙ e)).value) in
    none (subst (MayPut T) one may)

pub nothing_typed : {L : Bounds} {T : Table} {y a : List ℕ} {t : TypeId} {m : ℕ} {r : Reason} (z : List ℕ)
    → y ≡ a ++ z → IsSigned (pos t.0) a → RefusesType T t r → NothingStands base_table L T m y
nothing_typed z e s h = record {
  no_type = no_other_type z e s (λ may. type_met h may);
  no_definition = λ id v U l d. no_type_there z e s d refl;
}
