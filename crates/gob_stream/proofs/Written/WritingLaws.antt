-- What the writing calls rest on.
use Rattle.std.proofs.Common.{◌≡◌, ◌≢◌, ℕ, ℤ, negsuc, ◌+◌, ◌^◌, ◌<◌, ◌≤◌, ◌⊎◌, inl, inr, true, false, cond, List, []}
use Rattle.std.proofs.Common.{◌∷◌, ◌++◌, Some, refl, sym, ap, subst, ◌∙◌, arith, append_assoc, append-nil}
use Rattle.std.specs.Prelude.{◌==◌}
use Rattle.std.proofs.lemmas.Bool.Decides.{eqb_tells}
use Rattle.gob_num.specs.Unsigned.{IsUnsigned, short, long}
use Rattle.gob_num.specs.Signed.{IsSigned}
use Rattle.gob_types.specs.declared.id.TypeId.{TypeId}
use Rattle.gob_types.specs.declared.kind.Shape.{Shape}
use Rattle.gob_types.specs.Table.{Table, shape_of}
use Rattle.gob_types.specs.Base.{base_table, wire_type}
use Rattle.gob_types.specs.Defined.{IsTable}
use Rattle.gob_types.specs.Ready.{IsReady}
use Rattle.gob_types.proofs.PublicLaws.{ready_defined, shape_of-table}
use Rattle.gob_value.specs.Tree.{Tree, depth}
use Rattle.gob_value.specs.Spelling.{Spells}
use Rattle.gob_value.specs.Description.{Describes}
use Rattle.gob_value.specs.Top.{SpellsTop, at_once, tagged}
use Rattle.gob_stream.specs.Bounds.{Bounds}
use Rattle.gob_stream.specs.Item.{StreamItem, defines, puts}
use Rattle.gob_stream.specs.Body.{Body, definition, value, MayDefine, MayPut}
use Rattle.gob_stream.specs.Stream.{IsItem, counted}
use Rattle.gob_stream.specs.Calls.Writing.{IsWholeItem, IsHead, head_of_struct, head_with_tag}

-- ---- the ids of defined types are small

abbrev AllBelow : ℕ → Table → Type 0
AllBelow n [] = Unit {0}
AllBelow n (entry ∷ T) = (entry.0.0 < n) × AllBelow n T

id_below : (n : ℕ) (T : Table) (t : TypeId) (s : Shape) → AllBelow n T → shape_of T t ≡ Some s → t.0 < n
id_below n [] t s all found = absurd (cc found)
id_below n (entry ∷ T) t s all found = by (eqb_tells entry.0.0 t.0) (id_below n T t s all.1)
  where
    by : ((entry.0.0 == t.0) ≡ true) × (entry.0.0 ≡ t.0) ⊎ ((entry.0.0 == t.0) ≡ false) × (entry.0.0 ≢ t.0)
        → (shape_of T t ≡ Some s → t.0 < n) → t.0 < n
    by (inl h) rest = let below = all.0 in let same = h.1 in omega arith
    by (inr h) rest = rest (sym (ap (λ b. cond b (Some entry.1) (shape_of T t)) h.0) ∙ found)

base_below : AllBelow 25 base_table
base_below = (
  omega arith,
  (
    omega arith,
    (
      omega arith,
      (
        omega arith,
        (
          omega arith,
          (
            omega arith,
            (
              omega arith,
              (
                omega arith,
                (
                  omega arith,
                  (
                    omega arith,
                    (
                      omega arith,
                      (omega arith, (omega arith, (omega arith, (omega arith, (omega arith, (omega arith, tt)))))),
                    ),
                  ),
                ),
              ),
            ),
          ),
        ),
      ),
    ),
  ),
)

pub ready_small : {T : Table} {t : TypeId} → IsTable T → IsReady T t → t.0 < 2 ^ 63
ready_small {T = T} {t = t} table ready =
    let defined = ready_defined ready in
    elim (shape_of-table table t defined.0 defined.1) [
      | inl found ↦ (let small = id_below 25 base_table t defined.0 base_below found in omega arith)
      | inr own ↦ (let small = own.0.1 in omega arith)
    ]

-- ---- bodies

pub appended_two : (a b : List ℕ) {x y z : List ℕ} → x ≡ [] → y ≡ x ++ a → z ≡ y ++ b → z ≡ a ++ b
appended_two a b none first second = second ∙ ap (λ l. l ++ b) (first ∙ ap (λ l. l ++ a) none)

zero_byte : {z : List ℕ} → IsUnsigned 0 z → z ≡ 0 ∷ []
zero_byte (short _) = refl
zero_byte (long c) = absurd (omega (arith, c.large))

-- the bytes of a signed number are those of what it is equal to
pub signed_as : {i : ℤ} {b : List ℕ} (j : ℤ) → IsSigned i b → i ≡ j → IsSigned j b
signed_as {b = b} j spelled same = subst (λ k. IsSigned k b) same spelled

-- the number of a definition and its description's spelling
pub definition_body : (L : Bounds) {T : Table} {t : TypeId} {v : Tree} {s : Shape} {n : ℕ} {a b w : List ℕ}
    → MayDefine base_table L T t → depth v ≤ L.depth → Describes t v s
    → t.0 ≡ n + 1 → IsSigned (negsuc n) a → Spells T wire_type v b → w ≡ a ++ b → Body base_table L T (defines t v) w (T
    ++ (t, s) ∷ [])
definition_body L {T = T} {t = t} {v = v} {s = s} may within describes is number spelled whole =
    subst (λ w. Body base_table L T (defines t v) w (T ++ (t, s) ∷ [])) (sym whole)
    (definition may within describes is number spelled)

-- the number of the type, the tag, and the value's spelling
pub value_body : (L : Bounds) {T : Table} {t : TypeId} {v : Tree} {h s w : List ℕ} → MayPut T t → depth v ≤ L.depth
    → IsHead T t h → Spells T t v s → w ≡ h ++ s
    → Body base_table L T (puts t v) w T
value_body L {T = T} {t = t} {v = v} may within (head_of_struct has number) spelled whole =
    subst (λ w. Body base_table L T (puts t v) w T) (sym whole)
    (value may within number (at_once has.found has.struct spelled))
value_body L {T = T} {t = t} {v = v} {s = s} may within (head_with_tag {a = a} {z = z} no_struct number tag) spelled
    whole =
    let defined = ready_defined may.ready in
    let top : SpellsTop T t v (0 ∷ s) =
    tagged defined.1 (λ struct. no_struct (record { shape = defined.0; found = defined.1; struct = struct }))
    spelled in
    subst (λ w. Body base_table L T (puts t v) w T) (sym (whole ∙ append_assoc a z s))
    (value may within number (subst (λ y. SpellsTop T t v (y ++ s)) (sym (zero_byte tag)) top))

-- ---- the item of a body

-- a body that is all in its first part
pub body_alone : {L : Bounds} {T U : Table} {i : StreamItem} {d : List ℕ} → Body base_table L T i d U
    → Body base_table L T i (d ++ []) U
body_alone {L = L} {T = T} {U = U} {i = i} {d = d} body = subst (λ b. Body base_table L T i b U) (sym (append-nil d))
    body

pub whole_item : {base : Table} {L : Bounds} {T U : Table} {o : ℕ} {i : StreamItem} {d w : List ℕ} → Body base L T i d U
    → IsWholeItem L o d w → IsItem base L T o i w U
whole_item {base = base} {L = L} {T = T} {U = U} {o = o} {i = i} body whole =
    subst (λ b. IsItem base L T o i b U) (sym whole.whole) (counted whole.spelled whole.fits.item whole.fits.stream
    body)
