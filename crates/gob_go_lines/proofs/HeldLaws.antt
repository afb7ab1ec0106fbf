-- What an interface holds, as it is put.
use Rattle.std.proofs.Common.{◌≡◌, ◌∙◌, Bool, ℕ, ◌+◌, ◌-◌, ◌<◌, ◌^◌, pos, List, [], ◌∷◌, ◌++◌, length, Result, Ok, Err}
use Rattle.std.proofs.Common.{w64}
use Rattle.std.proofs.Common.{ap, arith, codes, refl, subst, sym, append_assoc, to_z}
use Rattle.std.specs.Prelude.{IfErr, IsTrue, OnOk}
use Rattle.std.proofs.lemmas.Int.{ints, to_z_pos}
use Rattle.json.specs.Token.{Token}
use Rattle.serde_json.specs.Data.{Data, null}
use Rattle.gob_num.specs.Signed.{IsSigned}
use Rattle.gob_num.specs.Spelled.{Appends}
use Rattle.gob_num.specs.Unsigned.{AreBytes, IsUnsigned}
use Rattle.gob_num.proofs.PublicLaws.{signed_fits, signed_unique, unsigned_unique}
use Rattle.gob_types.specs.declared.id.TypeId.{TypeId}
use Rattle.gob_types.specs.declared.basic.Basic.TheVariants as basic
use Rattle.gob_types.specs.declared.kind.Kind.TheVariants as kind
use Rattle.gob_types.specs.Table.{Table}
use Rattle.gob_value.specs.Spelling.{of_nil}
use Rattle.gob_value.specs.Written.{WrittenBytes, counted}
use Rattle.gob_json.specs.Json.{text_json}
use Rattle.gob_stream.specs.Body.{MayPut}
use Rattle.gob_lines.specs.Numbers.{as_shown}
use Rattle.gob_lines.specs.Reads.{IsWrong, Reads}
use Rattle.gob_lines.specs.declared.fault.LineFault.{LineFault}
use Rattle.gob_lines.proofs.UniqueLaws.{J, behind}
use Rattle.gob_go_lines.specs.Says.{SaysAs, SaysTop, held_json, of_basic, of_held}
use Rattle.gob_go_lines.specs.Lines.{PutsIt, PutsSaid, ReadsHeld, SpellsHeld, held_tokens}
use Rattle.gob_go_lines.proofs.KindLaws.{HeldStands, InterfaceStands, held_stands, nil_stands}

pub record HasCount (s b : List ℕ) : Type 0 where
  pub count : List ℕ
  pub counts : IsUnsigned (length s) count
  pub whole : b ≡ count ++ s

pub count_of : {s b : List ℕ} → WrittenBytes s b → HasCount s b
count_of (counted {c = c} p) = record { count = c; counts = p; whole = refl }

pub held_put : (r : Result (Unit {0}) LineFault) (name : List ℕ) (id : TypeId) (value old m1 m2 new : List ℕ)
    → id.0 < 2 ^ 63 → Appends (WrittenBytes name) old m1 → Appends (IsSigned (to_z w64 id.0)) m1 m2
    → OnOk r (Appends (WrittenBytes value) m2 new) → OnOk r (Appends (SpellsHeld name id value) old new)
held_put (Ok u) name id value old m1 m2 new small p q r =
    let a = count_of p.spelled in
    let c = count_of r.spelled in
    record {
      bytes = p.bytes ++ (q.bytes ++ r.bytes);
      spelled = record {
        name_count = a.count;
        number = q.bytes;
        count = c.count;
        named = a.counts;
        typed = subst (λ i. IsSigned i q.bytes) (to_z_pos w64 id.0 small) q.spelled;
        counted = c.counts;
        whole = ap (λ l. l ++ (q.bytes ++ r.bytes)) a.whole ∙ append_assoc a.count name (q.bytes ++ r.bytes)
            ∙ ap (λ l. a.count ++ (name ++ (q.bytes ++ l))) c.whole;
      };
      appended = r.appended ∙ ap (λ l. l ++ r.bytes) (q.appended ∙ ap (λ l. l ++ q.bytes) p.appended)
          ∙ append_assoc (old ++ p.bytes) q.bytes r.bytes ∙ append_assoc old p.bytes (q.bytes ++ r.bytes);
    }
held_put (Err e) name id value old m1 m2 new small p q r = tt

-- it has one spelling
pub held_once : {name value b c : List ℕ} {id : TypeId} → SpellsHeld name id value b → SpellsHeld name id value c → b
    ≡ c
held_once {name = name} {value = value} p q =
    let a = unsigned_unique p.named q.named in
    let n = signed_unique p.typed q.typed in
    let v = unsigned_unique p.counted q.counted in
    cc (p.whole, q.whole, a, n, v)

-- ---- the tokens of what an interface holds

held_front : (name : List ℕ) (number j : Data) (rest : List Token)
    → J (held_json name number j) ++ rest
    ≡ Token.begin_object ∷ held_tokens name number (J j ++ (Token.end_object ∷ (Token.end_object ∷ rest)))
held_front name typed j rest = simp append_assoc

pub held_reads : (name : List ℕ) (number j : Data) (old m m2 m3 new : List Token)
    → old ≡ Token.begin_object ∷ m → m ≡ held_tokens name number m2 → Reads j m2 m3
    → m3 ≡ Token.end_object ∷ (Token.end_object ∷ new) → Reads (held_json name number j) old new
held_reads name typed j old m m2 m3 new e front value end =
    e ∙ ap (λ (l : List Token). Token.begin_object ∷ l)
    (front ∙ ap (held_tokens name typed) (value ∙ ap (λ (l : List Token). J j ++ l) end))
    ∙ sym (held_front name typed j new)

pub held_said : {T : Table} {H : Bool} {id : TypeId} {limit : ℕ} {m2 m3 : List Token} {value : List ℕ}
    (r : Result (Unit {0}) LineFault) (name : List ℕ) (old m new : List Token) (before after : List ℕ)
    → AreBytes name → 0 < length name → MayPut T id → (old ≡ Token.begin_object ∷ m) × IsTrue H
    → ReadsHeld name id m m2 → PutsSaid (SaysTop T H id limit) m2 m3 [] value
    → m3 ≡ Token.end_object ∷ (Token.end_object ∷ new) → OnOk r (Appends (SpellsHeld name id value) before after)
    → OnOk r (PutsSaid (SaysAs T H (kind.Basic basic.Interface) (limit + 1)) old new before after)
held_said {T = T} {H = H} {id = id} {limit = limit} {m2 = m2} {m3 = m3} {value = value} (Ok u) name old m new before
    after o some may e front p end put =
    let s = put.spelled in
    let down : limit ≡ limit + 1 - 1 = omega arith in
    let json = held_json name front.0 p.json in
    let all = s.name_count ++ (name ++ (s.number ++ (s.count ++ value))) in
    record {
      json = json;
      bytes = put.bytes;
      says = subst (λ b. SaysAs T H (kind.Basic basic.Interface) (limit + 1) json b) (sym s.whole)
          (of_held name e.1 o some s.named may s.typed front.1
          (subst (λ b. SaysTop T H id (limit + 1 - 1) p.json b) (sym p.appended)
          (subst (λ l. SaysTop T H id l p.json p.bytes) down p.says)) s.counted);
      reads = held_reads name front.0 p.json old m m2 m3 new e.0 front.2 p.reads end;
      appended = put.appended;
    }
held_said (Err x) name old m new before after o some may e front p end put = tt

pub nil_said : {T : Table} {H : Bool} {limit : ℕ} {before after : List ℕ} (old new : List Token)
    → old ≡ Token.null ∷ new
    → Appends (IsUnsigned 0) before after
    → PutsSaid (SaysAs T H (kind.Basic basic.Interface) limit) old new before after
nil_said old new e put = record {
  json = null;
  bytes = put.bytes;
  says = of_basic (of_nil put.spelled) tt as_shown;
  reads = e;
  appended = put.appended;
}

-- ---- what stands there

pub nil_stands_there : {T : Table} {H : Bool} {limit : ℕ} {j : Data} {b : List ℕ} {old new rest : List Token}
    → InterfaceStands T H limit j b → Reads j old rest → old ≡ Token.null ∷ new → IsUnsigned 0 b × (new ≡ rest)
nil_stands_there {old = old} {rest = rest} (nil_stands is p) reads e =
    (p, ap behind (sym e ∙ subst (λ d. Reads d old rest) is reads))
nil_stands_there {old = old} {rest = rest} (held_stands s) reads e =
    let there = sym e ∙ subst (λ d. Reads d old rest) s.is reads ∙ held_front s.name s.id_json s.json rest in
    absurd (cc (there))

pub record HeldThere (T : Table) (H : Bool) (limit : ℕ) (j : Data) (b : List ℕ) (new rest : List Token) : Type 0 where
  pub stands : HeldStands T H limit j b
  pub tokens : ReadsHeld stands.name stands.held new
      (J stands.json ++ (Token.end_object ∷ (Token.end_object ∷ rest)))

pub held_stands_there : {T : Table} {H : Bool} {limit : ℕ} {j : Data} {b : List ℕ} {old new rest : List Token}
    → InterfaceStands T H limit j b → Reads j old rest → old ≡ Token.begin_object ∷ new
    → HeldThere T H limit j b new rest
held_stands_there {old = old} {rest = rest} (nil_stands is p) reads e =
    let there = sym e ∙ subst (λ d. Reads d old rest) is reads in
    absurd (cc (there))
held_stands_there {old = old} {rest = rest} (held_stands s) reads e = record {
  stands = s;
  tokens = (
    s.id_json,
    s.numbered,
    ap behind (sym e ∙ subst (λ d. Reads d old rest) s.is reads ∙ held_front s.name s.id_json s.json rest),
  );
}

-- one of both stands there
pub one_stands_there : {T : Table} {H : Bool} {limit : ℕ} {j : Data} {b : List ℕ} {old : List Token} (rest : List Token)
    → InterfaceStands T H limit j b → Reads j old rest → ((new : List Token) → old ≡ Token.null ∷ new → ⊥)
    → (IsTrue H → (new : List Token) → old ≡ Token.begin_object ∷ new → ⊥) → ⊥
one_stands_there {old = old} rest (nil_stands is p) reads nil held =
    nil rest (subst (λ d. Reads d old rest) is reads)
one_stands_there {old = old} rest (held_stands s) reads nil held =
    held s.in_go _ (subst (λ d. Reads d old rest) s.is reads ∙ held_front s.name s.id_json s.json rest)

pub held_was_put : {T : Table} {H : Bool} {limit : ℕ} {j : Data} {b : List ℕ} (r : Result (Unit {0}) LineFault)
    (s : HeldStands T H limit j b) (name : List ℕ) (id : TypeId) (value : List ℕ) (new rest : List Token)
    (before after : List ℕ) → OnOk r (Appends (SpellsHeld name id value) before after) → IfErr r (λ f. ¬ IsWrong f)
    → ◌≡◌ {A = List ℕ × TypeId} (name, id) (s.name, s.held) → value ≡ s.value → new ≡ rest
    → PutsIt r new rest before after b
held_was_put (Ok u) s name id value new rest before after put none same body left =
    let named : name ≡ s.name = ap (λ (p : List ℕ × TypeId). p.0) same in
    let typed : id ≡ s.held = ap (λ (p : List ℕ × TypeId). p.1) same in
    let spelled = subst (λ v. SpellsHeld s.name s.held v put.bytes) body
    (subst (λ t. SpellsHeld s.name t value put.bytes) typed
    (subst (λ n. SpellsHeld n id value put.bytes) named put.spelled)) in
    let there : SpellsHeld s.name s.held s.value (s.name_count ++ (s.name ++ (s.number ++ (s.count ++ s.value)))) =
    record {
      name_count = s.name_count;
      number = s.number;
      count = s.count;
      named = s.named;
      typed = s.typed;
      counted = s.counted;
      whole = refl;
    } in
    (left, put.appended ∙ ap (λ l. before ++ l) (held_once spelled there ∙ sym s.whole))
held_was_put (Err e) s name id value new rest before after put none same body left = none

-- ---- its type and its value

pub signed_small : {n : ℕ} {b : List ℕ} → IsSigned (pos n) b → n < 2 ^ 63
signed_small p = let f = signed_fits p in omega (arith, ints)

pub held_top : {H : Bool} {j : Data} {b : List ℕ} (T : Table) (limit : ℕ) (id : TypeId)
    (k : HeldStands T H (limit + 1 - 1) j b)
    → id ≡ k.held → SaysTop T H id limit k.json k.value
held_top {H = H} T limit id k same =
    let down : limit + 1 - 1 ≡ limit = omega arith in
    subst (λ l. SaysTop T H id l k.json k.value) down
    (subst (λ i. SaysTop T H i (limit + 1 - 1) k.json k.value) (sym same) k.says)

-- ---- what stands in front of the value

-- behind the name
abbrev pub behind_name : Data → List Token → List Token
behind_name typed rest = Token.key (codes "type") ∷ (J typed ++ (Token.key (codes "value") ∷ rest))

pub front_tokens : (name : List ℕ) (number : Data) (old m0 m1 m2 m3 m4 m5 new : List Token)
    → old ≡ Token.key (codes "interface") ∷ m0 → m0 ≡ Token.begin_object ∷ m1 → m1 ≡ Token.key (codes "name") ∷ m2
    → Reads (text_json name) m2 m3 → m3 ≡ Token.key (codes "type") ∷ m4 → Reads number m4 m5
    → m5 ≡ Token.key (codes "value") ∷ new → old ≡ held_tokens name number new
front_tokens name of old m0 m1 m2 m3 m4 m5 new e0 e1 e2 text e3 reads e4 =
    e0 ∙ ap (λ (l : List Token). Token.key (codes "interface") ∷ l)
    (e1 ∙ ap (λ (l : List Token). Token.begin_object ∷ l)
    (e2 ∙ ap (λ (l : List Token). Token.key (codes "name") ∷ l)
    (text ∙ ap (λ (l : List Token). J (text_json name) ++ l)
    (e3 ∙ ap (λ (l : List Token). Token.key (codes "type") ∷ l)
    (reads ∙ ap (λ (l : List Token). J of ++ l) e4)))))
