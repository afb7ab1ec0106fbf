-- What fills the nils of a value, part by part: the filled bytes of each part are said by its JSON.
use Rattle.std.proofs.Common.{◌≡◌, ◌≢◌, ℕ, ◌+◌, ◌-◌, ◌<◌, ◌≤◌, Bool, true, false, List, [], ◌∷◌, ◌++◌, length, arith}
use Rattle.std.proofs.Common.{refl, sym, ap, subst, ◌∙◌, append_assoc, append-nil, add-zero, inl, inr, true≢false}
use Rattle.std.proofs.lemmas.Bool.{cases_lt}
use Rattle.serde_json.specs.Data.{Data, null}
use Rattle.gob_num.specs.Unsigned.{AreBytes, IsUnsigned, short}
use Rattle.gob_num.proofs.PublicLaws.{bytes_prefix, bytes_rest}
use Rattle.gob_types.specs.declared.id.TypeId.{TypeId}
use Rattle.gob_types.specs.declared.basic.Basic.{Basic}
use Rattle.gob_types.specs.declared.basic.Basic.TheVariants as basic
use Rattle.gob_types.specs.declared.kind.Kind.{Kind}
use Rattle.gob_types.specs.declared.kind.Kind.TheVariants as kind
use Rattle.gob_types.specs.declared.kind.Shape.{Shape}
use Rattle.gob_types.specs.Table.{Table}
use Rattle.gob_types.proofs.PublicLaws.{some_injective}
use Rattle.gob_value.specs.Spelling.{Spells}
use Rattle.gob_value.specs.Spelling as spells
use Rattle.gob_value.specs.Tree.{Tree}
use Rattle.gob_read.specs.Expected.{Allowed, Expected, a_number, first_allowed, nil}
use Rattle.gob_read.specs.Expects.{Enters, Expects, ExpectsAt, ExpectsTop, first, second, byte_content, text_content}
use Rattle.gob_read.specs.Expects.{opaque_content, next_delta}
use Rattle.gob_read.specs.Expects as place
use Rattle.gob_read.specs.Held.{PartialBody, not_begun}
use Rattle.gob_read.specs.Held as partial
use Rattle.gob_read.specs.Laws.{IsExpected, is_number, is_raw}
use Rattle.gob_read.proofs.Grammar.Compare.{compare_top, expects_once, met_some, tail_same}
use Rattle.gob_read.proofs.Grammar.HeldLaws.{body_once}
use Rattle.gob_read.proofs.Grammar.Onward.{Takes, number_taken, raw_taken, takes_least}
use Rattle.gob_read.proofs.Grammar.Prefixes.{prefix_of, prefix_length, rest_behind}
use Rattle.gob_read.proofs.Grammar.Stops.{stops_type}
use Rattle.gob_go.specs.Machine.WholeFilled.{IsOfKind}
use Rattle.gob_lines.specs.Numbers.{as_shown}
use Rattle.gob_go_lines.specs.Says.{Says, of_type, SaysAs, of_basic}
use Rattle.gob_go_lines.proofs.ReachLaws.{Reaches, begins}

-- ---- what fills the nils behind some bytes of a value's skeleton
-- Behind the bytes p of the skeleton the others are `left`, and with what fills them `letters`. The nils of the parts
-- from a number on show what N has: what a filling of the nil says, or else null. No part lies deeper than `most`. The
-- next part whose nil is filled has the number `next`, and where there is none that is at least `last`.
pub data Holes (T : Table) (H : Bool) (t : TypeId) (most last : ℕ) (N : ℕ → Data)
    : (number next : ℕ) → (p left letters : List ℕ) → Type 0 where
  no_hole : {number next : ℕ} {p left : List ℕ} → AreBytes left → last ≤ next
      → ((m : ℕ) → number ≤ m → N m ≡ null) → Holes T H t most last N number next p left left
  next_hole : {number k d raws behind : ℕ} {p left letters after m ms : List ℕ} (c : List ℕ) → AreBytes c
      → left ≡ c ++ 0 ∷ after → letters ≡ c ++ (m ++ ms) → ExpectsTop T t (p ++ c) (a_number nil) d
      → PartialBody T t (p ++ c) k raws → ((i : ℕ) → number ≤ i → i < k → N i ≡ null)
      → SaysAs T H (kind.Basic basic.Interface) (most - d + 1) (N k) m
      → Holes T H t most last N (k + 1) behind (p ++ (c ++ 0 ∷ [])) after ms
      → Holes T H t most last N number k p left letters

-- no nil is expected in these bytes behind those
abbrev pub HasNoNil : Table → (t : TypeId) → (p c : List ℕ) → Type 0
HasNoNil T t p c = (z x : List ℕ) (d : ℕ) → c ≡ z ++ x → x ≢ [] → ExpectsTop T t (p ++ z) (a_number nil) d → ⊥

-- these bytes stand as they are, and the holes lie behind them
pub record Skipped (T : Table) (H : Bool) (t : TypeId) (most last : ℕ) (N : ℕ → Data) (number next : ℕ)
    (p c left letters : List ℕ) : Type 0 where
  pub bytes : AreBytes c
  pub rest : List ℕ
  pub whole : letters ≡ c ++ rest
  pub holes : Holes T H t most last N number next (p ++ c) left rest

pub skipped : {T : Table} {H : Bool} {t : TypeId} {most last : ℕ} {N : ℕ → Data} {number next : ℕ}
    {p left letters : List ℕ} (c : List ℕ) → HasNoNil T t p c → Holes T H t most last N number next p (c ++ left)
    letters
    → Skipped T H t most last N number next p c left letters
skipped {left = left} c none (no_hole o end nulls) = record {
  bytes = bytes_prefix c left o;
  rest = left;
  whole = refl;
  holes = no_hole (bytes_rest c left o) end nulls;
}
skipped {T = T} {H = H} {t = t} {most = most} {last = last} {N = N} {number = number} {p = p} {left = left} c none
    (next_hole {k = k} {d = d} {raws = raws} {behind = behind} {after = after} {m = m} {ms = ms} z o is whole ex part
    nulls says more) =
    elim (cases_lt (length z) (length c)) [
      | inl less ↦ absurd (
          let f = prefix_of z c (0 ∷ after) left (sym is) (omega (arith, less)) in
          let n = prefix_length z c f in
          none z f.rest d f.whole (λ e. omega (arith, less, n, ap length e)) ex)
      | inr there ↦ (
          let f = prefix_of c z left (0 ∷ after) is there in
          let y = f.rest in
          let same : p ++ z ≡ (p ++ c) ++ y = ap (λ l. p ++ l) f.whole ∙ sym (append_assoc p c y) in
          let o' = subst AreBytes f.whole o in
          let end : p ++ (z ++ 0 ∷ []) ≡ (p ++ c) ++ (y ++ 0 ∷ []) =
          ap (λ l. p ++ (l ++ 0 ∷ [])) f.whole ∙ ap (λ l. p ++ l) (append_assoc c y (0 ∷ []))
          ∙ sym (append_assoc p c (y ++ 0 ∷ [])) in
          record {
            bytes = bytes_prefix c y o';
            rest = y ++ (m ++ ms);
            whole = whole ∙ ap (λ l. l ++ (m ++ ms)) f.whole ∙ append_assoc c y (m ++ ms);
            holes = next_hole y (bytes_rest c y o') (rest_behind c z left (0 ∷ after) is f) refl
                (subst (λ l. ExpectsTop T t l (a_number nil) d) same ex)
                (subst (λ l. PartialBody T t l k raws) same part) nulls says
                (subst (λ l. Holes T H t most last N (k + 1) behind l after ms) end more);
          })
    ]

-- ---- where no nil is expected
abbrev pub is_nil : Expected → Bool
is_nil (a_number nil) = true
is_nil _ = false

pub number_has_none : {T : Table} {t : TypeId} {p c : List ℕ} {a : Allowed} {n e : ℕ} → ExpectsTop T t p (a_number a) e
    → is_nil (a_number a) ≡ false → IsUnsigned n c → HasNoNil T t p c
number_has_none {p = p} here other u = λ z x d split some ex.
    elim (compare_top z [] here ex (sym (append-nil (p ++ z)))) [
      | inl same ↦ true≢false (sym (ap (λ (v : Expected × ℕ). is_nil v.0) same.value) ∙ other)
      | inr met ↦ elim met [
        | inl stands ↦ takes_least z x (number_taken u) split some stands
        | inr stands ↦ met_some ex stands
      ]
    ]

takes : {w : Expected} {c : List ℕ} → IsExpected w c → Takes w c
takes (is_number l u) = number_taken u
takes (is_raw same) = raw_taken (sym same)

-- nil is expected in no part of this type
abbrev pub HoldsNoNil : Table → TypeId → Type 0
HoldsNoNil T u = (z : List ℕ) (w : Expected) (d : ℕ) → is_nil w ≡ true → Expects T u z w d → ⊥

part_has_none : {T : Table} {t u : TypeId} {p b : List ℕ} {v : Tree} {around n : ℕ} → HoldsNoNil T u
    → Reaches T t p u around n → Spells T u v b → HasNoNil T t p b
part_has_none {T = T} {t = t} {u = u} {p = p} none r spelled = λ z x d split some ex.
    let s = stops_type z x spelled split some in
    let here = r.expects s.before s.expected s.depth s.expects in
    let whole : (p ++ s.before) ++ s.under_way ≡ (p ++ z) ++ [] =
    append_assoc p s.before s.under_way ∙ ap (λ l. p ++ l) (sym s.whole) ∙ sym (append-nil (p ++ z)) in
    elim (compare_top s.under_way [] here ex whole) [
      | inl same ↦ none s.before s.expected s.depth (ap (λ (v : Expected × ℕ). is_nil v.0) same.value) s.expects
      | inr met ↦ elim met [
        | inl stands ↦ takes_least s.under_way s.begun.rest (takes s.begun.item) refl s.begun.more stands
        | inr stands ↦ met_some ex stands
      ]
    ]

at_no_nil : {T : Table} {k : Kind} {z : List ℕ} {w : Expected} → is_nil (a_number (first_allowed k)) ≡ false
    → is_nil w ≡ true → ExpectsAt T k z w → ⊥
at_no_nil other is first = true≢false (sym is ∙ other)
at_no_nil other is (second p) = true≢false (sym is)
at_no_nil other is (byte_content l p) = true≢false (sym is)
at_no_nil other is (text_content l p) = true≢false (sym is)
at_no_nil other is (opaque_content l p) = true≢false (sym is)
at_no_nil other is (next_delta l run) = true≢false (sym is)

abbrev pub HasNoParts : Kind → Type 0
HasNoParts k = (T : Table) (q : List ℕ) (u : TypeId) → Enters T k q u → ⊥

pub no_basic_parts : (k : Basic) (T : Table) (q : List ℕ) (u : TypeId) → Enters T (kind.Basic k) q u → ⊥
no_basic_parts k T q u h = elim h [ ]

not_expected : {T : Table} {u : TypeId} {k : Kind} {z : List ℕ} {w : Expected} {d : ℕ} → IsOfKind T u k
    → is_nil (a_number (first_allowed k)) ≡ false → HasNoParts k → is_nil w ≡ true → Expects T u z w d → ⊥
not_expected {T = T} {k = k} {z = z} {w = w} (s, found, is) other parts nil_is
    (place.in_itself {s = r} found' at) =
    let one : r.kind ≡ k = ap (λ (q : Shape). q.kind) (some_injective (sym found' ∙ found)) ∙ is in
    at_no_nil other nil_is (subst (λ k. ExpectsAt T k z w) one at)
not_expected {T = T} {k = k} (s, found, is) other parts nil_is
    (place.in_part {u = v} {s = r} {q = q} found' enters h) =
    let one : r.kind ≡ k = ap (λ (q : Shape). q.kind) (some_injective (sym found' ∙ found)) ∙ is in
    parts T q v (subst (λ k. Enters T k q v) one enters)

pub no_nil_in : {T : Table} {u : TypeId} {k : Kind} → IsOfKind T u k → is_nil (a_number (first_allowed k)) ≡ false
    → HasNoParts k → HoldsNoNil T u
no_nil_in is other parts = λ z w d nil_is h. not_expected is other parts nil_is h

-- ---- parts
-- The first of the filled bytes, which are those of some part, say something, and the holes behind lie behind the part.
-- The part's number is `start`, and what stands behind it begins with the part `after`, if no part before that one
-- is filled there.
pub record Begun (T : Table) (H : Bool) (t : TypeId) (most last : ℕ) (N : ℕ → Data) (Say : List ℕ → Type 0)
    (start first after : ℕ) (p left letters : List ℕ) : Type 0 where
  pub bytes : List ℕ
  pub rest : List ℕ
  pub whole : letters ≡ bytes ++ rest
  pub number : ℕ
  pub order : number ≤ after
  pub next : ℕ
  pub holes : Holes T H t most last N number next p left rest
  pub says : after ≤ next → Say bytes
  -- so no part before this one is filled in it
  pub late : after ≤ next → start ≤ first

pub says_as : {T : Table} {H : Bool} {u : TypeId} {k : Kind} {limit : ℕ} {j : Data} {b : List ℕ} → IsOfKind T u k
    → 0 < limit → SaysAs T H k limit j b → Says T H u limit j b
says_as {T = T} {H = H} {limit = limit} {j = j} {b = b} (s, found, is) some h =
    of_type found some (subst (λ k. SaysAs T H k limit j b) (sym is) h)

-- one in which no nil is expected
pub leaf_begun : {T : Table} {H : Bool} {t u : TypeId} {most last around n number next : ℕ} {N : ℕ → Data} {v : Tree}
    {p b left letters : List ℕ} {Say : List ℕ → Type 0} (after : ℕ) → HoldsNoNil T u → Reaches T t p u around n
    → Spells T u v b → n ≤ after → number ≤ n → (AreBytes b → Say b)
    → Holes T H t most last N number next p (b ++ left) letters
    → Begun T H t most last N Say n next after (p ++ b) left letters
leaf_begun {number = number} {next = next} {b = b} after none r spelled later order says holes =
    let s = skipped b (part_has_none none r spelled) holes in
    record {
      bytes = b;
      rest = s.rest;
      whole = s.whole;
      number = number;
      order = omega (arith, order, later);
      next = next;
      holes = s.holes;
      says = λ l. says s.bytes;
      late = λ l. omega (arith, l, later);
    }

nil_says : {T : Table} {H : Bool} {u : TypeId} {limit : ℕ} {j : Data} → IsOfKind T u (kind.Basic basic.Interface)
    → 0 < limit → j ≡ null → Says T H u limit j (0 ∷ [])
nil_says {T = T} {H = H} {u = u} {limit = limit} is some same =
    subst (λ j. Says T H u limit j (0 ∷ [])) (sym same)
    (says_as is some (of_basic (spells.of_nil (short (omega arith))) tt as_shown))

-- what is expected at a nil, and how many parts began before
nil_place : {T : Table} {t u : TypeId} {p : List ℕ} {around n : ℕ} → Reaches T t p u around n
    → IsOfKind T u (kind.Basic basic.Interface) → (raws : ℕ) × PartialBody T t p n raws
nil_place {T = T} {t = t} {p = p} {n = n} r (s, found, is) =
    let b = r.leads.leads [] 0 0 (partial.in_itself found not_begun) in (
      b.0,
      subst (λ q. PartialBody T t q n b.0) (append-nil p)
          (subst (λ m. PartialBody T t (p ++ []) m b.0) (add-zero n) b.1),
    )

pub nil_begun : {T : Table} {H : Bool} {t u : TypeId} {most last around limit n number next : ℕ} {N : ℕ → Data}
    {p left letters : List ℕ} → Reaches T t p u around n → IsOfKind T u (kind.Basic basic.Interface) → 0 < limit
    → most ≡ around + limit → number ≤ n → Holes T H t most last N number next p (0 ∷ left) letters
    → Begun T H t most last N (λ m. Says T H u limit (N n) m) n next (n + 1) (p ++ 0 ∷ []) left letters
nil_begun {n = n} {number = number} {next = next} {left = left} r is some deep order (no_hole o end nulls) = record {
  bytes = 0 ∷ [];
  rest = left;
  whole = refl;
  number = number;
  order = omega (arith, order);
  next = next;
  holes = no_hole o.1 end nulls;
  says = λ l. nil_says is some (nulls n order);
  late = λ l. omega (arith, l);
}
nil_begun {T = T} {H = H} {t = t} {u = u} {most = most} {last = last} {around = around} {limit = limit} {n = n} {N = N}
    {p = p} {left = left} r is some deep order
    (next_hole {k = k} {d = d} {behind = behind} {after = after} {m = m} {ms = ms} [] o at whole ex part nulls says
    more) =
    let here : p ++ [] ≡ p = append-nil p in
    let depth : d ≡ around + 1 =
    (expects_once (subst (λ l. ExpectsTop T t l (a_number nil) d) here ex) (begins r is)).1 in
    let own : k ≡ n = (body_once part (nil_place r is).1 here).0 in
    let limits : most - d + 1 ≡ limit = omega (arith, deep, depth, some) in
    let value : SaysAs T H (kind.Basic basic.Interface) limit (N n) m =
    subst (λ i. SaysAs T H (kind.Basic basic.Interface) limit (N i) m) own
    (subst (λ l. SaysAs T H (kind.Basic basic.Interface) l (N k) m) limits says) in
    record {
      bytes = m;
      rest = ms;
      whole = whole;
      number = k + 1;
      order = omega (arith, own);
      next = behind;
      holes = subst (λ l. Holes T H t most last N (k + 1) behind (p ++ 0 ∷ []) l ms) (sym (tail_same at)) more;
      says = λ l. says_as is some value;
      late = λ l. omega (arith, own);
    }
nil_begun {T = T} {H = H} {t = t} {most = most} {last = last} {n = n} {number = number} {N = N} {p = p} {left = left} r
    is some deep order
    (next_hole {k = k} {d = d} {raws = raws} {behind = behind} {after = after} {m = m} {ms = ms} (x ∷ c) o at whole ex
    part nulls says more) =
    let zero_is : x ≡ 0 = head_same (sym at) in
    let same : p ++ (x ∷ c) ≡ (p ++ 0 ∷ []) ++ c =
    ap (λ i. p ++ (i ∷ c)) zero_is ∙ sym (append_assoc p (0 ∷ []) c) in
    let end : p ++ (x ∷ (c ++ 0 ∷ [])) ≡ (p ++ 0 ∷ []) ++ (c ++ 0 ∷ []) =
    ap (λ i. p ++ (i ∷ (c ++ 0 ∷ []))) zero_is ∙ sym (append_assoc p (0 ∷ []) (c ++ 0 ∷ [])) in
    record {
      bytes = 0 ∷ [];
      rest = c ++ (m ++ ms);
      whole = whole ∙ ap (λ i. i ∷ (c ++ (m ++ ms))) zero_is;
      number = number;
      order = omega (arith, order);
      next = k;
      holes = next_hole c o.1 (tail_same at) refl
          (subst (λ l. ExpectsTop T t l (a_number nil) d) same ex)
          (subst (λ l. PartialBody T t l k raws) same part) nulls says
          (subst (λ l. Holes T H t most last N (k + 1) behind l after ms) end more);
      says = λ l. nil_says is some (nulls n order (omega (arith, l)));
      late = λ l. omega (arith, l);
    }
  where
    head_same : {a b : ℕ} {xs ys : List ℕ} → a ∷ xs ≡ b ∷ ys → a ≡ b
    head_same e = cc
