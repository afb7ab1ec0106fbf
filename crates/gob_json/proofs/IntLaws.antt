-- The ints of a list that are known to stand in a body, whose text waits in a block before it is put out.
use Rattle.std.proofs.Common.{◌≡◌, ℕ, ◌-◌, ◌<◌, Bool, true, false, List, [], ◌∷◌, ◌++◌, drop, Result, Ok, Err}
use Rattle.std.proofs.Common.{arith, refl, sym, ap, ◌∙◌, subst, append_assoc}
use Rattle.std.specs.Result.{result_and}
use Rattle.serde_json.specs.Written.{comma_if, compact_text, items_text}
use Rattle.gob_num.specs.Unsigned.{IsUnsigned}
use Rattle.gob_num.specs.Signed.{IsSigned}
use Rattle.gob_num.proofs.PublicLaws.{signed_prefix, signed_unsigned}
use Rattle.gob_types.specs.declared.id.TypeId.{TypeId}
use Rattle.gob_types.specs.declared.basic.Basic.TheVariants as basic
use Rattle.gob_types.specs.declared.kind.Kind.TheVariants as kind
use Rattle.gob_types.specs.Table.{Table}
use Rattle.gob_value.specs.Tree.{Tree, Trees, tree_count}
use Rattle.gob_value.specs.Spelling.{SpellsAs, SpellsEach, no_element, element}
use Rattle.gob_value.specs.Machine.Begins.{BeginsThisNumber}
use Rattle.gob_json.specs.Json.{elements_json, integer_json, value_json}
use Rattle.gob_walk.specs.Standing.{BeginsElements, HoldsKind, HoldsValue, IsOfKind, NumberFrom}
use Rattle.gob_walk.specs.Told.{Sends}
use Rattle.gob_walk.proofs.PublicLaws.{GoesOn, int_parts, next_element, number_first, prefix_failed, prefix_put}
use Rattle.gob_walk.proofs.PublicLaws.{sent_behind, value_as}

-- the int that is known to stand there
pub int_here : {T : Table} {v : Tree} {rest : List ℕ} (t : TypeId) (body : List ℕ) (at end n : ℕ) (i : _)
    → NumberFrom body at n end → ((bytes : List ℕ) → IsUnsigned n bytes → IsSigned i bytes)
    → HoldsKind T (kind.Basic basic.Int) v (drop at body) rest
    → (drop end body ≡ rest) × (compact_text (integer_json i) ≡ compact_text (value_json T t v))
int_here {T = T} {rest = rest} t body at end n i found means b =
    let x = int_parts b.spelled in
    let u = signed_unsigned x.2 in
    let one = found u.0 rest (record { bytes = b.bytes; spelled = u.1; whole = b.whole }) in
    let same = signed_prefix rest rest (means b.bytes (subst (λ k. IsUnsigned k b.bytes) (sym one.0) u.1)) x.2 refl in
    (one.1, ap (λ j. compact_text (integer_json j)) same.value ∙ ap (λ v. compact_text (value_json T t v)) (sym x.1))

-- so many elements are left, behind text that was made and isn't put out
pub record ElementsWait {O E : Type 0} (puts : O → O → List ℕ → Result (Unit {0}) E → Type 0) (T : Table) (e : TypeId)
    (limit count : ℕ) (later : Bool) (old now : O) (waits piece rest all : List ℕ) : Type 0 where
  pub values : Trees
  pub begins : BeginsElements T e limit values piece rest
  pub counted : tree_count values ≡ count
  pub text : GoesOn puts old now (waits ++ items_text later (elements_json T e values)) all

no_element_left : {T : Table} {e : TypeId} {vs : Trees} {b piece rest : List ℕ} (later : Bool) → SpellsEach T e vs b
    → piece ≡ b ++ rest → tree_count vs ≡ 0 → (items_text later (elements_json T e vs) ≡ 93 ∷ []) × (piece ≡ rest)
no_element_left later no_element whole none = (refl, whole)
no_element_left later (element p q) whole none = absurd (omega (arith, none))

module _ {O E : Type 0} (puts : O → O → List ℕ → Result (Unit {0}) E → Type 0)
    (joined : (a b c : O) (x y : List ℕ) (r : Result (Unit {0}) E) → puts a b x (Ok tt) → puts b c y r
    → puts a c (x ++ y) r)
    (cut : (a b : O) (x y : List ℕ) (e : E) → puts a b x (Err e) → puts a b (x ++ y) (Err e)) where
  pub all_wait : {T : Table} {e : TypeId} {limit count : ℕ} {vs : Trees} {old : O} {piece rest : List ℕ}
      → BeginsElements T e limit vs piece rest → tree_count vs ≡ count
      → ElementsWait puts T e limit count false old old [] piece rest (items_text false (elements_json T e vs))
  all_wait {vs = vs} b counted = record { values = vs; begins = b; counted = counted; text = λ new r p. p }

  module _ {T : Table} {e : TypeId} {limit count : ℕ} {later : Bool} {old now : O} {waits piece rest all : List ℕ}
      (l : ElementsWait puts T e limit count later old now waits piece rest all) where
    pub waiting_failed : {new : O} {f : E} → puts now new waits (Err f) → puts old new all (Err f)
    waiting_failed p = prefix_failed puts joined cut waits _ l.text refl p

    -- what waited is put out, and no element is left
    pub waiting_ended : {after new : O} {body : List ℕ} (at : ℕ) (r : Result (Unit {0}) E) (q : Result ℕ E)
        → q ≡ result_and r (Ok at) → piece ≡ drop at body → count ≡ 0 → puts now after waits (Ok tt)
        → puts after new (93 ∷ []) r → Sends puts old new all body rest q
    waiting_ended {after = after} {new = new} at r q last here none gone p =
        let end = no_element_left later l.begins.spelled l.begins.whole (l.counted ∙ none) in
        sent_behind puts at r q last (sym here ∙ end.1) refl
        (prefix_put puts joined cut waits _ l.text refl gone new r (subst (λ t. puts after new t r) (sym end.0) p))

    pub waiting_gone : {after : O} → puts now after waits (Ok tt)
        → ElementsWait puts T e limit count later old after [] piece rest all
    waiting_gone p = record {
      values = l.values;
      begins = l.begins;
      counted = l.counted;
      text = prefix_put puts joined cut waits _ l.text refl p;
    }

    -- the next int's number stands there
    pub waiting_first : IsOfKind T e (kind.Basic basic.Int) → 0 < count → (n : ℕ) × (r : List ℕ)
        × BeginsThisNumber n piece r
    waiting_first is some =
        let one = (next_element l.begins (omega (arith, l.counted))).value in
        let held = value_as is.shape is.found one in
        number_first (record {
          bytes = held.bytes;
          spelled = subst (λ k. SpellsAs T k _ held.bytes) is.same
              held.spelled;
          whole = held.whole;
        })

    -- the text of the next waits too
    pub next_waits : {place more : List ℕ} → 0 < count → ((v : Tree) (rest : List ℕ) → HoldsValue T e limit v piece rest
        → (place ≡ rest) × (more ≡ waits ++ (comma_if later ++ compact_text (value_json T e v))))
        → ElementsWait puts T e limit (count - 1) true old now more place rest all
    next_waits some made =
        let n = next_element l.begins (omega (arith, l.counted)) in
        let one = made n.first n.behind n.value in
        let w = n.left in
        let text = compact_text (value_json T e n.first) in
        let others = items_text true (elements_json T e n.others) in
        let whole = ap (λ (x : List ℕ). x ++ others) one.1 ∙ append_assoc waits (comma_if later ++ text) others
        ∙ ap (λ (x : List ℕ). waits ++ x) (append_assoc (comma_if later) text others
        ∙ sym (ap (λ vs. items_text later (elements_json T e vs)) n.same)) in
        record {
          values = n.others;
          begins = record { bytes = w.bytes; spelled = w.spelled; within = w.within; whole = one.0 ∙ w.whole };
          counted = omega (arith, l.counted, ap tree_count n.same);
          text = λ new r p. l.text new r (subst (λ x. puts now new x r) whole p);
        }
