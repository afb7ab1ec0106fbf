-- The text of a list of ints is that of the tokens that say it.
use Rattle.std.proofs.Common.{◌≡◌, ℕ, ℤ, pos, negsuc, ◌+◌, ◌*◌, ◌<◌, ◌^◌, List, [], ◌∷◌, ◌++◌, Bool, true, false}
use Rattle.std.proofs.Common.{refl, sym, ap, ◌∙◌, subst}
use Rattle.std.proofs.Common.{append_assoc, append-nil, arith}
use Rattle.std.specs.Prelude.{◌&&◌, nat_lt}
use lib.Signed.{mag}
use Rattle.std.proofs.Math.Nat.{le_refl}
use Rattle.std.specs.Fmt.{decimal, signed_decimal}
use Rattle.json.specs.Print.{ArePrintable, print_from}
use Rattle.json.specs.Token.{Token}
use Rattle.json.specs.Tree.{items_tokens}
use Rattle.serde_json.specs.Written.{comma_if, items_outline, outline}
use Rattle.gob_num.specs.Signed.{IsSigned, negative, not_negative}
use Rattle.gob_num.proofs.PublicLaws.{unsigned_fits}
use Rattle.gob_types.specs.declared.basic.Basic.TheVariants as basic
use Rattle.gob_types.specs.declared.id.TypeId.{TypeId}
use Rattle.gob_types.specs.declared.kind.Kind.TheVariants as kind
use Rattle.gob_types.specs.Table.{Table}
use Rattle.gob_value.specs.Spelling.{SpellsAs, SpellsEach, element, no_element}
use Rattle.gob_value.specs.Tree.{Tree, Trees, no_tree, tree, tree_count, depth}
use Rattle.gob_value.specs.Tree as Value
use Rattle.gob_json.specs.EventText.{events_text}
use Rattle.gob_json.specs.Json.{elements_json, integer_json}
use Rattle.gob_walk.specs.Event.{elements_told}
use Rattle.gob_walk.specs.Standing.{BeginsElements, IsOfKind}
use Rattle.gob_walk.proofs.PublicLaws.{int_parts, later_on, value_as}
use Rattle.gob_plain.specs.declared.line.Line.{Line}
use Rattle.gob_plain.specs.declared.style.Style.{Style}
use Rattle.gob_plain.specs.declared.visitor.VisitorPlace.TheVariants as place
use Rattle.gob_plain.specs.PlainEvents.{SaysEvents}
use Rattle.gob_plain.specs.PlainEvents as said
use Rattle.gob_plain.specs.PutsTokens.{PutSome, printable_both}
use Rattle.gob_plain.proofs.LineLaws.{integer_printable, items_end}

data AreInts : Trees → Type 0 where
  no_ints : AreInts no_tree
  ints_on : (i : ℤ) {vs : Trees} → mag i < 2 ^ 63 → AreInts vs → AreInts (tree (Value.int i) vs)

signed_small : {i : ℤ} {b : List ℕ} → IsSigned i b → mag i < 2 ^ 63
signed_small (not_negative p) = let h = unsigned_fits p in omega (arith, h)
signed_small (negative p) = let h = unsigned_fits p in omega (arith, h)

are_ints : {T : Table} {e : TypeId} {vs : Trees} {b : List ℕ} → IsOfKind T e (kind.Basic basic.Int)
    → SpellsEach T e vs b → AreInts vs
are_ints is no_element = no_ints
are_ints {T = T} is (element {v = v} {vs = vs} {b = b} p q) =
    let h = value_as {limit = depth v} {rest = []} is.shape is.found
    (record { bytes = b; spelled = p; within = le_refl (depth v); whole = sym (append-nil b) }) in
    let x = int_parts (subst (λ k. SpellsAs T k v h.bytes) is.same h.spelled) in
    subst (λ w. AreInts (tree w vs)) (sym x.1) (ints_on x.0 (signed_small x.2) (are_ints is q))

-- their tokens, with the bracket behind them
abbrev ints_tokens : Table → TypeId → Trees → List Token
ints_tokens T e vs = items_tokens (items_outline (elements_json T e vs))

module _ (T : Table) (e : TypeId) where
  ints_text : (later : Bool) {vs : Trees} → AreInts vs
      → print_from later (ints_tokens T e vs) ≡ events_text (elements_told later T e vs)
  unfolding print_from
  ints_text true no_ints = refl
  ints_text false no_ints = refl
  ints_text true (ints_on (pos n) small more) = ap (λ l. 44 ∷ (decimal n ++ l)) (ints_text true more)
  ints_text false (ints_on (pos n) small more) = ap (λ l. decimal n ++ l) (ints_text true more)
  ints_text true (ints_on (negsuc n) small more) = ap (λ l. 44 ∷ (signed_decimal (negsuc n) ++ l)) (ints_text true more)
  ints_text false (ints_on (negsuc n) small more) = ap (λ l. signed_decimal (negsuc n) ++ l) (ints_text true more)

  ints_printable : {vs : Trees} → AreInts vs → ArePrintable (ints_tokens T e vs)
  unfolding ArePrintable
  ints_printable no_ints = (tt, tt)
  ints_printable (ints_on i small more) = printable_both _ _ (integer_printable i small) (ints_printable more)

  ints_said : (style : Style) (U : Table) (later : Bool) {vs : Trees} → AreInts vs
      → SaysEvents style U place.Free (elements_told later T e vs) (ints_tokens T e vs) place.Free
  ints_said style U later no_ints = said.says_list_end said.says_nothing
  ints_said style U later (ints_on i small more) =
      said.says_element (said.says_leaf (outline (integer_json i)) refl (ints_said style U true more))

  -- the comma that is due stands before the first
  comma_first : (later : Bool) {vs : Trees} → AreInts vs
      → events_text (elements_told later T e vs) ≡
      comma_if (later && nat_lt 0 (tree_count vs)) ++ events_text (elements_told false T e vs)
  comma_first true no_ints = refl
  comma_first false no_ints = refl
  comma_first true (ints_on i {vs = vs} small more) = rw (later_on (tree_count vs)) refl
  comma_first false (ints_on i small more) = refl

-- ints that stand there, behind the comma that is due before them
pub ints_put : (style : Style) (U T : Table) (e : TypeId) {limit count : ℕ} {vs : Trees} {piece rest mid : List ℕ}
    {old new : Line} → IsOfKind T e (kind.Basic basic.Int) → BeginsElements T e limit vs piece rest
    → tree_count vs ≡ count → mid ≡ old.text.items ++ comma_if (old.later && nat_lt 0 count)
    → new.text.items ≡ mid ++ events_text (elements_told false T e vs) → new.later ≡ true
    → PutSome old new (λ ts. SaysEvents style U place.Free (elements_told false T e vs) ts place.Free)
ints_put style U T e {count = count} {vs = vs} {old = old} is b counted comma text later =
    let all = are_ints is b.spelled in
    let told = events_text (elements_told false T e vs) in
    record {
      tokens = ints_tokens T e vs;
      says = ints_said T e style U false all;
      put = record {
        printable = ints_printable T e all;
        text = text ∙ ap (λ l. l ++ told) comma
            ∙ append_assoc old.text.items (comma_if (old.later && nat_lt 0 count)) told
            ∙ ap (λ l. old.text.items ++ l) (sym (ints_text T e old.later all
            ∙ comma_first T e old.later all ∙ ap (λ n. comma_if (old.later && nat_lt 0 n) ++ told) counted));
        later = later ∙ sym (items_end old.later (items_outline (elements_json T e vs)));
      };
    }
