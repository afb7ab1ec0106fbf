-- The compact text of a value becomes that of the value with texts in place of its numbers.
use Rattle.std.proofs.Common.{◌≡◌, ℕ, suc, Bool, true, false, List, [], ◌∷◌, ◌++◌, refl, sym, ap, ◌∙◌}
use Rattle.std.proofs.Common.{arith, append_assoc, map, All}
use Rattle.std.proofs.lemmas.Bool.{or_parts}
use Rattle.json.specs.Print.{quoted}
use Rattle.serde_json.specs.Data.{Data, null, boolean, number, string, array, object, Items, no_items, item, Members}
use Rattle.serde_json.specs.Data.{no_members, member}
use Rattle.serde_json.specs.Written.{comma_if, compact_text, items_text, members_text, has_float, items_have_float}
use Rattle.serde_json.specs.Written.{members_have_float}
use Rattle.json_number_texts.specs.Texts.{as_texts, items_as_texts, members_as_texts, lines, with_texts}
use Rattle.json_number_texts.specs.declared.place.Place.TheVariants as place
use Rattle.json_number_texts.proofs.ByteLaws.{ends_number}
use Rattle.json_number_texts.proofs.NumberLaws.{number_quoted}
use Rattle.json_number_texts.proofs.StringLaws.{string_kept}

-- before a text that goes on in no number, these bytes become those
record Become (a b : List ℕ) : Type 0 where
  becomes : (r : List ℕ) → ends_number r ≡ true → with_texts place.Outside (a ++ r) ≡ b ++ with_texts place.Outside r

-- and before any text
record BecomeAnywhere (a b : List ℕ) : Type 0 where
  becomes : (r : List ℕ) → with_texts place.Outside (a ++ r) ≡ b ++ with_texts place.Outside r

-- one behind another
then_both : {a b c d : List ℕ} → BecomeAnywhere a b → BecomeAnywhere c d → BecomeAnywhere (a ++ c) (b ++ d)
then_both {a = a} {b = b} {c = c} {d = d} p q = record {
  becomes = λ r. ap (with_texts place.Outside) (append_assoc a c r) ∙ p.becomes (c ++ r)
      ∙ ap (λ l. b ++ l) (q.becomes r) ∙ sym (append_assoc b d (with_texts place.Outside r));
}

then_rest : {a b c d : List ℕ} → Become a b → BecomeAnywhere c d → ((r : List ℕ) → ends_number (c ++ r) ≡ true)
    → BecomeAnywhere (a ++ c) (b ++ d)
then_rest {a = a} {b = b} {c = c} {d = d} p q e = record {
  becomes = λ r. ap (with_texts place.Outside) (append_assoc a c r) ∙ p.becomes (c ++ r) (e r)
      ∙ ap (λ l. b ++ l) (q.becomes r) ∙ sym (append_assoc b d (with_texts place.Outside r));
}

comma_stays : (later : Bool) → BecomeAnywhere (comma_if later) (comma_if later)
comma_stays true = record { becomes = λ r. refl }
comma_stays false = record { becomes = λ r. refl }

colon_stays : {a b : List ℕ} → BecomeAnywhere a b → BecomeAnywhere (58 ∷ a) (58 ∷ b)
colon_stays p = record { becomes = λ r. ap (λ l. 58 ∷ l) (p.becomes r) }

string_stays : (s : List ℕ) → BecomeAnywhere (quoted s) (quoted s)
string_stays s = record { becomes = string_kept s }

-- what comes behind a value in a list
items_end : (ds : Items) (r : List ℕ) → ends_number (items_text true ds ++ r) ≡ true
items_end no_items r = refl
items_end (item d ds) r = refl

members_end : (ms : Members) (r : List ℕ) → ends_number (members_text true ms ++ r) ≡ true
members_end no_members r = refl
members_end (member k d ms) r = refl

mutual
  value_becomes : (d : Data) → has_float d ≡ false → Become (compact_text d) (compact_text (as_texts d))
  value_becomes null f = record { becomes = λ r e. refl }
  value_becomes (boolean true) f = record { becomes = λ r e. refl }
  value_becomes (boolean false) f = record { becomes = λ r e. refl }
  value_becomes (number n) f = record { becomes = λ r e. number_quoted n r f e }
  value_becomes (string s) f = record { becomes = λ r e. string_kept s r }
  value_becomes (array ds) f = record { becomes = λ r e. ap (λ l. 91 ∷ l) ((items_become ds false f).becomes r) }
  value_becomes (object ms) f = record { becomes = λ r e. ap (λ l. 123 ∷ l) ((members_become ms false f).becomes r) }

  items_become : (ds : Items) (later : Bool) → items_have_float ds ≡ false
      → BecomeAnywhere (items_text later ds) (items_text later (items_as_texts ds))
  items_become no_items later f = record { becomes = λ r. refl }
  items_become (item d ds) later f =
      let p = or_parts (has_float d) (items_have_float ds) f in
      then_both (comma_stays later)
      (then_rest (value_becomes d p.0) (items_become ds true p.1) (items_end ds))

  members_become : (ms : Members) (later : Bool) → members_have_float ms ≡ false
      → BecomeAnywhere (members_text later ms) (members_text later (members_as_texts ms))
  members_become no_members later f = record { becomes = λ r. refl }
  members_become (member k d ms) later f =
      let p = or_parts (has_float d) (members_have_float ms) f in
      then_both (comma_stays later) (then_both (string_stays k)
      (colon_stays (then_rest (value_becomes d p.0) (members_become ms true p.1) (members_end ms))))

pub lines_become : (ds : List Data) → All (λ d. has_float d ≡ false) ds
    → with_texts place.Outside (lines ds) ≡ lines (map as_texts ds)
lines_become [] f = refl
lines_become (d ∷ ds) f =
    (value_becomes d (f 0 d (omega arith))).becomes (10 ∷ lines ds) refl
    ∙ ap (λ l. compact_text (as_texts d) ++ 10 ∷ l) (lines_become ds (λ k e l. f (suc k) e (omega (arith, l))))
