-- A look that ends at a declared type's own parts began at its declaration.
use Rattle.std.proofs.Common.{◌≡◌, ◌∙◌, ℕ, List, refl, sym, ap, subst, Option, Some, None}
use Rattle.std.specs.Prelude.{IfOk, Result, Ok, Err}
use Rattle.std.proofs.lemmas.Option.{none-some}
use Rattle.std.specs.Borrow.{Bor}
use Rattle.gob_go_source.specs.declared.declarations.GoSource.{GoSource}
use Rattle.gob_go_types.specs.declared.sight.Sight.{Sight}
use Rattle.gob_go_types.specs.declared.sight.Sight.TheVariants as sight
use Rattle.gob_go_types.specs.declared.sight.Step.{Step}
use Rattle.gob_go_types.specs.declared.sight.Step.TheVariants as step
use Rattle.gob_go_types.specs.Machine.{IsLed}
use Rattle.gob_go_types.specs.Sight.{Ends, EndsLibrary, EndsName, EndsSlice, Leads, LeadsFrom, parts_sight}
use Rattle.gob_go_types.specs.Sight.{a_basic_name, a_whole_number, encodes_itself, of_bytes, of_others}
use Rattle.gob_go_types.specs.Sight.{a_pointer, a_name, of_library, a_slice, an_array, a_map, a_struct, an_interface}
use Rattle.gob_go_types.specs.Sight.{not_sent, declared_opaque, another_name, of_its_own, by_declaration, by_itself}

-- what is said of an answer, where more follows from it
pub if_ok : {A E : Type 0} (P Q : A → Type 0) (r : Result A E) → ((x : A) → P x → Q x) → IfOk r P → IfOk r Q
if_ok P Q (Ok x) f h = f x h
if_ok P Q (Err e) f h = tt

abbrev own_of_sight : Sight → Option ℕ
own_of_sight (sight.Own i n) = Some i
own_of_sight _ = None

abbrev own_of : Step → Option ℕ
own_of (step.At v) = own_of_sight v
own_of (step.On n) = None

own_parts : (o : Option ℕ) (n : ℕ) → own_of (step.At (parts_sight o n)) ≡ o
own_parts None n = refl
own_parts (Some i) n = refl

none_is : {owner : Option ℕ} {i : ℕ} (e : Step) → own_of e ≡ None → own_of e ≡ Some i → owner ≡ Some i
none_is e f g = absurd (none-some _ (sym f ∙ g))

parts_are : (owner : Option ℕ) (n i : ℕ) (e : Step) → e ≡ step.At (parts_sight owner n) → own_of e ≡ Some i
    → owner ≡ Some i
parts_are owner n i e f g = sym (own_parts owner n) ∙ sym (ap own_of f) ∙ g

name_owner : (owner : Option ℕ) (w : List ℕ) (e : Step) (i : ℕ) → EndsName w e → own_of e ≡ Some i → owner ≡ Some i
name_owner owner w e i (a_basic_name b f) g = none_is e (ap own_of f) g

library_owner : (owner : Option ℕ) (p : List ℕ) (w : Bor (List ℕ)) (e : Step) (i : ℕ) → EndsLibrary owner p w e
    → own_of e ≡ Some i → owner ≡ Some i
library_owner owner p w e i (a_whole_number k f) g = none_is e (ap own_of f) g
library_owner owner p w e i (encodes_itself k o f) g = none_is e (ap own_of f) g

slice_owner : (s : GoSource) (owner : Option ℕ) (elem n : ℕ) (e : Step) (i : ℕ) → EndsSlice s owner elem n e
    → own_of e ≡ Some i → owner ≡ Some i
slice_owner s owner elem n e i (of_bytes u t b f) g = none_is e (ap own_of f) g
slice_owner s owner elem n e i (of_others u t b f) g = parts_are owner n i e f g

ends_owner : (s : GoSource) (owner : Option ℕ) (n : ℕ) (e : Step) (i : ℕ) → Ends s owner n e → own_of e ≡ Some i
    → owner ≡ Some i
ends_owner s owner n e i (a_pointer t f) g = none_is e (ap own_of f) g
ends_owner s owner n e i (a_name t f) g = name_owner owner _ e i f g
ends_owner s owner n e i (of_library t f) g = library_owner owner _ _ e i f g
ends_owner s owner n e i (a_slice t f) g = slice_owner s owner _ n e i f g
ends_owner s owner n e i (an_array t f) g = parts_are owner n i e f g
ends_owner s owner n e i (a_map t f) g = parts_are owner n i e f g
ends_owner s owner n e i (a_struct t f) g = parts_are owner n i e f g
ends_owner s owner n e i (an_interface t f) g = none_is e (ap own_of f) g
ends_owner s owner n e i (not_sent t f) g = none_is e (ap own_of f) g

from_owner : (s : GoSource) (j : ℕ) (e : Step) (i : ℕ) → LeadsFrom s j e → own_of e ≡ Some i → Some j ≡ Some i
from_owner s j e i (declared_opaque d m f) g = none_is e (ap own_of f) g
from_owner s j e i (another_name d m a f) g = none_is e (ap own_of f) g
from_owner s j e i (of_its_own d m a u f) g = ends_owner s (Some j) _ e i f g

pub from_led : (s : GoSource) (j : ℕ) (v : Sight) → LeadsFrom s j (step.At v) → IsLed s v
from_led s j (sight.Own i n) l =
    let same : j ≡ i = (let e = from_owner s j _ i l refl in cc) in
    subst (λ (k : ℕ). LeadsFrom s k (step.At (sight.Own i n))) same l
from_led s j (sight.Basic t) l = tt
from_led s j (sight.Opaque w m) l = tt
from_led s j (sight.Parts n) l = tt
from_led s j sight.Unsent l = tt

pub leads_led : (s : GoSource) (n : ℕ) (v : Sight) → Leads s n (step.At v) → IsLed s v
leads_led s n v (by_declaration e l) = from_led s _ v l
leads_led s n v (by_itself e l) = by v l
  where
    by : (v : Sight) → Ends s None n (step.At v) → IsLed s v
    by (sight.Own i m) l = absurd (none-some _ (ends_owner s None n _ i l refl))
    by (sight.Basic t) l = tt
    by (sight.Opaque w m) l = tt
    by (sight.Parts m) l = tt
    by sight.Unsent l = tt
