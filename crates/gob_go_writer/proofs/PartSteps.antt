-- Parts of an item one after another, as they are put: definitions, fillings, the bytes between them.
use Rattle.std.proofs.Common.{◌≡◌, ℕ, negsuc, ◌+◌, ◌-◌, ◌<◌, ◌≤◌, ◌^◌, List, [], ◌∷◌, ◌++◌, length, sym, subst}
use Rattle.std.proofs.Common.{◌∙◌, ap, append_assoc, arith, drop, take, get_or, suc}
use Rattle.std.proofs.Common.{pos, ◌-ℤ◌, to_z, of_z, w64}
use Rattle.std.proofs.lemmas.Int.{ints, to_z_pos}
use Rattle.gob_num.specs.Spelled.{IsSpelled}
use Rattle.gob_num.specs.Unsigned.{AreBytes}
use Rattle.gob_num.specs.Signed.{IsSigned}
use Rattle.gob_num.proofs.PublicLaws.{signed_fits}
use Rattle.gob_types.specs.Base.{base_table}
use Rattle.gob_types.specs.Table.{Table}
use Rattle.gob_types.proofs.PublicLaws.{Keeps}
use Rattle.gob_value.specs.View.{view}
use Rattle.gob_stream.specs.Bounds.{Bounds}
use Rattle.gob_filled.specs.Filled.{cut, Definitions, AreDefined, none_defined, one_defined}
use Rattle.gob_filled.proofs.Refused.{definition_keeps, in_turn}
use Rattle.gob_go.specs.declared.filled.Definition.{Definition}
use Rattle.gob_go.specs.declared.filled.Filling.{Filling, out-Filling}
use Rattle.gob_go.proofs.IdLaws.{item_left}
use Rattle.gob_go_writer.specs.Machine.Letters.{Takes, TakesSpelled}
use Rattle.gob_go_writer.specs.Spelling.{SpellsDefinition, SpellDefinitions, none_spelled, one_spelled, SpellsRest}
use Rattle.gob_go_writer.specs.Spelling.{as_it_stands, next_filled, SpellsFilling, fills, SpellsValue}
use Rattle.gob_go_writer.specs.declared.segments.Segments.{Segments}
use Rattle.gob_go_writer.proofs.LetterLaws.{takes_then, takes_none}

-- letters were taken which with those of what is left are the letters of the whole
pub record Going (Whole Left : List ℕ → Type 0) (old new : Segments) : Type 0 where
  pub front : List ℕ
  pub taken : Takes old new front
  pub onward : (ls : List ℕ) → Left ls → Whole (front ++ ls)
  pub left : IsSpelled Whole → IsSpelled Left

pub going_begins : {Whole : List ℕ → Type 0} (s : Segments) → Going Whole Whole s s
going_begins s = record { front = []; taken = takes_none s; onward = λ ls l. l; left = λ w. w }

-- a part more was taken
pub going_on : {Whole Left Behind : List ℕ → Type 0} {old mid new : Segments} (g : Going Whole Left old mid)
    (part : List ℕ) → Takes mid new part → ((ls : List ℕ) → Behind ls → Left (part ++ ls))
    → (IsSpelled Left → IsSpelled Behind) → Going Whole Behind old new
going_on {Whole = Whole} g part t onward left = record {
  front = g.front ++ part;
  taken = takes_then g.taken t;
  onward = λ ls b. subst Whole (sym (append_assoc g.front part ls)) (g.onward (part ++ ls) (onward ls b));
  left = λ w. left (g.left w);
}

-- what is left was taken
pub going_ends : {Whole Left : List ℕ → Type 0} {old mid new : Segments} (g : Going Whole Left old mid) (ls : List ℕ)
    → Takes mid new ls → Left ls → TakesSpelled Whole old new
going_ends g ls t l = record { letters = g.front ++ ls; spelled = g.onward ls l; takes = takes_then g.taken t }

-- the items of a vector of bytes are bytes
pub vector_bytes : (bytes : List ℕ) → ((i : ℕ) → i < length bytes → get_or bytes i 0 < 256) → AreBytes bytes
vector_bytes [] p = tt
vector_bytes (b ∷ bytes) p = (p 0 (omega arith), vector_bytes bytes (λ i l. p (suc i) (omega arith)))

-- the id below 0, as the program has it
pub below_zero : {id : ℕ} {number : List ℕ} → 0 < id → id < 2 ^ 63
    → IsSigned (to_z w64 (of_z w64 (pos 0 -ℤ to_z w64 id))) number → IsSigned (negsuc (id - 1)) number
below_zero {id = id} {number = number} some few s =
    let same : to_z w64 (of_z w64 (pos 0 -ℤ to_z w64 id)) ≡ negsuc (id - 1) = omega (arith, ints) in
    subst (λ i. IsSigned i number) same s

-- a number of a type, as the program has it
pub type_number : {n : ℕ} {b : List ℕ} → n < 2 ^ 63 → IsSigned (to_z w64 n) b → IsSigned (pos n) b
type_number {n = n} {b = b} l s = subst (λ i. IsSigned i b) (to_z_pos w64 n l) s

-- one that is spelled has 63 bits
pub small_number : {n : ℕ} {b : List ℕ} → IsSigned (pos n) b → n < 2 ^ 63
small_number s = let f = signed_fits s in omega (arith, ints)

-- ---- definitions in a value

pub defs_keep : {L : Bounds} {T U : Table} {ds : Definitions} {b : List ℕ} → AreDefined base_table L T ds b U
    → Keeps T U
defs_keep none_defined = record { shape = λ t s e. e }
defs_keep (one_defined o d ds) = in_turn (definition_keeps d) (defs_keep ds)

-- the first of them, and the others
pub record FirstDefinition (T : Table) (d : Definition) (ds : List Definition) : Type 0 where
  pub first : IsSpelled (SpellsDefinition T d.id (view d.described))
  pub others : IsSpelled (SpellDefinitions T ds)

pub first_definition : {T : Table} {d : Definition} {all ds : List Definition} → all ≡ d ∷ ds
    → IsSpelled (SpellDefinitions T all) → FirstDefinition T d ds
first_definition {T = T} {d = d} {ds = ds} e s = by (subst (λ l. SpellDefinitions T l s.bytes) e s.spelled)
  where
    by : {ls : List ℕ} → SpellDefinitions T (d ∷ ds) ls → FirstDefinition T d ds
    by (one_spelled {b = b} {ls = ls} p ps) =
        record { first = record { bytes = b; spelled = p }; others = record { bytes = ls; spelled = ps } }

pub definitions_from : {T : Table} {d : Definition} {all ds : List Definition} {first : List ℕ} → all ≡ d ∷ ds
    → SpellsDefinition T d.id (view d.described) first → (ls : List ℕ) → SpellDefinitions T ds ls
    → SpellDefinitions T all ((first ++ (cut ∷ [])) ++ ls)
definitions_from {T = T} {d = d} {ds = ds} {first = first} e p ls ps =
    subst (λ l. SpellDefinitions T l ((first ++ (cut ∷ [])) ++ ls)) (sym e)
    (subst (SpellDefinitions T (d ∷ ds)) (sym (append_assoc first (cut ∷ []) ls)) (one_spelled p ps))

pub no_definition_left : {T : Table} {all : List Definition} → all ≡ [] → SpellDefinitions T all []
no_definition_left {T = T} e = subst (λ l. SpellDefinitions T l []) (sym e) none_spelled

-- ---- fillings

pub filling_left : {xs all : List Filling} {number : ℕ} (f : Filling) → xs ≡ all → f ≡ get_or xs number f
    → number < length xs → drop number all ≡ f ∷ drop (number + 1) all
filling_left {xs = xs} {number = number} f same is l =
    subst (λ xs. drop number xs ≡ f ∷ drop (number + 1) xs) same (item_left xs number f is l)

-- the first of them, and the others
pub record FirstFilled (T : Table) (skeleton : List ℕ) (done : ℕ) (f : Filling) (fs : List Filling) : Type 0 where
  pub low : done ≤ (out-Filling f).place
  pub high : (out-Filling f).place < length skeleton
  pub first : IsSpelled (SpellsFilling T f)
  pub others : IsSpelled (SpellsRest T skeleton ((out-Filling f).place + 1) fs)

pub first_filled : {T : Table} {skeleton : List ℕ} {done : ℕ} {f : Filling} {all fs : List Filling} → all ≡ f ∷ fs
    → IsSpelled (SpellsRest T skeleton done all) → FirstFilled T skeleton done f fs
first_filled {T = T} {skeleton = skeleton} {done = done} {f = f} {fs = fs} e s =
    by (subst (λ l. SpellsRest T skeleton done l s.bytes) e s.spelled)
  where
    by : {ls : List ℕ} → SpellsRest T skeleton done (f ∷ fs) ls → FirstFilled T skeleton done f fs
    by (next_filled {held = held} {ls = ls} low high h r) = record {
      low = low;
      high = high;
      first = record { bytes = held; spelled = h };
      others = record { bytes = ls; spelled = r };
    }

pub filled_from : {T : Table} {skeleton held : List ℕ} {done : ℕ} {f : Filling} {all fs : List Filling} → all ≡ f ∷ fs
    → done ≤ (out-Filling f).place → (out-Filling f).place < length skeleton → SpellsFilling T f held → (ls : List ℕ)
    → SpellsRest T skeleton ((out-Filling f).place + 1) fs ls
    → SpellsRest T skeleton done all ((take ((out-Filling f).place - done) (drop done skeleton) ++ held) ++ ls)
filled_from {T = T} {skeleton = skeleton} {held = held} {done = done} {f = f} {fs = fs} e low high h ls r =
    let c = take ((out-Filling f).place - done) (drop done skeleton) in
    subst (λ l. SpellsRest T skeleton done l ((c ++ held) ++ ls)) (sym e)
    (subst (SpellsRest T skeleton done (f ∷ fs)) (sym (append_assoc c held ls)) (next_filled low high h r))

pub no_filling_left : {T : Table} {skeleton : List ℕ} {done : ℕ} {xs all : List Filling} (number : ℕ) → xs ≡ all
    → drop number xs ≡ [] → SpellsRest T skeleton done (drop number all) (drop done skeleton)
no_filling_left {T = T} {skeleton = skeleton} {done = done} number same e =
    subst (λ l. SpellsRest T skeleton done l (drop done skeleton))
    (sym (subst (λ xs. drop number xs ≡ []) same e)) as_it_stands

-- ---- the parts of a filling

pub record FillingParts (T : Table) (f : Filling) : Type 0 where
  pub definitions : IsSpelled (SpellDefinitions T (out-Filling f).definitions.items)
  pub small : (out-Filling f).id.0 < 2 ^ 63
  pub held : IsSpelled (SpellsValue T (out-Filling f).value)

pub filling_parts : {T : Table} {f : Filling} → IsSpelled (SpellsFilling T f) → FillingParts T f
filling_parts {T = T} {f = f} s = by s.spelled
  where
    by : {ls : List ℕ} → SpellsFilling T f ls → FillingParts T f
    by (fills {ds = ds} {ls = ls} a d n v k) = record {
      definitions = record { bytes = ds; spelled = d };
      small = small_number n;
      held = record { bytes = ls; spelled = v };
    }
