-- Words that say kinds of types.
use Rattle.std.proofs.Common.{rules, ◌≡◌, ◌∙◌, ◌<◌, ◌≤◌, ◌+◌, ◌==◌, ap, sym, subst, ℕ, List, [], ◌∷◌, ◌++◌, length}
use Rattle.std.proofs.Common.{get_or, drop, Some, map, arith, append_assoc, append-nil, true, false}
use Rattle.std.proofs.Math.ListN.{drop_of_length-le}
use Rattle.std.proofs.lemmas.List.{drop_more}
use Rattle.std.proofs.lemmas.List.Elements.{All-get_or}
use Rattle.std.specs.Borrow.{Bor}
use Rattle.std.specs.List.{All, after_first, before_first, list_any}
use Rattle.clap.proofs.CutLemmas.{Lacks, after_first-at, before_first-at, list_any-Lacks, list_any-at}
use Rattle.clap.specs.Words.{Text}
use Rattle.gob_words.specs.Kinds.{IsKindWord, SayKinds, kind_name, no_more, one_more}
use Rattle.gob_words.specs.Views.{IsWordAtFault, SaysNoKinds}
use Rattle.gob_words.specs.Words.{IsDigit, IsNumber}
use Rattle.gob_words.specs.declared.kinds.TypeKind.{TypeKind}
use Rattle.gob_words.specs.declared.view.ViewFault.{ViewFault}
use Rattle.gob_words.specs.declared.view.ViewFault.TheVariants as view_fault
use Rattle.gob_words.specs.declared.words.OrderFault.TheVariants as fault

-- ---- one word

-- no digit is an equals sign
no_sign_among : (digits : Text) → All IsDigit digits → Lacks 61 digits
no_sign_among digits all = λ i less is.
    let digit = All-get_or IsDigit digits i 0 less all in
    absurd (omega (arith, digit, is))

-- a word without an equals sign says nothing
pub says_without_sign : (word : Text) → Lacks 61 word → (said : TypeKind) → ¬ IsKindWord word said
says_without_sign word lacks said h =
    let name = kind_name said.kind in
    let e : true ≡ false = sym (list_any-at 61 h.digits name)
    ∙ ap (λ (w : Text). list_any (λ x. x == 61) w) (sym h.parts) ∙ list_any-Lacks 61 word lacks in
    absurd (search (rules, e))

-- what a word says, of which these are the parts
pub record SaysByParts (digits name : Text) (said : TypeKind) : Type 0 where
  pub id : IsNumber (Some digits) 0 said.id
  pub kind : kind_name said.kind ≡ name

pub says_by_parts : (word digits name : Text) (said : TypeKind) → word ≡ digits ++ 61 ∷ name → Lacks 61 digits
    → IsKindWord word said → SaysByParts digits name said
says_by_parts word digits name said e lacks h =
    let own = no_sign_among h.digits h.id.1 in
    let same = sym h.parts ∙ e in
    let first = sym (before_first-at 61 h.digits (kind_name said.kind) own)
    ∙ ap (λ (w : Text). before_first (λ x. x == 61) w) same ∙ before_first-at 61 digits name lacks in
    record {
      id = subst (λ (d : Text). IsNumber (Some d) 0 said.id) first h.id;
      kind = sym (after_first-at 61 h.digits (kind_name said.kind) own)
          ∙ ap (λ (w : Text). after_first (λ x. x == 61) w) same ∙ after_first-at 61 digits name lacks;
    }

-- ---- one word after another

abbrev texts : List (Bor Text) → List Text
texts words = map (λ (word : Bor Text). word.now) words

-- the words before this place say these kinds
pub record SayUpTo (words : List (Bor Text)) (place : ℕ) (kinds : List TypeKind) : Type 0 where
  pub joins : (rest : List TypeKind) → SayKinds (texts (drop place words)) rest
      → SayKinds (texts words) (kinds ++ rest)
  pub leaves : (all : List TypeKind) → SayKinds (texts words) all
      → (rest : List TypeKind) × SayKinds (texts (drop place words)) rest

pub none_said : (words : List (Bor Text)) (kinds : List TypeKind) → kinds ≡ [] → SayUpTo words 0 kinds
none_said words kinds e = record {
  joins = λ rest says. subst (λ (k : List TypeKind). SayKinds (texts words) (k ++ rest)) (sym e) says;
  leaves = λ all says. (all, says);
}

first_said : {word : Text} {words : List Text} {all : List TypeKind} → SayKinds (word ∷ words) all
    → (said : TypeKind) × IsKindWord word said
first_said (one_more {said = said} is others) = (said, is)

others_said : {word : Text} {words : List Text} {all : List TypeKind} → SayKinds (word ∷ words) all
    → (rest : List TypeKind) × SayKinds words rest
others_said (one_more {others = rest} is others) = (rest, others)

pub one_said : (words : List (Bor Text)) (place : ℕ) (w : Bor Text) (kinds more : List TypeKind) (said : TypeKind)
    → place < length words → IsKindWord (get_or words place w).now said → more ≡ kinds ++ said ∷ []
    → SayUpTo words place kinds → SayUpTo words (place + 1) more
one_said words place w kinds more said less says e h =
    let left = drop_more words place w less in
    record {
      joins = λ rest others. subst (λ (k : List TypeKind). SayKinds (texts words) k)
          (sym (ap (λ (k : List TypeKind). k ++ rest) e ∙ append_assoc kinds (said ∷ []) rest))
          (h.joins (said ∷ rest) (subst (λ (ws : List (Bor Text)). SayKinds (texts ws) (said ∷ rest)) (sym left)
          (one_more says others)));
      leaves = λ all whole.
          let rest = h.leaves all whole in
          others_said (subst (λ (ws : List (Bor Text)). SayKinds (texts ws) rest.0) left rest.1);
    }

pub all_said : (words : List (Bor Text)) (place : ℕ) (kinds : List TypeKind) → length words ≤ place
    → SayUpTo words place kinds → SayKinds (texts words) kinds
all_said words place kinds end h =
    let left = drop_of_length-le words end in
    subst (λ (k : List TypeKind). SayKinds (texts words) k) (append-nil kinds)
    (h.joins [] (subst (λ (ws : List (Bor Text)). SayKinds (texts ws) []) (sym left) no_more))

-- a word that says nothing is among the words
pub not_said : (words : List (Bor Text)) (place : ℕ) (w : Bor Text) (kinds : List TypeKind)
    → place < length words → ((said : TypeKind) → ¬ IsKindWord (get_or words place w).now said)
    → SayUpTo words place kinds → (all : List TypeKind) → ¬ SayKinds (texts words) all
not_said words place w kinds less nothing h all whole =
    let rest = h.leaves all whole in
    let first = first_said (subst (λ (ws : List (Bor Text)). SayKinds (texts ws) rest.0)
    (drop_more words place w less) rest.1) in
    nothing first.0 first.1

-- ---- the ends

pub says_no_kinds : (words : List Text) (given : ViewFault) → ((all : List TypeKind) → ¬ SayKinds words all)
    → IsWordAtFault given → SaysNoKinds words given
says_no_kinds words (view_fault.Word line) none is = (none, is)
says_no_kinds words (view_fault.Order (fault.Help text)) none is = absurd is
says_no_kinds words (view_fault.Order fault.Words) none is = (none, is)
says_no_kinds words (view_fault.Order fault.Memory) none is = tt

-- no words say no kinds
pub says_nothing : (words : List Text) (kinds : List TypeKind) → words ≡ [] → kinds ≡ [] → SayKinds words kinds
says_nothing words kinds e f = subst (λ (ws : List Text). SayKinds ws kinds) (sym e)
    (subst (λ (k : List TypeKind). SayKinds [] k) (sym f) no_more)
