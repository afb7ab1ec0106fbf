-- The types of Go's library that encode themselves: their names are words, and source that names them is known.
use Rattle.std.proofs.Common.{◌≡◌, ℕ, List, [], ◌∷◌, Bool, true, false, refl, ap, sym, subst, codes, Some}
use Rattle.std.proofs.Common.{◌&&◌, ◌||◌, if◌then◌else◌, not}
use Rattle.std.proofs.lemmas.Slice.Eq.{bytes_eq-Decides}
use Rattle.std.specs.List.{list_all}
use Rattle.std.specs.Prelude.{IsSome, Option}
use Rattle.std.specs.Str.{bytes_eq}
use Rattle.gob_types.proofs.PublicLaws.{some_injective}
use Rattle.gob_types.specs.declared.kind.Kind.{Kind}
use Rattle.gob_types.specs.declared.kind.Kind.TheVariants as kind
use Rattle.gob_types.specs.declared.kind.Marshal.{Marshal}
use Rattle.gob_types.specs.declared.kind.Marshal.TheVariants as marshal
use Rattle.gob_types.specs.declared.kind.Shape.{Shape}
use Rattle.gob_source.specs.Library.{is_one_of, kind_package, package_name, package_of, shape_package}
use Rattle.gob_source.specs.Names.{is_reserved}
use Rattle.gob_go_types.specs.Library.{known_of}
use Rattle.gob_source_back.proofs.NameLaws.{free_word, is_word_name}
use Rattle.gob_source_back.proofs.Named.{item_of, known_opaque}
use Rattle.gob_source_back.proofs.TypeLaws.{IsOfLibrary}
use Rattle.gob_source_back.proofs.WordLaws.{both_true, word_text}
use Rattle.gob_source_back.proofs.Written.{IsWordText}

abbrev pub Package : Type 0
Package = item_of (package_of [] marshal.Text)

-- ---- names among words

-- a word for which Go has no other use
abbrev is_free_name : List ℕ → Bool
is_free_name name = is_word_name name && not (is_reserved name)

free_is : (name : List ℕ) → is_free_name name ≡ true → IsWordText name
free_is name h =
    let both = both_true (is_word_name name) (not (is_reserved name)) h in
    free_word name both.0 (unreserved (is_reserved name) both.1)
  where
    unreserved : (b : Bool) → not b ≡ true → b ≡ false
    unreserved false e = refl
    unreserved true e = cc

one_of_free : (name : List ℕ) (words : List (List ℕ)) → list_all is_free_name words ≡ true
    → is_one_of name words ≡ true → IsWordText name
one_of_free name [] all one = cc
one_of_free name (w ∷ ws) all one = by (bytes_eq w name) refl one (λ e. one_of_free name ws h.1 e)
  where
    h : (is_free_name w ≡ true) × (list_all is_free_name ws ≡ true)
    h = both_true (is_free_name w) (list_all is_free_name ws) all

    by : (b : Bool) → bytes_eq w name ≡ b → (b || is_one_of name ws) ≡ true
        → (is_one_of name ws ≡ true → IsWordText name) → IsWordText name
    by true same one go = subst (λ (l : List ℕ). IsWordText l) ((bytes_eq-Decides w name).0 same) (free_is w h.0)
    by false same one go = go one

-- ---- packages

-- the type of the name is known as one of the package that encodes itself so
pub record IsKnown (name : List ℕ) (m : Marshal) (q : Package) : Type 0 where
  pub type_word : IsWordText name
  pub package_word : IsWordText (package_name q)
  pub known : known_of (package_name q) name ≡ known_opaque m

chosen : {A : Type 0} {P : Type 0} (b : Bool) (x y : Option A) (q : A) → (if b then x else y) ≡ Some q
    → (b ≡ true → x ≡ Some q → P) → (b ≡ false → y ≡ Some q → P) → P
chosen true x y q e f g = f refl e
chosen false x y q e f g = g refl e

known_by : {name : List ℕ} {m : Marshal} {q : Package} (owner : List ℕ) (words : List (List ℕ))
    → list_all is_free_name words ≡ true → IsWordText owner → is_one_of name words ≡ true → owner ≡ package_name q
    → known_of owner name ≡ known_opaque m → IsKnown name m q
known_by {name = name} {m = m} owner words all word one is known = record {
  type_word = one_of_free name words all one;
  package_word = subst (λ (l : List ℕ). IsWordText l) is word;
  known = subst (λ (l : List ℕ). known_of l name ≡ known_opaque m) is known;
}

-- the names of the types of each package
abbrev of_time : List (List ℕ)
of_time = codes "Time" ∷ []

abbrev of_big : List (List ℕ)
of_big = codes "Int" ∷ codes "Float" ∷ codes "Rat" ∷ []

abbrev of_url : List (List ℕ)
of_url = codes "URL" ∷ []

abbrev of_netip : List (List ℕ)
of_netip = codes "Addr" ∷ codes "AddrPort" ∷ codes "Prefix" ∷ []

pub of_library : (name : List ℕ) (m : Marshal) (q : Package) → package_of name m ≡ Some q → IsKnown name m q
of_library name marshal.Gob q e =
    chosen (is_one_of name of_time) _ _ q e
    (λ one f. known_by (codes "time") of_time refl (word_text 116 (codes "ime") refl refl (λ n. refl)) one
    (ap package_name (some_injective f)) (rw one refl))
    (λ other f. chosen (is_one_of name of_big) _ _ q f
    (λ one g. known_by (codes "big") of_big refl (word_text 98 (codes "ig") refl refl (λ n. refl)) one
    (ap package_name (some_injective g)) (rw one refl))
    (λ none g. cc))
of_library name marshal.Binary q e =
    chosen (is_one_of name of_url) _ _ q e
    (λ one f. known_by (codes "url") of_url refl (word_text 117 (codes "rl") refl refl (λ n. refl)) one
    (ap package_name (some_injective f)) (rw one refl))
    (λ other f. chosen (is_one_of name of_netip) _ _ q f
    (λ one g. known_by (codes "netip") of_netip refl (word_text 110 (codes "etip") refl refl (λ n. refl)) one
    (ap package_name (some_injective g)) (rw one refl))
    (λ none g. cc))
of_library name marshal.Text q e = cc

-- ---- shapes

-- a type of the library, of a package of this name
pub record IsShapeOf (s : Shape) (q : Package) : Type 0 where
  pub of : IsOfLibrary s (package_name q)
  pub type_word : IsWordText s.name
  pub package_word : IsWordText (package_name q)

pub shape_of_library : (s : Shape) (q : Package) → shape_package s ≡ Some q → IsShapeOf s q
shape_of_library s q e = by s.kind refl e
  where
    some : IsSome (shape_package s)
    some = subst (λ o. IsSome o) (sym e) refl

    by : (k : Kind) → s.kind ≡ k → kind_package s.name k ≡ Some q → IsShapeOf s q
    by (kind.Opaque m) is f =
        let known = of_library s.name m q f in record {
          of = record { marshal = m; is = is; some = some; known = known.known };
          type_word = known.type_word;
          package_word = known.package_word;
        }
    by (kind.Basic b) is f = cc
    by (kind.Struct fs) is f = cc
    by (kind.Slice t) is f = cc
    by (kind.Array t n) is f = cc
    by (kind.Map t u) is f = cc
