-- Names that are kept in a set are those of the fields that were seen.
use Rattle.std.proofs.Common.{◌≡◌, ◌∙◌, ℕ, List, [], ◌∷◌, ◌++◌, map, Bor, Bool, true, false, not, nat_eq, refl, sym, ap}
use Rattle.std.proofs.Common.{subst, if◌then◌else◌, ◌||◌, ◌&&◌, ◌+◌, ◌<◌, arith, drop, get_or, length, max, take}
use Rattle.std.proofs.Common.{Result, Ok, Err}
use Rattle.std.proofs.lemmas.List.{at_drop_more, take_more}
use Rattle.std.specs.Prelude.{OnOk}
use Rattle.std.proofs.lemmas.List.Folds.{list_any-append}
use Rattle.std.specs.Cmp.Lexicographic.{pointwise, bytes_decides}
use Rattle.std.specs.Str.{bytes_eq}
use Rattle.std.specs.List.{list_any}
use Rattle.gob_types.specs.declared.kind.Field.{Field}
use Rattle.gob_source.specs.Names.{is_identifier, is_reserved}
use Rattle.gob_source.specs.Source.{declared_width, is_declared, is_field_name, width}
use Rattle.gob_source.specs.Machine.{KnowsNames, has_name, with_name}

abbrev pub Kept : Type 0
Kept = Bor (List ℕ)

abbrev pub same_name : Kept → Kept → Bool
same_name x y = pointwise nat_eq x.now y.now

abbrev pub bytes_of : List Kept → List (List ℕ)
bytes_of = map (λ (name : Kept). name.now)

any_name : (k : Kept) (keys : List Kept) → list_any (same_name k) keys ≡ has_name k.now (bytes_of keys)
any_name k [] = refl
any_name k (x ∷ xs) = ap (λ b. same_name k x || b) (any_name k xs)

map-push : (xs : List Kept) (x : Kept) → bytes_of (xs ++ x ∷ []) ≡ bytes_of xs ++ x.now ∷ []
map-push [] x = refl
map-push (y ∷ xs) x = ap (λ zs. y.now ∷ zs) (map-push xs x)

-- a key that was inserted is a name that was added
pub name_added : (keys new : List Kept) (k : Kept) (r : Bool)
    → new ≡ (if list_any (same_name k) keys then keys else keys ++ k ∷ []) → r ≡ not (list_any (same_name k) keys)
    → (r ≡ not (has_name k.now (bytes_of keys))) × (bytes_of new ≡ with_name (bytes_of keys) k.now)
name_added keys new k r e f = (f ∙ ap not (any_name k keys), by (list_any (same_name k) keys) refl)
  where
    by : (b : Bool) → list_any (same_name k) keys ≡ b → bytes_of new ≡ with_name (bytes_of keys) k.now
    by true any =
        ap bytes_of (e ∙ ap (λ b. if b then keys else keys ++ k ∷ []) any)
        ∙ sym (ap (λ b. if b then bytes_of keys else bytes_of keys ++ k.now ∷ []) (sym (any_name k keys) ∙ any))
    by false any =
        ap bytes_of (e ∙ ap (λ b. if b then keys else keys ++ k ∷ []) any) ∙ map-push keys k
        ∙ sym (ap (λ b. if b then bytes_of keys else bytes_of keys ++ k.now ∷ []) (sym (any_name k keys) ∙ any))

or_absorbs : (a b : Bool) → (b ≡ true → a ≡ true) → a ≡ (a || (b || false))
or_absorbs true b h = refl
or_absorbs false true h = h refl
or_absorbs false false h = refl

pub knows_none : KnowsNames [] []
knows_none = record { each = λ name. refl }

-- with the name of a field the names are those of one field more
pub knows_more : (names : List (List ℕ)) (seen : List Field) (f : Field) → KnowsNames names seen
    → KnowsNames (with_name names f.name) (seen ++ f ∷ [])
knows_more names seen f knows = record { each = each }
  where
    any_more : (name : List ℕ)
        → is_field_name name (seen ++ f ∷ []) ≡ (has_name name names || (bytes_eq name f.name || false))
    any_more name =
        list_any-append (λ (g : Field). bytes_eq name g.name) seen (f ∷ [])
        ∙ ap (λ b. b || (bytes_eq name f.name || false)) (sym (knows.each name))

    by : (b : Bool) → has_name f.name names ≡ b → (name : List ℕ)
        → has_name name (if b then names else names ++ f.name ∷ []) ≡ is_field_name name (seen ++ f ∷ [])
    by true has name =
        or_absorbs (has_name name names) (bytes_eq name f.name)
        (λ same. subst (λ n. has_name n names ≡ true) (sym ((bytes_decides name f.name).0 same)) has)
        ∙ sym (any_more name)
    by false has name =
        list_any-append (λ (other : List ℕ). bytes_eq name other) names (f.name ∷ []) ∙ sym (any_more name)

    each : (name : List ℕ) → has_name name (with_name names f.name) ≡ is_field_name name (seen ++ f ∷ [])
    each name = by (has_name f.name names) refl name

-- a field is declared where its name can be, and is new
pub names_declare : (names now : List (List ℕ)) (f : Field) (name : List ℕ) (new r : Bool) → name ≡ f.name
    → new ≡ not (has_name name names) → now ≡ with_name names name
    → r ≡ (is_identifier name && (not (is_reserved name) && new)) → (seen : List Field) → KnowsNames names seen
    → (r ≡ is_declared seen f) × KnowsNames now (seen ++ f ∷ [])
names_declare names now f name new r same n w e seen knows = (
  e ∙ ap (λ (b : Bool). is_identifier name && (not (is_reserved name) && b)) (n ∙ ap not (knows.each name))
      ∙ ap (λ (m : List ℕ). is_identifier m && (not (is_reserved m) && not (is_field_name m seen))) same,
  subst (λ (ns : List (List ℕ)). KnowsNames ns (seen ++ f ∷ []))
      (sym (w ∙ ap (λ (m : List ℕ). with_name names m) same)) (knows_more names seen f knows),
)

-- the names of one more of the fields
pub knows_next : (names : List (List ℕ)) (fs : List Field) (i : ℕ) (f : Field) → f ≡ get_or fs i f → i < length fs
    → KnowsNames names (take i fs ++ f ∷ []) → KnowsNames names (take (i + 1) fs)
knows_next names fs i f at within knows =
    subst (KnowsNames names) (sym (take_more fs i f within ∙ ap (λ y. take i fs ++ y ∷ []) (sym at))) knows

max_assoc : (a b c : ℕ) → max (max a b) c ≡ max a (max b c)
max_assoc a b c = omega arith

-- the longest of one more of the fields
pub width_more : (fs : List Field) (i : ℕ) (f : Field) (w n : ℕ) → f ≡ get_or fs i f → i < length fs
    → max w (width (take i fs) (drop i fs)) ≡ width [] fs → n ≡ declared_width (take i fs) f
    → max (max w n) (width (take (i + 1) fs) (drop (i + 1) fs)) ≡ width [] fs
width_more fs i f w n at within left e =
    let seen = take i fs in
    let rest = drop (i + 1) fs in
    let more : take (i + 1) fs ≡ seen ++ f ∷ [] = take_more fs i f within ∙ ap (λ y. seen ++ y ∷ []) (sym at) in
    let opened : width seen (drop i fs) ≡ max (declared_width seen f) (width (seen ++ f ∷ []) rest) =
    at_drop_more (width seen) fs i f within ∙ ap (λ (y : Field). width seen (y ∷ rest)) (sym at) in
    ap (λ (m : ℕ). max (max w m) (width (take (i + 1) fs) rest)) e
    ∙ ap (λ (l : List Field). max (max w (declared_width seen f)) (width l rest)) more
    ∙ max_assoc w (declared_width seen f) (width (seen ++ f ∷ []) rest)
    ∙ ap (λ (m : ℕ). max w m) (sym opened) ∙ left

pub on_ok : {E : Type 0} {P Q : Type 0} (r : Result (Unit {0}) E) → (P → Q) → OnOk r P → OnOk r Q
on_ok (Ok x) f p = f p
on_ok (Err x) f p = p

append-nil : (xs : List ℕ) → xs ≡ xs ++ []
append-nil [] = refl
append-nil (x ∷ xs) = ap (λ ys. x ∷ ys) (append-nil xs)

-- where a test fails nothing is appended
pub adds_nothing : (xs text : List ℕ) (b : Bool) → false ≡ b → xs ≡ xs ++ (if b then text else [])
adds_nothing xs text b e = append-nil xs ∙ ap (λ t. xs ++ (if t then text else [])) e

pub adds_text : (xs ys text : List ℕ) (b : Bool) → true ≡ b → ys ≡ xs ++ text → ys ≡ xs ++ (if b then text else [])
adds_text xs ys text b e added = added ∙ ap (λ t. xs ++ (if t then text else [])) e

pub adds_no_more : (xs text : List ℕ) (b : Bool) → true ≡ b → xs ≡ xs ++ (if b then [] else text)
adds_no_more xs text b e = append-nil xs ∙ ap (λ t. xs ++ (if t then [] else text)) e

pub adds_other : (xs ys text : List ℕ) (b : Bool) → false ≡ b → ys ≡ xs ++ text → ys ≡ xs ++ (if b then [] else text)
adds_other xs ys text b e added = added ∙ ap (λ t. xs ++ (if t then [] else text)) e
