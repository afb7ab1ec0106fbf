-- What names a type, by what is known of it.
use Rattle.std.proofs.Common.{◌≡◌, ◌∙◌, ◌+◌, ◌<◌, ℕ, zero, suc, List, [], ◌∷◌, ◌++◌, length, get_or, take, drop, sym}
use Rattle.std.proofs.Common.{append_assoc, arith, Bool, Option, Some, None, true, false, ap, refl, codes}
use Rattle.std.proofs.Common.{◌==◌, if◌then◌else◌}
use Rattle.std.proofs.lemmas.List.{at_drop_more, take_more}
use Rattle.gob_types.specs.declared.id.TypeId.{TypeId}
use Rattle.gob_types.specs.declared.kind.Kind.{Kind}
use Rattle.gob_types.specs.declared.kind.Kind.TheVariants as kind
use Rattle.gob_types.specs.declared.kind.Marshal.{Marshal}
use Rattle.gob_types.specs.declared.kind.Shape.{Shape}
use Rattle.gob_types.specs.Table.{Table, shape_of}
use Rattle.gob_source.specs.Library.{package_of}
use Rattle.gob_source.specs.Program.{init_text}
use Rattle.gob_source.specs.declared.library.Package.{Package}
use Rattle.gob_source.specs.Source.{decoder_text, encoder_text, methods_text, opaque_methods}
use Rattle.gob_source.specs.Source.{basic_text, named_text, shape_text, type_text, defined_text, parts_text}
use Rattle.gob_source.specs.Source.{pointer_text, key_text, is_among, has_parts, used_name}

pub basic_type : (levels : ℕ) (T : Table) (ts : List TypeId) (of t : TypeId) (name : List ℕ)
    → basic_text t.0 ≡ Some name
    → type_text levels T ts of t ≡ name
basic_type zero T ts of t name e = ap (named_text T ts t None) e
basic_type (suc l) T ts of t name e =
    ap (named_text T ts t (Some (parts_text (pointer_text T ts of) (key_text T) (type_text l T ts of)))) e

pub other_type : (levels : ℕ) (T : Table) (ts : List TypeId) (of t : TypeId) → basic_text t.0 ≡ None
    → type_text levels T ts of t ≡ defined_text levels T ts of t
other_type zero T ts of t e = ap (named_text T ts t None) e
other_type (suc l) T ts of t e =
    ap (named_text T ts t (Some (parts_text (pointer_text T ts of) (key_text T) (type_text l T ts of)))) e

pub unknown_type : (levels : ℕ) (T : Table) (ts : List TypeId) (of t : TypeId) → shape_of T t ≡ None
    → defined_text levels T ts of t ≡ codes "struct{}"
unknown_type zero T ts of t e = ap (shape_text T ts t None) e
unknown_type (suc l) T ts of t e =
    ap (shape_text T ts t (Some (parts_text (pointer_text T ts of) (key_text T) (type_text l T ts of)))) e

pub outer_type : (levels : ℕ) (T : Table) (ts : List TypeId) (of t : TypeId) (s : Shape) → shape_of T t ≡ Some s
    → is_among t ts ≡ false → defined_text levels T ts of t ≡ codes "struct{}"
outer_type zero T ts of t s e f =
    ap (shape_text T ts t None) e ∙ ap (λ b. if b then used_name T ts t s else codes "struct{}") f
outer_type (suc l) T ts of t s e f =
    let parts = parts_text (pointer_text T ts of) (key_text T) (type_text l T ts of) in
    ap (shape_text T ts t (Some parts)) e
    ∙ ap (λ b. if b then (if has_parts s then parts s.kind else used_name T ts t s) else codes "struct{}") f

pub parts_type : (l : ℕ) (T : Table) (ts : List TypeId) (of t : TypeId) (s : Shape) → shape_of T t ≡ Some s
    → is_among t ts ≡ true → has_parts s ≡ true
    → defined_text (suc l) T ts of t ≡ parts_text (pointer_text T ts of) (key_text T) (type_text l T ts of) s.kind
parts_type l T ts of t s e f h =
    let parts = parts_text (pointer_text T ts of) (key_text T) (type_text l T ts of) in
    ap (shape_text T ts t (Some parts)) e
    ∙ ap (λ b. if b then (if has_parts s then parts s.kind else used_name T ts t s) else codes "struct{}") f
    ∙ ap (λ b. if b then parts s.kind else used_name T ts t s) h

pub deepest_type : (levels : ℕ) (T : Table) (ts : List TypeId) (of t : TypeId) (s : Shape) → levels ≡ 0
    → shape_of T t ≡ Some s → is_among t ts ≡ true → defined_text levels T ts of t ≡ used_name T ts t s
deepest_type zero T ts of t s z e f =
    ap (shape_text T ts t None) e ∙ ap (λ b. if b then used_name T ts t s else codes "struct{}") f
deepest_type (suc l) T ts of t s z e f = absurd (omega arith)

pub whole_type : (levels : ℕ) (T : Table) (ts : List TypeId) (of t : TypeId) (s : Shape) → shape_of T t ≡ Some s
    → is_among t ts ≡ true → has_parts s ≡ false → defined_text levels T ts of t ≡ used_name T ts t s
whole_type zero T ts of t s e f h = deepest_type zero T ts of t s refl e f
whole_type (suc l) T ts of t s e f h =
    let parts = parts_text (pointer_text T ts of) (key_text T) (type_text l T ts of) in
    ap (shape_text T ts t (Some parts)) e
    ∙ ap (λ b. if b then (if has_parts s then parts s.kind else used_name T ts t s) else codes "struct{}") f
    ∙ ap (λ b. if b then parts s.kind else used_name T ts t s) h

-- one more of a list was appended, whose text rests on those before it
pub appended_more : {X : Type 0} (one : List X → X → List ℕ) (text : List X → List X → List ℕ)
    → ((seen : List X) (x : X) (xs : List X) → text seen (x ∷ xs) ≡ one seen x ++ text (seen ++ x ∷ []) xs)
    → (xs : List X) (i : ℕ) (x : X) (now new all : List ℕ) → x ≡ get_or xs i x → i < length xs
    → now ++ text (take i xs) (drop i xs) ≡ all → new ≡ now ++ one (take i xs) x
    → new ++ text (take (i + 1) xs) (drop (i + 1) xs) ≡ all
appended_more one text step xs i x now new all at within left adds =
    let seen = take i xs in
    let rest = drop (i + 1) xs in
    let more : take (i + 1) xs ≡ seen ++ x ∷ [] = take_more xs i x within ∙ ap (λ y. seen ++ y ∷ []) (sym at) in
    let opened : text seen (drop i xs) ≡ one seen x ++ text (seen ++ x ∷ []) rest =
    at_drop_more (text seen) xs i x within ∙ ap (λ y. text seen (y ∷ rest)) (sym at) ∙ step seen x rest in
    ap (λ (l : List ℕ). l ++ text (take (i + 1) xs) rest) adds
    ∙ ap (λ (l : List _). (now ++ one seen x) ++ text l rest) more
    ∙ append_assoc now (one seen x) (text (seen ++ x ∷ []) rest)
    ∙ ap (λ (l : List ℕ). now ++ l) (sym opened) ∙ left

-- the methods of a type that is of no package
pub methods_of : (name own : List ℕ) (k : Kind) (m : Marshal) (p : Option Package) → k ≡ kind.Opaque m
    → p ≡ package_of name m → p ≡ None → methods_text name own k ≡ encoder_text m own ++ decoder_text m own
methods_of name own k m p e of none =
    ap (methods_text name own) e ∙ ap (λ (o : Option Package). opaque_methods o m own) (sym of ∙ none)

pub init_filled : (calls : List ℕ) (b : Bool) → b ≡ (length calls == 0) → b ≡ false
    → init_text calls ≡ codes "\n// The names under which interfaces hold values.\nfunc init() {\n" ++
    (calls ++ codes "}\n")
init_filled [] b e f = let both : true ≡ false = sym e ∙ f in cc
init_filled (c ∷ cs) b e f = refl
