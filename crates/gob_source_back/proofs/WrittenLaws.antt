-- The source of types, as a text of types as they are written.
use Rattle.std.proofs.Common.{◌≡◌, ◌∙◌, ℕ, zero, suc, ◌-◌, ◌<◌, ◌≤◌, ◌^◌, List, [], ◌∷◌, ◌++◌, Bool, true, false, refl}
use Rattle.std.proofs.Common.{ap, sym, subst, append_assoc, append-nil, arith, codes, decimal, replicate, Some, None}
use Rattle.std.proofs.Common.{◌&&◌, ◌||◌, if◌then◌else◌, ◌==◌, eq-eqb, map}
use Rattle.std.specs.Prelude.{Option}
use Rattle.gob_types.specs.declared.id.TypeId.{TypeId}
use Rattle.gob_types.specs.declared.kind.Field.{Field}
use Rattle.gob_types.specs.declared.kind.Kind.{Kind}
use Rattle.gob_types.specs.declared.kind.Kind.TheVariants as kind
use Rattle.gob_types.specs.declared.kind.Marshal.{Marshal}
use Rattle.gob_types.specs.declared.kind.Shape.{Shape}
use Rattle.gob_types.specs.Base.{id}
use Rattle.gob_types.specs.Table.{Table, shape_of}
use Rattle.gob_source.specs.Library.{package_name, package_of, shape_package}
use Rattle.gob_source.specs.Names.{name_width, own_name}
use Rattle.gob_source.specs.Source.{basic_text, comes_by, comment_line, comments_text, declared_text, definition_text}
use Rattle.gob_source.specs.Source.{definitions_text, encoded_text, field_line, named_source, has_parts, has_parts_kind}
use Rattle.gob_source.specs.Source.{decoder_text, encoder_text, imports_text, is_among, is_holder, is_key, key_text}
use Rattle.gob_source.specs.Source.{kind_text, library_or_own, methods_text, named_text, opaque_methods, opaque_text}
use Rattle.gob_source.specs.Source.{parts_text, pointer_text, shape_text}
use Rattle.gob_source.specs.Source.{type_text, used_name, width}
use Rattle.gob_source_back.specs.Alike.{AreFields, EachIsWritten, IsPart, IsWritten, IsWrittenKind, a_basic_part, a_map}
use Rattle.gob_source_back.specs.Alike.{a_slice, a_struct, a_written_part, an_array, an_opaque, no_fields}
use Rattle.gob_source_back.specs.Alike.{none_is_written}
use Rattle.gob_source_back.specs.Alike.{one_field, one_is_written}
use Rattle.gob_source.specs.Registered.{Naming, names_of, names_text}
use Rattle.gob_source_back.proofs.IdentifierLaws.{declared_word, own_word}
use Rattle.gob_source_back.proofs.NoteLaws.{named_line, names_are, names_quiet, no_basic, remarks, remarks_are}
use Rattle.gob_source_back.proofs.Written.{AreQuiet, remarks_text, Body, BodyHasWords, HasWords, IsWordText, Line}
use Rattle.gob_source_back.proofs.Written.{LinesHaveWords, Struct, Written, array_of, body_then, fields, interface}
use Rattle.gob_source_back.proofs.Written.{lines_then, map_of, more_words, no_words, pointer, slice, struct_then}
use Rattle.gob_source_back.proofs.Written.{another, encoding, methods_then, qualified, structs_then, type_then, word}
use Rattle.gob_source_back.proofs.LibraryLaws.{Package, of_library, shape_of_library}
use Rattle.gob_source_back.proofs.TextLaws.{StructsHaveWords, no_words_of, words_of}
use Rattle.gob_source_back.proofs.TypeLaws.{AreStructsOf, BodyOf, IsStructOf, LinesOf, PartsOf, TypeOf, array_parts}
use Rattle.gob_source_back.proofs.TypeLaws.{fields_of_body, line_of, map_parts, no_line_of, no_struct_of, of_any}
use Rattle.gob_source_back.proofs.TypeLaws.{of_basic, of_byte, of_its_parts, of_name, of_pointed, parts_of_body}
use Rattle.gob_source_back.proofs.TypeLaws.{another_of_body, kind_marshal, of_package, same_id, slice_parts}
use Rattle.gob_source_back.proofs.TypeLaws.{string_of_body, struct_of}
use Rattle.gob_source_back.proofs.WordLaws.{word_text}

-- ---- types of fields

-- the text is that of a type that is written so
record IsText (T : Table) (ts : List TypeId) (u : TypeId) (text : List ℕ) : Type 0 where
  type : Written
  of : TypeOf T ts u type
  words : HasWords type
  is : (rest : List ℕ) → text ++ rest ≡ type_then type rest

abbrev Parts : Type 0
Parts = Option (Kind → List ℕ)

basic_is_text : (T : Table) (ts : List TypeId) (f : Parts) (n : ℕ) → 1 ≤ n → n ≤ 8
    → IsText T ts (id n) (named_text T ts (id n) f (basic_text n))
basic_is_text T ts f zero some few = absurd (omega arith)
basic_is_text T ts f (suc zero) some few = record {
  type = word (codes "bool");
  of = of_basic refl (omega arith) refl refl;
  words = word_text 98 (codes "ool") refl refl (λ n. refl);
  is = λ rest. refl;
}
basic_is_text T ts f (suc (suc zero)) some few = record {
  type = word (codes "int");
  of = of_basic refl (omega arith) refl refl;
  words = word_text 105 (codes "nt") refl refl (λ n. refl);
  is = λ rest. refl;
}
basic_is_text T ts f (suc (suc (suc zero))) some few = record {
  type = word (codes "uint");
  of = of_basic refl (omega arith) refl refl;
  words = word_text 117 (codes "int") refl refl (λ n. refl);
  is = λ rest. refl;
}
basic_is_text T ts f (suc (suc (suc (suc zero)))) some few = record {
  type = word (codes "float64");
  of = of_basic refl (omega arith) refl refl;
  words = word_text 102 (codes "loat64") refl refl (λ n. refl);
  is = λ rest. refl;
}
basic_is_text T ts f (suc (suc (suc (suc (suc zero))))) some few = record {
  type = slice (word (codes "byte"));
  of = of_byte refl refl;
  words = word_text 98 (codes "yte") refl refl (λ n. refl);
  is = λ rest. refl;
}
basic_is_text T ts f (suc (suc (suc (suc (suc (suc zero)))))) some few = record {
  type = word (codes "string");
  of = of_basic refl (omega arith) refl refl;
  words = word_text 115 (codes "tring") refl refl (λ n. refl);
  is = λ rest. refl;
}
basic_is_text T ts f (suc (suc (suc (suc (suc (suc (suc zero))))))) some few = record {
  type = word (codes "complex128");
  of = of_basic refl (omega arith) refl refl;
  words = word_text 99 (codes "omplex128") refl refl (λ n. refl);
  is = λ rest. refl;
}
basic_is_text T ts f (suc (suc (suc (suc (suc (suc (suc (suc zero)))))))) some few = record {
  type = interface;
  of = of_any refl;
  words = tt;
  is = λ rest. refl;
}
basic_is_text T ts f (suc (suc (suc (suc (suc (suc (suc (suc (suc n))))))))) some few = absurd (omega arith)

written_among : {T : Table} {ts us : List TypeId} (u : TypeId) → is_among u us ≡ true → EachIsWritten T ts us
    → IsWritten T ts u
written_among u e none_is_written = cc
written_among {T = T} {ts = ts} u e (one_is_written {t = v} {us = us} x more) =
    by (v.0 == u.0) refl e (λ f. written_among u f more)
  where
    by : (b : Bool) → (v.0 == u.0) ≡ b → (b || is_among u us) ≡ true
        → (is_among u us ≡ true → IsWritten T ts u) → IsWritten T ts u
    by true same e go = subst (λ (t : TypeId). IsWritten T ts t) (same_id v u same) x
    by false same e go = go e

-- a pointer to it may stand there
pointed : {T : Table} {ts : List TypeId} {u : TypeId} {text : List ℕ} (b : Bool) → IsText T ts u text
    → IsText T ts u ((if b then codes "*" else []) ++ text)
pointed true t = record {
  type = pointer t.type;
  of = of_pointed t.of;
  words = t.words;
  is = λ rest. ap (λ (l : List ℕ). 42 ∷ l) (t.is rest);
}
pointed false t = t

keyed : {T : Table} {ts : List TypeId} {u : TypeId} {text : List ℕ} (b : Bool) → IsText T ts u text
    → IsText T ts u ((if b then [] else codes "*") ++ text)
keyed true t = t
keyed false t = pointed true t

-- the name of its declaration
used_is_text : (T : Table) (ts : List TypeId) (u : TypeId) (x : IsWritten T ts u) → is_among u ts ≡ true
    → IsText T ts u (used_name T ts u x.shape)
used_is_text T ts u x among = by (shape_package x.shape) refl
  where
    own : List ℕ
    own = own_name T ts u x.shape.name

    by : (o : Option Package) → shape_package x.shape ≡ o → IsText T ts u (library_or_own o x.shape.name own)
    by None e = record {
      type = word own;
      of = of_name x among refl;
      words = own_word T ts u x.shape.name x.small;
      is = λ rest. refl;
    }
    by (Some q) e =
        let lib = shape_of_library x.shape q e in record {
          type = qualified (package_name q) x.shape.name;
          of = of_package x lib.of refl;
          words = (lib.package_word, lib.type_word);
          is = λ rest. append_assoc (package_name q) (46 ∷ x.shape.name) rest;
        }

same_text : {T : Table} {ts : List TypeId} {u : TypeId} {a b : List ℕ} → a ≡ b → IsText T ts u b → IsText T ts u a
same_text {T = T} {ts = ts} {u = u} e t = subst (λ (l : List ℕ). IsText T ts u l) (sym e) t

-- a list or a map
abbrev is_list : Kind → Bool
is_list (kind.Struct fs) = false
is_list (kind.Opaque m) = false
is_list _ = true

list_kind : {ts : List TypeId} (name : List ℕ) (k : Kind) → IsWrittenKind ts k → has_parts_kind name k ≡ true
    → is_list k ≡ true
list_kind name k (a_struct f) e = cc
list_kind name k (a_slice p) e = refl
list_kind name k (an_array p small) e = refl
list_kind name k (a_map p q) e = refl
list_kind name k an_opaque e = cc

-- the text is that of a list or a map of this kind
record ArePartsText (T : Table) (ts : List TypeId) (k : Kind) (text : List ℕ) : Type 0 where
  type : Written
  of : PartsOf T ts k type
  words : HasWords type
  is : (rest : List ℕ) → text ++ rest ≡ type_then type rest

array_then : (number star type rest : List ℕ)
    → (codes "[" ++ (number ++ (codes "]" ++ (star ++ type)))) ++ rest
    ≡ 91 ∷ (number ++ (93 ∷ ((star ++ type) ++ rest)))
array_then number star type rest = simp append_assoc

map_then : (key type elem rest : List ℕ)
    → (codes "map[" ++ (key ++ (type ++ (codes "]" ++ elem)))) ++ rest
    ≡ codes "map[" ++ ((key ++ type) ++ (93 ∷ (elem ++ rest)))
map_then key type elem rest = simp append_assoc

parts_are_text : (T : Table) (ts : List TypeId) (of : TypeId) (type : TypeId → List ℕ)
    → ((u : TypeId) → IsPart ts u → IsText T ts u (type u)) → (k : Kind) → IsWrittenKind ts k → is_list k ≡ true
    → ArePartsText T ts k (parts_text (pointer_text T ts of) (key_text T) type k)
parts_are_text T ts of type texts k (a_struct f) list = cc
parts_are_text T ts of type texts k an_opaque list = cc
parts_are_text T ts of type texts k (a_slice {e = e} p) list =
    let t = texts e p in record {
      type = slice t.type;
      of = slice_parts t.of;
      words = t.words;
      is = λ rest. ap (λ (l : List ℕ). 91 ∷ 93 ∷ l) (t.is rest);
    }
parts_are_text T ts of type texts k (an_array {e = e} {n = n} p small) list =
    let t = pointed (comes_by ts of e && is_holder (shape_of T e)) (texts e p) in record {
      type = array_of n t.type;
      of = array_parts small t.of;
      words = (omega arith, t.words);
      is = λ rest. array_then (decimal n) (pointer_text T ts of e) (type e) rest
          ∙ ap (λ (l : List ℕ). 91 ∷ (decimal n ++ (93 ∷ l))) (t.is rest);
    }
parts_are_text T ts of type texts k (a_map {k = key} {e = e} p q) list =
    let a = keyed (is_key T key) (texts key p) in
    let t = texts e q in record {
      type = map_of a.type t.type;
      of = map_parts a.of t.of;
      words = (a.words, t.words);
      is = λ rest. map_then (key_text T key) (type key) (type e) rest
          ∙ ap (λ (l : List ℕ). codes "map[" ++ ((key_text T key ++ type key) ++ (93 ∷ l))) (t.is rest)
          ∙ ap (λ (l : List ℕ). codes "map[" ++ l) (a.is (93 ∷ type_then t.type rest));
    }

of_parts_text : {T : Table} {ts : List TypeId} {u : TypeId} {text : List ℕ} (x : IsWritten T ts u)
    → has_parts x.shape ≡ true → ArePartsText T ts x.shape.kind text → IsText T ts u text
of_parts_text x list t = record { type = t.type; of = of_its_parts x list refl t.of; words = t.words; is = t.is }

written_is_text : (T : Table) (ts : List TypeId) (u : TypeId) (x : IsWritten T ts u) (f : Parts) → is_among u ts ≡ true
    → IsText T ts u (shape_text T ts u f (Some x.shape)) → IsText T ts u (named_text T ts u f (basic_text u.0))
written_is_text T ts u x f among t =
    same_text (ap (λ (o : Option (List ℕ)). named_text T ts u f o) (no_basic u.0 x.own)
    ∙ ap (λ (o : Option Shape). shape_text T ts u f o) x.has) t

among_text : (b : Bool) (a : List ℕ) → b ≡ true → (if b then a else codes "struct{}") ≡ a
among_text true a e = refl
among_text false a e = cc

type_is_text : (level : ℕ) (T : Table) (ts : List TypeId) (of u : TypeId) → EachIsWritten T ts ts → IsPart ts u
    → IsText T ts u (type_text level T ts of u)
type_is_text zero T ts of u all (a_basic_part small) = basic_is_text T ts None u.0 small.0 small.1
type_is_text (suc level) T ts of u all (a_basic_part small) =
    basic_is_text T ts (Some (parts_text (pointer_text T ts of) (key_text T) (type_text level T ts of))) u.0 small.0
    small.1
type_is_text zero T ts of u all (a_written_part among) =
    let x = written_among u among all in
    written_is_text T ts u x None among
    (same_text (among_text (is_among u ts) (used_name T ts u x.shape) among) (used_is_text T ts u x among))
type_is_text (suc level) T ts of u all (a_written_part among) =
    written_is_text T ts u x f among
    (same_text (among_text (is_among u ts) (if has_parts x.shape then here else used_name T ts u x.shape) among)
    (by (has_parts x.shape) refl (λ v p. type_is_text level T ts of v all p)))
  where
    x : IsWritten T ts u
    x = written_among u among all

    f : Parts
    f = Some (parts_text (pointer_text T ts of) (key_text T) (type_text level T ts of))

    here : List ℕ
    here = parts_text (pointer_text T ts of) (key_text T) (type_text level T ts of) x.shape.kind

    by : (b : Bool) → has_parts x.shape ≡ b → ((v : TypeId) → IsPart ts v → IsText T ts v (type_text level T ts of v))
        → IsText T ts u (if b then here else used_name T ts u x.shape)
    by true e go = of_parts_text x e
        (parts_are_text T ts of (type_text level T ts of) go x.shape.kind x.kinds
        (list_kind x.shape.name x.shape.kind x.kinds e))
    by false e go = used_is_text T ts u x among

-- ---- lines

shifted : (k : ℕ) (rest : List ℕ) → replicate k 32 ++ (32 ∷ rest) ≡ 32 ∷ (replicate k 32 ++ rest)
shifted zero rest = refl
shifted (suc k) rest = ap (λ (l : List ℕ). 32 ∷ l) (shifted k rest)

line_text : (name pad star type more rest : List ℕ)
    → ((9 ∷ (name ++ (pad ++ (32 ∷ (star ++ (type ++ (10 ∷ []))))))) ++ more) ++ rest
    ≡ 9 ∷ (name ++ (pad ++ (32 ∷ ((star ++ type) ++ (10 ∷ (more ++ rest))))))
line_text name pad star type more rest = simp append_assoc

record AreFieldsText (T : Table) (ts : List TypeId) (of : TypeId) (w : ℕ) (seen fs : List Field) : Type 0 where
  lines : List Line
  are : LinesOf T ts fs lines
  words : LinesHaveWords lines
  text : (rest : List ℕ) → declared_text T ts of w seen fs ++ rest ≡ lines_then lines rest
  no_comments : comments_text T ts of seen fs ≡ []

fields_text_is : {T : Table} {ts : List TypeId} {seen fs : List Field} (of : TypeId) (w : ℕ) → EachIsWritten T ts ts
    → AreFields ts seen fs → AreFieldsText T ts of w seen fs
fields_text_is of w structs no_fields = record {
  lines = [];
  are = no_line_of;
  words = no_words;
  text = λ rest. refl;
  no_comments = refl;
}
fields_text_is {T = T} {ts = ts} of w structs (one_field {seen = seen} {fs = fs} {f = f} declared shown type more) =
    let others = fields_text_is of w structs more in
    let base = type_is_text 3 T ts of f.id structs type in
    let t = pointed (comes_by ts of f.id && is_holder (shape_of T f.id)) base in
    let pad = w - name_width f.name in
    record {
      lines = record { name = f.name; pad = pad; type = t.type } ∷ others.lines;
      are = line_of refl shown t.of others.are;
      words = more_words (declared_word seen f declared) t.words others.words;
      text = λ rest.
          ap (λ (b : Bool). ((if b then field_line T ts of w f else []) ++ declared_text T ts of w (seen ++ f ∷ []) fs)
          ++ rest) declared
          ∙ line_text f.name (replicate pad 32) (pointer_text T ts of f.id) (type_text 3 T ts of f.id)
          (declared_text T ts of w (seen ++ f ∷ []) fs) rest
          ∙ ap (λ (l : List ℕ). 9 ∷ (f.name ++ (replicate pad 32 ++ (32 ∷ ((pointer_text T ts of f.id
          ++ type_text 3 T ts of f.id) ++ (10 ∷ l)))))) (others.text rest)
          ∙ ap (λ (l : List ℕ). 9 ∷ (f.name ++ (replicate pad 32 ++ (32 ∷ l))))
          (t.is (10 ∷ lines_then others.lines rest))
          ∙ ap (λ (l : List ℕ). 9 ∷ (f.name ++ l)) (shifted pad (type_then t.type (10 ∷ lines_then others.lines rest)));
      no_comments =
          ap (λ (b : Bool). (if b then [] else comment_line T ts of f)
          ++ comments_text T ts of (seen ++ f ∷ []) fs) declared ∙ others.no_comments;
    }

-- ---- declarations

struct_text : (lines rest : List ℕ)
    → ((codes "struct {\n" ++ ((lines ++ []) ++ codes "}")) ++ codes "\n") ++ rest
    ≡ codes "struct {\n" ++ (lines ++ (codes "}\n" ++ rest))
struct_text lines rest = simp (append_assoc, append-nil)

line_end_text : (text rest : List ℕ) → (text ++ codes "\n") ++ rest ≡ text ++ (10 ∷ rest)
line_end_text text rest = append_assoc text (codes "\n") rest

another_text : (owner name rest : List ℕ)
    → ((codes "= " ++ (owner ++ (codes "." ++ name))) ++ codes "\n") ++ rest
    ≡ codes "= " ++ (owner ++ (46 ∷ (name ++ (10 ∷ rest))))
another_text owner name rest = simp append_assoc

declaration_text_is : (number encoded names name kind methods rest : List ℕ)
    → ((codes "\n// type " ++ (number ++ (encoded ++ (names ++ (codes "\ntype " ++ (name ++ (codes " " ++ (kind
    ++ codes "\n")))))))) ++ methods) ++ rest
    ≡ codes "\n// type " ++ (number ++ (encoded ++ (names ++ (codes "\ntype " ++ (name ++ (32 ∷ ((kind ++ codes "\n")
    ++ (methods ++ rest))))))))
declaration_text_is number encoded names name kind methods rest = simp append_assoc

-- the text is that of what a declared type of this kind is
record IsBodyText (T : Table) (ts : List TypeId) (k : Kind) (text : List ℕ) : Type 0 where
  body : Body
  of : BodyOf T ts k body
  words : BodyHasWords body
  is : (rest : List ℕ) → (text ++ codes "\n") ++ rest ≡ body_then body rest

-- what a kind is written as, whatever its name
parts_body_is : (T : Table) (ts : List TypeId) (t : TypeId) → EachIsWritten T ts ts → (k : Kind) → IsWrittenKind ts k
    → is_list k ≡ true
    → IsBodyText T ts k (parts_text (pointer_text T ts t) (key_text T) (type_text 2 T ts t) k)
parts_body_is T ts t all k kinds list =
    let p = parts_are_text T ts t (type_text 2 T ts t) (λ v q. type_is_text 2 T ts t v all q) k kinds list in record {
      body = Rattle.gob_source_back.proofs.Written.parts p.type;
      of = parts_of_body p.of;
      words = p.words;
      is = λ rest. line_end_text (parts_text (pointer_text T ts t) (key_text T) (type_text 2 T ts t) k) rest
          ∙ p.is (10 ∷ rest);
    }

-- that of a type that encodes itself is another name or a string
opaque_is_text : (T : Table) (ts : List TypeId) (m : Marshal) (o : Option Package) (name : List ℕ)
    → package_of name m ≡ o → IsBodyText T ts (kind.Opaque m) (opaque_text o name)
opaque_is_text T ts m (Some q) name e =
    let lib = of_library name m q e in record {
      body = another (qualified (package_name q) name);
      of = another_of_body;
      words = (lib.package_word, lib.type_word);
      is = λ rest. another_text (package_name q) name rest;
    }
opaque_is_text T ts m None name e = record {
  body = Rattle.gob_source_back.proofs.Written.parts (word (codes "string"));
  of = string_of_body;
  words = word_text 115 (codes "tring") refl refl (λ n. refl);
  is = λ rest. refl;
}

body_is_text : (T : Table) (ts : List TypeId) (t : TypeId) (name : List ℕ) → EachIsWritten T ts ts → (k : Kind)
    → IsWrittenKind ts k → IsBodyText T ts k (kind_text T ts t name k)
body_is_text T ts t name all k (a_struct {fs = fs} are) =
    let f = fields_text_is t (width [] fs) all are in
    let declared = declared_text T ts t (width [] fs) [] fs in record {
      body = fields f.lines;
      of = fields_of_body f.are;
      words = f.words;
      is = λ rest.
          ap (λ (c : List ℕ). ((codes "struct {\n" ++ ((declared ++ c) ++ codes "}")) ++ codes "\n") ++ rest)
          f.no_comments
          ∙ struct_text declared rest ∙ ap (λ (l : List ℕ). codes "struct {\n" ++ l) (f.text (codes "}\n" ++ rest));
    }
body_is_text T ts t name all k (an_opaque {m = m}) = opaque_is_text T ts m (package_of name m) name refl
body_is_text T ts t name all k (a_slice {e = e} p) = parts_body_is T ts t all (kind.Slice e) (a_slice p) refl
body_is_text T ts t name all k (an_array {e = e} {n = n} p small) =
    parts_body_is T ts t all (kind.Array e n) (an_array p small) refl
body_is_text T ts t name all k (a_map {k = key} {e = e} p q) =
    parts_body_is T ts t all (kind.Map key e) (a_map p q) refl

record IsStructText (T : Table) (ts : List TypeId) (ps : List Naming) (u : TypeId) : Type 0 where
  struct : Struct
  of : IsStructOf T ts u struct
  small : struct.id < 2 ^ 64
  named : IsWordText struct.name
  words : BodyHasWords struct.body
  quiet : AreQuiet struct.notes
  text : (rest : List ℕ) → definition_text T ts ps u (shape_of T u) ++ rest ≡ struct_then struct rest

-- by what a type encodes itself whose declaration has methods
abbrev own_methods : Option Package → Marshal → Option Marshal
own_methods None m = Some m
own_methods (Some q) m = None

abbrev kind_methods : List ℕ → Kind → Option Marshal
kind_methods name (kind.Opaque m) = own_methods (package_of name m) m
kind_methods name _ = None

encoding_is : (k : Kind) → encoded_text k ≡ encoding (kind_marshal k)
encoding_is (kind.Opaque m) = refl
encoding_is (kind.Basic b) = refl
encoding_is (kind.Struct fs) = refl
encoding_is (kind.Slice e) = refl
encoding_is (kind.Array e n) = refl
encoding_is (kind.Map k e) = refl

methods_are : (name own : List ℕ) (k : Kind) (rest : List ℕ)
    → methods_text name own k ++ rest ≡ methods_then (kind_methods name k) own rest
methods_are name own (kind.Opaque m) rest = by (package_of name m)
  where
    by : (o : Option Package) → opaque_methods o m own ++ rest ≡ methods_then (own_methods o m) own rest
    by None = append_assoc (encoder_text m own) (decoder_text m own) rest
    by (Some q) = refl
methods_are name own (kind.Basic b) rest = refl
methods_are name own (kind.Struct fs) rest = refl
methods_are name own (kind.Slice e) rest = refl
methods_are name own (kind.Array e n) rest = refl
methods_are name own (kind.Map k e) rest = refl

struct_text_is : {T : Table} {ts : List TypeId} (ps : List Naming) (u : TypeId) → EachIsWritten T ts ts
    → is_among u ts ≡ true → IsWritten T ts u → IsStructText T ts ps u
struct_text_is {T = T} {ts = ts} ps u all among x =
    let own = own_name T ts u x.shape.name in
    let b = body_is_text T ts u x.shape.name all x.shape.kind x.kinds in
    let kind = kind_text T ts u x.shape.name x.shape.kind in
    let methods = methods_text x.shape.name own x.shape.kind in
    let marshal = kind_marshal x.shape.kind in
    let names = names_of u ps in
    let behind = λ (rest : List ℕ). methods_then (kind_methods x.shape.name x.shape.kind) own rest in
    record {
      struct = record {
        id = u.0;
        marshal = marshal;
        notes = map named_line names;
        name = own;
        body = b.body;
        methods = kind_methods x.shape.name x.shape.kind;
      };
      of = record { is = x; among = among; named = refl; marshal = refl; body = b.of };
      small = x.small;
      named = own_word T ts u x.shape.name x.small;
      words = b.words;
      quiet = names_quiet names;
      text = λ rest.
          ap (λ (o : Option Shape). definition_text T ts ps u o ++ rest) x.has
          ∙ declaration_text_is (decimal u.0) (encoded_text x.shape.kind) (names_text names) own kind methods rest
          ∙ ap (λ (e : List ℕ). codes "\n// type " ++ (decimal u.0 ++ (e ++ (names_text names ++ (codes "\ntype "
          ++ (own ++ (32 ∷ ((kind ++ codes "\n") ++ (methods ++ rest))))))))) (encoding_is x.shape.kind)
          ∙ ap (λ (m : List ℕ). codes "\n// type " ++ (decimal u.0 ++ (encoding marshal ++ (names_text names
          ++ (codes "\ntype " ++ (own ++ (32 ∷ ((kind ++ codes "\n") ++ m))))))))
          (methods_are x.shape.name own x.shape.kind rest)
          ∙ ap (λ (l : List ℕ). codes "\n// type " ++ (decimal u.0 ++ (encoding marshal ++ (names_text names
          ++ (codes "\ntype " ++ (own ++ (32 ∷ l))))))) (b.is (behind rest))
          ∙ ap (λ (l : List ℕ). codes "\n// type " ++ (decimal u.0 ++ (encoding marshal ++ l)))
          (names_are names (codes "\ntype " ++ (own ++ (32 ∷ body_then b.body (behind rest)))));
    }

record AreStructsText (T : Table) (ts : List TypeId) (ps : List Naming) (us : List TypeId) : Type 0 where
  structs : List Struct
  of : AreStructsOf T ts us structs
  words : StructsHaveWords structs
  text : (rest : List ℕ) → definitions_text T ts ps us ++ rest ≡ structs_then structs rest

later : (a b : Bool) → b ≡ true → (a || b) ≡ true
later true b e = refl
later false b e = e

first : (u : TypeId) (us : List TypeId) → is_among u (u ∷ us) ≡ true
first u us = ap (λ (b : Bool). b || is_among u us) (eq-eqb u.0 u.0 refl)

structs_text_are : {T : Table} {ts us : List TypeId} (ps : List Naming) → EachIsWritten T ts ts
    → ((u : TypeId) → is_among u us ≡ true → is_among u ts ≡ true) → EachIsWritten T ts us
    → AreStructsText T ts ps us
structs_text_are ps all within none_is_written = record {
  structs = [];
  of = no_struct_of;
  words = no_words_of;
  text = λ rest. refl;
}
structs_text_are {T = T} {ts = ts} ps all within (one_is_written {t = u} {us = us} x more) =
    let others = structs_text_are ps all (λ v e. within v (later (u.0 == v.0) (is_among v us) e)) more in
    let one = struct_text_is ps u all (within u (first u us)) x in
    record {
      structs = one.struct ∷ others.structs;
      of = struct_of one.of others.of;
      words = words_of one.small one.named one.words one.quiet others.words;
      text = λ rest.
          append_assoc (definition_text T ts ps u (shape_of T u)) (definitions_text T ts ps us) rest
          ∙ one.text (definitions_text T ts ps us ++ rest) ∙ ap (struct_then one.struct) (others.text rest);
    }

-- the source of types is the text of types as they are written
pub record SourceIs (T : Table) (ts : List TypeId) (ps : List Naming) : Type 0 where
  pub structs : List Struct
  pub of : AreStructsOf T ts ts structs
  pub words : StructsHaveWords structs
  pub text : named_source T ts ps
      ≡ codes "package types\n" ++ (imports_text T ts ++ structs_then structs (remarks_text (remarks ps)))

pub source_is : {T : Table} {ts : List TypeId} (ps : List Naming) → EachIsWritten T ts ts → SourceIs T ts ps
source_is {T = T} {ts = ts} ps written =
    let all = structs_text_are ps written (λ u e. e) written in
    record {
      structs = all.structs;
      of = all.of;
      words = all.words;
      text =
          ap (λ (l : List ℕ). codes "package types\n" ++ (imports_text T ts ++ (definitions_text T ts ps ts ++ l)))
          (remarks_are ps)
          ∙ ap (λ (l : List ℕ). codes "package types\n" ++ (imports_text T ts ++ l))
          (all.text (remarks_text (remarks ps)));
    }

pub among_is : {T : Table} {ts : List TypeId} (u : TypeId) → EachIsWritten T ts ts → is_among u ts ≡ true
    → IsWritten T ts u
among_is u all among = written_among u among all
